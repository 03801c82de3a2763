use Rattle.run_log.proofs.ReadParts.{rest_is}
use Rattle.run_log.proofs.read_entry.rest.Goals as goal

pub returns : goal.returns
returns c = rest_is c.args.numbers.now c.in_ok-from_slice.field-0 c.new.result c.requires c.in-len1-up.len_at_least c.in_ok-from_slice.ensures c.new.ensures
