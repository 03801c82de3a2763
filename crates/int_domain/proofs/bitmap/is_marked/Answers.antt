use Rattle.std.proofs.Common.{◌∙◌, sym, arith}
use Rattle.std.proofs.lemmas.Int.{ints}
use Rattle.int_domain.proofs.Marks.{marks_is}
use Rattle.int_domain.proofs.bitmap.is_marked.Goals as goal

pub returns : goal.returns
returns c = c.is_one.ensures ∙ sym (marks_is c.args.bitmap.now c.args.value c.place_of.result (omega (arith, ints)))
