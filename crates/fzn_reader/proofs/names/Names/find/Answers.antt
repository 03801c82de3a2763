use Rattle.std.proofs.Common.{◌∙◌, ap}
use Rattle.fzn_reader.specs.Names.{find_name}
use Rattle.fzn_reader.proofs.NamesSeen.{seen_find}
use Rattle.fzn_reader.proofs.names.Names.find.Goals as goal

pub returns : goal.returns
returns c = c.get.ensures.value ∙ seen_find c.self.inside.entries.entries c.args.name.now ∙ ap (λ es. find_name es c.args.name.now) c.self.view_is
