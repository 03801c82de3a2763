use Rattle.std.proofs.Common.{ap, ◌∙◌, ◌++◌, ◌∷◌, [], List, ℕ}
use Rattle.fzn_reader.specs.declared.decl.Decl.{Decl}
use Rattle.fzn_reader.specs.Names.{find_name}
use Rattle.fzn_reader.proofs.NamesSeen.{seen_insert}
use Rattle.fzn_reader.proofs.names.Names.insert.Goals as goal

pub returns-clause-ok : goal.returns-clause-ok
returns-clause-ok c =
    seen_insert c.self.inside.entries c.args.name c.args.decl c.insert.new.self.entries (ap (λ es. find_name es c.args.name.now) c.self.view_is ∙ c.requires) c.in_ok-insert.ensures.entries
    ∙ ap (λ (es : List (List ℕ × Decl)). es ++ (c.args.name.now, c.args.decl) ∷ []) c.self.view_is
