use Rattle.std.proofs.Common.{sym, ◌∙◌}
use Rattle.std.proofs.lemmas.Bool.{false≢true}
use Rattle.alldiff_prop.proofs.Freeing.{taken_idle, taken_drops}
use Rattle.alldiff_prop.proofs.untaken.drop_where_taken.Goals as goal

pub returns-then-not-has : goal.returns-then-not-has
returns-then-not-has c = taken_idle _ _ _ _ _ c.requires.ready (λ taken. false≢true (sym c.if-not-has.true ∙ c.has.ensures.1 taken))

pub returns : goal.returns
returns c = taken_drops _ _ _ _ _ _ _ c.requires.member (c.has.ensures.0 c.if-not-has.false) c.drop_value.ensures.narrows
