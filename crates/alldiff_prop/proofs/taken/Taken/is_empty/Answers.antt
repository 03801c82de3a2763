use Rattle.std.proofs.Common.{List, length, ◌≡◌, ◌∙◌, sym, ap}
use Rattle.std.specs.Prelude.{ℤ}
use Rattle.std.proofs.lemmas.Bool.{eqb-true}
use Rattle.alldiff_prop.proofs.taken.Taken.is_empty.Goals as goal

pub returns : goal.returns
returns c = λ yes.
    let all : c.as_slice.result.now ≡ c.args.self.now = c.as_slice.ensures ∙ c.self.view_is in
    ap (λ (l : List ℤ). length l) (sym all) ∙ eqb-true (length c.as_slice.result.now) 0 (sym c.is_empty.ensures ∙ yes)
