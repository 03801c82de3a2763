-- What the walk over the annotations of a model has found.
use Rattle.std.proofs.Common.{◌≡◌, ℕ, ◌<◌, suc, ◌+◌, ◌++◌, ◌∷◌, refl, List, [], take, drop, length, slice_index_or, sym, subst, ◌∙◌, ℤ}
use Rattle.std.proofs.Math.Seq.{split_at}
use Rattle.std.proofs.lemmas.List.Elements.{All-nil, All-more}
use Rattle.fzn_model.specs.declared.pick.Pick.{Pick}
use Rattle.brancher.specs.declared.cut.Cut.{Cut}
use Rattle.brancher.specs.Branching.{AreFixed, NonePicked, IsFirstBest, IsCutOf, IsPicked, rule_for}

pub none_yet : (box : List (List ℤ)) → NonePicked box []
unfolding NonePicked
none_yet box = All-nil (λ p. AreFixed box p.vars)

pub none_here : (box : List (List ℤ)) (picks : List Pick) (i : ℕ) (p : Pick) → i < length picks → slice_index_or picks i p ≡ p → NonePicked box (take i picks) → AreFixed box p.vars → NonePicked box (take (i + 1) picks)
unfolding NonePicked
none_here box picks i p inside here before fixed = All-more (λ q. AreFixed box q.vars) picks i p inside before (subst (λ q. AreFixed box q.vars) (sym here) fixed)

pub picked_at : (box : List (List ℤ)) (picks : List Pick) (i k : ℕ) (p : Pick) (cut : Cut) → i < length picks → slice_index_or picks i p ≡ p → NonePicked box (take i picks) → IsFirstBest box p.by p.vars k → IsCutOf box k (rule_for box k p.at) cut → IsPicked box picks cut
picked_at box picks i k p cut inside here before best cuts = record {
  before = take i picks;
  pick = p;
  after = drop (suc i) picks;
  «is» = split_at picks i p inside ∙ subst (λ q. take i picks ++ slice_index_or picks i p ∷ drop (suc i) picks ≡ take i picks ++ q ∷ drop (suc i) picks) here refl;
  earlier = before;
  best = subst (IsFirstBest box p.by p.vars) (sym cuts.variable) best;
  cuts = subst (λ j. IsCutOf box j (rule_for box j p.at) cut) (sym cuts.variable) cuts;
}
