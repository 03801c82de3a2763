-- The first task.
use Rattle.std.proofs.lemmas.Bool.{eq-eqb}
use Rattle.std.proofs.lemmas.List.Sums.{sum_by-cons}
use Rattle.std.proofs.Common.{◌≡◌, ℕ, Bool, true, cond, ◌≤◌, ◌<◌, List, [], ◌∷◌, ◌++◌, length, get_or, refl, ap, subst, ◌∙◌, arith, ℤ, pos}
use Rattle.std.specs.Prelude.{All, ◌≢◌, neg_ℤ}
use Rattle.std.proofs.lemmas.Int.{ints}
use Rattle.std.proofs.lemmas.List.Elements.{All-nil, All-cons, All-head, All-tail}
use Rattle.int_domain.specs.Values.{values_of}
use Rattle.fzn_model.specs.declared.term.Term.{Term}
use Rattle.fzn_model.specs.declared.term.Term.TheVariants as term
use Rattle.fzn_model.specs.declared.goal.Goal.{Goal}
use Rattle.fzn_model.specs.declared.goal.Goal.TheVariants as goal
use Rattle.fzn_model.specs.Parts.{Parts}
use Rattle.fzn_model.specs.Sets.{IsIn, IsWithin}
use Rattle.fzn_model.specs.Limits.{IsModel, IsValue, GoalInLimits, TermIn, DomainInLimits}
use Rattle.fzn_model.specs.Boxes.{IsBox, IsDomain}
use Rattle.fzn_model.specs.Solutions.{Solves, InDomains, IsTop, AllowsCost, CanBe}
use Rattle.dom_store.specs.Stores.{HasEmpty}
use Rattle.dom_store.specs.Views.{box_of}
use Rattle.incumbent_board.specs.Passes.{IsBound}
use Rattle.explorer.specs.Benches.{IsBench}
use Rattle.explorer.specs.declared.bench.Bench.{Bench}
use Rattle.search_core.specs.declared.decision.Decision.{Decision}
use Rattle.search_core.specs.declared.moves.Move.TheVariants as move
use Rattle.search_core.specs.Tasks.{Task, as_held}
use Rattle.search_core.specs.Locals.{LocalParts, LocalSteps, IsBarred}
use Rattle.explorer.specs.Holding.{times_held, same_path, is_hold}

held_itself : (w : ℕ) → is_hold w [] (as_held w []) ≡ true
unfolding same_path
held_itself w = rw (eq-eqb w w refl) refl

pub claimed : (l k : LocalParts) (p : List Decision) → l.tasks ≡ [] → p ≡ [] → LocalSteps (move.Claim p) l k → 1 ≤ times_held [] k
unfolding LocalSteps times_held same_path
claimed l k p none e h =
    let one = sum_by-cons (λ (t : Task). cond (is_hold l.worker [] t) 1 0) (as_held l.worker []) [] in
    rw (h, none, e) (omega (arith, one, ap {B = ℕ} (λ (b : Bool). cond b 1 0) (held_itself l.worker)))

pub claim_expands : (l k : LocalParts) (p : List Decision) → LocalSteps (move.Claim p) l k → k.expands ≡ l.expands
unfolding LocalSteps
claim_expands l k p h = ap (λ (v : LocalParts). v.expands) h

pub claim_allowed : (l : LocalParts) (p : List Decision) → IsBarred (move.Claim p) l → ⊥
unfolding LocalSteps IsBarred
claim_allowed l p h = h (record l { tasks = l.tasks ++ as_held l.worker p ∷ [] }) refl

-- ---- the top
no_values : (runs : List (ℤ × ℤ)) → values_of runs ≢ [] → 0 < length runs
unfolding values_of
no_values [] n = absurd (n refl)
no_values (r ∷ rs) n = omega arith

pub all_positive : (m : Parts) (t : Bench) → IsBench m t → All (λ (d : List (ℤ × ℤ)). 0 < length d) m.doms
all_positive m t b = positive m.doms b.full
  where
    positive : (ds : List (List (ℤ × ℤ))) → IsBox (box_of ds) → All (λ (d : List (ℤ × ℤ)). 0 < length d) ds
    positive [] h = All-nil (λ (d : List (ℤ × ℤ)). 0 < length d)
    positive (d ∷ ds) h = All-cons (λ (d : List (ℤ × ℤ)). 0 < length d) d ds (no_values d (All-head IsDomain (values_of d) (box_of ds) h).some) (positive ds (All-tail IsDomain (values_of d) (box_of ds) h))

in_values : (set : List (ℤ × ℤ)) (z : ℤ) → All (λ (run : ℤ × ℤ). IsValue run.0 × IsValue run.1) set → IsIn set z → IsValue z
unfolding IsIn IsWithin
in_values set z all h =
    let (k, run, inside, is, within) = h in
    let ends = subst (λ (r : ℤ × ℤ). IsValue r.0 × IsValue r.1) is (all k run inside) in
    omega (arith, ints, within.0, within.1, ends.0, ends.1)

can_value : (ds : List (List (ℤ × ℤ))) (t : Term) (z : ℤ) → TermIn (length ds) t → All DomainInLimits ds → CanBe ds t z → IsValue z
can_value ds (term.Const c) z h all e = rw e h
can_value ds (term.Var k) z h all e = in_values (get_or ds k []) z (all k [] h).values e

allows_value : (ds : List (List (ℤ × ℤ))) (g : Goal) (z : ℤ) → GoalInLimits (length ds) g → All DomainInLimits ds → AllowsCost ds g z → IsValue z
allows_value ds goal.Satisfy z h all e = omega (arith, ints, e)
allows_value ds (goal.Minimise t) z h all e = can_value ds t z h all e
allows_value ds (goal.Maximise t) z h all e = omega (arith, ints, can_value ds t (neg_ℤ z) h all e)

pub top_bound : (m : Parts) (top : ℤ) → IsModel m → IsTop m.doms m.goal top → IsBound top
top_bound m top model is =
    let (c, allowed, e) = is.reached in
    let v : IsValue c = allows_value m.doms m.goal c model.goal model.domains allowed in
    (omega (arith, ints, v, e), omega (arith, ints, v, e))

-- ---- a model with an empty domain
pub none_solves : (m : Parts) → HasEmpty m.doms → (θ : List ℤ) → Solves m θ → ⊥
unfolding InDomains IsIn
none_solves m (k, d, inside, is, empty) θ s =
    let (j, run, few, same, rest) = subst (λ (set : List (ℤ × ℤ)). IsIn set (get_or θ k (pos 0))) (is ∙ empty) (s.domains.1 k d inside) in
    absurd (omega (arith, few))
