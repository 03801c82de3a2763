-- The rest of a box has the solutions of the box that cost less than the bound, at costs that differ by the offset.
use Rattle.std.proofs.Common.{◌≡◌, ℕ, suc, ◌<◌, Bool, true, false, List, [], ◌∷◌, length, map, get_or, refl, ap, sym, subst, ◌∙◌, arith, ℤ, pos, negsuc, neg_ℤ, ◌+ℤ◌, inl, inr, zero-add}
use Rattle.std.specs.Prelude.{◌↔◌, All, Contains, if◌then◌else◌}
use Rattle.std.specs.List.{range_with_len}
use Rattle.std.proofs.lemmas.Int.{ints}
use Rattle.std.proofs.lemmas.List.{length-map, get_or-map, get_or_default, ext_get_or}
use Rattle.std.proofs.lemmas.List.FromFn.{length-map-range_with_len, get_or-map-range_with_len}
use Rattle.std.proofs.lemmas.List.Elements.{All-head, All-tail, All-cons, All-nil}
use Rattle.fzn_model.specs.declared.term.Term.{Term}
use Rattle.fzn_model.specs.declared.term.Term.TheVariants as term
use Rattle.fzn_model.specs.declared.con.Con.{Con}
use Rattle.fzn_model.specs.declared.goal.Goal.{Goal}
use Rattle.fzn_model.specs.declared.goal.Goal.TheVariants as goal
use Rattle.fzn_model.specs.Sets.{IsIn}
use Rattle.fzn_model.specs.Parts.{Parts}
use Rattle.fzn_model.specs.Meaning.{val, Holds}
use Rattle.fzn_model.specs.Limits.{TermIn, GoalInLimits, IsModel}
use Rattle.fzn_model.specs.Boxes.{IsBox, InBox, domain_at, low_value}
use Rattle.fzn_model.specs.Bounds.{term_low, is_open}
use Rattle.fzn_model.proofs.Domains.{low_in}
use Rattle.fzn_model.proofs.Grouping.{runs_have}
use Rattle.fzn_model.specs.Grouping.{runs_of}
use Rattle.fzn_model.specs.Solutions.{InDomains, MeetsAll, Solves, cost, goal_cost}
use Rattle.fzn_model.specs.Rests.{RestParts, SolvesRest, cost_sum, rest_cost, IsRestOf, LiesWithin}
use Rattle.rest_basic.specs.Forms.{substituted}
use Rattle.rest_basic.specs.Equivalence.{FormHolds}
use Rattle.rest_basic.specs.declared.reduced.Reduced.{Reduced}
use Rattle.rest_basic.specs.declared.reduced.Reduced.TheVariants as reduced
use Rattle.rest_basic.proofs.TermsInBox.{shut_value}
use Rattle.rest_basic.proofs.PlainLaw.{plain_law}
use Rattle.rest_global.specs.Renamed.{con_by}
use Rattle.rest_global.specs.Projection.{opens, place, numbered, rest_term, rest_variables, rest_values, IsForm, IsFirst, AreLeft, open_part, constant_part, cost_left, cost_offset, IsRestOfBox, KeepsSolutions}
use Rattle.rest_global.specs.Making.{IsOver}
use Rattle.rest_global.proofs.Places.{opens_at, opens_from}
use Rattle.rest_forms.proofs.GlobalLaw.{global_law}
use Rattle.rest_global.proofs.ConstraintsLeft.{form_suits}
use Rattle.rest_global.proofs.RenamedLaw.{con_same}
use Rattle.rest_global.proofs.ModelOverBox.{model_over, model_goal}

-- ---- terms
-- the value of an open variable stands at its place
at_place : (box : List (List ℤ)) (θ : List ℤ) (k : ℕ) → k < length box → is_open box (term.Var k) ≡ true → get_or (rest_values box θ) (place box k) (pos 0) ≡ get_or θ k (pos 0)
unfolding rest_values rest_variables
at_place box θ k inside several =
    let at = opens_at box (length box) k 0 inside several in
    get_or-map (λ j. get_or θ j (pos 0)) (opens box (length box)) (place box k) 0 (pos 0) at.0 ∙ ap (λ j. get_or θ j (pos 0)) at.1

term_by : (box : List (List ℤ)) (θ : List ℤ) (t : Term) (o : Bool) → IsBox box → InBox box θ → TermIn (length box) t → is_open box t ≡ o → val (numbered box (if o then t else term.Const (term_low box t))) (rest_values box θ) ≡ val t θ
term_by box θ (term.Const z) true well_formed lies inside e = refl
term_by box θ (term.Var k) true well_formed lies inside e = at_place box θ k inside e
term_by box θ t false well_formed lies inside e = sym (shut_value box t θ well_formed lies inside e)

-- a term of the rest has the value of the term
term_same : (box : List (List ℤ)) (θ : List ℤ) → IsBox box → InBox box θ → (t : Term) → TermIn (length box) t → val (rest_term box t) (rest_values box θ) ≡ val t θ
unfolding rest_term substituted
term_same box θ well_formed lies t inside = term_by box θ t (is_open box t) well_formed lies inside refl

-- ---- constraints
form_is_equivalent : (box : List (List ℤ)) (θ : List ℤ) (c : Con) (form : Reduced) → IsBox box → InBox box θ → IsOver box c → IsForm box c form → FormHolds form θ ↔ Holds c θ
unfolding IsForm
form_is_equivalent box θ c form well_formed lies over (inl (plain, is)) = rw is (plain_law box c θ well_formed lies over.fits_box plain)
form_is_equivalent box θ c form well_formed lies over (inr is) = global_law box c form θ well_formed lies over.fits_box is

-- the forms all hold exactly where the constraints do
left_same : (box : List (List ℤ)) (θ : List ℤ) → IsBox box → InBox box θ → (n : ℕ) (cs ds : List Con) (labels : List ℕ) → All (IsOver box) cs → AreLeft box n cs ds labels → MeetsAll ds (rest_values box θ) ↔ MeetsAll cs θ
unfolding MeetsAll
left_same box θ well_formed lies n [] ds labels over left = rw left.0 (λ _. All-nil (λ (x : Con). Holds x θ), λ _. All-nil (λ (x : Con). Holds x (rest_values box θ)))
left_same box θ well_formed lies n (c ∷ cs) ds labels over (form, others, other_labels, is, first, left) =
    by_form form is (form_is_equivalent box θ c form well_formed lies here is) first (left_same box θ well_formed lies (suc n) cs others other_labels (All-tail (IsOver box) c cs over) left)
  where
    here : IsOver box c
    here = All-head (IsOver box) c cs over

    by_form : (f : Reduced) → IsForm box c f → FormHolds f θ ↔ Holds c θ → IsFirst box f n ds labels others other_labels
        → All (λ (x : Con). Holds x (rest_values box θ)) others ↔ All (λ (x : Con). Holds x θ) cs → All (λ (x : Con). Holds x (rest_values box θ)) ds ↔ All (λ (x : Con). Holds x θ) (c ∷ cs)
    by_form reduced.Holds holds same_truth at rest = rw at.0 (
      (λ all. All-cons (λ (x : Con). Holds x θ) c cs (same_truth.0 tt) (rest.0 all)),
      (λ all. rest.1 (All-tail (λ (x : Con). Holds x θ) c cs all)),
    )
    by_form (reduced.Is d) left_is same_truth at rest =
        let same = con_same (rest_term box) (length box) θ (rest_values box θ) (term_same box θ well_formed lies) d (form_suits box c d well_formed here left_is).kept in
        rw at.0 (
          (λ all. All-cons (λ (x : Con). Holds x θ) c cs (same_truth.0 (same.0 (All-head (λ (x : Con). Holds x (rest_values box θ)) (con_by (rest_term box) d) others all))) (rest.0 (All-tail (λ (x : Con). Holds x (rest_values box θ)) (con_by (rest_term box) d) others all))),
          (λ all. All-cons (λ (x : Con). Holds x (rest_values box θ)) (con_by (rest_term box) d) others (same.1 (same_truth.1 (All-head (λ (x : Con). Holds x θ) c cs all))) (rest.1 (All-tail (λ (x : Con). Holds x θ) c cs all))),
        )

-- ---- the cost
least_cost : (t : Term) (ρ : List ℤ) → val t ρ ≡ (cost_sum (open_part (pos 1) t) ρ +ℤ constant_part t)
least_cost (term.Const z) ρ = omega (arith, ints)
least_cost (term.Var k) ρ = omega (arith, ints)

greatest_cost : (t : Term) (ρ : List ℤ) → neg_ℤ (val t ρ) ≡ (cost_sum (open_part (negsuc 0) t) ρ +ℤ neg_ℤ (constant_part t))
greatest_cost (term.Const z) ρ = omega (arith, ints)
greatest_cost (term.Var k) ρ = omega (arith, ints)

goal_same : (box : List (List ℤ)) (θ : List ℤ) (g : Goal) → IsBox box → InBox box θ → GoalInLimits (length box) g → goal_cost g θ ≡ (cost_sum (cost_left box g) (rest_values box θ) +ℤ cost_offset box g)
goal_same box θ goal.Satisfy well_formed lies kept = refl
goal_same box θ (goal.Minimise t) well_formed lies kept = sym (term_same box θ well_formed lies t kept) ∙ least_cost (rest_term box t) (rest_values box θ)
goal_same box θ (goal.Maximise t) well_formed lies kept = ap neg_ℤ (sym (term_same box θ well_formed lies t kept)) ∙ greatest_cost (rest_term box t) (rest_values box θ)

-- ---- domains
abbrev rest_domain : List (List ℤ) → ℕ → List (ℤ × ℤ)
rest_domain box k = runs_of (domain_at box k)

down_domains : (box : List (List ℤ)) (ds : List (List (ℤ × ℤ))) (θ : List ℤ) → IsBox box → InBox box θ → ds ≡ map (rest_domain box) (rest_variables box) → InDomains ds (rest_values box θ)
unfolding InDomains rest_values rest_variables
down_domains box ds θ well_formed lies is = rw is (
  length-map (opens box (length box)) (rest_domain box) ∙ sym (length-map (opens box (length box)) (λ j. get_or θ j (pos 0))),
  (λ i d inside.
      let here : i < length (opens box (length box)) = omega (arith, inside, length-map (opens box (length box)) (rest_domain box)) in
      let k : ℕ = get_or (opens box (length box)) i 0 in
      let below : k < length box = (opens_from box (length box) i 0 here).below in
      let domain = get_or-map (rest_domain box) (opens box (length box)) i 0 d here in
      let value = get_or-map (λ j. get_or θ j (pos 0)) (opens box (length box)) i 0 (pos 0) here in
      rw (domain, value) ((runs_have (domain_at box k) (get_or θ k (pos 0)) (well_formed k [] below).rising).1 (lies.each k below))),
)

up_domains : (box : List (List ℤ)) (m : Parts) (θ : List ℤ) → InBox box θ → LiesWithin box m → InDomains m.doms θ
unfolding InDomains
up_domains box m θ lies within = (
  sym within.count ∙ sym lies.count,
  (λ k d inside.
      let here : k < length box = omega (arith, inside, within.count) in
      rw (get_or_default m.doms k d [] inside) (within.within k (get_or θ k (pos 0)) (lies.each k here))),
)

-- ---- the assignment of the box that an assignment of the rest stands for
filled : List (List ℤ) → List ℤ → List ℤ
filled box ρ = map (λ k. val (rest_term box (term.Var k)) ρ) (range_with_len 0 (length box))

filled_count : (box : List (List ℤ)) (ρ : List ℤ) → length (filled box ρ) ≡ length box
unfolding filled
filled_count box ρ = length-map-range_with_len (λ k. val (rest_term box (term.Var k)) ρ) 0 (length box)

filled_at : (box : List (List ℤ)) (ρ : List ℤ) (k : ℕ) → k < length box → get_or (filled box ρ) k (pos 0) ≡ val (rest_term box (term.Var k)) ρ
unfolding filled
filled_at box ρ k inside = get_or-map-range_with_len (λ j. val (rest_term box (term.Var j)) ρ) 0 (length box) k k (pos 0) inside (zero-add k)

-- an open variable has the value at its place
filled_open : (box : List (List ℤ)) (ρ : List ℤ) (k : ℕ) → k < length box → is_open box (term.Var k) ≡ true → get_or (filled box ρ) k (pos 0) ≡ get_or ρ (place box k) (pos 0)
unfolding rest_term substituted
filled_open box ρ k inside several = filled_at box ρ k inside ∙ ap (λ (o : Bool). val (numbered box (if o then term.Var k else term.Const (term_low box (term.Var k)))) ρ) several

filled_shut : (box : List (List ℤ)) (ρ : List ℤ) (k : ℕ) → k < length box → is_open box (term.Var k) ≡ false → get_or (filled box ρ) k (pos 0) ≡ low_value (domain_at box k)
unfolding rest_term substituted
filled_shut box ρ k inside one = filled_at box ρ k inside ∙ ap (λ (o : Bool). val (numbered box (if o then term.Var k else term.Const (term_low box (term.Var k)))) ρ) one

open_has : (box : List (List ℤ)) (ds : List (List (ℤ × ℤ))) (ρ : List ℤ) (k : ℕ) → IsBox box → ds ≡ map (rest_domain box) (rest_variables box) → InDomains ds ρ → k < length box → is_open box (term.Var k) ≡ true → Contains (domain_at box k) (get_or ρ (place box k) (pos 0))
unfolding InDomains rest_variables
open_has box ds ρ k well_formed is lies inside several =
    let at = opens_at box (length box) k 0 inside several in
    let here : place box k < length ds = omega (arith, ap (length {A = List (ℤ × ℤ)}) is, length-map (opens box (length box)) (rest_domain box), at.0) in
    let domain : get_or ds (place box k) [] ≡ rest_domain box k =
    ap (λ (es : List (List (ℤ × ℤ))). get_or es (place box k) []) is ∙ get_or-map (rest_domain box) (opens box (length box)) (place box k) 0 [] at.0 ∙ ap (rest_domain box) at.1 in
    (runs_have (domain_at box k) (get_or ρ (place box k) (pos 0)) (well_formed k [] inside).rising).0 (subst (λ (e : List (ℤ × ℤ)). IsIn e (get_or ρ (place box k) (pos 0))) domain (lies.1 (place box k) [] here))

filled_has : (box : List (List ℤ)) (ds : List (List (ℤ × ℤ))) (ρ : List ℤ) (k : ℕ) → IsBox box → ds ≡ map (rest_domain box) (rest_variables box) → InDomains ds ρ → k < length box → (o : Bool) → is_open box (term.Var k) ≡ o → Contains (domain_at box k) (get_or (filled box ρ) k (pos 0))
filled_has box ds ρ k well_formed is lies inside true e = rw (filled_open box ρ k inside e) (open_has box ds ρ k well_formed is lies inside e)
filled_has box ds ρ k well_formed is lies inside false e = rw (filled_shut box ρ k inside e) (low_in (domain_at box k) (well_formed k [] inside))

filled_lies : (box : List (List ℤ)) (ds : List (List (ℤ × ℤ))) (ρ : List ℤ) → IsBox box → ds ≡ map (rest_domain box) (rest_variables box) → InDomains ds ρ → InBox box (filled box ρ)
filled_lies box ds ρ well_formed is lies = record {
  count = filled_count box ρ;
  each = λ k inside. filled_has box ds ρ k well_formed is lies inside (is_open box (term.Var k)) refl;
}

filled_back : (box : List (List ℤ)) (ds : List (List (ℤ × ℤ))) (ρ : List ℤ) → ds ≡ map (rest_domain box) (rest_variables box) → InDomains ds ρ → rest_values box (filled box ρ) ≡ ρ
unfolding InDomains rest_values rest_variables
filled_back box ds ρ is lies = ext_get_or (pos 0) (map (λ j. get_or (filled box ρ) j (pos 0)) (opens box (length box))) ρ
    (length-map (opens box (length box)) (λ j. get_or (filled box ρ) j (pos 0)) ∙ sym (length-map (opens box (length box)) (rest_domain box)) ∙ sym (ap (length {A = List (ℤ × ℤ)}) is) ∙ lies.0)
    (λ i inside.
    let here : i < length (opens box (length box)) = omega (arith, inside, length-map (opens box (length box)) (λ j. get_or (filled box ρ) j (pos 0))) in
    let stands = opens_from box (length box) i 0 here in
    get_or-map (λ j. get_or (filled box ρ) j (pos 0)) (opens box (length box)) i 0 (pos 0) here
    ∙ filled_open box ρ (get_or (opens box (length box)) i 0) stands.below stands.several
    ∙ ap (λ j. get_or ρ j (pos 0)) stands.place)

-- ---- the law
cost_same : (box : List (List ℤ)) (m : Parts) (below : ℤ) (r : RestParts) (offset : ℤ) (θ : List ℤ) → IsBox box → IsModel m → LiesWithin box m → IsRestOfBox box m below r offset → InBox box θ → cost m θ ≡ (rest_cost r (rest_values box θ) +ℤ offset)
cost_same box m below r offset θ well_formed model within is lies = rw (is.cost, is.constant) (goal_same box θ m.goal well_formed lies (model_goal box m model within))

cons_same : (box : List (List ℤ)) (m : Parts) (below : ℤ) (r : RestParts) (offset : ℤ) (θ : List ℤ) → IsBox box → IsModel m → LiesWithin box m → IsRestOfBox box m below r offset → InBox box θ → MeetsAll r.cons (rest_values box θ) ↔ MeetsAll m.cons θ
cons_same box m below r offset θ well_formed model within is lies = left_same box θ well_formed lies 0 m.cons r.cons r.labels (model_over box m model within) is.constraints

-- what an assignment of the rest stands for
record StandsFor (box : List (List ℤ)) (m : Parts) (r : RestParts) (offset : ℤ) (ρ θ : List ℤ) : Type 0 where
  lies : InBox box θ
  solves : Solves m θ
  back : rest_values box θ ≡ ρ
  costs : cost m θ ≡ (rest_cost r ρ +ℤ offset)

up_solves : (box : List (List ℤ)) (m : Parts) (below : ℤ) (r : RestParts) (offset : ℤ) (ρ : List ℤ) → IsBox box → IsModel m → LiesWithin box m → IsRestOfBox box m below r offset → SolvesRest r ρ → StandsFor box m r offset ρ (filled box ρ)
up_solves box m below r offset ρ well_formed model within is solves = record {
  lies = lies;
  solves = record { domains = up_domains box m (filled box ρ) lies within; constraints = (cons_same box m below r offset (filled box ρ) well_formed model within is lies).0 (rw back solves.constraints) };
  back = back;
  costs = cost_same box m below r offset (filled box ρ) well_formed model within is lies ∙ ap (λ (σ : List ℤ). rest_cost r σ +ℤ offset) back;
}
  where
    lies : InBox box (filled box ρ)
    lies = filled_lies box r.doms ρ well_formed is.domains solves.domains

    back : rest_values box (filled box ρ) ≡ ρ
    back = filled_back box r.doms ρ is.domains solves.domains

pub rest_law : (box : List (List ℤ)) (m : Parts) (below : ℤ) (r : RestParts) (offset : ℤ) → IsBox box → IsModel m → LiesWithin box m → IsRestOfBox box m below r offset → KeepsSolutions box m below r offset
rest_law box m below r offset well_formed model within is = record {
  down = λ θ lies solves cheaper. (
    record { domains = down_domains box r.doms θ well_formed lies is.domains; constraints = (cons_same box m below r offset θ well_formed model within is lies).1 solves.constraints },
    cost_same box m below r offset θ well_formed model within is lies,
  );
  up = λ ρ solves cheaper. let up = up_solves box m below r offset ρ well_formed model within is solves in (filled box ρ, up.lies, up.solves, up.back, up.costs);
}

-- ---- the same, of what lies in the box
pub rest_means : (box : List (List ℤ)) (m : Parts) (below : ℤ) (r : RestParts) (offset : ℤ) → IsBox box → IsModel m → LiesWithin box m → IsRestOfBox box m below r offset → IsRestOf (InBox box) m below r offset
rest_means box m below r offset well_formed model within is =
    let law = rest_law box m below r offset well_formed model within is in
    record {
      down = λ θ solves lies cheaper. let here = law.down θ lies solves cheaper in (rest_values box θ, here.0, here.1);
      up = λ ρ solves cheaper. let (θ, lies, solved, back, costs) = law.up ρ solves cheaper in (θ, solved, lies, costs);
    }
