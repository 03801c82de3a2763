-- Narrowings that leave a domain as it is.
use Rattle.std.proofs.Common.{◌≡◌, ℕ, ◌<◌, List, [], ◌∷◌, length, refl, sym, ap, subst, ◌∙◌, arith, Bool, true, false, not, cond, get_or}
use Rattle.std.specs.Prelude.{ℤ, ◌≤ℤ◌, int_le, filter, Contains, All, MatchBool}
use Rattle.std.specs.Ordering.{int_eq}
use Rattle.std.proofs.lemmas.Int.{ints}
use Rattle.std.proofs.lemmas.List.{get_or_default}
use Rattle.std.proofs.lemmas.List.Elements.{All-head, All-tail}
use Rattle.int_domain.specs.declared.narrow.Narrow.{Narrow}
use Rattle.int_domain.specs.declared.narrow.Narrow.TheVariants.{Same, Changed, Empty}
use Rattle.int_domain.specs.Narrowing.{Narrows, DropsValue, is_held}
use Rattle.fzn_model.specs.Boxes.{IsDomain, low_value, high_value}
use Rattle.fzn_model.proofs.Domains.{between, one_value}
use Rattle.dom_store.specs.declared.domain.Cut.TheVariants as cut
use Rattle.dom_store.specs.Kept.{Does, Leaves}
use Rattle.dom_store.proofs.Cutting.{tests_least, tests_most, tests_others}

filter_all : (keep : ℤ → Bool) (xs : List ℤ) → All (λ x. keep x ≡ true) xs → filter keep xs ≡ xs
filter_all keep [] all = refl
filter_all keep (x ∷ xs) all =
    let rest : filter keep xs ≡ xs = filter_all keep xs (All-tail (λ x. keep x ≡ true) x xs all) in
    ap (λ t. cond t (x ∷ filter keep xs) (filter keep xs)) (All-head (λ x. keep x ≡ true) x xs all) ∙ ap (λ ys. x ∷ ys) rest

-- where each value passes, nothing goes
passes_all : (keep : ℤ → Bool) (old new : List ℤ) (answer : Narrow) → All (λ x. keep x ≡ true) old → Narrows keep old new answer → new ≡ old
unfolding Narrows
passes_all keep old new Same all n = n.1
passes_all keep old new Changed all n = n.0 ∙ filter_all keep old all
passes_all keep old new Empty all n = n.1

at_has : (xs : List ℤ) (k : ℕ) (d : ℤ) → k < length xs → Contains xs (get_or xs k d)
at_has xs k d h = (k, h, get_or_default xs k (get_or xs k d) d h)

pub below_idle : (low : ℤ) (xs : List ℤ) → IsDomain xs → low ≤ℤ low_value xs → Leaves (cut.Below low) xs
unfolding Leaves Does
below_idle low xs d from new answer e does =
    passes_all (λ x. int_le low x) xs new answer (λ k z h. (tests_least low (get_or xs k z)).1 (let lies = between xs (get_or xs k z) d (at_has xs k z h) in omega (arith, ints, lies.0))) does

pub above_idle : (high : ℤ) (xs : List ℤ) → IsDomain xs → high_value xs ≤ℤ high → Leaves (cut.Above high) xs
unfolding Leaves Does
above_idle high xs d to new answer e does =
    passes_all (λ x. int_le x high) xs new answer (λ k z h. (tests_most high (get_or xs k z)).1 (let lies = between xs (get_or xs k z) d (at_has xs k z h) in omega (arith, ints, lies.1))) does

pub fix_idle : (value : ℤ) (xs : List ℤ) → IsDomain xs → low_value xs ≡ high_value xs → Leaves (cut.Fix value) xs
unfolding Leaves Does Narrows
fix_idle value xs d one new Same e does = does.1
fix_idle value xs d one new Changed e does = of_one (low_value xs) (one_value xs (low_value xs) d refl one)
  where
    of_test : (v : ℤ) (t : Bool) → new ≡ cond t (v ∷ []) [] → new ≡ v ∷ []
    of_test v true is = is
    of_test v false is = absurd (e.some is)

    of_one : (v : ℤ) → xs ≡ v ∷ [] → new ≡ xs
    of_one v is = of_test v (int_eq v value) (does.0 ∙ ap (filter (λ x. int_eq x value)) is) ∙ sym is
fix_idle value xs d one new Empty e does = does.1

pub drop_idle : (value : ℤ) (xs : List ℤ) → (Contains xs value → ⊥) → Leaves (cut.Drop value) xs
unfolding Leaves Does DropsValue
drop_idle value xs gone new answer e does = by_test (is_held value xs) does
  where
    by_test : (t : Bool) → MatchBool t ((answer ≡ Same) × (new ≡ xs)) (Narrows (λ x. not (int_eq x value)) xs new answer) → new ≡ xs
    by_test true held = held.1
    by_test false narrows = passes_all (λ x. not (int_eq x value)) xs new answer
        (λ k z h. (tests_others value (get_or xs k z)).1 (λ same. gone (subst (Contains xs) same (at_has xs k z h)))) narrows
