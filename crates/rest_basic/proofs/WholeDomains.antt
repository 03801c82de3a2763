-- Values without a gap.
use Rattle.std.proofs.Common.{◌≡◌, zero, suc, List, [], ◌∷◌, length, refl, subst, arith, ℤ, pos, ◌+ℤ◌, ◌-ℤ◌, ◌≤ℤ◌, ◌<ℤ◌, inl, inr, ◌∙◌}
use Rattle.std.specs.Prelude.{AllPairs, Contains, int_lt}
use Rattle.std.proofs.lemmas.Int.{ints}
use Rattle.fzn_model.specs.declared.term.Term.{Term}
use Rattle.fzn_model.specs.Boxes.{IsDomain, low_value, high_value, last_after}
use Rattle.fzn_model.specs.Bounds.{term_low, term_high}
use Rattle.fzn_model.specs.Grouping.{runs_of}
use Rattle.fzn_model.proofs.Domains.{between, low_in, high_in}
use Rattle.fzn_model.proofs.Grouping.{same_runs, runs_are, runs_have}
use Rattle.rest_basic.specs.Forms.{term_values}
use Rattle.rest_basic.specs.Gathered.{Gathered, IsAdded, HasAll}
use Rattle.rest_basic.proofs.ListMembers.{has_first, has_later}
use Rattle.rest_basic.proofs.Values.{low_is_first, high_is_last}
use Rattle.rest_basic.proofs.GatheredRuns.{split_at, one_in, in_one, added, passed, domain_order, whole_left, gathered_all}

-- ---- a rising list that has as many members as there are numbers from its first to its last
few_after : (first : ℤ) (xs : List ℤ) → AllPairs (λ x y. x <ℤ y) (first ∷ xs) → (first +ℤ pos (length xs)) ≤ℤ last_after first xs
few_after first [] rising = omega (arith, ints)
few_after first (x ∷ xs) rising =
    let above : first <ℤ x = rising zero 1 first (omega arith) (omega arith) in
    let rest = few_after x xs (λ i j d lt inside. rising (suc i) (suc j) d (omega (arith, lt)) (omega (arith, inside))) in
    omega (arith, ints, above, rest)

all_from : (first : ℤ) (xs : List ℤ) (z : ℤ) → AllPairs (λ x y. x <ℤ y) (first ∷ xs) → last_after first xs ≤ℤ (first +ℤ pos (length xs)) → first ≤ℤ z → z ≤ℤ last_after first xs → Contains (first ∷ xs) z
all_from first [] z rising full from to = has_first first [] z (omega (arith, ints, from, to))
all_from first (x ∷ xs) z rising full from to =
    let above : first <ℤ x = rising zero 1 first (omega arith) (omega arith) in
    let later : AllPairs (λ x y. x <ℤ y) (x ∷ xs) = λ i j d lt inside. rising (suc i) (suc j) d (omega (arith, lt)) (omega (arith, inside)) in
    let few = few_after x xs later in
    elim (split_at first z from (int_lt first z) refl) [
      | inl less ↦ has_later first (x ∷ xs) z (all_from x xs z later (omega (arith, ints, above, full)) (omega (arith, ints, above, full, few, less)) to)
      | inr is ↦ has_first first (x ∷ xs) z is
    ]

full_has : (values : List ℤ) (z : ℤ) → IsDomain values → (high_value values -ℤ low_value values) <ℤ pos (length values) → low_value values ≤ℤ z → z ≤ℤ high_value values → Contains values z
unfolding low_value high_value
full_has [] z domain full from to = absurd (domain.some refl)
full_has (x ∷ xs) z domain full from to = all_from x xs z domain.rising (omega (arith, ints, full)) from to

-- ---- values of a term that have all numbers between their bounds
module _ (box : List (List ℤ)) (x : Term) (low high : ℤ) (domain : IsDomain (term_values box x)) (least : low ≡ term_low box x) (greatest : high ≡ term_high box x) where
  pub near_whole : (high -ℤ low) ≤ℤ pos 1 → HasAll (term_values box x) low high
  near_whole near = record {
    has = λ z from to. elim (split_at low z from (int_lt low z) refl) [
      | inl less ↦ let last = high_is_last box x in subst (λ (y : ℤ). Contains (term_values box x) y) (omega (arith, ints, near, less, to, last, greatest)) (high_in (term_values box x) domain)
      | inr is ↦ let first = low_is_first box x in subst (λ (y : ℤ). Contains (term_values box x) y) (omega (arith, ints, is, first, least)) (low_in (term_values box x) domain)
    ];
  }

  pub wide_whole : pos 1024 ≤ℤ (high -ℤ low) → HasAll (term_values box x) low high
  wide_whole wide = record {
    has = λ z from to.
        let first = low_is_first box x in
        let last = high_is_last box x in
        domain.whole (omega (arith, ints, wide, first, last, least, greatest)) z (omega (arith, ints, from, first, least)) (omega (arith, ints, to, last, greatest));
  }

  pub full_whole : (high -ℤ low) <ℤ pos (length (term_values box x)) → HasAll (term_values box x) low high
  full_whole full = record {
    has = λ z from to.
        let first = low_is_first box x in
        let last = high_is_last box x in
        full_has (term_values box x) z domain (omega (arith, ints, full, first, last, least, greatest)) (omega (arith, ints, from, first, least)) (omega (arith, ints, to, last, greatest));
  }

-- they are one run
pub whole_runs : (box : List (List ℤ)) (x : Term) (bounds : ℤ × ℤ) (values : List (ℤ × ℤ)) → IsDomain (term_values box x) → bounds.0 ≡ term_low box x → bounds.1 ≡ term_high box x → HasAll (term_values box x) bounds.0 bounds.1 → values ≡ bounds ∷ [] → values ≡ runs_of (term_values box x)
whole_runs box x bounds values domain low high whole is =
    let first = low_is_first box x in
    let last = high_is_last box x in
    let order = domain_order box x domain in
    is ∙ same_runs (bounds ∷ []) (runs_of (term_values box x)) (omega (arith, ints, low, high, order), tt) (runs_are (term_values box x) domain.rising) (λ z.
    let has_values = runs_have (term_values box x) z domain.rising in (
      λ has. let within = in_one bounds z has in has_values.1 (whole.has z within.0 within.1),
      λ has. let ends = between (term_values box x) z domain (has_values.0 has) in one_in bounds z (omega (arith, ints, ends.0, first, low)) (omega (arith, ints, ends.1, last, high)),
    ))

-- ---- values that are gathered number by number
pub added_value : (box : List (List ℤ)) (x : Term) (bounds : ℤ × ℤ) (number : ℤ) (runs after : List (ℤ × ℤ)) → IsDomain (term_values box x) → bounds.0 ≡ term_low box x → bounds.1 ≡ term_high box x → Gathered (term_values box x) (bounds ∷ []) number runs → Contains (term_values box x) number → IsAdded number runs after → Gathered (term_values box x) (bounds ∷ []) (number +ℤ pos 1) after
added_value box x bounds number runs after domain low high gathered has more =
    let ends = between (term_values box x) number domain has in
    let first = low_is_first box x in
    let last = high_is_last box x in
    added (term_values box x) (bounds ∷ []) number runs after gathered (has, one_in bounds number (omega (arith, ints, ends.0, first, low)) (omega (arith, ints, ends.1, last, high))) more

pub passed_value : (values : List ℤ) (bounds : ℤ × ℤ) (number : ℤ) (runs : List (ℤ × ℤ)) → Gathered values (bounds ∷ []) number runs → (Contains values number → ⊥) → Gathered values (bounds ∷ []) (number +ℤ pos 1) runs
passed_value values bounds number runs gathered not = passed values (bounds ∷ []) number runs gathered (λ both. not both.0)

pub gathered_values : (box : List (List ℤ)) (x : Term) (bounds : ℤ × ℤ) (before : ℤ) (runs : List (ℤ × ℤ)) → IsDomain (term_values box x) → bounds.0 ≡ term_low box x → bounds.1 ≡ term_high box x → bounds.1 <ℤ before → Gathered (term_values box x) (bounds ∷ []) before runs → runs ≡ runs_of (term_values box x)
gathered_values box x bounds before runs domain low high past gathered =
    gathered_all box x (bounds ∷ []) before runs domain (omega (arith, ints, past, high)) gathered ∙ whole_left box x (bounds ∷ []) bounds domain refl low high
