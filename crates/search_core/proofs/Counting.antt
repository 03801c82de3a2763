-- Sizes of paths.
use Rattle.std.proofs.Common.{◌≡◌, ℕ, zero, suc, ◌+◌, ◌*◌, ◌<◌, ◌≤◌, Bool, true, false, cond, List, [], ◌∷◌, ◌++◌, length, get_or, refl, sym, ap, subst, ◌∙◌, inl, inr, ℤ, pos, ◌≤ℤ◌, arith, suc-mul}
use Rattle.std.specs.Prelude.{◌&&◌, not, int_le, if◌then◌else◌, Contains, map}
use Rattle.std.specs.List.{flat_map, count_by}
use Rattle.std.proofs.lemmas.List.{length-append, length-map}
use Rattle.std.proofs.lemmas.List.Sums.{sum_by-cons}
use Rattle.std.proofs.lemmas.List.Elements.{Contains-append_left, Contains-append_right, Contains-append_cases}
use Rattle.int_domain.specs.Values.{values_of, range}
use Rattle.int_domain.proofs.Members.{range_has, has_range, contains_from_has, has_from_contains}
use Rattle.fzn_model.specs.Parts.{Parts}
use Rattle.fzn_model.specs.Sets.{IsIn, IsWithin}
use Rattle.fzn_model.specs.Solutions.{InDomains}
use Rattle.search_core.specs.declared.decision.Decision.{Decision}
use Rattle.search_core.specs.Paths.{meets, Meets, opposite, Settled}
use Rattle.search_core.specs.Sizes.{size, assignments, product_of_sizes}
use Rattle.search_core.proofs.Meeting.{meets_is, meets_none}

-- ---- the sides of a cut
split_test : (a up b : Bool) → cond a 1 0 ≡ cond (a && (if up then not b else b)) 1 0 + cond (a && (if not up then not b else b)) 1 0
split_test true true true = refl
split_test true true false = refl
split_test true false true = refl
split_test true false false = refl
split_test false up b = refl

one_split : (p : List Decision) (d : Decision) (θ : List ℤ) → cond (meets p θ) 1 0 ≡ cond (meets (p ++ d ∷ []) θ) 1 0 + cond (meets (p ++ opposite d ∷ []) θ) 1 0
one_split p d θ = rw (meets_is p d θ, meets_is p (opposite d) θ) (split_test (meets p θ) d.up (int_le (get_or θ d.var (pos 0)) d.at))

counted_one : (b : Bool) → b ≡ true → (let one : ℕ = 1 in cond b one 0 ≡ one)
counted_one true h = refl
counted_one false h = cc

count_cons : (t : List ℤ → Bool) (θ : List ℤ) (all : List (List ℤ)) → count_by t (θ ∷ all) ≡ cond (t θ) 1 0 + count_by t all
count_cons t θ all = sum_by-cons (λ φ. cond (t φ) 1 0) θ all

count_split : (p : List Decision) (d : Decision) (all : List (List ℤ)) → count_by (meets p) all ≡ count_by (meets (p ++ d ∷ [])) all + count_by (meets (p ++ opposite d ∷ [])) all
count_split p d [] = refl
count_split p d (θ ∷ all) =
    omega (arith, one_split p d θ, count_split p d all, count_cons (meets p) θ all, count_cons (meets (p ++ d ∷ [])) θ all, count_cons (meets (p ++ opposite d ∷ [])) θ all)

pub size_splits : (m : Parts) (p : List Decision) (cut : Decision) → size m p ≡ size m (p ++ cut ∷ []) + size m (p ++ opposite cut ∷ [])
unfolding size
size_splits m p cut = count_split p cut (assignments m.doms)

-- ---- the empty path
count_all : (all : List (List ℤ)) → count_by (meets []) all ≡ length all
count_all [] = refl
count_all (θ ∷ all) = omega (arith, count_all all, count_cons (meets []) θ all, counted_one (meets [] θ) (meets_none θ))

length_before : (zs : List ℤ) (tails : List (List ℤ)) → length (flat_map (λ z. map (λ θ. z ∷ θ) tails) zs) ≡ length zs * length tails
length_before [] tails = omega arith
length_before (z ∷ zs) tails = omega (
  arith,
  length_before zs tails,
  length-append (map (λ θ. z ∷ θ) tails) (flat_map (λ y. map (λ θ. y ∷ θ) tails) zs),
  length-map tails (λ θ. z ∷ θ),
  suc-mul (length zs) (length tails),
)

assignments_count : (ds : List (List (ℤ × ℤ))) → length (assignments ds) ≡ product_of_sizes ds
unfolding assignments
assignments_count [] = refl
assignments_count (d ∷ ds) = length_before (values_of d) (assignments ds) ∙ ap (λ n. length (values_of d) * n) (assignments_count ds)

pub size_of_all : (m : Parts) → size m [] ≡ product_of_sizes m.doms
unfolding size
size_of_all m = count_all (assignments m.doms) ∙ assignments_count m.doms

-- ---- the values of a set
value_at : (runs : List (ℤ × ℤ)) (z : ℤ) (k : ℕ) (run : ℤ × ℤ) → k < length runs → get_or runs k run ≡ run → IsWithin run z → Contains (values_of runs) z
unfolding values_of IsWithin
value_at [] z k run h is w = absurd (omega arith)
value_at (r ∷ rs) z zero run h is w =
    let inside : (r.0 ≤ℤ z) × (z ≤ℤ r.1) = subst (λ (x : ℤ × ℤ). (x.0 ≤ℤ z) × (z ≤ℤ x.1)) (sym is) w in
    Contains-append_left (range r.0 r.1) (values_of rs) z (contains_from_has (range r.0 r.1) z (range_has r.0 r.1 z inside.0 inside.1))
value_at (r ∷ rs) z (suc k) run h is w = Contains-append_right (range r.0 r.1) (values_of rs) z (value_at rs z k run (omega arith) is w)

pub value_of_set : (runs : List (ℤ × ℤ)) (z : ℤ) → IsIn runs z → Contains (values_of runs) z
unfolding IsIn
value_of_set runs z h = value_at runs z h.0 h.1 h.2 h.3 h.4

pub in_set : (runs : List (ℤ × ℤ)) (z : ℤ) → Contains (values_of runs) z → IsIn runs z
unfolding values_of IsIn IsWithin
in_set [] z c = absurd (omega (arith, c.1))
in_set (r ∷ rs) z c = elim (Contains-append_cases (range r.0 r.1) (values_of rs) z c) [
  | inl h ↦ (0, r, omega arith, refl, has_range r.0 r.1 z (has_from_contains (range r.0 r.1) z h))
  | inr h ↦ let (k, run, below, is, w) = in_set rs z h in (suc k, run, omega (arith, below), is, w)
]

-- ---- an assignment within the domains is listed
map_at : (y : ℤ) (tails : List (List ℤ)) (θ : List ℤ) (k : ℕ) → k < length tails → get_or tails k θ ≡ θ → Contains (map (λ (φ : List ℤ). y ∷ φ) tails) (y ∷ θ)
map_at y [] θ k h is = absurd (omega arith)
map_at y (φ ∷ tails) θ zero h is = (0, omega arith, ap (λ (x : List ℤ). y ∷ x) is)
map_at y (φ ∷ tails) θ (suc k) h is = let (i, below, at) = map_at y tails θ k (omega arith) is in (suc i, omega arith, at)

before_at : (zs : List ℤ) (tails : List (List ℤ)) (z : ℤ) (θ : List ℤ) (k : ℕ) → k < length zs → get_or zs k z ≡ z → Contains tails θ → Contains (flat_map (λ y. map (λ φ. y ∷ φ) tails) zs) (z ∷ θ)
before_at [] tails z θ k h is c = absurd (omega arith)
before_at (y ∷ ys) tails z θ zero h is c =
    Contains-append_left (map (λ (φ : List ℤ). y ∷ φ) tails) (flat_map (λ x. map (λ φ. x ∷ φ) tails) ys) (z ∷ θ) (subst (λ (x : ℤ). Contains (map (λ (φ : List ℤ). y ∷ φ) tails) (x ∷ θ)) is (map_at y tails θ c.0 c.1 c.2))
before_at (y ∷ ys) tails z θ (suc k) h is c = Contains-append_right (map (λ (φ : List ℤ). y ∷ φ) tails) (flat_map (λ x. map (λ φ. x ∷ φ) tails) ys) (z ∷ θ) (before_at ys tails z θ k (omega arith) is c)

in_assignments : (ds : List (List (ℤ × ℤ))) (θ : List ℤ) → InDomains ds θ → Contains (assignments ds) θ
unfolding InDomains assignments
in_assignments [] [] h = (0, omega arith, refl)
in_assignments [] (z ∷ θ) h = absurd (omega (arith, h.0))
in_assignments (d ∷ ds) [] h = absurd (omega (arith, h.0))
in_assignments (d ∷ ds) (z ∷ θ) h =
    let (j, under, at) = value_of_set d z (h.1 0 d (omega arith)) in
    before_at (values_of d) (assignments ds) z θ j under at (in_assignments ds θ (omega (arith, h.0), λ i e l. h.1 (suc i) e (omega arith)))

-- ---- a path that is met
count_some : (t : List ℤ → Bool) (all : List (List ℤ)) (θ : List ℤ) (k : ℕ) → k < length all → get_or all k θ ≡ θ → t θ ≡ true → 1 ≤ count_by t all
count_some t [] θ k l is h = absurd (omega arith)
count_some t (φ ∷ all) θ zero l is h =
    omega (arith, counted_one (t φ) (ap t is ∙ h), count_cons t φ all)
count_some t (φ ∷ all) θ (suc k) l is h = omega (arith, count_some t all θ k (omega arith) is h, count_cons t φ all)

pub met_size : (m : Parts) (p : List Decision) (θ : List ℤ) → InDomains m.doms θ → Meets p θ → 1 ≤ size m p
unfolding size Meets
met_size m p θ h k = let (i, below, at) = in_assignments m.doms θ h in count_some (meets p) (assignments m.doms) θ i below at k

pub none_settled : (m : Parts) (p : List Decision) → size m p ≡ 0 → (bound : ℤ) → Settled m p bound
unfolding Settled
none_settled m p e bound θ s h = absurd (omega (arith, e, met_size m p θ s.domains h))
