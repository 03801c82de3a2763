-- What propagation leaves of a path's box.
use Rattle.std.proofs.Common.{◌≡◌, ℕ, zero, suc, ◌<◌, ◌≤◌, ◌⊎◌, inl, inr, Bool, true, false, cond, List, [], ◌∷◌, ◌+◌, length, set, get_or, refl, sym, ap, ◌∙◌, subst, ℤ, pos, arith}
use Rattle.std.specs.Prelude.{◌==◌, ◌||◌, not, map, filter, ◌<ℤ◌, Contains}
use Rattle.std.specs.List.{enumerate_from}
use Rattle.std.proofs.lemmas.Bool.{cases_eq, eqb-true}
use Rattle.std.proofs.lemmas.Bool.Decides.{Decides-int_eq}
use Rattle.std.proofs.lemmas.Int.{ints}
use Rattle.std.proofs.lemmas.List.{length-map, length-set, get_or-map, get_or-set_same, get_or-set_other}
use Rattle.std.proofs.lemmas.List.FromFn.{length-enumerate_from, get_or-enumerate_from}
use Rattle.std.proofs.lemmas.List.Sums.{sum_by-cons}
use Rattle.std.proofs.lemmas.Map.Made.{IsDistinct-from_AllPairs}
use Rattle.fzn_model.specs.Parts.{Parts}
use Rattle.fzn_model.specs.Sets.{IsIn}
use Rattle.fzn_model.specs.Boxes.{IsBox, IsDomain, InBox, domain_at, low_value}
use Rattle.fzn_model.proofs.Domains.{low_in}
use Rattle.fzn_model.proofs.Pigeons.{pigeons}
use Rattle.dom_store.specs.Stores.{box_size}
use Rattle.prop_engine.specs.declared.fixed.Fixed.{Fixed}
use Rattle.prop_engine.specs.declared.fixed.Fixed.TheVariants as fixed
use Rattle.prop_engine.specs.Plans.{plan_of}
use Rattle.prop_engine.specs.Fixing.{FixedMeans}
use Rattle.search_core.specs.declared.decision.Decision.{Decision}
use Rattle.search_core.specs.Paths.{allows, Meets}
use Rattle.search_core.specs.Boxes.{can_have, path_box}
use Rattle.search_core.proofs.Meeting.{all_of_each, each_obeyed}
use Rattle.search_core.proofs.Counting.{value_of_set}
use Rattle.explorer.specs.Nodes.{IsNode}
use Rattle.explorer.specs.RightLogs.{IsPropagated}

-- ---- an assignment with a value of one domain, and the least values of the others
module _ (box : List (List ℤ)) (k : ℕ) (z : ℤ) (domains : IsBox box) (inside : k < length box) (has : Contains (domain_at box k) z) where
  chosen : List ℤ
  chosen = set (map low_value box) k z

  chosen_is : get_or chosen k (pos 0) ≡ z
  unfolding chosen
  chosen_is = get_or-set_same (map low_value box) k z (pos 0) (subst (λ (n : ℕ). k < n) (sym (length-map box low_value)) inside)

  chosen_at : (j : ℕ) → j < length box → (j ≡ k) ⊎ (j ≡ k → ⊥) → Contains (domain_at box j) (get_or chosen j (pos 0))
  unfolding chosen
  chosen_at j below (inl e) = subst (λ (i : ℕ). Contains (domain_at box i) (get_or chosen i (pos 0))) (sym e) (subst (Contains (domain_at box k)) (sym chosen_is) has)
  chosen_at j below (inr n) = subst (Contains (domain_at box j)) (sym (get_or-set_other (map low_value box) k j z (pos 0) n ∙ get_or-map low_value box j [] (pos 0) below)) (low_in (domain_at box j) (domains j [] below))

  in_box : InBox box chosen
  unfolding chosen
  in_box = record {
    count = length-set (map low_value box) k z ∙ length-map box low_value;
    each = λ j below. chosen_at j below (cases_eq j k);
  }

-- ---- the domains that a path leaves
spared : (a b : Bool) → (a ≡ true → b ≡ true) → (not a || b) ≡ true
spared true b h = h refl
spared false b h = refl

allowed : (p : List Decision) (θ : List ℤ) (k : ℕ) → Meets p θ → can_have p k (get_or θ k (pos 0)) ≡ true
allowed p θ k h = all_of_each (λ (d : Decision). not (d.var == k) || allows d (get_or θ k (pos 0))) p (λ j d l.
    let c : Decision = get_or p j d in
    spared (c.var == k) (allows c (get_or θ k (pos 0))) (λ same. ap (λ (n : ℕ). allows c (get_or θ n (pos 0))) (sym (eqb-true c.var k same)) ∙ each_obeyed p θ h j d l))

later : (b : Bool) (x z : ℤ) (xs : List ℤ) → Contains xs z → Contains (cond b (x ∷ xs) xs) z
later true x z xs has = (suc has.0, omega (arith, has.1), has.2)
later false x z xs has = has

passes : (t : ℤ → Bool) (xs : List ℤ) (z : ℤ) (k : ℕ) → k < length xs → get_or xs k z ≡ z → t z ≡ true → Contains (filter t xs) z
passes t [] z k h e may = absurd (omega arith)
passes t (x ∷ xs) z zero h e may = rw (ap t e ∙ may) (zero, omega arith, e)
passes t (x ∷ xs) z (suc k) h e may = later (t x) x z (filter t xs) (passes t xs z k (omega arith) e may)

-- for any list of the values of a set
module _ (values : List (ℤ × ℤ) → List ℤ) (listed : (set : List (ℤ × ℤ)) (z : ℤ) → IsIn set z → Contains (values set) z) (p : List Decision) (doms : List (List (ℤ × ℤ))) where
  abbrev left : ℕ × List (ℤ × ℤ) → List ℤ
  left x = filter (can_have p x.0) (values x.1)

  left_count : length (map left (enumerate_from 0 doms)) ≡ length doms
  left_count = length-map (enumerate_from 0 doms) left ∙ length-enumerate_from 0 doms

  left_has : (k : ℕ) (z : ℤ) → k < length doms → IsIn (get_or doms k []) z → can_have p k z ≡ true → Contains (domain_at (map left (enumerate_from 0 doms)) k) z
  left_has k z inside has may =
      let is : domain_at (map left (enumerate_from 0 doms)) k ≡ left (0 + k, get_or doms k []) = get_or-map left (enumerate_from 0 doms) k (0, []) [] (omega (arith, length-enumerate_from 0 doms)) ∙ ap left (get_or-enumerate_from 0 doms k (0, []) inside) in
      let here : 0 + k ≡ k = omega arith in
      let old : Contains (values (get_or doms k [])) z = listed (get_or doms k []) z has in
      subst (λ (xs : List ℤ). Contains xs z) (sym (is ∙ ap (λ (n : ℕ). left (n, get_or doms k [])) here)) (passes (can_have p k) (values (get_or doms k [])) z old.0 old.1 old.2 may)

path_count : (m : Parts) (p : List Decision) → length (path_box m p) ≡ length m.doms
unfolding path_box
path_count m p = left_count _ value_of_set p m.doms

-- a value of a node's domain is one that the path leaves
value_left : (m : Parts) (p : List Decision) (box : List (List ℤ)) (b : ℤ) (k : ℕ) (z : ℤ) → IsNode m p box b → k < length box → Contains (domain_at box k) z → Contains (domain_at (path_box m p) k) z
unfolding path_box
value_left m p box b k z node inside has =
    let θ : List ℤ = chosen box k z node.domains inside has in
    let may : can_have p k z ≡ true = subst (λ (v : ℤ). can_have p k v ≡ true) (chosen_is box k z node.domains inside has) (allowed p θ k (node.lies θ (in_box box k z node.domains inside has))) in
    left_has _ value_of_set p m.doms k z (subst (λ (n : ℕ). k < n) node.within.count inside) (node.within.within k z has) may

-- ---- sizes
fewer : (xs ys : List ℤ) → IsDomain xs → ((z : ℤ) → Contains xs z → Contains ys z) → length xs ≤ length ys
fewer xs ys domain within = pigeons xs ys (IsDistinct-from_AllPairs Decides-int_eq xs (λ i j d lt h same. let less : get_or xs i d <ℤ get_or xs j d = domain.rising i j d lt h in omega (arith, ints, less, same))) within

one_more : (x : List ℤ) (xs : List (List ℤ)) → box_size (x ∷ xs) ≡ length x + box_size xs
unfolding box_size
one_more x xs = sum_by-cons length x xs

sizes : (new old : List (List ℤ)) → length new ≡ length old → ((k : ℕ) → k < length new → length (domain_at new k) ≤ length (domain_at old k)) → box_size new ≤ box_size old
sizes [] [] count falls = omega arith
sizes [] (x ∷ xs) count falls = absurd (omega (arith, count))
sizes (y ∷ ys) [] count falls = absurd (omega (arith, count))
sizes (y ∷ ys) (x ∷ xs) count falls =
    let rest : box_size ys ≤ box_size xs = sizes ys xs (omega (arith, count)) (λ k h. falls (suc k) (omega (arith, h))) in
    let first : length y ≤ length x = falls zero (omega arith) in
    omega (arith, rest, first, one_more y ys, one_more x xs)

pub node_smaller : (m : Parts) (p : List Decision) (box : List (List ℤ)) (b : ℤ) → IsNode m p box b → box_size box ≤ box_size (path_box m p)
node_smaller m p box b node =
    sizes box (path_box m p) (node.within.count ∙ sym (path_count m p)) (λ k h. fewer (domain_at box k) (domain_at (path_box m p) k) (node.domains k [] h) (λ z has. value_left m p box b k z node h has))

-- ---- a box that was propagated
pub propagated : (m : Parts) (p : List Decision) (old new : List (List ℤ)) (seen : ℤ) (answer : Fixed) → IsNode m p old seen → IsNode m p new seen → FixedMeans (plan_of m) seen old new answer → (answer ≡ fixed.Empty → ⊥) → IsPropagated m p seen new
unfolding IsPropagated
propagated m p old new seen fixed.Kept was is means some = (is, inl means)
propagated m p old new seen fixed.Empty was is means some = absurd (some refl)
propagated m p old new seen fixed.EarlyStop was is means some = (is, inr (omega (arith, means, node_smaller m p old seen was)))

pub not_empty : (answer : Fixed) → (answer ≡ fixed.Kept) ⊎ (answer ≡ fixed.EarlyStop) → answer ≡ fixed.Empty → ⊥
not_empty fixed.Kept is empty = cc
not_empty fixed.EarlyStop is empty = cc
not_empty fixed.Empty (inl is) empty = cc
not_empty fixed.Empty (inr is) empty = cc
