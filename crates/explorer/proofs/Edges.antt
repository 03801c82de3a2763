-- Into the subtree of a path.
use Rattle.std.proofs.Common.{◌≡◌, ℕ, zero, suc, ◌+◌, ◌<◌, Bool, true, false, List, [], ◌∷◌, ◌++◌, length, take, refl, sym, ap, subst, ◌∙◌, arith, ℤ, pos, inl, inr}
use Rattle.std.specs.Prelude.{slice_index_or, map, Contains, ◌&&◌}
use Rattle.std.proofs.lemmas.List.{take_more, length-map, get_or-map}
use Rattle.std.proofs.lemmas.Bool.{cases_lt}
use Rattle.std.proofs.Math.ListN.{get_or-eq_default}
use Rattle.std.proofs.Math.Seq.{take-length}
use Rattle.fzn_model.specs.Parts.{Parts}
use Rattle.fzn_model.specs.Sets.{IsIn}
use Rattle.fzn_model.specs.Solutions.{InDomains}
use Rattle.fzn_model.specs.Boxes.{IsBox, InBox}
use Rattle.fzn_model.specs.Rests.{LiesWithin}
use Rattle.dom_store.specs.Views.{box_of, box_count}
use Rattle.search_core.specs.declared.decision.Decision.{Decision}
use Rattle.search_core.specs.Paths.{Meets, meets, obeys}
use Rattle.search_core.proofs.Counting.{in_set, value_of_set}
use Rattle.search_core.proofs.Meeting.{meets_none}
use Rattle.explorer.specs.Walking.{CutsTo, NoneObeys, IsBase, NoneMeets}
use Rattle.explorer.proofs.Sides.{meets_push, push_meets}

-- the box has exactly the assignments within the domains that meet the path
pub record Reached (m : Parts) (p : List Decision) (box : List (List ℤ)) : Type 0 where
  pub keeps : (θ : List ℤ) → InDomains m.doms θ → Meets p θ → InBox box θ
  pub lies : (θ : List ℤ) → InBox box θ → Meets p θ
  pub within : LiesWithin box m
  pub domains : IsBox box

-- ---- the model's own box
module _ (values : List (ℤ × ℤ) → List ℤ) (ds : List (List (ℤ × ℤ))) where
  into_set : ((d : List (ℤ × ℤ)) (z : ℤ) → IsIn d z → Contains (values d) z) → (k : ℕ) (z : ℤ) → k < length ds → IsIn (slice_index_or ds k []) z → Contains (slice_index_or (map values ds) k []) z
  into_set into k z inside has = subst (λ (xs : List ℤ). Contains xs z) (sym (get_or-map values ds k [] [] inside)) (into (slice_index_or ds k []) z has)

  from_set : ((d : List (ℤ × ℤ)) (z : ℤ) → Contains (values d) z → IsIn d z) → (k : ℕ) (z : ℤ) → Contains (slice_index_or (map values ds) k []) z → IsIn (slice_index_or ds k []) z
  from_set from k z has = elim (cases_lt k (length ds)) [
    | inl inside ↦ from (slice_index_or ds k []) z (subst (λ (xs : List ℤ). Contains xs z) (get_or-map values ds k [] [] inside) has)
    | inr beyond ↦ absurd (none_there z (subst (λ (xs : List ℤ). Contains xs z) (get_or-eq_default (map values ds) [] (omega (arith, beyond, length-map ds values))) has))
  ]
    where
      none_there : (y : ℤ) → Contains [] y → ⊥
      none_there y h = omega (arith, h.1)

whole_keeps : (m : Parts) (θ : List ℤ) → InDomains m.doms θ → InBox (box_of m.doms) θ
unfolding InDomains
whole_keeps m θ h = record {
  count = sym h.0 ∙ sym (box_count m.doms);
  each = λ k l.
      let inside : k < length m.doms = omega (arith, l, box_count m.doms) in
      into_set _ m.doms value_of_set k (slice_index_or θ k (pos 0)) inside (h.1 k [] inside);
}

whole_within : (m : Parts) → LiesWithin (box_of m.doms) m
whole_within m = record {
  count = box_count m.doms;
  within = λ k z has. from_set _ m.doms in_set k z has;
}

pub base_start : (m : Parts) (p : List Decision) (box : List (List ℤ)) → box ≡ box_of m.doms → IsBox box → Reached m (take 0 p) box
unfolding Meets
base_start m p box is domains =
    let own : IsBox (box_of m.doms) = subst IsBox is domains in
    rw is (record {
      keeps = λ θ h meet. whole_keeps m θ h;
      lies = λ θ lies. meets_none θ;
      within = whole_within m;
      domains = own;
    })

-- ---- one decision more
pub side_reached : (m : Parts) (p : List Decision) (d : Decision) (box cut : List (List ℤ)) → Reached m p box → CutsTo d box cut → Reached m (p ++ d ∷ []) cut
side_reached m p d box cut base cuts = record {
  keeps = λ θ h meet. let parts = push_meets p d θ meet in cuts.all θ (base.keeps θ h parts.0) parts.1;
  lies = λ θ lies. let parts = cuts.only θ lies in meets_push p d θ (base.lies θ parts.0) parts.1;
  within = record {
    count = cuts.count ∙ base.within.count;
    within = λ k z has. base.within.within k z (cuts.within k z has);
  };
  domains = cuts.domains;
}

pub base_more : (m : Parts) (p : List Decision) (i : ℕ) (d : Decision) (box cut : List (List ℤ)) → i < length p → Reached m (take i p) box → CutsTo (slice_index_or p i d) box cut → Reached m (take (i + 1) p) cut
base_more m p i d box cut h base cuts = rw (take_more p i d h) (side_reached m (take i p) (slice_index_or p i d) box cut base cuts)

pub reached_node : (m : Parts) (p : List Decision) (box : List (List ℤ)) → Reached m p box → IsBase m p box
unfolding IsBase
reached_node m p box base b = record {
  keeps = λ θ solves meet less. base.keeps θ solves.domains meet;
  lies = base.lies;
  within = base.within;
  domains = base.domains;
}

pub base_all : (m : Parts) (p : List Decision) (i : ℕ) (box : List (List ℤ)) → i ≡ length p → Reached m (take i p) box → IsBase m p box
base_all m p i box e base = reached_node m p box (subst (λ (q : List Decision). Reached m q box) (ap (λ n. take n p) e ∙ take-length p) base)

-- ---- a path that none meets
both : (a b : Bool) → (a && b) ≡ true → (a ≡ true) × (b ≡ true)
both true b h = (refl, h)
both false b h = cc

and : (a b : Bool) → a ≡ true → b ≡ true → (a && b) ≡ true
and a b h k = rw (h, k) refl

front_meets : (p : List Decision) (i : ℕ) (θ : List ℤ) → Meets p θ → Meets (take i p) θ
unfolding Meets meets
front_meets [] zero θ h = refl
front_meets [] (suc i) θ h = refl
front_meets (d ∷ p) zero θ h = refl
front_meets (d ∷ p) (suc i) θ h =
    let parts = both (obeys d θ) (meets p θ) h in and (obeys d θ) (meets (take i p) θ) parts.0 (front_meets p i θ parts.1)

pub none_meets : (m : Parts) (p : List Decision) (i : ℕ) (d : Decision) (box : List (List ℤ)) → i < length p → Reached m (take i p) box → NoneObeys (slice_index_or p i d) box → NoneMeets m p
unfolding NoneObeys NoneMeets
none_meets m p i d box h base none θ lies meet =
    let front : Meets (take (i + 1) p) θ = front_meets p (i + 1) θ meet in
    let parts = push_meets (take i p) (slice_index_or p i d) θ (subst (λ (q : List Decision). Meets q θ) (take_more p i d h) front) in
    none θ (base.keeps θ lies parts.0) parts.1
