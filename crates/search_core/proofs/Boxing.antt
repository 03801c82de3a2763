-- What lies in the box that a path leaves.
use Rattle.std.proofs.Common.{◌≡◌, ℕ, ◌<◌, Bool, true, false, List, [], length, get_or, refl, sym, ap, subst, ◌∙◌, arith, ℤ, pos}
use Rattle.std.specs.Prelude.{◌↔◌, ◌==◌, ◌||◌, not, filter, Contains}
use Rattle.std.specs.List.{enumerate_from}
use Rattle.std.proofs.lemmas.List.{length-map, get_or-map, get_or_default}
use Rattle.std.proofs.lemmas.List.FromFn.{length-enumerate_from, get_or-enumerate_from}
use Rattle.std.proofs.lemmas.Bool.{eq-eqb, eqb-true}
use Rattle.int_domain.specs.Values.{values_of}
use Rattle.int_domain.proofs.Members.{has_filter, filter_has, contains_from_has, has_from_contains}
use Rattle.fzn_model.specs.Parts.{Parts}
use Rattle.fzn_model.specs.Solutions.{InDomains}
use Rattle.fzn_model.specs.Boxes.{InBox, domain_at}
use Rattle.search_core.specs.declared.decision.Decision.{Decision}
use Rattle.search_core.specs.Paths.{allows, Meets}
use Rattle.search_core.specs.Boxes.{can_have, path_box, IsOver}
use Rattle.search_core.proofs.Meeting.{each_of_all, all_of_each, each_obeyed, obeyed_all}
use Rattle.search_core.proofs.Counting.{value_of_set, in_set}

-- ---- tests of one decision
abbrev spares : ℕ → ℤ → Decision → Bool
spares k z d = not (d.var == k) || allows d z

applies : (a b : Bool) → a ≡ true → (not a || b) ≡ true → b ≡ true
applies true b e h = h
applies false b e h = cc

spared : (a b : Bool) → (a ≡ true → b ≡ true) → (not a || b) ≡ true
spared true b h = h refl
spared false b h = refl

has_allowed : (p : List Decision) (θ : List ℤ) (k : ℕ) (z : ℤ) → z ≡ get_or θ k (pos 0) → Meets p θ → can_have p k z ≡ true
has_allowed p θ k z e h = all_of_each (spares k z) p (λ j d l.
    let c : Decision = get_or p j d in
    spared (c.var == k) (allows c z) (λ same. ap (allows c) (e ∙ ap (λ n. get_or θ n (pos 0)) (sym (eqb-true c.var k same))) ∙ each_obeyed p θ h j d l))

-- ---- the domains of the box
box_length : (m : Parts) (p : List Decision) → length (path_box m p) ≡ length m.doms
unfolding path_box
box_length m p = length-map (enumerate_from 0 m.doms) (λ (x : ℕ × List (ℤ × ℤ)). filter (can_have p x.0) (values_of x.1)) ∙ length-enumerate_from 0 m.doms

domain_is : (m : Parts) (p : List Decision) (k : ℕ) → k < length m.doms → domain_at (path_box m p) k ≡ filter (can_have p k) (values_of (get_or m.doms k []))
unfolding path_box
domain_is m p k l =
    let f : ℕ × List (ℤ × ℤ) → List ℤ = λ x. filter (can_have p x.0) (values_of x.1) in
    get_or-map f (enumerate_from 0 m.doms) k (0, []) [] (omega (arith, length-enumerate_from 0 m.doms)) ∙ ap f (get_or-enumerate_from 0 m.doms k (0, []) l)
    ∙ ap (λ n. filter (can_have p n) (values_of (get_or m.doms k []))) (omega arith)

-- what the domain of a variable has
in_domain : (m : Parts) (p : List Decision) (k : ℕ) (z : ℤ) → k < length m.doms → Contains (domain_at (path_box m p) k) z → Contains (values_of (get_or m.doms k [])) z × (can_have p k z ≡ true)
in_domain m p k z l c =
    let values : List ℤ = values_of (get_or m.doms k []) in
    let kept : Contains (filter (can_have p k) values) z = subst (λ xs. Contains xs z) (domain_is m p k l) c in
    let h = has_filter (can_have p k) values z (has_from_contains (filter (can_have p k) values) z kept) in
    (contains_from_has values z h.0, h.1)

domain_has : (m : Parts) (p : List Decision) (k : ℕ) (z : ℤ) → k < length m.doms → Contains (values_of (get_or m.doms k [])) z → can_have p k z ≡ true → Contains (domain_at (path_box m p) k) z
domain_has m p k z l c h =
    let values : List ℤ = values_of (get_or m.doms k []) in
    let kept = filter_has (can_have p k) values z (has_from_contains values z c) h in
    subst (λ xs. Contains xs z) (sym (domain_is m p k l)) (contains_from_has (filter (can_have p k) values) z kept)

-- ---- assignments in the box
into_box : (m : Parts) (p : List Decision) (θ : List ℤ) → InDomains m.doms θ → Meets p θ → InBox (path_box m p) θ
unfolding InDomains
into_box m p θ h k = record {
  count = sym h.0 ∙ sym (box_length m p);
  each = λ i l.
      let below : i < length m.doms = omega (arith, l, box_length m p) in
      domain_has m p i (get_or θ i (pos 0)) below (value_of_set (get_or m.doms i []) (get_or θ i (pos 0)) (h.1 i [] below)) (has_allowed p θ i (get_or θ i (pos 0)) refl k);
}

out_of_box : (m : Parts) (p : List Decision) (θ : List ℤ) → IsOver m p → InBox (path_box m p) θ → InDomains m.doms θ × Meets p θ
unfolding InDomains IsOver
out_of_box m p θ over b =
    let at : (i : ℕ) → i < length m.doms → Contains (values_of (get_or m.doms i [])) (get_or θ i (pos 0)) × (can_have p i (get_or θ i (pos 0)) ≡ true) =
    λ i l. in_domain m p i (get_or θ i (pos 0)) l (b.each i (omega (arith, l, box_length m p))) in (
      (sym (b.count ∙ box_length m p), λ i d l. in_set (get_or m.doms i d) (get_or θ i (pos 0)) (subst (λ xs. Contains (values_of xs) (get_or θ i (pos 0))) (get_or_default m.doms i [] d l) (at i l).0)),
      obeyed_all p θ (λ j d l.
          let c : Decision = get_or p j d in
          let z : ℤ = get_or θ c.var (pos 0) in
          applies (c.var == c.var) (allows c z) (eq-eqb c.var c.var refl) (each_of_all (spares c.var z) p (at c.var (over j d l)).1 j d l)),
    )

pub box_of_path : (m : Parts) (p : List Decision) (θ : List ℤ) → IsOver m p → InBox (path_box m p) θ ↔ (InDomains m.doms θ × Meets p θ)
box_of_path m p θ over = (out_of_box m p θ over, λ h. into_box m p θ h.0 h.1)
