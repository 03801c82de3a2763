-- Both sides of a cut, and what settles a path.
use Rattle.std.proofs.Common.{◌≡◌, ◌⊎◌, inl, inr, ◌+◌, ◌≤◌, Bool, true, false, List, [], ◌∷◌, ◌++◌, get_or, refl, sym, ◌∙◌, subst, ℤ, pos, arith}
use Rattle.std.specs.Prelude.{◌&&◌, not, int_le, int_lt, if◌then◌else◌, ◌≤ℤ◌, ◌<ℤ◌, ◌-ℤ◌}
use Rattle.std.proofs.lemmas.Int.{ints}
use Rattle.std.proofs.lemmas.List.{get_or_default}
use Rattle.fzn_model.specs.Parts.{Parts}
use Rattle.fzn_model.specs.Solutions.{cost, InDomains}
use Rattle.fzn_model.specs.Boxes.{InBox}
use Rattle.fzn_model.specs.Rests.{RestParts, IsRestOf, IsTrueEntry, LiesWithin, rest_cost}
use Rattle.fzn_model.specs.Sets.{IsIn}
use Rattle.rest_key.specs.Dominance.{Dominates, Includes}
use Rattle.rest_key.proofs.WeakerLaw.{dominates_includes}
use Rattle.search_core.specs.declared.decision.Decision.{Decision}
use Rattle.search_core.specs.Paths.{meets, Meets, obeys, opposite, Settled}
use Rattle.search_core.specs.Sizes.{size}
use Rattle.search_core.proofs.Meeting.{meets_is}
use Rattle.search_core.proofs.Counting.{size_splits, met_size}
use Rattle.explorer.specs.Nodes.{IsNode}
use Rattle.explorer.specs.Frames.{HasSide, HasBoth, weight}
use Rattle.explorer.specs.Walking.{CutsTo}

both : (a b : Bool) → (a && b) ≡ true → (a ≡ true) × (b ≡ true)
both true b h = (refl, h)
both false b h = cc

and : (a b : Bool) → a ≡ true → b ≡ true → (a && b) ≡ true
and a b h k = rw (h, k) refl

pub meets_push : (p : List Decision) (d : Decision) (θ : List ℤ) → Meets p θ → obeys d θ ≡ true → Meets (p ++ d ∷ []) θ
unfolding Meets
meets_push p d θ h o = meets_is p d θ ∙ and (meets p θ) (obeys d θ) h o

pub push_meets : (p : List Decision) (d : Decision) (θ : List ℤ) → Meets (p ++ d ∷ []) θ → Meets p θ × (obeys d θ ≡ true)
unfolding Meets
push_meets p d θ h = both (meets p θ) (obeys d θ) (sym (meets_is p d θ) ∙ h)

either : (up b : Bool) → ((if up then not b else b) ≡ true) ⊎ ((if not up then not b else b) ≡ true)
either true true = inr refl
either true false = inl refl
either false true = inl refl
either false false = inr refl

-- an assignment is on one of the two sides
pub one_side : (d : Decision) (θ : List ℤ) → (obeys d θ ≡ true) ⊎ (obeys (opposite d) θ ≡ true)
one_side d θ = either d.up (int_le (get_or θ d.var (pos 0)) d.at)

pub settled_lower : (m : Parts) (p : List Decision) (b c : ℤ) → Settled m p b → c ≤ℤ b → Settled m p c
unfolding Settled
settled_lower m p b c s h θ solves meet = omega (arith, ints, h, s θ solves meet)

pub join_settled : (m : Parts) (p : List Decision) (d : Decision) (b : ℤ) → Settled m (p ++ d ∷ []) b → Settled m (p ++ opposite d ∷ []) b → Settled m p b
unfolding Settled
join_settled m p d b s t θ solves meet =
    elim (one_side d θ) [ inl o ↦ s θ solves (meets_push p d θ meet o) | inr o ↦ t θ solves (meets_push p (opposite d) θ meet o) ]

pub node_lower : (m : Parts) (p : List Decision) (box : List (List ℤ)) (b c : ℤ) → IsNode m p box b → c ≤ℤ b → IsNode m p box c
node_lower m p box b c n h = record {
  keeps = λ θ s q l. n.keeps θ s q (omega (arith, ints, l, h));
  lies = n.lies;
  within = n.within;
  domains = n.domains;
}

-- the node of a side
pub side_node : (m : Parts) (p : List Decision) (d : Decision) (box new : List (List ℤ)) (b : ℤ) → IsNode m p box b → CutsTo d box new → IsNode m (p ++ d ∷ []) new b
side_node m p d box new b n c = record {
  keeps = λ θ s q l. let (meet, o) = push_meets p d θ q in c.all θ (n.keeps θ s meet l) o;
  lies = λ θ i. let (old, o) = c.only θ i in meets_push p d θ (n.lies θ old) o;
  within = record {
    count = c.count ∙ n.within.count;
    within = λ k z has. n.within.within k z (c.within k z has);
  };
  domains = c.domains;
}

-- what lies in the box lies in the model's domains
pub in_domains : (m : Parts) (box : List (List ℤ)) (θ : List ℤ) → LiesWithin box m → InBox box θ → InDomains m.doms θ
unfolding InDomains
in_domains m box θ w i = (
  sym w.count ∙ sym i.count,
  λ k d l. subst (λ (set : List (ℤ × ℤ)). IsIn set (get_or θ k (pos 0))) (get_or_default m.doms k [] d l) (w.within k (get_or θ k (pos 0)) (i.each k (omega (arith, l, w.count)))),
)

-- ---- sizes
pub side_size : (m : Parts) (p : List Decision) (d : Decision) (box : List (List ℤ)) (b : ℤ) → IsNode m p box b → HasSide box d → 1 ≤ size m (p ++ d ∷ [])
side_size m p d box b n h =
    let (θ, i, o) = h.some in
    met_size m (p ++ d ∷ []) θ (in_domains m box θ n.within i) (meets_push p d θ (n.lies θ i) o)

pub weight_split : (m : Parts) (p : List Decision) (d : Decision) (box : List (List ℤ)) (b : ℤ) → IsNode m p box b → HasBoth box d → weight m p ≡ 1 + weight m (p ++ d ∷ []) + weight m (p ++ opposite d ∷ [])
unfolding weight HasBoth
weight_split m p d box b n h =
    let one : 1 ≤ size m (p ++ d ∷ []) = side_size m p d box b n h.0 in
    let two : 1 ≤ size m (p ++ opposite d ∷ []) = side_size m p (opposite d) box b n h.1 in
    omega (arith, one, two, size_splits m p d)

-- ---- residual problems, entries and hits
pub rest_of_path : (m : Parts) (p : List Decision) (box : List (List ℤ)) (b : ℤ) (r : RestParts) (o : ℤ) → IsNode m p box b → IsRestOf (InBox box) m b r o → IsRestOf (Meets p) m b r o
rest_of_path m p box b r o n rest = record {
  down = λ θ s q l. rest.down θ s (n.keeps θ s q l) l;
  up = λ ρ s l. let (θ, a, i, c) = rest.up ρ s l in (θ, a, n.lies θ i, c);
}

below_not : (a b : ℤ) → (a <ℤ b → ⊥) → b ≤ℤ a
below_not a b h = by_test (int_lt a b) refl
  where
    by_test : (t : Bool) → int_lt a b ≡ t → b ≤ℤ a
    by_test true e = absurd (h (grind (arith, ints, e)))
    by_test false e = grind (arith, ints, e)

-- the entry that is published is true
pub true_entry : (m : Parts) (p : List Decision) (seen b : ℤ) (r : RestParts) (o : ℤ) → IsRestOf (Meets p) m seen r o → b ≤ℤ seen → Settled m p b → IsTrueEntry r (b -ℤ o)
unfolding Settled IsTrueEntry
true_entry m p seen b r o rest below settled ρ s =
    below_not (rest_cost r ρ) (b -ℤ o) (λ l.
    let (θ, a, q, c) = rest.up ρ s (omega (arith, ints, l, below)) in
    let high : b ≤ℤ cost m θ = settled θ a q in
    absurd (omega (arith, ints, l, c, high)))

-- a hit settles
pub hit_settled : (m : Parts) (p : List Decision) (seen bound : ℤ) (r r0 : RestParts) (o : ℤ) → IsRestOf (Meets p) m seen r o → IsTrueEntry r0 bound → Dominates r0 r → (seen -ℤ o) ≤ℤ bound → Settled m p seen
unfolding Settled IsTrueEntry
hit_settled m p seen bound r r0 o rest holds dom high θ s q =
    below_not (cost m θ) seen (λ l.
    let (ρ, a, c) = rest.down θ s q l in
    let inc : Includes r0 r = dominates_includes r0 r dom in
    let most : bound ≤ℤ rest_cost r0 ρ = holds ρ (inc.solves ρ a) in
    absurd (omega (arith, ints, l, c, most, inc.cheaper ρ a, high)))
