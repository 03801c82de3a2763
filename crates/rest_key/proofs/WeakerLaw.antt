-- Where one constraint is weaker than another, it holds wherever the other does; where one residual problem dominates
-- another, it includes it.
use Rattle.std.proofs.Common.{◌≡◌, ℕ, inl, inr, List, ◌++◌, map, length, get_or, sym, subst, ◌∙◌, arith, ℤ}
use Rattle.std.proofs.lemmas.Int.{ints}
use Rattle.std.specs.Int.Signed.{≤ℤ_refl}
use Rattle.fzn_model.specs.declared.term.Term.{Term}
use Rattle.fzn_model.specs.declared.term.Term.TheVariants as term
use Rattle.fzn_model.specs.declared.lin.Rel.{Rel}
use Rattle.fzn_model.specs.declared.lin.Rel.TheVariants as rel
use Rattle.fzn_model.specs.declared.lin.Lin.{Lin}
use Rattle.fzn_model.specs.declared.base.Base.{Base}
use Rattle.fzn_model.specs.declared.base.Base.TheVariants as base
use Rattle.fzn_model.specs.declared.cumulative.Used.{Used}
use Rattle.fzn_model.specs.declared.con.Con.{Con}
use Rattle.fzn_model.specs.declared.con.Con.TheVariants as con
use Rattle.fzn_model.specs.Meaning.{val, usage, lin_sum, Stands, HasValue, IsFree, AreUntaken, FitsAlways, HasRow, IsRow, Holds, HoldsBase}
use Rattle.fzn_model.specs.Solutions.{InDomains, MeetsAll}
use Rattle.fzn_model.specs.Rests.{RestParts, rest_cost}
use Rattle.fzn_model.proofs.Moments.{amount_append}
use Rattle.rest_key.specs.Weaker.{IsAmong, AreAmong, SetWithin, IsOneRow, RowsWithin, LeavesAsMuch, UsesNoMore, WeakerLin, WeakerBase, WeakerCapacity, Weaker}
use Rattle.rest_key.specs.Dominance.{IsCovered, AreCovered, DomainsWithin, Dominates, Includes}

lin_weaker : (l0 l : Lin) (θ : List ℤ) (a b : Rel) → WeakerLin a l0 b l → Stands b (lin_sum l.terms θ) l.r → Stands a (lin_sum l0.terms θ) l0.r
lin_weaker l0 l θ rel.Le rel.Le w h = rw w.0 (omega (arith, ints, h, w.1))
lin_weaker l0 l θ rel.Eq rel.Eq w h = rw w.0 (h ∙ w.1)
lin_weaker l0 l θ rel.Ne rel.Ne w h = rw w.0 (λ e. h (e ∙ sym w.1))
lin_weaker l0 l θ _ _ w h = absurd w

-- a literal with the value is one of more literals
has_value_among : (ts0 ts : List Term) (z : ℤ) (θ : List ℤ) → AreAmong ts ts0 → HasValue ts z θ → HasValue ts0 z θ
unfolding HasValue AreAmong IsAmong
has_value_among ts0 ts z θ among (k, t, below, same, value) = let (j, inside, found) = rw same at (among k t below) in (j, t, inside, found, value)

base_weaker : (b0 b : Base) (θ : List ℤ) → WeakerBase b0 b → HoldsBase b θ → HoldsBase b0 θ
unfolding SetWithin
base_weaker (base.Lin l0) (base.Lin l) θ w h = lin_weaker l0 l θ l0.rel l.rel w h
base_weaker (base.Clause c0) (base.Clause c) θ w h = elim h [ inl p ↦ inl (has_value_among c0.pos c.pos _ θ w.0 p) | inr p ↦ inr (has_value_among c0.neg c.neg _ θ w.1 p) ]
base_weaker (base.Member m0) (base.Member m) θ w h = rw w.0 (w.1 (val m.x θ) h)
base_weaker _ _ θ w h = absurd w

-- what is free of more taken values is free of fewer
untaken_among : (xs : List Term) (taken0 taken : List ℤ) (θ : List ℤ) → AreAmong taken0 taken → AreUntaken xs taken θ → AreUntaken xs taken0 θ
unfolding AreUntaken IsFree AreAmong IsAmong
untaken_among xs taken0 taken θ among free k d below (j, inside, found) = free k d below (rw found at (among j (val (get_or xs k d) θ) inside))

-- with as much left at each moment, what fits beside the second fits beside the first
fits_left : (b0 b : ℤ) (us0 us ks : List Used) → LeavesAsMuch b0 us0 b us → FitsAlways (us ++ ks) b → FitsAlways (us0 ++ ks) b0
unfolding LeavesAsMuch FitsAlways
fits_left b0 b us0 us ks w f t = let p = amount_append us0 ks t in let q = amount_append us ks t in let e = w t in let h = f t in omega (arith, ints, p, q, e, h)

fits_less : (b : ℤ) (us0 us ks : List Used) → UsesNoMore us0 us → FitsAlways (us ++ ks) b → FitsAlways (us0 ++ ks) b
unfolding UsesNoMore FitsAlways
fits_less b us0 us ks w f t = let p = amount_append us0 ks t in let q = amount_append us ks t in let e = w t in let h = f t in omega (arith, ints, p, q, e, h)

capacity_weaker : (us0 : List Used) (b0 : Term) (us : List Used) (b : Term) (ks : List Used) (θ : List ℤ) → WeakerCapacity us0 b0 us b → FitsAlways (us ++ ks) (val b θ) → FitsAlways (us0 ++ ks) (val b0 θ)
capacity_weaker us0 (term.Const z0) us (term.Const z) ks θ w f = fits_left z0 z us0 us ks w f
capacity_weaker us0 (term.Const z0) us (term.Var k) ks θ w f = subst (λ (t : Term). FitsAlways (us0 ++ ks) (val t θ)) (sym w.0) (fits_less _ us0 us ks w.1 f)
capacity_weaker us0 (term.Var k0) us b ks θ w f = subst (λ (t : Term). FitsAlways (us0 ++ ks) (val t θ)) (sym w.0) (fits_less _ us0 us ks w.1 f)

row_within : (xs : List Term) (rows0 rows : List ℤ) (θ : List ℤ) → RowsWithin (length xs) rows rows0 → HasRow xs rows θ → HasRow xs rows0 θ
unfolding RowsWithin IsOneRow HasRow
row_within xs rows0 rows θ w (k, below, is) = let (j, inside, same) = w k below in (j, inside, subst (λ (row : List ℤ). IsRow xs row θ) (sym same) is)

-- a constraint that is equal
equal_holds : (c0 c : Con) (θ : List ℤ) → c0 ≡ c → Holds c θ → Holds c0 θ
equal_holds c0 c θ e h = subst (λ (d : Con). Holds d θ) (sym e) h

pub weaker_holds : (c0 c : Con) (θ : List ℤ) → Weaker c0 c → Holds c θ → Holds c0 θ
weaker_holds (con.Base b0) (con.Base b) θ w h = base_weaker b0 b θ w h
weaker_holds (con.Base b0) c θ w h = absurd w
weaker_holds (con.AllDiffExcept xs0 taken0) (con.AllDiffExcept xs taken) θ w h = rw w.0 (h.0, untaken_among xs taken0 taken θ w.1 h.1)
weaker_holds (con.AllDiffExcept xs0 taken0) c θ w h = absurd w
weaker_holds (con.CumulUsed tasks0 used0 b0) (con.CumulUsed tasks used b) θ w h = rw w.0 (h.0, capacity_weaker used0 b0 used b (map (usage θ) tasks) θ w.1 h.1)
weaker_holds (con.CumulUsed tasks0 used0 b0) c θ w h = absurd w
weaker_holds (con.Table xs0 rows0) (con.Table xs rows) θ w h = rw w.0 (row_within xs rows0 rows θ w.1 h)
weaker_holds (con.Table xs0 rows0) c θ w h = absurd w
weaker_holds c0 c θ w h = equal_holds c0 c θ w h

covered_holds : (r : RestParts) (θ : List ℤ) (n : ℕ) (c : Con) → MeetsAll r.cons θ → IsCovered r.cons r.labels n c → Holds c θ
unfolding IsCovered MeetsAll
covered_holds r θ n c meets (j, below, same, w) = weaker_holds c (get_or r.cons j c) θ w (meets j c below)

pub dominates_includes : (r0 r : RestParts) → Dominates r0 r → Includes r0 r
unfolding AreCovered DomainsWithin SetWithin InDomains MeetsAll
dominates_includes r0 r d = record {
  solves = λ θ s. record {
    domains = (d.count ∙ s.domains.0, λ k e below. d.domains k e (omega (arith, below, d.count)) _ (s.domains.1 k e (omega (arith, below, d.count))));
    constraints = λ i e below. covered_holds r θ _ _ s.constraints (d.constraints i e below);
  };
  cheaper = λ θ s. rw d.cost (≤ℤ_refl (rest_cost r θ));
}
