-- The constraints of a model are over the box of its domains.
use Rattle.std.specs.Prelude.{◌≡◌, ℕ, zero, suc, ◌<◌, List, [], ◌∷◌, length, slice_index_or, ℤ, pos, ◌+ℤ◌, ◌≤ℤ◌, All}
use Rattle.std.specs.Int.{int_gap}
use Rattle.std.specs.List.{flat_map}
use Rattle.std.proofs.Common.{sym, subst, refl, arith}
use Rattle.std.proofs.lemmas.Int.{ints}
use Rattle.std.proofs.lemmas.List.{length-map, get_or_default}
use Rattle.std.proofs.Math.ListN.{get_or-map}
use Rattle.std.proofs.lemmas.List.Elements.{All-append, All-nil}
use Rattle.int_domain.specs.Values.{range, numbers_from, values_of}
use Rattle.int_domain.proofs.Members.{gap_is}
use Rattle.fzn_model.specs.declared.term.Term.{Term}
use Rattle.fzn_model.specs.declared.term.Term.TheVariants as term
use Rattle.fzn_model.specs.declared.base.Base.{Base}
use Rattle.fzn_model.specs.declared.base.Base.TheVariants as base
use Rattle.fzn_model.specs.declared.con.Con.{Con}
use Rattle.fzn_model.specs.declared.con.Con.TheVariants as con
use Rattle.fzn_model.specs.Parts.{Parts}
use Rattle.fzn_model.specs.Limits.{IsBit, IsTruth, BaseTruths, ConTruths, ConInLimits, of_model, IsModel}
use Rattle.fzn_model.proofs.Wider.{con_of_call}
use Rattle.fzn_model.specs.Booleans.{IsBoolean, BaseBooleans, ConBooleans, FitsBox}
use Rattle.dom_store.specs.Stores.{HasEmpty}
use Rattle.dom_store.specs.Views.{box_of}

bits_from : (n : ℕ) (low : ℤ) → pos 0 ≤ℤ low → (low +ℤ pos n) ≤ℤ pos 2 → All IsBit (numbers_from low n)
unfolding numbers_from
bits_from zero low from to k d h = absurd (omega (arith, h))
bits_from (suc n) low from to zero d h = (from, omega (arith, ints))
bits_from (suc n) low from to (suc k) d h = bits_from n (low +ℤ pos 1) (omega (arith, ints)) (omega (arith, ints)) k d (omega (arith, h))

bits_range : (low high : ℤ) → IsBit low → IsBit high → All IsBit (range low high)
unfolding range
bits_range low high a b =
    let is : low +ℤ pos (int_gap low (high +ℤ pos 1)) ≡ high +ℤ pos 1 = gap_is low (high +ℤ pos 1) (omega (arith, ints, a.0, a.1, b.0, b.1)) in
    bits_from (int_gap low (high +ℤ pos 1)) low a.0 (omega (arith, ints, is, b.1))

bits_values : (runs : List (ℤ × ℤ)) → All (λ run. IsBit run.0 × IsBit run.1) runs → All IsBit (values_of runs)
unfolding values_of
bits_values [] all = All-nil IsBit
bits_values (run ∷ runs) all =
    let here = all zero run (omega arith) in
    All-append IsBit (range run.0 run.1) (flat_map (λ (r : ℤ × ℤ). range r.0 r.1) runs) (bits_range run.0 run.1 here.0 here.1) (bits_values runs (λ k d h. all (suc k) d (omega (arith, h))))

module _ (ds : List (List (ℤ × ℤ))) where
  domain_is : (k : ℕ) → slice_index_or (box_of ds) k [] ≡ values_of (slice_index_or ds k [])
  unfolding values_of
  domain_is k = get_or-map values_of ds k []

  boolean_of : (t : Term) → IsTruth ds t → IsBoolean (box_of ds) t
  boolean_of (term.Const z) h = h
  boolean_of (term.Var k) h = subst (All IsBit) (sym (domain_is k)) (bits_values (slice_index_or ds k []) h)

  booleans_of : (ts : List Term) → All (IsTruth ds) ts → All (IsBoolean (box_of ds)) ts
  booleans_of ts all k d h = boolean_of (slice_index_or ts k d) (all k d h)

  base_of : (b : Base) → BaseTruths ds b → BaseBooleans (box_of ds) b
  base_of (base.Lin l) h = tt
  base_of (base.Clause c) h = (booleans_of c.pos h.0, booleans_of c.neg h.1)
  base_of (base.Member m) h = tt

  con_of : (c : Con) → ConTruths ds c → ConBooleans (box_of ds) c
  con_of (con.Base b) h = base_of b h
  con_of (con.Reif b r f) h = (base_of b h.0, boolean_of r h.1)
  con_of c h = tt

pub model_fits : (m : Parts) → IsModel m → All (FitsBox (box_of m.doms)) m.cons
model_fits m model k d h = record {
  kept = con_of_call (length (box_of m.doms)) (slice_index_or m.cons k d) (subst (λ n. ConInLimits of_model n (slice_index_or m.cons k d)) (sym (length-map m.doms values_of)) (model.cons k d h));
  booleans = con_of m.doms (slice_index_or m.cons k d) (model.truths k d h);
}

-- where a store is made, no domain is empty
not_empty : (d : List (ℤ × ℤ)) → (d ≡ [] → ⊥) → 0 < length d
not_empty [] some = absurd (some refl)
not_empty (run ∷ runs) some = omega arith

pub none_empty : (ds : List (List (ℤ × ℤ))) → (HasEmpty ds → ⊥) → All (λ d. 0 < length d) ds
none_empty ds full k d h = not_empty (slice_index_or ds k d) (λ e. full (k, slice_index_or ds k d, h, get_or_default ds k (slice_index_or ds k d) d h, e))
