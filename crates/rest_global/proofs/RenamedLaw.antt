-- A constraint whose terms are replaced by terms of the same values holds where it did.
use Rattle.std.proofs.Common.{◌≡◌, ℕ, ◌<◌, List, [], ◌∷◌, map, length, get_or, refl, ap, sym, ◌∙◌, arith, ℤ, pos, ◌+ℤ◌, ◌*ℤ◌, ◌≤ℤ◌, inl, inr, subst}
use Rattle.std.specs.Prelude.{◌⊎◌, ◌↔◌, All}
use Rattle.std.proofs.lemmas.List.Elements.{All-head, All-tail}
use Rattle.std.proofs.lemmas.List.{get_or-map, length-map, get_or_default}
use Rattle.fzn_model.specs.declared.term.Term.{Term}
use Rattle.fzn_model.specs.declared.base.Base.{Base}
use Rattle.fzn_model.specs.declared.base.Base.TheVariants as base
use Rattle.fzn_model.specs.declared.cumulative.CumTask.{CumTask}
use Rattle.fzn_model.specs.declared.con.Con.{Con}
use Rattle.fzn_model.specs.declared.con.Con.TheVariants as con
use Rattle.fzn_model.specs.Sets.{IsIn}
use Rattle.fzn_model.specs.Meaning.{val, bit, Stands, lin_sum, HasValue, AreAtMost, AreAtLeast, IsFree, AreUntaken, AreDistinct, usage, AreTasks, IsRow, HasRow, HoldsBase, HoldsElement, Holds}
use Rattle.fzn_model.specs.Limits.{TermIn, BaseInLimits, ConInLimits, of_call}
use Rattle.rest_global.specs.Renamed.{terms_by, linear_terms_by, task_by, tasks_by, base_by, con_by}

module _ (to : Term → Term) (n : ℕ) (θ ρ : List ℤ) (same : (t : Term) → TermIn n t → val (to t) ρ ≡ val t θ) where
  at_same : (ts : List Term) (k : ℕ) (d e : Term) → All (TermIn n) ts → k < length ts → val (get_or (map to ts) k e) ρ ≡ val (get_or ts k d) θ
  at_same ts k d e kept below = ap (λ (t : Term). val t ρ) (get_or-map to ts k d e below) ∙ same (get_or ts k d) (kept k d below)

  all_same : (P : ℤ → Type 0) (ts : List Term) → All (TermIn n) ts → All (λ t. P (val t ρ)) (terms_by to ts) ↔ All (λ t. P (val t θ)) ts
  unfolding terms_by
  all_same P ts kept = (
    (λ h k d below. subst P (at_same ts k d d kept below) (h k d (rw (length-map ts to) below))),
    (λ h k d below. let inside : k < length ts = rw (length-map ts to) at below in subst P (sym (at_same ts k d d kept inside)) (h k d inside)),
  )

  has_same : (z : ℤ) (ts : List Term) → All (TermIn n) ts → HasValue (terms_by to ts) z ρ ↔ HasValue ts z θ
  unfolding terms_by HasValue
  has_same z ts kept = (
    (λ (k, x, below, is, value). let inside : k < length ts = rw (length-map ts to) at below in
        (k, get_or ts k x, inside, get_or_default ts k (get_or ts k x) x inside, sym (at_same ts k x x kept inside) ∙ ap (λ (t : Term). val t ρ) is ∙ value)),
    (λ (k, x, below, is, value).
        (k, get_or (map to ts) k x, rw (length-map ts to) below, get_or_default (map to ts) k (get_or (map to ts) k x) x (rw (length-map ts to) below), at_same ts k x x kept below ∙ ap (λ (t : Term). val t θ) is ∙ value)),
  )

  distinct_same : (ts : List Term) → All (TermIn n) ts → AreDistinct (terms_by to ts) ρ ↔ AreDistinct ts θ
  unfolding terms_by AreDistinct
  distinct_same ts kept = (
    (λ h a c d less below equal. h a c d less (rw (length-map ts to) below) (at_same ts a d d kept (omega (arith, less, below)) ∙ equal ∙ sym (at_same ts c d d kept below))),
    (λ h a c d less below equal. let inside : c < length ts = rw (length-map ts to) at below in
        h a c d less inside (sym (at_same ts a d d kept (omega (arith, less, inside))) ∙ equal ∙ at_same ts c d d kept inside)),
  )

  sum_same : (ts : List (ℤ × Term)) → All (λ (t : ℤ × Term). TermIn n t.1) ts → lin_sum (linear_terms_by to ts) ρ ≡ lin_sum ts θ
  unfolding linear_terms_by
  sum_same [] kept = refl
  sum_same (t ∷ ts) kept = λ i. (t.0 *ℤ same t.1 (All-head (λ (u : ℤ × Term). TermIn n u.1) t ts kept) i) +ℤ sum_same ts (All-tail (λ (u : ℤ × Term). TermIn n u.1) t ts kept) i

  row_same : (ts : List Term) (row : List ℤ) → All (TermIn n) ts → IsRow (terms_by to ts) row ρ ↔ IsRow ts row θ
  unfolding terms_by IsRow
  row_same ts row kept = (
    (λ h j d below. h j d (rw (length-map ts to) below) ∙ at_same ts j d d kept below),
    (λ h j d below. let inside : j < length ts = rw (length-map ts to) at below in h j d inside ∙ sym (at_same ts j d d kept inside)),
  )

  length_by : (ts : List Term) → length (terms_by to ts) ≡ length ts
  unfolding terms_by
  length_by ts = length-map ts to

  table_same : (ts : List Term) (rows : List ℤ) → All (TermIn n) ts → HasRow (terms_by to ts) rows ρ ↔ HasRow ts rows θ
  unfolding HasRow
  table_same ts rows kept =
      let width : length (terms_by to ts) ≡ length ts = length_by ts in
      rw width (
        (λ (k, below, row). (k, below, (row_same ts _ kept).0 row)),
        (λ (k, below, row). (k, below, (row_same ts _ kept).1 row)),
      )

  abbrev TaskIn : CumTask → Type 0
  TaskIn k = TermIn n k.s × TermIn n k.d × TermIn n k.r

  usages_same : (ks : List CumTask) → All TaskIn ks → map (usage ρ) (tasks_by to ks) ≡ map (usage θ) ks
  unfolding tasks_by
  usages_same [] kept = refl
  usages_same (k ∷ ks) kept = λ i.
      let here = All-head TaskIn k ks kept in
      record { from = same k.s here.0 i; to = same k.s here.0 i +ℤ same k.d here.1 i; amount = same k.r here.2 i } ∷ usages_same ks (All-tail TaskIn k ks kept) i

  tasks_same : (ks : List CumTask) → All TaskIn ks → AreTasks (tasks_by to ks) ρ ↔ AreTasks ks θ
  unfolding tasks_by AreTasks
  tasks_same ks kept = (
    (λ h k d below.
        let now = h k d (rw (length-map ks (task_by to)) below) in
        let e = get_or-map (task_by to) ks k d d below in
        let here = kept k d below in
        let long : pos 0 ≤ℤ val (to (get_or ks k d).d) ρ = subst (λ (t : CumTask). pos 0 ≤ℤ val t.d ρ) e now.0 in
        let much : pos 0 ≤ℤ val (to (get_or ks k d).r) ρ = subst (λ (t : CumTask). pos 0 ≤ℤ val t.r ρ) e now.1 in
        (subst (λ (z : ℤ). pos 0 ≤ℤ z) (same _ here.1) long, subst (λ (z : ℤ). pos 0 ≤ℤ z) (same _ here.2) much)),
    (λ h k d below.
        let inside : k < length ks = rw (length-map ks (task_by to)) at below in
        let now = h k d inside in
        let e = get_or-map (task_by to) ks k d d inside in
        let here = kept k d inside in
        let long : pos 0 ≤ℤ val (to (get_or ks k d).d) ρ = subst (λ (z : ℤ). pos 0 ≤ℤ z) (sym (same _ here.1)) now.0 in
        let much : pos 0 ≤ℤ val (to (get_or ks k d).r) ρ = subst (λ (z : ℤ). pos 0 ≤ℤ z) (sym (same _ here.2)) now.1 in
        (subst (λ (t : CumTask). pos 0 ≤ℤ val t.d ρ) (sym e) long, subst (λ (t : CumTask). pos 0 ≤ℤ val t.r ρ) (sym e) much)),
  )

  either_same : {P Q R S : Type 0} → (P ↔ Q) → (R ↔ S) → (P ⊎ R) ↔ (Q ⊎ S)
  either_same x y = (λ h. elim h [ inl p ↦ inl (x.0 p) | inr p ↦ inr (y.0 p) ], λ h. elim h [ inl p ↦ inl (x.1 p) | inr p ↦ inr (y.1 p) ])

  both_same : {P Q R S : Type 0} → (P ↔ Q) → (R ↔ S) → (P × R) ↔ (Q × S)
  both_same x y = (λ (p, r). (x.0 p, y.0 r), λ (p, r). (x.1 p, y.1 r))

  as_same : {P Q R S : Type 0} → (P ↔ Q) → (R ↔ S) → (P ↔ R) ↔ (Q ↔ S)
  as_same x y = (λ h. (λ q. y.0 (h.0 (x.1 q)), λ s. x.0 (h.1 (y.1 s))), λ h. (λ p. y.1 (h.0 (x.0 p)), λ r. x.1 (h.1 (y.0 r))))

  equal_same : {a b : ℤ} (P : ℤ → Type 0) → a ≡ b → P a ↔ P b
  equal_same P e = (λ h. subst P e h, λ h. subst P (sym e) h)

  base_same : (c : Base) → BaseInLimits of_call n c → HoldsBase (base_by to c) ρ ↔ HoldsBase c θ
  base_same (base.Lin l) kept = equal_same (λ z. Stands l.rel z l.r) (sum_same l.terms kept.sum.terms)
  base_same (base.Clause c) kept = either_same (has_same (pos 1) c.pos kept.pos.terms) (has_same (pos 0) c.neg kept.neg.terms)
  base_same (base.Member m) kept = equal_same (λ z. IsIn m.set z) (same m.x kept.x)

  most_same : (m : Term) (ts : List Term) → TermIn n m → All (TermIn n) ts → (HasValue (terms_by to ts) (val (to m) ρ) ρ × AreAtMost (terms_by to ts) (val (to m) ρ) ρ) ↔ (HasValue ts (val m θ) θ × AreAtMost ts (val m θ) θ)
  unfolding AreAtMost
  most_same m ts here kept = rw (same m here) (both_same (has_same (val m θ) ts kept) (all_same (λ y. y ≤ℤ val m θ) ts kept))

  least_same : (m : Term) (ts : List Term) → TermIn n m → All (TermIn n) ts → (HasValue (terms_by to ts) (val (to m) ρ) ρ × AreAtLeast (terms_by to ts) (val (to m) ρ) ρ) ↔ (HasValue ts (val m θ) θ × AreAtLeast ts (val m θ) θ)
  unfolding AreAtLeast
  least_same m ts here kept = rw (same m here) (both_same (has_same (val m θ) ts kept) (all_same (λ y. val m θ ≤ℤ y) ts kept))

  untaken_same : (taken : List ℤ) (ts : List Term) → All (TermIn n) ts → AreUntaken (terms_by to ts) taken ρ ↔ AreUntaken ts taken θ
  unfolding AreUntaken
  untaken_same taken ts kept = all_same (IsFree taken) ts kept

  element_same : (i : Term) (ts : List Term) (c : Term) → TermIn n i → All (TermIn n) ts → TermIn n c → HoldsElement (to i) (terms_by to ts) (to c) ρ ↔ HoldsElement i ts c θ
  unfolding terms_by
  element_same i ts c first kept last = rw (same i first, same c last, length-map ts to) (
    (λ (k, below, at, equal). (k, below, at, sym (at_same ts k c (to c) kept below) ∙ equal)),
    (λ (k, below, at, equal). (k, below, at, at_same ts k c (to c) kept below ∙ equal)),
  )

  -- a constraint holds where it did
  pub con_same : (c : Con) → ConInLimits of_call n c → Holds (con_by to c) ρ ↔ Holds c θ
  con_same (con.Base c) kept = base_same c kept
  con_same (con.Reif c r f) kept = as_same (base_same c kept.0) (equal_same (λ z. z ≡ bit f) (same r kept.1))
  con_same (con.Times a b c) kept = rw (same a kept.0, same b kept.1, same c kept.2) (λ h. h, λ h. h)
  con_same (con.Abs a b) kept = rw (same a kept.0, same b kept.1) (λ h. h, λ h. h)
  con_same (con.Div a b c) kept = rw (same a kept.0, same b kept.1, same c kept.2) (λ h. h, λ h. h)
  con_same (con.Mod a b c) kept = rw (same a kept.0, same b kept.1, same c kept.2) (λ h. h, λ h. h)
  con_same (con.Greatest m xs) kept = most_same m xs kept.0 kept.1.terms.terms
  con_same (con.Least m xs) kept = least_same m xs kept.0 kept.1.terms.terms
  con_same (con.Element i xs c) kept = element_same i xs c kept.0 kept.1.terms kept.2
  con_same (con.AllDiffExcept xs taken) kept = both_same (distinct_same xs kept.0.terms) (untaken_same taken xs kept.0.terms)
  con_same (con.CumulUsed tasks used b) kept = rw (same b kept.2, usages_same tasks kept.0.terms) (both_same (tasks_same tasks kept.0.terms) (λ h. h, λ h. h))
  con_same (con.Table xs rows) kept = table_same xs rows kept.columns.terms.terms
