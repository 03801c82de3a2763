-- Where a task fits at its first and last start, and where it doesn't.
use Rattle.std.proofs.Common.{◌≡◌, ℕ, ◌+◌, ◌<◌, List, [], ◌∷◌, ◌++◌, map, length, get_or, ℤ, pos, ◌+ℤ◌, ◌≤ℤ◌, ◌<ℤ◌, sym, ap, ◌∙◌, subst, arith, inl, inr}
use Rattle.std.proofs.lemmas.Int.{ints, clamps, by_lt_z}
use Rattle.std.proofs.lemmas.List.{length-map, length-append, get_or-map, get_or_append_left, get_or-append-add, get_or_default}
use Rattle.std.proofs.lemmas.Bool.{cases_lt}
use Rattle.std.proofs.Math.Seq.{get_or-append_seam}
use Rattle.fzn_model.specs.declared.term.Term.{Term}
use Rattle.fzn_model.specs.declared.cumulative.CumTask.{CumTask}
use Rattle.fzn_model.specs.declared.cumulative.Used.{Used}
use Rattle.fzn_model.specs.declared.con.Con.TheVariants as con
use Rattle.fzn_model.specs.Meaning.{val, amount_at, Holds}
use Rattle.fzn_model.specs.Boxes.{InBox}
use Rattle.fzn_model.specs.Bounds.{term_low, term_high}
use Rattle.fzn_model.proofs.Terms.{val_low, val_high}
use Rattle.fzn_model.proofs.Moments.{part}
use Rattle.dom_store.specs.Strength.{part_of, IsMoment, FitsAt, without, use_at}
use Rattle.cumul_prop.specs.declared.fits.Place.{Place}
use Rattle.cumul_prop.specs.Parts.{IsReady, all_parts, HasMoment, IsUseAt, AreWithin, IsKept, IsProfile}
use Rattle.cumul_prop.specs.Limits.{IsPlace, IsPlaceOf, NeedsPlace, Clashes, Covers, FitsThere, FitsFrom, IsClash, IsNext, IsLeast, IsGreatest, IsLimit, AreLimits}
use Rattle.cumul_prop.proofs.Amounts.{part_whole, without_use, clash_uncovered, others_later}
use Rattle.cumul_prop.proofs.Gathering.{part_empty}

last_of : (us vs : List Used) (k : ℕ) (d : Used) → get_or (us ++ vs) (length us + k) d ≡ get_or vs k d
last_of us vs k d = get_or-append-add us vs k d

-- ---- with the amounts that are never used, all is the same
module _ (us all kept : List Used) (profile : List (ℤ × ℤ)) (p : Place) (are : IsKept us all kept) where
  clashes_all : (t : ℤ) → Clashes kept p t → Clashes all p t
  unfolding Clashes
  clashes_all t clash = let same = are.amounts t in omega (arith, ints, same, clash)

  clashes_kept : (t : ℤ) → Clashes all p t → Clashes kept p t
  unfolding Clashes
  clashes_kept t clash = let same = are.amounts t in omega (arith, ints, same, clash)

  fits_all : (start : ℤ) → FitsFrom kept profile p start → FitsFrom all profile p start
  unfolding FitsThere
  fits_all start fits = record {
    here = λ clash. fits.here (clashes_kept start clash);
    there = λ k d h covered clash. fits.there k d h covered (clashes_kept _ clash);
  }

  clash_all : (start t : ℤ) → IsClash kept p start t → IsClash all p start t
  clash_all start t clash = record { covered = clash.covered; clashes = clashes_all t clash.clashes; near = clash.near }

  next_all : (t next : ℤ) → IsNext kept t next → IsNext all t next
  next_all t next is = record {
    later = is.later;
    used = λ s from to j d h. elim (are.each j d h) [
      | inl has ↦ subst (λ (u : Used). part u t ≤ℤ part u s) has.2 (is.used s from to has.0 (get_or all j d) has.1)
      | inr empty ↦ let first = part_empty (get_or all j d) t empty in let second = part_empty (get_or all j d) s empty in omega (arith, ints, first, second)
    ];
  }

  least_all : (low limit : ℤ) → IsLeast kept profile p low limit → IsLeast all profile p low limit
  unfolding IsLeast
  least_all low limit (inl (is, fits)) = inl (is, fits_all low fits)
  least_all low limit (inr (t, clash, next)) = inr (t, clash_all low t clash, next_all t limit next)

  greatest_all : (high limit : ℤ) → IsGreatest kept profile p high limit → IsGreatest all profile p high limit
  unfolding IsGreatest
  greatest_all high limit (inl (is, fits)) = inl (is, fits_all high fits)
  greatest_all high limit (inr (t, clash, is)) = inr (t, clash_all high t clash, is)

-- ---- the strength of a start
not_over : (a b : ℤ) → (a <ℤ b → ⊥) → b ≤ℤ a
not_over a b never = by_lt_z a b (λ less. absurd (never less)) (λ more. more)

module _ (box : List (List ℤ)) (ks : List CumTask) (us : List Used) (b : Term) (profile : List (ℤ × ℤ)) (j : ℕ) (d : CumTask) (p : Place)
    (ready : IsReady box ks us b) (moments : (t : ℤ) → IsMoment box ks us t → HasMoment profile t) (inside : j < length ks) (of : IsPlaceOf box b (get_or ks j d) p) where
  fits_use : (t : ℤ) → (Clashes (all_parts box ks us) p t → ⊥) → (term_low box (get_or ks j d).r +ℤ use_at box (without j ks) us t) ≤ℤ term_high box b
  unfolding Clashes
  fits_use t never =
      let left = without_use box ks us j d t inside in
      let own = ap (λ (u : Used). part u t) of.own in
      let usage = of.usage in
      let most = of.most in
      let fits = not_over _ _ never in
      omega (arith, ints, left, own, usage, most, fits)

  fits_at : (start : ℤ) → FitsFrom (all_parts box ks us) profile p start → FitsAt box ks us b j (get_or ks j d) start
  unfolding FitsAt FitsThere Covers
  fits_at start fits t (inl here) = subst (λ (x : ℤ). (term_low box (get_or ks j d).r +ℤ use_at box (without j ks) us x) ≤ℤ term_high box b) (sym here) (fits_use start fits.here)
  fits_at start fits t (inr (moment, from, to)) =
      let (k, q, h, is, same) = moments t moment in
      let at : (get_or profile k q).0 ≡ t = ap (λ (x : ℤ × ℤ). x.0) is ∙ same in
      let duration = of.duration in
      let covered : (start ≤ℤ (get_or profile k q).0) × ((get_or profile k q).0 <ℤ (start +ℤ p.duration)) = (omega (arith, ints, from, at), omega (arith, ints, to, at, duration)) in
      subst (λ (x : ℤ). (term_low box (get_or ks j d).r +ℤ use_at box (without j ks) us x) ≤ℤ term_high box b) at (fits_use _ (fits.there k q h covered))

  -- an assignment does not have the task cover a moment where it clashes
  uncovered : (t : ℤ) (θ : List ℤ) → Clashes (all_parts box ks us) p t → InBox box θ → Holds (con.CumulUsed ks us b) θ → val (get_or ks j d).s θ ≤ℤ t → t <ℤ (val (get_or ks j d).s θ +ℤ val (get_or ks j d).d θ) → ⊥
  uncovered t θ clash = clash_uncovered box ks us b j d p t θ ready inside of.own of.usage of.most clash

  -- where no amount is less, the task clashes too
  clash_later : (t s : ℤ) → Clashes (all_parts box ks us) p t → ((i : ℕ) (e : Used) → i < length (all_parts box ks us) → part (get_or (all_parts box ks us) i e) t ≤ℤ part (get_or (all_parts box ks us) i e) s) → Clashes (all_parts box ks us) p s
  unfolding Clashes
  clash_later t s clash each =
      let k : CumTask = get_or ks j d in
      let there : length us + j < length (all_parts box ks us) = omega (arith, inside, length-append us (map (part_of box) ks), length-map ks (part_of box)) in
      let same : get_or (all_parts box ks us) (length us + j) (part_of box k) ≡ part_of box k = last_of us (map (part_of box) ks) j (part_of box k) ∙ get_or-map (part_of box) ks j d (part_of box k) inside in
      let others = others_later t s (all_parts box ks us) (length us + j) (part_of box k) there each in
      let before : part p.own t ≡ part (get_or (all_parts box ks us) (length us + j) (part_of box k)) t = ap (λ (u : Used). part u t) (of.own ∙ sym same) in
      let after : part p.own s ≡ part (get_or (all_parts box ks us) (length us + j) (part_of box k)) s = ap (λ (u : Used). part u s) (of.own ∙ sym same) in
      omega (arith, ints, others, before, after, clash)

  least_bound : (limit : ℤ) → IsPlace p → IsLeast (all_parts box ks us) profile p (term_low box (get_or ks j d).s) limit → (θ : List ℤ) → InBox box θ → Holds (con.CumulUsed ks us b) θ → limit ≤ℤ val (get_or ks j d).s θ
  unfolding IsLeast Covers
  least_bound limit place (inl (is, fits)) θ lies holds = let low = val_low box (get_or ks j d).s θ ready.well_formed (ready.tasks.terms j d inside).0 lies in omega (arith, ints, is, low)
  least_bound limit place (inr (t, clash, next)) θ lies holds =
      let low = val_low box (get_or ks j d).s θ ready.well_formed (ready.tasks.terms j d inside).0 lies in
      let long = val_low box (get_or ks j d).d θ ready.well_formed (ready.tasks.terms j d inside).1 lies in
      let duration = of.duration in
      let some = place.duration.0 in
      let covered = clash.covered in
      by_lt_z (val (get_or ks j d).s θ) limit
      (λ before. by_lt_z t (val (get_or ks j d).s θ)
      (λ later. absurd (uncovered (val (get_or ks j d).s θ) θ (clash_later t (val (get_or ks j d).s θ) clash.clashes (next.used (val (get_or ks j d).s θ) (omega (arith, ints, later)) before)) lies holds
      (omega (arith, ints)) (omega (arith, ints, long, duration, some))))
      (λ sooner. absurd (uncovered t θ clash.clashes lies holds sooner (omega (arith, ints, low, long, duration, covered.0, covered.1)))))
      (λ after. after)

  greatest_bound : (limit : ℤ) → IsGreatest (all_parts box ks us) profile p (term_high box (get_or ks j d).s) limit → (θ : List ℤ) → InBox box θ → Holds (con.CumulUsed ks us b) θ → val (get_or ks j d).s θ ≤ℤ limit
  unfolding IsGreatest Covers
  greatest_bound limit (inl (is, fits)) θ lies holds = let high = val_high box (get_or ks j d).s θ ready.well_formed (ready.tasks.terms j d inside).0 lies in omega (arith, ints, is, high)
  greatest_bound limit (inr (t, clash, is)) θ lies holds = by_lt_z limit (val (get_or ks j d).s θ)
      (λ later.
      let high = val_high box (get_or ks j d).s θ ready.well_formed (ready.tasks.terms j d inside).0 lies in
      let long = val_low box (get_or ks j d).d θ ready.well_formed (ready.tasks.terms j d inside).1 lies in
      let duration = of.duration in
      let covered = clash.covered in
      absurd (uncovered t θ clash.clashes lies holds (omega (arith, ints, high, covered.0)) (omega (arith, ints, later, is, long, duration))))
      (λ sooner. sooner)

  least_strong : (limit : ℤ) → IsLeast (all_parts box ks us) profile p (term_low box (get_or ks j d).s) limit → limit ≤ℤ term_low box (get_or ks j d).s → FitsAt box ks us b j (get_or ks j d) (term_low box (get_or ks j d).s)
  unfolding IsLeast Covers
  least_strong limit (inl (is, fits)) within = fits_at _ fits
  least_strong limit (inr (t, clash, next)) within = let covered = clash.covered in let later = next.later in absurd (omega (arith, ints, later, within, covered.0))

  greatest_strong : (limit : ℤ) → IsPlace p → IsGreatest (all_parts box ks us) profile p (term_high box (get_or ks j d).s) limit → term_high box (get_or ks j d).s ≤ℤ limit → FitsAt box ks us b j (get_or ks j d) (term_high box (get_or ks j d).s)
  unfolding IsGreatest Covers
  greatest_strong limit place (inl (is, fits)) within = fits_at _ fits
  greatest_strong limit place (inr (t, clash, is)) within = let covered = clash.covered in let some = place.duration.0 in absurd (omega (arith, ints, is, within, covered.1, some))

  pub limit_of : (limit : ℤ × ℤ) → IsPlace p → IsLeast (all_parts box ks us) profile p (term_low box (get_or ks j d).s) limit.0 → IsGreatest (all_parts box ks us) profile p (term_high box (get_or ks j d).s) limit.1 → IsLimit box ks us b j (get_or ks j d) limit
  limit_of limit place least greatest = record {
    least = least_bound limit.0 place least;
    greatest = greatest_bound limit.1 greatest;
    low = λ some also within. least_strong limit.0 least within;
    high = λ some also within. greatest_strong limit.1 place greatest within;
  }

-- a task without length or use fits everywhere
pub limit_free : (box : List (List ℤ)) (ks : List CumTask) (us : List Used) (b : Term) (j : ℕ) (d : CumTask) (limit : ℤ × ℤ) → IsReady box ks us b → j < length ks → limit.0 ≡ term_low box (get_or ks j d).s → limit.1 ≡ term_high box (get_or ks j d).s
    → (pos 0 <ℤ term_low box (get_or ks j d).d → pos 0 <ℤ term_low box (get_or ks j d).r → ⊥) → IsLimit box ks us b j (get_or ks j d) limit
limit_free box ks us b j d limit ready inside low high none = record {
  least = λ θ lies holds. let l = val_low box (get_or ks j d).s θ ready.well_formed (ready.tasks.terms j d inside).0 lies in omega (arith, ints, l, low);
  greatest = λ θ lies holds. let l = val_high box (get_or ks j d).s θ ready.well_formed (ready.tasks.terms j d inside).0 lies in omega (arith, ints, l, high);
  low = λ some also within. absurd (none some also);
  high = λ some also within. absurd (none some also);
}

-- the same, with names of their own
pub limit_placed : (box : List (List ℤ)) (ks : List CumTask) (us : List Used) (b : Term) (all : List Used) (profile : List (ℤ × ℤ)) (j : ℕ) (d : CumTask) (p : Place) (bounds limit : ℤ × ℤ)
    → IsReady box ks us b → IsProfile box ks us all profile → j < length ks → IsPlaceOf box b (get_or ks j d) p → IsPlace p → bounds.0 ≡ term_low box (get_or ks j d).s → bounds.1 ≡ term_high box (get_or ks j d).s
    → IsLeast all profile p bounds.0 limit.0 → IsGreatest all profile p bounds.1 limit.1 → IsLimit box ks us b j (get_or ks j d) limit
limit_placed box ks us b all profile j d p bounds limit ready is inside of place low high least greatest =
    limit_of box ks us b profile j d p ready is.moments inside of limit place
    (subst (λ (x : ℤ). IsLeast (all_parts box ks us) profile p x limit.0) low (least_all us (all_parts box ks us) all profile p is.kept bounds.0 limit.0 least))
    (subst (λ (x : ℤ). IsGreatest (all_parts box ks us) profile p x limit.1) high (greatest_all us (all_parts box ks us) all profile p is.kept bounds.1 limit.1 greatest))

pub limit_unplaced : (box : List (List ℤ)) (ks : List CumTask) (us : List Used) (b : Term) (j : ℕ) (d : CumTask) (limit : ℤ × ℤ) → IsReady box ks us b → j < length ks → limit.0 ≡ term_low box (get_or ks j d).s → limit.1 ≡ term_high box (get_or ks j d).s
    → (NeedsPlace box (get_or ks j d) → ⊥) → IsLimit box ks us b j (get_or ks j d) limit
unfolding NeedsPlace
limit_unplaced box ks us b j d limit ready inside low high none = limit_free box ks us b j d limit ready inside low high (λ some also. none (some, also))

-- ---- what is used for sure fits
pub at_moment : (box : List (List ℤ)) (ks : List CumTask) (us all : List Used) (profile : List (ℤ × ℤ)) (most t : ℤ) → IsProfile box ks us all profile → AreWithin most profile → HasMoment profile t → amount_at (all_parts box ks us) t ≤ℤ most
unfolding AreWithin IsUseAt
at_moment box ks us all profile most t whole within (k, q, h, is, e) =
    let used = (whole.each k q h).0 in
    let same = whole.kept.amounts (get_or profile k q).0 in
    let fits = within k q h in
    let at : (get_or profile k q).0 ≡ t = ap (λ (x : ℤ × ℤ). x.0) is ∙ e in
    subst (λ (x : ℤ). amount_at (all_parts box ks us) x ≤ℤ most) at (omega (arith, ints, used, same, fits))

-- so a task with a fixed start fits there
module _ (box : List (List ℤ)) (ks : List CumTask) (us all : List Used) (b : Term) (profile : List (ℤ × ℤ)) (j : ℕ) (d : CumTask) (whole : IsProfile box ks us all profile) (within : AreWithin (term_high box b) profile) (inside : j < length ks)
    (fixed : term_low box (get_or ks j d).s ≡ term_high box (get_or ks j d).s) (long : pos 0 <ℤ term_low box (get_or ks j d).d) (uses : pos 0 <ℤ term_low box (get_or ks j d).r) where
  fits_own : (t : ℤ) → IsMoment box ks us t → term_low box (get_or ks j d).s ≤ℤ t → t <ℤ (term_low box (get_or ks j d).s +ℤ term_low box (get_or ks j d).d) → (term_low box (get_or ks j d).r +ℤ use_at box (without j ks) us t) ≤ℤ term_high box b
  fits_own t moment from to =
      let left = without_use box ks us j d t inside in
      let whole_use = at_moment box ks us all profile (term_high box b) t whole within (whole.moments t moment) in
      let own : part (part_of box (get_or ks j d)) t ≡ (part_of box (get_or ks j d)).amount = part_whole (part_of box (get_or ks j d)) t (omega (arith, ints, from, fixed)) to in
      omega (arith, ints, clamps, left, whole_use, own, uses)

  start_moment : IsMoment box ks us (term_low box (get_or ks j d).s)
  unfolding IsMoment
  start_moment = inr (j, get_or ks j d, inside, get_or_default ks j (get_or ks j d) d inside, (fixed, omega (arith, ints, fixed, long)))

  fits_fixed : FitsAt box ks us b j (get_or ks j d) (term_low box (get_or ks j d).s)
  unfolding FitsAt
  fits_fixed t (inl here) = subst (λ (x : ℤ). (term_low box (get_or ks j d).r +ℤ use_at box (without j ks) us x) ≤ℤ term_high box b) (sym here) (fits_own (term_low box (get_or ks j d).s) start_moment (omega (arith, ints)) (omega (arith, ints, long)))
  fits_fixed t (inr (moment, from, to)) = fits_own t moment from to

pub limit_fixed : (box : List (List ℤ)) (ks : List CumTask) (us : List Used) (b : Term) (all : List Used) (profile : List (ℤ × ℤ)) (j : ℕ) (d : CumTask) (limit : ℤ × ℤ) → IsReady box ks us b → IsProfile box ks us all profile → AreWithin (term_high box b) profile → j < length ks
    → limit.0 ≡ term_low box (get_or ks j d).s → limit.1 ≡ term_high box (get_or ks j d).s → limit.0 ≡ limit.1 → IsLimit box ks us b j (get_or ks j d) limit
limit_fixed box ks us b all profile j d limit ready whole within inside low high same =
    let fixed : term_low box (get_or ks j d).s ≡ term_high box (get_or ks j d).s = sym low ∙ same ∙ high in
    record {
      least = λ θ lies holds. let l = val_low box (get_or ks j d).s θ ready.well_formed (ready.tasks.terms j d inside).0 lies in omega (arith, ints, l, low);
      greatest = λ θ lies holds. let l = val_high box (get_or ks j d).s θ ready.well_formed (ready.tasks.terms j d inside).0 lies in omega (arith, ints, l, high);
      low = λ some also from. fits_fixed box ks us all b profile j d whole within inside fixed some also;
      high = λ some also to. subst (FitsAt box ks us b j (get_or ks j d)) fixed (fits_fixed box ks us all b profile j d whole within inside fixed some also);
    }

-- one task more
pub limits_more : (box : List (List ℤ)) (ks : List CumTask) (us : List Used) (b : Term) (n : ℕ) (d : CumTask) (old new : List (ℤ × ℤ)) (limit : ℤ × ℤ) → n < length ks → AreLimits box ks us b n old → new ≡ old ++ limit ∷ [] → IsLimit box ks us b n (get_or ks n d) limit → AreLimits box ks us b (n + 1) new
limits_more box ks us b n d old new limit inside so_far is one = record {
  count = ap length is ∙ length-append old (limit ∷ []) ∙ ap (λ m. m + 1) so_far.count;
  each = λ j task e h. elim (cases_lt j n) [
    | inl before ↦
        let shorter : j < length old = omega (arith, before, so_far.count) in
        let same : get_or new j e ≡ get_or old j e = ap (λ (xs : List (ℤ × ℤ)). get_or xs j e) is ∙ get_or_append_left old (limit ∷ []) e j shorter in
        subst (IsLimit box ks us b j (get_or ks j task)) (sym same) (so_far.each j task e before)
    | inr after ↦
        let at : j ≡ length old = omega (arith, after, h, so_far.count) in
        let place : j ≡ n = omega (arith, after, h) in
        let same : get_or new j e ≡ limit = ap (λ (xs : List (ℤ × ℤ)). get_or xs j e) is ∙ ap (λ i. get_or (old ++ limit ∷ []) i e) at ∙ get_or-append_seam old limit [] e in
        subst (IsLimit box ks us b j (get_or ks j task)) (sym same)
        (subst (λ i. IsLimit box ks us b i (get_or ks j task) limit) (sym place)
        (subst (λ (k : CumTask). IsLimit box ks us b n k limit) (get_or_default ks n d task inside ∙ ap (λ i. get_or ks i task) (sym place)) one))
  ];
}
