-- What a pass leaves where it removed nothing.
use Rattle.std.proofs.Common.{◌≡◌, ℕ, zero, suc, ◌+◌, ◌<◌, List, [], ◌∷◌, ◌++◌, map, length, get_or, ℤ, pos, ◌≤ℤ◌, ◌<ℤ◌, refl, sym, ap, ◌∙◌, subst, arith, inl, inr, true}
use Rattle.std.specs.Prelude.{All, Result, Ok, Err, IfOk}
use Rattle.std.proofs.lemmas.Int.{ints, clamps}
use Rattle.std.proofs.lemmas.List.{length-map, length-append, get_or-map, get_or_append_left, get_or-append-add, get_or_default}
use Rattle.fzn_model.specs.declared.term.Term.{Term}
use Rattle.fzn_model.specs.declared.cumulative.CumTask.{CumTask}
use Rattle.fzn_model.specs.declared.cumulative.Used.{Used}
use Rattle.fzn_model.specs.declared.con.Con.TheVariants as con
use Rattle.fzn_model.specs.Booleans.{FitsBox}
use Rattle.fzn_model.specs.Meaning.{val, amount_at, usage, AreTasks, Holds}
use Rattle.fzn_model.specs.Starts.{StartsFit}
use Rattle.fzn_model.specs.Boxes.{IsBox, InBox}
use Rattle.fzn_model.specs.Bounds.{term_low, term_high, IsFixed}
use Rattle.fzn_model.proofs.Terms.{fixed_val, low_to_high}
use Rattle.dom_store.specs.Stores.{Stored}
use Rattle.dom_store.specs.Narrowing.{HasNone}
use Rattle.dom_store.specs.declared.pass.Passed.{Passed}
use Rattle.dom_store.specs.declared.pass.Passed.TheVariants as passed
use Rattle.dom_store.specs.Passes.{Concludes}
use Rattle.dom_store.specs.Strength.{part_of, IsMoment, FitsAt, IsChecked, IsOwed}
use Rattle.dom_store.specs.Steps.{Step}
use Rattle.dom_store.proofs.Stepping.{step_none, step_as, step_then, step_end, step_concludes}
use Rattle.cumul_prop.specs.Parts.{IsReady, IsSigned, AreSignedTo, all_parts, IsUseAt, IsProfile, AreWithin}
use Rattle.cumul_prop.specs.Limits.{AreLimits}
use Rattle.cumul_prop.specs.Narrowing.{IsSignedAll, LimitedAt, LimitedTo, IsFitted}
use Rattle.cumul_prop.proofs.Amounts.{parts_fit}
use Rattle.cumul_prop.proofs.Fitting.{at_moment}
use Rattle.cumul_prop.proofs.Lasting.{has_length, length_some, lengths_enough}
use Rattle.cumul_prop.proofs.Signing.{ready_on}

pub ready_first : (box : List (List ℤ)) (ks : List CumTask) (us : List Used) (b : Term) → IsBox box → FitsBox box (con.CumulUsed ks us b) → IsReady box ks us b
ready_first box ks us b well_formed fits_box = record { well_formed = well_formed; tasks = fits_box.kept.0; used = fits_box.kept.1; capacity = fits_box.kept.2 }

-- ---- what is used for sure fits
module _ (box : List (List ℤ)) (ks : List CumTask) (us all : List Used) (b : Term) (profile : List (ℤ × ℤ)) (ready : IsReady box ks us b) (whole : IsProfile box ks us all profile) where
  within_by : (θ : List ℤ) → InBox box θ → Holds (con.CumulUsed ks us b) θ → AreWithin (term_high box b) profile
  unfolding AreWithin IsUseAt
  within_by θ lies holds k d h =
      let is = (whole.each k d h).0 in
      let same = whole.kept.amounts (get_or profile k d).0 in
      let fits = parts_fit box ks us b (get_or profile k d).0 θ ready lies holds in
      omega (arith, ints, is, same, fits)

  pub over_none : (AreWithin (term_high box b) profile → ⊥) → HasNone (Holds (con.CumulUsed ks us b)) box
  over_none over θ lies holds = over (within_by θ lies holds)

  fitted : (limits : List (ℤ × ℤ)) → AreWithin (term_high box b) profile → AreLimits box ks us b (length ks) limits → LimitedTo ks limits (length ks) box → IsFitted ks us b box
  unfolding LimitedTo LimitedAt
  fitted limits within are limited = record {
    parts = λ t moment. at_moment box ks us all profile (term_high box b) t whole within (whole.moments t moment);
    starts = λ j k h is some also.
        let limit = are.each j k (pos 0, pos 0) h in
        let bounds = limited j h k (pos 0, pos 0) in
        let long : pos 0 <ℤ term_low box (get_or ks j k).d = subst (λ (x : CumTask). pos 0 <ℤ term_low box x.d) is some in
        let uses : pos 0 <ℤ term_low box (get_or ks j k).r = subst (λ (x : CumTask). pos 0 <ℤ term_low box x.r) is also in
        subst (λ (x : CumTask). FitsAt box ks us b j x (term_low box x.s) × FitsAt box ks us b j x (term_high box x.s)) (sym is) (limit.low long uses bounds.0, limit.high long uses bounds.1);
  }

-- ---- the parts of a pass in a row
pub none_fits : (ks : List CumTask) (us : List Used) (b : Term) (all : List Used) (profile : List (ℤ × ℤ)) (s : Stored) → IsReady s.box ks us b → IsProfile s.box ks us all profile
    → (AreWithin (term_high s.box b) profile → ⊥) → Step (IsFitted ks us b) (Holds (con.CumulUsed ks us b)) s s passed.Empty
none_fits ks us b all profile s ready whole over = step_none (IsFitted ks us b) (Holds (con.CumulUsed ks us b)) s ready.well_formed (over_none s.box ks us all b profile ready whole over)

pub all_fit : (ks : List CumTask) (us : List Used) (b : Term) (all : List Used) (profile limits : List (ℤ × ℤ)) (old new : Stored) (result : Passed) → IsReady old.box ks us b → IsProfile old.box ks us all profile
    → AreWithin (term_high old.box b) profile → AreLimits old.box ks us b (length ks) limits → Step (LimitedTo ks limits (length ks)) (Holds (con.CumulUsed ks us b)) old new result → Step (IsFitted ks us b) (Holds (con.CumulUsed ks us b)) old new result
all_fit ks us b all profile limits old new result ready whole within are step =
    step_as (LimitedTo ks limits (length ks)) (IsFitted ks us b) (Holds (con.CumulUsed ks us b)) old new result
    (λ same limited.
    let here : LimitedTo ks limits (length ks) old.box = subst (LimitedTo ks limits (length ks)) same limited in
    subst (IsFitted ks us b) (sym same) (fitted old.box ks us all b profile ready whole limits within are here))
    step

-- ---- where all terms are fixed
each_first : (P : Term → Type 0) (ts us : List Term) → All P (ts ++ us) → All P ts
each_first P ts us all k d h = subst P (get_or_append_left ts us d k h) (all k d (omega (arith, h, length-append ts us)))

each_last : (P : Term → Type 0) (ts us : List Term) → All P (ts ++ us) → All P us
each_last P ts us all k d h = subst P (get_or-append-add ts us k d) (all (length ts + k) d (omega (arith, h, length-append ts us)))

each_of : (P : Term → Type 0) (f : CumTask → Term) (ks : List CumTask) (j : ℕ) (d : CumTask) → All P (map f ks) → j < length ks → P (f (get_or ks j d))
each_of P f ks j d all h = subst P (get_or-map f ks j d (f d) h) (all j (f d) (omega (arith, h, length-map ks f)))

same_uses : (f g : CumTask → Used) (ks : List CumTask) → All (λ k. f k ≡ g k) ks → map f ks ≡ map g ks
same_uses f g [] each = refl
same_uses f g (k ∷ ks) each = ap (λ (u : Used). u ∷ map f ks) (each zero k (omega arith)) ∙ ap (λ (us : List Used). g k ∷ us) (same_uses f g ks (λ i d h. each (suc i) d (omega arith)))

same_use : (u v : Used) → u.from ≡ v.from → u.to ≡ v.to → u.amount ≡ v.amount → u ≡ v
same_use u v from to amount = subst (λ (x : ℤ). u ≡ record { from = v.from; to = v.to; amount = x }) amount (subst (λ (x : ℤ). u ≡ record { from = v.from; to = x; amount = u.amount }) to (subst (λ (x : ℤ). u ≡ record { from = x; to = u.to; amount = u.amount }) from refl))

module _ (box : List (List ℤ)) (ks : List CumTask) (us : List Used) (b : Term) (θ : List ℤ) (ready : IsReady box ks us b) (signed : IsSignedAll ks b box) (fits : IsFitted ks us b box)
    (capacity : IsFixed box b) (starts : (j : ℕ) (d : CumTask) → j < length ks → IsFixed box (get_or ks j d).s) (lengths : (j : ℕ) (d : CumTask) → j < length ks → IsFixed box (get_or ks j d).d) (uses : (j : ℕ) (d : CumTask) → j < length ks → IsFixed box (get_or ks j d).r) (lies : InBox box θ) where
  signed_at : (j : ℕ) (d : CumTask) → j < length ks → IsSigned box (get_or ks j d)
  unfolding AreSignedTo
  signed_at j d h = signed.tasks j d h

  is_start : (j : ℕ) (d : CumTask) → j < length ks → val (get_or ks j d).s θ ≡ term_low box (get_or ks j d).s
  is_start j d h = fixed_val box (get_or ks j d).s θ ready.well_formed (ready.tasks.terms j d h).0 (starts j d h) lies

  is_length : (j : ℕ) (d : CumTask) → j < length ks → val (get_or ks j d).d θ ≡ term_low box (get_or ks j d).d
  is_length j d h = fixed_val box (get_or ks j d).d θ ready.well_formed (ready.tasks.terms j d h).1 (lengths j d h) lies

  is_use : (j : ℕ) (d : CumTask) → j < length ks → val (get_or ks j d).r θ ≡ term_low box (get_or ks j d).r
  is_use j d h = fixed_val box (get_or ks j d).r θ ready.well_formed (ready.tasks.terms j d h).2 (uses j d h) lies

  is_capacity : val b θ ≡ term_low box b
  is_capacity = fixed_val box b θ ready.well_formed ready.capacity capacity lies

  are_tasks : AreTasks ks θ
  unfolding AreTasks
  are_tasks j d h =
      let one = signed_at j d h in
      let long = is_length j d h in
      let used = is_use j d h in
      (omega (arith, ints, one.duration, long), omega (arith, ints, one.usage, used))

  part_is : (j : ℕ) (d : CumTask) → j < length ks → part_of box (get_or ks j d) ≡ usage θ (get_or ks j d)
  part_is j d h =
      let start = is_start j d h in
      let same : term_low box (get_or ks j d).s ≡ term_high box (get_or ks j d).s = starts j d h in
      let long = is_length j d h in
      let used = is_use j d h in
      let some = (signed_at j d h).usage in
      same_use (part_of box (get_or ks j d)) (usage θ (get_or ks j d)) (omega (arith, ints, start, same)) (omega (arith, ints, start, long)) (omega (arith, ints, clamps, used, some))

  whole_is : all_parts box ks us ≡ us ++ map (usage θ) ks
  whole_is = ap (λ (xs : List Used). us ++ xs) (same_uses (part_of box) (usage θ) ks part_is)

  fits_moment : (t : ℤ) → IsMoment box ks us t → amount_at (us ++ map (usage θ) ks) t ≤ℤ val b θ
  fits_moment t moment =
      let one : amount_at (us ++ map (usage θ) ks) t ≤ℤ term_high box b = subst (λ (xs : List Used). amount_at xs t ≤ℤ term_high box b) whole_is (fits.parts t moment) in
      let value = is_capacity in
      let same : term_low box b ≡ term_high box b = capacity in
      omega (arith, ints, one, value, same)

  used_start : StartsFit (us ++ map (usage θ) ks) us (val b θ)
  unfolding StartsFit IsMoment
  used_start k d h = fits_moment (get_or us k d).from (inl (k, get_or us k d, h, get_or_default us k (get_or us k d) d h, inl refl))

  task_start : (j : ℕ) (d : CumTask) → j < length ks → has_length θ (get_or ks j d) ≡ true → amount_at (us ++ map (usage θ) ks) (val (get_or ks j d).s θ) ≤ℤ val b θ
  unfolding IsMoment
  task_start j d h long =
      let some = length_some θ (get_or ks j d) long in
      let start = is_start j d h in
      let length = is_length j d h in
      let same : term_low box (get_or ks j d).s ≡ term_high box (get_or ks j d).s = starts j d h in
      fits_moment (val (get_or ks j d).s θ) (inr (j, get_or ks j d, h, get_or_default ks j (get_or ks j d) d h, (omega (arith, ints, start, same), omega (arith, ints, start, same, length, some))))

  pub holds_fixed : Holds (con.CumulUsed ks us b) θ
  holds_fixed =
      let value = is_capacity in
      let some = signed.capacity in
      (are_tasks, lengths_enough us ks θ (val b θ) ready.used are_tasks (omega (arith, ints, value, some)) used_start task_start)

checked : (box : List (List ℤ)) (ks : List CumTask) (us : List Used) (b : Term) → IsReady box ks us b → IsSignedAll ks b box → IsFitted ks us b box → IsChecked box (con.CumulUsed ks us b)
unfolding IsChecked
checked box ks us b ready signed fits fixed θ lies =
    let P : Term → Type 0 = IsFixed box in
    let s : CumTask → Term = λ k. k.s in
    let d : CumTask → Term = λ k. k.d in
    let r : CumTask → Term = λ k. k.r in
    let terms : All P (map s ks ++ map d ks ++ map r ks) = λ k e h. fixed (suc k) e (omega (arith, h)) in
    let sooner : All P (map s ks ++ map d ks) = each_first P (map s ks ++ map d ks) (map r ks) terms in
    holds_fixed box ks us b θ ready signed fits (fixed zero b (omega arith))
    (λ j e h. each_of P s ks j e (each_first P (map s ks) (map d ks) sooner) h)
    (λ j e h. each_of P d ks j e (each_last P (map s ks) (map d ks) sooner) h)
    (λ j e h. each_of P r ks j e (each_last P (map s ks ++ map d ks) (map r ks) terms) h) lies

owed : (box : List (List ℤ)) (ks : List CumTask) (us : List Used) (b : Term) → IsReady box ks us b → IsSignedAll ks b box → IsFitted ks us b box → IsOwed box (con.CumulUsed ks us b)
owed box ks us b ready signed fits =
    let ordered = low_to_high box b ready.well_formed ready.capacity in
    let some = signed.capacity in
    record {
      kind = record { capacity = omega (arith, ints, ordered, some); parts = fits.parts; starts = fits.starts };
      checked = checked box ks us b ready signed fits;
    }

-- ---- a whole pass
pub pass_none : (ks : List CumTask) (us : List Used) (b : Term) (old new : Stored) → Step (IsSignedAll ks b) (Holds (con.CumulUsed ks us b)) old new passed.Empty → Concludes (con.CumulUsed ks us b) old.box new.box passed.Empty
pass_none ks us b old new step = step_concludes (con.CumulUsed ks us b) old new passed.Empty (step_end (IsSignedAll ks b) (λ box. IsOwed box (con.CumulUsed ks us b)) (Holds (con.CumulUsed ks us b)) old new step)

pub pass_says : (ks : List CumTask) (us : List Used) (b : Term) (old mid new : Stored) (result : Passed) → IsReady old.box ks us b → Step (IsSignedAll ks b) (Holds (con.CumulUsed ks us b)) old mid passed.Done → Step (IsFitted ks us b) (Holds (con.CumulUsed ks us b)) mid new result → Concludes (con.CumulUsed ks us b) old.box new.box result
pass_says ks us b old mid new result ready first second =
    let here : IsReady mid.box ks us b = ready_on ks us b (con.CumulUsed ks us b) old mid first.prunes first.well_formed ready in
    let last : IsReady new.box ks us b = ready_on ks us b (con.CumulUsed ks us b) mid new second.prunes second.well_formed here in
    step_concludes (con.CumulUsed ks us b) old new result
    (step_then (IsSignedAll ks b) (IsFitted ks us b) (λ box. IsOwed box (con.CumulUsed ks us b)) (Holds (con.CumulUsed ks us b)) old mid new result (owed new.box ks us b last) first second)

pub pass_says_of : {E : Type 0} (ks : List CumTask) (us : List Used) (b : Term) (old mid new : Stored) (result : Result Passed E) → IsReady old.box ks us b → Step (IsSignedAll ks b) (Holds (con.CumulUsed ks us b)) old mid passed.Done → IfOk result (Step (IsFitted ks us b) (Holds (con.CumulUsed ks us b)) mid new)
    → IfOk result (Concludes (con.CumulUsed ks us b) old.box new.box)
pass_says_of ks us b old mid new (Ok answer) ready first second = pass_says ks us b old mid new answer ready first second
pass_says_of ks us b old mid new (Err e) ready first second = tt
