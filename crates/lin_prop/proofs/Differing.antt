-- A sum that has to differ from a number.
use Rattle.std.proofs.Common.{◌≡◌, ◌≢◌, ℕ, zero, suc, ◌+◌, ◌<◌, ◌≤◌, inl, inr, List, [], ◌∷◌, length, get_or, drop, ℤ, pos, ◌+ℤ◌, ◌-ℤ◌, ◌*ℤ◌, sym, ap, ◌∙◌, arith, subst}
use Rattle.std.proofs.lemmas.Int.{ints}
use Rattle.std.proofs.lemmas.Bool.{cases_lt}
use Rattle.std.proofs.lemmas.List.{get_or_default}
use Rattle.fzn_model.specs.declared.term.Term.{Term}
use Rattle.fzn_model.specs.declared.term.Term.TheVariants.{Const}
use Rattle.fzn_model.specs.Meaning.{val, lin_sum}
use Rattle.fzn_model.specs.Limits.{IsValue, TermIn, SumInLimits}
use Rattle.fzn_model.specs.Boxes.{IsBox, InBox}
use Rattle.dom_store.specs.Stores.{Stored}
use Rattle.fzn_model.specs.Bounds.{term_low, IsFixed, IsLookedAt, scaled_low, sum_low, others_low}
use Rattle.dom_store.specs.Strength.{SumIsFixed, OthersFixed, IsAvoided}
use Rattle.fzn_model.proofs.Terms.{has_value, fixed_val, has_between}
use Rattle.dom_store.specs.Steps.{Step, NarrowsTerm, Spares, IsNot, IsGone}
use Rattle.dom_store.specs.declared.pass.Passed.{Passed}
use Rattle.dom_store.specs.declared.pass.Passed.TheVariants as passed
use Rattle.dom_store.proofs.Stepping.{step_idle, step_none, step_as, narrowed}
use Rattle.lin_prop.specs.Different.{Differs, IsApart, IsOpenAt, IsOneOpen, AreTwoOpen, IsStretch, Excludes, LeavesFor}
use Rattle.lin_prop.specs.declared.open_terms.Stretch.{Stretch}
use Rattle.fzn_model.proofs.LinearBounds.{ScaledIn, tail_in, sum_fixed, scaled_fixed, sum_drop, sum_none}
use Rattle.lin_prop.proofs.Quotients.{exact}
use Rattle.lin_prop.proofs.Opening.{none_open, one_open, two_open}

tail_fixed : (box : List (List ℤ)) (p : ℤ × Term) (ts : List (ℤ × Term)) (i : ℕ) → OthersFixed box (p ∷ ts) (suc i) → OthersFixed box ts i
unfolding OthersFixed
tail_fixed box p ts i fixed j d h apart = fixed (suc j) d (omega (arith, h)) (λ e. apart (omega arith))

-- where all other terms are fixed, the sum is what this one gives and the least of the others
sum_but_one : (box : List (List ℤ)) (ts : List (ℤ × Term)) (i : ℕ) (d : ℤ × Term) (θ : List ℤ) → IsBox box → ScaledIn (length box) ts → InBox box θ → i < length ts → OthersFixed box ts i → lin_sum ts θ ≡ ((get_or ts i d).0 *ℤ val (get_or ts i d).1 θ +ℤ others_low box ts (get_or ts i d))
unfolding OthersFixed
sum_but_one box [] i d θ well_formed inside lies h fixed = absurd (omega (arith, h))
sum_but_one box (p ∷ ts) zero d θ well_formed inside lies h fixed =
    let rest = sum_fixed box ts θ well_formed (tail_in _ p ts inside) lies (λ k e at. fixed (suc k) e (omega (arith, at)) (λ z. absurd (omega arith))) in
    omega (arith, ints, rest)
sum_but_one box (p ∷ ts) (suc i) d θ well_formed inside lies h fixed =
    let here : IsFixed box p.1 = fixed zero p (omega arith) (λ z. absurd (omega arith)) in
    let value = fixed_val box p.1 θ well_formed (inside zero p (omega arith)) here lies in
    let part = scaled_fixed box p here in
    let same : p.0 *ℤ val p.1 θ ≡ p.0 *ℤ term_low box p.1 = ap (λ x. p.0 *ℤ x) value in
    let rest = sum_but_one box ts i d θ well_formed (tail_in _ p ts inside) lies (omega (arith, h)) (tail_fixed box p ts i fixed) in
    omega (arith, ints, part, same, rest)

terms_in : (n : ℕ) (ts : List (ℤ × Term)) → SumInLimits n ts → ScaledIn n ts
terms_in n ts limits = limits.terms

-- the open term's value is not the one that makes the sum equal
pub spared : (box : List (List ℤ)) (ts : List (ℤ × Term)) (i : ℕ) (d : ℤ × Term) (r left q : ℤ) → IsBox box → SumInLimits (length box) ts → IsOneOpen box ts i → (get_or ts i d).0 *ℤ q ≡ left → (left +ℤ others_low box ts (get_or ts i d)) ≡ r → Spares (IsNot q) (Differs ts r) (get_or ts i d).1 box
unfolding Differs
spared box ts i d r left q well_formed limits one e sum θ lies differs same =
    let all = sum_but_one box ts i d θ well_formed (terms_in _ ts limits) lies one.0 one.2 in
    let product : (get_or ts i d).0 *ℤ val (get_or ts i d).1 θ ≡ (get_or ts i d).0 *ℤ q = ap (λ x. (get_or ts i d).0 *ℤ x) same in
    differs (omega (arith, ints, all, product, e, sum))

-- an open term in another place is not fixed
open_clash : (box : List (List ℤ)) (ts : List (ℤ × Term)) (i : ℕ) (d : ℤ × Term) → i < length ts → IsOpenAt box ts i → SumIsFixed box ts → ⊥
unfolding IsOpenAt SumIsFixed
open_clash box ts i d h open_ fixed = open_ d h (fixed i d h)

others_clash : (box : List (List ℤ)) (ts : List (ℤ × Term)) (i k : ℕ) (d : ℤ × Term) → i < length ts → i ≢ k → IsOpenAt box ts i → OthersFixed box ts k → ⊥
unfolding IsOpenAt OthersFixed
others_clash box ts i k d h apart open_ fixed = open_ d h (fixed i d h apart)

-- only the open term's own values count
avoided_at : (box : List (List ℤ)) (ts : List (ℤ × Term)) (i : ℕ) (d : ℤ × Term) (r : ℤ) → IsOneOpen box ts i → ((get_or ts i d).0 ≢ pos 0 → (v : ℤ) → IsLookedAt box (get_or ts i d).1 v → ((get_or ts i d).0 *ℤ v +ℤ others_low box ts (get_or ts i d)) ≢ r) → IsApart ts r box
unfolding IsAvoided
avoided_at box ts i d r one here = record {
  avoided = λ k e h some fixed v at same. elim (cases_lt k i) [
    | inl less ↦ others_clash box ts i k d one.0 (λ z. absurd (omega arith)) one.1 fixed
    | inr most ↦ elim (cases_lt i k) [
      | inl more ↦ others_clash box ts i k d one.0 (λ z. absurd (omega arith)) one.1 fixed
      | inr least ↦
          let e_is : i ≡ k = omega arith in
          let p_is : get_or ts i d ≡ get_or ts k e = ap (λ n. get_or ts n d) e_is ∙ get_or_default ts k d e h in
          here (λ z. some (sym (ap (λ (p : ℤ × Term). p.0) p_is) ∙ z)) v (subst (λ (p : ℤ × Term). IsLookedAt box p.1 v) (sym p_is) at) (ap (λ (p : ℤ × Term). p.0 *ℤ v +ℤ others_low box ts p) p_is ∙ same)
    ]
  ];
  fixed = λ all e. open_clash box ts i d one.0 one.1 all;
}

pub apart_zero : (box : List (List ℤ)) (ts : List (ℤ × Term)) (i : ℕ) (d : ℤ × Term) (r : ℤ) → IsOneOpen box ts i → (get_or ts i d).0 ≡ pos 0 → IsApart ts r box
apart_zero box ts i d r one e = avoided_at box ts i d r one (λ some. absurd (some e))

looked_value : (box : List (List ℤ)) (ts : List (ℤ × Term)) (i : ℕ) (d : ℤ × Term) (v : ℤ) → IsBox box → SumInLimits (length box) ts → i < length ts → IsLookedAt box (get_or ts i d).1 v → IsValue v
looked_value box ts i d v well_formed limits h at = has_value box (get_or ts i d).1 v well_formed (limits.terms i d h) at.has

pub apart_excluded : (box : List (List ℤ)) (ts : List (ℤ × Term)) (i : ℕ) (d : ℤ × Term) (r left : ℤ) → IsBox box → SumInLimits (length box) ts → IsOneOpen box ts i → (left +ℤ others_low box ts (get_or ts i d)) ≡ r → Excludes (get_or ts i d).0 left → IsApart ts r box
unfolding Excludes
apart_excluded box ts i d r left well_formed limits one sum none = avoided_at box ts i d r one (λ some v at same. none v (looked_value box ts i d v well_formed limits one.0 at) (omega (arith, ints, same, sum)))

pub apart_avoided : (box : List (List ℤ)) (ts : List (ℤ × Term)) (i : ℕ) (d : ℤ × Term) (r left q : ℤ) → IsOneOpen box ts i → (get_or ts i d).0 *ℤ q ≡ left → (left +ℤ others_low box ts (get_or ts i d)) ≡ r → (IsLookedAt box (get_or ts i d).1 q → ⊥) → IsApart ts r box
apart_avoided box ts i d r left q one e sum gone = avoided_at box ts i d r one (λ some v at same.
    let product : (get_or ts i d).0 *ℤ v ≡ left = omega (arith, ints, same, sum) in
    let value : v ≡ q = sym (exact (get_or ts i d).0 v left some product) ∙ exact (get_or ts i d).0 q left some e in
    gone (subst (IsLookedAt box (get_or ts i d).1) value at))

pub apart_more : (box : List (List ℤ)) (ts : List (ℤ × Term)) (r : ℤ) (d : ℤ × Term) → AreTwoOpen box ts → IsApart ts r box
unfolding IsAvoided
apart_more box ts r d (i, j, less, inside, first, second) = record {
  avoided = λ k e h some fixed v at same. elim (cases_lt k j) [
    | inl before ↦ others_clash box ts j k d inside (λ z. absurd (omega arith)) second fixed
    | inr after ↦ others_clash box ts i k d (omega arith) (λ z. absurd (omega arith)) first fixed
  ];
  fixed = λ all e. open_clash box ts i d (omega arith) first all;
}

-- the first fixed terms are all
all_fixed : (box : List (List ℤ)) (ts : List (ℤ × Term)) (front : Stretch) → IsStretch box ts 0 front → length ts ≤ front.end → SumIsFixed box ts
all_fixed box ts front stretch all = none_open box ts front.end all stretch.fixed

all_sum : (box : List (List ℤ)) (ts : List (ℤ × Term)) (front : Stretch) → IsStretch box ts 0 front → length ts ≤ front.end → front.sum ≡ sum_low box ts
all_sum box ts front stretch all =
    let none = sum_none (scaled_low box) ts front.end all in
    let total : (front.sum +ℤ sum_low box (drop front.end ts)) ≡ sum_low box ts = stretch.total in
    omega (arith, ints, none, total)

pub fixed_none : (ts : List (ℤ × Term)) (r : ℤ) (front : Stretch) (s : Stored) → IsBox s.box → SumInLimits (length s.box) ts → IsStretch s.box ts 0 front → length ts ≤ front.end → front.sum ≡ r → Step (IsApart ts r) (Differs ts r) s s passed.Empty
unfolding Differs SumIsFixed
fixed_none ts r front s well_formed limits stretch all e = step_none _ _ s well_formed (λ θ lies differs. differs (sum_fixed s.box ts θ well_formed (terms_in _ ts limits) lies (all_fixed s.box ts front stretch all) ∙ sym (all_sum s.box ts front stretch all) ∙ e))

-- what a fixed term gives
fixed_scaled : (box : List (List ℤ)) (p : ℤ × Term) (v : ℤ) → IsBox box → TermIn (length box) p.1 → IsFixed box p.1 → IsLookedAt box p.1 v → p.0 *ℤ v ≡ scaled_low box p
fixed_scaled box p v well_formed inside fixed at =
    let between = has_between box p.1 v well_formed inside at.has in
    let value : v ≡ term_low box p.1 = omega (arith, ints, fixed, between.0, between.1) in
    ap (λ x. p.0 *ℤ x) value ∙ sym (scaled_fixed box p fixed)

pub apart_fixed : (box : List (List ℤ)) (ts : List (ℤ × Term)) (r : ℤ) → IsBox box → SumInLimits (length box) ts → SumIsFixed box ts → sum_low box ts ≢ r → IsApart ts r box
unfolding IsAvoided SumIsFixed
apart_fixed box ts r well_formed limits all differs = record {
  avoided = λ k e h some fixed v at same.
      let part = fixed_scaled box (get_or ts k e) v well_formed (limits.terms k e h) (all k e h) at in
      differs (omega (arith, ints, part, same));
  fixed = λ every e. differs e;
}

-- nothing has to be dropped
pub idle_zero : (ts : List (ℤ × Term)) (i : ℕ) (d : ℤ × Term) (r : ℤ) (s : Stored) → IsBox s.box → IsOneOpen s.box ts i → (get_or ts i d).0 ≡ pos 0 → Step (IsApart ts r) (Differs ts r) s s passed.Done
idle_zero ts i d r s well_formed one e = step_idle _ _ s well_formed (apart_zero s.box ts i d r one e)

pub idle_excluded : (ts : List (ℤ × Term)) (i : ℕ) (d : ℤ × Term) (r left : ℤ) (s : Stored) → IsBox s.box → SumInLimits (length s.box) ts → IsOneOpen s.box ts i → LeavesFor s.box ts i r left → Excludes (get_or ts i d).0 left → Step (IsApart ts r) (Differs ts r) s s passed.Done
unfolding LeavesFor
idle_excluded ts i d r left s well_formed limits one leaves none = step_idle _ _ s well_formed (apart_excluded s.box ts i d r left well_formed limits one (leaves d) none)

pub idle_fixed : (ts : List (ℤ × Term)) (r : ℤ) (front : Stretch) (s : Stored) → IsBox s.box → SumInLimits (length s.box) ts → IsStretch s.box ts 0 front → length ts ≤ front.end → (front.sum ≡ r → ⊥) → Step (IsApart ts r) (Differs ts r) s s passed.Done
idle_fixed ts r front s well_formed limits stretch all differs = step_idle _ _ s well_formed (apart_fixed s.box ts r well_formed limits (all_fixed s.box ts front stretch all) (λ e. differs (all_sum s.box ts front stretch all ∙ e)))

pub idle_more : (ts : List (ℤ × Term)) (r : ℤ) (front back : Stretch) (s : Stored) → IsBox s.box → IsStretch s.box ts 0 front → IsStretch s.box ts (front.end + 1) back → front.end < length ts → back.end < length ts → Step (IsApart ts r) (Differs ts r) s s passed.Done
idle_more ts r front back s well_formed first then here there = step_idle _ _ s well_formed (apart_more s.box ts r (pos 0, Const (pos 0)) (two_open s.box ts front.end back.end (omega (arith, then.reach.0)) there (first.opened here) (then.opened there)))

-- the open term between two rows of fixed ones is the one
pub one_between : (box : List (List ℤ)) (ts : List (ℤ × Term)) (front back : Stretch) → IsStretch box ts 0 front → IsStretch box ts (front.end + 1) back → front.end < length ts → length ts ≤ back.end → IsOneOpen box ts front.end
one_between box ts front back first then here all = one_open box ts front.end back.end here all (first.opened here) first.fixed then.fixed

-- the one value of the last open term is dropped
pub dropped : (ts : List (ℤ × Term)) (i : ℕ) (d : ℤ × Term) (r left q : ℤ) (old new : Stored) (result : Passed) → IsBox old.box → SumInLimits (length old.box) ts → IsOneOpen old.box ts i → LeavesFor old.box ts i r left → (get_or ts i d).0 *ℤ q ≡ left → NarrowsTerm (IsNot q) (IsGone (get_or ts i d).1 q) (get_or ts i d).1 old new result → Step (IsApart ts r) (Differs ts r) old new result
unfolding LeavesFor IsGone
dropped ts i d r left q old new result well_formed limits one leaves e narrows =
    step_as (IsGone (get_or ts i d).1 q) (IsApart ts r) (Differs ts r) old new result
    (λ same gone. subst (IsApart ts r) (sym same) (apart_avoided old.box ts i d r left q one e (leaves d) (subst (λ b. IsLookedAt b (get_or ts i d).1 q → ⊥) same gone)))
    (narrowed (Differs ts r) narrows (spared old.box ts i d r left q well_formed limits one e (leaves d)))

-- what is left for the open term
pub leaves : (box : List (List ℤ)) (ts : List (ℤ × Term)) (r left : ℤ) (front back : Stretch) → IsStretch box ts 0 front → IsStretch box ts (front.end + 1) back → front.end < length ts → length ts ≤ back.end → left ≡ (r -ℤ front.sum) -ℤ back.sum → LeavesFor box ts front.end r left
unfolding LeavesFor
leaves box ts r left front back first then here all e d =
    let before : (front.sum +ℤ sum_low box (drop front.end ts)) ≡ sum_low box ts = first.total in
    let split = sum_drop (scaled_low box) ts front.end d here in
    let none = sum_none (scaled_low box) ts back.end all in
    omega (arith, ints, before, split, none, then.total, e)
