-- One term of a sum, narrowed by steps from its bound.
use Rattle.std.proofs.Common.{◌≡◌, ℕ, zero, suc, ◌+◌, ◌*◌, List, length, ℤ, pos, negsuc, neg_ℤ, ◌+ℤ◌, ◌-ℤ◌, ◌*ℤ◌, ◌≤ℤ◌, ◌<ℤ◌, refl, sym, ◌∙◌, arith, subst}
use Rattle.std.specs.Prelude.{unsigned_abs, Bool, true, false}
use Rattle.std.proofs.lemmas.Int.{ints, by_lt_z}
use Rattle.std.proofs.Math.IntN.{zero-*ℤ}
use Rattle.fzn_model.specs.declared.term.Term.{Term}
use Rattle.fzn_model.specs.Values.{largest}
use Rattle.fzn_model.specs.Meaning.{val}
use Rattle.fzn_model.specs.Limits.{TermIn, IsValue}
use Rattle.fzn_model.specs.Boxes.{IsBox, InBox}
use Rattle.fzn_model.specs.Bounds.{term_low, term_high, scaled_low}
use Rattle.fzn_model.proofs.Terms.{has_value, low_to_high, val_has, has_low, has_high}
use Rattle.fzn_model.proofs.Products.{up_mono, down_mono, low_up, low_down, high_up, high_down, dist, dist_minus, negative_times}
use Rattle.dom_store.specs.Stores.{Stored}
use Rattle.dom_store.specs.Steps.{NarrowsTerm, IsAtLeast, IsAtMost, LowIs, HighIs}
use Rattle.dom_store.specs.declared.pass.Passed.{Passed}
use Rattle.dom_store.specs.declared.pass.Passed.TheVariants as passed
use Rattle.dom_store.proofs.Stepping.{narrows_idle, narrows_for}
use Rattle.lin_prop.specs.Signed.{signed}
use Rattle.dom_store.specs.Sums.{RisesWithin}
use Rattle.lin_prop.specs.Capped.{ScaledIsAtMost}

-- more than any domain is wide
abbrev pub wide : ℤ
wide = pos (2 * largest + 1)

-- so many steps of this size fit into the slack
pub record Fit (slack size steps : ℤ) : Type 0 where
  pub fits : (size *ℤ steps) ≤ℤ slack
  pub next : steps <ℤ wide → slack <ℤ (size *ℤ (steps +ℤ pos 1))

-- no further than the steps, where the coefficient isn't negative
below_steps : (n : ℕ) (low v steps slack : ℤ) → Fit slack (pos n) steps → v <ℤ (low +ℤ wide) → (pos n *ℤ v) ≤ℤ (slack +ℤ (pos n *ℤ low)) → v ≤ℤ (low +ℤ steps)
below_steps n low v steps slack fit near most =
    by_lt_z (low +ℤ steps) v
    (λ far.
    let few : steps <ℤ wide = omega (arith, ints, near, far) in
    let more : (pos n *ℤ (low +ℤ (steps +ℤ pos 1))) ≤ℤ (pos n *ℤ v) = up_mono n _ _ (omega (arith, ints, far)) in
    let split = dist (pos n) low (steps +ℤ pos 1) in
    absurd (omega (arith, ints, more, split, fit.next few, most)))
    (λ h. h)

-- the same, where it is
above_steps : (n : ℕ) (high v steps slack : ℤ) → Fit slack (pos (suc n)) steps → (high -ℤ wide) <ℤ v → (negsuc n *ℤ v) ≤ℤ (slack +ℤ (negsuc n *ℤ high)) → (high -ℤ steps) ≤ℤ v
above_steps n high v steps slack fit near most =
    by_lt_z v (high -ℤ steps)
    (λ far.
    let few : steps <ℤ wide = omega (arith, ints, near, far) in
    let more : (negsuc n *ℤ (high -ℤ (steps +ℤ pos 1))) ≤ℤ (negsuc n *ℤ v) = down_mono n _ _ (omega (arith, ints, far)) in
    let split = dist_minus (negsuc n) high (steps +ℤ pos 1) in
    let other = negative_times n (steps +ℤ pos 1) in
    absurd (omega (arith, ints, more, split, other, fit.next few, most)))
    (λ h. h)

near_by : (v low : ℤ) → IsValue v → IsValue low → (v <ℤ (low +ℤ wide)) × ((v -ℤ wide) <ℤ low)
near_by v low a b = (omega (arith, ints, a, b), omega (arith, ints, a, b))

-- the size of a coefficient is the coefficient, or its negative
size_up : (on : Bool) (t : ℤ × Term) → pos 0 ≤ℤ (signed on t).0 → pos (unsigned_abs t.0) ≡ (signed on t).0
size_up false (pos n, t) h = refl
size_up false (negsuc n, t) h = absurd (omega (arith, ints, h))
size_up true (pos n, t) h = omega (arith, ints, h)
size_up true (negsuc n, t) h = refl

size_down : (on : Bool) (t : ℤ × Term) → (signed on t).0 <ℤ pos 0 → pos (unsigned_abs t.0) ≡ neg_ℤ (signed on t).0
size_down false (pos n, t) h = absurd (omega (arith, ints, h))
size_down false (negsuc n, t) h = refl
size_down true (pos n, t) h = omega (arith, ints)
size_down true (negsuc n, t) h = absurd (omega (arith, ints, h))

pub same_term : (on : Bool) (t : ℤ × Term) → (signed on t).1 ≡ t.1
same_term true t = refl
same_term false t = refl

low_is : (box : List (List ℤ)) (t : ℤ × Term) → IsBox box → TermIn (length box) t.1 → pos 0 ≤ℤ t.0 → scaled_low box t ≡ t.0 *ℤ term_low box t.1
low_is box t well_formed inside up = low_up t.0 _ _ up (low_to_high box t.1 well_formed inside)

low_is_down : (box : List (List ℤ)) (t : ℤ × Term) → IsBox box → TermIn (length box) t.1 → t.0 <ℤ pos 0 → scaled_low box t ≡ t.0 *ℤ term_high box t.1
low_is_down box t well_formed inside down = low_down t.0 _ _ down (low_to_high box t.1 well_formed inside)

spared_above : (box : List (List ℤ)) (t : ℤ × Term) (steps slack : ℤ) (θ : List ℤ) → IsBox box → TermIn (length box) t.1 → pos 0 ≤ℤ t.0 → Fit slack t.0 steps → InBox box θ → ScaledIsAtMost t (slack +ℤ scaled_low box t) (val t.1 θ) → val t.1 θ ≤ℤ (term_low box t.1 +ℤ steps)
unfolding ScaledIsAtMost
spared_above box (pos n, t) steps slack θ well_formed inside up fit lies most =
    let low = low_is box (pos n, t) well_formed inside up in
    below_steps n (term_low box t) (val t θ) steps slack fit (near_by (val t θ) (term_low box t) (has_value box t _ well_formed inside (val_has box t θ inside lies)) (has_value box t _ well_formed inside (has_low box t well_formed inside))).0 (omega (arith, ints, most, low))
spared_above box (negsuc n, t) steps slack θ well_formed inside up fit lies most = absurd (omega (arith, ints, up))

spared_below : (box : List (List ℤ)) (t : ℤ × Term) (steps slack : ℤ) (θ : List ℤ) → IsBox box → TermIn (length box) t.1 → t.0 <ℤ pos 0 → Fit slack (neg_ℤ t.0) steps → InBox box θ → ScaledIsAtMost t (slack +ℤ scaled_low box t) (val t.1 θ) → (term_high box t.1 -ℤ steps) ≤ℤ val t.1 θ
unfolding ScaledIsAtMost
spared_below box (pos n, t) steps slack θ well_formed inside down fit lies most = absurd (omega (arith, ints, down))
spared_below box (negsuc n, t) steps slack θ well_formed inside down fit lies most =
    let low = low_is_down box (negsuc n, t) well_formed inside down in
    above_steps n (term_high box t) (val t θ) steps slack fit (near_by (term_high box t) (val t θ) (has_value box t _ well_formed inside (has_high box t well_formed inside)) (has_value box t _ well_formed inside (val_has box t θ inside lies))).1 (omega (arith, ints, most, low))

rises_above : (box : List (List ℤ)) (t : ℤ × Term) (steps slack : ℤ) → IsBox box → TermIn (length box) t.1 → pos 0 ≤ℤ t.0 → (t.0 *ℤ steps) ≤ℤ slack → term_high box t.1 ≤ℤ (term_low box t.1 +ℤ steps) → RisesWithin slack t box
unfolding RisesWithin
rises_above box (pos n, t) steps slack well_formed inside up fits reached =
    let most : (pos n *ℤ term_high box t) ≤ℤ (pos n *ℤ (term_low box t +ℤ steps)) = up_mono n _ _ reached in
    let split = dist (pos n) (term_low box t) steps in
    let low = low_is box (pos n, t) well_formed inside up in
    let high = high_up (pos n) _ _ up (low_to_high box t well_formed inside) in
    omega (arith, ints, most, split, low, high, fits)
rises_above box (negsuc n, t) steps slack well_formed inside up fits reached = absurd (omega (arith, ints, up))

rises_below : (box : List (List ℤ)) (t : ℤ × Term) (steps slack : ℤ) → IsBox box → TermIn (length box) t.1 → t.0 <ℤ pos 0 → (neg_ℤ t.0 *ℤ steps) ≤ℤ slack → (term_high box t.1 -ℤ steps) ≤ℤ term_low box t.1 → RisesWithin slack t box
unfolding RisesWithin
rises_below box (pos n, t) steps slack well_formed inside down fits reached = absurd (omega (arith, ints, down))
rises_below box (negsuc n, t) steps slack well_formed inside down fits reached =
    let most : (negsuc n *ℤ term_low box t) ≤ℤ (negsuc n *ℤ (term_high box t -ℤ steps)) = down_mono n _ _ reached in
    let split = dist_minus (negsuc n) (term_high box t) steps in
    let other = negative_times n steps in
    let low = low_is_down box (negsuc n, t) well_formed inside down in
    let high = high_down (negsuc n) _ _ down (low_to_high box t well_formed inside) in
    omega (arith, ints, most, split, other, low, high, fits)

-- cut above so many steps from the least, for a coefficient that isn't negative
narrows_above : (old new : Stored) (t : ℤ × Term) (steps slack : ℤ) (result : Passed) → IsBox old.box → TermIn (length old.box) t.1 → pos 0 ≤ℤ t.0 → Fit slack t.0 steps → NarrowsTerm (IsAtMost (term_low old.box t.1 +ℤ steps)) (HighIs t.1 (term_low old.box t.1 +ℤ steps)) t.1 old new result → NarrowsTerm (ScaledIsAtMost t (slack +ℤ scaled_low old.box t)) (RisesWithin slack t) t.1 old new result
unfolding HighIs
narrows_above old new t steps slack result well_formed inside up fit narrows =
    narrows_for _ _ _ _ t.1 old new result
    (λ θ lies most. spared_above old.box t steps slack θ well_formed inside up fit lies most)
    (λ same high. subst (RisesWithin slack t) (sym same) (rises_above old.box t steps slack well_formed inside up fit.fits (subst (λ b. term_high b t.1 ≤ℤ (term_low old.box t.1 +ℤ steps)) same high)))
    narrows

-- cut below so many steps from the greatest, for a negative one
narrows_below : (old new : Stored) (t : ℤ × Term) (steps slack : ℤ) (result : Passed) → IsBox old.box → TermIn (length old.box) t.1 → t.0 <ℤ pos 0 → Fit slack (neg_ℤ t.0) steps → NarrowsTerm (IsAtLeast (term_high old.box t.1 -ℤ steps)) (LowIs t.1 (term_high old.box t.1 -ℤ steps)) t.1 old new result → NarrowsTerm (ScaledIsAtMost t (slack +ℤ scaled_low old.box t)) (RisesWithin slack t) t.1 old new result
unfolding LowIs
narrows_below old new t steps slack result well_formed inside down fit narrows =
    narrows_for _ _ _ _ t.1 old new result
    (λ θ lies most. spared_below old.box t steps slack θ well_formed inside down fit lies most)
    (λ same low. subst (RisesWithin slack t) (sym same) (rises_below old.box t steps slack well_formed inside down fit.fits (subst (λ b. (term_high old.box t.1 -ℤ steps) ≤ℤ term_low b t.1) same low)))
    narrows

-- the same, for a term of a sum or of its negative
pub signed_above : (old new : Stored) (on : Bool) (t : ℤ × Term) (size steps slack : ℤ) (result : Passed) → IsBox old.box → TermIn (length old.box) t.1 → pos 0 ≤ℤ (signed on t).0 → size ≡ pos (unsigned_abs t.0) → Fit slack size steps → NarrowsTerm (IsAtMost (term_low old.box t.1 +ℤ steps)) (HighIs t.1 (term_low old.box t.1 +ℤ steps)) t.1 old new result → NarrowsTerm (ScaledIsAtMost (signed on t) (slack +ℤ scaled_low old.box (signed on t))) (RisesWithin slack (signed on t)) t.1 old new result
signed_above old new true t size steps slack result well_formed inside up is fit narrows =
    narrows_above old new (signed true t) steps slack result well_formed inside up (subst (λ x. Fit slack x steps) (is ∙ size_up true t up) fit) narrows
signed_above old new false t size steps slack result well_formed inside up is fit narrows =
    narrows_above old new (signed false t) steps slack result well_formed inside up (subst (λ x. Fit slack x steps) (is ∙ size_up false t up) fit) narrows

pub signed_below : (old new : Stored) (on : Bool) (t : ℤ × Term) (size steps slack : ℤ) (result : Passed) → IsBox old.box → TermIn (length old.box) t.1 → (signed on t).0 <ℤ pos 0 → size ≡ pos (unsigned_abs t.0) → Fit slack size steps → NarrowsTerm (IsAtLeast (term_high old.box t.1 -ℤ steps)) (LowIs t.1 (term_high old.box t.1 -ℤ steps)) t.1 old new result → NarrowsTerm (ScaledIsAtMost (signed on t) (slack +ℤ scaled_low old.box (signed on t))) (RisesWithin slack (signed on t)) t.1 old new result
signed_below old new true t size steps slack result well_formed inside down is fit narrows =
    narrows_below old new (signed true t) steps slack result well_formed inside down (subst (λ x. Fit slack x steps) (is ∙ size_down true t down) fit) narrows
signed_below old new false t size steps slack result well_formed inside down is fit narrows =
    narrows_below old new (signed false t) steps slack result well_formed inside down (subst (λ x. Fit slack x steps) (is ∙ size_down false t down) fit) narrows

-- where the bounds are near enough, the term rises within the slack
self_above : (low high : ℤ) → high ≤ℤ (low +ℤ (high -ℤ low))
self_above low high = omega (arith, ints)

self_below : (low high : ℤ) → (high -ℤ (high -ℤ low)) ≤ℤ low
self_below low high = omega (arith, ints)

covered_by : (box : List (List ℤ)) (on : Bool) (t : ℤ × Term) (slack : ℤ) → IsBox box → TermIn (length box) (signed on t).1 → (pos (unsigned_abs t.0) *ℤ (term_high box (signed on t).1 -ℤ term_low box (signed on t).1)) ≤ℤ slack → RisesWithin slack (signed on t) box
covered_by box on t slack well_formed inside fits =
    by_lt_z (signed on t).0 (pos 0)
    (λ down. rises_below box (signed on t) (term_high box (signed on t).1 -ℤ term_low box (signed on t).1) slack well_formed inside down
    (subst (λ x. (x *ℤ (term_high box (signed on t).1 -ℤ term_low box (signed on t).1)) ≤ℤ slack) (size_down on t down) fits)
    (self_below _ _))
    (λ up. rises_above box (signed on t) (term_high box (signed on t).1 -ℤ term_low box (signed on t).1) slack well_formed inside up
    (subst (λ x. (x *ℤ (term_high box (signed on t).1 -ℤ term_low box (signed on t).1)) ≤ℤ slack) (size_up on t up) fits)
    (self_above _ _))

-- nothing is cut then
pub signed_covered : (on : Bool) (t : ℤ × Term) (slack low high : ℤ) (s : Stored) → IsBox s.box → TermIn (length s.box) t.1 → low ≡ term_low s.box t.1 → high ≡ term_high s.box t.1 → (pos (unsigned_abs t.0) *ℤ (high -ℤ low)) ≤ℤ slack → NarrowsTerm (ScaledIsAtMost (signed on t) (slack +ℤ scaled_low s.box (signed on t))) (RisesWithin slack (signed on t)) t.1 s s passed.Done
signed_covered true t slack low high s well_formed inside a b fits =
    narrows_idle _ _ t.1 s well_formed (covered_by s.box true t slack well_formed inside (rw (a, b) at fits))
signed_covered false t slack low high s well_formed inside a b fits =
    narrows_idle _ _ t.1 s well_formed (covered_by s.box false t slack well_formed inside (rw (a, b) at fits))

-- a coefficient of 0 rises by nothing
pub some_size : (n : ℕ) (z slack : ℤ) → pos 0 ≤ℤ slack → slack <ℤ (pos n *ℤ z) → pos 0 <ℤ pos n
some_size zero z slack h over = let none : pos 0 *ℤ z ≡ pos 0 = zero-*ℤ z in absurd (omega (arith, ints, h, over, none))
some_size (suc n) z slack h over = omega (arith, ints)

-- the number of a cut, in other words
pub cut_above_at : (t : Term) (old new : Stored) (result : Passed) (z y : ℤ) → NarrowsTerm (IsAtMost z) (HighIs t z) t old new result → z ≡ y → NarrowsTerm (IsAtMost y) (HighIs t y) t old new result
cut_above_at t old new result z y narrows e = subst (λ y. NarrowsTerm (IsAtMost y) (HighIs t y) t old new result) e narrows

pub cut_below_at : (t : Term) (old new : Stored) (result : Passed) (z y : ℤ) → NarrowsTerm (IsAtLeast z) (LowIs t z) t old new result → z ≡ y → NarrowsTerm (IsAtLeast y) (LowIs t y) t old new result
cut_below_at t old new result z y narrows e = subst (λ y. NarrowsTerm (IsAtLeast y) (LowIs t y) t old new result) e narrows
