-- The numbers up to which there are as many greatest values as numbers that aren't taken, found out place by place.
use Rattle.std.proofs.Common.{◌≡◌, ℕ, ◌+◌, ◌<◌, List, [], ◌∷◌, ◌++◌, length, refl, arith, below_more}
use Rattle.std.specs.Prelude.{ℤ, pos, ◌≤ℤ◌, slice_index_or}
use Rattle.std.proofs.lemmas.Int.{ints}
use Rattle.std.proofs.lemmas.List.Elements.{All-push, All-nil, Contains-append_left, Contains-push}
use Rattle.std.proofs.lemmas.List.Quantifiers.{all_pairs_push}
use Rattle.fzn_model.specs.Limits.{IsValue}
use Rattle.dom_store.specs.Strength.{free_count}
use Rattle.alldiff_prop.specs.Rising.{Climbs}
use Rattle.alldiff_prop.specs.Fulls.{AreBetween, IsFilledBefore, AreFullsTo}

filled_later : (taken : List ℤ) (low : ℤ) (highs : List ℤ) (n : ℕ) (high : ℤ) → IsFilledBefore taken low highs n high → IsFilledBefore taken low highs (n + 1) high
filled_later taken low highs n high filled = record { place = filled.place; before = omega (arith, filled.before); is = filled.is; filled = filled.filled }

pub fulls_none : (taken : List ℤ) (low : ℤ) (highs : List ℤ) → AreFullsTo taken low highs [] 0
unfolding Climbs
fulls_none taken low highs = record {
  few = λ k h. absurd (omega (arith, h));
  listed = λ k h e. absurd (omega (arith, h));
  filled = All-nil (IsFilledBefore taken low highs 0);
  climbs = λ i j d less h. absurd (omega (arith, h));
  values = All-nil IsValue;
}

-- a place that is not full
pub fulls_pass : (taken : List ℤ) (low : ℤ) (highs fulls : List ℤ) (n : ℕ) → AreFullsTo taken low highs fulls n → n + 1 < free_count taken low (slice_index_or highs n (pos 0)) → AreFullsTo taken low highs fulls (n + 1)
fulls_pass taken low highs fulls n before room = record {
  few = below_more _ _ before.few (omega (arith, room));
  listed = below_more _ _ before.listed (λ e. absurd (omega (arith, room, e)));
  filled = λ k d h. filled_later taken low highs n _ (before.filled k d h);
  climbs = before.climbs;
  values = before.values;
}

-- one that is
pub fulls_push : (taken : List ℤ) (low : ℤ) (highs fulls : List ℤ) (n : ℕ) → AreFullsTo taken low highs fulls n → n < length highs → Climbs highs → AreBetween low highs → n + 1 ≡ free_count taken low (slice_index_or highs n (pos 0)) → AreFullsTo taken low highs (fulls ++ slice_index_or highs n (pos 0) ∷ []) (n + 1)
unfolding Climbs
fulls_push taken low highs fulls n before h climbs between full = record {
  few = below_more _ _ before.few (omega (arith, full));
  listed = below_more _ _ (λ k less e. Contains-append_left fulls _ _ (before.listed k less e)) (λ e. Contains-push fulls (slice_index_or highs n (pos 0)));
  filled = All-push (IsFilledBefore taken low highs (n + 1)) fulls _ (λ k d less. filled_later taken low highs n _ (before.filled k d less)) (record { place = n; before = omega arith; is = refl; filled = omega (arith, full) });
  climbs = all_pairs_push (λ x y. x ≤ℤ y) fulls _ before.climbs (λ k d less.
      let old = before.filled k d less in
      let up = climbs old.place n (pos 0) old.before h in
      let is = old.is in
      omega (arith, ints, up, is));
  values = All-push IsValue fulls _ before.values (between.values n (pos 0) h);
}
