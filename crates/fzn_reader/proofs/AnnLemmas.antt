-- An expression of an annotation, and what an opening mark opens, by the levels that are left.
use Rattle.std.proofs.Common.{◌≡◌, ℕ, zero, suc, ◌-◌, ◌<◌, List, refl, ap, arith}
use Rattle.fzn_lexer.specs.Spots.{Spot}
use Rattle.fzn_reader.specs.Annotations.{annexpr_at, annexpr_by, ann_begins, group_at, group_with}
use Rattle.fzn_reader.specs.Refusals.{refuse}
use Rattle.fzn_reader.specs.declared.code.Code.TheVariants as code

pub annexpr_is : (levels : ℕ) (ts : List Spot) → annexpr_at levels ts ≡ annexpr_by (ann_begins ts) (group_at levels) ts
unfolding annexpr_at group_at
annexpr_is zero ts = refl
annexpr_is (suc levels) ts = refl

pub group_is : (levels : ℕ) (close : List ℕ) (ts : List Spot) → 0 < levels → group_at levels close ts ≡ group_with (annexpr_at (levels - 1)) close ts
unfolding group_at
group_is zero close ts h = absurd (omega arith)
group_is (suc levels) close ts h = let e : levels ≡ suc levels - 1 = omega arith in ap (λ k. group_with (annexpr_at k) close ts) e

pub group_none : (levels : ℕ) (close : List ℕ) (ts : List Spot) → levels ≡ 0 → group_at levels close ts ≡ refuse code.TooDeep ts
unfolding group_at
group_none levels close ts h = rw h refl
