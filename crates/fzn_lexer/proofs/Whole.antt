-- The list of spots has one end.
use Rattle.std.proofs.Common.{ℕ, zero, suc, ◌+◌, ◌-◌, List, [], ◌∷◌, Bool, true, false, cond, refl, Some, None, Option, length, take}
use Rattle.std.specs.Prelude.{◌==◌}
use Rattle.std.specs.List.{prefix_len}
use Rattle.fzn_lexer.specs.Bytes.{is_white, is_in_line}
use Rattle.fzn_lexer.specs.Scan.{longest_at}
use Rattle.fzn_lexer.specs.Spots.{Spot, IsWhole, bad_at}
use Rattle.fzn_lexer.specs.Passes.{spots_from, spots_by}
use Rattle.fzn_lexer.specs.declared.kind.Kind.{Kind}

choice : (b : Bool) (x y : List Spot) → IsWhole x → IsWhole y → IsWhole (cond b x y)
choice true x y p q = p
choice false x y p q = q

by_token : (t : Option (Kind × ℕ)) (more : Kind × ℕ → List Spot) (line at : ℕ) → ((k : Kind × ℕ) → IsWhole (more k)) → IsWhole (spots_by t more (bad_at line at))
by_token None more line at h = refl
by_token (Some t) more line at h = h t

pub whole : (skip line at : ℕ) (bs : List ℕ) → IsWhole (spots_from skip line at bs)
unfolding spots_from
whole zero line at [] = refl
whole (suc skip) line at [] = refl
whole (suc skip) line at (c ∷ cs) = whole skip line (at + 1) cs
whole zero line at (c ∷ cs) =
    choice (c == 10) _ _ (whole 0 (line + 1) (at + 1) cs)
    (choice (is_white c) _ _ (whole 0 line (at + 1) cs)
    (choice (c == 37) _ _ (whole (prefix_len is_in_line cs) line (at + 1) cs)
    (by_token (longest_at (c ∷ cs)) _ line at (λ t. whole (length (take t.1 (c ∷ cs)) - 1) line (at + 1) cs))))
