-- The tokens of a reader are what its lexer had before it gave the one in hand.
use Rattle.std.proofs.Common.{◌≡◌, List, [], ◌∷◌, refl, sym, ap}
use Rattle.fzn_lexer.specs.Spots.{Spot, first, after_first, rest_by, whole_by, IsWhole}
use Rattle.fzn_lexer.specs.declared.seen.Seen.{Seen}
use Rattle.fzn_lexer.specs.declared.seen.Seen.TheVariants.{Known, End, Bad}
use Rattle.fzn_reader.specs.Invariants.{in_hand}

regained : (k : Seen) (s : Spot) (ss : List Spot) → whole_by k ss (IsWhole ss) → in_hand k s (rest_by k s ss) ≡ s ∷ ss
regained (Known k) s ss h = refl
regained End s ss h = ap (λ (rest : List Spot). s ∷ rest) (sym h)
regained Bad s ss h = ap (λ (rest : List Spot). s ∷ rest) (sym h)

pub taken_in_hand : (s : Spot) (was left : List Spot) → IsWhole was → s ≡ first was → left ≡ after_first was → in_hand s.seen s left ≡ was
taken_in_hand s [] left w e f = absurd w
taken_in_hand s (t ∷ ts) left w e f = rw (e, f) (regained t.seen t ts w)
