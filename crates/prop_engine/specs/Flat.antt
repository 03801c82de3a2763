-- Lists of numbers, one behind another.
use Rattle.std.specs.Prelude.{◌≡◌, ℕ, ◌≤◌, List, [], ◌∷◌}
use Rattle.std.specs.List.{slice_range}

-- each list goes from where it begins to where the next one does
unfoldable pub lists_of : List ℕ → List ℕ → List (List ℕ)
lists_of members [] = []
lists_of members (s ∷ []) = []
lists_of members (s ∷ e ∷ rest) = slice_range members s e ∷ lists_of members (e ∷ rest)

-- no list begins behind the next one, and the last place is the end of all members
unfoldable pub AreStarts : List ℕ → ℕ → Type 0
AreStarts [] count = ⊥
AreStarts (s ∷ []) count = s ≡ count
AreStarts (s ∷ e ∷ rest) count = (s ≤ e) × AreStarts (e ∷ rest) count
