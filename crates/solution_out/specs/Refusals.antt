-- What is printed for a model that is refused: this project's own.
use Rattle.std.specs.Prelude.{ℕ, List, [], ◌∷◌, ◌++◌, codes, decimal, take}

-- the first 40 bytes of a token, or that the input ends, where it has none
unfoldable pub excerpt : List ℕ → List ℕ
excerpt [] = codes "end of input"
excerpt (c ∷ cs) = take 40 (c ∷ cs)

-- a line of the input
unfoldable pub place_text : ℕ → List ℕ
place_text line = codes "cachesolve: line " ++ decimal line

-- a word behind a colon
unfoldable pub behind_colon : List ℕ → List ℕ
behind_colon word = codes ": " ++ word

-- the line, the name of the reason, and the token that shows it
unfoldable pub refusal_text : ℕ → List ℕ → List ℕ → List ℕ
refusal_text line name token = place_text line ++ (behind_colon name ++ (behind_colon (excerpt token) ++ codes "\n"))
