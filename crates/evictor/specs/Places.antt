-- Where the entries of a residual problem may stand: in two groups of four places, one by each digest of the problem. It is
-- this project's own.
use Rattle.std.specs.Prelude.{ℕ, ◌+◌, ◌*◌, ◌/◌, ◌%◌, ◌==◌, if◌then◌else◌, List, [], ◌∷◌, ◌++◌}
use Rattle.fzn_model.specs.Rests.{RestParts}
use Rattle.entry_slab.specs.Entries.{near_digest, far_digest}

abbrev pub group_count : ℕ → ℕ
group_count ways = ways / 4

abbrev pub near_group : ℕ → ℕ → ℕ
near_group ways near = near % group_count ways

-- the group of the far digest, or the next one where that is the near group
abbrev pub far_group : ℕ → ℕ → ℕ → ℕ
far_group ways near far =
    if far % group_count ways == near_group ways near
    then (far % group_count ways + 1) % group_count ways
    else far % group_count ways

abbrev pub group_places : ℕ → List ℕ
group_places group = 4 * group ∷ (4 * group + 1) ∷ (4 * group + 2) ∷ (4 * group + 3) ∷ []

-- the eight places by two digests, the near group first
unfoldable pub places_by : ℕ → ℕ → ℕ → List ℕ
places_by ways near far = group_places (near_group ways near) ++ group_places (far_group ways near far)

-- the eight places of a residual problem
abbrev pub places_of : ℕ → RestParts → List ℕ
places_of ways r = places_by ways (near_digest r) (far_digest r)

-- which of its places is taken where each has an entry that is unlike: one of the near group, and every eighth time one of
-- the far group, by what the near digest has beside its group
abbrev pub turn : ℕ → ℕ → ℕ
turn ways near = near / group_count ways

unfoldable pub place_by_turn : ℕ → ℕ → ℕ → ℕ
place_by_turn ways near far =
    if turn ways near % 8 == 7
    then 4 * far_group ways near far + (turn ways near / 8) % 4
    else 4 * near_group ways near + turn ways near % 4
