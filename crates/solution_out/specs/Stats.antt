-- What is printed of what a search took (MiniZinc Handbook, "Solver Backends": lines `%%%mzn-stat: NAME=VALUE`, and
-- `%%%mzn-stat-end` after the last). The names of the counts are this project's own, but for `nodes`.
use Rattle.std.specs.Prelude.{ℕ, List, ◌++◌, codes, decimal}
use Rattle.incumbent_board.specs.declared.outcome.Outcome.{Outcome}

-- the line of one count
unfoldable pub stat_text : List ℕ → ℕ → List ℕ
stat_text name count = codes "%%%mzn-stat: " ++ name ++ codes "=" ++ decimal count ++ codes "\n"

-- the lines of all counts: nodes expanded, and cache entries that settled a node, were stored, and were gone when read
unfoldable pub stats : Outcome → List ℕ
stats o = stat_text (codes "nodes") o.nodes
    ++ stat_text (codes "cacheHits") o.hits
    ++ stat_text (codes "cacheStores") o.stores
    ++ stat_text (codes "cacheGone") o.gone
    ++ codes "%%%mzn-stat-end\n"
