-- Paths kept as a tree of decisions, so that what they share is stored once. They are this project's own.
use Rattle.std.specs.Prelude.{◌≡◌, ℕ, ◌<◌, ◌≤◌, List, [], ◌∷◌, ◌++◌, length, slice_index_or, fold}
use Rattle.search_core.specs.declared.decision.Decision.{Decision}
use Rattle.search_core.specs.declared.tree.Node.{Node}

-- the path of a node is that of the node above it and one decision more
abbrev pub path_under : List (List Decision) → Node → List Decision
path_under paths node = slice_index_or paths node.up [] ++ node.decision ∷ []

abbrev pub with_node : List (List Decision) → Node → List (List Decision)
with_node paths node = paths ++ path_under paths node ∷ []

-- the paths of all nodes: number 0 is the root, with the empty path, and the nodes of the list follow in order
unfoldable pub paths_of : List Node → List (List Decision)
paths_of nodes = fold with_node ([] ∷ []) nodes

-- the node above each node has a smaller number
pub record IsTree (nodes : List Node) : Type 0 where
  pub rising : (k : ℕ) (d : Node) → k < length nodes → (slice_index_or nodes k d).up ≤ k

-- the node of the number has this path
pub record IsNode (paths : List (List Decision)) (number : ℕ) (p : List Decision) : Type 0 where
  pub below : number < length paths
  pub path : slice_index_or paths number [] ≡ p
