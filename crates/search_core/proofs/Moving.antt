-- What changes of a worker's tasks make of its part of the search.
use Rattle.std.proofs.Common.{◌≡◌, ◌+◌, List, [], ◌∷◌, ◌++◌, ap, ◌∙◌, ℤ}
use Rattle.std.specs.Int.{int_min}
use Rattle.search_core.specs.declared.decision.Decision.{Decision}
use Rattle.search_core.specs.declared.moves.Move.TheVariants as move
use Rattle.search_core.specs.Paths.{opposite}
use Rattle.search_core.specs.Tasks.{Task, as_held, as_settled, Replaced, Joins}
use Rattle.search_core.specs.Places.{IsMissing, CantJoin}
use Rattle.search_core.specs.Locals.{LocalParts, LocalSteps, IsBarred}

same_parts : (old new : LocalParts) → new.worker ≡ old.worker → new.seen ≡ old.seen → new.expands ≡ old.expands → new ≡ record old { tasks = new.tasks }
same_parts old new a b c = λ i. record { worker = a i; tasks = new.tasks; seen = b i; expands = c i }

pub claim_moves : (p : List Decision) (old new : LocalParts) → new.tasks ≡ old.tasks ++ as_held old.worker p ∷ [] → new.worker ≡ old.worker → new.seen ≡ old.seen → new.expands ≡ old.expands → LocalSteps (move.Claim p) old new
unfolding LocalSteps
claim_moves p old new e a b c = same_parts old new a b c ∙ ap (λ (t : List Task). record old { tasks = t }) e

pub give_moves : (p : List Decision) (old new : LocalParts) → Replaced old.tasks (as_held old.worker p) [] new.tasks → new.worker ≡ old.worker → new.seen ≡ old.seen → new.expands ≡ old.expands → LocalSteps (move.Give p) old new
unfolding LocalSteps
give_moves p old new r a b c = (new.tasks, r, same_parts old new a b c)

pub give_barred : (p : List Decision) (old : LocalParts) → IsMissing old.tasks (as_held old.worker p) → IsBarred (move.Give p) old
unfolding LocalSteps IsBarred IsMissing
give_barred p old h new s = h [] s.0 s.1

pub return_moves : (p : List Decision) (old new : LocalParts) → Replaced old.tasks (as_held old.worker p) [] new.tasks → new.worker ≡ old.worker → new.seen ≡ old.seen → new.expands ≡ old.expands → LocalSteps (move.Return p) old new
unfolding LocalSteps
return_moves p old new r a b c = (new.tasks, r, same_parts old new a b c)

pub return_barred : (p : List Decision) (old : LocalParts) → IsMissing old.tasks (as_held old.worker p) → IsBarred (move.Return p) old
unfolding LocalSteps IsBarred IsMissing
return_barred p old h new s = h [] s.0 s.1

pub hit_moves : (p : List Decision) (old new : LocalParts) → Replaced old.tasks (as_held old.worker p) (as_settled old.worker old.seen p ∷ []) new.tasks → new.worker ≡ old.worker → new.seen ≡ old.seen → new.expands ≡ old.expands → LocalSteps (move.Hit p) old new
unfolding LocalSteps
hit_moves p old new r a b c = (new.tasks, r, same_parts old new a b c)

pub hit_barred : (p : List Decision) (old : LocalParts) → IsMissing old.tasks (as_held old.worker p) → IsBarred (move.Hit p) old
unfolding LocalSteps IsBarred IsMissing
hit_barred p old h new s = h (as_settled old.worker old.seen p ∷ []) s.0 s.1

pub leaf_moves : (p : List Decision) (old new : LocalParts) → Replaced old.tasks (as_held old.worker p) (as_settled old.worker old.seen p ∷ []) new.tasks → new.worker ≡ old.worker → new.seen ≡ old.seen → new.expands ≡ old.expands → LocalSteps (move.Leaf p) old new
unfolding LocalSteps
leaf_moves p old new r a b c = (new.tasks, r, same_parts old new a b c)

pub leaf_barred : (p : List Decision) (old : LocalParts) → IsMissing old.tasks (as_held old.worker p) → IsBarred (move.Leaf p) old
unfolding LocalSteps IsBarred IsMissing
leaf_barred p old h new s = h (as_settled old.worker old.seen p ∷ []) s.0 s.1

pub expand_moves : (p : List Decision) (d : Decision) (old new : LocalParts) → Replaced old.tasks (as_held old.worker p) (as_held old.worker (p ++ d ∷ []) ∷ as_held old.worker (p ++ opposite d ∷ []) ∷ []) new.tasks
    → new.worker ≡ old.worker → new.seen ≡ old.seen → new.expands ≡ old.expands + 1 → LocalSteps (move.Expand p d) old new
unfolding LocalSteps
expand_moves p d old new r a b c = (new.tasks, r, λ i. record { worker = a i; tasks = new.tasks; seen = b i; expands = c i })

pub expand_barred : (p : List Decision) (d : Decision) (old : LocalParts) → IsMissing old.tasks (as_held old.worker p) → IsBarred (move.Expand p d) old
unfolding LocalSteps IsBarred IsMissing
expand_barred p d old h new s = h (as_held old.worker (p ++ d ∷ []) ∷ as_held old.worker (p ++ opposite d ∷ []) ∷ []) s.0 s.1

pub join_moves : (p : List Decision) (d : Decision) (old new : LocalParts) → Joins old.worker p (p ++ d ∷ []) (p ++ opposite d ∷ []) old.tasks new.tasks → new.worker ≡ old.worker → new.seen ≡ old.seen → new.expands ≡ old.expands
    → LocalSteps (move.Join p d) old new
unfolding LocalSteps
join_moves p d old new j a b c = (new.tasks, j, same_parts old new a b c)

pub join_barred : (p : List Decision) (d : Decision) (old : LocalParts) → CantJoin old.worker p (p ++ d ∷ []) (p ++ opposite d ∷ []) old.tasks → IsBarred (move.Join p d) old
unfolding LocalSteps IsBarred CantJoin
join_barred p d old h new s = h s.0 s.1

pub offer_moves : (z : ℤ) (old new : LocalParts) → new.worker ≡ old.worker → new.tasks ≡ old.tasks → new.seen ≡ int_min old.seen z → new.expands ≡ old.expands → LocalSteps (move.Offer z) old new
unfolding LocalSteps
offer_moves z old new a b c d = λ i. record { worker = a i; tasks = b i; seen = c i; expands = d i }

pub see_moves : (z : ℤ) (old new : LocalParts) → new.worker ≡ old.worker → new.tasks ≡ old.tasks → new.seen ≡ z → new.expands ≡ old.expands → LocalSteps (move.See z) old new
unfolding LocalSteps
see_moves z old new a b c d = λ i. record { worker = a i; tasks = b i; seen = c i; expands = d i }
