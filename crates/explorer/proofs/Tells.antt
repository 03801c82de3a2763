-- What each move makes of what a worker holds and has settled.
use Rattle.std.proofs.Common.{◌≡◌, ℕ, ◌+◌, ◌≤◌, List, [], ◌∷◌, ◌++◌, refl, sym, ap, subst, ℤ, arith}
use Rattle.std.specs.Prelude.{Contains, Result, OnOk, OnErr, Ok, Err}
use Rattle.std.specs.Int.{int_min}
use Rattle.search_core.specs.declared.decision.Decision.{Decision}
use Rattle.search_core.specs.declared.stand.Stand.TheVariants as stand
use Rattle.search_core.specs.declared.moves.Move.{Move}
use Rattle.search_core.specs.declared.moves.Move.TheVariants as move
use Rattle.search_core.specs.Paths.{opposite}
use Rattle.search_core.specs.Tasks.{Task, as_held, as_settled, Replaced, Joins}
use Rattle.search_core.specs.Locals.{LocalParts, LocalSteps, IsBarred}
use Rattle.search_core.proofs.Replacing.{sides_differ}
use Rattle.explorer.specs.Holding.{is_hold, times_held, times_in, HasSettled}
use Rattle.explorer.specs.Telling.{CanStep, SameTasks, IsSplit, IsClosed, IsJoined}
use Rattle.explorer.proofs.Counting.{count_replaced, count_held, counts_held, count_settled, Splits, split_of, found, without, kept, added}

-- ---- a move that is allowed isn't barred
pub not_barred : (step : Move) (l : LocalParts) → CanStep step l → IsBarred step l → ⊥
unfolding CanStep IsBarred
not_barred step l c b = b c.0 c.1

-- ---- a settled task isn't a held one, nor one of another path
held_settled : (w v : ℕ) (b : ℤ) (p q : List Decision) → as_settled v b q ≡ as_held w p → ⊥
held_settled w v b p q e = let stands : stand.Settled v b ≡ stand.Held w = ap (λ (t : Task). t.stand) e in cc

other_path : (w v : ℕ) (a b : ℤ) (p q : List Decision) → (q ≡ p → ⊥) → as_settled v b q ≡ as_settled w a p → ⊥
other_path w v a b p q n e = n (ap (λ (t : Task). t.path) e)

-- ---- a path that is held can be taken out
split_held : (p : List Decision) (l : LocalParts) → 1 ≤ times_held p l → Splits l.tasks (as_held l.worker p)
unfolding times_held
split_held p l h = found l.worker p l.tasks h

still_settled : (q p : List Decision) (l : LocalParts) (ys tasks : List Task) → Replaced l.tasks (as_held l.worker p) ys tasks → HasSettled q l → HasSettled q (record l { tasks = tasks })
unfolding HasSettled
still_settled q p l ys tasks r h = (h.0, kept l.tasks (as_held l.worker p) ys tasks (as_settled l.worker h.0 q) r (held_settled l.worker l.worker h.0 p q) h.1)

-- ---- an expansion
pub can_expand : (p : List Decision) (cut : Decision) (l : LocalParts) → 1 ≤ times_held p l → CanStep (move.Expand p cut) l
unfolding CanStep LocalSteps
can_expand p cut l h =
    let s : Splits l.tasks (as_held l.worker p) = split_held p l h in
    let ys : List Task = as_held l.worker (p ++ cut ∷ []) ∷ as_held l.worker (p ++ opposite cut ∷ []) ∷ [] in
    let tasks : List Task = s.before ++ (s.after ++ ys) in
    (record l { tasks = tasks; expands = l.expands + 1 }, (tasks, without l.tasks (as_held l.worker p) s ys, refl))

split_times : (q p : List Decision) (cut : Decision) (l : LocalParts) (tasks : List Task) (n : ℕ) → Replaced l.tasks (as_held l.worker p) (as_held l.worker (p ++ cut ∷ []) ∷ as_held l.worker (p ++ opposite cut ∷ []) ∷ []) tasks
    → times_held q (record l { tasks = tasks; expands = n }) + times_in q (p ∷ []) ≡ times_held q l + times_in q ((p ++ cut ∷ []) ∷ (p ++ opposite cut ∷ []) ∷ [])
unfolding times_held
split_times q p cut l tasks n r =
    rw (← count_held l.worker q p, ← counts_held l.worker q (p ++ cut ∷ []) (p ++ opposite cut ∷ [])) (count_replaced (is_hold l.worker q) l.tasks (as_held l.worker p) (as_held l.worker (p ++ cut ∷ []) ∷ as_held l.worker (p ++ opposite cut ∷ []) ∷ []) tasks r)

split_settled : (q p : List Decision) (l : LocalParts) (ys tasks : List Task) (n : ℕ) → Replaced l.tasks (as_held l.worker p) ys tasks → HasSettled q l → HasSettled q (record l { tasks = tasks; expands = n })
unfolding HasSettled
split_settled q p l ys tasks n r h = (h.0, kept l.tasks (as_held l.worker p) ys tasks (as_settled l.worker h.0 q) r (held_settled l.worker l.worker h.0 p q) h.1)

splits : (p : List Decision) (cut : Decision) (l k : LocalParts) → LocalSteps (move.Expand p cut) l k → IsSplit p cut l k
unfolding LocalSteps
splits p cut l k (tasks, r, e) = subst (IsSplit p cut l) (sym e) (record {
  times = λ q. split_times q p cut l tasks (l.expands + 1) r;
  settled = λ q. split_settled q p l (as_held l.worker (p ++ cut ∷ []) ∷ as_held l.worker (p ++ opposite cut ∷ []) ∷ []) tasks (l.expands + 1) r;
  expands = refl;
})

-- ---- a path is settled
pub can_leaf : (p : List Decision) (l : LocalParts) → 1 ≤ times_held p l → CanStep (move.Leaf p) l
unfolding CanStep LocalSteps
can_leaf p l h =
    let ys : List Task = as_settled l.worker l.seen p ∷ [] in
    let s : Splits l.tasks (as_held l.worker p) = split_held p l h in
    let tasks : List Task = s.before ++ (s.after ++ ys) in (record l { tasks = tasks }, (tasks, without l.tasks (as_held l.worker p) s ys, refl))

pub can_hit : (p : List Decision) (l : LocalParts) → 1 ≤ times_held p l → CanStep (move.Hit p) l
unfolding CanStep LocalSteps
can_hit p l h =
    let ys : List Task = as_settled l.worker l.seen p ∷ [] in
    let s : Splits l.tasks (as_held l.worker p) = split_held p l h in
    let tasks : List Task = s.before ++ (s.after ++ ys) in (record l { tasks = tasks }, (tasks, without l.tasks (as_held l.worker p) s ys, refl))

close_times : (q p : List Decision) (l : LocalParts) (tasks : List Task) → Replaced l.tasks (as_held l.worker p) (as_settled l.worker l.seen p ∷ []) tasks → times_held q (record l { tasks = tasks }) + times_in q (p ∷ []) ≡ times_held q l
unfolding times_held
close_times q p l tasks r = omega (arith, count_held l.worker q p, count_settled l.worker l.worker q p l.seen, count_replaced (is_hold l.worker q) l.tasks (as_held l.worker p) (as_settled l.worker l.seen p ∷ []) tasks r)

close_here : (p : List Decision) (l : LocalParts) (tasks : List Task) → Replaced l.tasks (as_held l.worker p) (as_settled l.worker l.seen p ∷ []) tasks → HasSettled p (record l { tasks = tasks })
unfolding HasSettled
close_here p l tasks r = (l.seen, added l.tasks (as_held l.worker p) (as_settled l.worker l.seen p) tasks r)

closes : (p : List Decision) (l k : LocalParts) (tasks : List Task) → Replaced l.tasks (as_held l.worker p) (as_settled l.worker l.seen p ∷ []) tasks → k ≡ record l { tasks = tasks } → IsClosed p l k
closes p l k tasks r e = subst (IsClosed p l) (sym e) (record {
  times = λ q. close_times q p l tasks r;
  settled = λ q. still_settled q p l (as_settled l.worker l.seen p ∷ []) tasks r;
  here = close_here p l tasks r;
  expands = refl;
})

leaf_closes : (p : List Decision) (l k : LocalParts) → LocalSteps (move.Leaf p) l k → IsClosed p l k
unfolding LocalSteps
leaf_closes p l k (tasks, r, e) = closes p l k tasks r e

hit_closes : (p : List Decision) (l k : LocalParts) → LocalSteps (move.Hit p) l k → IsClosed p l k
unfolding LocalSteps
hit_closes p l k (tasks, r, e) = closes p l k tasks r e

-- ---- both sides are settled
joined : (w : ℕ) (p first second : List Decision) (a b : ℤ) (old : List Task) → (second ≡ first → ⊥) → Contains old (as_settled w a first) → Contains old (as_settled w b second) → (tasks : List Task) × Joins w p first second old tasks
joined w p first second a b old apart one two =
    let s : Splits old (as_settled w a first) = split_of old (as_settled w a first) one in
    let middle : List Task = s.before ++ (s.after ++ []) in
    let goes : Replaced old (as_settled w a first) [] middle = without old (as_settled w a first) s [] in
    let stays : Contains middle (as_settled w b second) = kept old (as_settled w a first) [] middle (as_settled w b second) goes (other_path w w a b first second apart) two in
    let t : Splits middle (as_settled w b second) = split_of middle (as_settled w b second) stays in
    let ys : List Task = as_settled w (int_min a b) p ∷ [] in
    (t.before ++ (t.after ++ ys), record { a = a; b = b; middle = middle; first_goes = goes; second_goes = without middle (as_settled w b second) t ys })

join_steps : (p : List Decision) (cut : Decision) (l : LocalParts) (tasks : List Task) → Joins l.worker p (p ++ cut ∷ []) (p ++ opposite cut ∷ []) l.tasks tasks → CanStep (move.Join p cut) l
unfolding CanStep LocalSteps
join_steps p cut l tasks j = (record l { tasks = tasks }, (tasks, j, refl))

pub can_join : (p : List Decision) (cut : Decision) (l : LocalParts) → HasSettled (p ++ cut ∷ []) l → HasSettled (p ++ opposite cut ∷ []) l → CanStep (move.Join p cut) l
unfolding HasSettled
can_join p cut l (a, one) (b, two) =
    let j : (tasks : List Task) × Joins l.worker p (p ++ cut ∷ []) (p ++ opposite cut ∷ []) l.tasks tasks =
    joined l.worker p (p ++ cut ∷ []) (p ++ opposite cut ∷ []) a b l.tasks (λ e. sides_differ p cut (sym e)) one two in
    join_steps p cut l j.0 j.1

join_times : (q p first second : List Decision) (l : LocalParts) (tasks : List Task) → Joins l.worker p first second l.tasks tasks → times_held q (record l { tasks = tasks }) ≡ times_held q l
unfolding times_held
join_times q p first second l tasks j = omega (
  arith,
  count_replaced (is_hold l.worker q) l.tasks (as_settled l.worker j.a first) [] j.middle j.first_goes,
  count_replaced (is_hold l.worker q) j.middle (as_settled l.worker j.b second) (as_settled l.worker (int_min j.a j.b) p ∷ []) tasks j.second_goes,
  count_settled l.worker l.worker q first j.a,
  count_settled l.worker l.worker q second j.b,
  count_settled l.worker l.worker q p (int_min j.a j.b),
)

join_settled : (q p first second : List Decision) (l : LocalParts) (tasks : List Task) → Joins l.worker p first second l.tasks tasks → (q ≡ first → ⊥) → (q ≡ second → ⊥) → HasSettled q l → HasSettled q (record l { tasks = tasks })
unfolding HasSettled
join_settled q p first second l tasks j one two (b, h) = (
  b,
  kept j.middle (as_settled l.worker j.b second) (as_settled l.worker (int_min j.a j.b) p ∷ []) tasks (as_settled l.worker b q) j.second_goes (other_path l.worker l.worker j.b b second q two)
      (kept l.tasks (as_settled l.worker j.a first) [] j.middle (as_settled l.worker b q) j.first_goes (other_path l.worker l.worker j.a b first q one) h),
)

join_here : (p first second : List Decision) (l : LocalParts) (tasks : List Task) → Joins l.worker p first second l.tasks tasks → HasSettled p (record l { tasks = tasks })
unfolding HasSettled
join_here p first second l tasks j = (int_min j.a j.b, added j.middle (as_settled l.worker j.b second) (as_settled l.worker (int_min j.a j.b) p) tasks j.second_goes)

joins : (p : List Decision) (cut : Decision) (l k : LocalParts) → LocalSteps (move.Join p cut) l k → IsJoined p cut l k
unfolding LocalSteps
joins p cut l k (tasks, j, e) = subst (IsJoined p cut l) (sym e) (record {
  times = λ q. join_times q p (p ++ cut ∷ []) (p ++ opposite cut ∷ []) l tasks j;
  settled = λ q. join_settled q p (p ++ cut ∷ []) (p ++ opposite cut ∷ []) l tasks j;
  here = join_here p (p ++ cut ∷ []) (p ++ opposite cut ∷ []) l tasks j;
  expands = refl;
})

-- ---- bounds
pub can_see : (z : ℤ) (l : LocalParts) → CanStep (move.See z) l
unfolding CanStep LocalSteps
can_see z l = (record l { seen = z }, refl)

pub can_offer : (z : ℤ) (l : LocalParts) → CanStep (move.Offer z) l
unfolding CanStep LocalSteps
can_offer z l = (record l { seen = int_min l.seen z }, refl)

same_times : (q : List Decision) (l : LocalParts) (z : ℤ) → times_held q (record l { seen = z }) ≡ times_held q l
unfolding times_held
same_times q l z = refl

same_settled : (q : List Decision) (l : LocalParts) (z : ℤ) → HasSettled q l → HasSettled q (record l { seen = z })
unfolding HasSettled
same_settled q l z h = h

seen_same : (z : ℤ) (l k : LocalParts) → k ≡ record l { seen = z } → SameTasks l k
seen_same z l k e = subst (SameTasks l) (sym e) (record { times = λ q. same_times q l z; settled = λ q. same_settled q l z; expands = refl })

unmoved : (l k : LocalParts) → k ≡ l → SameTasks l k
unmoved l k e = subst (SameTasks l) (sym e) (record { times = λ q. refl; settled = λ q h. h; expands = refl })

-- ---- what is known after a call
pub did_expand : {T E : Type 0} (r : Result T E) (p : List Decision) (cut : Decision) (l k : LocalParts) → OnOk r (LocalSteps (move.Expand p cut) l k) → OnOk r (IsSplit p cut l k)
did_expand (Ok u) p cut l k h = splits p cut l k h
did_expand (Err f) p cut l k h = tt

pub did_leaf : {T E : Type 0} (r : Result T E) (p : List Decision) (l k : LocalParts) → OnOk r (LocalSteps (move.Leaf p) l k) → OnOk r (IsClosed p l k)
did_leaf (Ok u) p l k h = leaf_closes p l k h
did_leaf (Err f) p l k h = tt

pub did_hit : {T E : Type 0} (r : Result T E) (p : List Decision) (l k : LocalParts) → OnOk r (LocalSteps (move.Hit p) l k) → OnOk r (IsClosed p l k)
did_hit (Ok u) p l k h = hit_closes p l k h
did_hit (Err f) p l k h = tt

pub did_join : {T E : Type 0} (r : Result T E) (p : List Decision) (cut : Decision) (l k : LocalParts) → OnOk r (LocalSteps (move.Join p cut) l k) → OnOk r (IsJoined p cut l k)
did_join (Ok u) p cut l k h = joins p cut l k h
did_join (Err f) p cut l k h = tt

pub did_see : {T E : Type 0} (r : Result T E) (z : ℤ) (l k : LocalParts) → OnOk r (LocalSteps (move.See z) l k) → OnErr r (k ≡ l) → SameTasks l k
unfolding LocalSteps
did_see (Ok u) z l k h e = seen_same z l k h
did_see (Err f) z l k h e = unmoved l k e

pub did_offer : {T E : Type 0} (r : Result T E) (z : ℤ) (l k : LocalParts) → OnOk r (LocalSteps (move.Offer z) l k) → OnErr r (k ≡ l) → SameTasks l k
unfolding LocalSteps
did_offer (Ok u) z l k h e = seen_same (int_min l.seen z) l k h
did_offer (Err f) z l k h e = unmoved l k e
