-- What is known of a list in which a task is replaced, and where the task isn't found.
use Rattle.std.proofs.Common.{◌≡◌, ℕ, zero, suc, ◌+◌, ◌<◌, ◌≤◌, List, [], ◌∷◌, ◌++◌, length, get_or, refl, sym, ap, subst, ◌∙◌, arith, inl, inr, ℤ, Bool, true, false, append_assoc}
use Rattle.std.specs.Prelude.{All, map, not}
use Rattle.std.specs.List.{remove}
use Rattle.std.specs.Int.{int_min}
use Rattle.std.proofs.lemmas.Bool.{cases_lt}
use Rattle.std.proofs.Math.Arith.{lt_of_le-ne}
use Rattle.std.proofs.lemmas.List.{append-nil, get_or_default}
use Rattle.std.proofs.lemmas.List.Elements.{All-nil, All-cons, All-head, All-tail, All-append, All-map}
use Rattle.std.proofs.lemmas.List.Edits.{length-remove, get_or-remove_above, get_or-remove_below}
use Rattle.search_core.specs.declared.decision.Decision.{Decision}
use Rattle.search_core.specs.declared.stand.Stand.{Stand}
use Rattle.search_core.specs.declared.stand.Stand.TheVariants as stand
use Rattle.search_core.specs.declared.tasks.Entry.{Entry}
use Rattle.search_core.specs.Paths.{opposite}
use Rattle.search_core.specs.Trees.{IsNode}
use Rattle.search_core.specs.Tasks.{Task, as_held, as_settled, Replaced, Joins, task_of, tasks_of, AreNodes}
use Rattle.search_core.specs.Places.{Extends, IsPlace, IsSettledPlace, IsSettledBy, IsMissing, CantJoin}
use Rattle.search_core.proofs.Nodes.{same_lasts}
use Rattle.search_core.proofs.Keeping.{tasks_push, tasks_extend, nodes_push, nodes_extend, nodes_remove}

-- ---- parts of a list
all_left : {X : Type 0} (P : X → Type 0) (xs ys : List X) → All P (xs ++ ys) → All P xs
all_left P [] ys h = All-nil P
all_left P (x ∷ xs) ys h = All-cons P x xs (All-head P x (xs ++ ys) h) (all_left P xs ys (All-tail P x (xs ++ ys) h))

all_right : {X : Type 0} (P : X → Type 0) (xs ys : List X) → All P (xs ++ ys) → All P ys
all_right P [] ys h = h
all_right P (x ∷ xs) ys h = all_right P xs ys (All-tail P x (xs ++ ys) h)

-- ---- what was, and what stays
replaced_was : (P : Task → Type 0) (old new ys : List Task) (x : Task) → Replaced old x ys new → All P old → P x
replaced_was P old new ys x r h = All-head P x r.after (all_right P r.before (x ∷ r.after) (subst (All P) r.was h))

replaced_all : (P : Task → Type 0) (old new ys : List Task) (x : Task) → Replaced old x ys new → All P old → All P ys → All P new
replaced_all P old new ys x r h k =
    let here : All P (r.before ++ x ∷ r.after) = subst (All P) r.was h in
    let after : All P r.after = All-tail P x r.after (all_right P r.before (x ∷ r.after) here) in
    subst (All P) (sym r.«is») (All-append P r.before (r.after ++ ys) (all_left P r.before (x ∷ r.after) here) (All-append P r.after ys after k))

none_missing : (xs : List Task) (x : Task) → All (λ t. t ≡ x → ⊥) xs → IsMissing xs x
unfolding IsMissing
none_missing xs x h ys new r = replaced_was (λ t. t ≡ x → ⊥) xs new ys x r h refl

-- ---- taking out at a place
later : (z x : Task) (xs ys new : List Task) → Replaced xs x ys new → Replaced (z ∷ xs) x ys (z ∷ new)
later z x xs ys new r = record { before = z ∷ r.before; after = r.after; was = ap (λ t. z ∷ t) r.was; «is» = ap (λ t. z ∷ t) r.«is» }

removed_at : (paths : List (List Decision)) (es : List Entry) (k : ℕ) (x : Task) (ys : List Task) → k < length es → ((d : Entry) → task_of paths (get_or es k d) ≡ x)
    → Replaced (map (task_of paths) es) x ys (map (task_of paths) (remove es k) ++ ys)
removed_at paths [] k x ys l e = absurd (omega arith)
removed_at paths (z ∷ es) zero x ys l e = record { before = []; after = map (task_of paths) es; was = ap (λ t. t ∷ map (task_of paths) es) (e z); «is» = refl }
removed_at paths (z ∷ es) (suc k) x ys l e =
    later (task_of paths z) x (map (task_of paths) es) ys (map (task_of paths) (remove es k) ++ ys) (removed_at paths es k x ys (omega arith) e)

pub place_replaced : (paths : List (List Decision)) (es : List Entry) (k : ℕ) (x : Task) (ys : List Task) → IsPlace paths es k x → Replaced (tasks_of paths es) x ys (tasks_of paths (remove es k) ++ ys)
unfolding tasks_of
place_replaced paths es k x ys p = removed_at paths es k x ys p.below p.same

pub place_released : (paths : List (List Decision)) (es : List Entry) (k : ℕ) (x : Task) → IsPlace paths es k x → Replaced (tasks_of paths es) x [] (tasks_of paths (remove es k))
place_released paths es k x p = subst (Replaced (tasks_of paths es) x []) (append-nil (tasks_of paths (remove es k))) (place_replaced paths es k x [] p)

-- ---- looking for an entry from the end
pub record NoneFrom (P : Entry → Type 0) (es : List Entry) (left : ℕ) : Type 0 where
  pub within : left ≤ length es
  pub none : (k : ℕ) (d : Entry) → left ≤ k → k < length es → P (get_or es k d) → ⊥

pub none_start : (P : Entry → Type 0) (es : List Entry) → NoneFrom P es (length es)
none_start P es = record { within = omega arith; none = λ k d l m h. absurd (omega (arith, l, m)) }

pub none_more : (P : Entry → Type 0) (es : List Entry) (left m : ℕ) (r : Entry) → NoneFrom P es left → left ≡ m + 1 → (P (get_or es m r) → ⊥) → NoneFrom P es m
none_more P es left m r n e not = record {
  within = omega (arith, n.within);
  none = λ k d l b h. elim (cases_lt m k) [
    | inl lt ↦ n.none k d (omega (arith, e, lt)) b h
    | inr ge ↦ let here : k ≡ m = omega (arith, l, ge) in not (subst P (ap (λ i. get_or es i d) here ∙ get_or_default es m d r (omega (arith, b, here))) h)
  ];
}

pub none_all : (P : Entry → Type 0) (es : List Entry) (left : ℕ) → NoneFrom P es left → left ≤ 0 → All (λ e. P e → ⊥) es
none_all P es left n l = λ k d b h. n.none k d (omega (arith, l)) b h

abbrev pub IsHeldBy : List (List Decision) → ℕ → List Decision → Entry → Type 0
IsHeldBy paths w p e = task_of paths e ≡ as_held w p

pub held_missing : (paths : List (List Decision)) (es : List Entry) (w : ℕ) (p : List Decision) (left : ℕ) → NoneFrom (IsHeldBy paths w p) es left → left ≤ 0 → IsMissing (tasks_of paths es) (as_held w p)
unfolding tasks_of
held_missing paths es w p left n l = none_missing (map (task_of paths) es) (as_held w p) (All-map (λ t. t ≡ as_held w p → ⊥) (task_of paths) es (none_all (IsHeldBy paths w p) es left n l))

pub settled_missing : (paths : List (List Decision)) (es : List Entry) (w : ℕ) (p : List Decision) (left : ℕ) (b : ℤ) → NoneFrom (IsSettledBy paths w p) es left → left ≤ 0 → IsMissing (tasks_of paths es) (as_settled w b p)
unfolding tasks_of
settled_missing paths es w p left b n l =
    none_missing (map (task_of paths) es) (as_settled w b p)
    (All-map (λ t. t ≡ as_settled w b p → ⊥) (task_of paths) es (λ k d below h. none_all (IsSettledBy paths w p) es left n l k d below (record { bound = b; same = h })))

-- ---- what an entry is
pub task_made : (paths : List (List Decision)) (e : Entry) (p : List Decision) (s : Stand) → get_or paths e.node [] ≡ p → e.stand ≡ s → task_of paths e ≡ record { path = p; stand = s }
task_made paths e p s a b = λ i. record { path = a i; stand = b i }

pub task_path : (paths : List (List Decision)) (e : Entry) (p : List Decision) (s : Stand) → task_of paths e ≡ record { path = p; stand = s } → get_or paths e.node [] ≡ p
task_path paths e p s h = ap (λ (t : Task). t.path) h

pub task_stand : (paths : List (List Decision)) (e : Entry) (p : List Decision) (s : Stand) → task_of paths e ≡ record { path = p; stand = s } → e.stand ≡ s
task_stand paths e p s h = ap (λ (t : Task). t.stand) h

-- ---- the entry at a place
pub place_path : (paths : List (List Decision)) (es : List Entry) (k : ℕ) (p : List Decision) (s : Stand) (r : Entry) → IsPlace paths es k (record { path = p; stand = s }) → r ≡ get_or es k r → get_or paths r.node [] ≡ p
place_path paths es k p s r place e = ap (λ (x : Entry). get_or paths x.node []) e ∙ task_path paths (get_or es k r) p s (place.same r)

place_stand : (paths : List (List Decision)) (es : List Entry) (k : ℕ) (p : List Decision) (s : Stand) (r : Entry) → IsPlace paths es k (record { path = p; stand = s }) → r ≡ get_or es k r → r.stand ≡ s
place_stand paths es k p s r place e = ap (λ (x : Entry). x.stand) e ∙ task_stand paths (get_or es k r) p s (place.same r)

pub place_node : (paths : List (List Decision)) (es : List Entry) (k : ℕ) (r : Entry) → AreNodes paths es → k < length es → r ≡ get_or es k r → r.node < length paths
unfolding AreNodes
place_node paths es k r nodes l e = subst (λ (x : Entry). x.node < length paths) (sym e) (nodes k r l)

-- ---- settling and splitting
pub settle_replaced : (paths : List (List Decision)) (es after : List Entry) (k w : ℕ) (p : List Decision) (b : ℤ) (r : Entry) → IsPlace paths es k (as_held w p) → r ≡ get_or es k r
    → after ≡ remove es k ++ record { node = r.node; stand = stand.Settled w b } ∷ [] → Replaced (tasks_of paths es) (as_held w p) (as_settled w b p ∷ []) (tasks_of paths after)
settle_replaced paths es after k w p b r place read e =
    let made : Entry = record { node = r.node; stand = stand.Settled w b } in
    let task : task_of paths made ≡ as_settled w b p = task_made paths made p (stand.Settled w b) (place_path paths es k p (stand.Held w) r place read) refl in
    let is : tasks_of paths after ≡ tasks_of paths (remove es k) ++ as_settled w b p ∷ [] = ap (tasks_of paths) e ∙ tasks_push paths (remove es k) made ∙ ap (λ t. tasks_of paths (remove es k) ++ t ∷ []) task in
    subst (Replaced (tasks_of paths es) (as_held w p) (as_settled w b p ∷ [])) (sym is) (place_replaced paths es k (as_held w p) (as_settled w b p ∷ []) place)

pub settle_nodes : (paths : List (List Decision)) (es after : List Entry) (k : ℕ) (r : Entry) (s : Stand) → AreNodes paths es → k < length es → r ≡ get_or es k r → after ≡ remove es k ++ record { node = r.node; stand = s } ∷ [] → AreNodes paths after
settle_nodes paths es after k r s nodes l read e = subst (AreNodes paths) (sym e) (nodes_push paths (remove es k) (record { node = r.node; stand = s }) (nodes_remove paths es k nodes) (place_node paths es k r nodes l read))

abbrev held_node : ℕ → ℕ → Entry
held_node w n = record { node = n; stand = stand.Held w }

held_side : (old new : List (List Decision)) (es : List Entry) (k w n : ℕ) (p : List Decision) (c : Decision) (r : Entry) → IsPlace old es k (as_held w p) → r ≡ get_or es k r → IsNode new n (get_or old r.node [] ++ c ∷ [])
    → task_of new (held_node w n) ≡ as_held w (p ++ c ∷ [])
held_side old new es k w n p c r place read node =
    task_made new (held_node w n) (p ++ c ∷ []) (stand.Held w) (node.path ∙ ap (λ q. q ++ c ∷ []) (place_path old es k p (stand.Held w) r place read)) refl

pub split_replaced : (old new : List (List Decision)) (es after : List Entry) (k a b w : ℕ) (p : List Decision) (c : Decision) (r : Entry) → AreNodes old es → Extends old new → IsPlace old es k (as_held w p) → r ≡ get_or es k r
    → IsNode new a (get_or old r.node [] ++ c ∷ []) → IsNode new b (get_or old r.node [] ++ opposite c ∷ []) → after ≡ (remove es k ++ held_node w a ∷ []) ++ held_node w b ∷ []
    → Replaced (tasks_of old es) (as_held w p) (as_held w (p ++ c ∷ []) ∷ as_held w (p ++ opposite c ∷ []) ∷ []) (tasks_of new after)
split_replaced old new es after k a b w p c r nodes longer place read first second e =
    let kept : List Entry = remove es k in
    let ys : List Task = as_held w (p ++ c ∷ []) ∷ as_held w (p ++ opposite c ∷ []) ∷ [] in
    let same : tasks_of new kept ≡ tasks_of old kept = tasks_extend old new kept (nodes_remove old es k nodes) longer in
    let is : tasks_of new after ≡ tasks_of old kept ++ ys =
    ap (tasks_of new) e
    ∙ tasks_push new (kept ++ held_node w a ∷ []) (held_node w b)
    ∙ ap (λ ts. ts ++ task_of new (held_node w b) ∷ []) (tasks_push new kept (held_node w a))
    ∙ ap (λ ts. (ts ++ task_of new (held_node w a) ∷ []) ++ task_of new (held_node w b) ∷ []) same
    ∙ append_assoc (tasks_of old kept) (task_of new (held_node w a) ∷ []) (task_of new (held_node w b) ∷ [])
    ∙ ap (λ t. tasks_of old kept ++ t ∷ task_of new (held_node w b) ∷ []) (held_side old new es k w a p c r place read first)
    ∙ ap (λ t. tasks_of old kept ++ as_held w (p ++ c ∷ []) ∷ t ∷ []) (held_side old new es k w b p (opposite c) r place read second) in
    subst (Replaced (tasks_of old es) (as_held w p) ys) (sym is) (place_replaced old es k (as_held w p) ys place)

pub split_nodes : (old new : List (List Decision)) (es after : List Entry) (k a b w : ℕ) (p q : List Decision) → AreNodes old es → Extends old new → IsNode new a p → IsNode new b q
    → after ≡ (remove es k ++ held_node w a ∷ []) ++ held_node w b ∷ [] → AreNodes new after
split_nodes old new es after k a b w p q nodes longer first second e =
    let kept : AreNodes new (remove es k) = nodes_extend old new (remove es k) (nodes_remove old es k nodes) longer in
    subst (AreNodes new) (sym e) (nodes_push new (remove es k ++ held_node w a ∷ []) (held_node w b) (nodes_push new (remove es k) (held_node w a) kept first.below) second.below)

-- ---- joining
task_removed : (xs : List Task) (k : ℕ) (x d : Task) (ys : List Task) → k < length xs → get_or xs k d ≡ x → Replaced xs x ys (remove xs k ++ ys)
task_removed [] k x d ys l e = absurd (omega arith)
task_removed (z ∷ xs) zero x d ys l e = record { before = []; after = xs; was = ap (λ t. t ∷ xs) e; «is» = refl }
task_removed (z ∷ xs) (suc k) x d ys l e = later z x xs ys (remove xs k ++ ys) (task_removed xs k x d ys (omega arith) e)

none_of_missing : (xs : List Task) (x : Task) → IsMissing xs x → All (λ t. t ≡ x → ⊥) xs
unfolding IsMissing
none_of_missing xs x h = λ k d l e. h [] (remove xs k ++ []) (task_removed xs k x d [] l e)

still_missing : (xs ys : List Task) (x y : Task) → IsMissing xs x → Replaced xs y [] ys → IsMissing ys x
still_missing xs ys x y h r = none_missing ys x (replaced_all (λ t. t ≡ x → ⊥) xs ys [] y r (none_of_missing xs x h) (All-nil (λ t. t ≡ x → ⊥)))

gone : (xs ys new : List Task) (x : Task) → IsMissing xs x → Replaced xs x ys new → ⊥
unfolding IsMissing
gone xs ys new x h r = h ys new r

pub no_first : (xs : List Task) (w : ℕ) (p q r : List Decision) → ((b : ℤ) → IsMissing xs (as_settled w b q)) → CantJoin w p q r xs
unfolding CantJoin
no_first xs w p q r h new j = gone xs [] j.middle (as_settled w j.a q) (h j.a) j.first_goes

pub no_second : (xs : List Task) (w : ℕ) (p q r : List Decision) → ((b : ℤ) → IsMissing xs (as_settled w b r)) → CantJoin w p q r xs
unfolding CantJoin
no_second xs w p q r h new j = gone j.middle (as_settled w (int_min j.a j.b) p ∷ []) new (as_settled w j.b r) (still_missing xs j.middle (as_settled w j.b r) (as_settled w j.a q) (h j.b) j.first_goes) j.second_goes

up_differs : (u : Bool) → u ≡ not u → ⊥
up_differs true h = cc
up_differs false h = cc

pub sides_differ : (p : List Decision) (c : Decision) → p ++ c ∷ [] ≡ p ++ opposite c ∷ [] → ⊥
sides_differ p c h = up_differs c.up (ap (λ (d : Decision). d.up) (same_lasts p p c (opposite c) h))

pub places_differ : (paths : List (List Decision)) (es : List Entry) (i j w : ℕ) (p : List Decision) (c : Decision) → IsSettledPlace paths es i w (p ++ c ∷ []) → IsSettledPlace paths es j w (p ++ opposite c ∷ []) → i ≡ j → ⊥
places_differ paths [] i j w p c f g e = absurd (omega (arith, f.at.below))
places_differ paths (z ∷ es) i j w p c f g e =
    let at : ℕ → Entry = λ k. get_or (z ∷ es) k z in
    sides_differ p c (sym (task_path paths (at i) (p ++ c ∷ []) (stand.Settled w f.bound) (f.at.same z)) ∙ ap (λ k. get_or paths (at k).node []) e ∙ task_path paths (at j) (p ++ opposite c ∷ []) (stand.Settled w g.bound) (g.at.same z))

-- where one is taken out, another stands one place lower, or where it stood
after_removal : (paths : List (List Decision)) (es : List Entry) (i j k : ℕ) (x : Task) → i < length es → IsPlace paths es j x → (i ≡ j → ⊥) → (i < j → k + 1 ≡ j) → (j ≤ i → k ≡ j) → IsPlace paths (remove es i) k x
after_removal paths es i j k x l q apart above below = elim (cases_lt i j) [
  | inl lt ↦ let up : k + 1 ≡ j = above lt in
      record {
        below = omega (arith, up, q.below, length-remove es i l);
        same = λ d. ap (task_of paths) (get_or-remove_above es i d k (omega (arith, up, lt)) l ∙ ap (λ n. get_or es n d) up) ∙ q.same d;
      }
  | inr ge ↦ let down : k ≡ j = below ge in
      let under : j < i = lt_of_le-ne ge (λ e. apart (sym e)) in
      record {
        below = omega (arith, down, under, l, length-remove es i l);
        same = λ d. ap (task_of paths) (get_or-remove_below es i d k (omega (arith, down, under)) l ∙ ap (λ n. get_or es n d) down) ∙ q.same d;
      }
]

pub joins_at : (paths : List (List Decision)) (es after : List Entry) (i j k w : ℕ) (p : List Decision) (c : Decision) (node : ℕ) (s : Stand) (x y : Entry) → x ≡ get_or es i x → y ≡ get_or es j y → IsSettledPlace paths es i w (p ++ c ∷ [])
    → IsSettledPlace paths es j w (p ++ opposite c ∷ []) → (i < j → k + 1 ≡ j) → (j ≤ i → k ≡ j) → get_or paths node [] ≡ p
    → ((a b : ℤ) → x.stand ≡ stand.Settled w a → y.stand ≡ stand.Settled w b → s ≡ stand.Settled w (int_min a b)) → after ≡ remove (remove es i) k ++ record { node = node; stand = s } ∷ []
    → Joins w p (p ++ c ∷ []) (p ++ opposite c ∷ []) (tasks_of paths es) (tasks_of paths after)
joins_at paths es after i j k w p c node s x y read_x read_y f g above below path stands e =
    let first : Task = as_settled w f.bound (p ++ c ∷ []) in
    let second : Task = as_settled w g.bound (p ++ opposite c ∷ []) in
    let both : Task = as_settled w (int_min f.bound g.bound) p in
    let made : Entry = record { node = node; stand = s } in
    let mid : List Entry = remove es i in
    let stood : s ≡ stand.Settled w (int_min f.bound g.bound) = stands f.bound g.bound (place_stand paths es i (p ++ c ∷ []) (stand.Settled w f.bound) x f.at read_x)
    (place_stand paths es j (p ++ opposite c ∷ []) (stand.Settled w g.bound) y g.at read_y) in
    let task : task_of paths made ≡ both = task_made paths made p (stand.Settled w (int_min f.bound g.bound)) path stood in
    let is : tasks_of paths after ≡ tasks_of paths (remove mid k) ++ both ∷ [] = ap (tasks_of paths) e ∙ tasks_push paths (remove mid k) made ∙ ap (λ t. tasks_of paths (remove mid k) ++ t ∷ []) task in
    let place : IsPlace paths mid k second = after_removal paths es i j k second f.at.below g.at (places_differ paths es i j w p c f g) above below in
    record {
      a = f.bound;
      b = g.bound;
      middle = tasks_of paths mid;
      first_goes = place_released paths es i first f.at;
      second_goes = subst (Replaced (tasks_of paths mid) second (both ∷ [])) (sym is) (place_replaced paths mid k second (both ∷ []) place);
    }

pub joins_nodes : (paths : List (List Decision)) (es after : List Entry) (i k node : ℕ) (s : Stand) → AreNodes paths es → node < length paths → after ≡ remove (remove es i) k ++ record { node = node; stand = s } ∷ [] → AreNodes paths after
joins_nodes paths es after i k node s nodes l e =
    subst (AreNodes paths) (sym e) (nodes_push paths (remove (remove es i) k) (record { node = node; stand = s }) (nodes_remove paths (remove es i) k (nodes_remove paths es i nodes)) l)
