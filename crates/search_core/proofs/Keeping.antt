-- What stays of tasks when the tree of their paths, or the list of their entries, changes.
use Rattle.std.proofs.Common.{◌≡◌, ℕ, suc, ◌+◌, ◌<◌, ◌≤◌, List, [], ◌∷◌, ◌++◌, length, get_or, take, drop, refl, ap, subst, ◌∙◌, arith, length-append}
use Rattle.std.specs.Prelude.{All, map}
use Rattle.std.specs.List.{remove}
use Rattle.std.proofs.lemmas.List.{map-append, get_or_append_left, get_or-take, length-take}
use Rattle.std.proofs.lemmas.List.Elements.{All-nil, All-head, All-tail, All-append, All-push, All-take, All-drop, All-more}
use Rattle.search_core.specs.declared.decision.Decision.{Decision}
use Rattle.search_core.specs.declared.tasks.Entry.{Entry}
use Rattle.search_core.specs.Tasks.{task_of, tasks_of, AreNodes}
use Rattle.search_core.specs.Places.{Extends}

-- ---- where each path is the same, so are the tasks
agree : (a b : List (List Decision)) (es : List Entry) → All (λ e. get_or a e.node [] ≡ get_or b e.node []) es → map (task_of a) es ≡ map (task_of b) es
agree a b [] h = refl
agree a b (e ∷ es) h =
    let P : Entry → Type 0 = λ x. get_or a x.node [] ≡ get_or b x.node [] in
    let first : task_of a e ≡ task_of b e = ap (λ p. record { path = p; stand = e.stand }) (All-head P e es h) in
    let rest : map (task_of a) es ≡ map (task_of b) es = agree a b es (All-tail P e es h) in
    cc

pub nodes_none : (paths : List (List Decision)) → AreNodes paths []
unfolding AreNodes
nodes_none paths = All-nil (λ e. e.node < length paths)

pub tasks_none : (paths : List (List Decision)) → tasks_of paths [] ≡ []
unfolding tasks_of
tasks_none paths = refl

-- ---- a tree that grows
pub nodes_extend : (old new : List (List Decision)) (es : List Entry) → AreNodes old es → Extends old new → AreNodes new es
unfolding AreNodes
nodes_extend old new es h x = λ k d l. omega (arith, h k d l, ap length x.joined, length-append old x.more)

pub tasks_extend : (old new : List (List Decision)) (es : List Entry) → AreNodes old es → Extends old new → tasks_of new es ≡ tasks_of old es
unfolding AreNodes tasks_of
tasks_extend old new es h x = agree new old es (λ k d l. ap (λ t. get_or t (get_or es k d).node []) x.joined ∙ get_or_append_left old x.more [] (get_or es k d).node (h k d l))

-- ---- a tree that is cut
pub nodes_cut : (paths : List (List Decision)) (es : List Entry) (last : ℕ) → AreNodes paths es → All (λ e. e.node ≤ last) es → AreNodes (take (last + 1) paths) es
unfolding AreNodes
nodes_cut paths es last h g = λ k d l. omega (arith, h k d l, g k d l, length-take (last + 1) paths)

pub tasks_cut : (paths : List (List Decision)) (es : List Entry) (last : ℕ) → All (λ e. e.node ≤ last) es → tasks_of (take (last + 1) paths) es ≡ tasks_of paths es
unfolding tasks_of
tasks_cut paths es last g = agree (take (last + 1) paths) paths es (λ k d l. get_or-take (last + 1) paths (get_or es k d).node [] (omega (arith, g k d l)))

-- ---- entries
pub nodes_push : (paths : List (List Decision)) (es : List Entry) (e : Entry) → AreNodes paths es → e.node < length paths → AreNodes paths (es ++ e ∷ [])
unfolding AreNodes
nodes_push paths es e h l = All-push (λ x. x.node < length paths) es e h l

pub tasks_push : (paths : List (List Decision)) (es : List Entry) (e : Entry) → tasks_of paths (es ++ e ∷ []) ≡ tasks_of paths es ++ task_of paths e ∷ []
unfolding tasks_of
tasks_push paths es e = map-append (task_of paths) es (e ∷ [])

pub nodes_remove : (paths : List (List Decision)) (es : List Entry) (k : ℕ) → AreNodes paths es → AreNodes paths (remove es k)
unfolding AreNodes
nodes_remove paths es k h =
    let P : Entry → Type 0 = λ x. x.node < length paths in
    All-append P (take k es) (drop (suc k) es) (All-take P k es h) (All-drop P (suc k) es h)

pub greatest_more : (es : List Entry) (k old new : ℕ) (r : Entry) → All (λ e. e.node ≤ old) (take k es) → k < length es → old ≤ new → (get_or es k r).node ≤ new → All (λ e. e.node ≤ new) (take (k + 1) es)
greatest_more es k old new r h l a b = All-more (λ e. e.node ≤ new) es k r l (λ i d m. omega (arith, h i d m)) b

pub greatest_all : (es : List Entry) (k most : ℕ) → All (λ e. e.node ≤ most) (take k es) → length es ≤ k → All (λ e. e.node ≤ most) es
greatest_all es k most h l = λ i d b. subst (λ (e : Entry). e.node ≤ most) (get_or-take k es i d (omega (arith, l, b))) (h i d (omega (arith, l, b, length-take k es)))
