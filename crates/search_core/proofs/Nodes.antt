-- The paths of a tree's nodes.
use Rattle.std.proofs.Common.{◌≡◌, ℕ, zero, suc, ◌+◌, ◌<◌, ◌≤◌, List, [], ◌∷◌, ◌++◌, length, get_or, take, drop, refl, sym, ap, subst, ◌∙◌, arith, inl, inr, false, pos, append_assoc, add-one, length-append, length-drop, drop-cons}
use Rattle.std.specs.Prelude.{fold}
use Rattle.std.proofs.lemmas.Bool.{cases_lt}
use Rattle.std.proofs.lemmas.List.{append-nil, get_or_append_left, get_or_push, get_or-take, length-take}
use Rattle.std.proofs.lemmas.List.Sums.{fold-append}
use Rattle.std.proofs.Math.Seq.{take-append_seam, get_or-append_seam, take-length, take-suc, drop-length}
use Rattle.search_core.specs.declared.decision.Decision.{Decision}
use Rattle.search_core.specs.declared.tree.Node.{Node}
use Rattle.search_core.specs.Trees.{paths_of, path_under, with_node, IsTree, IsNode}
use Rattle.search_core.specs.Places.{Extends}

-- a node to read where there is none
abbrev pub spare : Node
spare = record { up = 0; decision = record { var = 0; at = pos 0; up = false } }

-- ---- lists that end in a decision
last_length : (p : List Decision) (d : Decision) → length (p ++ d ∷ []) ≡ length p + 1
last_length p d = length-append p (d ∷ [])

last_at : (p : List Decision) (d e : Decision) → get_or (p ++ d ∷ []) (length p) e ≡ d
last_at p d e = get_or-append_seam p d [] e

same_fronts : (p q : List Decision) (d e : Decision) → p ++ d ∷ [] ≡ q ++ e ∷ [] → p ≡ q
same_fronts p q d e h =
    let long : length p + 1 ≡ length q + 1 = sym (last_length p d) ∙ ap length h ∙ last_length q e in
    let same : length p ≡ length q = omega arith in
    sym (take-append_seam p (d ∷ [])) ∙ ap (λ n. take n (p ++ d ∷ [])) same ∙ ap (λ l. take (length q) l) h ∙ take-append_seam q (e ∷ [])

pub same_lasts : (p q : List Decision) (d e : Decision) → p ++ d ∷ [] ≡ q ++ e ∷ [] → d ≡ e
same_lasts p q d e h =
    let fronts : p ≡ q = same_fronts p q d e h in
    sym (last_at p d d) ∙ ap (λ l. get_or l (length p) d) h ∙ ap (λ l. get_or (q ++ e ∷ []) (length l) d) fronts ∙ last_at q e d

take_beyond : {X : Type 0} (xs : List X) (n : ℕ) → length xs ≤ n → take n xs ≡ xs
take_beyond [] zero l = refl
take_beyond [] (suc n) l = refl
take_beyond (x ∷ xs) zero l = absurd (omega arith)
take_beyond (x ∷ xs) (suc n) l = ap (λ t. x ∷ t) (take_beyond xs n (omega arith))

-- ---- the paths as they grow
record Grown (first all : List (List Decision)) : Type 0 where
  more : List (List Decision)
  joined : all ≡ first ++ more

grown : (first : List (List Decision)) (nodes : List Node) → Grown first (fold with_node first nodes)
grown first [] = record { more = []; joined = sym (append-nil first) }
grown first (n ∷ ns) =
    let later = grown (with_node first n) ns in
    record { more = path_under first n ∷ later.more; joined = later.joined ∙ append_assoc first (path_under first n ∷ []) later.more }

grown_length : (first : List (List Decision)) (nodes : List Node) → length (fold with_node first nodes) ≡ length first + length nodes
grown_length first [] = omega arith
grown_length first (n ∷ ns) = omega (arith, grown_length (with_node first n) ns, length-append first (path_under first n ∷ []))

grown_stays : (first : List (List Decision)) (nodes : List Node) (k : ℕ) (d : List Decision) → k < length first → get_or (fold with_node first nodes) k d ≡ get_or first k d
grown_stays first nodes k d l =
    let g = grown first nodes in
    ap (λ all. get_or all k d) g.joined ∙ get_or_append_left first g.more d k l

grown_at : (first : List (List Decision)) (nodes : List Node) (k : ℕ) (d : Node) (e : List Decision) → k < length nodes → (get_or nodes k d).up < length first + k
    → get_or (fold with_node first nodes) (length first + k) e ≡ path_under (fold with_node first nodes) (get_or nodes k d)
grown_at first [] k d e l b = absurd (omega arith)
grown_at first (n ∷ ns) zero d e l b =
    let made = with_node first n in
    let long : length made ≡ length first + 1 = length-append first (path_under first n ∷ []) in
    let here : get_or (fold with_node made ns) (length first) e ≡ path_under first n = grown_stays made ns (length first) e (omega arith) ∙ get_or-append_seam first (path_under first n) [] e in
    let above : get_or (fold with_node made ns) n.up [] ≡ get_or first n.up [] = grown_stays made ns n.up [] (omega arith) ∙ get_or_append_left first (path_under first n ∷ []) [] n.up (omega arith) in
    let place : length first + 0 ≡ length first = omega arith in
    ap (λ i. get_or (fold with_node made ns) i e) place ∙ here ∙ ap (λ p. p ++ n.decision ∷ []) (sym above)
grown_at first (n ∷ ns) (suc k) d e l b =
    let made = with_node first n in
    let long : length made ≡ length first + 1 = length-append first (path_under first n ∷ []) in
    let place : length first + suc k ≡ length made + k = omega arith in
    ap (λ i. get_or (fold with_node made ns) i e) place ∙ grown_at made ns k d e (omega arith) (omega arith)

grown_take : (first : List (List Decision)) (nodes : List Node) (k : ℕ) → fold with_node first (take k nodes) ≡ take (length first + k) (fold with_node first nodes)
grown_take first [] zero = sym (ap (λ n. take n first) (omega arith) ∙ take-length first)
grown_take first [] (suc k) = sym (take_beyond first (length first + suc k) (omega arith))
grown_take first (n ∷ ns) zero =
    let g = grown first (n ∷ ns) in
    let place : length first + 0 ≡ length first = omega arith in
    sym (ap (λ i. take i (fold with_node first (n ∷ ns))) place ∙ ap (λ all. take (length first) all) g.joined ∙ take-append_seam first g.more)
grown_take first (n ∷ ns) (suc k) =
    let made = with_node first n in
    let long : length made ≡ length first + 1 = length-append first (path_under first n ∷ []) in
    let place : length made + k ≡ length first + suc k = omega arith in
    grown_take made ns k ∙ ap (λ i. take i (fold with_node made ns)) place

-- ---- the paths of a tree
pub paths_count : (nodes : List Node) → length (paths_of nodes) ≡ length nodes + 1
unfolding paths_of
paths_count nodes = omega (arith, grown_length ([] ∷ []) nodes)

pub paths_none : paths_of [] ≡ [] ∷ []
unfolding paths_of
paths_none = refl

pub paths_root : (nodes : List Node) → get_or (paths_of nodes) 0 [] ≡ []
unfolding paths_of
paths_root nodes = grown_stays ([] ∷ []) nodes 0 [] (omega arith)

pub paths_push : (nodes : List Node) (n : Node) → paths_of (nodes ++ n ∷ []) ≡ paths_of nodes ++ path_under (paths_of nodes) n ∷ []
unfolding paths_of
paths_push nodes n = fold-append with_node ([] ∷ []) nodes (n ∷ [])

pub paths_take : (nodes : List Node) (k : ℕ) → paths_of (take k nodes) ≡ take (k + 1) (paths_of nodes)
unfolding paths_of
paths_take nodes k = grown_take ([] ∷ []) nodes k ∙ ap (λ i. take i (fold with_node ([] ∷ []) nodes)) (omega arith)

-- the node of the number k + 1 is the item k of the list
pub paths_at : (nodes : List Node) (k number : ℕ) (d : Node) → IsTree nodes → number ≤ length nodes → number ≡ k + 1
    → get_or (paths_of nodes) number [] ≡ get_or (paths_of nodes) (get_or nodes k d).up [] ++ (get_or nodes k d).decision ∷ []
unfolding paths_of
paths_at nodes k number d tree l e =
    let low : (get_or nodes k d).up ≤ k = tree.rising k d (omega arith) in
    let place : number ≡ 1 + k = omega arith in
    ap (λ i. get_or (fold with_node ([] ∷ []) nodes) i []) place ∙ grown_at ([] ∷ []) nodes k d [] (omega arith) (omega arith)

pub up_below : (nodes : List Node) (k number : ℕ) (d : Node) → IsTree nodes → number ≤ length nodes → number ≡ k + 1 → (get_or nodes k d).up < number
up_below nodes k number d tree l e = omega (arith, tree.rising k d (omega arith))

-- ---- lists of nodes that are trees
pub tree_none : IsTree []
tree_none = record { rising = λ k d l. absurd (omega arith) }

pub tree_push : (nodes : List Node) (n : Node) → IsTree nodes → n.up ≤ length nodes → IsTree (nodes ++ n ∷ [])
tree_push nodes n tree low = record {
  rising = λ k d l. elim (cases_lt k (length nodes)) [
    | inl lt ↦ subst (λ (x : Node). x.up ≤ k) (sym (get_or_append_left nodes (n ∷ []) d k lt)) (tree.rising k d lt)
    | inr ge ↦ let here : length nodes ≡ k = omega (arith, length-append nodes (n ∷ []), l) in
        subst (λ (x : Node). x.up ≤ k) (sym (get_or_push nodes n d k here)) (omega arith)
  ];
}

pub tree_take : (nodes : List Node) (k : ℕ) → IsTree nodes → IsTree (take k nodes)
tree_take nodes k tree = record {
  rising = λ i d l.
      let long = length-take k nodes in
      subst (λ (x : Node). x.up ≤ i) (sym (get_or-take k nodes i d (omega (arith, long, l)))) (tree.rising i d (omega (arith, long, l)));
}

-- ---- the node above
pub root_no_side : (nodes : List Node) (number : ℕ) (p : List Decision) (d : Decision) → number ≡ 0 → get_or (paths_of nodes) number [] ≡ p ++ d ∷ [] → ⊥
root_no_side nodes number p d e h =
    let empty : p ++ d ∷ [] ≡ [] = sym h ∙ ap (λ i. get_or (paths_of nodes) i []) e ∙ paths_root nodes in
    omega (arith, last_length p d, ap length empty)

pub above_is : (nodes : List Node) (k number : ℕ) (r : Node) (p : List Decision) (d : Decision) → IsTree nodes → number ≤ length nodes → number ≡ k + 1 → get_or (paths_of nodes) number [] ≡ p ++ d ∷ []
    → get_or (paths_of nodes) (get_or nodes k r).up [] ≡ p
above_is nodes k number r p d tree l e h = same_fronts _ p _ d (sym (paths_at nodes k number r tree l e) ∙ h)

pub last_is : (nodes : List Node) (k number : ℕ) (r : Node) (p : List Decision) (d : Decision) → IsTree nodes → number ≤ length nodes → number ≡ k + 1 → get_or (paths_of nodes) number [] ≡ p ++ d ∷ []
    → (get_or nodes k r).decision ≡ d
last_is nodes k number r p d tree l e h = same_lasts _ p _ d (sym (paths_at nodes k number r tree l e) ∙ h)

pub side_is : (nodes : List Node) (k number : ℕ) (r : Node) (p : List Decision) (d : Decision) → IsTree nodes → number ≤ length nodes → number ≡ k + 1 → get_or (paths_of nodes) (get_or nodes k r).up [] ≡ p → (get_or nodes k r).decision ≡ d
    → get_or (paths_of nodes) number [] ≡ p ++ d ∷ []
side_is nodes k number r p d tree l e f g = paths_at nodes k number r tree l e ∙ ap (λ q. q ++ (get_or nodes k r).decision ∷ []) f ∙ ap (λ c. p ++ c ∷ []) g

-- ---- adding the nodes of a path
pub record IsAdded (old new : List (List Decision)) (path : List Decision) (done number : ℕ) : Type 0 where
  pub extends : Extends old new
  pub below : number < length new
  pub here : get_or new number [] ≡ take done path

pub added_none : (paths : List (List Decision)) (path : List Decision) (number : ℕ) → number < length paths → get_or paths number [] ≡ [] → IsAdded paths paths path 0 number
added_none paths path number l e = record { extends = record { more = []; joined = sym (append-nil paths) }; below = l; here = e }

pub added_more : (old new newer : List (List Decision)) (path : List Decision) (done number next : ℕ) (r : Decision) → IsAdded old new path done number → done < length path
    → newer ≡ new ++ (get_or new number [] ++ get_or path done r ∷ []) ∷ [] → next ≡ length new → IsAdded old newer path (done + 1) next
added_more old new newer path done number next r a l e f =
    let longer : List Decision = get_or new number [] ++ get_or path done r ∷ [] in
    record {
      extends = record {
        more = a.extends.more ++ longer ∷ [];
        joined = e ∙ ap (λ t. t ++ longer ∷ []) a.extends.joined ∙ append_assoc old a.extends.more (longer ∷ []);
      };
      below = omega (arith, ap length e, length-append new (longer ∷ []), f);
      here =
          ap (λ t. get_or t next []) e ∙ get_or_push new longer [] next (sym f) ∙ ap (λ t. t ++ get_or path done r ∷ []) a.here
          ∙ sym (ap (λ i. take i path) (add-one done) ∙ take-suc path done r l);
    }

pub added_all : (old new : List (List Decision)) (path : List Decision) (done number : ℕ) → IsAdded old new path done number → length path ≤ done → get_or new number [] ≡ path
added_all old new path done number a l = a.here ∙ take_beyond path done l

-- ---- adding both sides of a cut
pub extends_one : (old new : List (List Decision)) (p : List Decision) → new ≡ old ++ p ∷ [] → Extends old new
extends_one old new p e = record { more = p ∷ []; joined = e }

pub extends_two : (old mid new : List (List Decision)) (p q : List Decision) → mid ≡ old ++ p ∷ [] → new ≡ mid ++ q ∷ [] → Extends old new
extends_two old mid new p q e f = record { more = p ∷ q ∷ []; joined = f ∙ ap (λ t. t ++ q ∷ []) e ∙ append_assoc old (p ∷ []) (q ∷ []) }

pub first_side : (old mid new : List (List Decision)) (p q : List Decision) (number : ℕ) → mid ≡ old ++ p ∷ [] → new ≡ mid ++ q ∷ [] → number ≡ length old → IsNode new number p
first_side old mid new p q number e f n =
    let long : length mid ≡ length old + 1 = ap length e ∙ length-append old (p ∷ []) in
    record {
      below = omega (arith, ap length f, length-append mid (q ∷ []), long, n);
      path = ap (λ t. get_or t number []) f ∙ get_or_append_left mid (q ∷ []) [] number (omega (arith, long, n)) ∙ ap (λ t. get_or t number []) e ∙ get_or_push old p [] number (sym n);
    }

pub second_side : (old mid new : List (List Decision)) (up : ℕ) (p : List Decision) (d : Decision) (number : ℕ) → up < length old → mid ≡ old ++ p ∷ [] → new ≡ mid ++ (get_or mid up [] ++ d ∷ []) ∷ [] → number ≡ length mid
    → IsNode new number (get_or old up [] ++ d ∷ [])
second_side old mid new up p d number l e f n =
    let here : get_or mid up [] ≡ get_or old up [] = ap (λ t. get_or t up []) e ∙ get_or_append_left old (p ∷ []) [] up l in
    record {
      below = omega (arith, ap length f, length-append mid ((get_or mid up [] ++ d ∷ []) ∷ []), n);
      path = ap (λ t. get_or t number []) f ∙ get_or_push mid (get_or mid up [] ++ d ∷ []) [] number (sym n) ∙ ap (λ q. q ++ d ∷ []) here;
    }

-- ---- looking whether a path is that of a node, from its end
pub record IsSoFar (nodes : List Node) (path : List Decision) (first number left : ℕ) : Type 0 where
  pub below : number ≤ length nodes
  pub within : left ≤ length path
  pub joined : get_or (paths_of nodes) first [] ≡ get_or (paths_of nodes) number [] ++ drop left path

pub so_far_none : (nodes : List Node) (path : List Decision) (number : ℕ) → number ≤ length nodes → IsSoFar nodes path number number (length path)
so_far_none nodes path number l =
    record { below = l; within = omega arith; joined = sym (ap (λ t. get_or (paths_of nodes) number [] ++ t) (drop-length path) ∙ append-nil _) }

-- the path of a node that isn't the root, and of which the end is known
so_far_end : (nodes : List Node) (path : List Decision) (first number left k : ℕ) (r : Node) → IsTree nodes → IsSoFar nodes path first number left → number ≡ k + 1
    → get_or (paths_of nodes) first [] ≡ get_or (paths_of nodes) (get_or nodes k r).up [] ++ (get_or nodes k r).decision ∷ drop left path
so_far_end nodes path first number left k r tree s e =
    s.joined ∙ ap (λ t. t ++ drop left path) (paths_at nodes k number r tree s.below e) ∙ append_assoc (get_or (paths_of nodes) (get_or nodes k r).up []) ((get_or nodes k r).decision ∷ []) (drop left path)

pub so_far_more : (nodes : List Node) (path : List Decision) (first number left k m : ℕ) (r : Node) (d : Decision) → IsTree nodes → IsSoFar nodes path first number left → number ≡ k + 1 → left ≡ m + 1
    → (get_or nodes k r).decision ≡ get_or path m d → IsSoFar nodes path first (get_or nodes k r).up m
so_far_more nodes path first number left k m r d tree s e f same = record {
  below = omega (arith, s.below, up_below nodes k number r tree s.below e);
  within = omega (arith, s.within);
  joined =
      let place : left ≡ suc m = omega arith in
      let starts : drop m path ≡ (get_or nodes k r).decision ∷ drop left path = drop-cons path m d (omega (arith, s.within)) ∙ ap (λ x. x ∷ drop (suc m) path) (sym same) ∙ ap (λ i. (get_or nodes k r).decision ∷ drop i path) (sym place) in
      so_far_end nodes path first number left k r tree s e ∙ ap (λ t. get_or (paths_of nodes) (get_or nodes k r).up [] ++ t) (sym starts);
}

-- where a decision differs, so do the paths
pub so_far_differs : (nodes : List Node) (path : List Decision) (first number left k m : ℕ) (r : Node) (d : Decision) → IsTree nodes → IsSoFar nodes path first number left → number ≡ k + 1 → left ≡ m + 1
    → ((get_or nodes k r).decision ≡ get_or path m d → ⊥) → get_or (paths_of nodes) first [] ≡ path → ⊥
so_far_differs nodes path first number left k m r d tree s e f differs same =
    let up : List Decision = get_or (paths_of nodes) (get_or nodes k r).up [] in
    let last : Decision = (get_or nodes k r).decision in
    let whole : path ≡ up ++ last ∷ drop left path = sym same ∙ so_far_end nodes path first number left k r tree s e in
    let long : length path ≡ length up + length (last ∷ drop left path) = ap length whole ∙ length-append up (last ∷ drop left path) in
    let place : length up ≡ m = omega (arith, long, length-drop left path, s.within) in
    differs (sym (get_or-append_seam up last (drop left path) d) ∙ ap (λ l. get_or l (length up) d) (sym whole) ∙ ap (λ i. get_or path i d) place)

-- the root comes too early
pub so_far_early : (nodes : List Node) (path : List Decision) (first number left : ℕ) → IsSoFar nodes path first number left → number ≡ 0 → 0 < left → get_or (paths_of nodes) first [] ≡ path → ⊥
so_far_early nodes path first number left s e l same =
    let rest : get_or (paths_of nodes) first [] ≡ drop left path = s.joined ∙ ap (λ i. get_or (paths_of nodes) i [] ++ drop left path) e ∙ ap (λ p. p ++ drop left path) (paths_root nodes) in
    let long : length path ≡ length (drop left path) = ap length (sym same ∙ rest) in
    absurd (omega (arith, long, length-drop left path, s.within))

pub so_far_all : (nodes : List Node) (path : List Decision) (first number left : ℕ) → IsSoFar nodes path first number left → number ≡ 0 → left ≡ 0 → get_or (paths_of nodes) first [] ≡ path
so_far_all nodes path first number left s e f =
    s.joined ∙ ap (λ i. get_or (paths_of nodes) i [] ++ drop left path) e ∙ ap (λ p. p ++ drop left path) (paths_root nodes) ∙ ap (λ i. drop i path) f

-- where the path is used up, and is that of the node, the root is reached
pub so_far_late : (nodes : List Node) (path : List Decision) (first number left : ℕ) → IsTree nodes → IsSoFar nodes path first number left → left ≡ 0 → get_or (paths_of nodes) first [] ≡ path → number ≡ 0
so_far_late nodes path first zero left tree s f same = refl
so_far_late [] path first (suc k) left tree s f same = absurd (omega (arith, s.below))
so_far_late (r ∷ nodes) path first (suc k) left tree s f same =
    let all : List Node = r ∷ nodes in
    let up : List Decision = get_or (paths_of all) (get_or all k r).up [] in
    let last : Decision = (get_or all k r).decision in
    let whole : path ≡ up ++ last ∷ drop left path = sym same ∙ so_far_end all path first (suc k) left k r tree s (omega arith) in
    let long : length path ≡ length up + length (last ∷ drop left path) = ap length whole ∙ length-append up (last ∷ drop left path) in
    absurd (omega (arith, long, length-drop left path, s.within))
