-- A set of numbers stays one.
use Rattle.std.proofs.Common.{◌≡◌, ◌≢◌, ℕ, ◌+◌, ◌-◌, ◌<◌, ◌≤◌, Bool, true, false, not, List, length, get_or, set, take, drop, ◌++◌, refl, sym, ap, subst, ◌∙◌, arith, inl, inr, get_or-set_same, get_or-set_other, length-set}
use Rattle.std.specs.Prelude.{cond}
use Rattle.std.specs.List.{count_by}
use Rattle.std.proofs.lemmas.List.Sums.{sum_by-set, count_by-le-length}
use Rattle.std.proofs.lemmas.List.{length-take, get_or-take, take-append-le, take_all, get_or_default}
use Rattle.std.proofs.lemmas.Bool.{false≢true, cases_eq}
use Rattle.mark_set.specs.Marks.{IsMarked, IsUnmarked, IsClear, Takes, marked_count, IsPlaced, IsMarkSet, IsLatest, HasClear}

-- one more number has its mark
pub counted : (marks : List Bool) (v : ℕ) → v < length marks → IsUnmarked marks v → count_by not marks ≡ count_by not (set marks v true) + 1
counted marks v h was =
    let both = sum_by-set (λ x. cond (not x) 1 0) marks v true false h in
    let here : ◌≡◌ {A = ℕ} (cond (not (get_or marks v false)) 1 0) 1 = ap (λ b. cond (not b) 1 0) was in
    omega (arith, both, here)

-- one number less
uncounted : (marks : List Bool) (v : ℕ) → v < length marks → IsMarked marks v → count_by not (set marks v false) ≡ count_by not marks + 1
uncounted marks v h was =
    let both = sum_by-set (λ x. cond (not x) 1 0) marks v false false h in
    let here : ◌≡◌ {A = ℕ} (cond (not (get_or marks v false)) 1 0) 0 = ap (λ b. cond (not b) 1 0) was in
    omega (arith, both, here)

pub room_left : (marks : List Bool) (places : List ℕ) (count v : ℕ) → IsMarkSet marks places count → v < length marks → IsUnmarked marks v → count < length places
room_left marks places count v s h was = let one = counted marks v h was in omega (arith, s.free, s.room, one)

pub added : (marks : List Bool) (places : List ℕ) (count v : ℕ) → IsMarkSet marks places count → v < length marks → IsUnmarked marks v → IsMarkSet (set marks v true) (set places count v) (count + 1)
added marks places count v s h was =
    let room = room_left marks places count v s h was in
    let one = counted marks v h was in
    let marks_long : length (set marks v true) ≡ length marks = length-set marks v true in
    let places_long : length (set places count v) ≡ length places = length-set places count v in
    record {
      few = omega (arith, s.few, marks_long);
      room = places_long ∙ s.room ∙ sym marks_long;
      free = omega (arith, s.free, one, marks_long);
      inside = λ k less. elim (cases_eq k count) [
        | inl same ↦ let here : get_or (set places count v) k 0 ≡ v = ap (λ j. get_or (set places count v) j 0) same ∙ get_or-set_same places count v 0 room in omega (arith, here, h, marks_long)
        | inr apart ↦ let there : get_or (set places count v) k 0 ≡ get_or places k 0 = get_or-set_other places count k v 0 apart in let was_in = s.inside k (omega (arith, less, apart)) in omega (arith, there, was_in, marks_long)
      ];
      placed = λ u is. elim (cases_eq u v) [
        | inl same ↦ (count, omega arith, get_or-set_same places count v 0 room ∙ sym same)
        | inr apart ↦ earlier u (s.placed u (sym (get_or-set_other marks v u true false apart) ∙ is))
      ];
    }
  where
    earlier : (u : ℕ) → IsPlaced places count u → IsPlaced (set places count v) (count + 1) u
    earlier u p = let less = p.1 in let apart : p.0 ≢ count = omega (arith, less) in (p.0, omega (arith, less), get_or-set_other places count p.0 v 0 apart ∙ p.2)

pub unmarked_if : (b : Bool) → (b ≡ true → ⊥) → b ≡ false
unmarked_if true n = absurd (n refl)
unmarked_if false n = refl

-- nothing is left
pub emptied : (marks : List Bool) (places : List ℕ) (count left : ℕ) → IsMarkSet marks places count → IsLatest marks places count left → left ≡ 0 → IsClear marks
emptied marks places count left s latest none v = unmarked_if (get_or marks v false) (λ is.
    let p = s.placed v is in
    let clear = latest.none p.0 (omega (arith, none)) p.1 in
    false≢true (sym clear ∙ ap (λ u. get_or marks u false) p.2 ∙ is))

pub cleared_set : (marks : List Bool) (places : List ℕ) (count left : ℕ) → IsMarkSet marks places count → IsLatest marks places count left → left ≡ 0 → IsMarkSet marks places left
cleared_set marks places count left s latest none = record {
  few = s.few;
  room = s.room;
  free = omega (arith, s.free, latest.most);
  inside = λ k less. absurd (omega (arith, less, none));
  placed = λ v is. absurd (false≢true (sym (emptied marks places count left s latest none v) ∙ is));
}

pub number_in : (marks : List Bool) (places : List ℕ) (count left : ℕ) → IsMarkSet marks places count → IsLatest marks places count left → 0 < left → get_or places (left - 1) 0 < length marks
number_in marks places count left s latest some = s.inside (left - 1) (omega (arith, some, latest.most))

pub taken : (marks : List Bool) (places : List ℕ) (count left : ℕ) → IsMarkSet marks places count → IsLatest marks places count left → 0 < left → IsMarkSet (set marks (get_or places (left - 1) 0) false) places (left - 1)
taken marks places count left s latest some =
    let v : ℕ = get_or places (left - 1) 0 in
    let h : v < length marks = number_in marks places count left s latest some in
    let long : length (set marks v false) ≡ length marks = length-set marks v false in
    let one = uncounted marks v h (latest.last some) in
    record {
      few = omega (arith, s.few, long);
      room = s.room ∙ sym long;
      free = omega (arith, s.free, one, long, latest.most, some);
      inside = λ k less. let was = s.inside k (omega (arith, less, latest.most)) in omega (arith, was, long);
      placed = λ u is. elim (cases_eq u v) [
        | inl same ↦ absurd (false≢true (sym (get_or-set_same marks v false false h) ∙ sym (ap (λ w. get_or (set marks v false) w false) same) ∙ is))
        | inr apart ↦ still u apart (sym (get_or-set_other marks v u false false apart) ∙ is)
      ];
    }
  where
    still : (u : ℕ) → u ≢ get_or places (left - 1) 0 → IsMarked marks u → IsPlaced places (left - 1) u
    still u apart is =
        let p = s.placed u is in
        let near : left ≤ p.0 → ⊥ = λ far. false≢true (sym (latest.none p.0 far p.1) ∙ ap (λ w. get_or marks w false) p.2 ∙ is) in
        let other : p.0 + 1 ≡ left → ⊥ = λ same. (let at : p.0 ≡ left - 1 = omega (arith, same, some) in apart (sym p.2 ∙ ap (λ k. get_or places k 0) at)) in
        (p.0, omega (arith, near, other, some), p.2)

-- all marks are taken away
pub all_cleared : (old new : List Bool) (places : List ℕ) (count : ℕ) → IsMarkSet old places count → HasClear old new (take count places) → IsClear new
all_cleared old new places count s clear v = unmarked_if (get_or new v false) (λ is.
    let both = clear v is in
    let p = s.placed v both.0 in
    both.1 p.0 (let long = length-take count places in let less = p.1 in omega (arith, long, less, s.free, s.room)) (get_or-take count places p.0 0 p.1 ∙ p.2))

-- the whole of a vector is replaced
pub whole : (n : ℕ) (xs ys : List Bool) → n ≡ length ys → length xs ≡ length ys → take n (xs ++ drop (length xs) ys) ≡ xs
whole n xs ys long same = take-append-le n xs (drop (length xs) ys) (omega (arith, long, same)) ∙ take_all n xs (omega (arith, long, same))

pub marked_if : (marks : List Bool) (v : ℕ) (b : Bool) → b ≡ get_or marks v b → v < length marks → get_or marks v false ≡ b
marked_if marks v b is h = sym (is ∙ get_or_default marks v b false h)

pub cleared : (old new : List Bool) (places : List ℕ) (count : ℕ) → IsMarkSet old places count → length new ≡ length old → IsClear new → IsMarkSet new places 0
cleared old new places count s long clear = record {
  few = omega (arith, s.few, long);
  room = s.room ∙ sym long;
  free = omega (arith, count_by-le-length not new);
  inside = λ k less. absurd (omega (arith, less));
  placed = λ v is. absurd (false≢true (sym (clear v) ∙ is));
}

pub taken_from : (marks seen : List Bool) (places listed : List ℕ) (count left number : ℕ) → IsMarkSet marks places count → IsLatest seen listed count left → seen ≡ marks → listed ≡ places → (left ≡ 0 → ⊥) → number ≡ get_or places (left - 1) number → IsMarkSet (set marks number false) places (left - 1)
taken_from marks seen places listed count left number s latest same_marks same_places some is =
    let here : IsLatest marks places count left = subst (λ (ms : List Bool). IsLatest ms places count left) same_marks (subst (λ (ps : List ℕ). IsLatest seen ps count left) same_places latest) in
    let positive : 0 < left = omega (arith, some) in
    let inside : left - 1 < length places = omega (arith, positive, here.most, s.free, s.room) in
    let at : get_or places (left - 1) 0 ≡ number = sym (is ∙ get_or_default places (left - 1) number 0 inside) in
    subst (λ v. IsMarkSet (set marks v false) places (left - 1)) at (taken marks places count left s here positive)

-- ---- how many numbers there are
pub takes_fewer : (v : ℕ) (old new : List Bool) → Takes v old new → marked_count new < marked_count old
unfolding marked_count
takes_fewer v old new takes =
    let both = sum_by-set (λ x. cond x 1 0) old v false false takes.inside in
    let here : ◌≡◌ {A = ℕ} (cond (get_or old v false) 1 0) 1 = ap (λ b. cond b 1 0) takes.was in
    let same : count_by (λ m. m) new ≡ count_by (λ m. m) (set old v false) = ap (λ (ms : List Bool). count_by (λ m. m) ms) takes.is in
    omega (arith, both, here, same)

pub count_most : (marks : List Bool) → marked_count marks ≤ length marks
unfolding marked_count
count_most marks = omega (arith, count_by-le-length (λ m. m) marks)
