-- A table of slots with the numbers of its empty slots, as entries are put and taken out.
use Rattle.std.proofs.Common.{◌≡◌, ◌≢◌, ℕ, zero, suc, ◌+◌, ◌*◌, ◌%◌, ◌^◌, ◌<◌, ◌≤◌, List, [], ◌∷◌, ◌++◌, length, set, Some, None, refl, sym, ap, subst, ◌∙◌, inl, inr, arith, slice_index}
use Rattle.std.specs.declared.option.Option.{Option}
use Rattle.std.proofs.lemmas.Bool.{cases_lt}
use Rattle.std.proofs.lemmas.Nat.{mod-mul-add}
use Rattle.std.proofs.Math.Nat.{add-mul, one-mul, zero-mul}
use Rattle.std.proofs.lemmas.List.{get_or-set_same, get_or-set_other, length-set, length-append, get_or_append_left}
use Rattle.std.proofs.Math.Seq.{get_or-append_seam}
use Rattle.entry_slab.specs.Entries.{Bounded}
use Rattle.entry_slab.specs.Contents.{entry_under, Adds, TakesOut}
use Rattle.entry_slab.specs.Slots.{entries_in, slot_at, AreInPlace, AreFree, IsStocked, IsKept, HasNone}
use Rattle.entry_slab.specs.declared.slots.Kept.{Kept}
use Rattle.entry_slab.proofs.SlotTables.{kept_is, none_is, same_under, kept_elsewhere, kept_back, in_place_set, count_filled, count_emptied, some_same, none_some}

-- ---- the numbers of the empty slots
front_of : (ys : List ℕ) (at k : ℕ) → k < length ys → slice_index (ys ++ at ∷ []) k ≡ slice_index ys k
front_of ys at k below = get_or_append_left ys (at ∷ []) 0 k below

last_of : (ys : List ℕ) (at k : ℕ) → k ≡ length ys → slice_index (ys ++ at ∷ []) k ≡ at
last_of ys at k is = ap (λ n. slice_index (ys ++ at ∷ []) n) is ∙ get_or-append_seam ys at [] 0

count_of : (ys : List ℕ) (at : ℕ) → length (ys ++ at ∷ []) ≡ length ys + 1
count_of ys at = length-append ys (at ∷ [])

-- the last of them
last_inside : (slots : List (Option Kept)) (ys : List ℕ) (at : ℕ) → AreFree slots (ys ++ at ∷ []) → at < length slots
last_inside slots ys at free =
    let count = count_of ys at in
    subst (λ n. n < length slots) (last_of ys at (length ys) refl) (free.inside (length ys) (omega arith))

last_empty : (slots : List (Option Kept)) (ys : List ℕ) (at : ℕ) → AreFree slots (ys ++ at ∷ []) → slot_at slots at ≡ None
last_empty slots ys at free =
    let count = count_of ys at in
    ap (λ n. slot_at slots n) (sym (last_of ys at (length ys) refl)) ∙ free.empty (length ys) (omega arith)

others_differ : (slots : List (Option Kept)) (ys : List ℕ) (at k : ℕ) → AreFree slots (ys ++ at ∷ []) → k < length ys → slice_index ys k ≢ at
others_differ slots ys at k free below same =
    let count = count_of ys at in
    free.apart k (length ys) below (omega arith) (front_of ys at k below ∙ same ∙ sym (last_of ys at (length ys) refl))

filled : (slots : List (Option Kept)) (ys : List ℕ) (at : ℕ) (kept : Kept) → AreFree slots (ys ++ at ∷ []) → AreFree (set slots at (Some kept)) ys
filled slots ys at kept free =
    let count = count_of ys at in
    let more = count_filled slots at kept (last_inside slots ys at free) (last_empty slots ys at free) in
    record {
      apart = λ j k before below same. free.apart j k before (omega arith) (front_of ys at j (omega arith) ∙ same ∙ sym (front_of ys at k below));
      inside = λ k below. rw (length-set slots at (Some kept)) (subst (λ n. n < length slots) (front_of ys at k below) (free.inside k (omega arith)));
      empty = λ k below. get_or-set_other slots at (slice_index ys k) (Some kept) None (others_differ slots ys at k free below) ∙ ap (λ n. slot_at slots n) (sym (front_of ys at k below)) ∙ free.empty k (omega arith);
      count = omega (arith, length-set slots at (Some kept), free.count);
    }

-- a slot that has an entry isn't among them
full_differs : (slots : List (Option Kept)) (free : List ℕ) (at k : ℕ) (kept : Kept) → slot_at slots at ≡ Some kept → AreFree slots free → k < length free → slice_index free k ≢ at
full_differs slots free at k kept stands are below same = none_some (slot_at slots at) kept (ap (λ n. slot_at slots n) (sym same) ∙ are.empty k below) stands

emptied : (slots : List (Option Kept)) (free : List ℕ) (at : ℕ) (kept : Kept) → at < length slots → slot_at slots at ≡ Some kept → AreFree slots free → AreFree (set slots at None) (free ++ at ∷ [])
emptied slots free at kept inside stands are =
    let count = count_of free at in
    let fewer = count_emptied slots at kept inside stands in
    record {
      apart = λ j k before below same.
          elim (cases_lt k (length free)) [
            | inl front ↦ are.apart j k before front (sym (front_of free at j (omega arith)) ∙ same ∙ front_of free at k front)
            | inr last ↦ full_differs slots free at j kept stands are (omega arith) (sym (front_of free at j (omega arith)) ∙ same ∙ last_of free at k (omega arith))
          ];
      inside = λ k below. rw (length-set slots at None)
          (elim (cases_lt k (length free)) [
            | inl front ↦ subst (λ n. n < length slots) (sym (front_of free at k front)) (are.inside k front)
            | inr last ↦ subst (λ n. n < length slots) (sym (last_of free at k (omega arith))) inside
          ]);
      empty = λ k below.
          elim (cases_lt k (length free)) [
            | inl front ↦ ap (λ n. slot_at (set slots at None) n) (front_of free at k front) ∙ get_or-set_other slots at (slice_index free k) None None (full_differs slots free at k kept stands are front) ∙ are.empty k front
            | inr last ↦ ap (λ n. slot_at (set slots at None) n) (last_of free at k (omega arith)) ∙ get_or-set_same slots at None None inside
          ];
      count = omega (arith, length-set slots at None, are.count);
    }

-- ---- a table
-- other keys show what they did where the written slot isn't theirs
elsewhere : (slots : List (Option Kept)) (at k : ℕ) (o : Option Kept) → AreInPlace slots → AreInPlace (set slots at o) → ((kept : Kept) → IsKept slots k kept → k % length slots ≢ at) → ((kept : Kept) → IsKept (set slots at o) k kept → k % length slots ≢ at) → entry_under (entries_in (set slots at o)) k ≡ entry_under (entries_in slots) k
elsewhere slots at k o placed placed' old new =
    same_under slots (set slots at o) k placed placed' (λ kept is. kept_elsewhere slots at k o kept (old kept is) is) (λ kept is. kept_back slots at k o kept (new kept is) is)

-- what stands in the written slot
written : (slots : List (Option Kept)) (at k : ℕ) (o : Option Kept) (kept : Kept) → at < length slots → k % length slots ≡ at → IsKept (set slots at o) k kept → o ≡ Some kept
written slots at k o kept inside here is =
    sym (get_or-set_same slots at o None inside) ∙ ap (λ n. slot_at (set slots at o) n) (sym here) ∙ (rw (length-set slots at o) at is.stands)

own_slot : (rounds n at next key : ℕ) → at < n → next ≡ rounds * n → key ≡ next + at → key % n ≡ at
own_slot rounds n at next key inside multiple is = ap (λ k. k % n) (is ∙ ap (λ m. m + at) multiple) ∙ mod-mul-add rounds n at inside

put_in_place : (slots : List (Option Kept)) (at : ℕ) (kept : Kept) → at < length slots → kept.key % length slots ≡ at → AreInPlace slots → AreInPlace (set slots at (Some kept))
put_in_place slots at kept inside own placed = in_place_set slots at (Some kept) inside (λ k same. ap (λ (x : Kept). x.key % length slots) (sym (some_same kept k same)) ∙ own) placed

taken_in_place : (slots : List (Option Kept)) (at : ℕ) → at < length slots → AreInPlace slots → AreInPlace (set slots at None)
taken_in_place slots at inside placed = in_place_set slots at None inside (λ k same. absurd (none_some None k refl same)) placed

one_more : (rounds n : ℕ) → rounds * n + n ≡ (rounds + 1) * n
one_more rounds n = sym (add-mul rounds 1 n ∙ ap (λ m. rounds * n + m) (one-mul n))

next_multiple : (next after n : ℕ) → (rounds : ℕ) × (next ≡ rounds * n) → (next ≤ 2 ^ 63 → after ≡ next + n) → (2 ^ 63 < next → after ≡ 0) → (rounds : ℕ) × (after ≡ rounds * n)
next_multiple next after n (rounds, is) low high =
    elim (cases_lt (2 ^ 63) next) [
      | inl above ↦ (0, high above ∙ sym (zero-mul n))
      | inr below ↦ (rounds + 1, low below ∙ ap (λ m. m + n) is ∙ one_more rounds n)
    ]

next_bounded : (next after n : ℕ) → n < 2 ^ 32 → (next ≤ 2 ^ 63 → after ≡ next + n) → (2 ^ 63 < next → after ≡ 0) → after < 2 ^ 63 + 2 ^ 32 + 1
next_bounded next after n small low high =
    elim (cases_lt (2 ^ 63) next) [
      | inl above ↦ let e = high above in omega arith
      | inr below ↦ let e = low below in omega arith
    ]

pub put_stocked : (slots : List (Option Kept)) (ys : List ℕ) (next after at : ℕ) (kept : Kept) → IsStocked slots (ys ++ at ∷ []) next → kept.key ≡ next + at → (next ≤ 2 ^ 63 → after ≡ next + length slots) → (2 ^ 63 < next → after ≡ 0) → IsStocked (set slots at (Some kept)) ys after
put_stocked slots ys next after at kept is key low high =
    let inside = last_inside slots ys at is.empty in
    record {
      in_place = put_in_place slots at kept inside (own_slot is.multiple.0 (length slots) at next kept.key inside is.multiple.1 key) is.in_place;
      empty = filled slots ys at kept is.empty;
      small = rw (length-set slots at (Some kept)) is.small;
      multiple = rw (length-set slots at (Some kept)) (next_multiple next after (length slots) is.multiple low high);
      bounded = next_bounded next after (length slots) is.small low high;
    }

pub put_adds : (slots : List (Option Kept)) (ys : List ℕ) (next at : ℕ) (kept : Kept) → IsStocked slots (ys ++ at ∷ []) next → kept.key ≡ next + at → Adds kept.key kept.entry (entries_in slots) (entries_in (set slots at (Some kept)))
unfolding HasNone
put_adds slots ys next at kept is key =
    let inside = last_inside slots ys at is.empty in
    let empty = last_empty slots ys at is.empty in
    let own = own_slot is.multiple.0 (length slots) at next kept.key inside is.multiple.1 key in
    let placed = put_in_place slots at kept inside own is.in_place in
    record {
      absent = none_is slots kept.key is.in_place (λ k old. none_some (slot_at slots at) k empty (ap (λ n. slot_at slots n) (sym own) ∙ old.stands));
      there = kept_is (set slots at (Some kept)) kept.key kept placed (record {
        some_slots = rw (length-set slots at (Some kept)) (omega arith);
        stands = rw (length-set slots at (Some kept)) (ap (λ n. slot_at (set slots at (Some kept)) n) own ∙ get_or-set_same slots at (Some kept) None inside);
        own = refl;
      });
      others = λ k other. elsewhere slots at k (Some kept) is.in_place placed
          (λ x old here. none_some (slot_at slots at) x empty (ap (λ n. slot_at slots n) (sym here) ∙ old.stands))
          (λ x new here. other (sym (ap (λ (y : Kept). y.key) (some_same kept x (written slots at k (Some kept) x inside here new)) ∙ new.own)));
      count = count_filled slots at kept inside empty;
    }

-- where an entry is kept, not all slots are empty
pub some_full : (slots : List (Option Kept)) (free : List ℕ) (next key : ℕ) (kept : Kept) → IsStocked slots free next → IsKept slots key kept → length free < length slots
some_full slots free next key kept is stands =
    let some = stands.some_slots in
    let inside : key % length slots < length slots = omega arith in
    let full = count_emptied slots (key % length slots) kept inside stands.stands in
    omega (arith, is.empty.count)

pub take_stocked : (slots : List (Option Kept)) (free : List ℕ) (next key : ℕ) (kept : Kept) → IsStocked slots free next → IsKept slots key kept → IsStocked (set slots (key % length slots) None) (free ++ (key % length slots) ∷ []) next
take_stocked slots free next key kept is stands =
    let some = stands.some_slots in
    let inside : key % length slots < length slots = omega arith in
    record {
      in_place = taken_in_place slots (key % length slots) inside is.in_place;
      empty = emptied slots free (key % length slots) kept inside stands.stands is.empty;
      small = rw (length-set slots (key % length slots) None) is.small;
      multiple = rw (length-set slots (key % length slots) None) is.multiple;
      bounded = is.bounded;
    }

pub take_takes : (slots : List (Option Kept)) (free : List ℕ) (next key : ℕ) (kept : Kept) → IsStocked slots free next → IsKept slots key kept → TakesOut key (entries_in slots) (entries_in (set slots (key % length slots) None))
unfolding HasNone
take_takes slots free next key kept is stands =
    let at : ℕ = key % length slots in
    let some = stands.some_slots in
    let inside : key % length slots < length slots = omega arith in
    let placed = taken_in_place slots at inside is.in_place in
    let there = kept_is slots key kept is.in_place stands in
    record {
      gone = none_is (set slots at None) key placed (λ x new. none_some None x refl (written slots at key None x inside refl new));
      others = λ k other. elsewhere slots at k None is.in_place placed
          (λ x old here. other (sym old.own ∙ ap (λ (y : Kept). y.key) (some_same x kept (sym old.stands ∙ ap (λ n. slot_at slots n) here ∙ stands.stands)) ∙ stands.own))
          (λ x new here. none_some None x refl (written slots at k None x inside here new));
      none = λ absent. absurd (none_some (entry_under (entries_in slots) key) kept.entry absent there);
      one = λ e under. count_emptied slots at kept inside stands.stands;
    }

pub take_none : (slots : List (Option Kept)) (free : List ℕ) (next key : ℕ) → IsStocked slots free next → HasNone slots key → TakesOut key (entries_in slots) (entries_in slots)
take_none slots free next key is none =
    let absent = none_is slots key is.in_place none in
    record {
      gone = absent;
      others = λ k other. refl;
      none = λ same. refl;
      one = λ e under. absurd (none_some (entry_under (entries_in slots) key) e absent under);
    }

-- ---- a new table
none_in : (slots : List (Option Kept)) → ((k : ℕ) → slot_at slots k ≡ None) → entries_in slots ≡ []
unfolding entries_in
none_in [] empty = refl
none_in (None ∷ slots) empty = none_in slots (λ k. empty (suc k))
none_in (Some kept ∷ slots) empty = absurd (none_some (Some kept) kept (empty 0) refl)

pub new_entries : (slots : List (Option Kept)) → ((k : ℕ) → slot_at slots k ≡ None) → entries_in slots ≡ []
new_entries slots empty = none_in slots empty

pub new_stocked : (slots : List (Option Kept)) (free : List ℕ) (room : ℕ) → room < 2 ^ 32 → length slots ≡ room → ((k : ℕ) → slot_at slots k ≡ None) → length free ≡ room → ((k : ℕ) → k < room → slice_index free k ≡ k) → IsStocked slots free 0
unfolding AreInPlace
new_stocked slots free room small count empty free_count each = record {
  in_place = λ at kept inside stands. absurd (none_some (slot_at slots at) kept (empty at) stands);
  empty = record {
    apart = λ j k before below same. let e : j ≡ k = sym (each j (omega arith)) ∙ same ∙ each k (omega arith) in absurd (omega arith);
    inside = λ k below. subst (λ n. n < length slots) (sym (each k (omega arith))) (omega arith);
    empty = λ k below. empty (slice_index free k);
    count = ap (λ (es : List (ℕ × Bounded)). length es + length free) (none_in slots empty) ∙ omega arith;
  };
  small = omega arith;
  multiple = (0, sym (zero-mul (length slots)));
  bounded = omega arith;
}

-- ---- made one by one
pub one_empty_more : (slots : List (Option Kept)) (k : ℕ) → ((j : ℕ) → slot_at slots j ≡ None) → slot_at (slots ++ None ∷ []) k ≡ None
one_empty_more [] zero empty = refl
one_empty_more [] (suc k) empty = refl
one_empty_more (x ∷ slots) zero empty = empty 0
one_empty_more (x ∷ slots) (suc k) empty = one_empty_more slots k (λ j. empty (suc j))

pub one_number_more : (numbers : List ℕ) (n k : ℕ) → length numbers ≡ n → ((j : ℕ) → j < n → slice_index numbers j ≡ j) → k < n + 1 → slice_index (numbers ++ n ∷ []) k ≡ k
one_number_more numbers n k count each below =
    elim (cases_lt k n) [
      | inl front ↦ front_of numbers n k (omega arith) ∙ each k front
      | inr last ↦ let e : k ≡ n = omega arith in last_of numbers n k (omega arith) ∙ sym e
    ]
