-- What is under a key of a table of slots.
use Rattle.std.proofs.Common.{◌≡◌, ◌≢◌, ℕ, zero, suc, ◌+◌, ◌%◌, ◌<◌, List, [], ◌∷◌, length, get_or, set, Some, None, refl, sym, ap, ◌∙◌, inl, inr, ◌⊎◌, arith}
use Rattle.std.specs.declared.option.Option.{Option}
use Rattle.std.proofs.lemmas.Bool.{ne_eqb}
use Rattle.std.proofs.lemmas.Bool.Decides.{eqb_tells}
use Rattle.std.proofs.lemmas.List.{get_or-set_same, get_or-set_other, length-set}
use Rattle.entry_slab.specs.Entries.{Bounded}
use Rattle.entry_slab.specs.Contents.{entry_under}
use Rattle.entry_slab.specs.Slots.{entries_in, slot_at, AreInPlace, IsKept, HasNone}
use Rattle.entry_slab.specs.declared.slots.Kept.{Kept}

-- ---- an entry under a key, by the keys
skip : (p : ℕ × Bounded) (ps : List (ℕ × Bounded)) (key : ℕ) → p.0 ≢ key → entry_under (p ∷ ps) key ≡ entry_under ps key
unfolding entry_under
skip p ps key other = rw (ne_eqb p.0 key other)

take_first : (p : ℕ × Bounded) (ps : List (ℕ × Bounded)) (key : ℕ) → p.0 ≡ key → entry_under (p ∷ ps) key ≡ Some p.1
unfolding entry_under
take_first p ps key same = elim (eqb_tells p.0 key) [ inl t ↦ rw t.0 refl | inr t ↦ absurd (t.1 same) ]

pub some_same : {X : Type 0} (x y : X) → Some x ≡ Some y → x ≡ y
some_same x y e = cc

pub none_some : {X : Type 0} (o : Option X) (x : X) → o ≡ None → o ≡ Some x → ⊥
none_some o x e f = cc

none_under : (slots : List (Option Kept)) (key : ℕ) → ((at : ℕ) (kept : Kept) → at < length slots → slot_at slots at ≡ Some kept → kept.key ≢ key) → entry_under (entries_in slots) key ≡ None
unfolding entries_in entry_under
none_under [] key none = refl
none_under (None ∷ slots) key none = none_under slots key (λ at kept inside stands. none (suc at) kept (omega arith) stands)
none_under (Some k ∷ slots) key none = skip (k.key, k.entry) (entries_in slots) key (none 0 k (omega arith) refl) ∙ none_under slots key (λ at kept inside stands. none (suc at) kept (omega arith) stands)

one_under : (slots : List (Option Kept)) (at key : ℕ) (kept : Kept) → at < length slots → slot_at slots at ≡ Some kept → kept.key ≡ key → ((j : ℕ) (other : Kept) → j < length slots → slot_at slots j ≡ Some other → other.key ≡ key → j ≡ at) → entry_under (entries_in slots) key ≡ Some kept.entry
unfolding entries_in
one_under [] at key kept inside stands own only = absurd (omega arith)
one_under (None ∷ slots) zero key kept inside stands own only = absurd (none_some None kept refl stands)
one_under (None ∷ slots) (suc at) key kept inside stands own only = one_under slots at key kept (omega arith) stands own (λ j other below is same. let e : suc j ≡ suc at = only (suc j) other (omega arith) is same in omega arith)
one_under (Some k ∷ slots) zero key kept inside stands own only =
    let e : k ≡ kept = some_same k kept stands in
    take_first (k.key, k.entry) (entries_in slots) key (ap (λ (x : Kept). x.key) e ∙ own) ∙ ap (λ (x : Kept). Some x.entry) e
one_under (Some k ∷ slots) (suc at) key kept inside stands own only =
    skip (k.key, k.entry) (entries_in slots) key (λ same. let e : 0 ≡ suc at = only 0 k (omega arith) refl same in absurd (omega arith))
    ∙ one_under slots at key kept (omega arith) stands own (λ j other below is same. let e : suc j ≡ suc at = only (suc j) other (omega arith) is same in omega arith)

-- ---- an entry under a key, by its slot
mod_inside : (key n : ℕ) → 0 < n → key % n < n
mod_inside key n some = omega arith

pub kept_is : (slots : List (Option Kept)) (key : ℕ) (kept : Kept) → AreInPlace slots → IsKept slots key kept → entry_under (entries_in slots) key ≡ Some kept.entry
unfolding AreInPlace
kept_is slots key kept placed is =
    one_under slots (key % length slots) key kept (mod_inside key (length slots) is.some_slots) is.stands is.own
    (λ j other below stands own. sym (placed j other below stands) ∙ ap (λ n. n % length slots) own)

pub none_is : (slots : List (Option Kept)) (key : ℕ) → AreInPlace slots → HasNone slots key → entry_under (entries_in slots) key ≡ None
unfolding AreInPlace HasNone
none_is slots key placed none =
    none_under slots key (λ at kept inside stands own. none kept (record {
      some_slots = omega arith;
      stands = ap (λ n. slot_at slots n) (sym (ap (λ n. n % length slots) own) ∙ placed at kept inside stands) ∙ stands;
      own = own;
    }))

kept_in : (slots : List (Option Kept)) (key : ℕ) (o : Option Kept) → 0 < length slots → slot_at slots (key % length slots) ≡ o → ((kept : Kept) × IsKept slots key kept) ⊎ HasNone slots key
unfolding HasNone
kept_in slots key None some stands = inr (λ kept is. none_some (slot_at slots (key % length slots)) kept stands is.stands)
kept_in slots key (Some kept) some stands =
    elim (eqb_tells kept.key key) [
      | inl t ↦ inl (kept, record { some_slots = some; stands = stands; own = t.1 })
      | inr t ↦ inr (λ other is. t.1 (ap (λ (x : Kept). x.key) (some_same kept other (sym stands ∙ is.stands)) ∙ is.own))
    ]

pub kept_or_none : (slots : List (Option Kept)) (key : ℕ) → ((kept : Kept) × IsKept slots key kept) ⊎ HasNone slots key
unfolding HasNone
kept_or_none [] key = inr (λ kept is. absurd (omega (arith, is.some_slots)))
kept_or_none (x ∷ slots) key = kept_in (x ∷ slots) key (slot_at (x ∷ slots) (key % length (x ∷ slots))) (omega arith) refl

-- tables that keep the same under a key show the same
pub same_under : (old new : List (Option Kept)) (key : ℕ) → AreInPlace old → AreInPlace new → ((kept : Kept) → IsKept old key kept → IsKept new key kept) → ((kept : Kept) → IsKept new key kept → IsKept old key kept) → entry_under (entries_in new) key ≡ entry_under (entries_in old) key
unfolding HasNone
same_under old new key placed placed' there back =
    elim (kept_or_none old key) [
      | inl k ↦ kept_is new key k.0 placed' (there k.0 k.1) ∙ sym (kept_is old key k.0 placed k.1)
      | inr none ↦ none_is new key placed' (λ kept is. none kept (back kept is)) ∙ sym (none_is old key placed none)
    ]

-- ---- a slot is written
-- the slots but one stay
pub kept_elsewhere : (slots : List (Option Kept)) (at key : ℕ) (o : Option Kept) (kept : Kept) → key % length slots ≢ at → IsKept slots key kept → IsKept (set slots at o) key kept
kept_elsewhere slots at key o kept other is = record {
  some_slots = rw (length-set slots at o) is.some_slots;
  stands = rw (length-set slots at o) (get_or-set_other slots at (key % length slots) o None other ∙ is.stands);
  own = is.own;
}

pub kept_back : (slots : List (Option Kept)) (at key : ℕ) (o : Option Kept) (kept : Kept) → key % length slots ≢ at → IsKept (set slots at o) key kept → IsKept slots key kept
kept_back slots at key o kept other is = record {
  some_slots = rw length-set at is.some_slots;
  stands = sym (get_or-set_other slots at (key % length slots) o None other) ∙ (rw length-set at is.stands);
  own = is.own;
}

pub in_place_set : (slots : List (Option Kept)) (at : ℕ) (o : Option Kept) → at < length slots → ((kept : Kept) → o ≡ Some kept → kept.key % length slots ≡ at) → AreInPlace slots → AreInPlace (set slots at o)
unfolding AreInPlace
in_place_set slots at o inside own placed j kept below stands =
    rw (length-set slots at o)
    (elim (eqb_tells j at) [
      | inl t ↦ own kept (sym (get_or-set_same slots at o None inside) ∙ ap (λ n. get_or (set slots at o) n None) (sym t.1) ∙ stands) ∙ sym t.1
      | inr t ↦ placed j kept (rw (length-set slots at o) at below) (sym (get_or-set_other slots at j o None t.1) ∙ stands)
    ])

-- ---- how many
pub count_filled : (slots : List (Option Kept)) (at : ℕ) (kept : Kept) → at < length slots → slot_at slots at ≡ None → length (entries_in (set slots at (Some kept))) ≡ length (entries_in slots) + 1
unfolding entries_in
count_filled [] at kept inside empty = absurd (omega arith)
count_filled (None ∷ slots) zero kept inside empty = omega arith
count_filled (Some k ∷ slots) zero kept inside empty = absurd (none_some (Some k) k empty refl)
count_filled (None ∷ slots) (suc at) kept inside empty = count_filled slots at kept (omega arith) empty
count_filled (Some k ∷ slots) (suc at) kept inside empty = let e = count_filled slots at kept (omega arith) empty in omega arith

pub count_emptied : (slots : List (Option Kept)) (at : ℕ) (kept : Kept) → at < length slots → slot_at slots at ≡ Some kept → length (entries_in slots) ≡ length (entries_in (set slots at None)) + 1
unfolding entries_in
count_emptied [] at kept inside stands = absurd (omega arith)
count_emptied (None ∷ slots) zero kept inside stands = absurd (none_some None kept refl stands)
count_emptied (Some k ∷ slots) zero kept inside stands = omega arith
count_emptied (None ∷ slots) (suc at) kept inside stands = count_emptied slots at kept (omega arith) stands
count_emptied (Some k ∷ slots) (suc at) kept inside stands = let e = count_emptied slots at kept (omega arith) stands in omega arith
