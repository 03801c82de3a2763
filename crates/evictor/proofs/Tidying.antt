-- How the table of places changes where an entry is stored.
use Rattle.std.proofs.Common.{◌≡◌, ◌≢◌, ◌==◌, ℕ, ◌+◌, ◌-◌, ◌<◌, inl, inr, Bool, true, false, not, if◌then◌else◌, List, length, set, Some, None, refl, sym, ap, subst, ◌∙◌, arith}
use Rattle.std.specs.List.{count_by}
use Rattle.std.specs.declared.option.Option.{Option}
use Rattle.std.proofs.lemmas.Bool.{cases_eq, eq-eqb, eqb-true}
use Rattle.std.proofs.lemmas.List.Sums.{sum_by-set}
use Rattle.std.proofs.lemmas.List.{get_or-set_same, get_or-set_other, length-set}
use Rattle.entry_slab.specs.Entries.{Bounded}
use Rattle.entry_slab.specs.Contents.{entry_under}
use Rattle.evictor.specs.declared.put.Put.TheVariants as put
use Rattle.evictor.specs.Passes.{word_at}
use Rattle.evictor.specs.Tables.{entry_at, IsTidy, ChangesTable, table_after}

-- an entry came under a key that wasn't there, and the entry of the word at the place went
pub record Swaps (words : List ℕ) (place key : ℕ) (e : Bounded) (old new : List (ℕ × Bounded)) : Type 0 where
  pub inside : place < length words
  pub absent : entry_under old key ≡ None
  pub there : entry_under new key ≡ Some e
  pub gone : word_at words place ≢ 0 → entry_under new (word_at words place - 1) ≡ None
  pub others : (k : ℕ) → k ≢ key → word_at words place ≢ k + 1 → entry_under new k ≡ entry_under old k
  pub more : word_at words place ≡ 0 → length new ≡ length old + 1
  pub as_many : word_at words place ≢ 0 → length new ≡ length old

pub some_none : {X : Type 0} → (x : X) (o : Option X) → o ≡ Some x → o ≡ None → ⊥
some_none x (Some y) is none = absurd (cc)
some_none x None is none = absurd (cc)

pub some_of : (o : Option Bounded) → o ≢ None → (e : Bounded) × (o ≡ Some e)
some_of (Some e) some = (e, refl)
some_of None some = absurd (some refl)

not_true : (b : Bool) → (b ≡ true → ⊥) → b ≡ false
not_true true not_so = absurd (not_so refl)
not_true false not_so = refl

pub by_equal : (j k : ℕ) → j ≡ k → (j == k) ≡ true
by_equal j k same = eq-eqb j k same

pub by_other : (j k : ℕ) → j ≢ k → (j == k) ≡ false
by_other j k other = not_true (j == k) (λ yes. other (eqb-true j k yes))

pub where_zero : {X : Type 0} → (n : ℕ) (x y : X) → n ≡ 0 → (if n == 0 then x else y) ≡ x
where_zero n x y zeroed = ap (λ b. if b then x else y) (by_equal n 0 zeroed)

pub where_some : {X : Type 0} → (n : ℕ) (x y : X) → n ≢ 0 → (if n == 0 then x else y) ≡ y
where_some n x y some = ap (λ b. if b then x else y) (by_other n 0 some)

-- ---- the words
here : (words : List ℕ) (place word : ℕ) → place < length words → word_at (set words place word) place ≡ word
here words place word inside = get_or-set_same words place word 0 inside

elsewhere : (words : List ℕ) (place word k : ℕ) → k ≢ place → word_at (set words place word) k ≡ word_at words k
elsewhere words place word k other = get_or-set_other words place k word 0 other

abbrev nonzero : List ℕ → ℕ
nonzero words = count_by (λ w. not (w == 0)) words

abbrev one_of : ℕ → ℕ
one_of w = if not (w == 0) then 1 else 0

one_where : (w : ℕ) → w ≢ 0 → one_of w ≡ 1
one_where w some = ap (λ b. if not b then 1 else 0) (by_other w 0 some)

none_where : (w : ℕ) → w ≡ 0 → one_of w ≡ 0
none_where w zeroed = ap (λ b. if not b then 1 else 0) (by_equal w 0 zeroed)

counted_set : (words : List ℕ) (place word : ℕ) → place < length words → word ≢ 0 → nonzero (set words place word) + one_of (word_at words place) ≡ nonzero words + 1
counted_set words place word inside some = sum_by-set one_of words place word 0 inside ∙ ap (λ n. nonzero words + n) (one_where word some)

-- ---- after a swap
module _ (words : List ℕ) (place key : ℕ) (e : Bounded) (old new : List (ℕ × Bounded)) (tidy : IsTidy words old) (swaps : Swaps words place key e old new) where
  -- no word leads to the new key
  no_word : (k : ℕ) → k < length words → word_at words k ≢ key + 1
  no_word k inside is =
      let same : word_at words k - 1 ≡ key = omega (arith, is) in
      tidy.there k inside (λ zeroed. omega (arith, is, zeroed)) (ap (λ n. entry_under old n) same ∙ swaps.absent)

  swapped_apart : (j k : ℕ) → j < length words → k < length words → word_at (set words place (key + 1)) j ≢ 0 → word_at (set words place (key + 1)) j ≡ word_at (set words place (key + 1)) k → j ≡ k
  swapped_apart j k below below' some same =
      elim (cases_eq j place) [
        | inl first ↦ elim (cases_eq k place) [
          | inl second ↦ first ∙ sym second
          | inr other ↦ absurd (no_word k below' (sym (elsewhere words place (key + 1) k other) ∙ sym same ∙ ap (λ n. word_at (set words place (key + 1)) n) first ∙ here words place (key + 1) swaps.inside))
        ]
        | inr other ↦ elim (cases_eq k place) [
          | inl second ↦ absurd (no_word j below (sym (elsewhere words place (key + 1) j other) ∙ same ∙ ap (λ n. word_at (set words place (key + 1)) n) second ∙ here words place (key + 1) swaps.inside))
          | inr other' ↦ tidy.apart j k below below' (λ zeroed. some (elsewhere words place (key + 1) j other ∙ zeroed)) (sym (elsewhere words place (key + 1) j other) ∙ same ∙ elsewhere words place (key + 1) k other')
        ]
      ]

  -- the entry of a word elsewhere stays
  stays : (k : ℕ) → k < length words → k ≢ place → word_at words k ≢ 0 → entry_under new (word_at words k - 1) ≡ entry_under old (word_at words k - 1)
  stays k below other some =
      swaps.others (word_at words k - 1)
      (λ is. no_word k below (omega (arith, is, some)))
      (λ is. other (tidy.apart k place below swaps.inside some (omega (arith, is, some))))

  swapped_there : (j : ℕ) → j < length words → word_at (set words place (key + 1)) j ≢ 0 → entry_under new (word_at (set words place (key + 1)) j - 1) ≢ None
  swapped_there j below some none =
      elim (cases_eq j place) [
        | inl first ↦
            let word = ap (λ n. word_at (set words place (key + 1)) n) first ∙ here words place (key + 1) swaps.inside in
            let same : key ≡ word_at (set words place (key + 1)) j - 1 = omega (arith, word) in
            some_none e _ swaps.there (ap (λ n. entry_under new n) same ∙ none)
        | inr other ↦
            let is = elsewhere words place (key + 1) j other in
            let some' : word_at words j ≢ 0 = λ zeroed. some (is ∙ zeroed) in
            tidy.there j below some' (sym (stays j below other some') ∙ ap (λ n. entry_under new (n - 1)) (sym is) ∙ none)
      ]

  swapped_only : (k : ℕ) → entry_under new k ≢ None → (j : ℕ) × (j < length words) × (word_at (set words place (key + 1)) j ≡ k + 1)
  swapped_only k some =
      elim (cases_eq k key) [
        | inl first ↦ (place, swaps.inside, here words place (key + 1) swaps.inside ∙ ap (λ n. n + 1) (sym first))
        | inr other ↦ elim (cases_eq (word_at words place) (k + 1)) [
          | inl went ↦
              let same : k ≡ word_at words place - 1 = omega (arith, went) in
              absurd (some (ap (λ n. entry_under new n) same ∙ swaps.gone (λ zeroed. omega (arith, went, zeroed))))
          | inr kept ↦
              let (j, below, is) = tidy.only k (λ none. some (swaps.others k other kept ∙ none)) in
              let apart : j ≢ place = λ same. kept (sym (ap (λ n. word_at words n) same) ∙ is) in
              (j, below, elsewhere words place (key + 1) j apart ∙ is)
        ]
      ]

  swapped_count : length new ≡ nonzero (set words place (key + 1))
  swapped_count =
      let counted = counted_set words place (key + 1) swaps.inside (omega arith) in
      elim (cases_eq (word_at words place) 0) [
        | inl zeroed ↦ let one = none_where (word_at words place) zeroed in omega (arith, counted, one, tidy.count, swaps.more zeroed)
        | inr some ↦ let one = one_where (word_at words place) some in omega (arith, counted, one, tidy.count, swaps.as_many some)
      ]

  pub swapped_tidy : IsTidy (set words place (key + 1)) new
  swapped_tidy = record {
    apart = λ j k below below' some same. swapped_apart j k (rw (length-set words place (key + 1)) at below) (rw (length-set words place (key + 1)) at below') some same;
    there = λ j below some. swapped_there j (rw (length-set words place (key + 1)) at below) some;
    only = λ k some. let (j, below, is) = swapped_only k some in (j, rw (length-set words place (key + 1)) below, is);
    count = swapped_count;
  }

  at_place : entry_at (set words place (key + 1)) new place ≡ Some e
  unfolding entry_at
  at_place =
      let word = here words place (key + 1) swaps.inside in
      let same : word_at (set words place (key + 1)) place - 1 ≡ key = omega (arith, word) in
      where_some (word_at (set words place (key + 1)) place) None (entry_under new (word_at (set words place (key + 1)) place - 1)) (λ zeroed. omega (arith, word, zeroed)) ∙ ap (λ n. entry_under new n) same ∙ swaps.there

  at_other : (k : ℕ) → k < length words → k ≢ place → entry_at (set words place (key + 1)) new k ≡ entry_at words old k
  unfolding entry_at
  at_other k below other =
      ap (λ n. if n == 0 then None else entry_under new (n - 1)) (elsewhere words place (key + 1) k other) ∙ elim (cases_eq (word_at words k) 0) [
        | inl zeroed ↦ where_zero (word_at words k) None (entry_under new (word_at words k - 1)) zeroed ∙ sym (where_zero (word_at words k) None (entry_under old (word_at words k - 1)) zeroed)
        | inr some ↦ ap (λ (o : Option Bounded). if word_at words k == 0 then None else o) (stays k below other some)
      ]

  swapped_table : (k : ℕ) → k < length words → entry_at (set words place (key + 1)) new k ≡ table_after (put.Stored place) e k (entry_at words old k)
  swapped_table k below =
      elim (cases_eq k place) [
        | inl first ↦ subst (λ n. entry_at (set words place (key + 1)) new n ≡ (if n == place then Some e else entry_at words old n)) (sym first) (at_place ∙ same_then)
        | inr other ↦ at_other k below other ∙ other_then k other
      ]
    where
      same_then : Some e ≡ (if place == place then Some e else entry_at words old place)
      same_then = rw (by_equal place place refl) refl

      other_then : (k : ℕ) → k ≢ place → entry_at words old k ≡ (if k == place then Some e else entry_at words old k)
      other_then k other = rw (by_other k place other) refl

  pub swapped : ChangesTable (put.Stored place) e words (set words place (key + 1)) old new
  swapped = record { tidy = swapped_tidy; table = swapped_table }
