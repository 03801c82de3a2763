-- Marks for the numbers from one up that stand in a list.
use Rattle.std.proofs.Common.{◌≡◌, ℕ, ◌+◌, ◌<◌, ◌≤◌, List, [], ◌∷◌, ◌++◌, length, take, sym, subst, ◌∙◌, arith, true, false, Bool, inl, inr}
use Rattle.std.specs.Prelude.{ℤ, pos, ◌+ℤ◌, slice_index_or, Contains}
use Rattle.std.proofs.Math.ListN.{set}
use Rattle.std.proofs.lemmas.Int.{ints}
use Rattle.std.proofs.lemmas.Bool.{cases_eq, false≢true}
use Rattle.std.proofs.lemmas.List.{length-set, get_or-set_same, get_or-set_other, take_more}
use Rattle.std.proofs.lemmas.List.Elements.{Contains-append_left, Contains-push, Contains-push_cases}
use Rattle.table_prop.specs.Among.{IsBetween}
use Rattle.table_prop.specs.Marks.{AreUnmarked, AreMarks}

pub unmarked_none : (marks : List Bool) → AreUnmarked 0 marks
unfolding AreUnmarked
unmarked_none marks k h d = absurd (omega (arith, h))

pub unmarked_more : (n : ℕ) (marks : List Bool) → AreUnmarked n marks → n < length marks → AreUnmarked (n + 1) (set marks n false)
unfolding AreUnmarked
unmarked_more n marks before h k less d = elim (cases_eq k n) [
  | inl same ↦ subst (λ j. slice_index_or (set marks n false) j d ≡ false) (sym same) (get_or-set_same marks n false d h)
  | inr apart ↦ get_or-set_other marks n k false d apart ∙ before k (omega (arith, less, apart)) d
]

-- without marks
pub marks_none : (low : ℤ) (n : ℕ) (marks : List Bool) → n ≤ length marks → AreUnmarked n marks → AreMarks [] low n marks
unfolding AreUnmarked
marks_none low n marks room none = record {
  room = room;
  listed = λ k h d is. absurd (false≢true (sym (none k h d) ∙ is));
  marked = λ k h d has. absurd (omega (arith, has.1));
}

-- one number more
module _ (vs : List ℤ) (v low : ℤ) (n : ℕ) (marks : List Bool) (are : AreMarks vs low n marks) where
  pass_by : ((k : ℕ) → k < n → v ≡ (low +ℤ pos k) → ⊥) → AreMarks (vs ++ v ∷ []) low n marks
  pass_by out = record {
    room = are.room;
    listed = λ k h d is. Contains-append_left vs (v ∷ []) _ (are.listed k h d is);
    marked = λ k h d has. elim (Contains-push_cases vs v _ has) [
      | inl before ↦ are.marked k h d before
      | inr same ↦ absurd (out k h same)
    ];
  }

  set_by : (p : ℕ) → p < n → (low +ℤ pos p) ≡ v → AreMarks (vs ++ v ∷ []) low n (set marks p true)
  set_by p inside is = record {
    room = omega (arith, are.room, length-set marks p true);
    listed = λ k h d on. elim (cases_eq k p) [
      | inl same ↦ subst (λ j. Contains (vs ++ v ∷ []) (low +ℤ pos j)) (sym same) (subst (Contains (vs ++ v ∷ [])) (sym is) (Contains-push vs v))
      | inr apart ↦ Contains-append_left vs (v ∷ []) _ (are.listed k h d (sym (get_or-set_other marks p k true d apart) ∙ on))
    ];
    marked = λ k h d has. elim (cases_eq k p) [
      | inl same ↦ subst (λ j. slice_index_or (set marks p true) j d ≡ true) (sym same) (get_or-set_same marks p true d (omega (arith, inside, are.room)))
      | inr apart ↦ get_or-set_other marks p k true d apart ∙ elim (Contains-push_cases vs v _ has) [
        | inl before ↦ are.marked k h d before
        | inr more ↦ absurd (apart (omega (arith, ints, more, is)))
      ]
    ];
  }

pub marks_pass : (vs : List ℤ) (low high : ℤ) (n i : ℕ) (marks : List Bool) → i < length vs → low +ℤ pos n ≡ high +ℤ pos 1 → (IsBetween low high (slice_index_or vs i (pos 0)) → ⊥) → AreMarks (take i vs) low n marks → AreMarks (take (i + 1) vs) low n marks
marks_pass vs low high n i marks h count out are =
    subst (λ l. AreMarks l low n marks) (sym (take_more vs i (pos 0) h))
    (pass_by (take i vs) (slice_index_or vs i (pos 0)) low n marks are (λ k less is. out (omega (arith, ints, is), omega (arith, ints, is, count, less))))

pub marks_set : (vs : List ℤ) (low high : ℤ) (n i p : ℕ) (marks : List Bool) → i < length vs → low +ℤ pos n ≡ high +ℤ pos 1 → IsBetween low high (slice_index_or vs i (pos 0)) → low +ℤ pos p ≡ slice_index_or vs i (pos 0) → AreMarks (take i vs) low n marks → AreMarks (take (i + 1) vs) low n (set marks p true)
marks_set vs low high n i p marks h count between is are =
    subst (λ l. AreMarks l low n (set marks p true)) (sym (take_more vs i (pos 0) h))
    (set_by (take i vs) (slice_index_or vs i (pos 0)) low n marks are p (omega (arith, ints, is, between, count)) is)
