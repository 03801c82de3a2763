-- The numbers of a set that some open term can have.
use Rattle.std.proofs.Common.{◌≡◌, ℕ, ◌+◌, ◌<◌, ◌≤◌, List, [], ◌∷◌, ◌++◌, length, get_or, take, refl, sym, ap, ◌∙◌, ℤ, Bool, true, false, inl, inr, ◌⊎◌}
use Rattle.std.specs.Prelude.{◌↔◌, ◌||◌, ◌&&◌, not, if◌then◌else◌, filter}
use Rattle.std.specs.Ordering.{int_cmp, int_eq}
use Rattle.std.specs.List.{list_any}
use Rattle.std.specs.List.Sorted.{IsStrictlySortedBy}
use Rattle.std.proofs.lemmas.Bool.{false≢true}
use Rattle.std.proofs.lemmas.Cmp.{int_cmp_total}
use Rattle.std.proofs.lemmas.List.{take_all, get_or_default}
use Rattle.std.proofs.lemmas.List.Folds.{list_any_more}
use Rattle.std.proofs.lemmas.List.Elements.{Contains-append_cases, Contains-append_left, Contains-append_right}
use Rattle.std.proofs.lemmas.Map.Lookups.{exact_signed}
use Rattle.fzn_model.specs.declared.term.Term.{Term}
use Rattle.fzn_model.specs.declared.con.Con.TheVariants as con
use Rattle.fzn_model.specs.Bounds.{is_open}
use Rattle.rest_basic.specs.Forms.{open_terms, empty_clause}
use Rattle.rest_basic.specs.declared.reduced.Reduced.TheVariants as reduced
use Rattle.rest_forms.specs.Forms.{fixed_values, term_has, open_has, rising_by, taken_left, has_twice, share_one, is_decided, all_different_form}
use Rattle.rest_forms.specs.Numbers.{HasSame, HadAreMoved, AreParted}
use Rattle.rest_forms.proofs.ValueTests.{alike, among_test, test_among}
use Rattle.rest_basic.proofs.ListMembers.{has_no, filter_passed, filter_kept, filter_has}
use Rattle.rest_forms.proofs.RisingLists.{numbers_have, numbers_sorted, same_members}

none_has : (box : List (List ℤ)) (w : ℤ) → open_has box [] w ≡ false
unfolding open_has
none_has box w = refl

pub parted_none : (box : List (List ℤ)) (numbers had : List ℤ) → had ≡ [] → AreParted box [] numbers numbers had
parted_none box numbers had none = record {
  rest_has = λ w. ((λ h. (none_has box w, h)), (λ h. h.1));
  had_has = λ w. rw none ((λ h. absurd (has_no w h)), (λ h. absurd (false≢true (sym (none_has box w) ∙ h.0))));
}

more_has : (box : List (List ℤ)) (xs : List Term) (k next : ℕ) (x : Term) (w : ℤ) → k < length xs → x ≡ get_or xs k x → next ≡ k + 1 → open_has box (take next xs) w ≡ (open_has box (take k xs) w || (is_open box x && term_has box w x))
unfolding open_has
more_has box xs k next x w h is step =
    rw (step, list_any_more (λ t. is_open box t && term_has box w t) xs k x h) (ap (λ (t : Term). open_has box (take k xs) w || (is_open box t && term_has box w t)) (sym is))

-- a fixed term adds none
or_nothing : (a b : Bool) → (a || (false && b)) ≡ a
or_nothing true b = refl
or_nothing false b = refl

shut_step : (box : List (List ℤ)) (xs : List Term) (numbers rest had : List ℤ) (k next : ℕ) (x : Term) → AreParted box (take k xs) numbers rest had → k < length xs → x ≡ get_or xs k x → next ≡ k + 1 → is_open box x ≡ false → AreParted box (take next xs) numbers rest had
shut_step box xs numbers rest had k next x parted h is step shut = record {
  rest_has = λ w. rw (same w) (parted.rest_has w);
  had_has = λ w. rw (same w) (parted.had_has w);
}
  where
    same : (w : ℤ) → open_has box (take next xs) w ≡ open_has box (take k xs) w
    same w = more_has box xs k next x w h is step ∙ ap (λ (t : Bool). open_has box (take k xs) w || (t && term_has box w x)) shut ∙ or_nothing (open_has box (take k xs) w) (term_has box w x)

pub parted_shut : (box : List (List ℤ)) (xs : List Term) (numbers rest had : List ℤ) (k : ℕ) (d : Term) → AreParted box (take k xs) numbers rest had → k < length xs → is_open box (get_or xs k d) ≡ false → AreParted box (take (k + 1) xs) numbers rest had
parted_shut box xs numbers rest had k d parted h shut = shut_step box xs numbers rest had k (k + 1) (get_or xs k d) parted h (get_or_default xs k d (get_or xs k d) h) refl shut

-- an open one adds those that it can have
open_step : (box : List (List ℤ)) (xs : List Term) (numbers rest had left more : List ℤ) (k next : ℕ) (x : Term) → AreParted box (take k xs) numbers rest had → k < length xs → x ≡ get_or xs k x → next ≡ k + 1 → is_open box x ≡ true → HadAreMoved box x rest left had more
    → AreParted box (take next xs) numbers left more
open_step box xs numbers rest had left more k next x parted h is step shows moved = record {
  rest_has = λ w. rw (same w) (rest_of (open_has box (take k xs) w) (term_has box w x) (parted.rest_has w) (moved.rest_has w));
  had_has = λ w. rw (same w) (had_of (open_has box (take k xs) w) (term_has box w x) (parted.rest_has w) (parted.had_has w) (moved.more_has w));
}
  where
    same : (w : ℤ) → open_has box (take next xs) w ≡ (open_has box (take k xs) w || term_has box w x)
    same w = more_has box xs k next x w h is step ∙ ap (λ (t : Bool). open_has box (take k xs) w || (t && term_has box w x)) shows

    rest_of : (a b : Bool) {N R L : Type 0} → R ↔ ((a ≡ false) × N) → L ↔ ((b ≡ false) × R) → L ↔ (((a || b) ≡ false) × N)
    rest_of true b old new = ((λ l. absurd (false≢true (sym (old.0 (new.0 l).1).0))), (λ h. absurd (false≢true (sym h.0))))
    rest_of false b old new = ((λ l. let parts = new.0 l in (parts.0, (old.0 parts.1).1)), (λ h. new.1 (h.0, old.1 (refl, h.1))))

    had_of : (a b : Bool) {N R H M : Type 0} → R ↔ ((a ≡ false) × N) → H ↔ ((a ≡ true) × N) → M ↔ (((b ≡ true) × R) ⊎ H) → M ↔ (((a || b) ≡ true) × N)
    had_of true b old had_old new = (
      (λ m. elim (new.0 m) [ inl h ↦ (refl, (old.0 h.1).1) | inr h ↦ (refl, (had_old.0 h).1) ]),
      (λ h. new.1 (inr (had_old.1 (refl, h.1)))),
    )
    had_of false b old had_old new = (
      (λ m. elim (new.0 m) [ inl h ↦ (h.0, (old.0 h.1).1) | inr h ↦ absurd (false≢true (had_old.0 h).0) ]),
      (λ h. new.1 (inl (h.0, old.1 (refl, h.1)))),
    )

pub parted_open : (box : List (List ℤ)) (xs : List Term) (numbers rest had left more : List ℤ) (k : ℕ) (d : Term) → AreParted box (take k xs) numbers rest had → k < length xs → is_open box (get_or xs k d) ≡ true → HadAreMoved box (get_or xs k d) rest left had more
    → AreParted box (take (k + 1) xs) numbers left more
parted_open box xs numbers rest had left more k d parted h shows moved = open_step box xs numbers rest had left more k (k + 1) (get_or xs k d) parted h (get_or_default xs k d (get_or xs k d) h) refl shows moved

pub parted_all : (box : List (List ℤ)) (xs : List Term) (numbers rest had : List ℤ) (k : ℕ) → AreParted box (take k xs) numbers rest had → length xs ≤ k → AreParted box xs numbers rest had
parted_all box xs numbers rest had k parted h = let all = take_all k xs h in rw all at parted

-- those numbers, rising, are the ones that are left
pub left_taken : (box : List (List ℤ)) (xs : List Term) (taken fixed numbers rest had list : List ℤ) → fixed ≡ fixed_values box xs → HasSame (taken ++ fixed) numbers → AreParted box xs numbers rest had → list ≡ had → IsStrictlySortedBy int_cmp list → list ≡ taken_left box xs taken
unfolding taken_left
left_taken box xs taken fixed numbers rest had list are same parted is sorted =
    let all = taken ++ fixed_values box xs in
    same_members int_cmp int_cmp_total exact_signed list (rising_by int_cmp (filter (open_has box xs) all)) sorted (numbers_sorted (filter (open_has box xs) all)) (λ w.
    let both = numbers_have (filter (open_has box xs) all) w in
    let among = rw are at (same.has w) in
    let parts = rw (← is) at (parted.had_has w) in (
      (λ h. let had_it = parts.0 h in both.1 (filter_has (open_has box xs) all w (among.1 had_it.1) had_it.0)),
      (λ h. let old = both.0 h in parts.1 (filter_passed (open_has box xs) all w old, among.0 (filter_kept (open_has box xs) all w old))),
    ))

-- ---- the taken numbers and the values of fixed members
share_by : (list taken numbers : List ℤ) → HasSame taken numbers → share_one list numbers ≡ share_one list taken
share_by [] taken numbers same = refl
share_by (z ∷ zs) taken numbers same =
    let here : list_any (int_eq z) numbers ≡ list_any (int_eq z) taken = alike (list_any (int_eq z) numbers) (list_any (int_eq z) taken)
    (λ e. among_test z taken ((same.has z).1 (test_among z numbers e)))
    (λ e. among_test z numbers ((same.has z).0 (test_among z taken e))) in
    rw (here, share_by zs taken numbers same) refl

pub all_clash : (list taken numbers : List ℤ) (t : Bool) → HasSame taken numbers → t ≡ (has_twice list || share_one list numbers) → t ≡ true → false ≡ not (has_twice list || share_one list taken)
all_clash list taken numbers t same is e =
    let both : (has_twice list || share_one list taken) ≡ true = ap (λ (u : Bool). has_twice list || u) (sym (share_by list taken numbers same)) ∙ sym is ∙ e in
    rw both refl

pub all_apart : (list taken numbers : List ℤ) (t : Bool) → HasSame taken numbers → t ≡ (has_twice list || share_one list numbers) → t ≡ false → true ≡ not (has_twice list || share_one list taken)
all_apart list taken numbers t same is e =
    let both : (has_twice list || share_one list taken) ≡ false = ap (λ (u : Bool). has_twice list || u) (sym (share_by list taken numbers same)) ∙ sym is ∙ e in
    rw both refl

pub all_same : (list taken numbers all : List ℤ) → HasSame taken numbers → HasSame (list ++ numbers) all → HasSame (taken ++ list) all
all_same list taken numbers all same joined = record {
  has = λ w. (
    (λ h. (joined.has w).0 (elim (Contains-append_cases taken list w h) [
      | inl old ↦ Contains-append_right list numbers w ((same.has w).0 old)
      | inr new ↦ Contains-append_left list numbers w new
    ])),
    (λ h. elim (Contains-append_cases list numbers w ((joined.has w).1 h)) [
      | inl new ↦ Contains-append_right taken list w new
      | inr old ↦ Contains-append_left taken list w ((same.has w).1 old)
    ]),
  );
}

-- ---- the form
clash_of : (b : Bool) → false ≡ not b → b ≡ true
clash_of true e = refl
clash_of false e = absurd (false≢true e)

apart_of : (b : Bool) → true ≡ not b → b ≡ false
apart_of true e = absurd (false≢true (sym e))
apart_of false e = refl

pub form_clash : (box : List (List ℤ)) (xs : List Term) (taken fixed : List ℤ) → fixed ≡ fixed_values box xs → false ≡ not (has_twice fixed || share_one fixed taken) → reduced.Is empty_clause ≡ all_different_form box xs taken
unfolding all_different_form
form_clash box xs taken fixed is e =
    let both = rw is at (clash_of (has_twice fixed || share_one fixed taken) e) in
    rw both refl

pub form_apart : (box : List (List ℤ)) (xs : List Term) (taken fixed : List ℤ) (members : List Term) (left : List ℤ) → fixed ≡ fixed_values box xs → true ≡ not (has_twice fixed || share_one fixed taken) → members ≡ open_terms box xs → left ≡ taken_left box xs taken
    → (if is_decided members left then reduced.Holds else reduced.Is (con.AllDiffExcept members left)) ≡ all_different_form box xs taken
unfolding all_different_form
form_apart box xs taken fixed members left is e are left_is =
    let none = rw is at (apart_of (has_twice fixed || share_one fixed taken) e) in
    rw (none, are, left_is) refl
