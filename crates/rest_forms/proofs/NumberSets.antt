-- Numbers that are added to sets, taken out, and moved from one to another.
use Rattle.std.proofs.Common.{◌≡◌, ℕ, suc, ◌+◌, ◌<◌, ◌≤◌, ◌≤ℤ◌, List, [], ◌∷◌, ◌++◌, length, get_or, drop, take, refl, sym, ap, ◌∙◌, arith, ℤ, Bool, true, false, cond, inl, inr, ◌⊎◌, drop-cons}
use Rattle.std.specs.Prelude.{Contains, ◌↔◌, ◌||◌, not, filter, int_lt}
use Rattle.std.specs.declared.cmp.Ordering.TheVariants.{Less, Equal, Greater}
use Rattle.std.specs.declared.ops.Bound.TheVariants.{Included}
use Rattle.std.specs.Ordering.{int_cmp, int_eq, is_gt}
use Rattle.std.specs.List.{list_any}
use Rattle.std.specs.BTreeSet.{BTreeSet, insert_key, contains, keys_between, UpdatesBy}
use Rattle.std.specs.BTreeMap.Range.{range_contains}
use Rattle.std.proofs.lemmas.Int.{ints}
use Rattle.std.proofs.lemmas.Bool.{false≢true}
use Rattle.std.proofs.lemmas.Bool.Decides.{Decides-int_eq}
use Rattle.std.proofs.lemmas.Cmp.{int_cmp_total}
use Rattle.std.proofs.lemmas.List.{append-nil, drop_all, take_all, take_more, get_or_default}
use Rattle.std.proofs.lemmas.List.Elements.{Contains-append_cases, Contains-append_left, Contains-append_right}
use Rattle.std.proofs.lemmas.Map.Lookups.{exact_signed}
use Rattle.std.proofs.lemmas.Map.Views.{btree_set_contains_iff, range_contains-from_IsInRange}
use Rattle.fzn_model.specs.declared.term.Term.{Term}
use Rattle.fzn_model.specs.Boxes.{IsDomain}
use Rattle.fzn_model.specs.Bounds.{term_low, term_high}
use Rattle.fzn_model.proofs.Domains.{between}
use Rattle.rest_basic.specs.Forms.{term_values}
use Rattle.rest_basic.proofs.Values.{low_is_first, high_is_last}
use Rattle.rest_forms.specs.Forms.{term_has, has_twice, share_one}
use Rattle.rest_forms.specs.Numbers.{HasSame, IsWith, IsWithout, AreMoved, HadAreMoved}
use Rattle.rest_forms.proofs.ValueTests.{alike, among_test, test_among, or_either, term_has_is}
use Rattle.rest_basic.proofs.ListMembers.{has_first, has_later, has_cases, has_no, filter_passed, filter_kept, filter_has}
use Rattle.rest_forms.proofs.RisingLists.{insert_has}

-- ---- one number more, and one less
pub inserted : (z : ℤ) (old new : List ℤ) → new ≡ insert_key int_cmp old z → IsWith z old new
inserted z old new is = record { has = λ w. rw is (insert_has int_cmp int_cmp_total exact_signed old z w) }

not_at : (z w : ℤ) (t b : Bool) → int_eq z w ≡ t → (cond t false b ≡ true) ↔ ((w ≡ z → ⊥) × (b ≡ true))
not_at z w true b e = (λ h. absurd (false≢true h), λ h. absurd (h.0 (sym ((Decides-int_eq z w).0 e))))
not_at z w false b e = (λ h. ((λ is. false≢true (sym e ∙ (Decides-int_eq z w).1 (sym is))), h), λ h. h.1)

pub removed : (z : ℤ) (old new : BTreeSet ℤ) → UpdatesBy int_cmp (int_cmp z) old new false → IsWithout z old.keys new.keys
removed z old new updates = record { has = has }
  where
    has : (w : ℤ) → Contains new.keys w ↔ ((w ≡ z → ⊥) × Contains old.keys w)
    has w =
        let after = btree_set_contains_iff int_cmp_total exact_signed new w in
        let before = btree_set_contains_iff int_cmp_total exact_signed old w in
        let both = not_at z w (int_eq z w) (contains int_cmp old w) refl in
        let step = updates.0 w in (
          (λ h. let parts = both.0 (sym step ∙ after.1 h) in (parts.0, before.0 parts.1)),
          (λ h. after.0 (step ∙ both.1 (h.0, before.1 h.1))),
        )

-- ---- a list that is added number by number
pub same_none : (list numbers : List ℤ) → numbers ≡ [] → HasSame list (list ++ numbers)
same_none list numbers none = record { has = λ w. rw (none, append-nil list) (λ h. h, λ h. h) }

front_is : (list : List ℤ) (k : ℕ) (z : ℤ) → k < length list → z ≡ get_or list k z → drop k list ≡ z ∷ drop (suc k) list
front_is list k z h is = drop-cons list k z h ∙ ap (λ (y : ℤ). y ∷ drop (suc k) list) (sym is)

same_step : (all list old new : List ℤ) (k next : ℕ) (z : ℤ) → HasSame all (drop k list ++ old) → k < length list → z ≡ get_or list k z → next ≡ k + 1 → IsWith z old new → HasSame all (drop next list ++ new)
same_step all list old new k next z same h is step more = record { has = has }
  where
    has : (w : ℤ) → Contains all w ↔ Contains (drop next list ++ new) w
    has w =
        let n : next ≡ suc k = omega (arith, step) in
        let before = rw (front_is list k z h is) at (same.has w) in
        rw n (
          (λ a. elim (has_cases z (drop (suc k) list ++ old) w (before.0 a)) [
            | inl here ↦ Contains-append_right (drop (suc k) list) new w ((more.has w).1 (inl (sym here)))
            | inr later ↦ elim (Contains-append_cases (drop (suc k) list) old w later) [
              | inl left ↦ Contains-append_left (drop (suc k) list) new w left
              | inr there ↦ Contains-append_right (drop (suc k) list) new w ((more.has w).1 (inr there))
            ]
          ]),
          (λ a. before.1 (elim (Contains-append_cases (drop (suc k) list) new w a) [
            | inl left ↦ has_later z (drop (suc k) list ++ old) w (Contains-append_left (drop (suc k) list) old w left)
            | inr there ↦ elim ((more.has w).0 there) [
              | inl here ↦ has_first z (drop (suc k) list ++ old) w (sym here)
              | inr was ↦ has_later z (drop (suc k) list ++ old) w (Contains-append_right (drop (suc k) list) old w was)
            ]
          ])),
        )

pub same_more : (all list old new : List ℤ) (k : ℕ) (d : ℤ) → HasSame all (drop k list ++ old) → k < length list → IsWith (get_or list k d) old new → HasSame all (drop (k + 1) list ++ new)
same_more all list old new k d same h more = same_step all list old new k (k + 1) (get_or list k d) same h (get_or_default list k d (get_or list k d) h) refl more

pub same_all : (all list numbers : List ℤ) (k : ℕ) → HasSame all (drop k list ++ numbers) → length list ≤ k → HasSame all numbers
same_all all list numbers k same h = let none = drop_all k list h in rw none at same

-- ---- a number that is there already, or twice in the list
abbrev pub clash : List ℤ → List ℤ → Bool
clash list numbers = has_twice list || share_one list numbers

is_shared : (a b c d : Bool) → c ≡ true → ((a || b) || (c || d)) ≡ true
is_shared true b c d e = refl
is_shared false true c d e = refl
is_shared false false c d e = rw e refl

moved_over : (a b c d : Bool) → c ≡ false → ((a || b) || (c || d)) ≡ (b || (d || a))
moved_over true true c d e = refl
moved_over true false c true e = refl
moved_over true false c false e = refl
moved_over false true c d e = refl
moved_over false false c true e = rw e refl
moved_over false false c false e = rw e refl

shuffled : (p a s q : Bool) → ((p || a) || (s || q)) ≡ ((a || s) || (p || q))
shuffled true true s q = refl
shuffled true false true q = refl
shuffled true false false q = refl
shuffled false true s q = refl
shuffled false false true q = refl
shuffled false false false q = refl

among_with : (z y : ℤ) (old new : List ℤ) → IsWith z old new → list_any (int_eq y) new ≡ (int_eq z y || list_any (int_eq y) old)
among_with z y old new more =
    let either = or_either (int_eq z y) (list_any (int_eq y) old) in
    alike (list_any (int_eq y) new) (int_eq z y || list_any (int_eq y) old)
    (λ e. elim ((more.has y).0 (test_among y new e)) [ inl is ↦ either.1 (inl ((Decides-int_eq z y).1 (sym is))) | inr was ↦ either.1 (inr (among_test y old was)) ])
    (λ e. among_test y new ((more.has y).1 (elim (either.0 e) [ inl is ↦ inl (sym ((Decides-int_eq z y).0 is)) | inr was ↦ inr (test_among y old was) ])))

-- with one number more, a list shares one where it did or has that number
share_with : (z : ℤ) (list old new : List ℤ) → IsWith z old new → share_one list new ≡ (share_one list old || list_any (int_eq z) list)
share_with z [] old new more = refl
share_with z (y ∷ ys) old new more =
    let here = among_with z y old new more in
    let rest = share_with z ys old new more in
    rw (here, rest) (shuffled (int_eq z y) (list_any (int_eq y) old) (share_one ys old) (list_any (int_eq z) ys))

found : (b : Bool) → not b ≡ false → b ≡ true
found true e = refl
found false e = absurd (false≢true (sym e))

unfound : (b : Bool) → not b ≡ true → b ≡ false
unfound true e = absurd (false≢true e)
unfound false e = refl

clash_at : (all : Bool) (list old : List ℤ) (k : ℕ) (z : ℤ) (fresh : Bool) → clash (drop k list) old ≡ all → k < length list → z ≡ get_or list k z → fresh ≡ not (list_any (int_eq z) old) → fresh ≡ false → true ≡ all
clash_at all list old k z fresh told h is new e =
    let rest = drop (suc k) list in
    let whole = rw (front_is list k z h is) at told in
    sym (is_shared (list_any (int_eq z) rest) (has_twice rest) (list_any (int_eq z) old) (share_one rest old) (found (list_any (int_eq z) old) (sym new ∙ e))) ∙ whole

pub clash_here : (all : Bool) (list old : List ℤ) (k : ℕ) (d : ℤ) (fresh : Bool) → clash (drop k list) old ≡ all → k < length list → fresh ≡ not (list_any (int_eq (get_or list k d)) old) → fresh ≡ false → true ≡ all
clash_here all list old k d fresh told h new e = clash_at all list old k (get_or list k d) fresh told h (get_or_default list k d (get_or list k d) h) new e

clash_step : (all : Bool) (list old new : List ℤ) (k next : ℕ) (z : ℤ) (fresh : Bool) → clash (drop k list) old ≡ all → k < length list → z ≡ get_or list k z → next ≡ k + 1 → fresh ≡ not (list_any (int_eq z) old) → fresh ≡ true → IsWith z old new
    → clash (drop next list) new ≡ all
clash_step all list old new k next z fresh told h is step e f more =
    let n : next ≡ suc k = omega (arith, step) in
    let rest = drop (suc k) list in
    let whole = rw (front_is list k z h is) at told in
    let shares = share_with z rest old new more in
    rw (n, shares) (sym (moved_over (list_any (int_eq z) rest) (has_twice rest) (list_any (int_eq z) old) (share_one rest old) (unfound (list_any (int_eq z) old) (sym e ∙ f))) ∙ whole)

pub clash_more : (all : Bool) (list old new : List ℤ) (k : ℕ) (d : ℤ) (fresh : Bool) → clash (drop k list) old ≡ all → k < length list → fresh ≡ not (list_any (int_eq (get_or list k d)) old) → fresh ≡ true → IsWith (get_or list k d) old new
    → clash (drop (k + 1) list) new ≡ all
clash_more all list old new k d fresh told h e f more = clash_step all list old new k (k + 1) (get_or list k d) fresh told h (get_or_default list k d (get_or list k d) h) refl e f more

pub clash_none : (all : Bool) (list numbers : List ℤ) (k : ℕ) → clash (drop k list) numbers ≡ all → length list ≤ k → false ≡ all
clash_none all list numbers k told h = let none = drop_all k list h in rw none at told

-- ---- numbers that are moved
pub moved_none : (from to : List ℤ) → AreMoved [] from from to to
moved_none from to = record {
  rest_has = λ w. ((λ h. (has_no w, h)), (λ h. h.1));
  more_has = λ w. ((λ h. inr h), (λ h. elim h [ inl none ↦ absurd (has_no w none) | inr there ↦ there ]));
}

took_cases : (numbers : List ℤ) (k next : ℕ) (z : ℤ) → k < length numbers → z ≡ get_or numbers k z → next ≡ k + 1 → (w : ℤ) → Contains (take next numbers) w ↔ ((w ≡ z) ⊎ Contains (take k numbers) w)
took_cases numbers k next z h is step w =
    let longer : take next numbers ≡ take k numbers ++ z ∷ [] = rw (step, take_more numbers k z h) (ap (λ (y : ℤ). take k numbers ++ y ∷ []) (sym is)) in
    rw longer (
      (λ h. elim (Contains-append_cases (take k numbers) (z ∷ []) w h) [
        | inl old ↦ inr old
        | inr new ↦ elim (has_cases z [] w new) [ inl here ↦ inl (sym here) | inr none ↦ absurd (has_no w none) ]
      ]),
      (λ h. elim h [
        | inl here ↦ Contains-append_right (take k numbers) (z ∷ []) w (has_first z [] w (sym here))
        | inr old ↦ Contains-append_left (take k numbers) (z ∷ []) w old
      ]),
    )

moved_step : (numbers from rest left to more longer : List ℤ) (k next : ℕ) (z : ℤ) → AreMoved (take k numbers) from rest to more → k < length numbers → z ≡ get_or numbers k z → next ≡ k + 1 → IsWithout z rest left → IsWith z more longer
    → AreMoved (take next numbers) from left to longer
moved_step numbers from rest left to more longer k next z moved h is step without with_one = record {
  rest_has = λ w. let took = took_cases numbers k next z h is step w in (
    (λ a. let parts = (without.has w).0 a in let old = (moved.rest_has w).0 parts.1 in
        ((λ t. elim (took.0 t) [ inl here ↦ parts.0 here | inr was ↦ old.0 was ]), old.1)),
    (λ a. (without.has w).1 ((λ here. a.0 (took.1 (inl here))), (moved.rest_has w).1 ((λ was. a.0 (took.1 (inr was))), a.1))),
  );
  more_has = λ w. let took = took_cases numbers k next z h is step w in (
    (λ a. elim ((with_one.has w).0 a) [
      | inl here ↦ inl (took.1 (inl here))
      | inr was ↦ elim ((moved.more_has w).0 was) [ inl old ↦ inl (took.1 (inr old)) | inr there ↦ inr there ]
    ]),
    (λ a. (with_one.has w).1 (elim a [
      | inl t ↦ elim (took.0 t) [ inl here ↦ inl here | inr was ↦ inr ((moved.more_has w).1 (inl was)) ]
      | inr there ↦ inr ((moved.more_has w).1 (inr there))
    ])),
  );
}

pub moved_more : (numbers from rest left to more longer : List ℤ) (k : ℕ) (d : ℤ) → AreMoved (take k numbers) from rest to more → k < length numbers → IsWithout (get_or numbers k d) rest left → IsWith (get_or numbers k d) more longer
    → AreMoved (take (k + 1) numbers) from left to longer
moved_more numbers from rest left to more longer k d moved h without with_one = moved_step numbers from rest left to more longer k (k + 1) (get_or numbers k d) moved h (get_or_default numbers k d (get_or numbers k d) h) refl without with_one

pub moved_all : (numbers from rest to more : List ℤ) (k : ℕ) → AreMoved (take k numbers) from rest to more → length numbers ≤ k → AreMoved numbers from rest to more
moved_all numbers from rest to more k moved h = let all = take_all k numbers h in rw all at moved

-- ---- the numbers that a term can have
true_or_false : (b : Bool) → (b ≡ true → ⊥) → b ≡ false
true_or_false true h = absurd (h refl)
true_or_false false h = refl

pub had_moved : (box : List (List ℤ)) (x : Term) (had from rest to more : List ℤ) → had ≡ filter (λ z. term_has box z x) from → AreMoved had from rest to more → HadAreMoved box x from rest to more
had_moved box x had from rest to more is moved = record {
  rest_has = λ w. (
    (λ a. let parts = (moved.rest_has w).0 a in (true_or_false (term_has box w x) (λ e. parts.0 (within.1 w parts.1 e)), parts.1)),
    (λ a. (moved.rest_has w).1 ((λ h. false≢true (sym a.0 ∙ (within.0 w h).1)), a.1)),
  );
  more_has = λ w. (
    (λ a. elim ((moved.more_has w).0 a) [ inl h ↦ let parts = within.0 w h in inl (parts.1, parts.0) | inr there ↦ inr there ]),
    (λ a. (moved.more_has w).1 (elim a [ inl h ↦ inl (within.1 w h.1 h.0) | inr there ↦ inr there ])),
  );
}
  where
    within : ((w : ℤ) → Contains had w → Contains from w × (term_has box w x ≡ true)) × ((w : ℤ) → Contains from w → term_has box w x ≡ true → Contains had w)
    within = rw is (
      (λ w h. (filter_kept (λ z. term_has box z x) from w h, filter_passed (λ z. term_has box z x) from w h)),
      (λ w h e. filter_has (λ z. term_has box z x) from w h e),
    )

-- ---- numbers between the bounds of a term
at_most : (a b : ℤ) → a ≤ℤ b → (t u : Bool) → int_lt a b ≡ t → int_lt b a ≡ u → is_gt (cond t Less (cond u Greater Equal)) ≡ false
at_most a b h true u e f = refl
at_most a b h false true e f = absurd (omega (arith, ints, h, f))
at_most a b h false false e f = refl

pub forward : (a b : ℤ) → a ≤ℤ b → is_gt (int_cmp a b) ≡ false
forward a b h = at_most a b h (int_lt a b) (int_lt b a) refl refl

filter_step : (p q : ℤ → Bool) (z : ℤ) (zs : List ℤ) → (p z ≡ true → q z ≡ true) → filter p (filter q zs) ≡ filter p zs → (t u : Bool) → p z ≡ t → q z ≡ u → filter p (cond u (z ∷ filter q zs) (filter q zs)) ≡ filter p (z ∷ zs)
filter_step p q z zs under rest t true e f = ap (λ (ys : List ℤ). cond (p z) (z ∷ ys) ys) rest
filter_step p q z zs under rest true false e f = absurd (false≢true (sym f ∙ under e))
filter_step p q z zs under rest false false e f = rw e rest

filter_under : (p q : ℤ → Bool) → ((z : ℤ) → p z ≡ true → q z ≡ true) → (zs : List ℤ) → filter p (filter q zs) ≡ filter p zs
filter_under p q under [] = refl
filter_under p q under (z ∷ zs) = filter_step p q z zs (under z) (filter_under p q under zs) (p z) (q z) refl refl

-- those that the term can have are all between its bounds
pub had_between : (box : List (List ℤ)) (x : Term) (numbers : BTreeSet ℤ) (low high : ℤ) → IsDomain (term_values box x) → low ≡ term_low box x → high ≡ term_high box x
    → filter (λ z. term_has box z x) (keys_between int_cmp (Included low) (Included high) numbers) ≡ filter (λ z. term_has box z x) numbers.keys
had_between box x numbers low high domain from to = filter_under (λ z. term_has box z x) (range_contains int_cmp (Included low) (Included high)) inside numbers.keys
  where
    inside : (z : ℤ) → term_has box z x ≡ true → range_contains int_cmp (Included low) (Included high) z ≡ true
    inside z e =
        let ends = between (term_values box x) z domain ((term_has_is box x z).0 e) in
        let first = low_is_first box x in
        let last = high_is_last box x in
        range_contains-from_IsInRange int_cmp_total (Included low) (Included high) z (forward low z (omega (arith, ints, ends.0, first, from)), forward z high (omega (arith, ints, ends.1, last, to)))
