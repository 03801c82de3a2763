-- What the narrowing of a term does to a store, from what it does to one domain.
use Rattle.std.proofs.Common.{◌≡◌, ◌≢◌, ℕ, ◌<◌, ◌≤◌, ◌⊎◌, ◌↔◌, List, [], length, set, refl, sym, ap, subst, ◌∙◌, arith, Bool, true, false, not, cond, inl, inr, length-set}
use Rattle.std.specs.Prelude.{ℤ, pos, ◌+ℤ◌, ◌-ℤ◌, ◌≤ℤ◌, ◌<ℤ◌, slice_index_or, ◌&&◌, int_le, int_lt, Contains, MatchBool}
use Rattle.std.specs.Ordering.{int_eq}
use Rattle.std.proofs.lemmas.Int.{ints}
use Rattle.std.proofs.lemmas.Bool.{false≢true, cases_eq, and_parts}
use Rattle.std.proofs.lemmas.Bool.Decides.{Decides-int_eq}
use Rattle.std.proofs.lemmas.List.{get_or-set_same, get_or-set_other, set-get_or}
use Rattle.int_domain.specs.declared.narrow.Narrow.{Narrow}
use Rattle.int_domain.specs.declared.narrow.Narrow.TheVariants.{Same, Changed, Empty}
use Rattle.int_domain.specs.Narrowing.{Narrows, DropsValue, is_held}
use Rattle.int_domain.specs.Values.{is_wide, low_of, high_of}
use Rattle.int_domain.proofs.Facts.{contains_from_filter, filter_contains}
use Rattle.int_domain.proofs.Narrowed.{le_from_test, test_from_le, lt_from_test}
use Rattle.fzn_model.specs.declared.term.Term.TheVariants as term
use Rattle.fzn_model.specs.Boxes.{IsBox, IsDomain, domain_at, low_value, high_value}
use Rattle.dom_store.specs.Stores.{Stored, box_size}
use Rattle.mark_set.specs.Marks.{IsUnmarked}
use Rattle.dom_store.specs.Narrowing.{AltersOnly, Stays}
use Rattle.dom_store.specs.Cuts.{Cuts}
use Rattle.dom_store.specs.declared.domain.Cut.{Cut}
use Rattle.dom_store.specs.declared.domain.Cut.TheVariants as cut
use Rattle.dom_store.specs.Steps.{LowIs, HighIs, ValueIs, IsGone}
use Rattle.dom_store.specs.Kept.{Does, kept_by, reached_by}
use Rattle.dom_store.proofs.Laws.{stays_refl}
use Rattle.fzn_model.proofs.Domains.{low_in, high_in}
use Rattle.dom_store.proofs.Facts.{same_low, same_high}

-- what a narrowing to the values with Q does to a domain
pub record Keeps (Q : ℤ → Type 0) (old new : List ℤ) (answer : Narrow) : Type 0 where
  pub within : (z : ℤ) → Contains new z → Contains old z
  pub kept : (z : ℤ) → Contains old z → Q z → Contains new z
  pub same : (answer ≡ Changed → ⊥) → new ≡ old
  pub empty : answer ≡ Empty → (z : ℤ) → Contains old z → Q z → ⊥

-- a test decides Q
abbrev pub Tests : (ℤ → Bool) → (ℤ → Type 0) → Type 0
Tests keep Q = (z : ℤ) → (keep z ≡ true) ↔ Q z

no_values : (z : ℤ) → Contains [] z → ⊥
no_values z has = omega (arith, has.1)

pub narrows_keeps : (keep : ℤ → Bool) (Q : ℤ → Type 0) (old new : List ℤ) (answer : Narrow) → Tests keep Q → Narrows keep old new answer → Keeps Q old new answer
unfolding Narrows
narrows_keeps keep Q old new Same tests n = record {
  within = λ z has. subst (λ xs. Contains xs z) n.1 has;
  kept = λ z has q. subst (λ xs. Contains xs z) (sym n.1) has;
  same = λ not_changed. n.1;
  empty = λ e. absurd (cc);
}
narrows_keeps keep Q old new Changed tests n = record {
  within = λ z has. (contains_from_filter keep old z (subst (λ xs. Contains xs z) n.0 has)).0;
  kept = λ z has q. subst (λ xs. Contains xs z) (sym n.0) (filter_contains keep old z has ((tests z).1 q));
  same = λ not_changed. absurd (not_changed refl);
  empty = λ e. absurd (cc);
}
narrows_keeps keep Q old new Empty tests n = record {
  within = λ z has. subst (λ xs. Contains xs z) n.1 has;
  kept = λ z has q. subst (λ xs. Contains xs z) (sym n.1) has;
  same = λ not_changed. n.1;
  empty = λ e z has q. no_values z (subst (λ xs. Contains xs z) n.0 (filter_contains keep old z has ((tests z).1 q)));
}

-- where some values stay, each of them passes
pub narrows_pass : (keep : ℤ → Bool) (Q : ℤ → Type 0) (old new : List ℤ) (answer : Narrow) → Tests keep Q → Narrows keep old new answer → (answer ≡ Empty → ⊥) → (z : ℤ) → Contains new z → Q z
unfolding Narrows
narrows_pass keep Q old new Same tests n some z has = (tests z).0 (contains_from_filter keep old z (subst (λ xs. Contains xs z) (n.1 ∙ sym n.0) has)).1
narrows_pass keep Q old new Changed tests n some z has = (tests z).0 (contains_from_filter keep old z (subst (λ xs. Contains xs z) n.0 has)).1
narrows_pass keep Q old new Empty tests n some z has = absurd (some refl)

pub drops_keeps : (value : ℤ) (Q : ℤ → Type 0) (old new : List ℤ) (answer : Narrow) → Tests (λ x. not (int_eq x value)) Q → DropsValue value old new answer → Keeps Q old new answer
unfolding DropsValue
drops_keeps value Q old new answer tests drops = keeps_by (is_held value old) drops
  where
    keeps_by : (t : Bool) → MatchBool t ((answer ≡ Same) × (new ≡ old)) (Narrows (λ x. not (int_eq x value)) old new answer) → Keeps Q old new answer
    keeps_by true held = record {
      within = λ z has. subst (λ xs. Contains xs z) held.1 has;
      kept = λ z has q. subst (λ xs. Contains xs z) (sym held.1) has;
      same = λ not_changed. held.1;
      empty = λ e. let both : Same ≡ Empty = sym held.0 ∙ e in absurd (cc);
    }
    keeps_by false narrows = narrows_keeps (λ x. not (int_eq x value)) Q old new answer tests narrows

-- ---- tests
pub tests_least : (low : ℤ) → Tests (λ x. int_le low x) (λ z. low ≤ℤ z)
tests_least low z = (le_from_test low z, test_from_le low z)

pub tests_most : (high : ℤ) → Tests (λ x. int_le x high) (λ z. z ≤ℤ high)
tests_most high z = (le_from_test z high, test_from_le z high)

pub tests_one : (value : ℤ) → Tests (λ x. int_eq x value) (λ z. z ≡ value)
tests_one value z = ((Decides-int_eq z value).0, (Decides-int_eq z value).1)

not_tests : (b : Bool) (P : Type 0) → ((b ≡ true) ↔ P) → (not b ≡ true) ↔ (P → ⊥)
not_tests true P d = (λ e. absurd (false≢true e), λ n. absurd (n (d.0 refl)))
not_tests false P d = (λ e p. false≢true (d.1 p), λ n. refl)

pub tests_others : (value : ℤ) → Tests (λ x. not (int_eq x value)) (λ z. z ≢ value)
tests_others value z = not_tests (int_eq z value) (z ≡ value) (tests_one value z)

-- ---- the store
elsewhere_at : (box new : List (List ℤ)) (var k : ℕ) (d : List ℤ) → new ≡ set box var d → (k ≡ var → ⊥) → domain_at new k ≡ domain_at box k
elsewhere_at box new var k d is apart = ap (λ b. domain_at b k) is ∙ get_or-set_other box var k d [] apart

stored_same : (old new : Stored) → new.box ≡ old.box → new.saved ≡ old.saved → new.settled ≡ old.settled → new.touched ≡ old.touched → new.changes ≡ old.changes → new ≡ old
stored_same old new box saved settled touched changes =
    ap (λ b. record { box = b; saved = new.saved; settled = new.settled; touched = new.touched; changes = new.changes }) box
    ∙ ap (λ l. record { box = old.box; saved = l; settled = new.settled; touched = new.touched; changes = new.changes }) saved
    ∙ ap (λ o. record { box = old.box; saved = old.saved; settled = o; touched = new.touched; changes = new.changes }) settled
    ∙ ap (λ m. record { box = old.box; saved = old.saved; settled = old.settled; touched = m; changes = new.changes }) touched
    ∙ ap (λ n. record { box = old.box; saved = old.saved; settled = old.settled; touched = old.touched; changes = n }) changes

-- nothing changed
still_stays : (var : ℕ) (old new : Stored) → new.saved ≡ old.saved → new.settled ≡ old.settled → new.touched ≡ old.touched
    → ((k : ℕ) → (k ≡ var → ⊥) → domain_at new.box k ≡ domain_at old.box k) → domain_at new.box var ≡ domain_at old.box var → old.changes ≤ new.changes → Stays old new
still_stays var old new saved settled touched elsewhere same rises = record {
  saved = saved;
  settled = settled;
  marks = λ k un. sym (ap (λ m. slice_index_or m k false) touched) ∙ un;
  untouched = λ k un. elim (cases_eq k var) [ inl is ↦ ap (domain_at new.box) is ∙ same ∙ sym (ap (domain_at old.box) is) | inr apart ↦ elsewhere k apart ];
  changes = rises;
}

same_box : (var : ℕ) (old new : Stored) (answer : Narrow) → AltersOnly var answer old new → domain_at new.box var ≡ domain_at old.box var → new.box ≡ old.box
same_box var old new answer alters same = alters.box ∙ ap (set old.box var) same ∙ set-get_or old.box var []

same_store : (var : ℕ) (old new : Stored) (answer : Narrow) → AltersOnly var answer old new → (answer ≡ Changed → ⊥) → domain_at new.box var ≡ domain_at old.box var → new ≡ old
same_store var old new Same alters not_changed same = stored_same old new (same_box var old new Same alters same) alters.saved alters.settled alters.touched alters.changes
same_store var old new Changed alters not_changed same = absurd (not_changed refl)
same_store var old new Empty alters not_changed same = stored_same old new (same_box var old new Empty alters same) alters.saved alters.settled alters.touched alters.changes

same_count : (var : ℕ) (old new : Stored) (answer : Narrow) → AltersOnly var answer old new → length new.box ≡ length old.box
same_count var old new answer alters = ap length alters.box ∙ length-set old.box var (domain_at new.box var)

-- a variable whose domain changed is marked
alters_stays : (var : ℕ) (old new : Stored) (answer : Narrow) → AltersOnly var answer old new → ((k : ℕ) → (k ≡ var → ⊥) → domain_at new.box k ≡ domain_at old.box k)
    → ((answer ≡ Changed → ⊥) → domain_at new.box var ≡ domain_at old.box var) → old.changes ≤ new.changes → Stays old new
alters_stays var old new Same alters elsewhere same rises = still_stays var old new (alters.saved) (alters.settled) (alters.touched) elsewhere (same (λ e. absurd cc)) rises
alters_stays var old new Empty alters elsewhere same rises = still_stays var old new (alters.saved) (alters.settled) (alters.touched) elsewhere (same (λ e. absurd cc)) rises
alters_stays var old new Changed alters elsewhere same rises = record {
  saved = alters.saved;
  settled = alters.settled;
  marks = λ k un. elim (cases_eq k var) [
    | inl is ↦ absurd (marked k is un)
    | inr apart ↦ sym (ap (λ m. slice_index_or m k false) alters.touched ∙ get_or-set_other old.touched var k true false apart) ∙ un
  ];
  untouched = λ k un. elim (cases_eq k var) [ inl is ↦ absurd (marked k is un) | inr apart ↦ elsewhere k apart ];
  changes = rises;
}
  where
    marked : (k : ℕ) → k ≡ var → IsUnmarked new.touched k → ⊥
    marked k is un = false≢true (sym un ∙ ap (λ j. slice_index_or new.touched j false) is ∙ ap (λ m. slice_index_or m var false) alters.touched ∙ get_or-set_same old.touched var true false alters.room)

-- the other domains are as they were
at_variable : (P : ℕ → Type 0) (var : ℕ) (k : ℕ) → P var → ((k ≡ var → ⊥) → P k) → P k
at_variable P var k here there = elim (cases_eq k var) [ inl same ↦ subst P (sym same) here | inr apart ↦ there apart ]

keeps_cuts : (Q : ℤ → Type 0) (var : ℕ) (old new : Stored) (answer : Narrow) → Keeps Q (domain_at old.box var) (domain_at new.box var) answer → AltersOnly var answer old new
    → var < length old.box → (answer ≡ Changed → box_size new.box < box_size old.box) → old.changes ≤ new.changes → Cuts Q (term.Var var) old new answer
keeps_cuts Q var old new answer keeps alters inside falls rises =
    let count = same_count var old new answer alters in
    let elsewhere : (k : ℕ) → (k ≡ var → ⊥) → domain_at new.box k ≡ domain_at old.box k = λ k apart. elsewhere_at old.box new.box var k (domain_at new.box var) alters.box apart in
    record {
      within = λ k z. at_variable (λ j. Contains (domain_at new.box j) z → Contains (domain_at old.box j) z) var k (keeps.within z) (λ apart. subst (λ xs. Contains xs z) (elsewhere k apart));
      kept = λ θ lies q. record {
        count = lies.count ∙ sym count;
        each = λ k h. at_variable (λ j. Contains (domain_at new.box j) (slice_index_or θ j (pos 0))) var k
            (keeps.kept (slice_index_or θ var (pos 0)) (lies.each var inside) q)
            (λ apart. subst (λ xs. Contains xs (slice_index_or θ k (pos 0))) (sym (elsewhere k apart)) (lies.each k (omega arith)));
      };
      elsewhere = λ k apart. elsewhere k (λ same. apart (ap term.Var (sym same)));
      count = count;
      stays = alters_stays var old new answer alters elsewhere (λ not_changed. keeps.same not_changed) rises;
      same = λ is. same_store var old new answer alters (λ changed. not_both answer Same is changed cc) (keeps.same (λ changed. not_both answer Same is changed cc));
      falls = falls;
      empty = λ is. (
        same_store var old new answer alters (λ changed. not_both answer Empty is changed cc) (keeps.same (λ changed. not_both answer Empty is changed cc)),
        λ θ lies. keeps.empty is (slice_index_or θ var (pos 0)) (lies.each var inside),
      );
    }
  where
    not_both : (a b : Narrow) → a ≡ b → a ≡ Changed → (b ≡ Changed → ⊥) → ⊥
    not_both a b is changed apart = apart (sym is ∙ changed)

-- ---- a narrowing of a variable
pub does_keeps : (c : Cut) (old new : List ℤ) (answer : Narrow) → Does c old new answer → Keeps (kept_by c) old new answer
unfolding Does
does_keeps (cut.Below low) old new answer does = narrows_keeps _ _ old new answer (tests_least low) does
does_keeps (cut.Above high) old new answer does = narrows_keeps _ _ old new answer (tests_most high) does
does_keeps (cut.Fix value) old new answer does = narrows_keeps _ _ old new answer (tests_one value) does
does_keeps (cut.Drop value) old new answer does = drops_keeps value _ old new answer (tests_others value) does

pub variable_cuts : (c : Cut) (var : ℕ) (old new : Stored) (answer : Narrow) → Does c (domain_at old.box var) (domain_at new.box var) answer → AltersOnly var answer old new
    → var < length old.box → (answer ≡ Changed → box_size new.box < box_size old.box) → old.changes ≤ new.changes → Cuts (kept_by c) (term.Var var) old new answer
variable_cuts c var old new answer does alters inside falls rises = keeps_cuts (kept_by c) var old new answer (does_keeps c (domain_at old.box var) (domain_at new.box var) answer does) alters inside falls rises

-- the domain of the variable afterwards
domain_there : (var : ℕ) (old new : Stored) (answer : Narrow) → AltersOnly var answer old new → var < length old.box → IsBox new.box → IsDomain (domain_at new.box var)
domain_there var old new answer alters inside well_formed = well_formed var [] (let count = same_count var old new answer alters in omega (arith, count))

-- ---- what is reached, where some value stays
low_reached : (low : ℤ) (xs ys : List ℤ) (answer : Narrow) → Narrows (λ x. int_le low x) xs ys answer → IsDomain ys → (answer ≡ Empty → ⊥) → low ≤ℤ low_value ys
low_reached low xs ys answer n d some = narrows_pass (λ x. int_le low x) (λ z. low ≤ℤ z) xs ys answer (tests_least low) n some (low_value ys) (low_in ys d)

high_reached : (high : ℤ) (xs ys : List ℤ) (answer : Narrow) → Narrows (λ x. int_le x high) xs ys answer → IsDomain ys → (answer ≡ Empty → ⊥) → high_value ys ≤ℤ high
high_reached high xs ys answer n d some = narrows_pass (λ x. int_le x high) (λ z. z ≤ℤ high) xs ys answer (tests_most high) n some (high_value ys) (high_in ys d)

value_reached : (value : ℤ) (xs ys : List ℤ) (answer : Narrow) → Narrows (λ x. int_eq x value) xs ys answer → IsDomain ys → (answer ≡ Empty → ⊥) → (low_value ys ≡ value) × (high_value ys ≡ value)
value_reached value xs ys answer n d some =
    let pass = narrows_pass (λ x. int_eq x value) (λ z. z ≡ value) xs ys answer (tests_one value) n some in
    (pass (low_value ys) (low_in ys d), pass (high_value ys) (high_in ys d))

held_is_open : (value : ℤ) (xs : List ℤ) → is_held value xs ≡ true → (pos 1024 ≤ℤ (high_value xs -ℤ low_value xs)) × (low_value xs <ℤ value) × (value <ℤ high_value xs)
unfolding is_held is_wide
held_is_open value xs held =
    let parts = and_parts (int_lt (pos 1024) (high_of xs -ℤ low_of xs +ℤ pos 1)) (int_lt (low_of xs) value && int_lt value (high_of xs)) held in
    let ends = and_parts (int_lt (low_of xs) value) (int_lt value (high_of xs)) parts.1 in
    let wide = lt_from_test (pos 1024) (high_of xs -ℤ low_of xs +ℤ pos 1) parts.0 in
    let above = lt_from_test (low_of xs) value ends.0 in
    let below = lt_from_test value (high_of xs) ends.1 in
    let low = same_low xs in
    let high = same_high xs in
    (omega (arith, ints, wide, low, high), omega (arith, ints, above, low), omega (arith, ints, below, high))

-- the dropped value is gone, or lies strictly between the bounds of a wide domain
drop_reached : (value : ℤ) (xs ys : List ℤ) (answer : Narrow) → DropsValue value xs ys answer → (answer ≡ Empty → ⊥) → Contains ys value
    → (pos 1024 ≤ℤ (high_value ys -ℤ low_value ys) → (value ≡ low_value ys) ⊎ (value ≡ high_value ys)) → ⊥
unfolding DropsValue
drop_reached value xs ys answer drops some has bound = reaches_by (is_held value xs) refl drops
  where
    reaches_by : (t : Bool) → is_held value xs ≡ t → MatchBool t ((answer ≡ Same) × (ys ≡ xs)) (Narrows (λ x. not (int_eq x value)) xs ys answer) → ⊥
    reaches_by true is held =
        let open_at = held_is_open value ys (ap (is_held value) held.1 ∙ is) in
        elim (bound open_at.0) [ inl low ↦ omega (arith, ints, open_at.1, low) | inr high ↦ omega (arith, ints, open_at.2, high) ]
    reaches_by false is narrows = narrows_pass (λ x. not (int_eq x value)) (λ z. z ≢ value) xs ys answer (tests_others value) narrows some value has refl

pub variable_reached : (c : Cut) (var : ℕ) (old new : Stored) (answer : Narrow) → Does c (domain_at old.box var) (domain_at new.box var) answer → AltersOnly var answer old new
    → var < length old.box → IsBox new.box → (answer ≡ Empty → ⊥) → reached_by c (term.Var var) new.box
unfolding Does LowIs HighIs ValueIs IsGone
variable_reached (cut.Below low) var old new answer does alters inside well_formed some = low_reached low (domain_at old.box var) (domain_at new.box var) answer does (domain_there var old new answer alters inside well_formed) some
variable_reached (cut.Above high) var old new answer does alters inside well_formed some = high_reached high (domain_at old.box var) (domain_at new.box var) answer does (domain_there var old new answer alters inside well_formed) some
variable_reached (cut.Fix value) var old new answer does alters inside well_formed some =
    let ends = value_reached value (domain_at old.box var) (domain_at new.box var) answer does (domain_there var old new answer alters inside well_formed) some in
    record { low = ends.0; high = ends.1 }
variable_reached (cut.Drop value) var old new answer does alters inside well_formed some = λ looked. drop_reached value (domain_at old.box var) (domain_at new.box var) answer does some looked.has looked.bound

-- ---- a constant, whose number stays or not
pub constant_cuts : (stays : Bool) (Q : ℤ → Type 0) (z : ℤ) (s : Stored) (answer : Narrow) → (stays ≡ true) ↔ Q z → answer ≡ cond stays Same Empty → Cuts Q (term.Const z) s s answer
constant_cuts stays Q z s answer keeps is = record {
  within = λ k v has. has;
  kept = λ θ lies q. lies;
  elsewhere = λ k apart. refl;
  count = refl;
  stays = stays_refl s;
  same = λ e. refl;
  falls = λ e. absurd (unchanged stays answer is e);
  empty = λ e. (refl, λ θ lies q. gone stays answer is e (keeps.1 q));
}
  where
    unchanged : (t : Bool) (a : Narrow) → a ≡ cond t Same Empty → a ≡ Changed → ⊥
    unchanged true a e f = let both : Same ≡ Changed = sym e ∙ f in absurd (cc)
    unchanged false a e f = let both : Empty ≡ Changed = sym e ∙ f in absurd (cc)

    gone : (t : Bool) (a : Narrow) → a ≡ cond t Same Empty → a ≡ Empty → t ≡ true → ⊥
    gone true a e f g = let both : Same ≡ Empty = sym e ∙ f in absurd (cc)
    gone false a e f g = false≢true g

constant_stays : (stays : Bool) (answer : Narrow) → answer ≡ cond stays Same Empty → (answer ≡ Empty → ⊥) → stays ≡ true
constant_stays true answer is some = refl
constant_stays false answer is some = absurd (some is)

pub constant_reached : (c : Cut) (stays : Bool) (z : ℤ) (box : List (List ℤ)) (answer : Narrow) → (stays ≡ true) ↔ kept_by c z → answer ≡ cond stays Same Empty → (answer ≡ Empty → ⊥) → reached_by c (term.Const z) box
unfolding LowIs HighIs ValueIs IsGone
constant_reached (cut.Below low) stays z box answer keeps is some = keeps.0 (constant_stays stays answer is some)
constant_reached (cut.Above high) stays z box answer keeps is some = keeps.0 (constant_stays stays answer is some)
constant_reached (cut.Fix value) stays z box answer keeps is some = let same = keeps.0 (constant_stays stays answer is some) in record { low = same; high = same }
constant_reached (cut.Drop value) stays z box answer keeps is some = λ looked. keeps.0 (constant_stays stays answer is some) (sym looked.has)
