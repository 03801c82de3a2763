-- Boxes had from a trail: what a saving, a narrowing and a way back leave of them.
use Rattle.std.proofs.Common.{◌≡◌, ◌≢◌, ℕ, suc, zero, ◌+◌, ◌<◌, ◌≤◌, List, [], ◌∷◌, ◌++◌, length, take, drop, set, refl, sym, ap, subst, ◌∙◌, arith, inl, inr, length-set, length-append, Bool, true, false}
use Rattle.std.specs.Prelude.{ℤ, All}
use Rattle.std.proofs.lemmas.Bool.{cases_eq}
use Rattle.std.proofs.lemmas.List.{take-append-le, take_all, take-take, drop_all, drop-append-le, take-append-drop, get_or-set_other, set-get_or, length-take}
use Rattle.std.proofs.lemmas.List.Elements.{All-push, All-take}
use Rattle.fzn_model.specs.Boxes.{domain_at}
use Rattle.dom_store.specs.declared.entry.Entry.{Entry}
use Rattle.mark_set.specs.Marks.{IsUnmarked}
use Rattle.mark_set.proofs.Marking.{counted}
use Rattle.dom_store.specs.Trails.{TrailParts, IsTrail, Saves, put_back, undone, box_at, Names}

abbrev Box : Type 0
Box = List (List ℤ)

-- ---- a domain is replaced once, or twice
set_set : (box : Box) (k : ℕ) (x y : List ℤ) → set (set box k x) k y ≡ set box k y
set_set [] k x y = refl
set_set (b ∷ bs) zero x y = refl
set_set (b ∷ bs) (suc k) x y = ap (λ l. b ∷ l) (set_set bs k x y)

set_commutes : (box : Box) (j k : ℕ) (x y : List ℤ) → j ≢ k → set (set box j x) k y ≡ set (set box k y) j x
set_commutes [] j k x y apart = refl
set_commutes (b ∷ bs) zero zero x y apart = absurd (apart refl)
set_commutes (b ∷ bs) zero (suc k) x y apart = refl
set_commutes (b ∷ bs) (suc j) zero x y apart = refl
set_commutes (b ∷ bs) (suc j) (suc k) x y apart = ap (λ l. b ∷ l) (set_commutes bs j k x y (λ e. apart (ap suc e)))

-- ---- entries one after another
pub undone_append : (es fs : List Entry) (box : Box) → undone (es ++ fs) box ≡ undone es (undone fs box)
unfolding undone
undone_append [] fs box = refl
undone_append (e ∷ es) fs box = ap (put_back e) (undone_append es fs box)

pub undone_count : (es : List Entry) (box : Box) → length (undone es box) ≡ length box
unfolding undone
undone_count [] box = refl
undone_count (e ∷ es) box = length-set (undone es box) e.var e.domain ∙ undone_count es box

-- the variables that no entry names keep their domains
pub undone_elsewhere : (es : List Entry) (box : Box) (k : ℕ) → (Names k es → ⊥) → domain_at (undone es box) k ≡ domain_at box k
unfolding undone
undone_elsewhere [] box k none = refl
undone_elsewhere (e ∷ es) box k none =
    get_or-set_other (undone es box) e.var k e.domain [] (λ same. none (0, e, omega arith, refl, sym same))
    ∙ undone_elsewhere es box k (λ has. none (later has))
  where
    later : Names k es → Names k (e ∷ es)
    later (k, d, h, at, is) = (suc k, d, omega arith, at, is)

pub drop_split : (es : List Entry) (count start : ℕ) → count ≤ start → start ≤ length es → drop count (take start es) ++ drop start es ≡ drop count es
drop_split es count start few inside =
    sym (drop-append-le count (take start es) (drop start es) (let long = length-take start es in omega (arith, long, few, inside)))
    ∙ ap (drop count) (take-append-drop start es)

pub saved_boxes_stay : (es : List Entry) (box : Box) (e : Entry) (count : ℕ) → count ≤ length es → e.domain ≡ domain_at box e.var
    → box_at (es ++ e ∷ []) box count ≡ box_at es box count
unfolding undone
saved_boxes_stay es box e count few is =
    ap (λ l. undone l box) (drop-append-le count es (e ∷ []) few)
    ∙ undone_append (drop count es) (e ∷ []) box
    ∙ ap (undone (drop count es)) (ap (set box e.var) is ∙ set-get_or box e.var [])

-- ---- which variables have entries
names_left : (es fs : List Entry) (var : ℕ) → Names var es → Names var (es ++ fs)
names_left [] fs var (k, d, h, at, is) = absurd (omega (arith, h))
names_left (e ∷ es) fs var (zero, d, h, at, is) = (zero, d, omega arith, at, is)
names_left (e ∷ es) fs var (suc k, d, h, at, is) = let rest : Names var (es ++ fs) = names_left es fs var (k, d, omega (arith, h), at, is) in (suc rest.0, rest.1, omega (arith, rest.2), rest.3, rest.4)

names_right : (es fs : List Entry) (var : ℕ) → Names var fs → Names var (es ++ fs)
names_right [] fs var has = has
names_right (e ∷ es) fs var has = let rest : Names var (es ++ fs) = names_right es fs var has in (suc rest.0, rest.1, omega (arith, rest.2), rest.3, rest.4)

pub names_more : (es : List Entry) (count since var : ℕ) → count ≤ since → since ≤ length es → Names var (drop since es) → Names var (drop count es)
names_more es count since var few inside has = subst (Names var) (drop_split es count since few inside) (names_right (drop count (take since es)) (drop since es) var has)

-- a trail with one more entry
pub trail_saved : (t : TrailParts) (e : Entry) (entries : List Entry) (marks : List Bool) (room : ℕ) → IsTrail t → e.var < length t.marks → IsUnmarked t.marks e.var
    → entries ≡ t.entries ++ e ∷ [] → marks ≡ set t.marks e.var true → room ≡ t.room → IsTrail (record { entries = entries; marks = marks; since = t.since; room = room })
trail_saved t e entries marks room kept inside unmarked entries_is marks_is room_is = rw (entries_is, marks_is, room_is) (record {
  since = let long = length-append t.entries (e ∷ []) in omega (arith, long, kept.since);
  inside = All-push (λ (f : Entry). f.var < length (set t.marks e.var true)) t.entries e
      (λ k d h. let was = kept.inside k d h in omega (arith, was, length-set t.marks e.var true))
      (omega (arith, inside, length-set t.marks e.var true));
  named = λ var is. subst (Names var) (sym (drop-append-le t.since t.entries (e ∷ []) kept.since)) (elim (cases_eq var e.var) [
    | inl same ↦ names_right (drop t.since t.entries) (e ∷ []) var (0, e, omega arith, refl, sym same)
    | inr apart ↦ names_left (drop t.since t.entries) (e ∷ []) var (kept.named var (sym (get_or-set_other t.marks e.var var true false apart) ∙ is))
  ]);
  room = let long = length-append t.entries (e ∷ []) in let one = counted t.marks e.var inside unmarked in omega (arith, long, one, kept.room);
})

pub saves_one : (box : Box) (t new : TrailParts) (e : Entry) → e.domain ≡ domain_at box e.var
    → new ≡ record { entries = t.entries ++ e ∷ []; marks = set t.marks e.var true; since = t.since; room = t.room } → Saves box t new
saves_one box t new e was is = subst (λ (n : TrailParts). Saves box t n) (sym is) (record {
  boxes = λ count few. saved_boxes_stay t.entries box e count few was;
  more = let long = length-append t.entries (e ∷ []) in omega (arith, long);
  count = length-set t.marks e.var true;
  since = refl;
  room = refl;
})

-- ---- a narrowing of a variable that is named
under : (es : List Entry) (box : Box) (var : ℕ) (x d : List ℤ) → set (undone es (set box var x)) var d ≡ set (undone es box) var d
unfolding undone
under [] box var x d = set_set box var x d
under (e ∷ es) box var x d = elim (cases_eq e.var var) [
  | inl same ↦ rw (same) (set_set (undone es (set box var x)) var e.domain d ∙ under es box var x d ∙ sym (set_set (undone es box) var e.domain d))
  | inr apart ↦ set_commutes (undone es (set box var x)) e.var var e.domain d apart
      ∙ ap (λ b. set b e.var e.domain) (under es box var x d)
      ∙ sym (set_commutes (undone es box) e.var var e.domain d apart)
]

pub named_undone : (es : List Entry) (box : Box) (var : ℕ) (x : List ℤ) → Names var es → undone es (set box var x) ≡ undone es box
unfolding undone
named_undone [] box var x has = absurd (omega (arith, has.2))
named_undone (e ∷ es) box var x has = elim (cases_eq e.var var) [
  | inl same ↦ rw (same) (under es box var x e.domain)
  | inr apart ↦ ap (put_back e) (named_undone es box var x (earlier has apart))
]
  where
    earlier : Names var (e ∷ es) → e.var ≢ var → Names var es
    earlier (zero, d, h, at, is) apart = absurd (apart (ap (λ (f : Entry). f.var) at ∙ is))
    earlier (suc k, d, h, at, is) apart = (k, d, omega arith, at, is)

-- ---- the way back
pub taken_back : (es : List Entry) (box : Box) (count start : ℕ) → count ≤ start → start ≤ length es → box_at (take start es) (box_at es box start) count ≡ box_at es box count
taken_back es box count start few inside =
    sym (undone_append (drop count (take start es)) (drop start es) box) ∙ ap (λ l. undone l box) (drop_split es count start few inside)

-- ---- one step of the way back
pub one_back : (es rest : List Entry) (e : Entry) (start : ℕ) (box : Box) → es ≡ rest ++ e ∷ [] → start ≤ length rest
    → undone (drop start es) box ≡ undone (drop start rest) (put_back e box)
unfolding undone
one_back es rest e start box is few =
    ap (λ l. undone (drop start l) box) is ∙ ap (λ l. undone l box) (drop-append-le start rest (e ∷ []) few) ∙ undone_append (drop start rest) (e ∷ []) box

-- what is left is a first part
pub first_part : (old es rest : List Entry) (e : Entry) → es ≡ take (length es) old → es ≡ rest ++ e ∷ [] → rest ≡ take (length rest) old
first_part old es rest e part is =
    let long : length es ≡ length rest + 1 = ap length is ∙ length-append rest (e ∷ []) in
    sym (take-append-le (length rest) rest (e ∷ []) (omega arith) ∙ take_all (length rest) rest (omega arith))
    ∙ ap (take (length rest)) (sym is ∙ part)
    ∙ take-take (length rest) (length es) old (omega (arith, long))

pub rest_inside : (n m : ℕ) (es rest : List Entry) (e : Entry) → All (λ (f : Entry). f.var < n) es → es ≡ rest ++ e ∷ [] → m ≡ n → All (λ (f : Entry). f.var < m) rest
rest_inside n m es rest e all is same =
    let front : take (length rest) es ≡ rest = ap (take (length rest)) is ∙ take-append-le (length rest) rest (e ∷ []) (omega arith) ∙ take_all (length rest) rest (omega arith) in
    subst (λ k. All (λ (f : Entry). f.var < k) rest) (sym same) (subst (All (λ (f : Entry). f.var < n)) front (All-take (λ (f : Entry). f.var < n) (length rest) es all))

pub undone_none : (es : List Entry) (start : ℕ) (box : Box) → length es ≤ start → box ≡ undone (drop start es) box
unfolding undone
undone_none es start box none = sym (ap (λ l. undone l box) (drop_all start es none))
