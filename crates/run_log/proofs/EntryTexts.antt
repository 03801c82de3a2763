-- The text of an entry: its name and its numbers.
use Rattle.std.proofs.Common.{◌≡◌, ℕ, ◌<◌, ◌^◌, List, [], ◌∷◌, ◌++◌, drop, refl, arith, ap, sym, ◌∙◌, subst, ℤ, pos, Bool, true, false, append-nil}
use Rattle.std.specs.Prelude.{FitsSigned, All, codes, Option, Some, None, Result, Ok, Err, IfOk}
use Rattle.std.specs.Int.{w64, w128}
use Rattle.std.specs.List.{flat_map}
use Rattle.std.proofs.lemmas.List.Elements.{All-cons, All-nil, All-append}
use Rattle.fzn_model.specs.Meaning.{bit}
use Rattle.run_log.specs.declared.line.LogLine.{LogLine}
use Rattle.run_log.specs.declared.line.LogLine.TheVariants as line
use Rattle.run_log.specs.declared.entry.LogEntry.{LogEntry}
use Rattle.run_log.specs.Texts.{name_of, numbers_of, number_text, entry_text}
use Rattle.run_log.specs.Readings.{FitsLine, WordsOf, ValuesOf, Fits}
use Rattle.run_log.specs.Steps.{Follows, Lacks, Differs, IsEntry, HasText, AreNumbers, Splits, Finds}
use Rattle.run_log.proofs.Parts.{same_front, lacks_test}
use Rattle.run_log.proofs.NumberLists.{follow, lack_line_feed, same_numbers}

-- ---- its numbers fit 128 bits
unsigned : (n : ℕ) → n < 2 ^ 64 → FitsSigned w128 (pos n)
unsigned n h = record { sfits = omega arith }

small : (n : ℕ) → n < 2 ^ 32 → FitsSigned w128 (pos n)
small n h = record { sfits = omega arith }

signed : (z : ℤ) → FitsSigned w64 z → FitsSigned w128 z
signed z h = record { sfits = omega (arith, h.sfits) }

one : (x : ℤ) → FitsSigned w128 x → All (FitsSigned w128) (x ∷ [])
one x f = All-cons (FitsSigned w128) x [] f (All-nil (FitsSigned w128))

two : (x y : ℤ) → FitsSigned w128 x → FitsSigned w128 y → All (FitsSigned w128) (x ∷ y ∷ [])
two x y f g = All-cons (FitsSigned w128) x (y ∷ []) f (one y g)

three : (x y z : ℤ) → FitsSigned w128 x → FitsSigned w128 y → FitsSigned w128 z → All (FitsSigned w128) (x ∷ y ∷ z ∷ [])
three x y z f g h = All-cons (FitsSigned w128) x (y ∷ z ∷ []) f (two y z g h)

bit_fits : (b : Bool) → FitsSigned w128 (bit b)
bit_fits true = record { sfits = omega arith }
bit_fits false = record { sfits = omega arith }

line_fits : (l : LogLine) → FitsLine l → All (FitsSigned w128) (numbers_of l)
line_fits (line.Node depth seen) f = two (pos depth) seen (small depth f.0) (signed seen f.1)
line_fits (line.Rest offset) f = one offset f
line_fits (line.Wide words) f = one (pos words) (unsigned words f)
line_fits (line.Gone place) f = one (pos place) (small place f)
line_fits (line.Hit depth bound place) f = three (pos depth) bound (pos place) (small depth f.0) (signed bound f.1) (small place f.2)
line_fits (line.Expand depth var at up) f = All-cons (FitsSigned w128) (pos depth) (pos var ∷ at ∷ bit up ∷ []) (small depth f.0) (three (pos var) at (bit up) (small var f.1) (signed at f.2) (bit_fits up))
line_fits (line.Solution cost) f = one cost (signed cost f)
line_fits (line.Leaf depth bound) f = two (pos depth) bound (small depth f.0) (signed bound f.1)
line_fits (line.Join depth bound) f = two (pos depth) bound (small depth f.0) (signed bound f.1)
line_fits (line.Publish place bound) f = two (pos place) bound (small place f.0) f.1

none : (zs : List ℤ) → zs ≡ [] → All (FitsSigned w128) zs
none zs e = subst (All (FitsSigned w128)) (sym e) (All-nil (FitsSigned w128))

words_fit : (l : LogLine) (words : List ℤ) → WordsOf l words → All (FitsSigned w128) words
words_fit (line.Rest offset) words f = f
words_fit (line.Node depth seen) words f = none words f
words_fit (line.Wide count) words f = none words f
words_fit (line.Gone place) words f = none words f
words_fit (line.Hit depth bound place) words f = none words f
words_fit (line.Expand depth var at up) words f = none words f
words_fit (line.Solution cost) words f = none words f
words_fit (line.Leaf depth bound) words f = none words f
words_fit (line.Join depth bound) words f = none words f
words_fit (line.Publish place bound) words f = none words f

values_fit : (l : LogLine) (values : List ℤ) → ValuesOf l values → All (FitsSigned w128) values
values_fit (line.Solution cost) values f = λ k d h. signed _ (f k d h)
values_fit (line.Rest offset) values f = none values f
values_fit (line.Node depth seen) values f = none values f
values_fit (line.Wide count) values f = none values f
values_fit (line.Gone place) values f = none values f
values_fit (line.Hit depth bound place) values f = none values f
values_fit (line.Expand depth var at up) values f = none values f
values_fit (line.Leaf depth bound) values f = none values f
values_fit (line.Join depth bound) values f = none values f
values_fit (line.Publish place bound) values f = none values f

pub shown_fit : (e : LogEntry) → Fits e → All (FitsSigned w128) (numbers_of e.line ++ e.words ++ e.values)
shown_fit e f = All-append (FitsSigned w128) (numbers_of e.line ++ e.words) e.values (All-append (FitsSigned w128) (numbers_of e.line) e.words (line_fits e.line f.line) (words_fit e.line e.words f.words)) (values_fit e.line e.values f.values)

-- ---- its text up to a byte
name_lacks : (l : LogLine) → Lacks 32 (name_of l)
name_lacks (line.Node depth seen) = lacks_test 32 (codes "node") refl
name_lacks (line.Rest offset) = lacks_test 32 (codes "rest") refl
name_lacks (line.Wide words) = lacks_test 32 (codes "wide") refl
name_lacks (line.Gone place) = lacks_test 32 (codes "gone") refl
name_lacks (line.Hit depth bound place) = lacks_test 32 (codes "hit") refl
name_lacks (line.Expand depth var at up) = lacks_test 32 (codes "expand") refl
name_lacks (line.Solution cost) = lacks_test 32 (codes "solution") refl
name_lacks (line.Leaf depth bound) = lacks_test 32 (codes "leaf") refl
name_lacks (line.Join depth bound) = lacks_test 32 (codes "join") refl
name_lacks (line.Publish place bound) = lacks_test 32 (codes "publish") refl

head_lacks : (l : LogLine) → Lacks 10 (codes "%log " ++ name_of l)
head_lacks (line.Node depth seen) = lacks_test 10 (codes "%log node") refl
head_lacks (line.Rest offset) = lacks_test 10 (codes "%log rest") refl
head_lacks (line.Wide words) = lacks_test 10 (codes "%log wide") refl
head_lacks (line.Gone place) = lacks_test 10 (codes "%log gone") refl
head_lacks (line.Hit depth bound place) = lacks_test 10 (codes "%log hit") refl
head_lacks (line.Expand depth var at up) = lacks_test 10 (codes "%log expand") refl
head_lacks (line.Solution cost) = lacks_test 10 (codes "%log solution") refl
head_lacks (line.Leaf depth bound) = lacks_test 10 (codes "%log leaf") refl
head_lacks (line.Join depth bound) = lacks_test 10 (codes "%log join") refl
head_lacks (line.Publish place bound) = lacks_test 10 (codes "%log publish") refl

pub entry_lacks : (e : LogEntry) → Fits e → Lacks 10 (entry_text e)
unfolding entry_text
entry_lacks e f = All-append (Differs 10) (codes "%log " ++ name_of e.line) (flat_map number_text (numbers_of e.line ++ e.words ++ e.values)) (head_lacks e.line) (lack_line_feed _ (shown_fit e f))

pub begins : (e : LogEntry) → (tail : List ℕ) × (entry_text e ≡ codes "%log " ++ tail)
unfolding entry_text
begins e = (name_of e.line ++ flat_map number_text (numbers_of e.line ++ e.words ++ e.values), refl)

-- its name and the text of its numbers
pub parts : (e : LogEntry) (name behind : List ℕ) → Lacks 32 name → Follows 32 behind → entry_text e ≡ codes "%log " ++ (name ++ behind) → (name_of e.line ≡ name) × (flat_map number_text (numbers_of e.line ++ e.words ++ e.values) ≡ behind)
unfolding entry_text
parts e name behind l f h = same_front 32 (name_of e.line) name (flat_map number_text (numbers_of e.line ++ e.words ++ e.values)) behind (name_lacks e.line) l (follow (numbers_of e.line ++ e.words ++ e.values)) f (ap (drop 5) h)

-- what a line is read as
pub is_entry : (name behind : List ℕ) (zs : List ℤ) (e : LogEntry) → Lacks 32 name → Follows 32 behind → AreNumbers behind zs → HasText (codes "%log " ++ (name ++ behind)) e → IsEntry name zs e
is_entry name behind zs e l f n h =
    let p = parts e name behind l f h.shown in
    record { fit = h.fit; named = p.0; numbers = same_numbers _ zs (shown_fit e h.fit) n.fit (p.1 ∙ sym n.shown) }

pub has_text : (name behind : List ℕ) (zs : List ℤ) (e : LogEntry) → AreNumbers behind zs → IsEntry name zs e → HasText (codes "%log " ++ (name ++ behind)) e
unfolding entry_text
has_text name behind zs e n i = record { fit = i.fit; shown = ap (λ (bs : List ℕ). codes "%log " ++ bs) (ap (λ (a : List ℕ). a ++ flat_map number_text (numbers_of e.line ++ e.words ++ e.values)) i.named ∙ ap (λ (b : List ℕ). name ++ b) (ap (flat_map number_text) i.numbers ∙ n.shown)) }

-- ---- the steps of reading a line
pub no_head : (line : List ℕ) → ((text : List ℕ) → line ≡ codes "%log " ++ text → ⊥) → (e : LogEntry) → HasText line e → ⊥
no_head line none e h = let b = begins e in none b.0 (sym h.shown ∙ b.1)

text_of : (line text name behind : List ℕ) → line ≡ codes "%log " ++ text → Splits 32 text name behind → line ≡ codes "%log " ++ (name ++ behind)
text_of line text name behind e s = e ∙ ap (λ (t : List ℕ). codes "%log " ++ t) s.whole

pub no_numbers : (line text name behind : List ℕ) → line ≡ codes "%log " ++ text → Splits 32 text name behind → ((zs : List ℤ) → AreNumbers behind zs → ⊥) → (e : LogEntry) → HasText line e → ⊥
no_numbers line text name behind e s none x h =
    let p = parts x name behind s.lacks s.follows (h.shown ∙ text_of line text name behind e s) in
    none (numbers_of x.line ++ x.words ++ x.values) (record { fit = shown_fit x h.fit; shown = p.1 })

finds_same : {E : Type 0} (name line : List ℕ) (zs : List ℤ) (r : Result (Option LogEntry) E) → ((e : LogEntry) → IsEntry name zs e → HasText line e) → ((e : LogEntry) → HasText line e → IsEntry name zs e) → IfOk r (Finds (IsEntry name zs)) → IfOk r (Finds (HasText line))
finds_same name line zs (Ok (Some e)) to from h = to e h
finds_same name line zs (Ok None) to from h = λ e t. h e (from e t)
finds_same name line zs (Err x) to from h = h

pub line_is_read : {E : Type 0} (line text name behind : List ℕ) (zs : List ℤ) (r : Result (Option LogEntry) E) → line ≡ codes "%log " ++ text → Splits 32 text name behind → AreNumbers behind zs → IfOk r (Finds (IsEntry name zs)) → IfOk r (Finds (HasText line))
line_is_read line text name behind zs r e s n h =
    let whole = text_of line text name behind e s in
    finds_same name line zs r (λ x i. subst (λ (l : List ℕ). HasText l x) (sym whole) (has_text name behind zs x n i)) (λ x t. is_entry name behind zs x s.lacks s.follows n (subst (λ (l : List ℕ). HasText l x) whole t)) h

-- ---- an entry by its text
pub same_parts : (x y : LogEntry) → Fits x → Fits y → entry_text x ≡ entry_text y → (name_of x.line ≡ name_of y.line) × (numbers_of x.line ++ x.words ++ x.values ≡ numbers_of y.line ++ y.words ++ y.values)
unfolding entry_text
same_parts x y f g e =
    let p = parts x (name_of y.line) (flat_map number_text (numbers_of y.line ++ y.words ++ y.values)) (name_lacks y.line) (follow (numbers_of y.line ++ y.words ++ y.values)) e in
    (p.0, same_numbers _ _ (shown_fit x f) (shown_fit y g) p.1)

abbrev first : List ℕ → ℕ
first [] = 0
first (b ∷ bs) = b

same_bit : (a b : Bool) → bit a ≡ bit b → a ≡ b
same_bit true true e = refl
same_bit false false e = refl
same_bit true false e = absurd (cc)
same_bit false true e = absurd (cc)

same_words : (a c : ℤ) (w v w' v' : List ℤ) → v ≡ [] → v' ≡ [] → a ∷ (w ++ v) ≡ c ∷ (w' ++ v') → w ≡ w'
same_words a c w v w' v' q q' e =
    let t : w ++ v ≡ w' ++ v' = cc in
    sym (append-nil w) ∙ ap (λ (x : List ℤ). w ++ x) (sym q) ∙ t ∙ ap (λ (x : List ℤ). w' ++ x) q' ∙ append-nil w'

same_values : (a c : ℤ) (w v w' v' : List ℤ) → w ≡ [] → w' ≡ [] → a ∷ (w ++ v) ≡ c ∷ (w' ++ v') → v ≡ v'
same_values a c w v w' v' p p' e =
    let t : w ++ v ≡ w' ++ v' = cc in
    ap (λ (x : List ℤ). x ++ v) (sym p) ∙ t ∙ ap (λ (x : List ℤ). x ++ v') p'

same_all : (l m : LogLine) (w v w' v' : List ℤ) → WordsOf l w → ValuesOf l v → WordsOf m w' → ValuesOf m v' → name_of l ≡ name_of m → numbers_of l ++ w ++ v ≡ numbers_of m ++ w' ++ v' → (l ≡ m) × (w ≡ w') × (v ≡ v')
same_all (line.Node a b) (line.Node c d) w v w' v' p q p' q' n e = (cc, p ∙ sym p', q ∙ sym q')
same_all (line.Rest a) (line.Rest c) w v w' v' p q p' q' n e = (cc, same_words a c w v w' v' q q' e, q ∙ sym q')
same_all (line.Wide a) (line.Wide c) w v w' v' p q p' q' n e = (cc, p ∙ sym p', q ∙ sym q')
same_all (line.Gone a) (line.Gone c) w v w' v' p q p' q' n e = (cc, p ∙ sym p', q ∙ sym q')
same_all (line.Hit a b c) (line.Hit a' b' c') w v w' v' p q p' q' n e = (cc, p ∙ sym p', q ∙ sym q')
same_all (line.Expand a b c d) (line.Expand a' b' c' d') w v w' v' p q p' q' n e =
    let up : d ≡ d' = same_bit d d' (cc) in
    (cc, p ∙ sym p', q ∙ sym q')
same_all (line.Solution a) (line.Solution c) w v w' v' p q p' q' n e = (cc, p ∙ sym p', same_values a c w v w' v' p p' e)
same_all (line.Leaf a b) (line.Leaf c d) w v w' v' p q p' q' n e = (cc, p ∙ sym p', q ∙ sym q')
same_all (line.Join a b) (line.Join c d) w v w' v' p q p' q' n e = (cc, p ∙ sym p', q ∙ sym q')
same_all (line.Publish a b) (line.Publish c d) w v w' v' p q p' q' n e = (cc, p ∙ sym p', q ∙ sym q')
same_all _ _ w v w' v' p q p' q' n e = absurd (omega (arith, ap first n))

abbrev entry_from : LogLine → List ℤ → List ℤ → LogEntry
entry_from l w v = record { line = l; words = w; values = v }

same_record : (l m : LogLine) (w w' v v' : List ℤ) → l ≡ m → w ≡ w' → v ≡ v' → entry_from l w v ≡ entry_from m w' v'
same_record l m w w' v v' e f g =
    ap (λ (k : LogLine). entry_from k w v) e ∙ ap (λ (ws : List ℤ). entry_from m ws v) f ∙ ap (λ (vs : List ℤ). entry_from m w' vs) g

pub same_entry : (x y : LogEntry) → Fits x → Fits y → entry_text x ≡ entry_text y → x ≡ y
same_entry x y f g e =
    let p = same_parts x y f g e in
    let s = same_all x.line y.line x.words x.values y.words y.values f.words f.values g.words g.values p.0 p.1 in
    same_record x.line y.line x.words y.words x.values y.values s.0 s.1 s.2
