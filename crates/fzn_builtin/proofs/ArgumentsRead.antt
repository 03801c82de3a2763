-- What the rows of the table need is what their shapes read: arguments that fit the needs of a row are those that its shape reads.
use Rattle.std.proofs.Common.{◌≡◌, ℕ, zero, suc, ◌<◌, ◌≤◌, ltb, leb, Bool, true, false, ◌&&◌, Some, List, [], ◌∷◌, length, map, get_or, refl, arith, All}
use Rattle.std.proofs.lemmas.Bool.{ltb-true, leb-true}
use Rattle.std.specs.List.{list_all, position}
use Rattle.std.specs.Str.{bytes_eq}
use Rattle.std.proofs.lemmas.List.Quantifiers.{position-Some}
use Rattle.std.proofs.lemmas.Option.{none-some}
use Rattle.fzn_builtin.specs.declared.needs.Need.{Need}
use Rattle.fzn_builtin.specs.declared.needs.Need.TheVariants as need
use Rattle.fzn_builtin.specs.declared.arg.Arg.{Arg}
use Rattle.fzn_builtin.specs.declared.arg.Arg.TheVariants as arg
use Rattle.fzn_builtin.specs.declared.shape.Relation.{Relation}
use Rattle.fzn_builtin.specs.declared.shape.Relation.TheVariants as relation
use Rattle.fzn_builtin.specs.declared.shape.Shape.{Shape}
use Rattle.fzn_builtin.specs.declared.shape.Shape.TheVariants as shape
use Rattle.fzn_builtin.specs.declared.table.TheConstants.{TABLE, ROWS}
use Rattle.fzn_builtin.specs.Arguments.{FitsNeed, Fits, arg_at, IsConst, terms_at, terms_of, term_at, term_of}
use Rattle.fzn_builtin.specs.Reading.{ArgumentsAreRead, IsTerm, IsBoolArg, IsTerms, AreBoolArgs, IsSet, HasTerm, IsBoolAt, HasTruth, HasTerms, AreBoolsAt, HasTruths, HasSet, HasThreeTerms, HasThreeTruths, HasRelationArguments, HasArguments}
use Rattle.fzn_builtin.specs.Builtins.{needs_of, least_of, shape_of, IsArgumentCount}
use Rattle.fzn_builtin.specs.Constraints.{count}

-- tests of a need: which kind of argument it takes
abbrev is_term : Need → Bool
is_term need.IntConst = true
is_term need.IntTerm = true
is_term need.BoolTerm = true
is_term n = false

abbrev is_truth : Need → Bool
is_truth need.BoolTerm = true
is_truth n = false

abbrev is_terms : Need → Bool
is_terms need.IntConsts = true
is_terms need.IntTerms = true
is_terms need.BoolConsts = true
is_terms need.BoolTerms = true
is_terms n = false

abbrev is_truths : Need → Bool
is_truths need.BoolConsts = true
is_truths need.BoolTerms = true
is_truths n = false

abbrev is_set : Need → Bool
is_set need.SetConst = true
is_set n = false

abbrev is_const : Need → Bool
is_const need.IntConst = true
is_const n = false

abbrev is_consts : Need → Bool
is_consts need.IntConsts = true
is_consts n = false

term_fits : (n : Need) (a : Arg) → FitsNeed n a → is_term n ≡ true → IsTerm a
unfolding FitsNeed
term_fits need.IntConst (arg.Int t) f e = tt
term_fits n a f e = grind arith

truth_fits : (n : Need) (a : Arg) → FitsNeed n a → is_truth n ≡ true → IsBoolArg a
unfolding FitsNeed
truth_fits need.BoolTerm (arg.Bool t) f e = tt
truth_fits n a f e = grind arith

terms_fit : (n : Need) (a : Arg) → FitsNeed n a → is_terms n ≡ true → IsTerms a
unfolding FitsNeed
terms_fit need.IntConsts (arg.Ints ts) f e = tt
terms_fit n a f e = grind arith

truths_fit : (n : Need) (a : Arg) → FitsNeed n a → is_truths n ≡ true → AreBoolArgs a
unfolding FitsNeed
truths_fit need.BoolConsts (arg.Bools ts) f e = tt
truths_fit n a f e = grind arith

set_fits : (n : Need) (a : Arg) → FitsNeed n a → is_set n ≡ true → IsSet a
unfolding FitsNeed
set_fits need.SetConst (arg.Set s) f e = tt
set_fits n a f e = grind arith

const_fits : (n : Need) (a : Arg) → FitsNeed n a → is_const n ≡ true → IsConst (term_of a)
unfolding FitsNeed
const_fits need.IntConst (arg.Int t) f e = f
const_fits n a f e = grind arith

consts_fit : (n : Need) (a : Arg) → FitsNeed n a → is_consts n ≡ true → All IsConst (terms_of a)
unfolding FitsNeed
consts_fit need.IntConsts (arg.Ints ts) f e = f
consts_fit n a f e = grind arith

-- the need in a place passes
abbrev at : (Need → Bool) → List Need → ℕ → Bool
at p [] k = false
at p (n ∷ ns) zero = p n
at p (n ∷ ns) (suc k) = at p ns k

-- of m arguments or more there is one in the place, and its need passes
abbrev asks : (Need → Bool) → ℕ → List Need → ℕ → Bool
asks p m ns k = ltb k m && at p ns k

-- there are m arguments or more, each of which fits its need
record Given (m : ℕ) (ns : List Need) (args : List Arg) : Type 0 where
  fits : Fits ns args
  enough : m ≤ length args

fits_at : (P : Arg → Type 0) (p : Need → Bool) → ((n : Need) (a : Arg) → FitsNeed n a → p n ≡ true → P a) → (ns : List Need) (args : List Arg) (k : ℕ) → Fits ns args → k < length args → at p ns k ≡ true → P (arg_at args k)
fits_at P p step ns [] k f h e = absurd (omega arith)
fits_at P p step [] (a ∷ args) k f h e = absurd f
fits_at P p step (n ∷ ns) (a ∷ args) zero f h e = step n a f.0 e
fits_at P p step (n ∷ ns) (a ∷ args) (suc k) f h e = fits_at P p step ns args k f.1 (omega arith) e

two : (a b : Bool) → (a && b) ≡ true → (a ≡ true) × (b ≡ true)
two true b e = (refl, e)
two false b e = cc

below_all : (k m n : ℕ) → ltb k m ≡ true → m ≤ n → k < n
below_all k m n e h = omega (arith, ltb-true k m e)

has : (P : Arg → Type 0) (p : Need → Bool) → ((n : Need) (a : Arg) → FitsNeed n a → p n ≡ true → P a) → (m : ℕ) (ns : List Need) (args : List Arg) (k : ℕ) → Given m ns args → asks p m ns k ≡ true → (k < length args) × P (arg_at args k)
has P p step m ns args k g e =
    let both = two (ltb k m) (at p ns k) e in
    let within : k < length args = below_all k m (length args) both.0 g.enough in
    (within, fits_at P p step ns args k g.fits within both.1)

has_term : (m : ℕ) (ns : List Need) (args : List Arg) (k : ℕ) → Given m ns args → asks is_term m ns k ≡ true → HasTerm args k
unfolding HasTerm
has_term m ns args k g e = has IsTerm is_term term_fits m ns args k g e

bool_term : (a : Arg) → IsBoolArg a → IsTerm a
bool_term (arg.Bool t) h = tt
bool_term a h = absurd h

bool_terms : (a : Arg) → AreBoolArgs a → IsTerms a
bool_terms (arg.Bools ts) h = tt
bool_terms a h = absurd h

has_truth : (m : ℕ) (ns : List Need) (args : List Arg) (k : ℕ) → Given m ns args → asks is_truth m ns k ≡ true → HasTruth args k
unfolding HasTerm IsBoolAt
has_truth m ns args k g e = let h = has IsBoolArg is_truth truth_fits m ns args k g e in ((h.0, bool_term (arg_at args k) h.1), h.1)

-- where there may be fewer arguments, but are enough
has_more : (m : ℕ) (ns : List Need) (args : List Arg) (k : ℕ) → Given m ns args → k < length args → at is_truth ns k ≡ true → HasTruth args k
unfolding HasTerm IsBoolAt
has_more m ns args k g h e = let b = fits_at IsBoolArg is_truth truth_fits ns args k g.fits h e in ((h, bool_term (arg_at args k) b), b)

has_terms : (m : ℕ) (ns : List Need) (args : List Arg) (k : ℕ) → Given m ns args → asks is_terms m ns k ≡ true → HasTerms args k
unfolding HasTerms
has_terms m ns args k g e = has IsTerms is_terms terms_fit m ns args k g e

has_truths : (m : ℕ) (ns : List Need) (args : List Arg) (k : ℕ) → Given m ns args → asks is_truths m ns k ≡ true → HasTruths args k
unfolding HasTerms AreBoolsAt
has_truths m ns args k g e = let h = has AreBoolArgs is_truths truths_fit m ns args k g e in ((h.0, bool_terms (arg_at args k) h.1), h.1)

has_set : (m : ℕ) (ns : List Need) (args : List Arg) (k : ℕ) → Given m ns args → asks is_set m ns k ≡ true → HasSet args k
unfolding HasSet
has_set m ns args k g e = has IsSet is_set set_fits m ns args k g e

has_const : (m : ℕ) (ns : List Need) (args : List Arg) (k : ℕ) → Given m ns args → asks is_const m ns k ≡ true → IsConst (term_at args k)
unfolding term_at
has_const m ns args k g e = (has (λ a. IsConst (term_of a)) is_const const_fits m ns args k g e).1

has_consts : (m : ℕ) (ns : List Need) (args : List Arg) (k : ℕ) → Given m ns args → asks is_consts m ns k ≡ true → All IsConst (terms_at args k)
unfolding terms_at
has_consts m ns args k g e = (has (λ a. All IsConst (terms_of a)) is_consts consts_fit m ns args k g e).1

-- the needs are those that a relation, or a constraint, reads
abbrev asks_relation : Relation → ℕ → List Need → Bool
asks_relation (relation.Difference rel) m ns = asks is_term m ns 0 && asks is_term m ns 1
asks_relation relation.Below m ns = asks is_term m ns 0 && asks is_term m ns 1
asks_relation (relation.Sum rel) m ns = (asks is_terms m ns 0 && asks is_consts m ns 0) && (asks is_terms m ns 1 && (asks is_term m ns 2 && asks is_const m ns 2))
asks_relation relation.Disjunction m ns = asks is_truths m ns 0 && asks is_truths m ns 1
asks_relation relation.InSet m ns = asks is_term m ns 0 && asks is_set m ns 1

abbrev asks_terms : ℕ → List Need → Bool
asks_terms m ns = asks is_term m ns 0 && (asks is_term m ns 1 && asks is_term m ns 2)

abbrev asks_truths : ℕ → List Need → Bool
asks_truths m ns = asks is_truth m ns 0 && (asks is_truth m ns 1 && asks is_truth m ns 2)

abbrev asks_shape : Shape → ℕ → List Need → Bool
asks_shape (shape.Posted r) m ns = asks_relation r m ns
asks_shape (shape.Reified r) m ns = asks_relation r m ns && asks is_truth m ns (count r)
asks_shape shape.Xor m ns = asks is_truth m ns 0 && (asks is_truth m ns 1 && (at is_truth ns 2 && leb 2 m))
asks_shape shape.BothTrue m ns = asks_truths m ns
asks_shape shape.EitherTrue m ns = asks_truths m ns
asks_shape shape.AllTrue m ns = asks is_truths m ns 0 && asks is_truth m ns 1
asks_shape shape.AnyTrue m ns = asks is_truths m ns 0 && asks is_truth m ns 1
asks_shape shape.Absolute m ns = asks is_term m ns 0 && asks is_term m ns 1
asks_shape shape.Largest m ns = asks is_term m ns 0 && asks is_terms m ns 1
asks_shape shape.Smallest m ns = asks is_term m ns 0 && asks is_terms m ns 1
asks_shape shape.Element m ns = asks is_term m ns 0 && (asks is_terms m ns 1 && asks is_term m ns 2)
asks_shape shape.Different m ns = asks is_terms m ns 0
asks_shape shape.Cumulative m ns = asks is_terms m ns 0 && (asks is_terms m ns 1 && (asks is_terms m ns 2 && asks is_term m ns 3))
asks_shape shape.Rows m ns = asks is_terms m ns 0 && (asks is_terms m ns 1 && asks is_consts m ns 1)
asks_shape s m ns = asks_terms m ns

has_relation_arguments : (r : Relation) (m : ℕ) (ns : List Need) (args : List Arg) → Given m ns args → asks_relation r m ns ≡ true → HasRelationArguments r args
has_relation_arguments (relation.Difference rel) m ns args g e =
    let s = two _ _ e in (has_term m ns args 0 g s.0, has_term m ns args 1 g s.1)
has_relation_arguments relation.Below m ns args g e =
    let s = two _ _ e in (has_term m ns args 0 g s.0, has_term m ns args 1 g s.1)
has_relation_arguments (relation.Sum rel) m ns args g e =
    let s = two _ _ e in
    let factors = two _ _ s.0 in
    let more = two _ _ s.1 in
    let constant = two _ _ more.1 in
    (has_terms m ns args 0 g factors.0, has_consts m ns args 0 g factors.1, has_terms m ns args 1 g more.0, has_term m ns args 2 g constant.0, has_const m ns args 2 g constant.1)
has_relation_arguments relation.Disjunction m ns args g e =
    let s = two _ _ e in (has_truths m ns args 0 g s.0, has_truths m ns args 1 g s.1)
has_relation_arguments relation.InSet m ns args g e =
    let s = two _ _ e in (has_term m ns args 0 g s.0, has_set m ns args 1 g s.1)

has_three_terms : (m : ℕ) (ns : List Need) (args : List Arg) → Given m ns args → asks_terms m ns ≡ true → HasThreeTerms args
has_three_terms m ns args g e =
    let s = two _ _ e in
    let more = two _ _ s.1 in
    (has_term m ns args 0 g s.0, has_term m ns args 1 g more.0, has_term m ns args 2 g more.1)

has_three_truths : (m : ℕ) (ns : List Need) (args : List Arg) → Given m ns args → asks_truths m ns ≡ true → HasThreeTruths args
has_three_truths m ns args g e =
    let s = two _ _ e in
    let more = two _ _ s.1 in
    (has_truth m ns args 0 g s.0, has_truth m ns args 1 g more.0, has_truth m ns args 2 g more.1)

has_shape_arguments : (s : Shape) (m : ℕ) (ns : List Need) (args : List Arg) → Given m ns args → asks_shape s m ns ≡ true → HasArguments s args
has_shape_arguments (shape.Posted r) m ns args g e = has_relation_arguments r m ns args g e
has_shape_arguments (shape.Reified r) m ns args g e =
    let s = two _ _ e in (has_relation_arguments r m ns args g s.0, has_truth m ns args (count r) g s.1)
has_shape_arguments shape.Xor m ns args g e =
    let s = two _ _ e in
    let more = two _ _ s.1 in
    let third = two _ _ more.1 in
    let least : 2 ≤ m = leb-true 2 m third.1 in
    (has_truth m ns args 0 g s.0, has_truth m ns args 1 g more.0, λ (other : length args ≡ 2 → ⊥). has_more m ns args 2 g (omega (arith, g.enough, other)) third.0)
has_shape_arguments shape.BothTrue m ns args g e = has_three_truths m ns args g e
has_shape_arguments shape.EitherTrue m ns args g e = has_three_truths m ns args g e
has_shape_arguments shape.AllTrue m ns args g e =
    let s = two _ _ e in (has_truths m ns args 0 g s.0, has_truth m ns args 1 g s.1)
has_shape_arguments shape.AnyTrue m ns args g e =
    let s = two _ _ e in (has_truths m ns args 0 g s.0, has_truth m ns args 1 g s.1)
has_shape_arguments shape.Absolute m ns args g e =
    let s = two _ _ e in (has_term m ns args 0 g s.0, has_term m ns args 1 g s.1)
has_shape_arguments shape.Largest m ns args g e =
    let s = two _ _ e in (has_term m ns args 0 g s.0, has_terms m ns args 1 g s.1)
has_shape_arguments shape.Smallest m ns args g e =
    let s = two _ _ e in (has_term m ns args 0 g s.0, has_terms m ns args 1 g s.1)
has_shape_arguments shape.Element m ns args g e =
    let s = two _ _ e in
    let more = two _ _ s.1 in
    (has_term m ns args 0 g s.0, has_terms m ns args 1 g more.0, has_term m ns args 2 g more.1)
has_shape_arguments shape.Different m ns args g e = has_terms m ns args 0 g e
has_shape_arguments shape.Cumulative m ns args g e =
    let s = two _ _ e in
    let more = two _ _ s.1 in
    let last = two _ _ more.1 in
    (has_terms m ns args 0 g s.0, has_terms m ns args 1 g more.0, has_terms m ns args 2 g last.0, has_term m ns args 3 g last.1)
has_shape_arguments shape.Rows m ns args g e =
    let s = two _ _ e in
    let more = two _ _ s.1 in
    (has_terms m ns args 0 g s.0, has_terms m ns args 1 g more.0, has_consts m ns args 1 g more.1)
has_shape_arguments s m ns args g e = has_three_terms m ns args g e

-- a test that all rows pass is passed by the row of a number
row_asks : {R : Type 0} (shape_in : R → Shape) (least_in : R → ℕ) (needs_in : R → List Need) (rows : List R) (s : Shape) (b : ℕ) → list_all (λ row. asks_shape (shape_in row) (least_in row) (needs_in row)) rows ≡ true → b < length rows → asks_shape (get_or (map shape_in rows) b s) (get_or (map least_in rows) b 0) (get_or (map needs_in rows) b []) ≡ true
row_asks shape_in least_in needs_in [] s b e h = absurd (omega arith)
row_asks shape_in least_in needs_in (row ∷ rows) s zero e h = (two _ _ e).0
row_asks shape_in least_in needs_in (row ∷ rows) s (suc b) e h = row_asks shape_in least_in needs_in rows s b (two _ _ e).1 (omega arith)

pub has_arguments : (b : ℕ) (args : List Arg) → b < ROWS → Fits (needs_of b) args → IsArgumentCount b (length args) → HasArguments (shape_of b) args
unfolding needs_of least_of shape_of
has_arguments b args h f w =
    has_shape_arguments (shape_of b) (least_of b) (needs_of b) args (record { fits = f; enough = w.0 }) (row_asks (λ row. row.3) (λ row. row.2) (λ row. row.1.now) TABLE shape.Xor b refl h)

position_below : {X : Type 0} (p : X → Bool) (xs : List X) (i : ℕ) → position p xs ≡ Some i → i < length xs
position_below p [] i e = absurd (none-some i e)
position_below p (x ∷ xs) i e = (position-Some p (x ∷ xs) i x e).0

pub arguments_are_read : ArgumentsAreRead
arguments_are_read = record { row = λ name. position_below (λ row. bytes_eq row.0.now name) TABLE; read = has_arguments }
