-- What clap makes of the words for the program's command.
use Rattle.std.proofs.Common.{◌≡◌, ℕ, Bool, true, false, List, [], ◌∷◌, length, refl, arith, sym, ◌∙◌, ap, subst, inl, inr}
use Rattle.std.specs.Prelude.{Option, Some, None, if◌then◌else◌, not, ◌&&◌, ◌||◌, is_some, option_map, IfSome, codes}
use Rattle.std.specs.Borrow.{Bor}
use Rattle.clap.specs.Words.{App, Row, Text, Kinds, HasKind, IsAmong, kind_of, matches_of, is_simple, is_simple_and_free, fault_of}
use Rattle.clap.specs.Words.{first_of, rows_of}
use Rattle.clap.specs.Matches.{first_value}
use Rattle.clap.specs.Walk.{is_empty}
use Rattle.clap.specs.declared.parser.matches.Found.{Found}
use Rattle.clap.proofs.WalkLemmas.{first_value-rows}
use Rattle.clap.specs.declared.error.Error.{Error}
use Rattle.clap.specs.declared.error.kind.ErrorKind.TheVariants as kind
use Rattle.clap.proofs.OnLiterals.{clap_on_literals}
use Rattle.command_line.specs.declared.line.Line.{Line}
use Rattle.command_line.specs.Asked.{Asked}
use Rattle.incumbent_board.specs.declared.options.Options.{Options}
use Rattle.command_line.specs.Lines.{command, asked_if_good, line, is_number_or_none, number_or, options_of, is_in_limits, are_options_good, is_set, is_good, asked, asked_of, made_of, number_with_text}

-- the first value of an argument, in the rows of the matches
pub given_in_rows : (f : Found) (id : Text) → first_value f id ≡ first_of id (rows_of f)
given_in_rows f id = first_value-rows f id

simple : is_simple command ≡ true
unfolding clap_on_literals
simple = refl

free : is_simple_and_free command ≡ true
unfolding clap_on_literals
free = refl

-- words that clap takes
pub line_taken : (a : App) (words : List Text) (rows : List Row) → a ≡ command → (is_simple_and_free a ≡ true → fault_of a words ≡ []) → (is_simple a ≡ true → rows ≡ matches_of a words) → asked_if_good rows ≡ line words
unfolding line
line_taken a words rows e taken found =
    let none : fault_of command words ≡ [] = sym (ap (λ x. fault_of x words) e) ∙ taken (ap is_simple_and_free e ∙ free) in
    let are : rows ≡ matches_of command words = found (ap is_simple e ∙ simple) ∙ ap (λ x. matches_of x words) e in
    rw (none, are) refl

no_kind : (k : Kinds) (e : Error) → HasKind k e → (kind_of e ≡ kind.OutOfMemory → ⊥) → is_empty k ≡ false
no_kind [] e (inl h) never = absurd (never h)
no_kind [] e (inr h) never = absurd h
no_kind (x ∷ xs) e h never = grind arith

-- words that clap refuses
pub line_refused : (a : App) (words : List Text) (e : Error) → a ≡ command → (is_simple_and_free a ≡ true → HasKind (fault_of a words) e) → (kind_of e ≡ kind.OutOfMemory → ⊥) → None ≡ line words
unfolding line
line_refused a words e is fails never =
    let some : is_empty (fault_of command words) ≡ false = sym (ap (λ x. is_empty (fault_of x words)) is) ∙ no_kind (fault_of a words) e (fails (ap is_simple_and_free is ∙ free)) never in
    rw some refl

-- a number of the words, where there is one
some_if : {X : Type 0} (b : Bool) (x v : X) → Some x ≡ (if b then Some v else None) → (b ≡ true) × (x ≡ v)
some_if true x v h = (refl, cc)
some_if false x v h = absurd (cc)

-- the options, from their numbers
pub options_good : (rows : List Row) (w c k n : ℕ) (o : Option Options) → Some w ≡ (if is_number_or_none (codes "workers") rows then Some (number_or (codes "workers") 1 rows) else None) → Some c ≡ (if is_number_or_none (codes "cache") rows then Some (number_or (codes "cache") 65536 rows) else None) → Some k ≡ (if is_number_or_none (codes "key-words") rows then Some (number_or (codes "key-words") 512 rows) else None) → Some n ≡ (if is_number_or_none (codes "nodes") rows then Some (number_or (codes "nodes") 1000000000 rows) else None) → o ≡ (if is_in_limits (record { workers = w; ways = c; key_words = k; nodes = n }) then Some (record { workers = w; ways = c; key_words = k; nodes = n }) else None) → o ≡ (if are_options_good rows then Some (options_of rows) else None)
unfolding are_options_good
options_good rows w c k n o hw hc hk hn h =
    let (tw, ew) = some_if _ w _ hw in
    let (tc, ec) = some_if _ c _ hc in
    let (tk, ek) = some_if _ k _ hk in
    let (tn, en) = some_if _ n _ hn in
    rw (tw, tc, tk, tn, ← ew, ← ec, ← ek, ← en) h

-- whether there is one, behind references
made_some : (make : Option (Bor (List ℕ) × ℕ)) (t : Option Text) → made_of make ≡ number_with_text t → is_some t ≡ is_some make
made_some None None h = refl
made_some None (Some t) h = absurd (cc)
made_some (Some m) None h = absurd (cc)
made_some (Some m) (Some t) h = refl

text_some : (file : Option (Bor (List ℕ))) (t : Option Text) → option_map (λ f. f.now) file ≡ t → is_some t ≡ is_some file
text_some None t h = rw (← h) refl
text_some (Some f) t h = rw (← h) refl

neither : (a b c : Bool) → (a || (b && c)) ≡ false → (not a && not (b && c)) ≡ true
neither true b c h = absurd (cc)
neither false true true h = absurd (cc)
neither false true false h = refl
neither false false c h = refl

same : {o p : Options} {s t : Bool} {m n : Option (Text × ℕ)} {f g : Option Text} → o ≡ p → s ≡ t → m ≡ n → f ≡ g → (λ (x : Asked). x) (record { options = o; stats = s; make = m; file = f }) ≡ record { options = p; stats = t; make = n; file = g }
same eo es em ef = rw (eo, es, em, ef) refl

-- what was given, from its parts
pub line_good : (rows : List Row) (options : Options) (make : Option (Bor (List ℕ) × ℕ)) (file : Option (Bor (List ℕ))) (log stats : Bool) → Some options ≡ (if are_options_good rows then Some (options_of rows) else None) → is_number_or_none (codes "make") rows ≡ true → made_of make ≡ number_with_text (first_of (codes "make") rows) → option_map (λ f. f.now) file ≡ first_of (codes "FILE") rows → log ≡ is_set (codes "log") rows → stats ≡ is_set (codes "stats") rows → (log || (is_some make && is_some file)) ≡ false → Some (asked_of (record { options = options; stats = stats; make = make; file = file })) ≡ asked_if_good rows
line_good rows options make file log stats ho hm em ef el es h =
    let (good, eo) = some_if _ options _ ho in
    let free_to : (not (is_set (codes "log") rows) && not (is_some (first_of (codes "make") rows) && is_some (first_of (codes "FILE") rows))) ≡ true = rw (made_some make _ em, text_some file _ ef, ← el) (neither log (is_some make) (is_some file) h) in
    rw (good, hm, free_to) (ap Some (same eo es em ef))

-- ---- limits

last : (a b : Bool) → (a && b) ≡ true → b ≡ true
last true b h = h
last false b h = absurd (cc)

first : (a b : Bool) → (a && b) ≡ true → a ≡ true
first true b h = refl
first false b h = absurd (cc)

good_limits : (rows : List Row) → are_options_good rows ≡ true → is_in_limits (options_of rows) ≡ true
unfolding are_options_good
good_limits rows h =
    let cache = last (is_number_or_none (codes "workers") rows) _ h in
    let key_words = last (is_number_or_none (codes "cache") rows) _ cache in
    let nodes = last (is_number_or_none (codes "key-words") rows) _ key_words in
    last (is_number_or_none (codes "nodes") rows) _ nodes

limits_if : (rows : List Row) (a : Asked) → Some a ≡ asked_if_good rows → is_in_limits a.options ≡ true
limits_if rows a h =
    let (good, is) = some_if (is_good rows) a (asked rows) h in
    ap (λ (x : Asked). is_in_limits x.options) is ∙ good_limits rows (first (are_options_good rows) _ good)

limits_of : (b : Bool) (rows : List Row) (a : Asked) → Some a ≡ (if b then asked_if_good rows else None) → is_in_limits a.options ≡ true
limits_of true rows a h = limits_if rows a h
limits_of false rows a h = absurd (cc)

-- good words keep the limits
pub within : (found : Option Line) (words : List Text) → option_map asked_of found ≡ line words → IfSome found (λ l. is_in_limits l.options ≡ true)
unfolding line
within None words h = tt
within (Some l) words h = limits_of (is_empty (fault_of command words)) (matches_of command words) (asked_of l) h
