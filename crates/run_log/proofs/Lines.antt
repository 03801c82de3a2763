-- The pieces of a line, put one after another.
use Rattle.std.proofs.Common.{◌≡◌, ℕ, List, ◌++◌, sym, subst, append_assoc, ℤ}
use Rattle.std.specs.Prelude.{Ok, Err, Result, IsErr, codes}
use Rattle.std.specs.List.{flat_map}
use Rattle.std.proofs.lemmas.List.Concat.{flat_map-append}
use Rattle.cs_base.specs.declared.failed.Failed.{Failed}
use Rattle.run_log.specs.Buffers.{Flow, Buffered}
use Rattle.run_log.specs.Texts.{Line, entry_of, entry_text, ended, name_of, number_text, numbers_of, shown_words}
use Rattle.run_log.proofs.Buffering.{buffered_then, buffered_front, buffered_part}

-- a line up to its name, its numbers, its words and its values
abbrev pub to_name : Line → List ℕ
to_name l = codes "%log " ++ name_of l.line

abbrev pub to_numbers : Line → List ℕ
to_numbers l = to_name l ++ flat_map number_text (numbers_of l.line)

abbrev pub to_words : Line → List ℕ
to_words l = to_numbers l ++ flat_map number_text (shown_words l.rest)

abbrev pub to_values : Line → List ℕ
to_values l = to_words l ++ flat_map number_text l.values

pieces : (f : ℤ → List ℕ) (p n z : List ℕ) (xs ys zs : List ℤ) → (p ++ n ++ flat_map f (xs ++ ys ++ zs)) ++ z ≡ ((((p ++ n) ++ flat_map f xs) ++ flat_map f ys) ++ flat_map f zs) ++ z
pieces f p n z xs ys zs = simp (flat_map-append, append_assoc)

line_pieces : (l : Line) → ended (entry_text (entry_of l)) ≡ to_values l ++ codes "\n"
unfolding entry_text
line_pieces l = pieces number_text (codes "%log ") (name_of l.line) (codes "\n") (numbers_of l.line) (shown_words l.rest) l.values

-- each piece behind those before it, as far as the result says
pub name_put : (a b c : Flow) (l : Line) (r : Result (Unit {0}) Failed) → Buffered a b (codes "%log ") (Ok tt) → Buffered b c (name_of l.line) r → Buffered a c (to_name l) r
name_put a b c l r p q = buffered_then a b c (codes "%log ") (name_of l.line) r p q

pub numbers_put : (a b c : Flow) (l : Line) (r : Result (Unit {0}) Failed) → Buffered a b (to_name l) (Ok tt) → Buffered b c (flat_map number_text (numbers_of l.line)) r → Buffered a c (to_numbers l) r
numbers_put a b c l r p q = buffered_then a b c (to_name l) (flat_map number_text (numbers_of l.line)) r p q

pub words_put : (a b c : Flow) (l : Line) (r : Result (Unit {0}) Failed) → Buffered a b (to_numbers l) (Ok tt) → Buffered b c (flat_map number_text (shown_words l.rest)) r → Buffered a c (to_words l) r
words_put a b c l r p q = buffered_then a b c (to_numbers l) (flat_map number_text (shown_words l.rest)) r p q

pub values_put : (a b c : Flow) (l : Line) (r : Result (Unit {0}) Failed) → Buffered a b (to_words l) (Ok tt) → Buffered b c (flat_map number_text l.values) r → Buffered a c (to_values l) r
values_put a b c l r p q = buffered_then a b c (to_words l) (flat_map number_text l.values) r p q

pub end_put : (a b c : Flow) (l : Line) (r : Result (Unit {0}) Failed) → Buffered a b (to_values l) (Ok tt) → Buffered b c (codes "\n") r → Buffered a c (ended (entry_text (entry_of l))) r
end_put a b c l r p q = subst (λ (t : List ℕ). Buffered a c t r) (sym (line_pieces l)) (buffered_then a b c (to_values l) (codes "\n") r p q)

-- a part of the pieces up to one of them
pub values_fault : (a b : Flow) (l : Line) (e : Failed) (r : Result (Unit {0}) Failed) → IsErr r → Buffered a b (to_values l) (Err e) → Buffered a b (ended (entry_text (entry_of l))) r
values_fault a b l e r some p = subst (λ (t : List ℕ). Buffered a b t r) (sym (line_pieces l)) (buffered_front a b (to_values l) (codes "\n") e r some p)

pub words_fault : (a b : Flow) (l : Line) (e : Failed) (r : Result (Unit {0}) Failed) → IsErr r → Buffered a b (to_words l) (Err e) → Buffered a b (ended (entry_text (entry_of l))) r
words_fault a b l e r some p = values_fault a b l e r some (buffered_part a b (to_words l) (flat_map number_text l.values) e p)

pub numbers_fault : (a b : Flow) (l : Line) (e : Failed) (r : Result (Unit {0}) Failed) → IsErr r → Buffered a b (to_numbers l) (Err e) → Buffered a b (ended (entry_text (entry_of l))) r
numbers_fault a b l e r some p = words_fault a b l e r some (buffered_part a b (to_numbers l) (flat_map number_text (shown_words l.rest)) e p)

pub name_fault : (a b : Flow) (l : Line) (e : Failed) (r : Result (Unit {0}) Failed) → IsErr r → Buffered a b (to_name l) (Err e) → Buffered a b (ended (entry_text (entry_of l))) r
name_fault a b l e r some p = numbers_fault a b l e r some (buffered_part a b (to_name l) (flat_map number_text (numbers_of l.line)) e p)

pub front_fault : (a b : Flow) (l : Line) (e : Failed) (r : Result (Unit {0}) Failed) → IsErr r → Buffered a b (codes "%log ") (Err e) → Buffered a b (ended (entry_text (entry_of l))) r
front_fault a b l e r some p = name_fault a b l e r some (buffered_part a b (codes "%log ") (name_of l.line) e p)
