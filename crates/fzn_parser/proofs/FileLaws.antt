-- A whole file: what is accepted is spelled by the grammar, and a refusal is fair.
use Rattle.std.proofs.Common.{◌≡◌, ℕ, List, [], ◌∷◌, ◌++◌, Bool, true, false, cond, ◌&&◌, not, Option, Some, None, Result, Ok, Err, length, refl, sym, ap, subst, ◌∙◌, inl, inr, codes, nat_lt, arith, IfOk, IfErr}
use Rattle.std.proofs.lemmas.Bool.Decides.{nat_tests}
use Rattle.std.proofs.lemmas.List.{append-nil}
use Rattle.fzn_lexer.specs.Spots.{Spot, first, after_first, whole_by, IsWhole}
use Rattle.fzn_lexer.specs.Passes.{spots_of}
use Rattle.fzn_lexer.specs.declared.seen.Seen.{Seen}
use Rattle.fzn_lexer.specs.declared.seen.Seen.TheVariants.{Known, End, Bad}
use Rattle.fzn_lexer.specs.declared.kind.Kind.TheVariants as kind
use Rattle.fzn_lexer.proofs.Whole.{whole}
use Rattle.fzn_model.specs.declared.goal.Goal.{Goal}
use Rattle.fzn_model.specs.Parts.{Parts}
use Rattle.fzn_reader.specs.declared.code.Code.TheVariants as code
use Rattle.fzn_reader.specs.declared.refused.Refused.{Refused}
use Rattle.fzn_reader.specs.declared.parse_fault.ParseFault.{ParseFault}
use Rattle.fzn_reader.specs.declared.parse_fault.ParseFault.TheVariants as fault
use Rattle.fzn_reader.specs.Refusals.{◌>>=◌, refusal, is_mark, is_word, is_spelled, most}
use Rattle.fzn_reader.specs.Answers.{Gives}
use Rattle.fzn_reader.specs.Drafts.{Stated, nothing}
use Rattle.fzn_reader.specs.Annotations.{passing}
use Rattle.fzn_reader.specs.Reading.{token_by, token_at, ends_item, predicate_at, item_at, one_item, is_end, is_end_by, items_at, model_by, reads, too_long}
use Rattle.fzn_parser.specs.Grammar.{◌·◌, Mark, Keyword, Token, is_token, Predicate, Item, File}
use Rattle.fzn_parser.specs.Laws.{Shows, Reads, IsSpelled, Begins, IsFair, IsFairFault}
use Rattle.fzn_parser.proofs.Samples.{Sample, spot_of, token_sample, seq, mark_sample, no_more}
use Rattle.fzn_parser.proofs.Lawful.{IsLawful, after, here, is_ok, refused, onward, next, finish, widen, choice, took, both, TakesTokens, mark_law, name_law, repeat_law, repeat_ends}
use Rattle.fzn_parser.proofs.DeclLaws.{took_word, parameter_law, variable_law}
use Rattle.fzn_parser.proofs.ArrayLaws.{array_law}
use Rattle.fzn_parser.proofs.CallLaws.{constraint_law, solve_law}

abbrev pub inside : Spot → Bool
inside s = is_token s.seen && not (is_spelled kind.Mark (codes ";") s)

pub takes_inside : TakesTokens inside
takes_inside s h = (both _ _ h).0

pub passes : (a b : Bool) → a ≡ true → b ≡ false → (a && not b) ≡ true
passes a b p q = rw (p, q) refl

inside_sample : Sample (Token inside)
inside_sample = token_sample (spot_of kind.Word (codes "a")) refl

token_by_law : (k : Seen) (ts : List Spot) → IsWhole ts → (first ts).seen ≡ k → is_mark (codes ";") ts ≡ false → IsLawful (Token inside) here ts (token_by k ts)
token_by_law (Known k) ts w e h = is_ok _ (took inside takes_inside ts w (passes _ _ (ap is_token e) h))
token_by_law End ts w e h = refused code.Syntax ts w refl inside_sample
token_by_law Bad ts w e h = refused code.Syntax ts w refl inside_sample

token_law : (u : Unit {0}) (ts : List Spot) → IsWhole ts → ends_item u ts ≡ false → IsLawful (Token inside) after ts (passing token_at u ts)
token_law u ts w h = finish (λ rest. (tt, rest)) (token_by_law (first ts).seen ts w refl h) (λ x. refl)

-- from its "predicate" on
predicate_law : (ts : List Spot) → Reads (Keyword (codes "predicate")) ts (after_first ts) → IsLawful Predicate after ts (predicate_at ts)
unfolding predicate_at Predicate
predicate_law ts r = onward r (next (name_law (after_first ts) r.whole) (seq (mark_sample (codes "(")) no_more) (λ name p. next (mark_law _ name.1 p) no_more (λ start p. repeat_law ends_item (passing token_at) token_law most tt start p)))

item_law : (d : Stated) (ts : List Spot) → IsWhole ts → IsLawful Item after ts (item_at d ts)
unfolding item_at Item
item_law d ts w =
    choice (is_word (codes "predicate") ts) (λ h. widen (λ us p. inl p) (finish (λ x. (d, x.1)) (predicate_law ts (took_word _ ts w h)) (λ x. refl)))
    (λ h. choice (is_word (codes "var") ts) (λ h. widen (λ us p. inr (inr (inl p))) (variable_law d ts (took_word _ ts w h)))
    (λ h. choice (is_word (codes "array") ts) (λ h. widen (λ us p. inr (inr (inr (inl p)))) (array_law d ts (took_word _ ts w h)))
    (λ h. choice (is_word (codes "constraint") ts) (λ h. widen (λ us p. inr (inr (inr (inr (inl p))))) (constraint_law d ts w (took_word _ ts w h)))
    (λ h. choice (is_word (codes "solve") ts) (λ h. widen (λ us p. inr (inr (inr (inr (inr p))))) (solve_law d ts w (took_word _ ts w h)))
    (λ h. widen (λ us p. inr (inl p)) (parameter_law d ts w))))))

pub one_item_law : (d : Stated) (ts : List Spot) → IsWhole ts → IsLawful (Item · Mark (codes ";")) after ts (one_item d ts)
unfolding one_item
one_item_law d ts w = next (item_law d ts w) (mark_sample (codes ";")) (λ item p. finish (λ rest. (item.0, rest)) (mark_law _ item.1 p) (λ x. refl))

items_law : (ts : List Spot) → IsWhole ts → IsLawful File after ts (items_at ts)
unfolding items_at File
items_law ts w = repeat_law is_end one_item (λ d us p h. one_item_law d us p) most nothing ts w

pub items_end : (ts : List Spot) (all : Stated × List Spot) → items_at ts ≡ Ok all → is_end_by (first all.1).seen ≡ true
unfolding items_at
items_end ts all e = repeat_ends is_end one_item most nothing ts all e

-- nothing stands behind the end
pub end_by : (k : Seen) (s : Spot) (ss : List Spot) → s.seen ≡ k → whole_by k ss (IsWhole ss) → is_end_by k ≡ true → (s ∷ ss ≡ s ∷ []) × (s.seen ≡ End)
end_by (Known k) s ss e w h = absurd (cc)
end_by End s ss e w h = (ap (λ us. s ∷ us) w, e)
end_by Bad s ss e w h = absurd (cc)

spelled_to : (bytes : List ℕ) (rest : List Spot) → Reads File (spots_of bytes) rest → is_end_by (first rest).seen ≡ true → IsSpelled bytes
spelled_to bytes [] r h = absurd r.whole
spelled_to bytes (s ∷ ss) r h = let (e, n) = end_by s.seen s ss refl r.whole h in record { tokens = r.front; end = s; all = r.joined ∙ ap (λ us. r.front ++ us) e; ended = n; file = r.spelled }

pub spots_whole : (bytes : List ℕ) → IsWhole (spots_of bytes)
spots_whole bytes = whole 0 1 0 bytes

spelled_by : (bytes : List ℕ) (m : Parts) (read : Result (Stated × List Spot) Refused) → items_at (spots_of bytes) ≡ read → (read >>= λ all. model_by all.0 all.0.goal all.1) ≡ Ok m → IsSpelled bytes
spelled_by bytes m (Err e) h f = absurd (cc)
spelled_by bytes m (Ok all) h f = spelled_to bytes all.1 ((items_law (spots_of bytes) (spots_whole bytes)).reads all h) (items_end (spots_of bytes) all h)

accepted_spelled : (bytes : List ℕ) (m : Parts) → reads bytes ≡ Ok m → IsSpelled bytes
unfolding reads
accepted_spelled bytes m e = by_length (nat_lt 67108864 (length bytes)) e
  where
    by_length : (b : Bool) → cond b (Err too_long) (items_at (spots_of bytes) >>= λ all. model_by all.0 all.0.goal all.1) ≡ Ok m → IsSpelled bytes
    by_length true f = absurd (cc)
    by_length false f = spelled_by bytes m (items_at (spots_of bytes)) refl f

model_begins : (d : Stated) (g : Option Goal) (all rest : List Spot) (r : Refused) → Reads File all rest → is_end_by (first rest).seen ≡ true → model_by d g rest ≡ Err r → Begins File all r
model_begins d None all [] r p h e = absurd p.whole
model_begins d None all (s ∷ ss) r p h e =
    let same : refusal code.NoSolve s ≡ r = cc in
    let shown : Shows (refusal code.NoSolve s) s = record { line = refl; from = refl; to = refl; may = h } in
    record { front = p.front; spot = s; back = ss; others = []; joined = p.joined; shown = subst (λ (q : Refused). Shows q s) same shown; spelled = subst File (sym (append-nil p.front)) p.spelled }
model_begins d (Some g) all rest r p h e = absurd (cc)

begins_by : (bytes : List ℕ) (r : Refused) (read : Result (Stated × List Spot) Refused) → items_at (spots_of bytes) ≡ read → (read >>= λ all. model_by all.0 all.0.goal all.1) ≡ Err r → Begins File (spots_of bytes) r
begins_by bytes r (Err e) h f = (items_law (spots_of bytes) (spots_whole bytes)).begins r (let s : e ≡ r = cc in h ∙ ap Err s)
begins_by bytes r (Ok all) h f = model_begins all.0 all.0.goal (spots_of bytes) all.1 r ((items_law (spots_of bytes) (spots_whole bytes)).reads all h) (items_end (spots_of bytes) all h) f

refused_fair : (bytes : List ℕ) (r : Refused) → reads bytes ≡ Err r → IsFair bytes r
unfolding reads
refused_fair bytes r e = by_length (nat_lt 67108864 (length bytes)) refl e
  where
    by_length : (b : Bool) → nat_lt 67108864 (length bytes) ≡ b → cond b (Err too_long) (items_at (spots_of bytes) >>= λ all. model_by all.0 all.0.goal all.1) ≡ Err r → IsFair bytes r
    by_length true h f = inl (grind (arith, nat_tests), cc)
    by_length false h f = inr (grind (arith, nat_tests), begins_by bytes r (items_at (spots_of bytes)) refl f)

pub spelled : (result : Result Parts ParseFault) (bytes : List ℕ) → Gives (λ m. m) result (reads bytes) → IfOk result (λ m. IsSpelled bytes)
spelled (Ok m) bytes h = accepted_spelled bytes m h
spelled (Err e) bytes h = tt

pub fair : (result : Result Parts ParseFault) (bytes : List ℕ) → Gives (λ m. m) result (reads bytes) → IfErr result (λ e. IsFairFault bytes e)
fair (Ok m) bytes h = tt
fair (Err fault.NoMemory) bytes h = tt
fair (Err (fault.Refused r)) bytes h = refused_fair bytes r h
