-- A whole file: what the grammar spells is not refused for its form.
use Rattle.std.proofs.Common.{◌≡◌, ℕ, zero, suc, ◌+◌, ◌-◌, ◌<◌, ◌≤◌, List, [], ◌∷◌, ◌++◌, Bool, true, false, cond, Option, Some, None, Result, Ok, Err, length, take, refl, ap, ◌∙◌, inl, inr, arith, codes, nat_lt, IfErr}
use Rattle.std.specs.Prelude.{◌==◌}
use Rattle.std.specs.List.{prefix_len}
use Rattle.std.proofs.lemmas.Bool.Decides.{nat_tests}
use Rattle.std.proofs.lemmas.List.{length-append}
use Rattle.fzn_lexer.specs.Bytes.{is_white, is_in_line}
use Rattle.fzn_lexer.specs.Scan.{longest_at}
use Rattle.fzn_lexer.specs.Spots.{Spot, first, after_first, bad_at}
use Rattle.fzn_lexer.specs.Passes.{spots_of, spots_from, spots_by}
use Rattle.fzn_lexer.specs.declared.seen.Seen.{Seen}
use Rattle.fzn_lexer.specs.declared.seen.Seen.TheVariants.{Known, End, Bad}
use Rattle.fzn_lexer.specs.declared.kind.Kind.{Kind}
use Rattle.fzn_lexer.specs.declared.kind.Kind.TheVariants as kind
use Rattle.fzn_model.specs.declared.goal.Goal.{Goal}
use Rattle.fzn_model.specs.Parts.{Parts}
use Rattle.fzn_reader.specs.declared.code.Code.TheVariants as code
use Rattle.fzn_reader.specs.declared.refused.Refused.{Refused}
use Rattle.fzn_reader.specs.declared.parse_fault.ParseFault.{ParseFault}
use Rattle.fzn_reader.specs.declared.parse_fault.ParseFault.TheVariants as fault
use Rattle.fzn_reader.specs.Refusals.{◌>>=◌, is_kind, is_mark, is_word, most}
use Rattle.fzn_reader.specs.Answers.{Gives}
use Rattle.fzn_reader.specs.Drafts.{Stated, nothing}
use Rattle.fzn_reader.specs.Annotations.{passing}
use Rattle.fzn_reader.specs.Reading.{token_by, token_at, ends_item, predicate_at, item_at, one_item, is_end, is_end_by, items_at, model_by, reads, too_long}
use Rattle.fzn_parser.specs.Grammar.{◌·◌, ◌∣◌, Mark, Token, is_token, ParType, Predicate, Parameter, Variable, Array, Constraint, Solve, Item, File}
use Rattle.fzn_parser.specs.Laws.{IsSpelled, is_form, IsBeyondForm}
use Rattle.fzn_parser.proofs.Lawful.{both, takes_spelled, after, here}
use Rattle.fzn_parser.proofs.FileLaws.{inside, takes_inside}
use Rattle.fzn_parser.proofs.Formed.{Spelled, at_front, IsFormed, ok_formed, other_code, bind, made, chosen, passed, split, seq, taken, mark_formed, name_formed, behind_token, seen_is}
use Rattle.fzn_parser.proofs.FormedLists.{token_some, repeat_formed}
use Rattle.fzn_parser.proofs.FormedBegins.{not_true}
use Rattle.fzn_parser.proofs.FormedDecls.{worded, no_word, partype_first, partype_word, parameter_formed, variable_formed}
use Rattle.fzn_parser.proofs.FormedArrays.{array_formed}
use Rattle.fzn_parser.proofs.FormedCalls.{constraint_formed, solve_formed}

token_by_formed : (k : Seen) (ts rest : List Spot) → is_token k ≡ true → after_first ts ≡ rest → IsFormed is_form here rest (token_by k ts)
token_by_formed (Known k) ts rest t e = ok_formed _ e
token_by_formed End ts rest t e = absurd (cc)
token_by_formed Bad ts rest t e = absurd (cc)

token_formed : (u : Unit {0}) (ts rest : List Spot) → Spelled (Token inside) ts rest → IsFormed is_form after rest (passing token_at u ts)
token_formed u ts rest p = let q = taken takes_inside p in made (λ us. (tt, us)) (token_by_formed (first ts).seen ts rest (both _ _ q.passes).0 q.behind) (λ x. refl)

predicate_formed : (ts rest : List Spot) → Spelled Predicate ts rest → is_mark (codes ";") rest ≡ true → IsFormed is_form after rest (predicate_at ts)
unfolding predicate_at Predicate
predicate_formed ts rest p h = seq (behind_token (takes_spelled kind.Word (codes "predicate")) p) (λ mid a b. name_formed _ mid a) (λ name q. seq q (λ mid a b. mark_formed _ name.1 mid a) (λ start q.
    repeat_formed ends_item (passing token_at) token_some rest (λ u. h) (λ u us m r. not_true _ (both _ _ (taken takes_inside r).passes).1) (λ u us m r s. token_formed u us m r) tt start q))

predicate_word : (ts rest : List Spot) → Spelled Predicate ts rest → is_word (codes "predicate") ts ≡ true
unfolding Predicate
predicate_word ts rest p = worded (codes "predicate") p

variable_word : (ts rest : List Spot) → Spelled Variable ts rest → is_word (codes "var") ts ≡ true
unfolding Variable
variable_word ts rest p = worded (codes "var") p

array_word : (ts rest : List Spot) → Spelled Array ts rest → is_word (codes "array") ts ≡ true
unfolding Array
array_word ts rest p = worded (codes "array") p

constraint_word : (ts rest : List Spot) → Spelled Constraint ts rest → is_word (codes "constraint") ts ≡ true
unfolding Constraint
constraint_word ts rest p = worded (codes "constraint") p

solve_word : (ts rest : List Spot) → Spelled Solve ts rest → is_word (codes "solve") ts ≡ true
unfolding Solve
solve_word ts rest p = worded (codes "solve") p

parameter_type : (ts rest : List Spot) → Spelled Parameter ts rest → (mid : List Spot) × Spelled ParType ts mid
unfolding Parameter
parameter_type ts rest p = let m = split p in (m.mid, m.first)

-- by the word that stands first
module _ (d : Stated) (ts rest front : List Spot) (e : ts ≡ front ++ rest) (k : length front < most) (h : is_mark (codes ";") rest ≡ true) where
  item_by : (Predicate ∣ Parameter ∣ Variable ∣ Array ∣ Constraint ∣ Solve) front → IsFormed is_form after rest (item_at d ts)
  unfolding item_at
  item_by (inl a) = let p = at_front front e k a in chosen (is_word (codes "predicate") ts) _ (predicate_word ts rest p) (made (λ x. (d, x.1)) (predicate_formed ts rest p h) (λ x. refl))
  item_by (inr (inl a)) =
      let p = at_front front e k a in
      let t = (parameter_type ts rest p).1 in
      passed (is_word (codes "predicate") ts) _ (partype_first (codes "predicate") refl refl refl ts _ t) (passed (is_word (codes "var") ts) _ (partype_first (codes "var") refl refl refl ts _ t)
      (passed (is_word (codes "array") ts) _ (partype_first (codes "array") refl refl refl ts _ t) (passed (is_word (codes "constraint") ts) _ (partype_first (codes "constraint") refl refl refl ts _ t)
      (passed (is_word (codes "solve") ts) _ (partype_first (codes "solve") refl refl refl ts _ t) (parameter_formed d ts rest p h)))))
  item_by (inr (inr (inl a))) =
      let p = at_front front e k a in
      let w = variable_word ts rest p in
      passed (is_word (codes "predicate") ts) _ (no_word (codes "var") (codes "predicate") ts refl w) (chosen (is_word (codes "var") ts) _ w (variable_formed d ts rest p h))
  item_by (inr (inr (inr (inl a)))) =
      let p = at_front front e k a in
      let w = array_word ts rest p in
      passed (is_word (codes "predicate") ts) _ (no_word (codes "array") (codes "predicate") ts refl w) (passed (is_word (codes "var") ts) _ (no_word (codes "array") (codes "var") ts refl w) (chosen (is_word (codes "array") ts) _ w (array_formed d ts rest p)))
  item_by (inr (inr (inr (inr (inl a))))) =
      let p = at_front front e k a in
      let w = constraint_word ts rest p in
      passed (is_word (codes "predicate") ts) _ (no_word (codes "constraint") (codes "predicate") ts refl w) (passed (is_word (codes "var") ts) _ (no_word (codes "constraint") (codes "var") ts refl w)
      (passed (is_word (codes "array") ts) _ (no_word (codes "constraint") (codes "array") ts refl w) (chosen (is_word (codes "constraint") ts) _ w (constraint_formed d ts rest p h))))
  item_by (inr (inr (inr (inr (inr a))))) =
      let p = at_front front e k a in
      let w = solve_word ts rest p in
      passed (is_word (codes "predicate") ts) _ (no_word (codes "solve") (codes "predicate") ts refl w) (passed (is_word (codes "var") ts) _ (no_word (codes "solve") (codes "var") ts refl w)
      (passed (is_word (codes "array") ts) _ (no_word (codes "solve") (codes "array") ts refl w) (passed (is_word (codes "constraint") ts) _ (no_word (codes "solve") (codes "constraint") ts refl w) (chosen (is_word (codes "solve") ts) _ w (solve_formed d ts rest p)))))

  -- each item begins with a word
  word_by : (Predicate ∣ Parameter ∣ Variable ∣ Array ∣ Constraint ∣ Solve) front → is_kind kind.Word (first ts).seen ≡ true
  word_by (inl a) = (both _ _ (predicate_word ts rest (at_front front e k a))).0
  word_by (inr (inl a)) = partype_word ts _ (parameter_type ts rest (at_front front e k a)).1
  word_by (inr (inr (inl a))) = (both _ _ (variable_word ts rest (at_front front e k a))).0
  word_by (inr (inr (inr (inl a)))) = (both _ _ (array_word ts rest (at_front front e k a))).0
  word_by (inr (inr (inr (inr (inl a))))) = (both _ _ (constraint_word ts rest (at_front front e k a))).0
  word_by (inr (inr (inr (inr (inr a))))) = (both _ _ (solve_word ts rest (at_front front e k a))).0

item_formed : (d : Stated) (ts rest : List Spot) → Spelled Item ts rest → is_mark (codes ";") rest ≡ true → IsFormed is_form after rest (item_at d ts)
unfolding Item
item_formed d ts rest p h = item_by d ts rest p.front p.joined p.few h p.spelled

one_item_formed : (d : Stated) (ts rest : List Spot) → Spelled (Item · Mark (codes ";")) ts rest → IsFormed is_form after rest (one_item d ts)
unfolding one_item
one_item_formed d ts rest p = seq p (λ mid a b. item_formed d ts mid a (taken (takes_spelled kind.Mark (codes ";")) b).passes) (λ item q. made (λ us. (item.0, us)) (mark_formed _ item.1 rest q) (λ x. refl))

pub item_some : (us : List Spot) → (Item · Mark (codes ";")) us → 0 < length us
item_some us p = let n : length us ≡ length p.front + length p.back = ap length p.joined ∙ length-append p.front p.back in let k : 0 < length p.back = token_some p.back p.second in omega arith

word_goes : (k : Seen) → is_kind kind.Word k ≡ true → is_end_by k ≡ false
word_goes k h = rw (seen_is kind.Word k h) refl

item_goes : (ts rest : List Spot) → Spelled (Item · Mark (codes ";")) ts rest → is_end_by (first ts).seen ≡ false
unfolding Item
item_goes ts rest p = let m = split p in word_goes (first ts).seen (word_by nothing ts m.mid m.first.front m.first.joined m.first.few (taken (takes_spelled kind.Mark (codes ";")) m.second).passes m.first.spelled)

items_formed : (ts rest : List Spot) → Spelled File ts rest → is_end_by (first rest).seen ≡ true → IsFormed is_form after rest (items_at ts)
unfolding items_at File
items_formed ts rest p h = repeat_formed is_end one_item item_some rest (λ d. h) (λ d us m q. item_goes us m q) (λ d us m q r. one_item_formed d us m q) nothing ts p

-- a file has no more spots than bytes, but for its end
either_length : (b : Bool) (x y : List Spot) (n : ℕ) → length x ≤ n → length y ≤ n → length (cond b x y) ≤ n
either_length true x y n p q = p
either_length false x y n p q = q

token_length : (t : Option (Kind × ℕ)) (more : Kind × ℕ → List Spot) (line at n : ℕ) → 0 < n → ((k : Kind × ℕ) → length (more k) ≤ n) → length (spots_by t more (bad_at line at)) ≤ n
token_length None more line at n p h = omega arith
token_length (Some t) more line at n p h = h t

pub spots_length : (skip line at : ℕ) (bs : List ℕ) → length (spots_from skip line at bs) ≤ length bs + 1
unfolding spots_from
spots_length zero line at [] = omega arith
spots_length (suc skip) line at [] = omega arith
spots_length (suc skip) line at (c ∷ cs) = let h = spots_length skip line (at + 1) cs in omega arith
spots_length zero line at (c ∷ cs) =
    either_length (c == 10) _ _ _ (let h = spots_length 0 (line + 1) (at + 1) cs in omega arith)
    (either_length (is_white c) _ _ _ (let h = spots_length 0 line (at + 1) cs in omega arith)
    (either_length (c == 37) _ _ _ (let h = spots_length (prefix_len is_in_line cs) line (at + 1) cs in omega arith)
    (token_length (longest_at (c ∷ cs)) _ line at _ (omega arith) (λ t. let h = spots_length (length (take t.1 (c ∷ cs)) - 1) line (at + 1) cs in omega arith))))

spelled_file : (bytes : List ℕ) → length bytes ≤ 67108864 → (s : IsSpelled bytes) → Spelled File (spots_of bytes) (s.end ∷ [])
spelled_file bytes h s =
    let n = spots_length 0 1 0 bytes in
    let m : length (spots_of bytes) ≡ length s.tokens + 1 = ap length s.all ∙ length-append s.tokens (s.end ∷ []) in
    record { front = s.tokens; spelled = s.file; joined = s.all; few = omega arith }

model_formed : (d : Stated) (g : Option Goal) (ts rest : List Spot) → IsFormed is_form (λ m. rest) rest (model_by d g ts)
model_formed d None ts rest = other_code code.NoSolve ts refl
model_formed d (Some g) ts rest = ok_formed _ refl

refused_formed : (bytes : List ℕ) (r : Refused) → IsSpelled bytes → reads bytes ≡ Err r → is_form r.code ≡ false
unfolding reads
refused_formed bytes r s e = by_length (nat_lt 67108864 (length bytes)) refl e
  where
    by_length : (b : Bool) → nat_lt 67108864 (length bytes) ≡ b → cond b (Err too_long) (items_at (spots_of bytes) >>= λ all. model_by all.0 all.0.goal all.1) ≡ Err r → is_form r.code ≡ false
    by_length true h f = let same : r ≡ too_long = cc in ap (λ (x : Refused). is_form x.code) same
    by_length false h f =
        let few : length bytes ≤ 67108864 = grind (arith, nat_tests) in
        let ended : is_end_by s.end.seen ≡ true = ap is_end_by s.ended in
        (bind (items_formed (spots_of bytes) (s.end ∷ []) (spelled_file bytes few s) ended) (λ all g. model_formed all.0 all.0.goal all.1 (s.end ∷ []))).other r f

pub formed : (result : Result Parts ParseFault) (bytes : List ℕ) → Gives (λ m. m) result (reads bytes) → IsSpelled bytes → IfErr result (λ e. IsBeyondForm e)
formed (Ok m) bytes h s = tt
formed (Err fault.NoMemory) bytes h s = tt
formed (Err (fault.Refused r)) bytes h s = refused_formed bytes r s h
