-- A whole file: it is read as a model exactly where it states that model.
use Rattle.std.proofs.Common.{◌≡◌, ℕ, suc, ◌<◌, ◌≤◌, List, [], ◌∷◌, length, Bool, true, false, cond, Option, Some, None, Result, Ok, Err, refl, sym, ap, subst, ◌∙◌, inl, inr, codes, nat_lt, arith, IfOk}
use Rattle.std.specs.Str.{bytes_eq}
use Rattle.std.proofs.lemmas.Bool.Decides.{nat_tests}
use Rattle.fzn_lexer.specs.Spots.{Spot, first, after_first}
use Rattle.fzn_lexer.specs.Passes.{spots_of}
use Rattle.fzn_lexer.specs.declared.seen.Seen.{Seen}
use Rattle.fzn_lexer.specs.declared.seen.Seen.TheVariants.{Known, End, Bad}
use Rattle.fzn_lexer.specs.declared.kind.Kind.TheVariants as kind
use Rattle.fzn_model.specs.declared.goal.Goal.{Goal}
use Rattle.fzn_model.specs.Parts.{Parts}
use Rattle.fzn_reader.specs.declared.refused.Refused.{Refused}
use Rattle.fzn_reader.specs.declared.parse_fault.ParseFault.{ParseFault}
use Rattle.fzn_reader.specs.declared.parse_fault.ParseFault.TheVariants as fault
use Rattle.fzn_reader.specs.Refusals.{◌>>=◌ as ◌then◌, is_kind, is_mark, is_word}
use Rattle.fzn_reader.specs.Answers.{Gives}
use Rattle.fzn_reader.specs.Annotations.{passing}
use Rattle.fzn_reader.specs.Search.{order_of}
use Rattle.fzn_reader.specs.Drafts.{Stated, nothing}
use Rattle.fzn_reader.specs.Reading.{token_by, token_at, ends_item, predicate_at, item_at, one_item as one_item_at, is_end, is_end_by, items_at, model_by, reads, too_long}
use Rattle.fzn_parser.specs.Grammar.{is_token}
use Rattle.fzn_parser.specs.Laws.{IsAnswered}
use Rattle.fzn_parser.specs.Rules.{◌>>=◌, makes, token, Each}
use Rattle.fzn_parser.specs.States.{predicate, parameter, variable, array, constraint, solve, item, one_item, States}
use Rattle.fzn_parser.proofs.Lawful.{both, takes_spelled}
use Rattle.fzn_parser.proofs.FileLaws.{inside, takes_inside, passes, one_item_law, items_end, end_by, spots_whole}
use Rattle.fzn_parser.proofs.Formed.{seen_is}
use Rattle.fzn_parser.proofs.FormedBegins.{not_true}
use Rattle.fzn_parser.proofs.FormedDecls.{no_word}
use Rattle.fzn_parser.proofs.FormedFile.{spots_length, item_some}
use Rattle.fzn_parser.proofs.Made.{Ready, IsSound, IsMade, Free, ok_sound, err_sound, choice, widen, next_if, next, pass, done, stands, stood, from, mark_made, name_made}
use Rattle.fzn_parser.proofs.MadeLists.{At, marks, repeat_made}
use Rattle.fzn_parser.proofs.MadeTerms.{reads_less}
use Rattle.fzn_parser.proofs.MadeItems.{parameter_made, variable_made}
use Rattle.fzn_parser.proofs.MadeArrays.{array_made, partype_first, partype_word}
use Rattle.fzn_parser.proofs.MadeCalls.{constraint_made, solve_made}

-- any token but ";"
token_sound : (k : Seen) (u : Unit {0}) (ts : List Spot) → Ready ts → (first ts).seen ≡ k → is_mark (codes ";") ts ≡ false → IsSound (token inside) ts (◌then◌ (token_by k ts) (λ rest. Ok (tt, rest)))
token_sound (Known k) u ts w e h = ok_sound (tt, after_first ts) (stands takes_inside w (passes _ _ (ap is_token e) h))
token_sound End u ts w e h = err_sound _
token_sound Bad u ts w e h = err_sound _

token_exact : (k : Seen) (ts rest : List Spot) → is_token k ≡ true → after_first ts ≡ rest → ◌then◌ {B = Unit {0} × List Spot} (token_by k ts) (λ us. Ok (tt, us)) ≡ Ok (tt, rest)
token_exact (Known k) ts rest h e = ap (λ (us : List Spot). Ok (tt, us)) e
token_exact End ts rest h e = absurd (cc)
token_exact Bad ts rest h e = absurd (cc)

token_less : (k : Seen) (ts : List Spot) → Ready ts → (first ts).seen ≡ k → (x : Unit {0} × List Spot) → ◌then◌ (token_by k ts) (λ us. Ok (tt, us)) ≡ Ok x → length x.1 < length ts
token_less (Known k) ts w e x f =
    let s = stands {test = λ s. is_token s.seen} (λ s h. h) w (ap is_token e) in
    let n : length ts ≡ suc (length (after_first ts)) = ap length s.made.joined in
    let m : length (after_first ts) ≡ length x.1 = (let g : after_first ts ≡ x.1 = cc in ap length g) in
    omega arith
token_less End ts w e x f = absurd (cc)
token_less Bad ts w e x f = absurd (cc)

token_made : (u : Unit {0}) (ts : List Spot) → Ready ts → ends_item u ts ≡ false → IsMade (token inside) Free ts (passing token_at u ts)
token_made u ts w h = record { sound = token_sound (first ts).seen u ts w refl h; exact = λ v rest p n. (let k = stood takes_inside p in token_exact (first ts).seen ts rest (both _ _ k.passes).0 k.behind) }

-- from its "predicate" on
predicate_made : (ts : List Spot) → Ready ts → is_word (codes "predicate") ts ≡ true → IsMade predicate (At (codes ";")) ts (predicate_at ts)
unfolding predicate predicate_at
predicate_made ts w h = from (takes_spelled kind.Word (codes "predicate")) w h (λ v. next v (name_made _ v) (λ name v. pass v (mark_made _ name.1 v) (λ open_ v.
    repeat_made Free (At (codes ";")) ends_item (passing token_at) token_made (λ u us v x e. token_less (first us).seen us v refl x e) (λ u rest q. q) (λ u t us mid p. not_true _ (both _ _ (stood takes_inside p).passes).1) (λ rest q. tt) (λ u t us mid p. tt) tt open_ v)))

skipped_made : (d : Stated) (ts : List Spot) → Ready ts → is_word (codes "predicate") ts ≡ true → IsMade (predicate >>= λ u. makes d) (At (codes ";")) ts (◌then◌ (predicate_at ts) (λ x. Ok (d, x.1)))
skipped_made d ts w h = next_if w (predicate_made ts w h) (λ a mid rest b p q. subst (At (codes ";")) (sym p.0) q) (λ x v. done _ v)

-- the word that an item begins with
predicate_first : (ts rest : List Spot) (u : Unit {0}) → predicate ts rest u → is_word (codes "predicate") ts ≡ true
unfolding predicate
predicate_first ts rest u p = (stood (takes_spelled kind.Word (codes "predicate")) p.first).passes

variable_first : (d e : Stated) (ts rest : List Spot) → variable d ts rest e → is_word (codes "var") ts ≡ true
unfolding variable
variable_first d e ts rest p = (stood (takes_spelled kind.Word (codes "var")) p.first).passes

array_first : (d e : Stated) (ts rest : List Spot) → array d ts rest e → is_word (codes "array") ts ≡ true
unfolding array
array_first d e ts rest p = (stood (takes_spelled kind.Word (codes "array")) p.first).passes

constraint_first : (d e : Stated) (ts rest : List Spot) → constraint d ts rest e → is_word (codes "constraint") ts ≡ true
unfolding constraint
constraint_first d e ts rest p = ap (is_word (codes "constraint")) p.first.0 ∙ (stood (takes_spelled kind.Word (codes "constraint")) p.second.first).passes

solve_first : (d e : Stated) (ts rest : List Spot) → solve d ts rest e → is_word (codes "solve") ts ≡ true
unfolding solve
solve_first d e ts rest p = ap (is_word (codes "solve")) p.first.0 ∙ (stood (takes_spelled kind.Word (codes "solve")) p.second.first).passes

parameter_first : (other : List ℕ) → bytes_eq (codes "bool") other ≡ false → bytes_eq (codes "int") other ≡ false → bytes_eq (codes "set") other ≡ false → (d e : Stated) (ts rest : List Spot) → parameter d ts rest e → is_word other ts ≡ false
unfolding parameter
parameter_first other x y z d e ts rest p = partype_first other x y z ts p.mid p.value p.first

parameter_word : (d e : Stated) (ts rest : List Spot) → parameter d ts rest e → is_kind kind.Word (first ts).seen ≡ true
unfolding parameter
parameter_word d e ts rest p = partype_word ts p.mid p.value p.first

-- each item begins with a word
item_word : (d e : Stated) (ts rest : List Spot) → item d ts rest e → is_kind kind.Word (first ts).seen ≡ true
unfolding item
item_word d e ts rest p = elim p [
  | inl p ↦ (both _ _ (predicate_first ts p.mid p.value p.first)).0
  | inr p ↦ elim p [
    | inl p ↦ parameter_word d e ts rest p
    | inr p ↦ elim p [
      | inl p ↦ (both _ _ (variable_first d e ts rest p)).0
      | inr p ↦ elim p [
        | inl p ↦ (both _ _ (array_first d e ts rest p)).0
        | inr p ↦ elim p [ inl p ↦ (both _ _ (constraint_first d e ts rest p)).0 | inr p ↦ (both _ _ (solve_first d e ts rest p)).0 ]
      ]
    ]
  ]
]

module _ (d : Stated) (ts : List Spot) (w : Ready ts) where
  item_sound : IsSound (item d) ts (item_at d ts)
  unfolding item item_at
  item_sound =
      choice (is_word (codes "predicate") ts) (λ h. widen (λ rest a p. inl p) (skipped_made d ts w h).sound)
      (λ h. choice (is_word (codes "var") ts) (λ h. widen (λ rest a p. inr (inr (inl p))) (variable_made d ts w h).sound)
      (λ h. choice (is_word (codes "array") ts) (λ h. widen (λ rest a p. inr (inr (inr (inl p)))) (array_made d ts w h).sound)
      (λ h. choice (is_word (codes "constraint") ts) (λ h. widen (λ rest a p. inr (inr (inr (inr (inl p))))) (constraint_made d ts w h).sound)
      (λ h. choice (is_word (codes "solve") ts) (λ h. widen (λ rest a p. inr (inr (inr (inr (inr p))))) (solve_made d ts w h).sound)
      (λ h. widen (λ rest a p. inr (inl p)) (parameter_made d ts w).sound)))))

  item_exact : (e : Stated) (rest : List Spot) → item d ts rest e → At (codes ";") rest → item_at d ts ≡ Ok (e, rest)
  unfolding item item_at
  item_exact e rest p q = elim p [
    | inl p ↦ (let h = predicate_first ts p.mid p.value p.first in rw h ((skipped_made d ts w h).exact e rest p q))
    | inr p ↦ elim p [
      | inl p ↦ (
          let a = parameter_first (codes "predicate") refl refl refl d e ts rest p in
          let b = parameter_first (codes "var") refl refl refl d e ts rest p in
          let c = parameter_first (codes "array") refl refl refl d e ts rest p in
          let f = parameter_first (codes "constraint") refl refl refl d e ts rest p in
          let g = parameter_first (codes "solve") refl refl refl d e ts rest p in
          rw (a, b, c, f, g) ((parameter_made d ts w).exact e rest p q))
      | inr p ↦ elim p [
        | inl p ↦ (let h = variable_first d e ts rest p in rw (no_word (codes "var") (codes "predicate") ts refl h, h) ((variable_made d ts w h).exact e rest p q))
        | inr p ↦ elim p [
          | inl p ↦ (let h = array_first d e ts rest p in rw (no_word (codes "array") (codes "predicate") ts refl h, no_word (codes "array") (codes "var") ts refl h, h) ((array_made d ts w h).exact e rest p tt))
          | inr p ↦ elim p [
            | inl p ↦ (
                let h = constraint_first d e ts rest p in
                rw (no_word (codes "constraint") (codes "predicate") ts refl h, no_word (codes "constraint") (codes "var") ts refl h, no_word (codes "constraint") (codes "array") ts refl h, h) ((constraint_made d ts w h).exact e rest p q))
            | inr p ↦ (
                let h = solve_first d e ts rest p in
                rw (no_word (codes "solve") (codes "predicate") ts refl h, no_word (codes "solve") (codes "var") ts refl h, no_word (codes "solve") (codes "array") ts refl h, no_word (codes "solve") (codes "constraint") ts refl h, h) ((solve_made d ts w h).exact e rest p q))
          ]
        ]
      ]
    ]
  ]

  one_item_made : IsMade (one_item d) Free ts (one_item_at d ts)
  unfolding one_item one_item_at
  one_item_made = next_if w (record { sound = item_sound; exact = item_exact }) (λ a mid rest b p q. marks p.first) (λ e v. pass v (mark_made _ e.1 v) (λ rest v. done _ v))

one_item_goes : (d e : Stated) (ts mid : List Spot) → one_item d ts mid e → is_end_by (first ts).seen ≡ false
unfolding one_item
one_item_goes d e ts mid p = rw (seen_is kind.Word (first ts).seen (item_word d p.value ts p.mid p.first)) refl

one_item_less : (d : Stated) (ts : List Spot) → Ready ts → (x : Stated × List Spot) → one_item_at d ts ≡ Ok x → length x.1 < length ts
one_item_less d ts w x e = reads_less item_some ((one_item_law d ts w.whole).reads x e)

-- the end stands here
abbrev AtEnd : List Spot → Type 0
AtEnd ts = is_end_by (first ts).seen ≡ true

items_made : (ts : List Spot) → Ready ts → IsMade (Each one_item nothing) AtEnd ts (items_at ts)
unfolding items_at
items_made ts w = repeat_made Free AtEnd is_end one_item_at (λ d us v h. one_item_made d us v) one_item_less (λ d rest q. q) one_item_goes (λ rest q. tt) (λ d e us mid p. tt) nothing ts w

file_ready : (bytes : List ℕ) → length bytes ≤ 67108864 → Ready (spots_of bytes)
file_ready bytes h = let n = spots_length 0 1 0 bytes in record { whole = spots_whole bytes; few = omega arith }

model_of : (d : Stated) (g : Goal) → Parts
model_of d g = record { doms = d.doms; cons = d.cons; goal = g; outs = d.outs; order = order_of d.names d.search }

states_model : (bytes : List ℕ) (m : Parts) → length bytes ≤ 67108864 → (all : Stated × List Spot) → items_at (spots_of bytes) ≡ Ok all → (g : Option Goal) → all.0.goal ≡ g → model_by all.0 g all.1 ≡ Ok m → States bytes m
states_model bytes m h (d, []) e g f k = absurd ((items_made (spots_of bytes) (file_ready bytes h)).sound.takes (d, []) e).whole
states_model bytes m h (d, s ∷ ss) e None f k = absurd (cc)
states_model bytes m h (d, s ∷ ss) e (Some g) f k =
    let t = (items_made (spots_of bytes) (file_ready bytes h)).sound.takes (d, s ∷ ss) e in
    let (l, n) = end_by s.seen s ss refl t.whole (items_end (spots_of bytes) (d, s ∷ ss) e) in
    record { few = h; end = s; ended = n; stated = d; items = subst (λ (us : List Spot). Each one_item nothing (spots_of bytes) us d) l t.made; goal = g; sought = f; model = (cc) }

read_states : (bytes : List ℕ) (m : Parts) → length bytes ≤ 67108864 → (r : Result (Stated × List Spot) Refused) → items_at (spots_of bytes) ≡ r → ◌then◌ r (λ all. model_by all.0 all.0.goal all.1) ≡ Ok m → States bytes m
read_states bytes m h (Ok all) e k = states_model bytes m h all e all.0.goal refl k
read_states bytes m h (Err r) e k = absurd (cc)

-- What is read is what is stated.
pub reads_states : (bytes : List ℕ) (m : Parts) → reads bytes ≡ Ok m → States bytes m
unfolding reads
reads_states bytes m e = by_length (nat_lt 67108864 (length bytes)) refl e
  where
    by_length : (b : Bool) → nat_lt 67108864 (length bytes) ≡ b → cond b (Err too_long) (◌then◌ (items_at (spots_of bytes)) (λ all. model_by all.0 all.0.goal all.1)) ≡ Ok m → States bytes m
    by_length true h f = absurd (cc)
    by_length false h f = read_states bytes m (grind (arith, nat_tests)) (items_at (spots_of bytes)) refl f

-- What is stated is read.
pub states_reads : (bytes : List ℕ) (m : Parts) → States bytes m → reads bytes ≡ Ok m
unfolding reads
states_reads bytes m s =
    let few = s.few in
    let short : nat_lt 67108864 (length bytes) ≡ false = grind (arith, nat_tests) in
    let ended : is_end_by s.end.seen ≡ true = ap is_end_by s.ended in
    let read = (items_made (spots_of bytes) (file_ready bytes s.few)).exact s.stated (s.end ∷ []) s.items ended in
    let g = s.sought in
    let m = s.model in
    rw (short, read, g) cc

pub states : (result : Result Parts ParseFault) (bytes : List ℕ) → Gives (λ m. m) result (reads bytes) → IfOk result (λ m. States bytes m)
states (Ok m) bytes h = reads_states bytes m h
states (Err e) bytes h = tt

pub stated : (result : Result Parts ParseFault) (bytes : List ℕ) → Gives (λ m. m) result (reads bytes) → (m : Parts) → States bytes m → IsAnswered m result
stated (Ok n) bytes h m s = let e = states_reads bytes m s in cc
stated (Err fault.NoMemory) bytes h m s = tt
stated (Err (fault.Refused r)) bytes h m s = let e = states_reads bytes m s in absurd (cc)
