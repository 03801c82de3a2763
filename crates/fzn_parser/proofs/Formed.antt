-- What the grammar spells is not refused for its form: how that goes from parts to the whole.
use Rattle.std.proofs.Common.{◌≡◌, ℕ, ◌+◌, ◌<◌, List, ◌∷◌, ◌++◌, length, Bool, true, false, cond, ◌&&◌, Option, Some, None, Result, Ok, Err, refl, sym, ap, subst, ◌∙◌, append_assoc, arith}
use Rattle.std.specs.Str.{bytes_eq}
use Rattle.std.proofs.lemmas.List.{length-append}
use Rattle.std.proofs.lemmas.Slice.Eq.{bytes_eq-Decides}
use Rattle.fzn_lexer.specs.Spots.{Spot, first, after_first, rest_by}
use Rattle.fzn_lexer.specs.declared.seen.Seen.{Seen}
use Rattle.fzn_lexer.specs.declared.seen.Seen.TheVariants.{Known, End, Bad}
use Rattle.fzn_lexer.specs.declared.kind.Kind.{Kind}
use Rattle.fzn_lexer.specs.declared.kind.Kind.TheVariants as kind
use Rattle.fzn_reader.specs.declared.code.Code.{Code}
use Rattle.fzn_reader.specs.declared.refused.Refused.{Refused}
use Rattle.fzn_reader.specs.Refusals.{◌>>=◌, refuse, value_or, is_kind, is_spelled, mark_at, word_at, name_at, most}
use Rattle.fzn_parser.specs.Grammar.{Token, ◌·◌, is_token, Mark, Keyword, Name}
use Rattle.fzn_parser.proofs.Lawful.{both, TakesTokens, takes_spelled, takes_name, after, here}

-- The rule spells what stands before the rest, fewer tokens than any file has.
pub record Spelled (Rule : List Spot → Type 0) (ts rest : List Spot) : Type 0 where
  pub front : List Spot
  pub spelled : Rule front
  pub joined : ts ≡ front ++ rest
  pub few : length front < most

pub at_front : {X : List Spot → Type 0} {ts rest : List Spot} (front : List Spot) → ts ≡ front ++ rest → length front < most → X front → Spelled X ts rest
at_front front e n p = record { front = front; spelled = p; joined = e; few = n }

-- What is read ends at the rest; a refusal has none of these codes.
pub record IsFormed {A : Type 0} (bad : Code → Bool) (behind : A → List Spot) (rest : List Spot) (read : Result A Refused) : Type 0 where
  pub ends : (x : A) → read ≡ Ok x → behind x ≡ rest
  pub other : (r : Refused) → read ≡ Err r → bad r.code ≡ false

pub ok_formed : {bad : Code → Bool} {A : Type 0} {v : A → List Spot} {rest : List Spot} (x : A) → v x ≡ rest → IsFormed bad v rest (Ok x)
ok_formed {v = v} x e = record { ends = λ y f. (let s : x ≡ y = cc in ap v (sym s) ∙ e); other = λ r f. absurd (cc) }

pub err_formed : {bad : Code → Bool} {A : Type 0} {v : A → List Spot} {rest : List Spot} (r : Refused) → bad r.code ≡ false → IsFormed {A = A} bad v rest (Err r)
err_formed {bad = bad} r e = record { ends = λ y f. absurd (cc); other = λ q f. (let s : q ≡ r = cc in ap (λ (x : Refused). bad x.code) s ∙ e) }

-- a refusal with another code
pub other_code : {bad : Code → Bool} {A : Type 0} {v : A → List Spot} {rest : List Spot} (c : Code) (ts : List Spot) → bad c ≡ false → IsFormed {A = A} bad v rest (refuse c ts)
other_code c ts e = err_formed _ e

-- what the first token stands for
pub value_formed : {bad : Code → Bool} {A : Type 0} (c : Code) (o : Option A) (ts rest : List Spot) → bad c ≡ false → after_first ts ≡ rest → IsFormed {A = A × List Spot} bad after rest (value_or c o ts)
value_formed c None ts rest f e = other_code c ts f
value_formed c (Some x) ts rest f e = ok_formed _ e

-- one read behind the other
pub bind : {bad : Code → Bool} {A B : Type 0} {v : A → List Spot} {w : B → List Spot} {mid rest : List Spot} {read : Result A Refused} {f : A → Result B Refused} → IsFormed bad v mid read → ((x : A) → v x ≡ mid → IsFormed bad w rest (f x)) → IsFormed bad w rest (read >>= f)
bind {read = Ok x} p h = h x (p.ends x refl)
bind {read = Err r} p h = err_formed r (p.other r refl)

-- what is read is made into another value
pub made : {bad : Code → Bool} {A B : Type 0} {v : A → List Spot} {w : B → List Spot} {rest : List Spot} {read : Result A Refused} (g : A → B) → IsFormed bad v rest read → ((x : A) → w (g x) ≡ v x) → IsFormed bad w rest (read >>= λ x. Ok (g x))
made g p h = bind p (λ x e. ok_formed _ (h x ∙ e))

pub chosen : {bad : Code → Bool} {A : Type 0} {v : A → List Spot} {rest : List Spot} {x : Result A Refused} (b : Bool) (y : Result A Refused) → b ≡ true → IsFormed bad v rest x → IsFormed bad v rest (cond b x y)
chosen true y h p = p
chosen false y h p = absurd (cc)

pub passed : {bad : Code → Bool} {A : Type 0} {v : A → List Spot} {rest : List Spot} {y : Result A Refused} (b : Bool) (x : Result A Refused) → b ≡ false → IsFormed bad v rest y → IsFormed bad v rest (cond b x y)
passed true x h p = absurd (cc)
passed false x h p = p

pub either : {bad : Code → Bool} {A : Type 0} {v : A → List Spot} {rest : List Spot} {x y : Result A Refused} (b : Bool) → (b ≡ true → IsFormed bad v rest x) → (b ≡ false → IsFormed bad v rest y) → IsFormed bad v rest (cond b x y)
either true p q = p refl
either false p q = q refl

-- two rules, one behind the other, meet at a place
pub record Meet (X Y : List Spot → Type 0) (ts rest : List Spot) : Type 0 where
  pub mid : List Spot
  pub first : Spelled X ts mid
  pub second : Spelled Y mid rest

pub split : {X Y : List Spot → Type 0} {ts rest : List Spot} → Spelled (X · Y) ts rest → Meet X Y ts rest
split {X} {Y} {ts} {rest} p =
    let q = p.spelled in
    let n : length p.front ≡ length q.front + length q.back = ap length q.joined ∙ length-append q.front q.back in
    let few = p.few in
    record {
      mid = q.back ++ rest;
      first = record { front = q.front; spelled = q.first; joined = p.joined ∙ ap (λ (us : List Spot). us ++ rest) q.joined ∙ append_assoc q.front q.back rest; few = omega arith };
      second = record { front = q.back; spelled = q.second; joined = refl; few = omega arith };
    }

pub seq : {bad : Code → Bool} {A B : Type 0} {X Y : List Spot → Type 0} {v : A → List Spot} {w : B → List Spot} {ts rest : List Spot} {read : Result A Refused} {f : A → Result B Refused}
    → Spelled (X · Y) ts rest → ((mid : List Spot) → Spelled X ts mid → Spelled Y mid rest → IsFormed bad v mid read) → ((x : A) → Spelled Y (v x) rest → IsFormed bad w rest (f x)) → IsFormed bad w rest (read >>= f)
seq {Y = Y} {rest = rest} p g h = let m = split p in bind (g m.mid m.first m.second) (λ x e. h x (subst (λ (us : List Spot). Spelled Y us rest) (sym e) m.second))

pub stays_by : (k : Seen) (s : Spot) (ss : List Spot) → is_token k ≡ true → rest_by k s ss ≡ ss
stays_by (Known k) s ss h = refl
stays_by End s ss h = absurd (cc)
stays_by Bad s ss h = absurd (cc)

-- a token that stands first
pub record Taken (test : Spot → Bool) (ts rest : List Spot) : Type 0 where
  pub passes : test (first ts) ≡ true
  pub behind : after_first ts ≡ rest

pub taken : {test : Spot → Bool} {ts rest : List Spot} → TakesTokens test → Spelled (Token test) ts rest → Taken test ts rest
taken {test} {ts} {rest} t p =
    let q = p.spelled in
    let e : ts ≡ q.spot ∷ rest = p.joined ∙ ap (λ (us : List Spot). us ++ rest) q.only in
    record { passes = ap (λ (us : List Spot). test (first us)) e ∙ q.passes; behind = ap after_first e ∙ stays_by q.spot.seen q.spot rest (t q.spot q.passes) }

pub token_formed : {bad : Code → Bool} {A : Type 0} {v : A → List Spot} {test : Spot → Bool} {ts rest : List Spot} → TakesTokens test → Spelled (Token test) ts rest → (x : A) (y : Result A Refused) → v x ≡ after_first ts → IsFormed bad v rest (cond (test (first ts)) (Ok x) y)
token_formed {test = test} {ts = ts} t p x y e = let q = taken t p in chosen (test (first ts)) y q.passes (ok_formed x (e ∙ q.behind))

pub mark_formed : {bad : Code → Bool} (text : List ℕ) (ts rest : List Spot) → Spelled (Mark text) ts rest → IsFormed bad here rest (mark_at text ts)
unfolding mark_at
mark_formed text ts rest p = token_formed (takes_spelled kind.Mark text) p _ _ refl

pub word_formed : {bad : Code → Bool} (text : List ℕ) (ts rest : List Spot) → Spelled (Keyword text) ts rest → IsFormed bad here rest (word_at text ts)
unfolding word_at
word_formed text ts rest p = token_formed (takes_spelled kind.Word text) p _ _ refl

pub name_formed : {bad : Code → Bool} (ts rest : List Spot) → Spelled Name ts rest → IsFormed bad after rest (name_at ts)
unfolding name_at
name_formed ts rest p = token_formed takes_name p _ _ refl

-- behind the token that stands first
pub behind_token : {test : Spot → Bool} {Y : List Spot → Type 0} {ts rest : List Spot} → TakesTokens test → Spelled (Token test · Y) ts rest → Spelled Y (after_first ts) rest
behind_token {Y = Y} {rest = rest} t p = let m = split p in subst (λ (us : List Spot). Spelled Y us rest) (sym (taken t m.first).behind) m.second

pub narrow : {X Y : List Spot → Type 0} {ts rest : List Spot} → ((us : List Spot) → X us → Y us) → Spelled X ts rest → Spelled Y ts rest
narrow h p = record { front = p.front; spelled = h p.front p.spelled; joined = p.joined; few = p.few }

-- tests of one token: its kind is known, and so is its text
pub seen_is : (k : Kind) (s : Seen) → is_kind k s ≡ true → s ≡ Known k
seen_is kind.Word (Known kind.Word) h = refl
seen_is kind.Number (Known kind.Number) h = refl
seen_is kind.Real (Known kind.Real) h = refl
seen_is kind.Text (Known kind.Text) h = refl
seen_is kind.Mark (Known kind.Mark) h = refl
seen_is k s h = absurd (cc)

-- a token of one kind is none of another
pub other_kind : (k j : Kind) (text : List ℕ) (s : Spot) → is_kind j (Known k) ≡ false → is_kind k s.seen ≡ true → is_spelled j text s ≡ false
other_kind k j text s n h = let e : s.seen ≡ Known k = seen_is k s.seen h in rw (e, n) refl

pub text_is : (k : Kind) (text : List ℕ) (s : Spot) → is_spelled k text s ≡ true → s.text ≡ text
text_is k text s h = (bytes_eq-Decides s.text text).0 (both _ _ h).1

-- a token of one spelling has no other
pub other_text : (k : Kind) (text other : List ℕ) (s : Spot) → bytes_eq text other ≡ false → is_spelled k text s ≡ true → is_spelled k other s ≡ false
other_text k text other s n h =
    let e : s.seen ≡ Known k = seen_is k s.seen (both _ _ h).0 in
    let f : s.text ≡ text = text_is k text s h in
    last_false (is_kind k s.seen) (bytes_eq s.text other) (ap (λ (t : List ℕ). bytes_eq t other) f ∙ n)
  where
    last_false : (a b : Bool) → b ≡ false → (a && b) ≡ false
    last_false true b q = q
    last_false false b q = refl
