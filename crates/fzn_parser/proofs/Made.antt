-- What is read is what a rule makes, and what a rule makes is read: how that goes from parts to the whole.
use Rattle.std.proofs.Common.{◌≡◌, ℕ, suc, ◌≤◌, List, ◌∷◌, ◌++◌, length, Bool, true, false, cond, not, Option, Some, None, Result, Ok, Err, refl, sym, ap, subst, ◌∙◌, arith}
use Rattle.std.specs.Prelude.{⊤}
use Rattle.fzn_lexer.specs.Spots.{Spot, first, after_first, IsWhole}
use Rattle.fzn_lexer.specs.declared.kind.Kind.TheVariants as kind
use Rattle.fzn_reader.specs.declared.code.Code.{Code}
use Rattle.fzn_reader.specs.declared.refused.Refused.{Refused}
use Rattle.fzn_reader.specs.Refusals.{◌>>=◌ as ◌then◌, value_or, mark_at, word_at, name_at, most}
use Rattle.fzn_parser.specs.Rules.{Rule, ◌>>=◌, makes, some, holds, here, Stands, token, text, mark, word}
use Rattle.fzn_parser.specs.States.{name}
use Rattle.fzn_parser.proofs.Lawful.{TakesTokens, took, takes_spelled, takes_name}
use Rattle.fzn_parser.proofs.Formed.{Taken, stays_by}

-- a place of a file that may be read from
pub record Ready (ts : List Spot) : Type 0 where
  pub whole : IsWhole ts
  pub few : length ts ≤ most

-- a rule makes a value between two places
pub record Takes {A : Type 0} (X : List Spot → List Spot → A → Type 0) (ts rest : List Spot) (a : A) : Type 0 where
  pub made : X ts rest a
  pub whole : IsWhole rest
  pub shorter : length rest ≤ length ts

pub record IsSound {A : Type 0} (X : List Spot → List Spot → A → Type 0) (ts : List Spot) (read : Result (A × List Spot) Refused) : Type 0 where
  pub takes : (x : A × List Spot) → read ≡ Ok x → Takes X ts x.1 x.0

-- What is read is what the rule makes; and what it makes is read, where P holds behind it.
pub record IsMade {A : Type 0} (X : List Spot → List Spot → A → Type 0) (P : List Spot → Type 0) (ts : List Spot) (read : Result (A × List Spot) Refused) : Type 0 where
  pub sound : IsSound X ts read
  pub exact : (a : A) (rest : List Spot) → X ts rest a → P rest → read ≡ Ok (a, rest)

-- whatever stands behind it
abbrev pub Free : List Spot → Type 0
Free ts = ⊤

pub ready : {A : Type 0} {X : Rule A} {ts rest : List Spot} {a : A} → Ready ts → Takes X ts rest a → Ready rest
ready w p = let k = w.few in let h = p.shorter in record { whole = p.whole; few = omega arith }

pub ok_sound : {A : Type 0} {X : Rule A} {ts : List Spot} (x : A × List Spot) → Takes X ts x.1 x.0 → IsSound X ts (Ok x)
ok_sound {A} {X} {ts} x p = record { takes = λ y e. (let s : x ≡ y = cc in subst (λ (z : A × List Spot). Takes X ts z.1 z.0) s p) }

pub err_sound : {A : Type 0} {X : Rule A} {ts : List Spot} (r : Refused) → IsSound X ts (Err r)
err_sound r = record { takes = λ y e. absurd (cc) }

pub choice : {A : Type 0} {X : Rule A} {ts : List Spot} {x y : Result (A × List Spot) Refused} (b : Bool) → (b ≡ true → IsSound X ts x) → (b ≡ false → IsSound X ts y) → IsSound X ts (cond b x y)
choice true p q = p refl
choice false p q = q refl

pub widen : {A : Type 0} {X Y : Rule A} {ts : List Spot} {read : Result (A × List Spot) Refused} → ((rest : List Spot) (a : A) → X ts rest a → Y ts rest a) → IsSound X ts read → IsSound Y ts read
widen h p = record { takes = λ x e. (let t = p.takes x e in record { made = h x.1 x.0 t.made; whole = t.whole; shorter = t.shorter }) }

-- one rule behind what another made
pub behind : {A B : Type 0} {X : Rule A} {Y : A → Rule B} {ts mid : List Spot} {a : A} {read : Result (B × List Spot) Refused} → Takes X ts mid a → IsSound (Y a) mid read → IsSound (X >>= Y) ts read
behind {ts = ts} {mid = mid} {a = a} t s = record {
  takes = λ y e. (let u = s.takes y e in let h = t.shorter in let k = u.shorter in record {
    made = record { mid = mid; value = a; first = t.made; second = u.made };
    whole = u.whole;
    shorter = omega arith;
  });
}

pub next_sound : {A B : Type 0} {X : Rule A} {Y : A → Rule B} {ts : List Spot} {f : A × List Spot → Result (B × List Spot) Refused} (read : Result (A × List Spot) Refused)
    → IsSound X ts read → ((x : A × List Spot) → Takes X ts x.1 x.0 → IsSound (Y x.0) x.1 (f x)) → IsSound (X >>= Y) ts (◌then◌ read f)
next_sound (Ok x) p k = let t = p.takes x refl in behind t (k x t)
next_sound (Err r) p k = err_sound r

-- one rule behind the other; what stands behind the first, follows from the second
pub next_if : {A B : Type 0} {X : Rule A} {Y : A → Rule B} {P Q : List Spot → Type 0} {ts : List Spot} {read : Result (A × List Spot) Refused} {f : A × List Spot → Result (B × List Spot) Refused}
    → Ready ts → IsMade X P ts read → ((a : A) (mid rest : List Spot) (b : B) → Y a mid rest b → Q rest → P mid)
    → ((x : A × List Spot) → Ready x.1 → IsMade (Y x.0) Q x.1 (f x)) → IsMade (X >>= Y) Q ts (◌then◌ read f)
next_if {read = read} {f = f} w p follows k = record {
  sound = next_sound read p.sound (λ x t. (k x (ready w t)).sound);
  exact = λ b rest q n. (
      let r = p.exact q.value q.mid q.first (follows q.value q.mid rest b q.second n) in
      let t = p.sound.takes (q.value, q.mid) r in
      ap (λ y. ◌then◌ y f) r ∙ (k (q.value, q.mid) (ready w t)).exact b rest q.second n);
}

pub next : {A B : Type 0} {X : Rule A} {Y : A → Rule B} {Q : List Spot → Type 0} {ts : List Spot} {read : Result (A × List Spot) Refused} {f : A × List Spot → Result (B × List Spot) Refused}
    → Ready ts → IsMade X Free ts read → ((x : A × List Spot) → Ready x.1 → IsMade (Y x.0) Q x.1 (f x)) → IsMade (X >>= Y) Q ts (◌then◌ read f)
next w p k = next_if w p (λ a mid rest b q n. tt) k

-- what is read without a value
abbrev pub lone : Result (List Spot) Refused → Result (Unit {0} × List Spot) Refused
lone (Ok rest) = Ok (tt, rest)
lone (Err r) = Err r

pub record IsPassed (X : List Spot → List Spot → Unit {0} → Type 0) (P : List Spot → Type 0) (ts : List Spot) (read : Result (List Spot) Refused) : Type 0 where
  pub it : IsMade X P ts (lone read)

pub pass_if : {B : Type 0} {X : Rule (Unit {0})} {Y : Unit {0} → Rule B} {P Q : List Spot → Type 0} {ts : List Spot} {read : Result (List Spot) Refused} {f : List Spot → Result (B × List Spot) Refused}
    → Ready ts → IsPassed X P ts read → ((mid rest : List Spot) (b : B) → Y tt mid rest b → Q rest → P mid) → ((mid : List Spot) → Ready mid → IsMade (Y tt) Q mid (f mid)) → IsMade (X >>= Y) Q ts (◌then◌ read f)
pass_if {read = Ok rest} {f = f} w p follows k = next_if {f = λ x. f x.1} w p.it (λ u mid us b y q. follows mid us b y q) (λ x v. k x.1 v)
pass_if {read = Err r} {f = f} w p follows k = next_if {f = λ x. f x.1} w p.it (λ u mid us b y q. follows mid us b y q) (λ x v. k x.1 v)

pub pass : {B : Type 0} {X : Rule (Unit {0})} {Y : Unit {0} → Rule B} {Q : List Spot → Type 0} {ts : List Spot} {read : Result (List Spot) Refused} {f : List Spot → Result (B × List Spot) Refused}
    → Ready ts → IsPassed X Free ts read → ((mid : List Spot) → Ready mid → IsMade (Y tt) Q mid (f mid)) → IsMade (X >>= Y) Q ts (◌then◌ read f)
pass w p k = pass_if w p (λ mid rest b y q. tt) k

-- no token more
pub done : {A : Type 0} {Q : List Spot → Type 0} {ts : List Spot} (a : A) → Ready ts → IsMade (makes a) Q ts (Ok (a, ts))
done {ts = ts} a w = record {
  sound = ok_sound (a, ts) (record { made = (refl, refl); whole = w.whole; shorter = omega arith });
  exact = λ b rest q n. (let e = q.0 in let f = q.1 in cc);
}

-- the place itself
pub placed : {B : Type 0} {Y : List Spot → Rule B} {Q : List Spot → Type 0} {ts : List Spot} {read : Result (B × List Spot) Refused} → Ready ts → IsMade (Y ts) Q ts read → IsMade (here >>= Y) Q ts read
placed {B} {Y} {Q} {ts} w p = record {
  sound = behind (record { made = (refl, refl); whole = w.whole; shorter = omega arith }) p.sound;
  exact = λ b rest q n. (let e = q.first.0 in let f = q.first.1 in p.exact b rest (subst (λ (us : List Spot). Y us ts rest b) f (subst (λ (us : List Spot). Y q.value us rest b) (sym e) q.second)) n);
}

-- a test, without which nothing is read
pub tested : {B : Type 0} {Y : Unit {0} → Rule B} {Q : List Spot → Type 0} {ts : List Spot} {x : Result (B × List Spot) Refused} (r : Refused) (b : Bool) → Ready ts → (b ≡ true → IsMade (Y tt) Q ts x) → IsMade (holds b >>= Y) Q ts (cond b x (Err r))
tested {Y = Y} {ts = ts} r true w p = record {
  sound = behind (record { made = (refl, refl); whole = w.whole; shorter = omega arith }) (p refl).sound;
  exact = λ b rest q n. (p refl).exact b rest (subst (λ (us : List Spot). Y tt us rest b) (sym q.first.0) q.second) n;
}
tested r false w p = record { sound = err_sound r; exact = λ b rest q n. (let e = q.first.1 in absurd (cc)) }

pub untested : {B : Type 0} {Y : Unit {0} → Rule B} {Q : List Spot → Type 0} {ts : List Spot} {x : Result (B × List Spot) Refused} (r : Refused) (b : Bool) → Ready ts → (b ≡ false → IsMade (Y tt) Q ts x) → IsMade (holds (not b) >>= Y) Q ts (cond b (Err r) x)
untested r true w p = record { sound = err_sound r; exact = λ b rest q n. (let e = q.first.1 in absurd (cc)) }
untested {Y = Y} {ts = ts} r false w p = record {
  sound = behind (record { made = (refl, refl); whole = w.whole; shorter = omega arith }) (p refl).sound;
  exact = λ b rest q n. (p refl).exact b rest (subst (λ (us : List Spot). Y tt us rest b) (sym q.first.0) q.second) n;
}

-- one token that stands first
pub stands : {test : Spot → Bool} {ts : List Spot} → TakesTokens test → Ready ts → test (first ts) ≡ true → Takes (token test) ts (after_first ts) tt
stands {test} {ts} t w h =
    let r = took test t ts w.whole h in
    let q = r.spelled in
    let e : ts ≡ q.spot ∷ after_first ts = r.joined ∙ ap (λ (us : List Spot). us ++ after_first ts) q.only in
    let n : length ts ≡ suc (length (after_first ts)) = ap length e in
    record { made = record { spot = q.spot; passes = q.passes; joined = e }; whole = r.whole; shorter = omega arith }

pub stood : {test : Spot → Bool} {ts rest : List Spot} → TakesTokens test → Stands test ts rest → Taken test ts rest
stood {test} {ts} {rest} t s = record {
  passes = ap (λ (us : List Spot). test (first us)) s.joined ∙ s.passes;
  behind = ap after_first s.joined ∙ stays_by s.spot.seen s.spot rest (t s.spot s.passes);
}

token_by : {test : Spot → Bool} {ts : List Spot} (r : Refused) → TakesTokens test → Ready ts → (b : Bool) → test (first ts) ≡ b → IsMade (token test) Free ts (lone (cond b (Ok (after_first ts)) (Err r)))
token_by {ts = ts} r t w true h = record { sound = ok_sound (tt, after_first ts) (stands t w h); exact = λ u rest p n. ap (λ (us : List Spot). Ok (tt, us)) (stood t p).behind }
token_by r t w false h = record { sound = err_sound r; exact = λ u rest p n. (let e = (stood t p).passes in absurd (cc)) }

pub token_made : {test : Spot → Bool} {ts : List Spot} (r : Refused) → TakesTokens test → Ready ts → IsPassed (token test) Free ts (cond (test (first ts)) (Ok (after_first ts)) (Err r))
token_made {test} {ts} r t w = record { it = token_by r t w (test (first ts)) refl }

pub mark_made : (t : List ℕ) (ts : List Spot) → Ready ts → IsPassed (mark t) Free ts (mark_at t ts)
unfolding mark_at
mark_made t ts w = token_made _ (takes_spelled kind.Mark t) w

pub word_made : (t : List ℕ) (ts : List Spot) → Ready ts → IsPassed (word t) Free ts (word_at t ts)
unfolding word_at
word_made t ts w = token_made _ (takes_spelled kind.Word t) w

-- from a word or a mark on, that stands first
pub from : {B : Type 0} {test : Spot → Bool} {Y : Unit {0} → Rule B} {Q : List Spot → Type 0} {ts : List Spot} {read : Result (B × List Spot) Refused} → TakesTokens test → Ready ts → test (first ts) ≡ true
    → (Ready (after_first ts) → IsMade (Y tt) Q (after_first ts) read) → IsMade (token test >>= Y) Q ts read
from {Y = Y} t w h k =
    let s = stands t w h in
    let p = k (ready w s) in
    record { sound = behind s p.sound; exact = λ b rest q n. p.exact b rest (subst (λ (us : List Spot). Y tt us rest b) (sym (stood t q.first).behind) q.second) n }

-- the text of a token that stands first
pub texted : {test : Spot → Bool} {ts : List Spot} → TakesTokens test → Ready ts → test (first ts) ≡ true → Takes (text test) ts (after_first ts) (first ts).text
texted t w h = let s = stands t w h in record { made = (s.made, ap (λ (us : List Spot). (first us).text) s.made.joined); whole = s.whole; shorter = s.shorter }

pub text_is : {test : Spot → Bool} {ts rest : List Spot} {t : List ℕ} → text test ts rest t → (first ts).text ≡ t
text_is p = ap (λ (us : List Spot). (first us).text) p.0.joined ∙ sym p.1

text_by : {test : Spot → Bool} {ts : List Spot} (r : Refused) → TakesTokens test → Ready ts → (b : Bool) → test (first ts) ≡ b → IsMade (text test) Free ts (cond b (Ok ((first ts).text, after_first ts)) (Err r))
text_by {ts = ts} r t w true h = record { sound = ok_sound _ (texted t w h); exact = λ u rest p n. (let e = (stood t p.0).behind in let f = text_is p in cc) }
text_by r t w false h = record { sound = err_sound r; exact = λ u rest p n. (let e = (stood t p.0).passes in absurd (cc)) }

pub name_made : (ts : List Spot) → Ready ts → IsMade name Free ts (name_at ts)
unfolding name_at
name_made ts w = text_by _ takes_name w _ refl

-- what the text of the first token stands for
valued_by : {A : Type 0} {test : Spot → Bool} {ts : List Spot} (c : Code) (g : List ℕ → Option A) → TakesTokens test → Ready ts → test (first ts) ≡ true → (o : Option A) → g (first ts).text ≡ o → IsMade (text test >>= λ t. some (g t)) Free ts (value_or c o ts)
valued_by {ts = ts} c g t w h None e = record { sound = err_sound _; exact = λ a rest p n. (let f : g p.value ≡ Some a = p.second.1 in let k = ap g (text_is p.first) in absurd (cc)) }
valued_by {ts = ts} c g t w h (Some x) e = let s = texted t w h in record {
  sound = ok_sound (x, after_first ts) (record { made = record { mid = after_first ts; value = (first ts).text; first = s.made; second = (refl, e) }; whole = s.whole; shorter = s.shorter });
  exact = λ a rest p n. (let f = p.second.1 in let k = ap g (text_is p.first) in let m = (stood t p.first.0).behind in let l = p.second.0 in cc);
}

pub valued : {A : Type 0} {test : Spot → Bool} {ts : List Spot} (c : Code) (g : List ℕ → Option A) → TakesTokens test → Ready ts → test (first ts) ≡ true → IsMade (text test >>= λ t. some (g t)) Free ts (value_or c (g (first ts).text) ts)
valued c g t w h = valued_by c g t w h _ refl

-- a rule that says the same
pub same : {A : Type 0} {X Y : Rule A} {P : List Spot → Type 0} {ts : List Spot} {read : Result (A × List Spot) Refused} → ((rest : List Spot) (a : A) → X ts rest a → Y ts rest a) → ((rest : List Spot) (a : A) → Y ts rest a → X ts rest a) → IsMade X P ts read → IsMade Y P ts read
same f g p = record { sound = widen f p.sound; exact = λ a rest q n. p.exact a rest (g rest a q) n }

-- what stands behind it may be told by more
pub where_more : {A : Type 0} {X : Rule A} {P Q : List Spot → Type 0} {ts : List Spot} {read : Result (A × List Spot) Refused} → ((rest : List Spot) → Q rest → P rest) → IsMade X P ts read → IsMade X Q ts read
where_more h p = record { sound = p.sound; exact = λ a rest q n. p.exact a rest q (h rest n) }
