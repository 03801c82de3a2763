-- What each function of reading promises of a rule, and how it goes from parts to the whole.
use Rattle.std.proofs.Common.{◌≡◌, ℕ, zero, suc, List, [], ◌∷◌, ◌++◌, Bool, true, false, cond, ◌&&◌, ◌||◌, not, Option, Some, None, Result, Ok, Err, refl, sym, ap, subst, ◌∙◌, append_assoc}
use Rattle.fzn_lexer.specs.Spots.{Spot, first, after_first, rest_by, whole_by, IsWhole}
use Rattle.fzn_lexer.specs.declared.seen.Seen.{Seen}
use Rattle.fzn_lexer.specs.declared.seen.Seen.TheVariants.{Known, End, Bad}
use Rattle.fzn_lexer.specs.declared.kind.Kind.{Kind}
use Rattle.fzn_lexer.specs.declared.kind.Kind.TheVariants as kind
use Rattle.fzn_reader.specs.declared.code.Code.{Code}
use Rattle.fzn_reader.specs.declared.code.Code.TheVariants as code
use Rattle.fzn_reader.specs.declared.refused.Refused.{Refused}
use Rattle.fzn_reader.specs.Refusals.{◌>>=◌, refusal, value_or, is_kind, is_spelled, is_reserved, mark_at, word_at, name_at, repeat}
use Rattle.fzn_parser.specs.Grammar.{Token, ◌·◌, Many, none, more, is_token, Mark, Keyword, Name}
use Rattle.fzn_parser.specs.Laws.{may_show, Shows, Reads, Begins}
use Rattle.fzn_parser.proofs.Samples.{Sample, Completes, before, whole_of, mark_sample, word_sample, name_sample, no_more}

-- What is read is spelled by the rule, and `behind` is what is left. One of the spots shows a refusal, and the spots before
-- it begin what the rule spells.
pub record IsLawful {A : Type 0} (Rule : List Spot → Type 0) (behind : A → List Spot) (ts : List Spot) (read : Result A Refused) : Type 0 where
  pub reads : (x : A) → read ≡ Ok x → Reads Rule ts (behind x)
  pub begins : (r : Refused) → read ≡ Err r → Begins Rule ts r

-- what is left behind a value, and behind no value
abbrev pub after : {A : Type 0} → A × List Spot → List Spot
after x = x.1

abbrev pub here : List Spot → List Spot
here ts = ts

pub is_ok : {A : Type 0} {X : List Spot → Type 0} {v : A → List Spot} {ts : List Spot} (x : A) → Reads X ts (v x) → IsLawful X v ts (Ok x)
is_ok {A} {X} {v} {ts} x p = record { reads = λ y e. (let s : x ≡ y = cc in subst (λ (z : A). Reads X ts (v z)) s p); begins = λ r e. absurd (cc) }

pub is_err : {A : Type 0} {X : List Spot → Type 0} {v : A → List Spot} {ts : List Spot} (r : Refused) → Begins X ts r → IsLawful {A = A} X v ts (Err r)
is_err {A} {X} {v} {ts} r b = record { reads = λ y e. absurd (cc); begins = λ q e. (let s : r ≡ q = cc in subst (Begins X ts) s b) }

shown_first : (c : Code) (s : Spot) → may_show c s ≡ true → Shows (refusal c s) s
shown_first c s h = record { line = refl; from = refl; to = refl; may = h }

-- the first of the spots shows a refusal
pub refused : {A : Type 0} {X : List Spot → Type 0} {v : A → List Spot} (c : Code) (ts : List Spot) → IsWhole ts → may_show c (first ts) ≡ true → Sample X → IsLawful {A = A} X v ts (Err (refusal c (first ts)))
refused c [] w h x = absurd w
refused c (s ∷ ss) w h x = is_err _ (record { front = []; spot = s; back = ss; others = x.0; joined = refl; shown = shown_first c s h; spelled = x.1 })

-- where the rest is read by a rule, the whole is read by both
join : {X Y : List Spot → Type 0} {ts mid rest : List Spot} → Reads X ts mid → Reads Y mid rest → Reads (X · Y) ts rest
join p q = record {
  front = p.front ++ q.front;
  spelled = record { front = p.front; back = q.front; first = p.spelled; second = q.spelled; joined = refl };
  joined = p.joined ∙ ap (λ (us : List Spot). p.front ++ us) q.joined ∙ sym (append_assoc p.front q.front _);
  whole = q.whole;
}

pub onward : {A : Type 0} {X Y : List Spot → Type 0} {v : A → List Spot} {ts rest : List Spot} {read : Result A Refused} → Reads X ts rest → IsLawful Y v rest read → IsLawful (X · Y) v ts read
onward {ts = ts} {rest = rest} p q = record {
  reads = λ y e. join p (q.reads y e);
  begins = λ r e. (let b = q.begins r e in record {
    front = p.front ++ b.front;
    spot = b.spot;
    back = b.back;
    others = b.others;
    joined = p.joined ∙ ap (λ (us : List Spot). p.front ++ us) b.joined ∙ sym (append_assoc p.front b.front (b.spot ∷ b.back));
    shown = b.shown;
    spelled = record { front = p.front; back = b.front ++ b.others; first = p.spelled; second = b.spelled; joined = append_assoc p.front b.front b.others };
  });
}

-- what begins one rule begins another that goes on
further : {X Y : List Spot → Type 0} {ts : List Spot} {r : Refused} → ((us : List Spot) → X us → Completes Y us) → Begins X ts r → Begins Y ts r
further {Y = Y} h b = let c = h (b.front ++ b.others) b.spelled in record {
  front = b.front;
  spot = b.spot;
  back = b.back;
  others = b.others ++ c.0;
  joined = b.joined;
  shown = b.shown;
  spelled = subst Y (append_assoc b.front b.others c.0) c.1;
}

-- one read behind the other, where the second may look back
pub given : {A B : Type 0} {X Y : List Spot → Type 0} {v : A → List Spot} {w : B → List Spot} {ts : List Spot} {read : Result A Refused} {f : A → Result B Refused} → IsLawful X v ts read → ((us : List Spot) → X us → Completes Y us) → ((x : A) → Reads X ts (v x) → IsLawful Y w ts (f x)) → IsLawful Y w ts (read >>= f)
given {read = Ok x} p c h = h x (p.reads x refl)
given {read = Err r} p c h = is_err r (further c (p.begins r refl))

-- the same, where the second may look back at what the first made
pub given_as : {A B : Type 0} {X Y : List Spot → Type 0} {v : A → List Spot} {w : B → List Spot} {ts : List Spot} {read : Result A Refused} {f : A → Result B Refused} → IsLawful X v ts read → ((us : List Spot) → X us → Completes Y us) → ((x : A) → read ≡ Ok x → Reads X ts (v x) → IsLawful Y w ts (f x)) → IsLawful Y w ts (read >>= f)
given_as {read = Ok x} p c h = h x refl (p.reads x refl)
given_as {read = Err r} p c h = is_err r (further c (p.begins r refl))

-- one read behind the other
pub next : {A B : Type 0} {X Y : List Spot → Type 0} {v : A → List Spot} {w : B → List Spot} {ts : List Spot} {read : Result A Refused} {f : A → Result B Refused} → IsLawful X v ts read → Sample Y → ((x : A) → IsWhole (v x) → IsLawful Y w (v x) (f x)) → IsLawful (X · Y) w ts (read >>= f)
next p y h = given p (before y) (λ x r. onward r (h x r.whole))

-- what is read is made into another value
pub finish : {A B : Type 0} {X : List Spot → Type 0} {v : A → List Spot} {w : B → List Spot} {ts : List Spot} {read : Result A Refused} (g : A → B) → IsLawful X v ts read → ((x : A) → v x ≡ w (g x)) → IsLawful X w ts (read >>= λ x. Ok (g x))
finish {X = X} {ts = ts} g p h = given p (whole_of (λ us x. x)) (λ x r. is_ok _ (subst (Reads X ts) (h x) r))

-- a rule that takes in another
pub wider : {X Y : List Spot → Type 0} {ts rest : List Spot} → ((us : List Spot) → X us → Y us) → Reads X ts rest → Reads Y ts rest
wider h r = record { front = r.front; spelled = h r.front r.spelled; joined = r.joined; whole = r.whole }

pub widen : {A : Type 0} {X Y : List Spot → Type 0} {v : A → List Spot} {ts : List Spot} {read : Result A Refused} → ((us : List Spot) → X us → Y us) → IsLawful X v ts read → IsLawful Y v ts read
widen h p = record { reads = λ y e. wider h (p.reads y e); begins = λ r e. further (whole_of h) (p.begins r e) }

-- what the first token stands for
pub value_law : {A : Type 0} {X : List Spot → Type 0} (c : Code) (o : Option A) (ts : List Spot) → IsWhole ts → (o ≡ None → may_show c (first ts) ≡ true) → Reads X ts (after_first ts) → IsLawful X after ts (value_or c o ts)
value_law c None ts w h r = refused c ts w (h refl) (r.front, r.spelled)
value_law c (Some x) ts w h r = is_ok _ r

-- by a test
pub choice : {A : Type 0} {X : List Spot → Type 0} {v : A → List Spot} {ts : List Spot} {x y : Result A Refused} (b : Bool) → (b ≡ true → IsLawful X v ts x) → (b ≡ false → IsLawful X v ts y) → IsLawful X v ts (cond b x y)
choice true p q = p refl
choice false p q = q refl

pub or_right : (a b : Bool) → b ≡ true → (a || b) ≡ true
or_right true b h = refl
or_right false b h = h

pub or_left : (a b : Bool) → a ≡ true → (a || b) ≡ true
or_left true b h = refl
or_left false b h = absurd (cc)

-- the first token passes what was read of it
pub first_passes : {test : Spot → Bool} {ts rest : List Spot} → Reads (Token test) ts rest → test (first ts) ≡ true
first_passes {test} {ts} {rest} r = ap (λ (us : List Spot). test (first us)) (r.joined ∙ ap (λ (us : List Spot). us ++ rest) r.spelled.only) ∙ r.spelled.passes

-- the first of two rules, where both were read
pub first_read : {X Y : List Spot → Type 0} {ts rest : List Spot} → Reads (X · Y) ts rest → (mid : List Spot) × (us : List Spot) × X us × (ts ≡ us ++ mid)
first_read {rest = rest} r = let q = r.spelled in (q.back ++ rest, q.front, q.first, r.joined ∙ ap (λ (us : List Spot). us ++ rest) q.joined ∙ append_assoc q.front q.back rest)

pub token_first : {test : Spot → Bool} {ts us : List Spot} (mid : List Spot) → Token test us → ts ≡ us ++ mid → test (first ts) ≡ true
token_first {test} {ts} mid p e = ap (λ (us : List Spot). test (first us)) (e ∙ ap (λ (us : List Spot). us ++ mid) p.only) ∙ p.passes

-- nothing is read
pub nothing_read : {X : List Spot → Type 0} (ts : List Spot) → X [] → IsWhole ts → Reads X ts ts
nothing_read ts p w = record { front = []; spelled = p; joined = refl; whole = w }

kind_token : (k : Kind) (s : Seen) → is_kind k s ≡ true → is_token s ≡ true
kind_token k (Known j) h = refl
kind_token kind.Word End h = absurd (cc)
kind_token kind.Word Bad h = absurd (cc)
kind_token k s h = absurd (cc)

pub both : (a b : Bool) → (a && b) ≡ true → (a ≡ true) × (b ≡ true)
both true b h = (refl, h)
both false b h = absurd (cc)

-- a test that no end and no bad byte passes
abbrev pub TakesTokens : (Spot → Bool) → Type 0
TakesTokens test = (s : Spot) → test s ≡ true → is_token s.seen ≡ true

pub takes_spelled : (k : Kind) (text : List ℕ) → TakesTokens (is_spelled k text)
takes_spelled k text s h = kind_token k s.seen (both _ _ h).0

took_by : (test : Spot → Bool) (s : Spot) (ss : List Spot) (k : Seen) → is_token k ≡ true → whole_by k ss (IsWhole ss) → test s ≡ true → Reads (Token test) (s ∷ ss) (rest_by k s ss)
took_by test s ss (Known k) t w h = record { front = s ∷ []; spelled = record { spot = s; passes = h; only = refl }; joined = refl; whole = w }
took_by test s ss End t w h = absurd (cc)
took_by test s ss Bad t w h = absurd (cc)

-- the first of the spots is read
pub took : (test : Spot → Bool) → TakesTokens test → (ts : List Spot) → IsWhole ts → test (first ts) ≡ true → Reads (Token test) ts (after_first ts)
took test t [] w h = absurd w
took test t (s ∷ ss) w h = took_by test s ss s.seen (t s h) w h

-- one token, or a refusal of the form
pub token_law : {A : Type 0} {v : A → List Spot} (test : Spot → Bool) → TakesTokens test → Sample (Token test) → (ts : List Spot) (x : A) → v x ≡ after_first ts → IsWhole ts → IsLawful (Token test) v ts (cond (test (first ts)) (Ok x) (Err (refusal code.Syntax (first ts))))
token_law test t y ts x e w = choice (test (first ts)) (λ h. is_ok x (subst (Reads (Token test) ts) (sym e) (took test t ts w h))) (λ h. refused code.Syntax ts w refl y)

pub mark_law : (text : List ℕ) (ts : List Spot) → IsWhole ts → IsLawful (Mark text) here ts (mark_at text ts)
unfolding mark_at
mark_law text ts w = token_law _ (takes_spelled kind.Mark text) (mark_sample text) ts _ refl w

pub word_law : (text : List ℕ) (ts : List Spot) → IsWhole ts → IsLawful (Keyword text) here ts (word_at text ts)
unfolding word_at
word_law text ts w = token_law _ (takes_spelled kind.Word text) (word_sample text) ts _ refl w

pub takes_kind : (k : Kind) → TakesTokens (λ s. is_kind k s.seen)
takes_kind k s h = kind_token k s.seen h

pub takes_leaf : TakesTokens (λ s. is_kind kind.Text s.seen || is_kind kind.Real s.seen)
takes_leaf s h = leaf_by (is_kind kind.Text s.seen) refl h
  where
    leaf_by : (b : Bool) → is_kind kind.Text s.seen ≡ b → (b || is_kind kind.Real s.seen) ≡ true → is_token s.seen ≡ true
    leaf_by true p q = kind_token kind.Text s.seen p
    leaf_by false p q = kind_token kind.Real s.seen q

pub takes_name : TakesTokens (λ s. is_kind kind.Word s.seen && not (is_reserved s.text))
takes_name s h = kind_token kind.Word s.seen (both _ _ h).0

pub name_law : (ts : List Spot) → IsWhole ts → IsLawful Name after ts (name_at ts)
unfolding name_at
name_law ts w = token_law _ takes_name name_sample ts _ refl w

many : {X : List Spot → Type 0} (us : List Spot) → (X · Many X) us → Many X us
many {X} us p = subst (Many X) (sym p.joined) (more p.front p.back p.first p.second)

module _ {S : Type 0} (stop : S → List Spot → Bool) (step : S → List Spot → Result (S × List Spot) Refused) where
  module _ {X : List Spot → Type 0} (law : (s : S) (ts : List Spot) → IsWhole ts → stop s ts ≡ false → IsLawful X after ts (step s ts)) where
    pub repeat_law : (n : ℕ) (s : S) (ts : List Spot) → IsWhole ts → IsLawful (Many X) after ts (repeat stop step n s ts)
    unfolding repeat
    repeat_law zero s ts w = refused code.Syntax ts w refl no_more
    repeat_law (suc n) s ts w = choice (stop s ts) (λ h. is_ok (s, ts) (nothing_read ts none w)) (λ h. widen many (next (law s ts w h) no_more (λ x p. repeat_law n x.0 x.1 p)))

  -- what stops a repetition holds where it ends
  pub repeat_ends : (n : ℕ) (s : S) (ts : List Spot) (x : S × List Spot) → repeat stop step n s ts ≡ Ok x → stop x.0 x.1 ≡ true
  unfolding repeat
  repeat_ends zero s ts x e = absurd (cc)
  repeat_ends (suc n) s ts x e = ends_by (λ y f. repeat_ends n y.0 y.1 x f) (stop s ts) refl (step s ts) e
    where
      ends_by : ((y : S × List Spot) → repeat stop step n y.0 y.1 ≡ Ok x → stop x.0 x.1 ≡ true) → (b : Bool) → stop s ts ≡ b → (r : Result (S × List Spot) Refused) → cond b (Ok (s, ts)) (r >>= λ y. repeat stop step n y.0 y.1) ≡ Ok x → stop x.0 x.1 ≡ true
      ends_by go true h r f = let same : (s, ts) ≡ x = cc in subst (λ (y : S × List Spot). stop y.0 y.1 ≡ true) same h
      ends_by go false h (Ok y) f = go y f
      ends_by go false h (Err r) f = absurd (cc)

  pub repeat_stopped : {X : List Spot → Type 0} (n : ℕ) (s : S) (ts : List Spot) → X [] → IsWhole ts → stop s ts ≡ true → IsLawful X after ts (repeat stop step n s ts)
  unfolding repeat
  repeat_stopped zero s ts p w h = refused code.Syntax ts w refl ([], p)
  repeat_stopped (suc n) s ts p w h = rw h (is_ok (s, ts) (nothing_read ts p w))
