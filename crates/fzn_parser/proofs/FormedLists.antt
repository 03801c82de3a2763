-- Repetitions, with commas and without: what the grammar spells is read to its end, or refused for another reason than its form.
use Rattle.std.proofs.Common.{◌≡◌, ℕ, zero, suc, ◌+◌, ◌<◌, List, ◌++◌, length, Bool, true, false, not, Result, Ok, refl, sym, ap, subst, ◌∙◌, append_assoc, inl, inr, arith, codes}
use Rattle.std.specs.Str.{bytes_eq}
use Rattle.std.proofs.lemmas.List.{length-append}
use Rattle.fzn_lexer.specs.Spots.{Spot, first}
use Rattle.fzn_lexer.specs.declared.kind.Kind.TheVariants as kind
use Rattle.fzn_reader.specs.declared.code.Code.{Code}
use Rattle.fzn_reader.specs.declared.refused.Refused.{Refused}
use Rattle.fzn_reader.specs.Refusals.{◌>>=◌, is_mark, separator_at, repeat, most, no_comma, next_at, more_at, separated_at}
use Rattle.fzn_reader.specs.Lists.{ends_list}
use Rattle.fzn_parser.specs.Grammar.{Token, ◌·◌, Many, none, more, last, Mark, Separated, Element, Elements}
use Rattle.fzn_parser.proofs.Lawful.{takes_spelled, after, here}
use Rattle.fzn_parser.proofs.ListLaws.{regroup, kept}
use Rattle.fzn_parser.proofs.Formed.{Spelled, at_front, IsFormed, ok_formed, bind, chosen, passed, split, seq, taken, mark_formed, other_text}

-- a place where no `..` and no `(` stands
pub record Follows (ts : List Spot) : Type 0 where
  pub dots : is_mark (codes "..") ts ≡ false
  pub bracket : is_mark (codes "(") ts ≡ false

pub follows_mark : (text : List ℕ) (ts : List Spot) → bytes_eq text (codes "..") ≡ false → bytes_eq text (codes "(") ≡ false → is_mark text ts ≡ true → Follows ts
follows_mark text ts d b h = record { dots = other_text kind.Mark text (codes "..") (first ts) d h; bracket = other_text kind.Mark text (codes "(") (first ts) b h }

-- the mark that stands first
pub marked : {Y : List Spot → Type 0} {ts rest : List Spot} (text : List ℕ) → Spelled (Mark text · Y) ts rest → is_mark text ts ≡ true
marked text p = (taken (takes_spelled kind.Mark text) (split p).first).passes

pub token_some : {test : Spot → Bool} (us : List Spot) → Token test us → 0 < length us
token_some us p = rw p.only (omega arith)

pub first_some : {X Y : List Spot → Type 0} → ((us : List Spot) → X us → 0 < length us) → (us : List Spot) → (X · Y) us → 0 < length us
first_some h us p = let n : length us ≡ length p.front + length p.back = ap length p.joined ∙ length-append p.front p.back in let k : 0 < length p.front = h p.front p.first in omega arith

-- the front of a front
pub front_of : {X : List Spot → Type 0} {ts : List Spot} (rest us vs : List Spot) → X us → ts ≡ (us ++ vs) ++ rest → length (us ++ vs) < most → Spelled X ts (vs ++ rest)
front_of rest us vs p e n = let k : length (us ++ vs) ≡ length us + length vs = length-append us vs in record { front = us; spelled = p; joined = e ∙ append_assoc us vs _; few = omega arith }

pub back_of : {X : List Spot → Type 0} (rest us vs : List Spot) → X vs → length (us ++ vs) < most → Spelled X (vs ++ rest) rest
back_of rest us vs p n = let k : length (us ++ vs) ≡ length us + length vs = length-append us vs in record { front = vs; spelled = p; joined = refl; few = omega arith }

-- what holds at the rest, and where the rule begins, holds where the repetition begins
module _ (P : List Spot → Type 0) {M : List Spot → Type 0} {rest : List Spot} (at_rest : P rest) (at_first : (ts mid : List Spot) → Spelled M ts mid → P ts) where
  first_by : (ts front : List Spot) → Many M front → ts ≡ front ++ rest → length front < most → P ts
  first_by ts _ none e n = subst P (sym e) at_rest
  first_by ts _ (more us vs a b) e n = at_first ts (vs ++ rest) (front_of rest us vs a e n)

  pub many_first : {ts : List Spot} → Spelled (Many M) ts rest → P ts
  many_first {ts} p = first_by ts p.front p.spelled p.joined p.few

module _ {bad : Code → Bool} {S : Type 0} (stop : S → List Spot → Bool) (step : S → List Spot → Result (S × List Spot) Refused) {M : List Spot → Type 0} (some : (us : List Spot) → M us → 0 < length us) (rest : List Spot)
    (ends : (s : S) → stop s rest ≡ true)
    (goes : (s : S) (ts mid : List Spot) → Spelled M ts mid → stop s ts ≡ false)
    (law : (s : S) (ts mid : List Spot) → Spelled M ts mid → Spelled (Many M) mid rest → IsFormed bad after mid (step s ts)) where
  repeat_by : (n : ℕ) (s : S) (ts front : List Spot) → Many M front → ts ≡ front ++ rest → length front < n → length front < most → IsFormed bad after rest (repeat stop step n s ts)
  unfolding repeat
  repeat_by zero s ts front p e k n = absurd (omega arith)
  repeat_by (suc k) s ts _ none e h n = chosen (stop s ts) _ (subst (λ (us : List Spot). stop s us ≡ true) (sym e) (ends s)) (ok_formed (s, ts) e)
  repeat_by (suc k) s ts _ (more us vs a b) e h n =
      let one : Spelled M ts (vs ++ rest) = front_of rest us vs a e n in
      let l : length (us ++ vs) ≡ length us + length vs = length-append us vs in
      let j : 0 < length us = some us a in
      passed (stop s ts) _ (goes s ts (vs ++ rest) one) (bind (law s ts (vs ++ rest) one (back_of rest us vs b n)) (λ x f. repeat_by k x.0 x.1 vs b f (omega arith) (omega arith)))

  pub repeat_formed : (s : S) (ts : List Spot) → Spelled (Many M) ts rest → IsFormed bad after rest (repeat stop step most s ts)
  repeat_formed s ts p = repeat_by most s ts p.front p.spelled p.joined p.few p.few

-- what stops a repetition, stands here
pub stop_formed : {bad : Code → Bool} {S : Type 0} (stop : S → List Spot → Bool) (step : S → List Spot → Result (S × List Spot) Refused) (n : ℕ) (s : S) (ts : List Spot) → 0 < n → stop s ts ≡ true → IsFormed bad after ts (repeat stop step n s ts)
unfolding repeat
stop_formed stop step zero s ts p h = absurd (omega arith)
stop_formed stop step (suc n) s ts p h = chosen (stop s ts) _ h (ok_formed (s, ts) refl)

module _ {bad : Code → Bool} {S : Type 0} {X : List Spot → Type 0} (close : List ℕ) (dots : bytes_eq close (codes "..") ≡ false) (bracket : bytes_eq close (codes "(") ≡ false) (comma : bytes_eq close (codes ",") ≡ false)
    (step : S → List Spot → Result (S × List Spot) Refused)
    (begins : (ts mid : List Spot) → Spelled X ts mid → is_mark close ts ≡ false)
    (law : (s : S) (ts mid : List Spot) → Spelled X ts mid → Follows mid → IsFormed bad after mid (step s ts)) where
  next_formed : (s : S) (ts mid : List Spot) → Spelled (Mark (codes ",") · X) ts mid → Follows mid → IsFormed bad after mid (next_at step s ts)
  unfolding next_at
  next_formed s ts mid p f = seq p (λ m a b. mark_formed _ ts m a) (λ us b. law s us mid b f)

  behind_one : (ts rest : List Spot) → Spelled (Many (Mark (codes ",") · X)) ts rest → is_mark close rest ≡ true → Follows ts
  behind_one ts rest p c = many_first Follows (follows_mark close rest dots bracket c) (λ us m q. follows_mark (codes ",") us refl refl (marked (codes ",") q)) p

  more_formed : (s : S) (ts rest : List Spot) → Spelled (Many (Mark (codes ",") · X)) ts rest → is_mark close rest ≡ true → IsFormed bad after rest (more_at step s ts)
  unfolding more_at
  more_formed s ts rest p c = repeat_formed no_comma (next_at step) (first_some token_some) rest (λ t. ap not (other_text kind.Mark close (codes ",") (first rest) comma c)) (λ t us m q. ap not (marked (codes ",") q))
      (λ t us m q r. next_formed t us m q (behind_one m rest r c)) s ts p

  separated_by : (s : S) (ts rest front : List Spot) → Separated X front → ts ≡ front ++ rest → length front < most → is_mark close rest ≡ true → IsFormed bad after rest (separated_at close step s ts)
  unfolding separated_at
  separated_by s ts rest front (inl n) e k c = let same : ts ≡ rest = e ∙ ap (λ (us : List Spot). us ++ rest) n in chosen (is_mark close ts) _ (subst (λ (us : List Spot). is_mark close us ≡ true) (sym same) c) (ok_formed (s, ts) same)
  separated_by s ts rest front (inr q) e k c =
      let p : Spelled (X · Many (Mark (codes ",") · X)) ts rest = at_front front e k q in
      passed (is_mark close ts) _ (begins ts _ (split p).first) (seq p (λ mid a b. law s ts mid a (behind_one mid rest b c)) (λ x b. more_formed x.0 x.1 rest b c))

  pub separated_formed : (s : S) (ts rest : List Spot) → Spelled (Separated X) ts rest → is_mark close rest ≡ true → IsFormed bad after rest (separated_at close step s ts)
  separated_formed s ts rest p c = separated_by s ts rest p.front p.spelled p.joined p.few c

-- a list whose last comma may stand before its "]"
module _ {bad : Code → Bool} {S A : Type 0} (read : S → List Spot → Result (A × List Spot) Refused) (add : S → A → S) (step : S → List Spot → Result (S × List Spot) Refused)
    (steps : (s : S) (ts : List Spot) → step s ts ≡ (read s ts >>= λ x. separator_at (codes "]") x.1 >>= λ rest. Ok (add s x.0, rest)))
    (some : (us : List Spot) → Element us → 0 < length us)
    (begins : (ts mid : List Spot) → Spelled Element ts mid → is_mark (codes "]") ts ≡ false)
    (law : (s : S) (ts mid : List Spot) → Spelled Element ts mid → Follows mid → IsFormed bad after mid (read s ts)) where
  behind : (n : ℕ) (s : S) (ts mid rest : List Spot) → IsFormed bad here mid (separator_at (codes "]") ts) → ((us : List Spot) → us ≡ mid → IsFormed bad after rest (repeat ends_list step n s us)) → IsFormed bad after rest ((separator_at (codes "]") ts >>= kept s) >>= λ x. repeat ends_list step n x.0 x.1)
  behind n s ts mid rest p go = rw (regroup (separator_at (codes "]") ts) (kept s) (λ x. repeat ends_list step n x.0 x.1)) (bind p go)

  -- the closing mark stays
  closed : (ts rest : List Spot) → ts ≡ rest → is_mark (codes "]") rest ≡ true → IsFormed bad here rest (separator_at (codes "]") ts)
  unfolding separator_at
  closed ts rest e h = chosen (is_mark (codes "]") ts) _ (subst (λ (us : List Spot). is_mark (codes "]") us ≡ true) (sym e) h) (ok_formed ts e)

  parted : (ts rest : List Spot) → Spelled (Mark (codes ",")) ts rest → IsFormed bad here rest (separator_at (codes "]") ts)
  unfolding separator_at
  parted ts rest p = passed (is_mark (codes "]") ts) _ (other_text kind.Mark (codes ",") (codes "]") (first ts) refl (taken (takes_spelled kind.Mark (codes ",")) p).passes) (mark_formed (codes ",") ts rest p)

  stopped : (n : ℕ) (s : S) (ts rest : List Spot) → ts ≡ rest → 0 < n → is_mark (codes "]") rest ≡ true → IsFormed bad after rest (repeat ends_list step n s ts)
  stopped n s ts rest e p h = subst (λ (us : List Spot). IsFormed bad after rest (repeat ends_list step n s us)) (sym e) (stop_formed ends_list step n s rest p h)

  elements_by : (n : ℕ) (s : S) (ts rest front : List Spot) → Elements front → ts ≡ front ++ rest → length front < n → length front < most → is_mark (codes "]") rest ≡ true → IsFormed bad after rest (repeat ends_list step n s ts)
  unfolding repeat
  elements_by zero s ts rest front p e k m c = absurd (omega arith)
  elements_by (suc n) s ts rest _ none e k m c = chosen (is_mark (codes "]") ts) _ (subst (λ (us : List Spot). is_mark (codes "]") us ≡ true) (sym e) c) (ok_formed (s, ts) e)
  elements_by (suc n) s ts rest _ (last us a) e k m c =
      let one : Spelled Element ts rest = record { front = us; spelled = a; joined = e; few = m } in
      let j : 0 < length us = some us a in
      passed (is_mark (codes "]") ts) _ (begins ts rest one) (rw (steps s ts, regroup (read s ts)) (bind (law s ts rest one (follows_mark (codes "]") rest refl refl c)) (λ x f.
      behind n (add s x.0) x.1 rest rest (closed x.1 rest f c) (λ vs g. stopped n (add s x.0) vs rest g (omega arith) c))))
  elements_by (suc n) s ts rest _ (more us comma vs a b p) e k m c =
      let one : Spelled Element ts ((comma ++ vs) ++ rest) = front_of rest us (comma ++ vs) a e m in
      let l : length (us ++ (comma ++ vs)) ≡ length us + length (comma ++ vs) = length-append us (comma ++ vs) in
      let o : length (comma ++ vs) ≡ length comma + length vs = length-append comma vs in
      let i : 0 < length comma = token_some comma b in
      let part : Spelled (Mark (codes ",")) ((comma ++ vs) ++ rest) (vs ++ rest) = front_of rest comma vs b refl (omega arith) in
      let g : is_mark (codes ",") ((comma ++ vs) ++ rest) ≡ true = (taken (takes_spelled kind.Mark (codes ",")) part).passes in
      passed (is_mark (codes "]") ts) _ (begins ts _ one) (rw (steps s ts, regroup (read s ts)) (bind (law s ts _ one (follows_mark (codes ",") _ refl refl g)) (λ x f.
      behind n (add s x.0) x.1 (vs ++ rest) rest (parted x.1 (vs ++ rest) (subst (λ (us : List Spot). Spelled (Mark (codes ",")) us (vs ++ rest)) (sym f) part)) (λ ws h. elements_by n (add s x.0) ws rest vs p h (omega arith) (omega arith) c))))

  pub elements_formed : (s : S) (ts rest : List Spot) → Spelled Elements ts rest → is_mark (codes "]") rest ≡ true → IsFormed bad after rest (repeat ends_list step most s ts)
  elements_formed s ts rest p c = elements_by most s ts rest p.front p.spelled p.joined p.few p.few c
