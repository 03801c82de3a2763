-- Repetitions, with commas and without: what is read is what their rules make, and what these make is read.
use Rattle.std.proofs.Common.{◌≡◌, ℕ, zero, suc, ◌<◌, ◌≤◌, List, [], ◌∷◌, length, Bool, true, false, cond, not, Result, Ok, Err, refl, sym, ap, subst, inl, inr, codes, arith}
use Rattle.std.specs.Str.{bytes_eq}
use Rattle.fzn_lexer.specs.Spots.{Spot, first, IsWhole}
use Rattle.fzn_lexer.specs.declared.kind.Kind.TheVariants as kind
use Rattle.fzn_reader.specs.declared.refused.Refused.{Refused}
use Rattle.fzn_reader.specs.Refusals.{◌>>=◌ as ◌then◌, is_spelled, is_mark, mark_at, separator_at, repeat, most, no_comma, next_at, more_at, separated_at}
use Rattle.fzn_reader.specs.Lists.{ends_list}
use Rattle.fzn_parser.specs.Rules.{Rule, ◌>>=◌, Stands, mark, Each, none, more, Commas, Listed, last}
use Rattle.fzn_parser.proofs.Lawful.{takes_spelled}
use Rattle.fzn_parser.proofs.ListLaws.{kept}
use Rattle.fzn_parser.proofs.Formed.{other_text}
use Rattle.fzn_parser.proofs.Made.{Ready, Takes, IsSound, IsMade, IsPassed, Free, ready, ok_sound, err_sound, choice, widen, next_sound, next_if, pass, stood, mark_made}

-- a place at which a mark stands
abbrev pub At : List ℕ → List Spot → Type 0
At text ts = is_mark text ts ≡ true

pub marks : {text : List ℕ} {ts rest : List Spot} → Stands (is_spelled kind.Mark text) ts rest → At text ts
marks {text} s = (stood (takes_spelled kind.Mark text) s).passes

-- a mark is no other
pub apart : (text other : List ℕ) (ts : List Spot) → bytes_eq text other ≡ false → At text ts → is_mark other ts ≡ false
apart text other ts n h = other_text kind.Mark text other (first ts) n h

pub mark_exact : (text : List ℕ) (ts rest : List Spot) → Stands (is_spelled kind.Mark text) ts rest → mark_at text ts ≡ Ok rest
unfolding mark_at
mark_exact text ts rest s = let t = stood (takes_spelled kind.Mark text) s in let h : is_mark text ts ≡ true = t.passes in rw h (ap Ok t.behind)

whole_some : (ts : List Spot) → IsWhole ts → 0 < length ts
whole_some [] w = absurd w
whole_some (s ∷ ss) w = omega arith

-- a mark and more leave less
strict_by : {B : Type 0} {Y : Rule B} (text : List ℕ) (ts : List Spot) (read : Result (List Spot) Refused) (f : List Spot → Result (B × List Spot) Refused) → Ready ts → IsPassed (mark text) Free ts read → ((mid : List Spot) → Ready mid → IsSound Y mid (f mid))
    → (x : B × List Spot) → ◌then◌ read f ≡ Ok x → length x.1 < length ts
strict_by text ts (Ok mid) f w p k x e =
    let t = p.it.sound.takes (tt, mid) refl in
    let h = ((k mid (ready w t)).takes x e).shorter in
    let n : length ts ≡ suc (length mid) = ap length t.made.joined in
    omega arith
strict_by text ts (Err r) f w p k x e = absurd (cc)

pub mark_strict : {B : Type 0} {Y : Rule B} (text : List ℕ) (ts : List Spot) (f : List Spot → Result (B × List Spot) Refused) → Ready ts → ((mid : List Spot) → Ready mid → IsSound Y mid (f mid)) → (x : B × List Spot) → ◌then◌ (mark_at text ts) f ≡ Ok x → length x.1 < length ts
mark_strict text ts f w k x e = strict_by text ts (mark_at text ts) f w (mark_made text ts w) k x e

-- what holds behind a repetition, and where its rule begins, holds where it begins
pub each_front : {S : Type 0} {X : S → Rule S} (P Q : List Spot → Type 0) → ((rest : List Spot) → Q rest → P rest) → ((s t : S) (ts mid : List Spot) → X s ts mid t → P ts) → (s u : S) (ts rest : List Spot) → Each X s ts rest u → Q rest → P ts
each_front P Q h k _ _ _ _ (none s ts) q = h ts q
each_front P Q h k _ _ _ _ (more s t u ts mid rest a b) q = k s t ts mid a

module _ {S : Type 0} {X : S → Rule S} (P Q : List Spot → Type 0) (stop : S → List Spot → Bool) (step : S → List Spot → Result (S × List Spot) Refused)
    (law : (s : S) (ts : List Spot) → Ready ts → stop s ts ≡ false → IsMade (X s) P ts (step s ts))
    (strict : (s : S) (ts : List Spot) → Ready ts → (x : S × List Spot) → step s ts ≡ Ok x → length x.1 < length ts)
    (ends : (s : S) (rest : List Spot) → Q rest → stop s rest ≡ true)
    (goes : (s t : S) (ts mid : List Spot) → X s ts mid t → stop s ts ≡ false)
    (at_end : (rest : List Spot) → Q rest → P rest)
    (at_more : (s t : S) (ts mid : List Spot) → X s ts mid t → P ts) where
  sound_by : (n : ℕ) (s : S) (ts : List Spot) → Ready ts → IsSound (Each X s) ts (repeat stop step n s ts)
  unfolding repeat
  sound_by zero s ts w = err_sound _
  sound_by (suc n) s ts w = choice (stop s ts) (λ h. ok_sound (s, ts) (record { made = none s ts; whole = w.whole; shorter = omega arith }))
      (λ h. widen (λ rest u p. more s p.value u ts p.mid rest p.first p.second) (next_sound (step s ts) (law s ts w h).sound (λ x t. sound_by n x.0 x.1 (ready w t))))

  exact_by : (n : ℕ) (s u : S) (ts rest : List Spot) → Each X s ts rest u → Q rest → Ready ts → length ts ≤ n → repeat stop step n s ts ≡ Ok (u, rest)
  unfolding repeat
  exact_by zero s u ts rest p q w k = let h = whole_some ts w.whole in absurd (omega arith)
  exact_by (suc n) _ _ _ _ (none s ts) q w k = rw (ends s ts q) refl
  exact_by (suc n) _ _ _ _ (more s t u ts mid rest a b) q w k =
      let h = goes s t ts mid a in
      let l = law s ts w h in
      let r = l.exact t mid a (each_front P Q at_end at_more t u mid rest b q) in
      let m = strict s ts w (t, mid) r in
      rw (h, r) (exact_by n t u mid rest b q (ready w (l.sound.takes (t, mid) r)) (omega arith))

  pub repeat_made : (s : S) (ts : List Spot) → Ready ts → IsMade (Each X s) Q ts (repeat stop step most s ts)
  repeat_made s ts w = record { sound = sound_by most s ts w; exact = λ u rest p q. exact_by most s u ts rest p q w w.few }

module _ {S : Type 0} {X : S → Rule S} (P : List Spot → Type 0) (close : List ℕ) (other : bytes_eq close (codes ",") ≡ false) (step : S → List Spot → Result (S × List Spot) Refused)
    (law : (s : S) (ts : List Spot) → Ready ts → IsMade (X s) P ts (step s ts))
    (opens : (s t : S) (ts mid : List Spot) → X s ts mid t → is_mark close ts ≡ false)
    (at_close : (rest : List Spot) → At close rest → P rest)
    (at_comma : (rest : List Spot) → At (codes ",") rest → P rest) where
  next_made : (s : S) (ts : List Spot) → Ready ts → IsMade (mark (codes ",") >>= λ u. X s) P ts (next_at step s ts)
  unfolding next_at
  next_made s ts w = pass w (mark_made _ ts w) (λ rest v. law s rest v)

  next_strict : (s : S) (ts : List Spot) → Ready ts → (x : S × List Spot) → next_at step s ts ≡ Ok x → length x.1 < length ts
  unfolding next_at
  next_strict s ts w x e = mark_strict {Y = X s} (codes ",") ts (λ rest. step s rest) w (λ mid v. (law s mid v).sound) x e

  more_made : (s : S) (ts : List Spot) → Ready ts → IsMade (Each (λ t. mark (codes ",") >>= λ u. X t) s) (At close) ts (more_at step s ts)
  unfolding more_at
  more_made s ts w = repeat_made P (At close) no_comma (next_at step) (λ s ts w h. next_made s ts w) next_strict (λ s rest q. ap not (apart close (codes ",") rest other q)) (λ s t ts mid p. ap not (marks p.first)) at_close (λ s t ts mid p. at_comma ts (marks p.first)) s ts w

  some_made : (s : S) (ts : List Spot) → Ready ts → IsMade (X s >>= Each (λ t. mark (codes ",") >>= λ u. X t)) (At close) ts (◌then◌ (step s ts) (λ x. more_at step x.0 x.1))
  some_made s ts w = next_if w (law s ts w) (λ t mid rest u p q. each_front P (At close) at_close (λ s t ts mid p. at_comma ts (marks p.first)) t u mid rest p q) (λ x v. more_made x.0 x.1 v)

  pub commas_made : (s : S) (ts : List Spot) → Ready ts → IsMade (Commas X s) (At close) ts (separated_at close step s ts)
  unfolding separated_at
  commas_made s ts w = record {
    sound = choice (is_mark close ts) (λ h. ok_sound (s, ts) (record { made = inl (refl, refl); whole = w.whole; shorter = omega arith })) (λ h. widen (λ rest u p. inr p) (some_made s ts w).sound);
    exact = λ u rest p q. elim p [
      | inl e ↦ (let f = e.0 in let g = e.1 in let h : is_mark close ts ≡ true = subst (At close) (sym f) q in rw h cc)
      | inr m ↦ (let h = opens s m.value ts m.mid m.first in rw h ((some_made s ts w).exact u rest m q))
    ];
  }

-- a list whose last comma may stand before its "]"
module _ {S : Type 0} {X : S → Rule S} (P : List Spot → Type 0) (read step : S → List Spot → Result (S × List Spot) Refused)
    (steps : (s : S) (ts : List Spot) → step s ts ≡ ◌then◌ (read s ts) (λ x. ◌then◌ (separator_at (codes "]") x.1) (kept x.0)))
    (law : (s : S) (ts : List Spot) → Ready ts → IsMade (X s) P ts (read s ts))
    (strict : (s : S) (ts : List Spot) → Ready ts → (x : S × List Spot) → read s ts ≡ Ok x → length x.1 < length ts)
    (opens : (s t : S) (ts mid : List Spot) → X s ts mid t → is_mark (codes "]") ts ≡ false)
    (at_close : (rest : List Spot) → At (codes "]") rest → P rest)
    (at_comma : (rest : List Spot) → At (codes ",") rest → P rest) where
  stopped : (n : ℕ) (s : S) (ts : List Spot) → 0 < n → At (codes "]") ts → repeat ends_list step n s ts ≡ Ok (s, ts)
  unfolding repeat
  stopped zero s ts k h = absurd (omega arith)
  stopped (suc n) s ts k h = rw h refl

  -- behind an element that stands last
  last_sound : (n : ℕ) (s t : S) (ts mid : List Spot) → Takes (X s) ts mid t → At (codes "]") mid → IsSound (Listed X s) ts (repeat ends_list step n t mid)
  unfolding repeat
  last_sound zero s t ts mid p h = err_sound _
  last_sound (suc n) s t ts mid p h = rw h (ok_sound (t, mid) (record { made = last s t ts mid p.made; whole = p.whole; shorter = p.shorter }))

  comma_sound : (n : ℕ) (s t : S) (ts mid : List Spot) → Takes (X s) ts mid t → ((u : S) (us : List Spot) → Ready us → IsSound (Listed X u) us (repeat ends_list step n u us)) → (r : Result (List Spot) Refused) → IsPassed (mark (codes ",")) Free mid r → Ready mid
      → IsSound (Listed X s) ts (◌then◌ (◌then◌ r (kept t)) (λ x. repeat ends_list step n x.0 x.1))
  comma_sound n s t ts mid p go (Ok us) c w =
      let q = c.it.sound.takes (tt, us) refl in
      let k = go t us (ready w q) in
      record { takes = λ y e. (let a = k.takes y e in let i = p.shorter in let j = q.shorter in let l = a.shorter in record { made = more s t y.0 ts mid us y.1 p.made q.made a.made; whole = a.whole; shorter = omega arith }) }
  comma_sound n s t ts mid p go (Err r) c w = err_sound r

  behind_sound : (n : ℕ) (s t : S) (ts mid : List Spot) → Takes (X s) ts mid t → Ready mid → ((u : S) (us : List Spot) → Ready us → IsSound (Listed X u) us (repeat ends_list step n u us)) → (b : Bool) → is_mark (codes "]") mid ≡ b
      → IsSound (Listed X s) ts (◌then◌ (◌then◌ (cond b (Ok mid) (mark_at (codes ",") mid)) (kept t)) (λ x. repeat ends_list step n x.0 x.1))
  behind_sound n s t ts mid p w go true h = last_sound n s t ts mid p h
  behind_sound n s t ts mid p w go false h = comma_sound n s t ts mid p go (mark_at (codes ",") mid) (mark_made _ mid w) w

  read_sound : (n : ℕ) (s : S) (ts : List Spot) → Ready ts → ((u : S) (us : List Spot) → Ready us → IsSound (Listed X u) us (repeat ends_list step n u us)) → (r : Result (S × List Spot) Refused) → IsSound (X s) ts r
      → IsSound (Listed X s) ts (◌then◌ (◌then◌ r (λ x. ◌then◌ (separator_at (codes "]") x.1) (kept x.0))) (λ x. repeat ends_list step n x.0 x.1))
  unfolding separator_at
  read_sound n s ts w go (Ok x) p = let t = p.takes x refl in behind_sound n s x.0 ts x.1 t (ready w t) go (is_mark (codes "]") x.1) refl
  read_sound n s ts w go (Err r) p = err_sound r

  list_sound : (n : ℕ) (s : S) (ts : List Spot) → Ready ts → IsSound (Listed X s) ts (repeat ends_list step n s ts)
  unfolding repeat
  list_sound zero s ts w = err_sound _
  list_sound (suc n) s ts w = choice (is_mark (codes "]") ts) (λ h. ok_sound (s, ts) (record { made = none s ts; whole = w.whole; shorter = omega arith }))
      (λ h. rw (steps s ts) (read_sound n s ts w (list_sound n) (read s ts) (law s ts w).sound))

  closes : (ts : List Spot) → At (codes "]") ts → separator_at (codes "]") ts ≡ Ok ts
  unfolding separator_at
  closes ts h = rw h refl

  parts : (ts rest : List Spot) → Stands (is_spelled kind.Mark (codes ",")) ts rest → separator_at (codes "]") ts ≡ Ok rest
  unfolding separator_at
  parts ts rest s = let h = apart (codes ",") (codes "]") ts refl (marks s) in rw (h, mark_exact (codes ",") ts rest s) refl

  list_exact : (n : ℕ) (s u : S) (ts rest : List Spot) → Listed X s ts rest u → At (codes "]") rest → Ready ts → length ts ≤ n → repeat ends_list step n s ts ≡ Ok (u, rest)
  unfolding repeat
  list_exact zero s u ts rest p q w k = let h = whole_some ts w.whole in absurd (omega arith)
  list_exact (suc n) _ _ _ _ (none s ts) q w k = rw q refl
  list_exact (suc n) _ _ _ _ (last s t ts rest a) q w k =
      let h = opens s t ts rest a in
      let l = law s ts w in
      let r = l.exact t rest a (at_close rest q) in
      let m = strict s ts w (t, rest) r in
      let i = whole_some rest (l.sound.takes (t, rest) r).whole in
      rw (h, steps s ts, r, closes rest q, stopped n t rest (omega arith) q) refl
  list_exact (suc n) _ _ _ _ (more s t u ts mid us rest a c b) q w k =
      let h = opens s t ts mid a in
      let l = law s ts w in
      let r = l.exact t mid a (at_comma mid (marks c)) in
      let m = strict s ts w (t, mid) r in
      let v = ready w (l.sound.takes (t, mid) r) in
      let j : length mid ≡ suc (length us) = ap length c.joined in
      let z = ready v ((mark_made (codes ",") mid v).it.sound.takes (tt, us) (rw (mark_exact (codes ",") mid us c) refl)) in
      rw (h, steps s ts, r, parts mid us c) (list_exact n t u us rest b q z (omega arith))

  pub listed_made : (s : S) (ts : List Spot) → Ready ts → IsMade (Listed X s) (At (codes "]")) ts (repeat ends_list step most s ts)
  listed_made s ts w = record { sound = list_sound most s ts w; exact = λ u rest p q. list_exact most s u ts rest p q w w.few }
