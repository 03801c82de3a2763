-- Numbers, sets, ints, bools and lists: what is read is what their rules make, and what these make is read.
use Rattle.std.proofs.Common.{◌≡◌, ℕ, List, [], Bool, true, false, ◌&&◌, not, Option, Some, None, Result, Ok, Err, refl, sym, ap, subst, ◌∙◌, inl, inr, codes, ℤ}
use Rattle.std.specs.Str.{bytes_eq}
use Rattle.std.specs.Ordering.{int_cmp}
use Rattle.std.specs.BTreeSet.{insert_key}
use Rattle.fzn_lexer.specs.Spots.{Spot, first, after_first}
use Rattle.fzn_lexer.specs.declared.kind.Kind.TheVariants as kind
use Rattle.fzn_reader.specs.declared.begin.Begin.{Begin}
use Rattle.fzn_reader.specs.declared.begin.Begin.TheVariants as begin
use Rattle.fzn_reader.specs.declared.code.Code.TheVariants as code
use Rattle.fzn_reader.specs.declared.decl.Decl.{Decl}
use Rattle.fzn_reader.specs.declared.decl.Decl.TheVariants as decl
use Rattle.fzn_reader.specs.declared.refused.Refused.{Refused}
use Rattle.fzn_reader.specs.Refusals.{◌>>=◌ as ◌then◌, value_or, is_kind, is_reserved, is_mark, mark_at}
use Rattle.fzn_reader.specs.Names.{Names, find_name}
use Rattle.fzn_reader.specs.Numbers.{number_in}
use Rattle.fzn_reader.specs.Exprs.{begins}
use Rattle.fzn_reader.specs.Sets.{number_by, number_at, range_set, range_at, one_number, braces_at}
use Rattle.fzn_reader.specs.Types.{named_set, set_by, set_at}
use Rattle.fzn_parser.specs.Rules.{Rule, ◌>>=◌, makes, text}
use Rattle.fzn_parser.specs.States.{named, number, bounds, range, braces, set_in, set}
use Rattle.fzn_parser.proofs.Lawful.{takes_spelled, takes_kind, takes_name}
use Rattle.fzn_parser.proofs.BeginLaws.{Shown, shown}
use Rattle.fzn_parser.proofs.Formed.{other_kind}
use Rattle.fzn_parser.proofs.FormedBegins.{begins_kind_number, begins_name, begins_mark}
use Rattle.fzn_parser.proofs.Made.{Ready, Takes, IsSound, IsMade, Free, ok_sound, err_sound, choice, widen, next_sound, next_if, next, pass, done, stood, from, mark_made, texted, text_is, valued}
use Rattle.fzn_parser.proofs.MadeLists.{At, marks, apart, commas_made}

-- no `..` stands here
abbrev pub NoDots : List Spot → Type 0
NoDots ts = is_mark (codes "..") ts ≡ false

pub no_dots : (text : List ℕ) → bytes_eq text (codes "..") ≡ false → (ts : List Spot) → At text ts → NoDots ts
no_dots text n ts h = apart text (codes "..") ts n h

-- the number that stands first
pub number_first : (ts rest : List Spot) (z : ℤ) → number ts rest z → is_kind kind.Number (first ts).seen ≡ true
unfolding number
number_first ts rest z p = (stood (takes_kind kind.Number) p.first.0).passes

pub number_behind : (ts rest : List Spot) (z : ℤ) → number ts rest z → after_first ts ≡ rest
unfolding number
number_behind ts rest z p = (stood (takes_kind kind.Number) p.first.0).behind ∙ p.second.0

pub number_valued : (ts : List Spot) → Ready ts → is_kind kind.Number (first ts).seen ≡ true → IsMade number Free ts (value_or code.OutOfRange (number_in (first ts).text) ts)
unfolding number
number_valued ts w h = valued code.OutOfRange number_in (takes_kind kind.Number) w h

number_sound : (b : Begin) (ts : List Spot) → Ready ts → Shown b (first ts).seen (first ts).text → IsSound number ts (number_by b ts)
number_sound begin.Number ts w h = (number_valued ts w h).sound
number_sound begin.Real ts w h = err_sound _
number_sound b ts w h = err_sound _

pub number_made : (ts : List Spot) → Ready ts → IsMade number Free ts (number_at ts)
unfolding number_at
number_made ts w = record {
  sound = number_sound (begins ts) ts w (shown ts);
  exact = λ z rest p n. (let h = number_first ts rest z p in rw (begins_kind_number ts h) ((number_valued ts w h).exact z rest p n));
}

-- two numbers that are read, the first of them given
abbrev pub bounds_from : Result (ℤ × List Spot) Refused → Result ((ℤ × ℤ) × List Spot) Refused
bounds_from read = ◌then◌ read (λ low. ◌then◌ (mark_at (codes "..") low.1) (λ dots. ◌then◌ (number_at dots) (λ high. Ok ((low.0, high.0), high.1))))

abbrev pub moved : {A S : Type 0} → (A → S) → A × List Spot → Result (S × List Spot) Refused
moved g e = Ok (g e.0, e.1)

-- what is made of the numbers, in one step more
pub bounds_moved : {A : Type 0} (g : ℤ × ℤ → A) (read : Result (ℤ × List Spot) Refused) → ◌then◌ read (λ low. ◌then◌ (mark_at (codes "..") low.1) (λ dots. ◌then◌ (number_at dots) (λ high. Ok (g (low.0, high.0), high.1)))) ≡ ◌then◌ (bounds_from read) (moved g)
bounds_moved {A} g (Ok low) = by_mark (mark_at (codes "..") low.1)
  where
    by_number : (r : Result (ℤ × List Spot) Refused) → ◌then◌ r (λ high. Ok (g (low.0, high.0), high.1)) ≡ ◌then◌ (◌then◌ r (λ high. Ok ((low.0, high.0), high.1))) (moved g)
    by_number (Ok high) = refl
    by_number (Err r) = refl

    by_mark : (r : Result (List Spot) Refused) → ◌then◌ r (λ dots. ◌then◌ (number_at dots) (λ high. Ok (g (low.0, high.0), high.1))) ≡ ◌then◌ (◌then◌ r (λ dots. ◌then◌ (number_at dots) (λ high. Ok ((low.0, high.0), high.1)))) (moved g)
    by_mark (Ok dots) = by_number (number_at dots)
    by_mark (Err r) = refl
bounds_moved g (Err r) = refl

pub bounds_made : {read : Result (ℤ × List Spot) Refused} (ts : List Spot) → Ready ts → IsMade number Free ts read → IsMade bounds Free ts (bounds_from read)
unfolding bounds
bounds_made ts w p = next w p (λ low v. pass v (mark_made _ low.1 v) (λ dots v. next v (number_made dots v) (λ high v. done _ v)))

abbrev set_of_bounds : ℤ × ℤ → List (ℤ × ℤ)
set_of_bounds b = range_set b.0 b.1

range_of : {read : Result (ℤ × List Spot) Refused} (ts : List Spot) → Ready ts → IsMade number Free ts read → IsMade range Free ts (◌then◌ read (λ low. ◌then◌ (mark_at (codes "..") low.1) (λ dots. ◌then◌ (number_at dots) (λ high. Ok (range_set low.0 high.0, high.1)))))
unfolding range
range_of {read} ts w p = rw (bounds_moved set_of_bounds read) (next w (bounds_made ts w p) (λ b v. done _ v))

pub range_made : (ts : List Spot) → Ready ts → IsMade range Free ts (range_at ts)
unfolding range_at
range_made ts w = range_of ts w (number_made ts w)

one_number_made : (zs : List ℤ) (ts : List Spot) → Ready ts → IsMade (number >>= λ z. makes (insert_key int_cmp zs z)) Free ts (one_number zs ts)
unfolding one_number
one_number_made zs ts w = next w (number_made ts w) (λ z v. done _ v)

-- a number is no mark
pub number_no_mark : (text : List ℕ) (ts rest : List Spot) (z : ℤ) → number ts rest z → is_mark text ts ≡ false
number_no_mark text ts rest z p = other_kind kind.Number kind.Mark text (first ts) refl (number_first ts rest z p)

-- from its "{" on
pub braces_made : (ts : List Spot) → Ready ts → At (codes "{") ts → IsMade braces Free ts (braces_at ts)
unfolding braces_at braces
braces_made ts w h = from (takes_spelled kind.Mark (codes "{")) w h (λ v.
    next_if v (commas_made Free (codes "}") refl one_number one_number_made (λ s t ts mid p. number_no_mark (codes "}") ts p.mid p.value p.first) (λ rest h. tt) (λ rest h. tt) [] _ v)
    (λ numbers mid rest b p q. marks p.first) (λ numbers v. pass v (mark_made _ numbers.1 v) (λ close v. done _ v)))

-- what a name stands for
pub record Found {A : Type 0} (fits : Decl → Option A) (names : Names) (ts rest : List Spot) (a : A) : Type 0 where
  pub passes : (is_kind kind.Word (first ts).seen && not (is_reserved (first ts).text)) ≡ true
  pub what : Decl
  pub found : find_name names (first ts).text ≡ Some what
  pub fit : fits what ≡ Some a
  pub behind : after_first ts ≡ rest

pub named_found : {A : Type 0} (fits : Decl → Option A) (names : Names) (ts rest : List Spot) (a : A) → named fits names ts rest a → Found fits names ts rest a
unfolding named
named_found fits names ts rest a p = let s = stood takes_name p.first.0 in record {
  passes = s.passes;
  what = p.second.value;
  found = ap (find_name names) (text_is p.first) ∙ p.second.first.1;
  fit = p.second.second.1;
  behind = s.behind ∙ p.second.first.0 ∙ p.second.second.0;
}

pub named_takes : {A : Type 0} (fits : Decl → Option A) (names : Names) (ts : List Spot) (a : A) (d : Decl) → Ready ts → (is_kind kind.Word (first ts).seen && not (is_reserved (first ts).text)) ≡ true → find_name names (first ts).text ≡ Some d → fits d ≡ Some a → Takes (named fits names) ts (after_first ts) a
unfolding named
named_takes fits names ts a d w h f e = let t = texted takes_name w h in record {
  made = record { mid = after_first ts; value = (first ts).text; first = t.made; second = record { mid = after_first ts; value = d; first = (refl, f); second = (refl, e) } };
  whole = t.whole;
  shorter = t.shorter;
}

-- a set, and whether there is room for it
abbrev pub Roomy : {A : Type 0} → Bool → Rule A → Rule A
Roomy room X ts rest a = X ts rest a × (room ≡ true)

module _ (names : Names) (ts : List Spot) (w : Ready ts) where
  named_set_sound : (room : Bool) (o : Option Decl) → (is_kind kind.Word (first ts).seen && not (is_reserved (first ts).text)) ≡ true → find_name names (first ts).text ≡ o → IsSound (Roomy room (named set_in names)) ts (named_set room o ts)
  named_set_sound room None h f = err_sound _
  named_set_sound true (Some (decl.Set runs)) h f = let t = named_takes set_in names ts runs (decl.Set runs) w h f refl in ok_sound (runs, after_first ts) (record { made = (t.made, refl); whole = t.whole; shorter = t.shorter })
  named_set_sound false (Some (decl.Set runs)) h f = err_sound _
  named_set_sound room (Some d) h f = err_sound _

  range_from : is_kind kind.Number (first ts).seen ≡ true → IsMade range Free ts (◌then◌ (value_or code.OutOfRange (number_in (first ts).text) ts) (λ low. ◌then◌ (mark_at (codes "..") low.1) (λ dots. ◌then◌ (number_at dots) (λ high. Ok (range_set low.0 high.0, high.1)))))
  range_from h = range_of ts w (number_valued ts w h)

  set_sound : (b : Begin) (room : Bool) → Shown b (first ts).seen (first ts).text → IsSound (Roomy room (set names)) ts (set_by b room names ts)
  unfolding set
  set_sound begin.Number true h = choice (is_mark (codes "..") (after_first ts)) (λ e. widen (λ rest a p. (inl p, refl)) (range_from h).sound) (λ e. err_sound _)
  set_sound begin.Number false h = choice (is_mark (codes "..") (after_first ts)) (λ e. widen (λ rest a p. absurd p.second) (next_sound {Y = λ z us rest a. ⊥} _ (number_valued ts w h).sound (λ low t. err_sound _))) (λ e. err_sound _)
  set_sound begin.Real room h = err_sound _
  set_sound (begin.Truth b) room h = err_sound _
  set_sound begin.Name room h = widen (λ rest a p. (inr (inr p.0), p.1)) (named_set_sound room (find_name names (first ts).text) h refl)
  set_sound begin.Brace true h = widen (λ rest a p. (inr (inl p), refl)) (braces_made ts w h).sound
  set_sound begin.Brace false h = err_sound _
  set_sound begin.Bracket room h = err_sound _
  set_sound begin.Other room h = err_sound _

  brace_first : (rest : List Spot) (a : List (ℤ × ℤ)) → braces ts rest a → At (codes "{") ts
  unfolding braces
  brace_first rest a p = marks p.first

  range_first : (rest : List Spot) (a : List (ℤ × ℤ)) → range ts rest a → (is_kind kind.Number (first ts).seen ≡ true) × At (codes "..") (after_first ts)
  unfolding range bounds
  range_first rest a p = let q = p.first in (number_first ts q.mid q.value q.first, subst (At (codes "..")) (sym (number_behind ts q.mid q.value q.first)) (marks q.second.first))

  set_named : (a : List (ℤ × ℤ)) (rest : List Spot) → Found set_in names ts rest a → named_set true (find_name names (first ts).text) ts ≡ Ok (a, rest)
  set_named a rest f = rw f.found (by_decl f.what f.fit)
    where
      by_decl : (d : Decl) → set_in d ≡ Some a → named_set true (Some d) ts ≡ Ok (a, rest)
      by_decl (decl.Set runs) e = let b = f.behind in cc
      by_decl d e = absurd (cc)

  pub set_exact : (a : List (ℤ × ℤ)) (rest : List Spot) → set names ts rest a → set_at true names ts ≡ Ok (a, rest)
  unfolding set set_at
  set_exact a rest p = elim p [
    | inl p ↦ (let (h, d) = range_first rest a p in rw (begins_kind_number ts h, d) ((range_from h).exact a rest p tt))
    | inr p ↦ elim p [
      | inl p ↦ (let h = brace_first rest a p in rw (begins_mark ts begin.Brace (codes "{") refl h) ((braces_made ts w h).exact a rest p tt))
      | inr p ↦ (let f = named_found set_in names ts rest a p in rw (begins_name ts f.passes) (set_named a rest f))
    ]
  ]

  pub set_roomy : (room : Bool) → IsSound (Roomy room (set names)) ts (set_at room names ts)
  unfolding set_at
  set_roomy room = set_sound (begins ts) room (shown ts)

pub set_made : (names : Names) (ts : List Spot) → Ready ts → IsMade (set names) Free ts (set_at true names ts)
set_made names ts w = record { sound = widen (λ rest a p. p.0) (set_roomy names ts w true); exact = λ a rest p n. set_exact names ts w a rest p }
