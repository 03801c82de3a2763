-- Repetitions with commas: each reads what its rule spells.
use Rattle.std.proofs.Common.{◌≡◌, ℕ, zero, suc, List, [], ◌++◌, Bool, true, false, cond, Result, Ok, Err, refl, sym, ap, subst, ◌∙◌, inl, inr, codes}
use Rattle.std.proofs.lemmas.List.{append-nil}
use Rattle.fzn_lexer.specs.Spots.{Spot, IsWhole}
use Rattle.fzn_reader.specs.declared.code.Code.TheVariants as code
use Rattle.fzn_reader.specs.declared.refused.Refused.{Refused}
use Rattle.fzn_reader.specs.Refusals.{◌>>=◌, is_mark, mark_at, separator_at, repeat, most, next_at, more_at, separated_at}
use Rattle.fzn_reader.specs.Lists.{ends_list}
use Rattle.fzn_parser.specs.Grammar.{◌·◌, Many, Separated, Mark, Element, Elements, none, last, more}
use Rattle.fzn_parser.specs.Laws.{Reads}
use Rattle.fzn_parser.proofs.Samples.{Sample, whole_of, no_more, elements_sample}
use Rattle.fzn_parser.proofs.Lawful.{IsLawful, after, is_ok, refused, onward, given, next, widen, choice, nothing_read, mark_law, repeat_law, repeat_stopped}

module _ {S : Type 0} {X : List Spot → Type 0} (close : List ℕ) (step : S → List Spot → Result (S × List Spot) Refused) (law : (s : S) (ts : List Spot) → IsWhole ts → IsLawful X after ts (step s ts)) (sample : Sample X) where
  next_law : (s : S) (ts : List Spot) → IsWhole ts → IsLawful (Mark (codes ",") · X) after ts (next_at step s ts)
  unfolding next_at
  next_law s ts w = next (mark_law _ ts w) sample (λ rest p. law s rest p)

  more_law : (s : S) (ts : List Spot) → IsWhole ts → IsLawful (Many (Mark (codes ",") · X)) after ts (more_at step s ts)
  unfolding more_at
  more_law s ts w = repeat_law _ _ (λ t us p h. next_law t us p) most s ts w

  pub separated_law : (s : S) (ts : List Spot) → IsWhole ts → IsLawful (Separated X) after ts (separated_at close step s ts)
  unfolding separated_at
  separated_law s ts w = choice (is_mark close ts) (λ h. is_ok (s, ts) (nothing_read ts (inl refl) w)) (λ h. widen (λ us p. inr p) (next (law s ts w) no_more (λ x p. more_law x.0 x.1 p)))

last_element : (us : List Spot) → (Element · (λ vs. vs ≡ [])) us → Elements us
last_element us p = let e : us ≡ p.front = p.joined ∙ ap (λ (vs : List Spot). p.front ++ vs) p.second ∙ append-nil p.front in subst Elements (sym e) (last p.front p.first)

more_elements : (us : List Spot) → (Element · Mark (codes ",") · Elements) us → Elements us
more_elements us p =
    let e : us ≡ p.front ++ (p.second.front ++ p.second.back) = p.joined ∙ ap (λ (vs : List Spot). p.front ++ vs) p.second.joined in
    subst Elements (sym e) (more p.front p.second.front p.second.back p.first p.second.first p.second.second)

pub regroup : {B C D : Type 0} (r : Result B Refused) (f : B → Result C Refused) (g : C → Result D Refused) → ((r >>= f) >>= g) ≡ (r >>= λ x. f x >>= g)
regroup (Ok x) f g = refl
regroup (Err e) f g = refl

abbrev pub kept : {S : Type 0} → S → List Spot → Result (S × List Spot) Refused
kept s rest = Ok (s, rest)

-- a list whose last comma may stand before its "]"
module _ {S A : Type 0} (read : S → List Spot → Result (A × List Spot) Refused) (add : S → A → S) (step : S → List Spot → Result (S × List Spot) Refused)
    (steps : (s : S) (ts : List Spot) → step s ts ≡ (read s ts >>= λ x. separator_at (codes "]") x.1 >>= λ rest. Ok (add s x.0, rest)))
    (law : (s : S) (ts : List Spot) → IsWhole ts → IsLawful Element after ts (read s ts)) where
  behind_by : (n : ℕ) (s : S) (ts rest : List Spot) → Reads Element ts rest → ((us : List Spot) → IsWhole us → IsLawful Elements after us (repeat ends_list step n s us)) → (b : Bool) → is_mark (codes "]") rest ≡ b
      → IsLawful Elements after ts ((cond b (Ok rest) (mark_at (codes ",") rest) >>= kept s) >>= λ x. repeat ends_list step n x.0 x.1)
  behind_by n s ts rest r go true h = widen last_element (onward r (repeat_stopped ends_list step n s rest refl r.whole h))
  behind_by n s ts rest r go false h = widen more_elements (onward r (rw (regroup (mark_at (codes ",") rest) (kept s) (λ x. repeat ends_list step n x.0 x.1)) (next (mark_law (codes ",") rest r.whole) elements_sample go)))

  behind_element : (n : ℕ) (s : S) (ts rest : List Spot) → Reads Element ts rest → ((us : List Spot) → IsWhole us → IsLawful Elements after us (repeat ends_list step n s us))
      → IsLawful Elements after ts ((separator_at (codes "]") rest >>= kept s) >>= λ x. repeat ends_list step n x.0 x.1)
  unfolding separator_at
  behind_element n s ts rest r go = behind_by n s ts rest r go (is_mark (codes "]") rest) refl

  pub elements_law : (n : ℕ) (s : S) (ts : List Spot) → IsWhole ts → IsLawful Elements after ts (repeat ends_list step n s ts)
  unfolding repeat
  elements_law zero s ts w = refused code.Syntax ts w refl elements_sample
  elements_law (suc n) s ts w = choice (is_mark (codes "]") ts) (λ h. is_ok (s, ts) (nothing_read ts none w))
      (λ h. rw (steps s ts, regroup (read s ts)) (given (law s ts w) (whole_of last) (λ x r. behind_element n (add s x.0) ts x.1 r (λ us p. elements_law n (add s x.0) us p))))
