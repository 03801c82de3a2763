-- One turn of a repetition.
use Rattle.std.proofs.Common.{◌≡◌, ℕ, zero, suc, ◌+◌, ◌<◌, List, Result, Ok, Err, Bool, true, false, refl, arith, add-one}
use Rattle.fzn_lexer.specs.Spots.{Spot}
use Rattle.fzn_reader.specs.declared.code.Code.TheVariants as code
use Rattle.fzn_reader.specs.declared.refused.Refused.{Refused}
use Rattle.fzn_reader.specs.declared.parse_fault.ParseFault.{ParseFault}
use Rattle.fzn_reader.specs.declared.parse_fault.ParseFault.TheVariants as fault
use Rattle.fzn_reader.specs.Refusals.{refuse, repeat}
use Rattle.fzn_reader.specs.Answers.{Fails}

module _ {S : Type 0} (stop : S → List Spot → Bool) (step : S → List Spot → Result (S × List Spot) Refused) where
  pub repeat_stop : (n : ℕ) (s : S) (ts : List Spot) → 0 < n → stop s ts ≡ true → repeat stop step n s ts ≡ Ok (s, ts)
  unfolding repeat
  repeat_stop zero s ts p h = absurd (omega arith)
  repeat_stop (suc n) s ts p h = rw h refl

  pub repeat_more : (n m : ℕ) (s s' : S) (ts ts' : List Spot) → n ≡ m + 1 → stop s ts ≡ false → step s ts ≡ Ok (s', ts') → repeat stop step n s ts ≡ repeat stop step m s' ts'
  unfolding repeat
  repeat_more n m s s' ts ts' p h r = rw (p, add-one, h, r) refl

  pub repeat_refuse : (r : Refused) (n : ℕ) (s : S) (ts : List Spot) → 0 < n → stop s ts ≡ false → step s ts ≡ Err r → repeat stop step n s ts ≡ Err r
  unfolding repeat
  repeat_refuse r zero s ts p h e = absurd (omega arith)
  repeat_refuse r (suc n) s ts p h e = rw (h, e) refl

  pub repeat_fail : (e : ParseFault) (n : ℕ) (s : S) (ts : List Spot) → 0 < n → stop s ts ≡ false → Fails e (step s ts) → Fails e (repeat stop step n s ts)
  repeat_fail fault.NoMemory n s ts p h e = tt
  repeat_fail (fault.Refused r) n s ts p h e = repeat_refuse r n s ts p h e

  pub repeat_none : (n : ℕ) (s : S) (ts : List Spot) → n ≡ 0 → repeat stop step n s ts ≡ refuse code.Syntax ts
  unfolding repeat
  repeat_none n s ts p = rw p refl
