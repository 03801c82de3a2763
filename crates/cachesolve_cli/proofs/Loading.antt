-- What a source had left, from what was taken of it.
use Rattle.std.proofs.Common.{◌≡◌, ℕ, ◌+◌, ◌-◌, ◌≤◌, ◌<◌, List, [], ◌++◌, length, take, drop, refl, arith, ◌∙◌, sym, ap, append-nil, length-append, true, subst}
use Rattle.std.specs.Prelude.{Some, None, Err, nat_lt}
use Rattle.std.specs.declared.option.Option.{Option}
use Rattle.std.specs.Io.KnownBytes.{Consumes, IsAtEnd}
use Rattle.std.proofs.lemmas.Bool.Decides.{nat_tests}
use Rattle.std.proofs.lemmas.List.{take_all, drop_all}
use Rattle.cs_base.specs.Chosen.{Chose}
use denote.Ref.{Bor}
use Rattle.fzn_reader.specs.declared.refused.Refused.{Refused}
use Rattle.fzn_reader.specs.Reading.{reads, too_long}
use Rattle.cachesolve_cli.specs.declared.ending.Ending.TheVariants as ending
use Rattle.cachesolve_cli.specs.Ways.{token_of, EndsOver}
use Rattle.cachesolve_cli.specs.Stages.{IsAll}

pub all_taken : (left new : Option (List ℕ)) (bytes : List ℕ) → Consumes left new bytes → IsAtEnd new → IsAll left bytes
all_taken None new bytes p q = tt
all_taken (Some xs) None bytes p q = absurd p
all_taken (Some xs) (Some ys) bytes p q = p ∙ ap (λ t. bytes ++ t) q ∙ append-nil bytes

long_read : (xs : List ℕ) → 67108864 < length xs → reads xs ≡ Err too_long
unfolding reads
long_read xs h =
    let long : nat_lt 67108864 (length xs) ≡ true = grind (arith, nat_tests) in
    rw long refl

-- one byte more than the limit
pub long_refused : (left new : Option (List ℕ)) (bytes : List ℕ) (r : Refused) (token : Bor (List ℕ)) → Consumes left new bytes → length bytes ≡ 67108864 + 1 → r ≡ too_long → token.now ≡ [] → EndsOver left (ending.Refused r token)
unfolding token_of
long_refused None new bytes r token p h e n = tt
long_refused (Some xs) None bytes r token p h e n = absurd p
long_refused (Some xs) (Some ys) bytes r token p h e n = record {
  refused = long_read xs (omega (arith, h, ap length p, length-append bytes ys)) ∙ ap (λ x. Err x) (sym e);
  shown = n ∙ sym (ap (λ x. take (x.to - x.from) (drop x.from xs)) e);
}

-- what was chosen stays
pub chose_same : (before now : Option (Option (List ℕ))) (name : Option (List ℕ)) → now ≡ before → Chose before name → Chose now name
chose_same before now name e p = subst (λ (x : Option (Option (List ℕ))). Chose x name) (sym e) p

-- the bytes behind, and at the front
pub none_behind : (n : ℕ) (xs : List ℕ) → length xs ≤ n → [] ≡ drop n xs
none_behind n xs h = sym (drop_all n xs h)

pub all_in_front : (n : ℕ) (xs : List ℕ) → length xs ≤ n → xs ≡ take n xs
all_in_front n xs h = sym (take_all n xs h)
