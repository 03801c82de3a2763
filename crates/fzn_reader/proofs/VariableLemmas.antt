-- What one variable more keeps.
use Rattle.std.proofs.Common.{◌≡◌, ℕ, ◌+◌, ◌-◌, ◌*◌, ◌<◌, ◌≤◌, List, [], ◌∷◌, ◌++◌, Bool, true, false, ◌&&◌, length, get_or, refl, sym, ap, ◌∙◌, subst, arith, ℤ, pos, negsuc, ◌-ℤ◌, int_le, nat_lt}
use Rattle.std.specs.Prelude.{All}
use Rattle.std.proofs.lemmas.Int.{ints}
use Rattle.std.proofs.lemmas.List.{length_push}
use Rattle.std.proofs.lemmas.List.Elements.{All-push}
use Rattle.std.proofs.lemmas.Bool.Decides.{nat_tests}
use Rattle.std.proofs.Math.Seq.{get_or-append_seam}
use Rattle.fzn_model.specs.declared.term.Term.{Term}
use Rattle.fzn_model.specs.declared.term.Term.TheVariants.{Var}
use Rattle.fzn_model.specs.declared.con.Con.{Con}
use Rattle.fzn_model.specs.Sets.{low_of, high_of}
use Rattle.fzn_model.specs.Limits.{TermIn, IsBit, IsValue, DomainInLimits}
use Rattle.fzn_reader.specs.Drafts.{is_wide, hull, member_of, equals_of, variable_of}
use Rattle.fzn_reader.specs.Invariants.{SetKept, ConFits, DeclKept}

longer : (ds : List (List (ℤ × ℤ))) (d : List (ℤ × ℤ)) (var : ℕ) → var ≡ length ds → var < length (ds ++ d ∷ [])
longer ds d var e = omega (arith, length_push ds d)

pub member_fits : (ds : List (List (ℤ × ℤ))) (d : List (ℤ × ℤ)) (var : ℕ) (set : List (ℤ × ℤ)) → var ≡ length ds → SetKept set → ConFits (ds ++ d ∷ []) (member_of var set)
member_fits ds d var set e p = record { kept = record { x = longer ds d var e; set = p }; truths = tt }

one : {X : Type 0} (P : X → Type 0) (x : X) → P x → All P (x ∷ [])
one P x p = All-push P [] x (λ k d h. absurd (omega arith)) p

pair : {X : Type 0} (P : X → Type 0) (x y : X) → P x → P y → All P (x ∷ y ∷ [])
pair P x y p q = All-push P (x ∷ []) y (one P x p) q

pub equals_fits : (ds : List (List (ℤ × ℤ))) (var : ℕ) (t : Term) → var < length ds → TermIn (length ds) t → ConFits ds (equals_of var t)
equals_fits ds var t h p = record {
  kept = record {
    sum = record {
      count = omega arith;
      factors = pair (λ x. IsValue x.0) (pos 1, Var var) (negsuc 0, t) (omega arith) (omega arith);
      terms = pair (λ x. TermIn (length ds) x.1) (pos 1, Var var) (negsuc 0, t) h p;
    };
    constant = omega arith;
  };
  truths = tt;
}

pub wide_some : (set : List (ℤ × ℤ)) → is_wide set ≡ true → 0 < length set
wide_some [] h = absurd (cc)
wide_some (x ∷ xs) h = omega arith

pub hull_kept : (set : List (ℤ × ℤ)) → is_wide set ≡ true → SetKept set → DomainInLimits (hull set)
hull_kept set h p =
    let some : 0 < length set = wide_some set h in
    record {
      values = one (λ run. IsValue run.0 × IsValue run.1) (low_of set, high_of set) ((p 0 (pos 0, pos 0) some).0, (p (length set - 1) (pos 0, pos 0) (omega arith)).1);
      narrow = λ gap. absurd (omega arith);
    }

second : (a b : Bool) → (a && b) ≡ false → a ≡ true → b ≡ false
second true b h t = h
second false b h t = absurd (cc)

pub narrow_kept : (set : List (ℤ × ℤ)) → is_wide set ≡ false → SetKept set → DomainInLimits set
narrow_kept set h p = record {
  values = p;
  narrow = λ gap.
      let more : nat_lt 1 (length set) ≡ true = grind (arith, nat_tests) in
      let narrow : int_le (pos 1024) (high_of set -ℤ low_of set) ≡ false = second (nat_lt 1 (length set)) (int_le (pos 1024) (high_of set -ℤ low_of set)) h more in
      grind (arith, ints, narrow);
}

pub variable_kept : (ds : List (List (ℤ × ℤ))) (set : List (ℤ × ℤ)) (var : ℕ) (truth : Bool) → var ≡ length ds → (truth ≡ true → set ≡ (pos 0, pos 1) ∷ []) → DeclKept (ds ++ set ∷ []) (variable_of truth var)
variable_kept ds set var true e h = record {
  within = longer ds set var e;
  truth =
      let bits : All (λ run. IsBit run.0 × IsBit run.1) ((pos 0, pos 1) ∷ []) = one (λ run. IsBit run.0 × IsBit run.1) (pos 0, pos 1) ((omega (arith, ints), omega (arith, ints)), (omega (arith, ints), omega (arith, ints))) in
      let same : get_or (ds ++ set ∷ []) var [] ≡ (pos 0, pos 1) ∷ [] = ap (λ k. get_or (ds ++ set ∷ []) k []) e ∙ get_or-append_seam ds set [] [] ∙ h refl in
      subst (λ (dom : List (ℤ × ℤ)). All (λ run. IsBit run.0 × IsBit run.1) dom) (sym same) bits;
}
variable_kept ds set var false e h = longer ds set var e

pub wide_kept : (ds : List (List (ℤ × ℤ))) (set : List (ℤ × ℤ)) (var : ℕ) (truth : Bool) → var ≡ length ds → is_wide set ≡ true → (truth ≡ true → set ≡ (pos 0, pos 1) ∷ []) → DeclKept (ds ++ hull set ∷ []) (variable_of truth var)
wide_kept ds set var true e w h = let never : is_wide ((pos 0, pos 1) ∷ []) ≡ true = subst (λ (s : List (ℤ × ℤ)). is_wide s ≡ true) (h refl) w in absurd (cc)
wide_kept ds set var false e w h = longer ds (hull set) var e

pub room_dom : (cons : List Con) (ds : List (List (ℤ × ℤ))) (d : List (ℤ × ℤ)) (items : ℕ) → length cons ≤ items + 2 * length ds → length cons < items + 2 * length (ds ++ d ∷ [])
room_dom cons ds d items h = omega (arith, length_push ds d)

pub room_more : (cons : List Con) (c : Con) (ds : List (List (ℤ × ℤ))) (d : List (ℤ × ℤ)) (items : ℕ) → length cons ≤ items + 2 * length ds → length (cons ++ c ∷ []) < items + 2 * length (ds ++ d ∷ [])
room_more cons c ds d items h = omega (arith, length_push ds d, length_push cons c)
