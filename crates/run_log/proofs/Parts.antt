-- A list up to the first place of a byte, and what holds of all its members.
use Rattle.std.proofs.Common.{◌≡◌, ℕ, suc, List, [], ◌∷◌, ◌++◌, arith, Bool, true, false, ◌&&◌, refl, ◌∙◌, take, drop, subst, sym}
use Rattle.std.specs.Prelude.{All, Contains, ◌==◌, not}
use Rattle.std.specs.List.{list_all}
use Rattle.std.proofs.lemmas.List.Elements.{All-cons, All-nil}
use Rattle.std.proofs.lemmas.List.{get_or_default}
use Rattle.std.proofs.lemmas.Bool.Decides.{nat_tests}
use Rattle.run_log.specs.Steps.{Follows, Lacks, Differs, Splits}

pub all_head : {X : Type 0} (P : X → Type 0) (x : X) (xs : List X) → All P (x ∷ xs) → P x
all_head P x xs h = h 0 x (omega arith)

pub all_tail : {X : Type 0} (P : X → Type 0) (x : X) (xs : List X) → All P (x ∷ xs) → All P xs
all_tail P x xs h = λ k d f. h (suc k) d (omega (arith, f))

-- two texts with the same front up to the byte
pub same_front : (byte : ℕ) (a b x y : List ℕ) → Lacks byte a → Lacks byte b → Follows byte x → Follows byte y → a ++ x ≡ b ++ y → (a ≡ b) × (x ≡ y)
same_front byte [] [] x y la lb fx fy e = (refl, e)
same_front byte [] (d ∷ b) [] y la lb fx fy e = absurd (cc)
same_front byte [] (d ∷ b) (c ∷ x) y la lb fx fy e = absurd (lb 0 d (omega arith) (cc))
same_front byte (c ∷ a) [] x [] la lb fx fy e = absurd (cc)
same_front byte (c ∷ a) [] x (d ∷ y) la lb fx fy e = absurd (la 0 c (omega arith) (cc))
same_front byte (c ∷ a) (d ∷ b) x y la lb fx fy e =
    let tails : a ++ x ≡ b ++ y = cc in
    let rest = same_front byte a b x y (all_tail (Differs byte) c a la) (all_tail (Differs byte) d b lb) fx fy tails in
    (cc, rest.1)

-- a literal has no such byte
lacks_by : (byte c : ℕ) (bytes : List ℕ) (b : Bool) → (c == byte) ≡ b → (not b && list_all (λ d. not (d == byte)) bytes) ≡ true → (list_all (λ d. not (d == byte)) bytes ≡ true → Lacks byte bytes) → Lacks byte (c ∷ bytes)
lacks_by byte c bytes true e h more = absurd (cc)
lacks_by byte c bytes false e h more = All-cons (Differs byte) c bytes (λ same. grind (arith, nat_tests)) (more h)

pub lacks_test : (byte : ℕ) (bytes : List ℕ) → list_all (λ d. not (d == byte)) bytes ≡ true → Lacks byte bytes
lacks_test byte [] h = All-nil (Differs byte)
lacks_test byte (c ∷ bytes) h = lacks_by byte c bytes (c == byte) refl h (lacks_test byte bytes)

pub lacks_not_contains : (byte : ℕ) (bytes : List ℕ) → (Contains bytes byte → ⊥) → Lacks byte bytes
lacks_not_contains byte bytes h = λ k d f e. h (k, f, get_or_default bytes k byte d f ∙ e)

pub split_is : (byte : ℕ) (text front behind : List ℕ) (n : ℕ) → front ≡ take n text → behind ≡ drop n text → Splits byte text (take n text) (drop n text) → Splits byte text front behind
split_is byte text front behind n e f s = subst (λ (a : List ℕ). Splits byte text a behind) (sym e) (subst (λ (b : List ℕ). Splits byte text (take n text) b) (sym f) s)
