-- What passes a test, and where it stands.
use Rattle.std.proofs.Common.{◌≡◌, ℕ, suc, zero, ◌+◌, ◌<◌, List, [], ◌∷◌, length, get_or, drop, refl, subst, ap, ◌∙◌, arith, Bool, true, false, cond, add-one}
use Rattle.std.specs.Prelude.{Contains, filter}
use Rattle.std.proofs.Math.Seq.{drop-cons}

module _ {X : Type 0} (p : X → Bool) where
  later : (x : X) (xs : List X) (t : X) → Contains xs t → Contains (x ∷ xs) t
  later x xs t (k, h, e) = (suc k, omega arith, e)

  more_contains : (b : Bool) (x : X) (ys : List X) (t : X) → Contains ys t → Contains (cond b (x ∷ ys) ys) t
  more_contains true x ys t has = later x ys t has
  more_contains false x ys t has = has

  -- what passes stays
  pub filter_each : (xs : List X) (k : ℕ) (d : X) → k < length xs → p (get_or xs k d) ≡ true → Contains (filter p xs) (get_or xs k d)
  filter_each [] k d h passes = absurd (omega arith)
  filter_each (x ∷ xs) zero d h passes = rw passes (zero, omega arith, refl)
  filter_each (x ∷ xs) (suc k) d h passes = more_contains (p x) x (filter p xs) (get_or xs k d) (filter_each xs k d (omega arith) passes)

  from_test : (x : X) (xs : List X) (t : X) (b : Bool) → p x ≡ b → (Contains (filter p xs) t → Contains (x ∷ xs) t × (p t ≡ true)) → Contains (cond b (x ∷ filter p xs) (filter p xs)) t → Contains (x ∷ xs) t × (p t ≡ true)
  from_test x xs t true is rest (zero, h, e) = ((zero, omega arith, e), subst (λ u. p u ≡ true) e is)
  from_test x xs t true is rest (suc k, h, e) = rest (k, omega arith, e)
  from_test x xs t false is rest has = rest has

  -- what stays was there, and passes
  pub filter_from : (xs : List X) (t : X) → Contains (filter p xs) t → Contains xs t × (p t ≡ true)
  filter_from [] t (k, h, e) = absurd (omega arith)
  filter_from (x ∷ xs) t has = from_test x xs t (p x) refl (λ there. let (was, passes) = filter_from xs t there in (later x xs t was, passes)) has

  -- the first of what is left passes, or it does not
  pub filter_pass : (xs : List X) (i : ℕ) (t : X) → i < length xs → get_or xs i t ≡ t → p t ≡ true → filter p (drop i xs) ≡ t ∷ filter p (drop (i + 1) xs)
  filter_pass xs i t h is passes =
      let cut : drop i xs ≡ t ∷ drop (suc i) xs = drop-cons xs i t h ∙ ap (λ u. u ∷ drop (suc i) xs) is in
      rw (cut, passes, add-one) refl

  pub filter_fail : (xs : List X) (i : ℕ) (t : X) → i < length xs → get_or xs i t ≡ t → p t ≡ false → filter p (drop i xs) ≡ filter p (drop (i + 1) xs)
  filter_fail xs i t h is fails =
      let cut : drop i xs ≡ t ∷ drop (suc i) xs = drop-cons xs i t h ∙ ap (λ u. u ∷ drop (suc i) xs) is in
      rw (cut, fails, add-one) refl
