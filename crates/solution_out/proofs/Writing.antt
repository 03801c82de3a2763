-- Texts written one after another, and one text for each member of a list.
use Rattle.std.proofs.Common.{◌≡◌, ℕ, List, [], ◌∷◌, ◌++◌, ap, ◌∙◌, sym, arith, append_assoc, append-nil, ◌+◌, ◌-◌, ◌<◌, ◌≤◌, length, length-append, get_or, take, take_all, drop, take-append-drop, subst, refl, Bool, ℤ}
use Rattle.std.specs.Prelude.{Some, None, Ok, Err, Result, IsErr}
use Rattle.std.specs.declared.option.Option.{Option}
use Rattle.std.specs.Io.KnownBytes.{Appends}
use Rattle.std.specs.List.{flat_map}
use Rattle.std.proofs.lemmas.List.{take_more, take_rest}
use Rattle.std.proofs.lemmas.List.Concat.{flat_map-append}
use Rattle.cs_base.specs.declared.failed.Failed.{Failed}
use Rattle.fzn_model.specs.declared.term.Term.{Term}
use Rattle.solution_out.specs.Shows.{term_text, next_text, values_text}
use Rattle.solution_out.specs.Writes.{Wrote}

appends_then : (a b c : Option (List ℕ)) (bs cs : List ℕ) → Appends a b bs → Appends b c cs → Appends a c (bs ++ cs)
appends_then None b c bs cs p q = tt
appends_then (Some xs) None c bs cs p q = absurd p
appends_then (Some xs) (Some ys) None bs cs p q = absurd q
appends_then (Some xs) (Some ys) (Some zs) bs cs p q = q ∙ ap (λ t. t ++ cs) p ∙ append_assoc xs bs cs

-- all of one text was written, and then another one as far as r says
pub wrote_then : (a b c : Option (List ℕ)) (bs cs : List ℕ) (r : Result (Unit {0}) Failed) → Wrote a b bs (Ok tt) → Wrote b c cs r → Wrote a c (bs ++ cs) r
unfolding Wrote
wrote_then a b c bs cs (Ok y) p q = appends_then a b c bs cs p q
wrote_then a b c bs cs (Err e) p (f, s, is, some, q) = (bs ++ f, s, ap (λ t. bs ++ t) is ∙ sym (append_assoc bs f s), some, appends_then a b c bs f p q)

-- a part of a text is a part of a longer one
pub wrote_part : (a b : Option (List ℕ)) (bs cs : List ℕ) (e : Failed) → Wrote a b bs (Err e) → Wrote a b (bs ++ cs) (Err e)
unfolding Wrote
wrote_part a b bs cs e (f, s, is, some, q) = (f, s ++ cs, ap (λ t. t ++ cs) is ∙ append_assoc f s cs, omega (arith, length-append s cs), q)

-- the same with the texts given, for a text that begins with bytes of the code
pub wrote_front : (a b : Option (List ℕ)) (bs cs : List ℕ) (e : Failed) (r : Result (Unit {0}) Failed) → IsErr r → Wrote a b bs (Err e) → Wrote a b (bs ++ cs) r
unfolding Wrote
wrote_front a b bs cs e (Ok y) h p = let never : ⊥ = cc in absurd never
wrote_front a b bs cs e (Err x) h p = wrote_part a b bs cs e p

-- no text was written
pub wrote_none : (a : Option (List ℕ)) → Wrote a a [] (Ok tt)
unfolding Wrote
wrote_none None = tt
wrote_none (Some xs) = sym (append-nil xs)

each_next : {X : Type 0} (f : X → List ℕ) (xs : List X) (i : ℕ) (d : X) → i < length xs → flat_map f (take (i + 1) xs) ≡ flat_map f (take i xs) ++ f (get_or xs i d)
each_next f xs i d h = ap (λ ys. flat_map f ys) (take_more xs i d h) ∙ flat_map-append f (take i xs) (get_or xs i d ∷ []) ∙ ap (λ t. flat_map f (take i xs) ++ t) (append-nil (f (get_or xs i d)))

-- the texts of the members below i were written, and then that of the next one
pub each_more : {X : Type 0} (f : X → List ℕ) (a b c : Option (List ℕ)) (xs : List X) (i : ℕ) (d : X) → i < length xs → Wrote a b (flat_map f (take i xs)) (Ok tt) → Wrote b c (f (get_or xs i d)) (Ok tt) → Wrote a c (flat_map f (take (i + 1) xs)) (Ok tt)
each_more f a b c xs i d h p q = subst (λ (t : List ℕ). Wrote a c t (Ok tt)) (sym (each_next f xs i d h)) (wrote_then a b c _ _ (Ok tt) p q)

-- the texts of the members below i were written, and then a part of that of the next one
pub each_part : {X : Type 0} (f : X → List ℕ) (a b c : Option (List ℕ)) (xs : List X) (i : ℕ) (d : X) (e : Failed) → i < length xs → Wrote a b (flat_map f (take i xs)) (Ok tt) → Wrote b c (f (get_or xs i d)) (Err e) → Wrote a c (flat_map f xs) (Err e)
each_part f a b c xs i d e h p q =
    let w = wrote_part a c (flat_map f (take i xs) ++ f (get_or xs i d)) (flat_map f (drop (i + 1) xs)) e (wrote_then a b c _ _ (Err e) p q) in
    subst (λ (t : List ℕ). Wrote a c t (Err e)) (ap (λ t. t ++ flat_map f (drop (i + 1) xs)) (sym (each_next f xs i d h)) ∙ sym (flat_map-append f (take (i + 1) xs) (drop (i + 1) xs)) ∙ ap (λ ys. flat_map f ys) (take-append-drop (i + 1) xs)) w

-- the texts of all members were written
pub each_all : {X : Type 0} (f : X → List ℕ) (a b : Option (List ℕ)) (xs : List X) (i : ℕ) → length xs ≤ i → Wrote a b (flat_map f (take i xs)) (Ok tt) → Wrote a b (flat_map f xs) (Ok tt)
each_all f a b xs i h w = subst (λ ys. Wrote a b (flat_map f ys) (Ok tt)) (take_all i xs h) w

-- the first value, and each other one after a separator
pub values_next : (truth : Bool) (θ : List ℤ) (ts : List Term) (d : Term) → 1 ≤ length ts → values_text truth θ ts ≡ term_text truth θ (get_or ts 0 d) ++ flat_map (next_text truth θ) (take (length ts - 1) (drop 1 ts))
unfolding values_text next_text
values_next truth θ [] d h = absurd (omega arith)
values_next truth θ (t ∷ ts) d h = rw take_rest refl
