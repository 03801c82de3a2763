-- Texts put into a buffer one after another, and one text for each member of a list.
use Rattle.std.proofs.Common.{◌≡◌, ℕ, suc, List, [], ◌∷◌, ◌++◌, ap, ◌∙◌, sym, arith, append_assoc, append-nil, ◌+◌, ◌<◌, ◌≤◌, length, length-append, get_or, take, take_all, drop, drop-cons, take-append-drop, subst}
use Rattle.std.specs.Prelude.{Ok, Err, Result, IsErr}
use Rattle.std.specs.declared.option.Option.{Option}
use Rattle.std.specs.Io.KnownBytes.{Appends}
use Rattle.std.specs.List.{flat_map}
use Rattle.std.proofs.lemmas.List.{take_more}
use Rattle.std.proofs.lemmas.List.Concat.{flat_map-append}
use Rattle.cs_base.specs.declared.failed.Failed.{Failed}
use Rattle.cs_base.specs.Causes.{AppendsPart}
use Rattle.cs_base.proofs.Bytes.{appends_none, appends_more}
use Rattle.run_log.specs.Buffers.{Flow, Buffered}

-- ---- pieces
-- no text was put
pub buffered_none : (a : Flow) → Buffered a a [] (Ok tt)
unfolding Buffered
buffered_none a = ([], append-nil a.1, appends_none a.0)

-- all of one text was put, and then another one as far as the result says
pub buffered_then : (a b c : Flow) (s t : List ℕ) (r : Result (Unit {0}) Failed) → Buffered a b s (Ok tt) → Buffered b c t r → Buffered a c (s ++ t) r
unfolding Buffered
buffered_then a b c s t (Ok y) (f, is, w) (g, has, v) = (f ++ g, sym (append_assoc a.1 s t) ∙ ap (λ x. x ++ t) is ∙ append_assoc f b.1 t ∙ ap (λ x. f ++ x) has ∙ sym (append_assoc f g c.1), appends_more a.0 b.0 c.0 f g w v)
buffered_then a b c s t (Err e) (f, is, w) (g, h, has, some, v) = (f ++ g, h, sym (append_assoc a.1 s t) ∙ ap (λ x. x ++ t) is ∙ append_assoc f b.1 t ∙ ap (λ x. f ++ x) has ∙ sym (append_assoc f g h), some, appends_more a.0 b.0 c.0 f g w v)

-- a part of a text is a part of a longer one
pub buffered_part : (a b : Flow) (s t : List ℕ) (e : Failed) → Buffered a b s (Err e) → Buffered a b (s ++ t) (Err e)
unfolding Buffered
buffered_part a b s t e (f, h, is, some, w) = (f, h ++ t, sym (append_assoc a.1 s t) ∙ ap (λ x. x ++ t) is ∙ append_assoc f h t, omega (arith, length-append h t), w)

-- the same with the texts given, for a text that begins with bytes of the code
pub buffered_front : (a b : Flow) (s t : List ℕ) (e : Failed) (r : Result (Unit {0}) Failed) → IsErr r → Buffered a b s (Err e) → Buffered a b (s ++ t) r
unfolding Buffered
buffered_front a b s t e (Ok y) h p = let never : ⊥ = cc in absurd never
buffered_front a b s t e (Err x) h p = buffered_part a b s t e p

-- ---- the buffer
-- pending bytes were written or none, and then a text was added to those that are left
pub buffered_add : (a : Flow) (w : Option (List ℕ)) (p t : List ℕ) → Buffered a (w, p) [] (Ok tt) → Buffered a (w, p ++ t) t (Ok tt)
unfolding Buffered
buffered_add a w p t (f, is, v) = (f, ap (λ x. x ++ t) (sym (append-nil a.1) ∙ is) ∙ append_assoc f p t, v)

-- a part of the pending bytes was written, so no text was added
pub buffered_fault : (a b : Flow) (t : List ℕ) (e : Failed) → Buffered a b [] (Err e) → Buffered a b t (Err e)
buffered_fault a b t e p = buffered_part a b [] t e p

-- a text was put into an empty buffer, and then all pending bytes were written as far as the result says
pub buffered_whole : (v w : Option (List ℕ)) (b : Flow) (t : List ℕ) (r : Result (Unit {0}) Failed) → Buffered (v, []) b t (Ok tt) → Buffered b (w, []) [] r → AppendsPart v w t r
unfolding Buffered
buffered_whole v w b t (Ok y) (f, is, p) (g, has, q) = subst (λ (x : List ℕ). Appends v w x) (ap (λ x. f ++ x) (sym (append-nil g) ∙ sym has ∙ append-nil b.1) ∙ sym is) (appends_more v b.0 w f g p q)
buffered_whole v w b t (Err e) (f, is, p) (g, h, has, some, q) = (f ++ g, h, is ∙ ap (λ x. f ++ x) (sym (append-nil b.1) ∙ has) ∙ sym (append_assoc f g h), some, appends_more v b.0 w f g p q)

-- a text was put into an empty buffer in part
pub buffered_cut : (v w : Option (List ℕ)) (q t : List ℕ) (e : Failed) → Buffered (v, []) (w, q) t (Err e) → AppendsPart {T = Unit {0}} v w t (Err e)
unfolding Buffered
buffered_cut v w q t e p = p

-- ---- members
-- the texts of some members were put, and then that of one more
pub items_more : {X : Type 0} (f : X → List ℕ) (a b c : Flow) (xs : List X) (x : X) → Buffered a b (flat_map f xs) (Ok tt) → Buffered b c (f x) (Ok tt) → Buffered a c (flat_map f (xs ++ x ∷ [])) (Ok tt)
items_more f a b c xs x p q = subst (λ (t : List ℕ). Buffered a c t (Ok tt)) (sym (flat_map-append f xs (x ∷ []) ∙ ap (λ t. flat_map f xs ++ t) (append-nil (f x)))) (buffered_then a b c _ _ (Ok tt) p q)

-- the texts of some members were put, and then a part of that of one more
pub items_fault : {X : Type 0} (f : X → List ℕ) (a b c : Flow) (xs rest all : List X) (x : X) (e : Failed) (r : Result (Unit {0}) Failed) → IsErr r → xs ++ x ∷ rest ≡ all → Buffered a b (flat_map f xs) (Ok tt) → Buffered b c (f x) (Err e) → Buffered a c (flat_map f all) r
items_fault f a b c xs rest all x e r some is p q =
    let w = buffered_front a c (flat_map f xs ++ f x) (flat_map f rest) e r some (buffered_then a b c _ _ (Err e) p q) in
    subst (λ (t : List ℕ). Buffered a c t r) (append_assoc (flat_map f xs) (f x) (flat_map f rest) ∙ sym (flat_map-append f xs (x ∷ rest)) ∙ ap (λ ys. flat_map f ys) is) w

-- the same by place: the texts of the members below i were put
pub each_more : {X : Type 0} (f : X → List ℕ) (a b c : Flow) (xs : List X) (i : ℕ) (d : X) → i < length xs → Buffered a b (flat_map f (take i xs)) (Ok tt) → Buffered b c (f (get_or xs i d)) (Ok tt) → Buffered a c (flat_map f (take (i + 1) xs)) (Ok tt)
each_more f a b c xs i d h p q = subst (λ ys. Buffered a c (flat_map f ys) (Ok tt)) (sym (take_more xs i d h)) (items_more f a b c (take i xs) (get_or xs i d) p q)

pub each_fault : {X : Type 0} (f : X → List ℕ) (a b c : Flow) (xs : List X) (i : ℕ) (d : X) (e : Failed) (r : Result (Unit {0}) Failed) → IsErr r → i < length xs → Buffered a b (flat_map f (take i xs)) (Ok tt) → Buffered b c (f (get_or xs i d)) (Err e) → Buffered a c (flat_map f xs) r
each_fault f a b c xs i d e r some h p q = items_fault f a b c (take i xs) (drop (suc i) xs) xs (get_or xs i d) e r some (ap (λ t. take i xs ++ t) (sym (drop-cons xs i d h)) ∙ take-append-drop i xs) p q

pub each_all : {X : Type 0} (f : X → List ℕ) (a b : Flow) (xs : List X) (i : ℕ) → length xs ≤ i → Buffered a b (flat_map f (take i xs)) (Ok tt) → Buffered a b (flat_map f xs) (Ok tt)
each_all f a b xs i h w = subst (λ ys. Buffered a b (flat_map f ys) (Ok tt)) (take_all i xs h) w
