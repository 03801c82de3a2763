-- Bytes taken and appended in several turns.
use Rattle.std.proofs.Common.{◌≡◌, ℕ, ◌+◌, ◌-◌, ◌<◌, ◌≤◌, List, [], ◌++◌, length, take, drop, refl, ap, arith, ◌∙◌, sym, append_assoc, append-nil, take-add, take-append-drop, length-drop, length-append, length-take}
use Rattle.std.specs.Prelude.{Some, None}
use Rattle.std.specs.declared.option.Option.{Option}
use Rattle.std.proofs.lemmas.List.{take_rest}
use Rattle.std.specs.Io.KnownBytes.{Consumes, Appends, Keeps}
use Rattle.cs_base.specs.Causes.{AppendsFront}

pub consumes_none : (a : Option (List ℕ)) → Consumes a a []
consumes_none None = tt
consumes_none (Some xs) = refl

-- taken in one turn after another
pub consumes_more : (a b c : Option (List ℕ)) (bs cs : List ℕ) → Consumes a b bs → Consumes b c cs → Consumes a c (bs ++ cs)
consumes_more None b c bs cs p q = tt
consumes_more (Some xs) None c bs cs p q = absurd p
consumes_more (Some xs) (Some ys) None bs cs p q = absurd q
consumes_more (Some xs) (Some ys) (Some zs) bs cs p q = p ∙ ap (λ t. bs ++ t) q ∙ sym (append_assoc bs cs zs)

-- a turn that took nothing
pub consumes_kept : (a b c : Option (List ℕ)) (bs : List ℕ) → Consumes a b bs → Keeps b c → Consumes a c bs
consumes_kept None b c bs p q = tt
consumes_kept (Some xs) None c bs p q = absurd p
consumes_kept (Some xs) (Some ys) None bs p q = absurd q
consumes_kept (Some xs) (Some ys) (Some zs) bs p q = p ∙ ap (λ t. bs ++ t) (sym q)

-- a turn that took n bytes of the buffer
pub consumes_buffer : (a b c : Option (List ℕ)) (bs buf : List ℕ) (n m : ℕ) → Consumes a b bs → Consumes b c (take n buf) → n ≤ length buf → m ≡ length bs + n → (x : List ℕ) × Consumes a c x × (length x ≡ m)
consumes_buffer a b c bs buf n m p q h e = (bs ++ take n buf, consumes_more a b c bs (take n buf) p q, omega (arith, length-append bs (take n buf), length-take n buf))

pub appends_none : (a : Option (List ℕ)) → Appends a a []
appends_none None = tt
appends_none (Some xs) = sym (append-nil xs)

-- appended in one turn after another
pub appends_more : (a b c : Option (List ℕ)) (bs cs : List ℕ) → Appends a b bs → Appends b c cs → Appends a c (bs ++ cs)
appends_more None b c bs cs p q = tt
appends_more (Some xs) None c bs cs p q = absurd p
appends_more (Some xs) (Some ys) None bs cs p q = absurd q
appends_more (Some xs) (Some ys) (Some zs) bs cs p q = q ∙ ap (λ t. t ++ cs) p ∙ append_assoc xs bs cs

-- a turn that appended nothing
pub appends_kept : (a b c : Option (List ℕ)) (bs : List ℕ) → Appends a b bs → Keeps b c → Appends a c bs
appends_kept None b c bs p q = tt
appends_kept (Some xs) None c bs p q = absurd p
appends_kept (Some xs) (Some ys) None bs p q = absurd q
appends_kept (Some xs) (Some ys) (Some zs) bs p q = q ∙ p

-- one more write of the bytes from a place on, as the code slices them
pub write_more : (a b c : Option (List ℕ)) (bytes : List ℕ) (at n : ℕ) → Appends a b (take at bytes) → Appends b c (take n (take (length bytes - at) (drop at bytes))) → Appends a c (take (at + n) bytes)
write_more a b c bytes at n p q = rw take-add (appends_more a b c _ _ p (rw take_rest at q))

-- a write of the bytes from a place on that failed
pub write_part : (a b c : Option (List ℕ)) (bytes : List ℕ) (at : ℕ) → at < length bytes → Appends a b (take at bytes) → Keeps b c → AppendsFront a c bytes
write_part a b c bytes at h p q = (take at bytes, drop at bytes, sym (take-append-drop at bytes), omega (arith, length-drop at bytes), appends_kept a b c _ p q)
