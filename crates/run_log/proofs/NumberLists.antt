-- The text of a list of numbers, with a space before each.
use Rattle.std.proofs.Common.{◌≡◌, ℕ, ◌<◌, List, [], ◌∷◌, ◌++◌, length, refl, arith, ap, sym, ◌∙◌, subst, ℤ, append_assoc, append-nil, inl, inr}
use Rattle.std.proofs.lemmas.Grind.{flat_map-append}
use Rattle.std.specs.Prelude.{FitsSigned, All, ◌⊎◌}
use Rattle.std.specs.Int.{w128}
use Rattle.std.specs.Fmt.{signed_decimal}
use Rattle.std.specs.Char.{digit_value}
use Rattle.std.specs.List.{flat_map}
use Rattle.std.proofs.lemmas.List.Elements.{All-cons, All-nil, All-append}
use Rattle.run_log.specs.Texts.{number_text}
use Rattle.run_log.specs.Steps.{Follows, Lacks, Differs, IsNumber, AreNumbers}
use Rattle.run_log.proofs.Parts.{same_front, all_head, all_tail}
use Rattle.run_log.proofs.NumberTexts.{number_lacks, same_number}

no_space : digit_value 32 < 10 → ⊥
no_space h = omega (arith, h)

pub follow : (zs : List ℤ) → Follows 32 (flat_map number_text zs)
follow [] = tt
follow (z ∷ zs) = refl

pub lack_line_feed : (zs : List ℤ) → All (FitsSigned w128) zs → Lacks 10 (flat_map number_text zs)
lack_line_feed [] f = All-nil (Differs 10)
lack_line_feed (z ∷ zs) f =
    All-cons (Differs 10) 32 _ (λ e. omega arith) (All-append (Differs 10) (signed_decimal z) _ (number_lacks 10 z (λ h. omega (arith, h)) (λ e. omega (arith, e)) (all_head (FitsSigned w128) z zs f)) (lack_line_feed zs (all_tail (FitsSigned w128) z zs f)))

-- numbers behind others
pub record Behind (xs ys : List ℤ) (rest : List ℕ) : Type 0 where
  pub zs : List ℤ
  pub joined : ys ≡ xs ++ zs
  pub fit : All (FitsSigned w128) zs
  pub shown : flat_map number_text zs ≡ rest

one_more : (x y : ℤ) (xs ys : List ℤ) (rest : List ℕ) → x ≡ y → Behind xs ys rest → Behind (x ∷ xs) (y ∷ ys) rest
one_more x y xs ys rest e b = record { zs = b.zs; joined = cc; fit = b.fit; shown = b.shown }

front_follows : (xs : List ℤ) (rest : List ℕ) → Follows 32 rest → Follows 32 (flat_map number_text xs ++ rest)
front_follows [] rest f = f
front_follows (x ∷ xs) rest f = refl

pub numbers_behind : (xs ys : List ℤ) (rest : List ℕ) → All (FitsSigned w128) xs → All (FitsSigned w128) ys → Follows 32 rest → flat_map number_text ys ≡ flat_map number_text xs ++ rest → Behind xs ys rest
numbers_behind [] ys rest f g r e = record { zs = ys; joined = refl; fit = g; shown = e }
numbers_behind (x ∷ xs) [] rest f g r e = absurd (cc)
numbers_behind (x ∷ xs) (y ∷ ys) rest f g r e =
    let fx = all_head (FitsSigned w128) x xs f in
    let gy = all_head (FitsSigned w128) y ys g in
    let tails : signed_decimal y ++ flat_map number_text ys ≡ (signed_decimal x ++ flat_map number_text xs) ++ rest = cc in
    let parts = same_front 32 (signed_decimal y) (signed_decimal x) (flat_map number_text ys) (flat_map number_text xs ++ rest) (number_lacks 32 y no_space (λ h. omega (arith, h)) gy) (number_lacks 32 x no_space (λ h. omega (arith, h)) fx) (follow ys) (front_follows xs rest r) (tails ∙ append_assoc (signed_decimal x) (flat_map number_text xs) rest) in
    one_more x y xs ys rest (same_number x y fx gy (sym parts.0)) (numbers_behind xs ys rest (all_tail (FitsSigned w128) x xs f) (all_tail (FitsSigned w128) y ys g) r parts.1)

none_left : (zs : List ℤ) → flat_map number_text zs ≡ [] → zs ≡ []
none_left [] e = refl
none_left (z ∷ zs) e = absurd (cc)

-- some numbers were read, and the rest is left
pub record Reached (text : List ℕ) (xs : List ℤ) (rest : List ℕ) : Type 0 where
  pub fit : All (FitsSigned w128) xs
  pub whole : text ≡ flat_map number_text xs ++ rest
  pub starts : (xs ≡ []) ⊎ Follows 32 rest

no_more : (xs ys : List ℤ) → Behind xs ys [] → ys ≡ xs
no_more xs ys b = b.joined ∙ ap (λ (zs : List ℤ). xs ++ zs) (none_left b.zs b.shown) ∙ append-nil xs

pub same_numbers : (xs ys : List ℤ) → All (FitsSigned w128) xs → All (FitsSigned w128) ys → flat_map number_text xs ≡ flat_map number_text ys → xs ≡ ys
same_numbers xs ys f g e = sym (no_more xs ys (numbers_behind xs ys [] f g tt (sym e ∙ sym (append-nil _))))

-- ---- a loop over them
pub reach_start : (text : List ℕ) → Reached text [] text
reach_start text = record { fit = All-nil (FitsSigned w128); whole = refl; starts = inl refl }

pub reach_one : (text : List ℕ) (xs : List ℤ) (word more : List ℕ) (z : ℤ) → Reached text xs (32 ∷ (word ++ more)) → Follows 32 more → IsNumber word z → Reached text (xs ++ z ∷ []) more
reach_one text xs word more z r f n =
    record {
      fit = All-append (FitsSigned w128) xs (z ∷ []) r.fit (All-cons (FitsSigned w128) z [] n.fits (All-nil (FitsSigned w128)));
      whole = r.whole ∙ sym (ap (λ (t : List ℕ). t ++ more) (flat_map-append number_text xs (z ∷ [])) ∙ append_assoc (flat_map number_text xs) _ more ∙ ap (λ (t : List ℕ). flat_map number_text xs ++ 32 ∷ (t ++ more)) (append-nil (signed_decimal z) ∙ n.text));
      starts = inr f;
    }

pub reach_end : (text : List ℕ) (xs : List ℤ) (rest : List ℕ) → length rest ≡ 0 → Reached text xs rest → AreNumbers text xs
reach_end text xs [] e r = record { fit = r.fit; shown = sym (r.whole ∙ append-nil _) }
reach_end text xs (b ∷ rest) e r = absurd (omega arith)

no_number : (word more : List ℕ) (zs : List ℤ) → Lacks 32 word → Follows 32 more → ((z : ℤ) → IsNumber word z → ⊥) → All (FitsSigned w128) zs → flat_map number_text zs ≡ 32 ∷ (word ++ more) → ⊥
no_number word more [] l f none g e = absurd (cc)
no_number word more (z ∷ zs) l f none g e =
    let fits = all_head (FitsSigned w128) z zs g in
    let tails : signed_decimal z ++ flat_map number_text zs ≡ word ++ more = cc in
    let same = same_front 32 (signed_decimal z) word (flat_map number_text zs) more (number_lacks 32 z no_space (λ h. omega (arith, h)) fits) l (follow zs) f tails in
    none z (record { fits = fits; text = same.0 })

pub reach_no_number : (text : List ℕ) (xs : List ℤ) (word more : List ℕ) → Reached text xs (32 ∷ (word ++ more)) → Lacks 32 word → Follows 32 more → ((z : ℤ) → IsNumber word z → ⊥) → (zs : List ℤ) → AreNumbers text zs → ⊥
reach_no_number text xs word more r l f none zs n =
    let b = numbers_behind xs zs (32 ∷ (word ++ more)) r.fit n.fit refl (n.shown ∙ r.whole) in
    no_number word more b.zs l f none b.fit b.shown

at_start : (text : List ℕ) (xs : List ℤ) (rest : List ℕ) → Reached text xs rest → xs ≡ [] → text ≡ rest
at_start text xs rest r e = r.whole ∙ ap (λ (zs : List ℤ). flat_map number_text zs ++ rest) e

first_space : (rest : List ℕ) → 0 < length rest → Follows 32 rest → (behind : List ℕ) × (rest ≡ 32 ∷ behind)
first_space [] h f = absurd (omega arith)
first_space (b ∷ rest) h f = (rest, ap (λ c. c ∷ rest) f)

starts_so : (text : List ℕ) (xs : List ℤ) (rest : List ℕ) → Reached text xs rest → (zs : List ℤ) → AreNumbers text zs → Follows 32 rest
starts_so text xs rest r zs n = elim r.starts [ inl e ↦ subst (Follows 32) (n.shown ∙ at_start text xs rest r e) (follow zs) | inr f ↦ f ]

pub reach_no_space : (text : List ℕ) (xs : List ℤ) (rest : List ℕ) → Reached text xs rest → 0 < length rest → ((behind : List ℕ) → rest ≡ 32 ∷ behind → ⊥) → (zs : List ℤ) → AreNumbers text zs → ⊥
reach_no_space text xs rest r some none zs n =
    let b = first_space rest some (starts_so text xs rest r zs n) in
    none b.0 b.1
