-- What follows from a box, and from narrowings in a row, for the crates above.
use Rattle.std.specs.Prelude.{◌≡◌, ◌<◌, ◌≤◌, ◌⊎◌, List, [], length, slice_index_or, ℤ, ◌≤ℤ◌, Contains}
use Rattle.std.proofs.Common.{refl, sym, subst, ◌∙◌, ap, arith, inl, inr}
use Rattle.std.proofs.lemmas.Int.{ints}
use Rattle.std.proofs.lemmas.List.Elements.{All-contains, Contains-get_or}
use Rattle.int_domain.specs.declared.narrow.Narrow.{Narrow}
use Rattle.int_domain.specs.declared.narrow.Narrow.TheVariants.{Same, Changed, Empty}
use Rattle.fzn_model.specs.declared.con.Con.{Con}
use Rattle.fzn_model.specs.declared.term.Term.{Term}
use Rattle.fzn_model.specs.declared.term.Term.TheVariants as term
use Rattle.fzn_model.specs.Meaning.{Holds}
use Rattle.fzn_model.specs.declared.base.Base.{Base}
use Rattle.fzn_model.specs.declared.base.Base.TheVariants as base
use Rattle.fzn_model.specs.declared.con.Con.TheVariants as con
use Rattle.fzn_model.specs.Limits.{TermIn, IsBit, ConInLimits, of_call}
use Rattle.fzn_model.specs.Boxes.{IsBox, domain_at, InBox, low_value, high_value}
use Rattle.dom_store.specs.Stores.{Stored, box_size}
use Rattle.dom_store.specs.Narrowing.{Loses, Stays, Prunes, HasNone}
use Rattle.dom_store.specs.Steps.{Spares}
use Rattle.dom_store.specs.Cuts.{Cuts}
use Rattle.fzn_model.specs.Bounds.{term_low, term_high, IsFixed, IsAt}
use Rattle.fzn_model.specs.Booleans.{IsBoolean, BaseBooleans, ConBooleans, FitsBox}
use Rattle.fzn_model.proofs.Domains.{between, low_in, high_in}
use Rattle.fzn_model.proofs.Terms.{low_to_high}

-- ---- narrowings in a row
pub loses_refl : (P : List ℤ → Type 0) (box : List (List ℤ)) → Loses P box box
loses_refl P box = record { count = refl; within = λ k z has. has; kept = λ θ lies p. lies; falls = inl refl }

falls_trans : (a b c : List (List ℤ)) → (b ≡ a) ⊎ (box_size b < box_size a) → (c ≡ b) ⊎ (box_size c < box_size b) → (c ≡ a) ⊎ (box_size c < box_size a)
falls_trans a b c (inl same) (inl again) = inl (again ∙ same)
falls_trans a b c (inl same) (inr less) = inr (subst (λ d. box_size c < box_size d) same less)
falls_trans a b c (inr less) (inl same) = inr (subst (λ d. box_size d < box_size a) (sym same) less)
falls_trans a b c (inr less) (inr again) = inr (omega arith)

pub loses_trans : (P : List ℤ → Type 0) (a b c : List (List ℤ)) → Loses P a b → Loses P b c → Loses P a c
loses_trans P a b c first then = record {
  count = then.count ∙ first.count;
  within = λ k z has. first.within k z (then.within k z has);
  kept = λ θ lies p. then.kept θ (first.kept θ lies p) p;
  falls = falls_trans a b c first.falls then.falls;
}

pub stays_refl : (s : Stored) → Stays s s
stays_refl s = record { saved = refl; settled = refl; marks = λ k un. un; untouched = λ k un. refl; changes = omega arith }

pub stays_trans : (r s t : Stored) → Stays r s → Stays s t → Stays r t
stays_trans r s t first then = record {
  saved = then.saved ∙ first.saved;
  settled = then.settled ∙ first.settled;
  marks = λ k un. first.marks k (then.marks k un);
  untouched = λ k un. then.untouched k un ∙ first.untouched k (then.marks k un);
  changes = omega (arith, first.changes, then.changes);
}

pub prunes_refl : (P : List ℤ → Type 0) (s : Stored) → Prunes P s s
prunes_refl P s = record { loses = loses_refl P s.box; stays = stays_refl s }

pub prunes_trans : (P : List ℤ → Type 0) (r s t : Stored) → Prunes P r s → Prunes P s t → Prunes P r t
prunes_trans P r s t first then = record { loses = loses_trans P r.box s.box t.box first.loses then.loses; stays = stays_trans r s t first.stays then.stays }

-- what goes for one promise goes for a stronger one
pub loses_within : (P Q : List ℤ → Type 0) (old new : List (List ℤ)) → Loses P old new → ((θ : List ℤ) → InBox old θ → Q θ → P θ) → Loses Q old new
loses_within P Q old new loses more = record { count = loses.count; within = loses.within; kept = λ θ lies q. loses.kept θ lies (more θ lies q); falls = loses.falls }

pub loses_more : (P Q : List ℤ → Type 0) (old new : List (List ℤ)) → Loses P old new → ((θ : List ℤ) → Q θ → P θ) → Loses Q old new
loses_more P Q old new loses more = loses_within P Q old new loses (λ θ lies q. more θ q)

pub prunes_within : (P Q : List ℤ → Type 0) (old new : Stored) → Prunes P old new → ((θ : List ℤ) → InBox old.box θ → Q θ → P θ) → Prunes Q old new
prunes_within P Q old new prunes more = record { loses = loses_within P Q old.box new.box prunes.loses more; stays = prunes.stays }

-- where nothing is left, nothing was
pub none_before : (P : List ℤ → Type 0) (old new : List (List ℤ)) → Loses P old new → HasNone P new → HasNone P old
none_before P old new loses none = λ θ lies p. none θ (loses.kept θ lies p) p

pub smaller : (P : List ℤ → Type 0) (old new : List (List ℤ)) → Loses P old new → box_size new ≤ box_size old
smaller P old new loses = elim loses.falls [ inl same ↦ subst (λ b. box_size b ≤ box_size old) (sym same) (omega arith) | inr less ↦ omega arith ]

pub same_size : (P : List ℤ → Type 0) (old new : List (List ℤ)) → Loses P old new → box_size new ≡ box_size old → new ≡ old
same_size P old new loses size = elim loses.falls [ inl same ↦ same | inr less ↦ absurd (omega arith) ]

-- where nothing has gone in the end, nothing had in between
pub still : (P Q : List ℤ → Type 0) (was now then : List (List ℤ)) → Loses P was now → Loses Q now then → then ≡ was → now ≡ was
still P Q was now then first second e =
    let a = smaller P was now first in
    let b = smaller Q now then second in
    let size : box_size then ≡ box_size was = ap box_size e in
    same_size P was now first (omega (arith, a, b, size))

pub prunes_still : (P Q : List ℤ → Type 0) (a b d : Stored) → Prunes P a b → Prunes Q b d → d.box ≡ a.box → b.box ≡ a.box
prunes_still P Q a b d first second e = still P Q a.box b.box d.box first.loses second.loses e

-- bounds only come closer
pub low_rises : (P : List ℤ → Type 0) (old new : List (List ℤ)) (t : Term) → IsBox old → IsBox new → Loses P old new → TermIn (length old) t → term_low old t ≤ℤ term_low new t
low_rises P old new (term.Const z) was is loses inside = omega (arith, ints)
low_rises P old new (term.Var k) was is loses inside =
    let here : k < length new = omega (arith, loses.count) in
    (between (domain_at old k) (low_value (domain_at new k)) (was k [] inside) (loses.within k _ (low_in (domain_at new k) (is k [] here)))).0

pub high_falls : (P : List ℤ → Type 0) (old new : List (List ℤ)) (t : Term) → IsBox old → IsBox new → Loses P old new → TermIn (length old) t → term_high new t ≤ℤ term_high old t
high_falls P old new (term.Const z) was is loses inside = omega (arith, ints)
high_falls P old new (term.Var k) was is loses inside =
    let here : k < length new = omega (arith, loses.count) in
    (between (domain_at old k) (high_value (domain_at new k)) (was k [] inside) (loses.within k _ (high_in (domain_at new k) (is k [] here)))).1

-- an assignment of what is left was one before
pub in_before : (P : List ℤ → Type 0) (old new : List (List ℤ)) (θ : List ℤ) → Loses P old new → InBox new θ → InBox old θ
in_before P old new θ loses lies = record {
  count = lies.count ∙ loses.count;
  each = λ k h. loses.within k _ (lies.each k (omega (arith, loses.count)));
}

pub term_stays : (P : List ℤ → Type 0) (old new : List (List ℤ)) (t : Term) → Loses P old new → TermIn (length old) t → TermIn (length new) t
term_stays P old new t loses inside = subst (λ n. TermIn n t) (sym loses.count) inside

-- what is fixed stays so
pub at_stays : (P : List ℤ → Type 0) (old new : List (List ℤ)) (t : Term) (v : ℤ) → IsBox old → IsBox new → Loses P old new → TermIn (length old) t → IsAt old t v → IsAt new t v
at_stays P old new t v was is loses inside at =
    let low : term_low old t ≤ℤ term_low new t = low_rises P old new t was is loses inside in
    let high : term_high new t ≤ℤ term_high old t = high_falls P old new t was is loses inside in
    let ordered : term_low new t ≤ℤ term_high new t = low_to_high new t is (term_stays P old new t loses inside) in
    let one : term_low old t ≡ v = at.low in
    let other : term_high old t ≡ v = at.high in
    record { low = omega (arith, ints); high = omega (arith, ints) }

pub fixed_stays : (P : List ℤ → Type 0) (old new : List (List ℤ)) (t : Term) → IsBox old → IsBox new → Loses P old new → TermIn (length old) t → IsFixed old t → IsFixed new t
fixed_stays P old new t was is loses inside fixed =
    let at = at_stays P old new t (term_low old t) was is loses inside (record { low = refl; high = sym fixed }) in
    at.low ∙ sym at.high

-- a Boolean stays one
boolean_stays : (P : List ℤ → Type 0) (old new : List (List ℤ)) (t : Term) → Loses P old new → IsBoolean old t → IsBoolean new t
boolean_stays P old new (term.Const z) loses bit = bit
boolean_stays P old new (term.Var k) loses bits = λ j d h.
    let at : Contains (domain_at new k) (slice_index_or (domain_at new k) j d) = Contains-get_or (domain_at new k) j d h in
    All-contains IsBit (domain_at old k) _ bits (loses.within k _ at)

base_stays : (P : List ℤ → Type 0) (old new : List (List ℤ)) (b : Base) → Loses P old new → BaseBooleans old b → BaseBooleans new b
base_stays P old new (base.Lin l) loses bools = bools
base_stays P old new (base.Clause c) loses bools =
    ((λ k d h. boolean_stays P old new _ loses (bools.0 k d h)), (λ k d h. boolean_stays P old new _ loses (bools.1 k d h)))
base_stays P old new (base.Member m) loses bools = bools

booleans_stay : (P : List ℤ → Type 0) (old new : List (List ℤ)) (c : Con) → Loses P old new → ConBooleans old c → ConBooleans new c
booleans_stay P old new (con.Base b) loses bools = base_stays P old new b loses bools
booleans_stay P old new (con.Reif b r f) loses bools = (base_stays P old new b loses bools.0, boolean_stays P old new r loses bools.1)
booleans_stay P old new c loses bools = tt

-- a constraint over the variables of a box stays one
pub fits_after : (P : List ℤ → Type 0) (old new : List (List ℤ)) (c : Con) → Loses P old new → FitsBox old c → FitsBox new c
fits_after P old new c loses fits_box = record {
  kept = subst (λ n. ConInLimits of_call n c) (sym loses.count) fits_box.kept;
  booleans = booleans_stay P old new c loses fits_box.booleans;
}

pub fits_pruned : (c d : Con) (old new : Stored) → Prunes (Holds c) old new → d ≡ c → FitsBox old.box c → FitsBox new.box d
fits_pruned c d old new prunes same fits = subst (FitsBox new.box) (sym same) (fits_after (Holds c) old.box new.box c prunes.loses fits)

-- ---- one narrowing of a term
cuts_fall : (Q : ℤ → Type 0) (t : Term) (old new : Stored) (answer : Narrow) → Cuts Q t old new answer → (new.box ≡ old.box) ⊎ (box_size new.box < box_size old.box)
cuts_fall Q t old new Same cuts = inl (ap (λ (s : Stored). s.box) (cuts.same refl))
cuts_fall Q t old new Changed cuts = inr (cuts.falls refl)
cuts_fall Q t old new Empty cuts = inl (ap (λ (s : Stored). s.box) (cuts.empty refl).0)

pub cuts_lose : (Q : ℤ → Type 0) (P : List ℤ → Type 0) (t : Term) (old new : Stored) (answer : Narrow) → Cuts Q t old new answer → Spares Q P t old.box → Loses P old.box new.box
cuts_lose Q P t old new answer cuts spares = record {
  count = cuts.count;
  within = cuts.within;
  kept = λ θ lies p. cuts.kept θ lies (spares θ lies p);
  falls = cuts_fall Q t old new answer cuts;
}

pub cuts_prune : (Q : ℤ → Type 0) (P : List ℤ → Type 0) (t : Term) (old new : Stored) (answer : Narrow) → Cuts Q t old new answer → Spares Q P t old.box → Prunes P old new
cuts_prune Q P t old new answer cuts spares = record { loses = cuts_lose Q P t old new answer cuts spares; stays = cuts.stays }

-- at Empty no assignment with P is in the box
pub cuts_none : (Q : ℤ → Type 0) (P : List ℤ → Type 0) (t : Term) (old new : Stored) → Cuts Q t old new Empty → Spares Q P t old.box → HasNone P old.box
cuts_none Q P t old new cuts spares = λ θ lies p. (cuts.empty refl).1 θ lies (spares θ lies p)
