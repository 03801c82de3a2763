-- What parts of a search do, one after another.
use Rattle.std.proofs.Common.{◌≡◌, inl, inr, ℕ, List, [], ◌∷◌, ◌++◌, length-append, refl, sym, ap, ◌∙◌, subst, ℤ, arith, true, Bool}
use Rattle.std.specs.Prelude.{All, Option, Some}
use Rattle.std.specs.Int.{int_min}
use Rattle.std.proofs.lemmas.Int.{ints}
use Rattle.std.proofs.lemmas.List.Sums.{fold-append}
use Rattle.std.proofs.lemmas.List.Elements.{All-nil, All-cons, All-append}
use Rattle.fzn_model.specs.Parts.{Parts}
use Rattle.incumbent_board.specs.Passes.{Held, SamePass, IsAlone, why_of}
use Rattle.incumbent_board.specs.declared.why.Why.{Why}
use Rattle.evictor.specs.Readers.{ReaderParts}
use Rattle.evictor.specs.Passes.{CacheFacts}
use Rattle.search_core.specs.declared.decision.Decision.{Decision}
use Rattle.search_core.specs.Locals.{LocalParts}
use Rattle.explorer.specs.Offers.{Kept, IsOffer, lesser_of, with_cheaper, least_with, known_after, kept_after}
use Rattle.explorer.specs.Expansions.{Expansion, IsExpansion}
use Rattle.explorer.specs.Works.{Works, IsCause, Counted, CountedAt}
use Rattle.explorer.specs.Looking.{Listened, Finds}
use Rattle.explorer.specs.Opening.{IsPaid}
use Rattle.explorer.specs.declared.meter.Meter.{Meter}
use Rattle.explorer.specs.declared.frame.Stop.{Stop}
use Rattle.explorer.specs.declared.frame.Stop.TheVariants as stop

pub same_self : (x : Held) → SamePass x x
same_self x = record { board = refl; first = refl; out = refl; splits = refl }

same_trans : (x y z : Held) → SamePass x y → SamePass y z → SamePass x z
same_trans x y z h k = record { board = k.board ∙ h.board; first = k.first ∙ h.first; out = k.out ∙ h.out; splits = k.splits ∙ h.splits }

alone_before : (x y : Held) → SamePass x y → IsAlone x → IsAlone y
alone_before x y s h = (s.first ∙ h.0, s.out ∙ h.1)

-- ---- the folds over offers
least_more : (z : ℤ) (xs ys : List (List ℤ × ℤ)) → least_with z (xs ++ ys) ≡ least_with (least_with z xs) ys
unfolding least_with
least_more z xs ys = fold-append (λ (b : ℤ) (s : List ℤ × ℤ). int_min b s.1) z xs ys

known_more : (z : Option ℤ) (xs ys : List (List ℤ × ℤ)) → known_after z (xs ++ ys) ≡ known_after (known_after z xs) ys
unfolding known_after
known_more z xs ys = fold-append (λ (b : Option ℤ) (s : List ℤ × ℤ). lesser_of b (Some s.1)) z xs ys

kept_more : (z : Option (List ℤ × ℤ)) (xs ys : List (List ℤ × ℤ)) → kept_after z (xs ++ ys) ≡ kept_after (kept_after z xs) ys
unfolding kept_after
kept_more z xs ys = fold-append with_cheaper z xs ys

module _ (m : Parts) (p : List Decision) (limit : ℕ) where
  pub works_none : (x : Held) (r s : ReaderParts) (a : Meter) (f : Kept) → s.pass.cache ≡ r.pass.cache → Works m p limit x x r s a a f f
  unfolding least_with known_after kept_after
  works_none x r s a f e = record {
    offers = [];
    solved = All-nil (IsOffer m);
    expansions = [];
    paid = All-nil (IsExpansion m p limit r.pass.cache);
    credits = omega arith;
    count = omega arith;
    least = refl;
    known = refl;
    kept = refl;
    room = refl;
    falls = omega (arith, ints);
    floor = λ alone low. low;
    same = same_self x;
    for_budget = refl;
    for_memory = refl;
    cache = e;
  }

  pub works_trans : (x y z : Held) (r s t : ReaderParts) (a b c : Meter) (f g h : Kept) → Works m p limit x y r s a b f g → Works m p limit y z s t b c g h → Works m p limit x z r t a c f h
  works_trans x y z r s t a b c f g h v w = record {
    offers = v.offers ++ w.offers;
    solved = All-append (IsOffer m) v.offers w.offers v.solved w.solved;
    expansions = v.expansions ++ w.expansions;
    paid = All-append (IsExpansion m p limit r.pass.cache) v.expansions w.expansions v.paid (subst (λ (k : CacheFacts). All (IsExpansion m p limit k) w.expansions) v.cache w.paid);
    credits = omega (arith, v.credits, w.credits, length-append v.expansions w.expansions);
    count = omega (arith, v.count, w.count, length-append v.expansions w.expansions);
    least = w.least ∙ ap (λ (k : ℤ). least_with k w.offers) v.least ∙ sym (least_more x.least v.offers w.offers);
    known = w.known ∙ ap (λ (k : Option ℤ). known_after k w.offers) v.known ∙ sym (known_more a.least v.offers w.offers);
    kept = w.kept ∙ ap (λ (k : Option (List ℤ × ℤ)). kept_after k w.offers) v.kept ∙ sym (kept_more f.best v.offers w.offers);
    room = w.room ∙ v.room;
    falls = omega (arith, ints, v.falls, w.falls);
    floor = λ alone low. w.floor (alone_before x y v.same alone) (v.floor alone low);
    same = same_trans x y z v.same w.same;
    for_budget = w.for_budget ∙ v.for_budget;
    for_memory = w.for_memory ∙ v.for_memory;
    cache = w.cache ∙ v.cache;
  }

  pub works_listened : (x y : Held) (r : ReaderParts) (a : Meter) (f : Kept) → Listened x y → Works m p limit x y r r a a f f
  unfolding least_with known_after kept_after
  works_listened x y r a f h = record {
    offers = [];
    solved = All-nil (IsOffer m);
    expansions = [];
    paid = All-nil (IsExpansion m p limit r.pass.cache);
    credits = omega (arith, h.credits);
    count = omega arith;
    least = h.least;
    known = refl;
    kept = refl;
    room = refl;
    falls = h.falls;
    floor = h.floor;
    same = h.same;
    for_budget = h.for_budget;
    for_memory = h.for_memory;
    cache = refl;
  }

  pub works_found : (x y : Held) (r : ReaderParts) (a b : Meter) (f g : Kept) → Finds m x y a b f g → Works m p limit x y r r a b f g
  works_found x y r a b f g h = record {
    offers = h.offers;
    solved = h.solved;
    expansions = [];
    paid = All-nil (IsExpansion m p limit r.pass.cache);
    credits = omega (arith, h.credits);
    count = omega (arith, h.count);
    least = h.least;
    known = h.known;
    kept = h.kept;
    room = h.room;
    falls = h.falls;
    floor = h.floor;
    same = h.same;
    for_budget = h.for_budget;
    for_memory = h.for_memory;
    cache = refl;
  }

  pub works_paid : (x y : Held) (r s : ReaderParts) (a b : Meter) (f : Kept) (e : Expansion) → IsPaid x y a b → s.pass.cache ≡ r.pass.cache → IsExpansion m p limit r.pass.cache e → Works m p limit x y r s a b f f
  unfolding least_with known_after kept_after
  works_paid x y r s a b f e paid own right = record {
    offers = [];
    solved = All-nil (IsOffer m);
    expansions = e ∷ [];
    paid = All-cons (IsExpansion m p limit r.pass.cache) e [] right (All-nil (IsExpansion m p limit r.pass.cache));
    credits = ap (λ (k : Held). k.credits) paid.pass;
    count = ap (λ (k : Meter). k.count) paid.meter;
    least = ap (λ (k : Held). k.least) paid.pass;
    known = ap (λ (k : Meter). k.least) paid.meter;
    kept = refl;
    room = refl;
    falls = omega (arith, ints, ap (λ (k : Held). k.seen) paid.pass);
    floor = λ alone low. omega (arith, ints, low, ap (λ (k : Held). k.seen) paid.pass, ap (λ (k : Held). k.least) paid.pass);
    same = record { board = ap (λ (k : Held). k.board) paid.pass; first = ap (λ (k : Held). k.first) paid.pass; out = ap (λ (k : Held). k.out) paid.pass; splits = ap (λ (k : Held). k.splits) paid.pass };
    for_budget = ap (λ (k : Held). k.stops_budget) paid.pass;
    for_memory = ap (λ (k : Held). k.stops_memory) paid.pass;
    cache = own;
  }

  -- only the mark that the budget is spent was set
  pub works_dry : (x y : Held) (r s : ReaderParts) (a b : Meter) (f : Kept) → y ≡ record x { spent = true } → b ≡ a → s.pass.cache ≡ r.pass.cache → Works m p limit x y r s a b f f
  unfolding least_with known_after kept_after
  works_dry x y r s a b f e c own = record {
    offers = [];
    solved = All-nil (IsOffer m);
    expansions = [];
    paid = All-nil (IsExpansion m p limit r.pass.cache);
    credits = omega (arith, ap (λ (k : Held). k.credits) e);
    count = omega (arith, ap (λ (k : Meter). k.count) c);
    least = ap (λ (k : Held). k.least) e;
    known = ap (λ (k : Meter). k.least) c;
    kept = refl;
    room = refl;
    falls = omega (arith, ints, ap (λ (k : Held). k.seen) e);
    floor = λ alone low. omega (arith, ints, low, ap (λ (k : Held). k.seen) e, ap (λ (k : Held). k.least) e);
    same = record { board = ap (λ (k : Held). k.board) e; first = ap (λ (k : Held). k.first) e; out = ap (λ (k : Held). k.out) e; splits = ap (λ (k : Held). k.splits) e };
    for_budget = ap (λ (k : Held). k.stops_budget) e;
    for_memory = ap (λ (k : Held). k.stops_memory) e;
    cache = own;
  }

-- ---- causes and counts
why_before : (x y : Held) (why : Why) → y.stops_budget ≡ x.stops_budget → y.stops_memory ≡ x.stops_memory → why_of y.stops_budget y.stops_memory ≡ Some why → why_of x.stops_budget x.stops_memory ≡ Some why
why_before x y why b c h = ap (λ (k : Bool). why_of k x.stops_memory) (sym b) ∙ ap (λ (k : Bool). why_of y.stops_budget k) (sym c) ∙ h

pub cause_before : (why : Stop) (x y z : Held) → SamePass x y → y.stops_budget ≡ x.stops_budget → y.stops_memory ≡ x.stops_memory → IsCause why y z → IsCause why x z
cause_before stop.Dry x y z s b c h = (h.0, λ alone. h.1 (alone_before x y s alone))
cause_before (stop.Told why) x y z s b c h = (h.0, λ alone. why_before x y why b c (h.1 (alone_before x y s alone)))
cause_before stop.NoMemory x y z s b c h = tt

pub counted_before : (why : Stop) (l n k : LocalParts) (x y z : Held) → Counted l n x y → CountedAt why n k y z → CountedAt why l k x z
counted_before stop.Dry l n k x y z h c = omega (arith, h, c)
counted_before (stop.Told why) l n k x y z h c = omega (arith, h, c)
counted_before stop.NoMemory l n k x y z h c = elim c [ inl e ↦ inl (omega (arith, h, e)) | inr e ↦ inr (omega (arith, h, e)) ]
