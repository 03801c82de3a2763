-- The rest of a box keeps the limits of a residual problem.
use Rattle.std.proofs.Common.{◌≡◌, ℕ, zero, suc, ◌*◌, ◌<◌, ◌≤◌, Bool, true, false, List, [], ◌∷◌, length, get_or, map, refl, ap, sym, subst, ◌∙◌, arith, ℤ, pos, negsuc, neg_ℤ, ◌-ℤ◌, ◌≤ℤ◌, ◌<ℤ◌}
use Rattle.std.specs.Prelude.{All, AllPairs, if◌then◌else◌, int_lt, slice_index_or, unsigned_abs}
use Rattle.std.proofs.lemmas.Int.{ints}
use Rattle.std.proofs.lemmas.List.{length-map, get_or-map}
use Rattle.std.proofs.lemmas.List.Elements.{All-head, All-tail, All-cons, All-nil, All-map, All-weaker}
use Rattle.fzn_model.specs.declared.term.Term.{Term}
use Rattle.fzn_model.specs.declared.term.Term.TheVariants as term
use Rattle.fzn_model.specs.declared.base.Base.{Base}
use Rattle.fzn_model.specs.declared.base.Base.TheVariants as base
use Rattle.fzn_model.specs.declared.cumulative.CumTask.{CumTask}
use Rattle.fzn_model.specs.declared.con.Con.{Con}
use Rattle.fzn_model.specs.declared.con.Con.TheVariants as con
use Rattle.fzn_model.specs.declared.goal.Goal.{Goal}
use Rattle.fzn_model.specs.declared.goal.Goal.TheVariants as goal
use Rattle.fzn_model.specs.Sets.{IsWithin, IsIn, low_of, high_of}
use Rattle.fzn_model.specs.Parts.{Parts}
use Rattle.fzn_model.specs.Limits.{IsValue, IsBit, TermIn, TermsIn, ListInLimits, SumInLimits, TasksInLimits, RowsInLimits, BaseInLimits, ConInLimits, IsTruth, BaseTruths, ConTruths, DomainInLimits, GoalInLimits, IsModel, of_call}
use Rattle.fzn_model.specs.Boxes.{IsDomain, IsBox, domain_at, low_value, high_value}
use Rattle.fzn_model.specs.Bounds.{term_low, is_open}
use Rattle.fzn_model.specs.Booleans.{IsBoolean, BaseBooleans, ConBooleans}
use Rattle.fzn_model.proofs.Domains.{between, low_in}
use Rattle.fzn_model.proofs.Grouping.{same_runs, runs_are, runs_have}
use Rattle.fzn_model.specs.Grouping.{runs_of}
use Rattle.fzn_model.specs.Rests.{RestParts, CostInLimits, IsRest, LiesWithin}
use Rattle.fzn_model.proofs.Tops as tops
use Rattle.rest_basic.specs.Forms.{substituted}
use Rattle.rest_basic.specs.declared.reduced.Reduced.{Reduced}
use Rattle.rest_basic.specs.declared.reduced.Reduced.TheVariants as reduced
use Rattle.rest_basic.proofs.Substituting.{low_is, low_bit}
use Rattle.rest_basic.proofs.Members.{ends_all}
use Rattle.rest_global.specs.Renamed.{terms_by, linear_terms_by, task_by, tasks_by, base_by, con_by}
use Rattle.rest_global.specs.Projection.{opens, place, numbered, rest_term, rest_variables, IsForm, IsFirst, AreLeft, open_part, constant_part, cost_left, cost_offset, IsRestOfBox}
use Rattle.rest_global.specs.Projected.{IsOffset}
use Rattle.rest_global.specs.Making.{IsOver}
use Rattle.rest_global.proofs.Places.{opens_at, opens_from, opens_below}
use Rattle.rest_global.proofs.ConstraintsLeft.{form_suits}
use Rattle.rest_global.proofs.ModelOverBox.{model_over, model_goal}

-- ---- domains
-- a domain with all numbers of its hull is one run
one_has : (low high : ℤ) (z : ℤ) → low ≤ℤ z → z ≤ℤ high → IsIn ((low, high) ∷ []) z
unfolding IsIn IsWithin
one_has low high z from to = (zero, (low, high), omega arith, refl, (from, to))

has_one : (low high : ℤ) (z : ℤ) → IsIn ((low, high) ∷ []) z → (low ≤ℤ z) × (z ≤ℤ high)
unfolding IsIn IsWithin
has_one low high z (zero, run, inside, is, within) = subst (λ (x : ℤ × ℤ). (x.0 ≤ℤ z) × (z ≤ℤ x.1)) (sym is) within
has_one low high z (suc k, run, inside, is, within) = absurd (omega (arith, inside))

one_run : (xs : List ℤ) → IsDomain xs → pos 1024 ≤ℤ (high_value xs -ℤ low_value xs) → runs_of xs ≡ (low_value xs, high_value xs) ∷ []
one_run xs domain wide = same_runs (runs_of xs) ((low_value xs, high_value xs) ∷ []) (runs_are xs domain.rising) (order, tt) (λ z. (
  (λ has. let ends = between xs z domain ((runs_have xs z domain.rising).0 has) in one_has (low_value xs) (high_value xs) z ends.0 ends.1),
  (λ has. let ends = has_one (low_value xs) (high_value xs) z has in (runs_have xs z domain.rising).1 (domain.whole wide z ends.0 ends.1)),
))
  where
    order : low_value xs ≤ℤ high_value xs
    order = (between xs (low_value xs) domain (low_in xs domain)).1

narrow_runs : (xs : List ℤ) → IsDomain xs → (o : Bool) → int_lt (high_value xs -ℤ low_value xs) (pos 1024) ≡ o → 1 < length (runs_of xs) → (high_of (runs_of xs) -ℤ low_of (runs_of xs)) <ℤ pos 1024
narrow_runs xs domain true e several =
    let are = runs_are xs domain.rising in
    let some : 0 < length (runs_of xs) = omega (arith, several) in
    let low = between xs (low_of (runs_of xs)) domain ((runs_have xs (low_of (runs_of xs)) domain.rising).0 (tops.low_in (runs_of xs) are some)) in
    let high = between xs (high_of (runs_of xs)) domain ((runs_have xs (high_of (runs_of xs)) domain.rising).0 (tops.high_in (runs_of xs) are some)) in
    omega (arith, ints, low.0, high.1, e)
narrow_runs xs domain false e several =
    let one = ap (length {A = ℤ × ℤ}) (one_run xs domain (omega (arith, ints, e))) in
    absurd (omega (arith, one, several))

pub domain_kept : (xs : List ℤ) → IsDomain xs → DomainInLimits (runs_of xs)
domain_kept xs domain = record {
  values = ends_all IsValue xs domain.within;
  narrow = narrow_runs xs domain (int_lt (high_value xs -ℤ low_value xs) (pos 1024)) refl;
}

pub variables_inside : (box : List (List ℤ)) → All (λ k. k < length box) (rest_variables box)
unfolding rest_variables
variables_inside box i d inside = (opens_from box (length box) i d inside).below

pub variables_few : (box : List (List ℤ)) → length (rest_variables box) ≤ length box
unfolding rest_variables
variables_few box = opens_below box (length box)

pub domains_kept : (box : List (List ℤ)) → IsBox box → All DomainInLimits (map (λ k. runs_of (domain_at box k)) (rest_variables box))
domains_kept box well_formed = All-map DomainInLimits (λ k. runs_of (domain_at box k)) (rest_variables box) (All-weaker (λ k. k < length box) (λ k. DomainInLimits (runs_of (domain_at box k))) (λ k inside. domain_kept (domain_at box k) (well_formed k [] inside)) (rest_variables box) (variables_inside box))

-- ---- terms
term_by : (box : List (List ℤ)) (t : Term) (o : Bool) → IsBox box → TermIn (length box) t → is_open box t ≡ o → TermIn (length (rest_variables box)) (numbered box (if o then t else term.Const (term_low box t)))
unfolding rest_variables
term_by box (term.Const z) true well_formed inside e = inside
term_by box (term.Var k) true well_formed inside e = (opens_at box (length box) k 0 inside e).0
term_by box t false well_formed inside e = low_is box t well_formed inside

pub term_kept : (box : List (List ℤ)) (t : Term) → IsBox box → TermIn (length box) t → TermIn (length (rest_variables box)) (rest_term box t)
unfolding rest_term substituted
term_kept box t well_formed inside = term_by box t (is_open box t) well_formed inside refl

-- a Boolean stays one
abbrev pub rest_domains : List (List ℤ) → List (List (ℤ × ℤ))
rest_domains box = map (λ k. runs_of (domain_at box k)) (rest_variables box)

truth_by : (box : List (List ℤ)) (t : Term) (o : Bool) → IsBox box → TermIn (length box) t → IsBoolean box t → is_open box t ≡ o → IsTruth (rest_domains box) (numbered box (if o then t else term.Const (term_low box t)))
unfolding rest_variables
truth_by box (term.Const z) true well_formed inside boolean e = boolean
truth_by box (term.Var k) true well_formed inside boolean e =
    let at = opens_at box (length box) k 0 inside e in
    let is : slice_index_or (map (λ j. runs_of (domain_at box j)) (opens box (length box))) (place box k) [] ≡ runs_of (domain_at box k) =
    get_or-map (λ j. runs_of (domain_at box j)) (opens box (length box)) (place box k) 0 [] at.0 ∙ ap (λ j. runs_of (domain_at box j)) at.1 in
    rw is (ends_all IsBit (domain_at box k) boolean)
truth_by box t false well_formed inside boolean e = low_bit box t well_formed inside boolean

truth_kept : (box : List (List ℤ)) (t : Term) → IsBox box → TermIn (length box) t → IsBoolean box t → IsTruth (rest_domains box) (rest_term box t)
unfolding rest_term substituted
truth_kept box t well_formed inside boolean = truth_by box t (is_open box t) well_formed inside boolean refl

-- ---- constraints
module _ (to : Term → Term) (m n : ℕ) (inside : (t : Term) → TermIn m t → TermIn n (to t)) where
  list_by : (ts : List Term) → All (TermIn m) ts → All (TermIn n) (map to ts)
  list_by ts all = All-map (TermIn n) to ts (All-weaker (TermIn m) (λ t. TermIn n (to t)) inside ts all)

  terms_kept : (ts : List Term) → TermsIn m ts → TermsIn n (terms_by to ts)
  unfolding terms_by
  terms_kept ts kept = record { count = omega (arith, length-map ts to, kept.count); terms = list_by ts kept.terms }

  some_kept : (ts : List Term) → ListInLimits m ts → ListInLimits n (terms_by to ts)
  unfolding terms_by
  some_kept ts kept = record { some = omega (arith, length-map ts to, kept.some); terms = terms_kept ts kept.terms }

  linear_terms_kept : (ps : List (ℤ × Term)) → SumInLimits m ps → SumInLimits n (linear_terms_by to ps)
  unfolding linear_terms_by
  linear_terms_kept ps kept = record {
    count = omega (arith, length-map {B = ℤ × Term} ps (λ (p : ℤ × Term). (p.0, to p.1)), kept.count);
    factors = All-map (λ (t : ℤ × Term). IsValue t.0) (λ (p : ℤ × Term). (p.0, to p.1)) ps kept.factors;
    terms = All-map (λ (t : ℤ × Term). TermIn n t.1) (λ (p : ℤ × Term). (p.0, to p.1)) ps (All-weaker (λ (p : ℤ × Term). TermIn m p.1) (λ (p : ℤ × Term). TermIn n (to p.1)) (λ p here. inside p.1 here) ps kept.terms);
  }

  tasks_kept : (ks : List CumTask) → TasksInLimits m ks → TasksInLimits n (tasks_by to ks)
  unfolding tasks_by
  tasks_kept ks kept = record {
    count = omega (arith, length-map ks (task_by to), kept.count);
    terms = All-map (λ (k : CumTask). TermIn n k.s × TermIn n k.d × TermIn n k.r) (task_by to) ks
        (All-weaker (λ (k : CumTask). TermIn m k.s × TermIn m k.d × TermIn m k.r) (λ (k : CumTask). TermIn n (to k.s) × TermIn n (to k.d) × TermIn n (to k.r)) (λ k here. (inside k.s here.0, inside k.d here.1, inside k.r here.2)) ks kept.terms);
  }

  length_by : (ts : List Term) → length (terms_by to ts) ≡ length ts
  unfolding terms_by
  length_by ts = length-map ts to

  rows_kept : (ts : List Term) (rows : List ℤ) → RowsInLimits m ts rows → RowsInLimits n (terms_by to ts) rows
  rows_kept ts rows kept = record {
    columns = some_kept ts kept.columns;
    count = kept.count;
    whole = (kept.whole.0, kept.whole.1 ∙ ap (λ (w : ℕ). kept.whole.0 * w) (sym (length_by ts)));
    values = kept.values;
  }

  base_kept : (b : Base) → BaseInLimits of_call m b → BaseInLimits of_call n (base_by to b)
  base_kept (base.Lin l) kept = record { sum = linear_terms_kept l.terms kept.sum; constant = kept.constant }
  base_kept (base.Clause c) kept = record { pos = terms_kept c.pos kept.pos; neg = terms_kept c.neg kept.neg }
  base_kept (base.Member e) kept = record { x = inside e.x kept.x; set = kept.set }

  con_kept : (c : Con) → ConInLimits of_call m c → ConInLimits of_call n (con_by to c)
  con_kept (con.Base b) kept = base_kept b kept
  con_kept (con.Reif b r f) kept = (base_kept b kept.0, inside r kept.1)
  con_kept (con.Times a b c) kept = (inside a kept.0, inside b kept.1, inside c kept.2)
  con_kept (con.Abs a b) kept = (inside a kept.0, inside b kept.1)
  con_kept (con.Div a b c) kept = (inside a kept.0, inside b kept.1, inside c kept.2)
  con_kept (con.Mod a b c) kept = (inside a kept.0, inside b kept.1, inside c kept.2)
  con_kept (con.Greatest e xs) kept = (inside e kept.0, some_kept xs kept.1)
  con_kept (con.Least e xs) kept = (inside e kept.0, some_kept xs kept.1)
  con_kept (con.Element i xs c) kept = (inside i kept.0, terms_kept xs kept.1, inside c kept.2)
  con_kept (con.AllDiffExcept xs taken) kept = (terms_kept xs kept.0, kept.1)
  con_kept (con.CumulUsed tasks used b) kept = (tasks_kept tasks kept.0, kept.1, inside b kept.2)
  con_kept (con.Table xs rows) kept = rows_kept xs rows kept

-- the Booleans of a constraint
module _ (box : List (List ℤ)) (to : Term → Term) (ds : List (List (ℤ × ℤ))) (truth : (t : Term) → TermIn (length box) t → IsBoolean box t → IsTruth ds (to t)) where
  truths_kept : (ts : List Term) → All (TermIn (length box)) ts → All (IsBoolean box) ts → All (IsTruth ds) (terms_by to ts)
  unfolding terms_by
  truths_kept ts inside booleans = All-map (IsTruth ds) to ts (λ k d below. truth (get_or ts k d) (inside k d below) (booleans k d below))

  base_truths : (b : Base) → BaseInLimits of_call (length box) b → BaseBooleans box b → BaseTruths ds (base_by to b)
  base_truths (base.Clause c) kept booleans = (truths_kept c.pos kept.pos.terms booleans.0, truths_kept c.neg kept.neg.terms booleans.1)
  base_truths b kept booleans = tt

  con_truths : (c : Con) → ConInLimits of_call (length box) c → ConBooleans box c → ConTruths ds (con_by to c)
  con_truths (con.Base b) kept booleans = base_truths b kept booleans
  con_truths (con.Reif b r f) kept booleans = (base_truths b kept.0 booleans.0, truth r kept.1 booleans.1)
  con_truths c kept booleans = tt

-- ---- what is left
-- what holds of each form over the variables of the rest holds of all that are left
left_each : (box : List (List ℤ)) (P : Con → Type 0) (n : ℕ) (cs ds : List Con) (labels : List ℕ) → ((c d : Con) → IsOver box c → IsForm box c (reduced.Is d) → P (con_by (rest_term box) d)) → All (IsOver box) cs → AreLeft box n cs ds labels → All P ds
left_each box P n [] ds labels each over left = rw left.0 (All-nil P)
left_each box P n (c ∷ cs) ds labels each over (form, others, other_labels, is, first, left) =
    by_form form is first (left_each box P (suc n) cs others other_labels each (All-tail (IsOver box) c cs over) left)
  where
    by_form : (f : Reduced) → IsForm box c f → IsFirst box f n ds labels others other_labels → All P others → All P ds
    by_form reduced.Holds here at rest = rw at.0 rest
    by_form (reduced.Is d) here at rest = rw at.0 (All-cons P (con_by (rest_term box) d) others (each c d (All-head (IsOver box) c cs over) here) rest)

-- as many labels as constraints, no more than there were, rising from the first place on
record Labelled (n count : ℕ) (ds : List Con) (labels : List ℕ) : Type 0 where
  same : length labels ≡ length ds
  few : length ds ≤ count
  from : All (λ l. n ≤ l) labels
  rising : AllPairs (λ a b. a < b) labels

rising_cons : (n : ℕ) (ls : List ℕ) → All (λ l. suc n ≤ l) ls → AllPairs (λ a b. a < b) ls → AllPairs (λ a b. a < b) (n ∷ ls)
rising_cons n ls from rising zero zero d less inside = absurd (omega (arith, less))
rising_cons n ls from rising zero (suc j) d less inside = let here : suc n ≤ get_or ls j d = from j d (omega (arith, inside)) in omega (arith, here)
rising_cons n ls from rising (suc i) zero d less inside = absurd (omega (arith, less))
rising_cons n ls from rising (suc i) (suc j) d less inside = rising i j d (omega (arith, less)) (omega (arith, inside))

from_lower : (n : ℕ) (ls : List ℕ) → All (λ l. suc n ≤ l) ls → All (λ l. n ≤ l) ls
from_lower n ls from = All-weaker (λ l. suc n ≤ l) (λ l. n ≤ l) (λ l more. omega (arith, more)) ls from

labelled : (box : List (List ℤ)) (n : ℕ) (cs ds : List Con) (labels : List ℕ) → AreLeft box n cs ds labels → Labelled n (length cs) ds labels
labelled box n [] ds labels (none, empty) = rw (none, empty) (record { same = refl; few = omega arith; from = All-nil (λ l. n ≤ l); rising = λ i j d less inside. absurd (omega (arith, inside)) })
labelled box n (c ∷ cs) ds labels (form, others, other_labels, is, first, left) =
    by_form form first (labelled box (suc n) cs others other_labels left)
  where
    by_form : (f : Reduced) → IsFirst box f n ds labels others other_labels → Labelled (suc n) (length cs) others other_labels → Labelled n (length (c ∷ cs)) ds labels
    by_form reduced.Holds at rest = rw (at.0, at.1) (record { same = rest.same; few = omega (arith, rest.few); from = from_lower n other_labels rest.from; rising = rest.rising })
    by_form (reduced.Is d) at rest = rw (at.0, at.1) (record {
      same = omega (arith, rest.same);
      few = omega (arith, rest.few);
      from = All-cons (λ l. n ≤ l) n other_labels (omega arith) (from_lower n other_labels rest.from);
      rising = rising_cons n other_labels rest.from rest.rising;
    })

-- ---- the cost
part_kept : (n : ℕ) (factor : ℤ) (t : Term) → IsValue factor → TermIn n t → CostInLimits n (open_part factor t)
part_kept n factor (term.Const z) small inside = record { count = omega arith; factors = All-nil (λ (p : ℤ × ℕ). IsValue p.0); variables = All-nil (λ (p : ℤ × ℕ). p.1 < n) }
part_kept n factor (term.Var k) small inside = record {
  count = omega arith;
  factors = All-cons (λ (p : ℤ × ℕ). IsValue p.0) (factor, k) [] small (All-nil (λ (p : ℤ × ℕ). IsValue p.0));
  variables = All-cons (λ (p : ℤ × ℕ). p.1 < n) (factor, k) [] inside (All-nil (λ (p : ℤ × ℕ). p.1 < n));
}

none_kept : (n : ℕ) → CostInLimits n []
none_kept n = record { count = omega arith; factors = All-nil (λ (p : ℤ × ℕ). IsValue p.0); variables = All-nil (λ (p : ℤ × ℕ). p.1 < n) }

pub cost_kept : (box : List (List ℤ)) (g : Goal) → IsBox box → GoalInLimits (length box) g → CostInLimits (length (rest_variables box)) (cost_left box g)
cost_kept box goal.Satisfy well_formed kept = none_kept (length (rest_variables box))
cost_kept box (goal.Minimise t) well_formed kept = part_kept (length (rest_variables box)) (pos 1) (rest_term box t) (omega (arith, ints)) (term_kept box t well_formed kept)
cost_kept box (goal.Maximise t) well_formed kept = part_kept (length (rest_variables box)) (negsuc 0) (rest_term box t) (omega (arith, ints)) (term_kept box t well_formed kept)

-- ---- the offset
part_small : (n : ℕ) (t : Term) → TermIn n t → unsigned_abs (constant_part t) ≤ 1000000
part_small n (term.Const z) small = small
part_small n (term.Var k) small = omega arith

offset_of : (z : ℤ) → unsigned_abs z ≤ 1000000 → IsOffset z
offset_of z small = record { low = omega (arith, ints, small); high = omega (arith, ints, small) }

negated_offset : (z : ℤ) → unsigned_abs z ≤ 1000000 → IsOffset (neg_ℤ z)
negated_offset z small = record { low = omega (arith, ints, small); high = omega (arith, ints, small) }

pub offset_kept : (box : List (List ℤ)) (g : Goal) → IsBox box → GoalInLimits (length box) g → IsOffset (cost_offset box g)
offset_kept box goal.Satisfy well_formed kept = offset_of (pos 0) (omega arith)
offset_kept box (goal.Minimise t) well_formed kept = offset_of (constant_part (rest_term box t)) (part_small (length (rest_variables box)) (rest_term box t) (term_kept box t well_formed kept))
offset_kept box (goal.Maximise t) well_formed kept = negated_offset (constant_part (rest_term box t)) (part_small (length (rest_variables box)) (rest_term box t) (term_kept box t well_formed kept))

-- ---- the rest of a box
pub rest_kept : (box : List (List ℤ)) (m : Parts) (r : RestParts) → IsBox box → IsModel m → LiesWithin box m → r.doms ≡ rest_domains box → AreLeft box 0 m.cons r.cons r.labels → r.cost ≡ cost_left box m.goal → IsRest r
rest_kept box m r well_formed model lies domains left cost = record {
  variables = omega (arith, count, variables_few box, lies.count, model.variables);
  domains = rw domains (domains_kept box well_formed);
  constraints = omega (arith, labels.few, model.constraints);
  cons = rw count (left_each box (ConInLimits of_call (length (rest_variables box))) 0 m.cons r.cons r.labels kept over left);
  truths = rw domains (left_each box (ConTruths (rest_domains box)) 0 m.cons r.cons r.labels truths over left);
  cost = rw (count, cost) (cost_kept box m.goal well_formed (model_goal box m model lies));
  labelled = labels.same;
  rising = labels.rising;
}
  where
    over : All (IsOver box) m.cons
    over = model_over box m model lies

    count : length r.doms ≡ length (rest_variables box)
    count = ap (length {A = List (ℤ × ℤ)}) domains ∙ length-map (rest_variables box) (λ k. runs_of (domain_at box k))

    labels : Labelled 0 (length m.cons) r.cons r.labels
    labels = labelled box 0 m.cons r.cons r.labels left

    kept : (c d : Con) → IsOver box c → IsForm box c (reduced.Is d) → ConInLimits of_call (length (rest_variables box)) (con_by (rest_term box) d)
    kept c d here is = con_kept (rest_term box) (length box) (length (rest_variables box)) (λ t inside. term_kept box t well_formed inside) d (form_suits box c d well_formed here is).kept

    truths : (c d : Con) → IsOver box c → IsForm box c (reduced.Is d) → ConTruths (rest_domains box) (con_by (rest_term box) d)
    truths c d here is = let fits_box = form_suits box c d well_formed here is in con_truths box (rest_term box) (rest_domains box) (λ t inside boolean. truth_kept box t well_formed inside boolean) d fits_box.kept fits_box.booleans

pub rest_is : (box : List (List ℤ)) (m : Parts) (below : ℤ) (r : RestParts) (offset : ℤ) → r.doms ≡ rest_domains box → AreLeft box 0 m.cons r.cons r.labels → r.cost ≡ cost_left box m.goal → offset ≡ cost_offset box m.goal → IsRestOfBox box m below r offset
rest_is box m below r offset domains constraints cost constant = record { domains = domains; constraints = constraints; cost = cost; constant = constant }
