-- The answer of a search is right.
use Rattle.std.proofs.Common.{◌≡◌, ℕ, zero, suc, ◌+◌, ◌*◌, ◌<◌, ◌≤◌, false, List, [], ◌∷◌, length, refl, sym, ap, ◌∙◌, subst, ℤ, arith}
use Rattle.std.specs.Prelude.{All, Option, Some, None, IfSome, IfNone, ◌≤ℤ◌, ◌≢◌}
use Rattle.std.proofs.lemmas.Int.{ints}
use Rattle.std.proofs.lemmas.List.Elements.{All-head, All-tail}
use Rattle.int_domain.specs.Values.{values_of}
use Rattle.fzn_model.specs.declared.term.Term.{Term}
use Rattle.fzn_model.specs.declared.goal.Goal.{Goal}
use Rattle.fzn_model.specs.declared.goal.Goal.TheVariants as goal
use Rattle.fzn_model.specs.Parts.{Parts}
use Rattle.fzn_model.specs.Limits.{IsModel}
use Rattle.fzn_model.specs.Boxes.{IsDomain, IsBox}
use Rattle.fzn_model.specs.Solutions.{Solves, cost, IsTop}
use Rattle.fzn_model.proofs.Solutions.{solves_length}
use Rattle.dom_store.specs.Views.{box_of}
use Rattle.incumbent_board.specs.Passes.{Facts, Held, Ends, first_pass, SamePass, why_of}
use Rattle.incumbent_board.specs.Right.{Right, AnswerFits}
use Rattle.incumbent_board.specs.declared.answer.Answer.{Answer}
use Rattle.incumbent_board.specs.declared.why.Why.{Why}
use Rattle.incumbent_board.specs.declared.why.Why.TheVariants as why
use Rattle.incumbent_board.specs.declared.options.Options.{Options}
use Rattle.incumbent_board.specs.declared.outcome.Outcome.{Outcome}
use Rattle.incumbent_board.specs.declared.totals.Totals.{Totals}
use Rattle.evictor.specs.Readers.{ReaderParts}
use Rattle.search_core.specs.declared.decision.Decision.{Decision}
use Rattle.search_core.specs.Paths.{Settled, Meets}
use Rattle.search_core.specs.Sizes.{product_of_sizes}
use Rattle.search_core.specs.Locals.{LocalParts}
use Rattle.search_core.proofs.Counting.{size_of_all}
use Rattle.search_core.proofs.Meeting.{meets_none}
use Rattle.explorer.specs.Offers.{Kept, HasValues}
use Rattle.explorer.specs.Frames.{weight}
use Rattle.explorer.specs.Works.{Works}
use Rattle.explorer.specs.Explored.{IfSettled, Closes, closings, IsCauseOf}
use Rattle.explorer.specs.declared.subtree.Explored.{Explored}
use Rattle.explorer.specs.declared.subtree.Explored.TheVariants as explored
use Rattle.explorer.specs.declared.meter.Meter.{Meter}
use Rattle.solver.specs.Outcomes.{said, decided, undecided, LacksBudget, IsSpent, IsBySearch, HasTheLeast}
use Rattle.solver.proofs.Offered.{below_top, IsKnown, IsTold, known_all, told_all}

-- ---- how many assignments there are
some_values : (d : List (List (ℤ × ℤ))) → All IsDomain (box_of d) → 1 ≤ product_of_sizes d
some_values [] h = omega arith
some_values (d ∷ ds) h =
    let here : IsDomain (values_of d) = All-head IsDomain (values_of d) (box_of ds) h in
    let one : 1 ≤ length (values_of d) = not_none (values_of d) here.some in
    let more : 1 ≤ product_of_sizes ds = some_values ds (All-tail IsDomain (values_of d) (box_of ds) h) in
    times_one (length (values_of d)) (product_of_sizes ds) one more
  where
    not_none : (vs : List ℤ) → vs ≢ [] → 1 ≤ length vs
    not_none [] n = absurd (n refl)
    not_none (v ∷ vs) n = omega arith

    times_one : (a b : ℕ) → 1 ≤ a → 1 ≤ b → 1 ≤ a * b
    times_one (suc a) (suc b) h k = omega arith
    times_one zero b h k = absurd (omega (arith, h))
    times_one (suc a) zero h k = absurd (omega (arith, k))

differ_min : (t : Term) → goal.Minimise t ≡ goal.Satisfy → ⊥
differ_min t e = cc

differ_max : (t : Term) → goal.Maximise t ≡ goal.Satisfy → ⊥
differ_max t e = cc

-- what a search of the whole model left
module _ (m : Parts) (limit : ℕ) (facts : Facts) (y : Held) (r s : ReaderParts) (a b : Meter) (f g : Kept) (e : Explored) (l j : LocalParts) (values : Option (List ℤ))
    (model : IsModel m) (top : IsTop m.doms m.goal facts.top) (works : Works m [] limit (first_pass facts) y r s a b f g) (fresh : f.best ≡ None)
    (closes : IfSettled e (λ w. Closes m [] w y l j)) (some : IfSome values (λ θ. HasValues g θ)) (none : IfNone values (g.best ≡ None)) where
  known : IsKnown m facts.top y.least g.best
  known = rw (works.least, works.kept, fresh) (known_all m facts.top model top works.offers facts.top None works.solved refl)

  solution : (θ : List ℤ) → HasValues g θ → Solves m θ × (y.least ≡ cost m θ)
  solution θ h =
      let k : IsKnown m facts.top y.least (Some (θ, h.0)) = subst (IsKnown m facts.top y.least) h.1 known in
      (k.0.solves, k.1 ∙ k.0.costs)

  high : y.least ≤ℤ y.seen
  high = works.floor (refl, refl) (omega (arith, ints))

  cheapest : (w : ℤ) → Closes m [] w y l j → (φ : List ℤ) → Solves m φ → y.least ≤ℤ cost m φ
  unfolding Settled Meets
  cheapest w c φ solves = omega (arith, ints, high, c.seen, c.settled φ solves (meets_none φ))

  right_decided : (w : ℤ) → Closes m [] w y l j → (gl : Goal) → gl ≡ m.goal → (v : Option (List ℤ)) → IfSome v (λ θ. HasValues g θ) → IfNone v (g.best ≡ None) → Right m (decided gl v)
  right_decided w c gl is None h n = λ θ solves.
      let dear : y.least ≡ facts.top = subst (IsKnown m facts.top y.least) n known in
      absurd (omega (arith, ints, dear, cheapest w c θ solves, below_top m facts.top θ model top solves))
  right_decided w c goal.Satisfy is (Some θ) h n = (sym is, (solution θ h).0)
  right_decided w c (goal.Minimise t) is (Some θ) h n = ((λ other. absurd (differ_min t (is ∙ other))), record { solves = (solution θ h).0; least = λ φ solves. omega (arith, ints, (solution θ h).1, cheapest w c φ solves) })
  right_decided w c (goal.Maximise t) is (Some θ) h n = ((λ other. absurd (differ_max t (is ∙ other))), record { solves = (solution θ h).0; least = λ φ solves. omega (arith, ints, (solution θ h).1, cheapest w c φ solves) })

  right_undecided : (why : Why) (gl : Goal) → gl ≡ m.goal → (v : Option (List ℤ)) → IfSome v (λ θ. HasValues g θ) → Right m (undecided gl v why)
  right_undecided why goal.Satisfy is None h = tt
  right_undecided why goal.Satisfy is (Some θ) h = (sym is, (solution θ h).0)
  right_undecided why (goal.Minimise t) is None h = tt
  right_undecided why (goal.Minimise t) is (Some θ) h = ((λ other. absurd (differ_min t (is ∙ other))), (solution θ h).0)
  right_undecided why (goal.Maximise t) is None h = tt
  right_undecided why (goal.Maximise t) is (Some θ) h = ((λ other. absurd (differ_max t (is ∙ other))), (solution θ h).0)

  right_by : (x : Explored) → IfSettled x (λ w. Closes m [] w y l j) → Right m (said m.goal x values)
  right_by (explored.Settled w) c = right_decided w c m.goal refl values some none
  right_by explored.Dry c = right_undecided _ m.goal refl values some
  right_by (explored.Told why) c = right_undecided why m.goal refl values some
  right_by explored.NoMemory c = right_undecided _ m.goal refl values some

  pub right_said : Right m (said m.goal e values)
  right_said = right_by e closes

  -- a solution has a value for each variable
  fits_decided : (gl : Goal) (v : Option (List ℤ)) → IfSome v (λ θ. HasValues g θ) → AnswerFits (length m.doms) (decided gl v)
  fits_decided gl None h = tt
  fits_decided goal.Satisfy (Some θ) h = solves_length m θ (solution θ h).0
  fits_decided (goal.Minimise t) (Some θ) h = solves_length m θ (solution θ h).0
  fits_decided (goal.Maximise t) (Some θ) h = solves_length m θ (solution θ h).0

  fits_undecided : (why : Why) (gl : Goal) (v : Option (List ℤ)) → IfSome v (λ θ. HasValues g θ) → AnswerFits (length m.doms) (undecided gl v why)
  fits_undecided why goal.Satisfy None h = tt
  fits_undecided why goal.Satisfy (Some θ) h = solves_length m θ (solution θ h).0
  fits_undecided why (goal.Minimise t) None h = tt
  fits_undecided why (goal.Minimise t) (Some θ) h = solves_length m θ (solution θ h).0
  fits_undecided why (goal.Maximise t) None h = tt
  fits_undecided why (goal.Maximise t) (Some θ) h = solves_length m θ (solution θ h).0

  fits_by : (x : Explored) → AnswerFits (length m.doms) (said m.goal x values)
  fits_by (explored.Settled w) = fits_decided m.goal values some
  fits_by explored.Dry = fits_undecided _ m.goal values some
  fits_by (explored.Told why) = fits_undecided why m.goal values some
  fits_by explored.NoMemory = fits_undecided _ m.goal values some

  pub fits_said : AnswerFits (length m.doms) (said m.goal e values)
  fits_said = fits_by e

  -- what the meter knows
  told : a.least ≡ None → IsTold b.least g.best
  told new = rw (works.known, new, works.kept, fresh) (told_all works.offers None None refl)

  costs : a.least ≡ None → (θ : List ℤ) → HasValues g θ → b.least ≡ Some (cost m θ)
  costs new θ h =
      let k : IsTold b.least (Some (θ, h.0)) = subst (IsTold b.least) h.1 (told new) in
      let o : IsKnown m facts.top y.least (Some (θ, h.0)) = subst (IsKnown m facts.top y.least) h.1 known in
      k ∙ ap Some o.0.costs

  least_undecided : a.least ≡ None → (why : Why) (gl : Goal) (v : Option (List ℤ)) → IfSome v (λ θ. HasValues g θ) → IfNone v (g.best ≡ None) → HasTheLeast m b.least (undecided gl v why)
  least_undecided new why goal.Satisfy None h n = subst (IsTold b.least) n (told new)
  least_undecided new why goal.Satisfy (Some θ) h n = tt
  least_undecided new why (goal.Minimise t) None h n = subst (IsTold b.least) n (told new)
  least_undecided new why (goal.Minimise t) (Some θ) h n = costs new θ h
  least_undecided new why (goal.Maximise t) None h n = subst (IsTold b.least) n (told new)
  least_undecided new why (goal.Maximise t) (Some θ) h n = costs new θ h

  least_decided : (gl : Goal) (v : Option (List ℤ)) → HasTheLeast m b.least (decided gl v)
  least_decided gl None = tt
  least_decided goal.Satisfy (Some θ) = tt
  least_decided (goal.Minimise t) (Some θ) = tt
  least_decided (goal.Maximise t) (Some θ) = tt

  least_by : a.least ≡ None → (x : Explored) → HasTheLeast m b.least (said m.goal x values)
  least_by new (explored.Settled w) = least_decided m.goal values
  least_by new explored.Dry = least_undecided new _ m.goal values some none
  least_by new (explored.Told why) = least_undecided new why m.goal values some none
  least_by new explored.NoMemory = least_undecided new _ m.goal values some none

  pub least_said : a.least ≡ None → HasTheLeast m b.least (said m.goal e values)
  least_said new = least_by new e

-- ---- a whole search was closed
sought : (m : Parts) (why : Why) (gl : Goal) (v : Option (List ℤ)) → IsBySearch m (undecided gl v why) → ⊥
sought m why goal.Satisfy None h = h
sought m why goal.Satisfy (Some θ) h = h
sought m why (goal.Minimise t) v h = h
sought m why (goal.Maximise t) v h = h

pub closed_said : (m : Parts) (e : Explored) (values : Option (List ℤ)) (n k : ℕ) → k ≡ n + closings e → IsBySearch m (said m.goal e values) → n < k
closed_said m (explored.Settled w) values n k is h = omega (arith, is)
closed_said m explored.Dry values n k is h = absurd (sought m _ m.goal values h)
closed_said m (explored.Told why) values n k is h = absurd (sought m why m.goal values h)
closed_said m explored.NoMemory values n k is h = absurd (sought m _ m.goal values h)

-- ---- the budget was spent
decides : (gl : Goal) (v : Option (List ℤ)) → LacksBudget (decided gl v) → ⊥
decides gl None h = h
decides goal.Satisfy (Some θ) h = h
decides (goal.Minimise t) (Some θ) h = h
decides (goal.Maximise t) (Some θ) h = h

lacks_memory : (gl : Goal) (v : Option (List ℤ)) → LacksBudget (undecided gl v why.Memory) → ⊥
lacks_memory goal.Satisfy None h = h
lacks_memory goal.Satisfy (Some θ) h = h
lacks_memory (goal.Minimise t) v h = h
lacks_memory (goal.Maximise t) v h = h

no_reason : (w : Why) → why_of false false ≡ Some w → ⊥
no_reason w e = cc

module _ (m : Parts) (o : Options) (out : Outcome) (facts : Facts) (y : Held) (t : Totals) (values : Option (List ℤ)) (box : IsBox (box_of m.doms))
    (budget : facts.budget ≡ o.nodes) (same : SamePass (first_pass facts) y) (nodes : out.nodes ≡ t.credits) (ended : Ends y t) (few : y.credits ≤ 0 + weight m []) where
  spent : y.credits ≡ y.board.budget → IsSpent m o out
  unfolding weight
  spent e =
      let all : o.nodes ≡ y.credits = sym (e ∙ ap (λ (f : Facts). f.budget) same.board ∙ budget) in
      record {
        nodes = nodes ∙ ended.credits ∙ sym all;
        fewer = omega (arith, all, few, size_of_all m, some_values m.doms box);
      }

  pub budget_said : (e : Explored) → IsCauseOf e (first_pass facts) y → LacksBudget (said m.goal e values) → IsSpent m o out
  budget_said (explored.Settled w) cause h = absurd (decides m.goal values h)
  budget_said explored.Dry cause h = spent (cause.1 (refl, refl))
  budget_said (explored.Told w) cause h = absurd (no_reason w (cause.1 (refl, refl)))
  budget_said explored.NoMemory cause h = absurd (lacks_memory m.goal values h)

-- ---- as the code shows it
module _ (m : Parts) (limit : ℕ) (facts : Facts) (x y : Held) (p : List Decision) (r s : ReaderParts) (a b : Meter) (f g : Kept) (e : Explored) (l j : LocalParts) (values : Option (List ℤ)) (n : ℕ) (t : ℤ) (gl : Goal) (out : Answer)
    (model : IsModel m) (top : IsTop m.doms m.goal t) (at : facts.top ≡ t) (pass : x ≡ first_pass facts) (path : p ≡ []) (fresh : f ≡ record { count = n; best = None }) (same : gl ≡ m.goal) (says : out ≡ said gl e values)
    (works : Works m p limit x y r s a b f g) (closes : IfSettled e (λ w. Closes m p w y l j)) (some : IfSome values (λ θ. HasValues g θ)) (none : IfNone values (g.best ≡ None)) where
  whole : Works m [] limit (first_pass facts) y r s a b f g
  whole = subst (λ (v : Held). Works m [] limit v y r s a b f g) pass (subst (λ (q : List Decision). Works m q limit x y r s a b f g) path works)

  closed : IfSettled e (λ w. Closes m [] w y l j)
  closed = subst (λ (q : List Decision). IfSettled e (λ w. Closes m q w y l j)) path closes

  tops : IsTop m.doms m.goal facts.top
  tops = rw at top

  new : f.best ≡ None
  new = ap (λ (v : Kept). v.best) fresh

  is : out ≡ said m.goal e values
  is = says ∙ ap (λ (v : Goal). said v e values) same

  pub answer_right : Right m out
  answer_right = rw is (right_said m limit facts y r s a b f g e l j values model tops whole new closed some none)

  pub answer_fits : AnswerFits (length m.doms) out
  answer_fits = rw is (fits_said m limit facts y r s a b f g e l j values model tops whole new closed some none)

  pub answer_least : a.least ≡ None → HasTheLeast m b.least out
  answer_least fresh_meter = rw is (least_said m limit facts y r s a b f g e l j values model tops whole new closed some none fresh_meter)

  pub answer_closed : b.closed ≡ a.closed + closings e → IsBySearch m out → a.closed < b.closed
  answer_closed rises by = closed_said m e values a.closed b.closed rises (subst (IsBySearch m) is by)

  pub answer_spent : (o : Options) (outcome : Outcome) (totals : Totals) → IsBox (box_of m.doms) → facts.budget ≡ o.nodes → outcome.nodes ≡ totals.credits → Ends y totals → y.credits ≤ x.credits + weight m p → IsCauseOf e x y → LacksBudget out → IsSpent m o outcome
  answer_spent o outcome totals box budget nodes ended few cause lacks =
      budget_said m o outcome facts y totals values box budget whole.same nodes ended
      (subst (λ (q : List Decision). y.credits ≤ 0 + weight m q) path (omega (arith, few, ap (λ (v : Held). v.credits) pass)))
      e (subst (λ (v : Held). IsCauseOf e v y) pass cause) (subst LacksBudget is lacks)
