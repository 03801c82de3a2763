use Rattle.std.proofs.Common.{subst, ap, ◌∙◌, FitsSigned, w64, rules}
use Rattle.std.proofs.lemmas.Int.{to_z-of_z}
use Rattle.fzn_model.specs.Limits.{IsModel}
use Rattle.incumbent_board.specs.Passes.{Held}
use Rattle.explorer.specs.Looking.{IsOnly}
use Rattle.explorer.proofs.Leaves.{are_near, cost_is_value, found_one, noted_one, dear_settled}
use Rattle.explorer.proofs.node.close_solution.Goals as goal

pub cost_of-cost-requires-clause-near : goal.cost_of-cost-requires-clause-near
cost_of-cost-requires-clause-near g c = are_near c.args.task.now.model.now c.args.values.now (subst IsModel c.model.view_is c.model.invariant) c.requires.solves

pub offer-requires-clause-cost : goal.offer-requires-clause-cost
offer-requires-clause-cost g c =
    let fits : FitsSigned w64 c.cost_of-cost.result = search rules in
    cost_is_value c.args.task.now.model.now c.args.values.now _ (subst IsModel c.model.view_is c.model.invariant) c.requires.solves (to_z-of_z w64 c.cost_of-cost.result fits ∙ c.cost_of-cost.ensures)

pub returns-then-is_err-clause-finds : goal.returns-then-is_err-clause-finds
returns-then-is_err-clause-finds g c =
    let fits : FitsSigned w64 c.cost_of-cost.result = search rules in
    found_one c.args.task.now.model.now c.args.pass.now c.offer.new.pass c.args.meter.now c.offer-2.new.self c.args.found.now c.keep.new.self c.args.values.now _ c.requires.solves (to_z-of_z w64 c.cost_of-cost.result fits ∙ c.cost_of-cost.ensures) c.offer.ensures c.offer-2.ensures c.keep.ensures

pub returns-clause-finds : goal.returns-clause-finds
returns-clause-finds g c =
    let fits : FitsSigned w64 c.cost_of-cost.result = search rules in
    found_one c.args.task.now.model.now c.args.pass.now c.offer.new.pass c.args.meter.now c.offer-2.new.self c.args.found.now c.keep.new.self c.args.values.now _ c.requires.solves (to_z-of_z w64 c.cost_of-cost.result fits ∙ c.cost_of-cost.ensures) c.offer.ensures c.offer-2.ensures c.keep.ensures

pub returns-clause-settled : goal.returns-clause-settled
returns-clause-settled g c =
    let fits : FitsSigned w64 c.cost_of-cost.result = search rules in
    dear_settled c.args.task.now.model.now c.args.here.now c.args.values.now c.args.pass.now.seen _ c.offer.new.pass.seen (subst (λ b. IsOnly c.args.task.now.model.now c.args.here.now c.args.values.now b) c.requires.seen c.requires.only) (to_z-of_z w64 c.cost_of-cost.result fits ∙ c.cost_of-cost.ensures) (ap (λ (p : Held). p.seen) c.offer.ensures)

pub returns-then-is_err-clause-notes : goal.returns-then-is_err-clause-notes
returns-then-is_err-clause-notes g c =
    let fits : FitsSigned w64 c.cost_of-cost.result = search rules in
    noted_one c.args.task.now.model.now c.args.here.now c.args.pass.now c.offer.new.pass c.args.meter.now c.offer-2.new.self (g.J.Journal.noted c.args.journal.now) (g.J.Journal.noted c.note_solution.new.journal) c.args.values.now c.cost_of-cost.result _ _ _ (to_z-of_z w64 c.cost_of-cost.result fits) (to_z-of_z w64 c.cost_of-cost.result fits) (to_z-of_z w64 c.cost_of-cost.result fits) c.requires.solves c.requires.meets c.cost_of-cost.ensures c.offer.ensures c.offer-2.ensures c.note_solution.ensures.notes

pub returns-clause-notes : goal.returns-clause-notes
returns-clause-notes g c =
    let fits : FitsSigned w64 c.cost_of-cost.result = search rules in
    noted_one c.args.task.now.model.now c.args.here.now c.args.pass.now c.offer.new.pass c.args.meter.now c.offer-2.new.self (g.J.Journal.noted c.args.journal.now) (g.J.Journal.noted c.note_solution.new.journal) c.args.values.now c.cost_of-cost.result _ _ _ (to_z-of_z w64 c.cost_of-cost.result fits) (to_z-of_z w64 c.cost_of-cost.result fits) (to_z-of_z w64 c.cost_of-cost.result fits) c.requires.solves c.requires.meets c.cost_of-cost.ensures c.offer.ensures c.offer-2.ensures c.note_solution.ensures.notes
