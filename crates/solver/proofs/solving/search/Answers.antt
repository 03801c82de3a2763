use Rattle.std.proofs.lemmas.Int.{to_z-of_z}
use Rattle.std.proofs.Common.{rules, FitsSigned, w64, subst, ap, refl, ◌∙◌}
use Rattle.fzn_model.specs.Parts.{Parts}
use Rattle.fzn_model.specs.Limits.{IsModel}
use Rattle.incumbent_board.specs.Passes.{Facts}
use Rattle.solver.proofs.Starting.{all_positive}
use Rattle.solver.proofs.Answering.{answer_right, answer_fits, answer_least, answer_closed, answer_spent}
use Rattle.solver.proofs.solving.search.Goals as goal

pub top_of-top-requires : goal.top_of-top-requires
top_of-top-requires c = all_positive c.args.model.now c.args.bench.now c.requires.bench

pub returns-clause-right : goal.returns-clause-right
returns-clause-right c = let fits : FitsSigned w64 c.top_of-top.result = search rules in answer_right c.args.model.now c.args.options.now.key_words c.in_ok-board.board c.in_ok-board.pass c.explore-explored.new.pass c.new-path.result c.new-reader.result c.explore-explored.new.reader c.args.meter.now c.explore-explored.new.meter c.in_ok-found.found c.explore-explored.new.found c.explore-explored.result c.in_ok-local.local c.explore-explored.new.local c.into_values.result _ c.top_of-top.result c.model.inside.goal c.answer.result (subst IsModel c.model.view_is c.model.invariant) c.top_of-top.ensures.greatest (ap (λ (f : Facts). f.top) c.in_ok-board.ensures.board ∙ to_z-of_z w64 c.top_of-top.result fits) c.in_ok-board.ensures.pass c.new-path.ensures c.in_ok-found.ensures (ap (λ (v : Parts). v.goal) c.model.view_is) c.answer.ensures c.explore-explored.ensures.works c.explore-explored.ensures.settled c.into_values.ensures.some c.into_values.ensures.none

pub returns-clause-fits : goal.returns-clause-fits
returns-clause-fits c = let fits : FitsSigned w64 c.top_of-top.result = search rules in answer_fits c.args.model.now c.args.options.now.key_words c.in_ok-board.board c.in_ok-board.pass c.explore-explored.new.pass c.new-path.result c.new-reader.result c.explore-explored.new.reader c.args.meter.now c.explore-explored.new.meter c.in_ok-found.found c.explore-explored.new.found c.explore-explored.result c.in_ok-local.local c.explore-explored.new.local c.into_values.result _ c.top_of-top.result c.model.inside.goal c.answer.result (subst IsModel c.model.view_is c.model.invariant) c.top_of-top.ensures.greatest (ap (λ (f : Facts). f.top) c.in_ok-board.ensures.board ∙ to_z-of_z w64 c.top_of-top.result fits) c.in_ok-board.ensures.pass c.new-path.ensures c.in_ok-found.ensures (ap (λ (v : Parts). v.goal) c.model.view_is) c.answer.ensures c.explore-explored.ensures.works c.explore-explored.ensures.settled c.into_values.ensures.some c.into_values.ensures.none

pub returns-clause-budget : goal.returns-clause-budget
returns-clause-budget c = let fits : FitsSigned w64 c.top_of-top.result = search rules in answer_spent c.args.model.now c.args.options.now.key_words c.in_ok-board.board c.in_ok-board.pass c.explore-explored.new.pass c.new-path.result c.new-reader.result c.explore-explored.new.reader c.args.meter.now c.explore-explored.new.meter c.in_ok-found.found c.explore-explored.new.found c.explore-explored.result c.in_ok-local.local c.explore-explored.new.local c.into_values.result _ c.top_of-top.result c.model.inside.goal c.answer.result (subst IsModel c.model.view_is c.model.invariant) c.top_of-top.ensures.greatest (ap (λ (f : Facts). f.top) c.in_ok-board.ensures.board ∙ to_z-of_z w64 c.top_of-top.result fits) c.in_ok-board.ensures.pass c.new-path.ensures c.in_ok-found.ensures (ap (λ (v : Parts). v.goal) c.model.view_is) c.answer.ensures c.explore-explored.ensures.works c.explore-explored.ensures.settled c.into_values.ensures.some c.into_values.ensures.none c.args.options.now _ c.finish-totals.result c.requires.bench.full (ap (λ (f : Facts). f.budget) c.in_ok-board.ensures.board) refl c.finish-totals.ensures c.explore-explored.ensures.weight c.explore-explored.ensures.cause

pub returns-clause-closed : goal.returns-clause-closed
returns-clause-closed c = let fits : FitsSigned w64 c.top_of-top.result = search rules in answer_closed c.args.model.now c.args.options.now.key_words c.in_ok-board.board c.in_ok-board.pass c.explore-explored.new.pass c.new-path.result c.new-reader.result c.explore-explored.new.reader c.args.meter.now c.explore-explored.new.meter c.in_ok-found.found c.explore-explored.new.found c.explore-explored.result c.in_ok-local.local c.explore-explored.new.local c.into_values.result _ c.top_of-top.result c.model.inside.goal c.answer.result (subst IsModel c.model.view_is c.model.invariant) c.top_of-top.ensures.greatest (ap (λ (f : Facts). f.top) c.in_ok-board.ensures.board ∙ to_z-of_z w64 c.top_of-top.result fits) c.in_ok-board.ensures.pass c.new-path.ensures c.in_ok-found.ensures (ap (λ (v : Parts). v.goal) c.model.view_is) c.answer.ensures c.explore-explored.ensures.works c.explore-explored.ensures.settled c.into_values.ensures.some c.into_values.ensures.none c.explore-explored.ensures.closed

pub returns-clause-least : goal.returns-clause-least
returns-clause-least c = let fits : FitsSigned w64 c.top_of-top.result = search rules in answer_least c.args.model.now c.args.options.now.key_words c.in_ok-board.board c.in_ok-board.pass c.explore-explored.new.pass c.new-path.result c.new-reader.result c.explore-explored.new.reader c.args.meter.now c.explore-explored.new.meter c.in_ok-found.found c.explore-explored.new.found c.explore-explored.result c.in_ok-local.local c.explore-explored.new.local c.into_values.result _ c.top_of-top.result c.model.inside.goal c.answer.result (subst IsModel c.model.view_is c.model.invariant) c.top_of-top.ensures.greatest (ap (λ (f : Facts). f.top) c.in_ok-board.ensures.board ∙ to_z-of_z w64 c.top_of-top.result fits) c.in_ok-board.ensures.pass c.new-path.ensures c.in_ok-found.ensures (ap (λ (v : Parts). v.goal) c.model.view_is) c.answer.ensures c.explore-explored.ensures.works c.explore-explored.ensures.settled c.into_values.ensures.some c.into_values.ensures.none
