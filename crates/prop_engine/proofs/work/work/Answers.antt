use Rattle.std.proofs.Common.{subst}
use Rattle.prop_engine.specs.declared.queue.Ended.{Ended}
use Rattle.prop_engine.specs.Goals.{CutMeans}
use Rattle.prop_engine.specs.Queues.{Ends}
use Rattle.prop_engine.proofs.Working.{fits_then, fixes_prepared, fixes_run, fixes_settled, ready_prepared, ready_run, ready_settled, means_cut, means_empty, means_far, means_kept}
use Rattle.prop_engine.proofs.work.work.Goals as goal

pub returns-in-Empty-clause-fixes : goal.returns-in-Empty-clause-fixes
returns-in-Empty-clause-fixes c = fixes_prepared c.args.propagators.now c.args.goal c.args.below.now c.args.store.now c.prepare.new.store c.prepare.new.store c.prepare.ensures.lessens

pub returns-in-Empty-clause-means : goal.returns-in-Empty-clause-means
returns-in-Empty-clause-means c = means_cut c.args.propagators.now c.args.goal c.args.below.now c.args.store.now.box c.prepare.new.store.box c.in-Empty.ensures.means

pub returns-in-Empty-clause-ready : goal.returns-in-Empty-clause-ready
returns-in-Empty-clause-ready c = ready_prepared c.args.propagators.now c.args.goal c.args.below.now c.args.store.now c.prepare.new.store c.prepare.new.store c.prepare.ensures.lessens c.requires.ready

pub run_queue-requires-clause-fits_box : goal.run_queue-requires-clause-fits_box
run_queue-requires-clause-fits_box c = fits_then c.args.propagators.now c.args.goal c.args.below.now c.args.store.now c.prepare.new.store c.prepare.new.store c.prepare.ensures.lessens c.requires.fits_box

pub returns-in_err-run_queue-clause-fixes : goal.returns-in_err-run_queue-clause-fixes
returns-in_err-run_queue-clause-fixes c = fixes_run c.args.propagators.now c.args.goal c.args.below.now c.args.store.now c.prepare.new.store c.run_queue.new.store c.prepare.ensures.lessens c.run_queue.ensures.lessens

pub returns-in_err-run_queue-clause-ready : goal.returns-in_err-run_queue-clause-ready
returns-in_err-run_queue-clause-ready c = ready_run c.args.propagators.now c.args.goal c.args.below.now c.args.store.now c.prepare.new.store c.run_queue.new.store c.prepare.ensures.lessens c.run_queue.ensures.lessens c.requires.ready

pub returns-in-Empty-2-clause-fixes : goal.returns-in-Empty-2-clause-fixes
returns-in-Empty-2-clause-fixes c = fixes_run c.args.propagators.now c.args.goal c.args.below.now c.args.store.now c.prepare.new.store c.run_queue.new.store c.prepare.ensures.lessens c.run_queue.ensures.lessens

pub returns-in-Empty-2-clause-ready : goal.returns-in-Empty-2-clause-ready
returns-in-Empty-2-clause-ready c = ready_run c.args.propagators.now c.args.goal c.args.below.now c.args.store.now c.prepare.new.store c.run_queue.new.store c.prepare.ensures.lessens c.run_queue.ensures.lessens c.requires.ready

pub returns-in-EarlyStop-clause-fixes : goal.returns-in-EarlyStop-clause-fixes
returns-in-EarlyStop-clause-fixes c = fixes_run c.args.propagators.now c.args.goal c.args.below.now c.args.store.now c.prepare.new.store c.run_queue.new.store c.prepare.ensures.lessens c.run_queue.ensures.lessens

pub returns-in-EarlyStop-clause-ready : goal.returns-in-EarlyStop-clause-ready
returns-in-EarlyStop-clause-ready c = ready_run c.args.propagators.now c.args.goal c.args.below.now c.args.store.now c.prepare.new.store c.run_queue.new.store c.prepare.ensures.lessens c.run_queue.ensures.lessens c.requires.ready

pub returns-in-Empty-2-clause-means : goal.returns-in-Empty-2-clause-means
returns-in-Empty-2-clause-means c = means_empty c.args.propagators.now c.args.goal c.args.below.now c.args.store.now c.prepare.new.store c.run_queue.new.store c.prepare.ensures.lessens c.run_queue.new.store.box (subst (λ (e : Ended). Ends c.args.propagators.now c.prepare.new.store.box c.run_queue.new.store.box e) c.in-Empty-2.is c.in_ok-run_queue.ensures.ends)

pub returns-in-EarlyStop-clause-means : goal.returns-in-EarlyStop-clause-means
returns-in-EarlyStop-clause-means c = means_far c.args.propagators.now c.args.goal c.args.below.now c.args.store.now c.prepare.new.store c.run_queue.new.store c.prepare.ensures.lessens (subst (λ (e : Ended). Ends c.args.propagators.now c.prepare.new.store.box c.run_queue.new.store.box e) c.in-EarlyStop.is c.in_ok-run_queue.ensures.ends)

pub returns-clause-fixes : goal.returns-clause-fixes
returns-clause-fixes c = fixes_settled c.args.propagators.now c.args.goal c.args.below.now c.args.store.now c.prepare.new.store c.run_queue.new.store c.settle.new.self c.prepare.ensures.lessens c.run_queue.ensures.lessens c.settle.ensures

pub returns-clause-means : goal.returns-clause-means
returns-clause-means c = means_kept c.args.propagators.now c.args.goal c.args.below.now c.args.store.now c.prepare.new.store c.run_queue.new.store c.settle.new.self c.prepare.ensures.lessens c.run_queue.ensures.lessens c.settle.ensures
    (subst (CutMeans c.args.goal c.args.below.now c.args.store.now.box c.prepare.new.store.box) c.in_default.is c.prepare.ensures.means)
    (subst (λ (e : Ended). Ends c.args.propagators.now c.prepare.new.store.box c.run_queue.new.store.box e) c.in-Kept.is c.in_ok-run_queue.ensures.ends) c.prepare.ensures.well_formed c.recall_domains.ensures.domains c.requires.goal

pub returns-clause-ready : goal.returns-clause-ready
returns-clause-ready c = ready_settled c.args.propagators.now c.args.goal c.args.below.now c.args.store.now c.prepare.new.store c.run_queue.new.store c.settle.new.self c.prepare.ensures.lessens c.run_queue.ensures.lessens c.settle.ensures (subst (λ (e : Ended). Ends c.args.propagators.now c.prepare.new.store.box c.run_queue.new.store.box e) c.in-Kept.is c.in_ok-run_queue.ensures.ends) c.requires.ready
