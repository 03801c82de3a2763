use Rattle.std.proofs.Common.{◌<◌, List, length, sym, subst, arith}
use Rattle.fzn_model.specs.declared.con.Con.{Con}
use Rattle.dom_store.specs.declared.propagator.Ran.{Ran}
use Rattle.prop_engine.specs.Fixing.{MeansAt}
use Rattle.prop_engine.specs.Queues.{AreKnown, IsDone}
use Rattle.prop_engine.proofs.Waking.{known_kept, done_kept, done_far}
use Rattle.prop_engine.proofs.queue.turn.Goals as goal

pub drain-requires-clause-known : goal.drain-requires-clause-known
drain-requires-clause-known c =
    let says = subst (λ (r : Ran). MeansAt c.args.propagators.now c.args.at c.args.store.now.box c.run_one.new.store.box r) c.in-Kept.is c.in_ok-ran.ensures.means in
    subst (λ (cs : List Con). AreKnown c.total-before.result cs c.args.queue.now c.run_one.new.store) (sym c.run_one.ensures.same)
    (known_kept c.total-before.result c.args.propagators.now c.args.at c.args.queue.now c.args.store.now c.run_one.new.store c.total-before.ensures c.recall_domains.ensures.domains c.recall_domains-2.ensures.domains c.requires.at c.run_one.ensures.prunes says c.requires.strong)

pub drain-requires-clause-done : goal.drain-requires-clause-done
drain-requires-clause-done c =
    let says = subst (λ (r : Ran). MeansAt c.args.propagators.now c.args.at c.args.store.now.box c.run_one.new.store.box r) c.in-Kept.is c.in_ok-ran.ensures.means in
    subst (λ (cs : List Con). IsDone c.args.at cs c.args.queue.now c.run_one.new.store.box) (sym c.run_one.ensures.same)
    (done_kept c.args.propagators.now c.args.at c.args.queue.now c.args.store.now.box c.run_one.new.store.box says)

pub drain-requires-in-EarlyStop-clause-done : goal.drain-requires-in-EarlyStop-clause-done
drain-requires-in-EarlyStop-clause-done c =
    let inside : c.args.at < length c.args.queue.now = omega (arith, c.requires.at, c.requires.room) in
    done_far c.run_one.new.propagators c.args.at c.args.queue.now c.add.new.self c.run_one.new.store.box inside c.add.ensures
