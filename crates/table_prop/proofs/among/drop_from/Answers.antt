use Rattle.std.proofs.Common.{◌+◌, refl, pos}
use Rattle.std.specs.Prelude.{◌+ℤ◌}
use Rattle.dom_store.specs.declared.pass.Passed.TheVariants as passed
use Rattle.table_prop.specs.Among.{IsAmong, ValueIsAmong, ValuesAreAmong}
use Rattle.dom_store.proofs.Stepping.{narrows_in}
use Rattle.table_prop.proofs.Choosing.{values_none, values_more, values_end}
use Rattle.table_prop.proofs.among.drop_from.Goals as goal

pub loop-step-init : goal.loop-step-init
loop-step-init c = record {
  inside = c.requires.term;
  moves = values_none c.args.term c.args.values.now c.args.low.now c.args.store.now c.requires.well_formed;
}

pub drop_unlisted-requires-clause-well_formed : goal.drop_unlisted-requires-clause-well_formed
drop_unlisted-requires-clause-well_formed c = c.loop-step.invariant.moves.step.well_formed

pub loop-step-preserved : goal.loop-step-preserved
loop-step-preserved c =
    let value = c.args.low.now +ℤ pos c.loop-step.step in
    record {
      inside = narrows_in (IsAmong c.args.values.now) (ValueIsAmong c.args.term c.args.values.now value) c.args.term c.loop-step.store c.drop_unlisted.new.store passed.Done c.in-Done.ensures c.loop-step.invariant.inside;
      moves = values_more c.args.term c.args.values.now c.args.low.now value c.loop-step.step c.args.store.now c.loop-step.store c.drop_unlisted.new.store refl c.loop-step.invariant.moves c.in-Done.ensures;
    }

pub returns-in-Empty : goal.returns-in-Empty
returns-in-Empty c =
    values_end (ValuesAreAmong c.args.term c.args.values.now c.args.low.now (c.args.span + 1)) c.args.term c.args.values.now c.args.low.now (c.args.low.now +ℤ pos c.loop-step.step) c.loop-step.step c.args.store.now c.loop-step.store c.drop_unlisted.new.store c.loop-step.invariant.moves c.in-Empty.ensures
