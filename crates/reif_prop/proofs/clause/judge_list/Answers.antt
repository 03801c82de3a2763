use Rattle.std.proofs.Common.{pos, sym, ◌∙◌}
use Rattle.std.proofs.lemmas.Bool.{false≢true}
use Rattle.fzn_model.specs.declared.term.Term.TheVariants.{Const}
use Rattle.reif_prop.proofs.Listing.{none_first, all_first, none_on, by_more}
use Rattle.reif_prop.proofs.clause.judge_list.Goals as goal

pub loop-term-init : goal.loop-term-init
loop-term-init c = record {
  none = none_first c.args.store.now.box c.args.terms.now c.args.value.now c.args.other.now;
  all = all_first c.args.store.now.box c.args.terms.now c.args.value.now c.args.other.now;
}

pub loop-term-preserved : goal.loop-term-preserved
loop-term-preserved c = record {
  none = none_on c.args.store.now.box c.args.terms.now c.args.value.now c.args.other.now c.loop-term.term-index (Const (pos 0)) c.loop-term-test.true c.loop-term.invariant.none (λ at. false≢true (sym c.if-is_at.false ∙ c.is_at.ensures.1 at));
  all = by_more c.args.store.now.box c.args.terms.now c.args.value.now c.args.other.now c.loop-term.term-index (Const (pos 0)) c.loop-term.unsure c.opens-unsure.result c.loop-term-test.true c.loop-term.invariant.all c.opens-unsure.ensures.yes c.opens-unsure.ensures.no;
}
