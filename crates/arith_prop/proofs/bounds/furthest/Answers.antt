use Rattle.std.proofs.Common.{length}
use Rattle.std.specs.Prelude.{slice_index_or, pos}
use Rattle.std.proofs.lemmas.List.{get_or_default}
use Rattle.fzn_model.specs.declared.term.Term.TheVariants as term
use Rattle.arith_prop.proofs.Bounding.{furthest_more, further_in}
use Rattle.arith_prop.proofs.bounds.furthest.Goals as goal

pub loop-term-preserved : goal.loop-term-preserved
loop-term-preserved c =
    let box = c.args.store.now.box in
    let xs = c.args.terms.now in
    let n = c.loop-term.term-index in
    let inside = c.loop-term-test.true in
    let x = slice_index_or xs n (term.Const (pos 0)) in
    record {
      bound = furthest_more box c.args.extreme c.args.bounds n xs c.loop-term.best x c.further-best.result inside (get_or_default xs n (term.Const (pos 0)) x inside) c.loop-term.invariant.bound c.further-best.ensures;
      inside = further_in box c.args.extreme c.args.bounds (length box) c.loop-term.best x c.further-best.result c.further-best.ensures c.loop-term.invariant.inside (c.requires.terms.terms n (term.Const (pos 0)) inside);
    }
