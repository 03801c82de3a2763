use Rattle.fzn_model.specs.declared.con.Con.TheVariants as con
use Rattle.dom_store.specs.declared.extreme.Extreme.TheVariants as extreme
use Rattle.arith_prop.specs.Sizes.{SizeIsBounded}
use Rattle.arith_prop.proofs.Passing.{pass_both, pass_end}
use Rattle.arith_prop.proofs.Sizing.{abs_owed}
use Rattle.arith_prop.proofs.abs.pass_abs.Goals as goal

pub returns-in-Empty : goal.returns-in-Empty
returns-in-Empty c = pass_end (SizeIsBounded extreme.Least c.args.a c.args.b) (con.Abs c.args.a c.args.b) c.args.store.now c.limit_size.new.store c.in-Empty.ensures

pub returns : goal.returns
returns c =
    let a = c.args.a in
    let b = c.args.b in
    pass_both (SizeIsBounded extreme.Least a b) (SizeIsBounded extreme.Greatest a b) (con.Abs a b) c.args.store.now c.limit_size.new.store c.limit_size-2.new.store c.limit_size-2.result c.requires (abs_owed a b c.limit_size-2.new.store.box) c.in-Done.ensures c.limit_size-2.ensures
