use Rattle.fzn_model.specs.declared.con.Con.TheVariants as con
use Rattle.dom_store.specs.declared.extreme.Extreme.TheVariants as extreme
use Rattle.arith_prop.specs.Corners.{ProductIsBounded}
use Rattle.arith_prop.proofs.Passing.{pass_both, pass_end}
use Rattle.arith_prop.proofs.Multiplying.{times_owed}
use Rattle.arith_prop.proofs.times.pass_times.Goals as goal

pub returns-in-Empty : goal.returns-in-Empty
returns-in-Empty c = pass_end (ProductIsBounded extreme.Least c.args.a c.args.b c.args.c) (con.Times c.args.a c.args.b c.args.c) c.args.store.now c.limit_product.new.store c.in-Empty.ensures

pub returns : goal.returns
returns c =
    let a = c.args.a in
    let b = c.args.b in
    let r = c.args.c in
    pass_both (ProductIsBounded extreme.Least a b r) (ProductIsBounded extreme.Greatest a b r) (con.Times a b r) c.args.store.now c.limit_product.new.store c.limit_product-2.new.store c.limit_product-2.result c.requires (times_owed a b r c.limit_product-2.new.store.box) c.in-Done.ensures c.limit_product-2.ensures
