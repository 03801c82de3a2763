use Rattle.std.proofs.Common.{◌<◌, length, sym, subst, arith}
use Rattle.dom_store.proofs.Narrowed.{put_under, put_fits, put_kept}
use Rattle.dom_store.proofs.domains.Domains.put.Goals as goal

pub overflow_sub-self : goal.overflow_sub-self
overflow_sub-self c =
    let inside : c.args.var < length c.self.inside.each.items = subst (λ b. c.args.var < length b) (sym c.self.view_is) c.requires in
    put_under c.self.inside.each.items c.args.var c.self.inside.total c.size_of-was.result c.index.result.now inside c.self.invariant c.size_of-was.ensures.size c.index.ensures

pub overflow_add-self : goal.overflow_add-self
overflow_add-self c =
    let inside : c.args.var < length c.self.inside.each.items = subst (λ b. c.args.var < length b) (sym c.self.view_is) c.requires in
    let fits = put_fits c.self.inside.each.items c.args.var c.self.inside.total c.size_of-was.result c.size_of-is.result c.index.result.now c.args.domain inside c.self.invariant c.size_of-was.ensures.size c.index.ensures c.size_of-is.ensures.size c.size_of-is.ensures.kept in
    omega (arith, fits)

pub invariant_of-self : goal.invariant_of-self
invariant_of-self c =
    let inside : c.args.var < length c.self.inside.each.items = subst (λ b. c.args.var < length b) (sym c.self.view_is) c.requires in
    put_kept c.self.inside.each.items c.args.var c.self.inside.total c.size_of-was.result c.size_of-is.result c.index.result.now c.args.domain inside c.self.invariant c.size_of-was.ensures.size c.index.ensures c.size_of-is.ensures.size c.size_of-is.ensures.kept
