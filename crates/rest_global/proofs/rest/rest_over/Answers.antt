use Rattle.std.proofs.Common.{◌≡◌, ◌+◌, ◌*◌, ℕ, List, length, ap, subst, ◌∙◌, rules, FitsSigned, to_z, of_z}
use Rattle.std.specs.Int.{w128}
use Rattle.std.proofs.lemmas.Int.{to_z-of_z}
use Rattle.fzn_model.specs.Parts.{Parts}
use Rattle.fzn_model.specs.Limits.{IsModel}
use Rattle.fzn_model.specs.declared.con.Con.{Con}
use Rattle.rest_key.specs.Counts.{domains_count}
use Rattle.rest_global.specs.Projection.{cost_left, cost_offset}
use Rattle.rest_global.specs.Making.{AreCounted}
use Rattle.rest_global.proofs.RestKept.{rest_domains}
use Rattle.rest_global.proofs.ModelOverBox.{model_over}
use Rattle.rest_global.proofs.MadeRest.{domains_few, narrow_domains, cost_short, made_kept, projected_is}
use Rattle.rest_global.proofs.rest.rest_over.Goals as goal

pub words_before-words-requires : goal.words_before-words-requires
words_before-words-requires g c =
    let box = g.V.BoxView.shape c.args.view.now in
    let m : Parts = c.args.model.now in
    let model : IsModel m = subst IsModel c.model.view_is c.model.invariant in
    let doms : c.in_ok-doms.doms ≡ rest_domains box = rw c.requires.variables at c.in_ok-doms.ensures in
    let cost : c.in_ok-cost.cost ≡ cost_left box m.goal = c.in_ok-cost.ensures ∙ ap (λ (p : Parts). cost_left box p.goal) c.model.view_is in
    record {
      few = domains_few box m c.as_slice.result.now model c.requires.within (c.as_slice.ensures ∙ doms);
      narrow = narrow_domains box c.as_slice.result.now c.requires.well_formed (c.as_slice.ensures ∙ doms);
      short = cost_short box m c.as_slice-2.result.now c.requires.well_formed model c.requires.within (c.as_slice-2.ensures ∙ cost);
    }

pub left_of-requires-clause-over : goal.left_of-requires-clause-over
left_of-requires-clause-over g c =
    let box = g.V.BoxView.shape c.args.view.now in
    let model : IsModel c.args.model.now = subst IsModel c.model.view_is c.model.invariant in
    let cons : c.as_slice-3.result.now ≡ c.args.model.now.cons = c.as_slice-3.ensures ∙ ap (λ (m : Parts). m.cons) c.model.view_is in
    rw cons (model_over box c.args.model.now model c.requires.within)

pub within_limit-answer-requires : goal.within_limit-answer-requires
within_limit-answer-requires g c =
    let box = g.V.BoxView.shape c.args.view.now in
    let m : Parts = c.args.model.now in
    let model : IsModel m = subst IsModel c.model.view_is c.model.invariant in
    let doms : c.in_ok-doms.doms ≡ rest_domains box = rw c.requires.variables at c.in_ok-doms.ensures in
    let cost : c.in_ok-cost.cost ≡ cost_left box m.goal = c.in_ok-cost.ensures ∙ ap (λ (p : Parts). cost_left box p.goal) c.model.view_is in
    let cons : c.as_slice-3.result.now ≡ m.cons = c.as_slice-3.ensures ∙ ap (λ (p : Parts). p.cons) c.model.view_is in
    let start : c.words_before-words.result ≡ 3 + domains_count c.in_ok-doms.doms + 2 * length c.in_ok-cost.cost = rw (c.as_slice.ensures, c.as_slice-2.ensures) at c.words_before-words.ensures.value in
    let counted = subst (λ (s : ℕ). AreCounted box m.cons s c.args.limit c.in_ok-left.left) start (subst (λ (cs : List Con). AreCounted box cs c.words_before-words.result c.args.limit c.in_ok-left.left) cons c.in_ok-left.ensures) in
    made_kept box m c.requires.well_formed model c.requires.within c.in_ok-doms.doms c.in_ok-cost.cost c.in_ok-left.left c.args.limit doms cost counted

pub returns : goal.returns
returns g c =
    let box = g.V.BoxView.shape c.args.view.now in
    let m : Parts = c.args.model.now in
    let model : IsModel m = subst IsModel c.model.view_is c.model.invariant in
    let doms : c.in_ok-doms.doms ≡ rest_domains box = rw c.requires.variables at c.in_ok-doms.ensures in
    let cost : c.in_ok-cost.cost ≡ cost_left box m.goal = c.in_ok-cost.ensures ∙ ap (λ (p : Parts). cost_left box p.goal) c.model.view_is in
    let cons : c.as_slice-3.result.now ≡ m.cons = c.as_slice-3.ensures ∙ ap (λ (p : Parts). p.cons) c.model.view_is in
    let start : c.words_before-words.result ≡ 3 + domains_count c.in_ok-doms.doms + 2 * length c.in_ok-cost.cost = rw (c.as_slice.ensures, c.as_slice-2.ensures) at c.words_before-words.ensures.value in
    let counted = subst (λ (s : ℕ). AreCounted box m.cons s c.args.limit c.in_ok-left.left) start (subst (λ (cs : List Con). AreCounted box cs c.words_before-words.result c.args.limit c.in_ok-left.left) cons c.in_ok-left.ensures) in
    let offset : c.cost_offset-offset.result ≡ cost_offset box m.goal = c.cost_offset-offset.ensures ∙ ap (λ (p : Parts). cost_offset box p.goal) c.model.view_is in
    let fits : FitsSigned w128 c.cost_offset-offset.result = search rules in
    λ below. projected_is box m c.requires.well_formed model c.requires.within c.in_ok-doms.doms c.in_ok-cost.cost c.in_ok-left.left c.args.limit doms cost counted below (to_z w128 (of_z w128 c.cost_offset-offset.result)) c.within_limit-answer.result (to_z-of_z w128 c.cost_offset-offset.result fits ∙ offset) c.within_limit-answer.ensures.whole c.within_limit-answer.ensures.wide
