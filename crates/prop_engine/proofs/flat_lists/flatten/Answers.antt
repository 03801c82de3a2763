use Rattle.std.proofs.Common.{List, ℕ, [], ◌∷◌, ◌++◌, ap, ◌∙◌}
use Rattle.prop_engine.proofs.Flattening.{flat_none, flat_more}
use Rattle.prop_engine.proofs.flat_lists.flatten.Goals as goal

pub loop-list-init : goal.loop-list-init
loop-list-init c =
    let both = flat_none c.args.lists.now c.new-members.result.items c.push.new.self.items c.new-members.ensures.items (c.in_ok-push.ensures.items ∙ ap (λ (xs : List ℕ). xs ++ 0 ∷ []) c.in_ok-starts.ensures.items) in
    record { starts = both.0; made = both.1 }

pub loop-list-preserved : goal.loop-list-preserved
loop-list-preserved c =
    let both = flat_more c.args.lists.now c.loop-list.list-index c.list-item.result c.loop-list.members.items c.loop-list.starts.items c.extend_from_slice.new.self.items c.push-in-loop-list.new.self.items c.loop-list-test.true c.loop-list.invariant.starts c.loop-list.invariant.made
    (c.in_ok-extend_from_slice.ensures.items ∙ ap (λ (xs : List ℕ). c.loop-list.members.items ++ xs) (c.as_slice.ensures ∙ c.list-item.is)) (c.in_ok-push-2.ensures.items ∙ ap (λ n. c.loop-list.starts.items ++ n ∷ []) (c.len.ensures ∙ c.extend_from_slice.new.self.ok.0)) in
    record { starts = both.0; made = both.1 }
