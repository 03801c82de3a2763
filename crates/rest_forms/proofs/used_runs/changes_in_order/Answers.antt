use Rattle.std.proofs.Common.{rules}
use Rattle.std.proofs.lemmas.List.Sorted.{answers_always}
use Rattle.rest_forms.specs.declared.used_runs.Change.{Change}
use Rattle.rest_forms.proofs.SweptRuns.{in_order}
use Rattle.rest_forms.proofs.used_runs.changes_in_order.Goals as goal

pub returns : goal.returns
returns c =
    let sorted = c.sort_unstable_by_key.ensures.sorted (λ (change : Change). change.moment) (answers_always _ _ _ (λ f a r g called. search rules)) in
    in_order c.args.used.now c.in_ok-changes.changes.items c.sort_unstable_by_key.new.self.items c.requires c.in_ok-changes.ensures c.sort_unstable_by_key.ensures.permutation sorted
