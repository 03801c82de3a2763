use Rattle.std.proofs.Common.{ap, ◌++◌, ◌∷◌, [], ◌∙◌, ◌<◌, length, rules}
use Rattle.std.specs.List.{remove}
use Rattle.search_core.proofs.Replacing.{place_node, place_path, joins_at, joins_nodes}
use Rattle.search_core.proofs.tasks.join_entries.Goals as goal

pub above-requires : goal.above-requires
above-requires c =
    let below : c.args.first < length c.args.entries.now.items = search rules in
    place_node _ _ _ _ c.requires.nodes below c.index.ensures

pub returns-clause-nodes : goal.returns-clause-nodes
returns-clause-nodes c =
    let left = c.remove.ensures.items in
    joins_nodes _ _ _ _ _ c.above.result c.joined.result c.requires.nodes c.above.ensures.below
    (c.replace.ensures.items ∙ ap (λ es. remove es c.moved_place.result ++ record { node = c.above.result; stand = c.joined.result } ∷ []) left)

pub returns-clause-joins : goal.returns-clause-joins
returns-clause-joins c = λ w p cut f g.
    let left = c.remove.ensures.items in
    joins_at _ _ _ _ _ c.moved_place.result w p cut c.above.result c.joined.result _ _ c.index-2.ensures c.index-3.ensures f g c.moved_place.ensures.above c.moved_place.ensures.below
    (c.above.ensures.path p cut (place_path _ _ _ _ _ _ f.at c.index.ensures)) (c.joined.ensures w)
    (c.replace.ensures.items ∙ ap (λ es. remove es c.moved_place.result ++ record { node = c.above.result; stand = c.joined.result } ∷ []) left)
