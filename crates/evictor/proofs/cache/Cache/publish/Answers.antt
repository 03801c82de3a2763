use Rattle.std.proofs.Common.{rules, ◌≡◌, ◌≢◌, ◌<◌, length, refl, ap, ◌∙◌, inl}
use Rattle.evictor.specs.Places.{places_of}
use Rattle.evictor.specs.Puts.{IsPut, FindsNone, place_for}
use Rattle.evictor.proofs.Scans.{is_there, finds_none, stored_put, stored_inside, stored_elsewhere, stored_cache}
use Rattle.evictor.proofs.Serving.{there_exactly, none_exactly, put_table}
use Rattle.evictor.proofs.Standings.{put_stands, inside_of}
use Rattle.evictor.proofs.cache.Cache.publish.Goals as goal

pub returns-then-self-eq0-clause-put : goal.returns-then-self-eq0-clause-put
unfolding IsPut
returns-then-self-eq0-clause-put g c = let none : c.args.reader.now.pass.cache.ways ≡ 0 = search rules in inl (none, refl)

pub store-requires : goal.store-requires
store-requires g c =
    let same : c.look.new.self.pass.cache.ways ≡ c.self.inside.ways = search rules in
    rw same (c.place_taken-place.ensures.below c.self.inside.ways c.places_by-places.ensures.below c.place_by_turn.ensures.below)

pub returns-in-Served-clause-put : goal.returns-in-Served-clause-put
unfolding IsPut
returns-in-Served-clause-put g c =
    let some : c.args.reader.now.pass.cache.ways ≢ 0 = search rules in
    let are : c.places_by-places.result ≡ places_of c.args.reader.now.pass.cache.ways c.args.entry.rest = search rules in
    is_there c.args.reader.now c.look.new.self c.args.entry _ _ c.in-Served.bound c.in-Served.at c.in-Served.reports c.places_by-places.result (search rules) (search rules) are some c.in-Served.ensures.scan c.in-Served.ensures.looked c.in-Served.ensures.hits

pub returns-in-Served-clause-there : goal.returns-in-Served-clause-there
returns-in-Served-clause-there g c =
    let some : c.args.reader.now.pass.cache.ways ≢ 0 = search rules in
    let are : c.places_by-places.result ≡ places_of c.args.reader.now.pass.cache.ways c.args.entry.rest = search rules in
    there_exactly c.args.entry c.args.reader.now c.look.new.self _ (is_there c.args.reader.now c.look.new.self c.args.entry _ _ c.in-Served.bound c.in-Served.at c.in-Served.reports c.places_by-places.result (search rules) (search rules) are some c.in-Served.ensures.scan c.in-Served.ensures.looked c.in-Served.ensures.hits)

pub returns-in-Unserved-clause-put : goal.returns-in-Unserved-clause-put
returns-in-Unserved-clause-put g c =
    let some : c.args.reader.now.pass.cache.ways ≢ 0 = search rules in
    let are : c.places_by-places.result ≡ places_of c.args.reader.now.pass.cache.ways c.args.entry.rest = search rules in
    let none : FindsNone c.args.entry c.in-Unserved.reports c.args.reader.now c.look.new.self = finds_none c.args.reader.now c.look.new.self c.args.entry _ _ c.in-Unserved.reports c.places_by-places.result (search rules) (search rules) are some c.in-Unserved.ensures.scan c.in-Unserved.ensures.looked c.in-Unserved.ensures.hits in
    let here : c.place_taken-place.result ≡ place_for c.args.reader.now c.args.entry c.in-Unserved.reports = search rules in
    stored_put c.args.entry c.args.reader.now c.look.new.self c.store.result c.store.new.self c.in-Unserved.reports c.place_taken-place.result none here c.store.ensures

pub returns-in-Unserved-clause-table : goal.returns-in-Unserved-clause-table
returns-in-Unserved-clause-table g c =
    let count : length c.args.reader.now.pass.words ≡ c.self.inside.ways = search rules in
    let below : c.place_taken-place.result < length c.args.reader.now.pass.words = rw count (c.place_taken-place.ensures.below c.self.inside.ways c.places_by-places.ensures.below c.place_by_turn.ensures.below) in
    put_table c.args.entry c.args.reader.now c.store.result c.store.new.self (stored_inside c.args.entry c.look.new.self c.store.result c.store.new.self c.place_taken-place.result (length c.args.reader.now.pass.words) c.store.ensures below) (returns-in-Unserved-clause-put g c)

pub returns-in-Unserved-clause-there : goal.returns-in-Unserved-clause-there
returns-in-Unserved-clause-there g c =
    let some : c.args.reader.now.pass.cache.ways ≢ 0 = search rules in
    let are : c.places_by-places.result ≡ places_of c.args.reader.now.pass.cache.ways c.args.entry.rest = search rules in
    let none : FindsNone c.args.entry c.in-Unserved.reports c.args.reader.now c.look.new.self = finds_none c.args.reader.now c.look.new.self c.args.entry _ _ c.in-Unserved.reports c.places_by-places.result (search rules) (search rules) are some c.in-Unserved.ensures.scan c.in-Unserved.ensures.looked c.in-Unserved.ensures.hits in
    none_exactly c.args.entry c.args.reader.now c.look.new.self c.store.result c.in-Unserved.reports none (stored_elsewhere c.args.entry c.look.new.self c.store.result c.store.new.self c.place_taken-place.result c.store.ensures)

pub returns-in-Unserved-clause-cache : goal.returns-in-Unserved-clause-cache
returns-in-Unserved-clause-cache g c = stored_cache c.place_taken-place.result c.args.entry c.look.new.self c.store.new.self c.store.result c.store.ensures ∙ ap (λ p. p.cache) c.look.ensures.looked.pass

pub returns-then-self-eq0-clause-stands : goal.returns-then-self-eq0-clause-stands
returns-then-self-eq0-clause-stands g c =
    let none : c.args.reader.now.pass.cache.ways ≡ 0 = search rules in
    put_stands c.args.entry _ c.args.reader.now _ (λ some. absurd (some none)) (λ place same. absurd (cc)) (returns-then-self-eq0-clause-put g c) (put_table c.args.entry c.args.reader.now _ _ (λ at same. absurd (cc)) (returns-then-self-eq0-clause-put g c))

pub returns-in-Served-clause-stands : goal.returns-in-Served-clause-stands
returns-in-Served-clause-stands g c =
    let are : c.places_by-places.result ≡ places_of c.args.reader.now.pass.cache.ways c.args.entry.rest = search rules in
    let own : c.args.reader.now.pass.cache.ways ≡ c.self.inside.ways = search rules in
    put_stands c.args.entry _ c.args.reader.now c.look.new.self (λ _. inside_of _ _ _ _ own are c.places_by-places.ensures.below) (λ place same. absurd (cc)) (returns-in-Served-clause-put g c) (put_table c.args.entry c.args.reader.now _ c.look.new.self (λ at same. absurd (cc)) (returns-in-Served-clause-put g c))

pub returns-in-Unserved-clause-stands : goal.returns-in-Unserved-clause-stands
returns-in-Unserved-clause-stands g c =
    let are : c.places_by-places.result ≡ places_of c.args.reader.now.pass.cache.ways c.args.entry.rest = search rules in
    let ways : c.args.reader.now.pass.cache.ways ≡ c.self.inside.ways = search rules in
    let below : c.place_taken-place.result < c.args.reader.now.pass.cache.ways = rw ways (c.place_taken-place.ensures.below c.self.inside.ways c.places_by-places.ensures.below c.place_by_turn.ensures.below) in
    put_stands c.args.entry c.store.result c.args.reader.now c.store.new.self (λ _. inside_of _ _ _ _ ways are c.places_by-places.ensures.below)
    (stored_inside c.args.entry c.look.new.self c.store.result c.store.new.self c.place_taken-place.result c.args.reader.now.pass.cache.ways c.store.ensures below)
    (returns-in-Unserved-clause-put g c) (returns-in-Unserved-clause-table g c)
