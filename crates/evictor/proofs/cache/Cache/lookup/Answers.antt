use Rattle.std.proofs.Common.{rules, ◌≡◌, ◌≢◌, refl, subst, FitsSigned}
use Rattle.std.specs.Int.{w128}
use Rattle.std.proofs.lemmas.Int.{to_z-of_z}
use Rattle.evictor.specs.Places.{places_of}
use Rattle.evictor.specs.Reports.{AreReports, IsScan}
use Rattle.evictor.specs.Looks.{IsLook}
use Rattle.evictor.proofs.Scans.{hits}
use Rattle.evictor.proofs.Standings.{look_stands, inside_of}
use Rattle.evictor.proofs.cache.Cache.lookup.Goals as goal

pub returns-then-self-eq0-clause-look : goal.returns-then-self-eq0-clause-look
unfolding IsLook
returns-then-self-eq0-clause-look g c =
    let none : c.args.reader.now.pass.cache.ways ≡ 0 = search rules in
    record {
      named = refl;
      needed = to_z-of_z w128 c.args.need c.ranges.need;
      hits = refl;
      looked = λ some. absurd (some none);
      each = λ some. absurd (some none);
      places = λ some. absurd (some none);
      no_words = λ _. (refl, refl, refl);
    }

pub returns-in-Served-clause-look : goal.returns-in-Served-clause-look
unfolding IsLook
returns-in-Served-clause-look g c =
    let some : c.args.reader.now.pass.cache.ways ≢ 0 = search rules in
    let are : c.places_of-places.result ≡ places_of c.args.reader.now.pass.cache.ways c.args.rest.now = search rules in
    let fits : FitsSigned w128 c.in-Served.bound = search rules in
    rw (to_z-of_z w128 c.in-Served.bound fits) (hits c.args.reader.now c.look.new.self c.count_hit.new.self c.args.rest.now c.args.need c.in-Served.bound c.in-Served.at c.in-Served.reports c.places_of-places.result are some (rw (to_z-of_z w128 c.args.need c.ranges.need) at c.in-Served.ensures.scan) c.in-Served.ensures.looked c.look.ensures.hits c.count_hit.ensures)

pub returns-in-Unserved-clause-look : goal.returns-in-Unserved-clause-look
unfolding IsLook IsScan
returns-in-Unserved-clause-look g c =
    let some : c.args.reader.now.pass.cache.ways ≢ 0 = search rules in
    let are : c.places_of-places.result ≡ places_of c.args.reader.now.pass.cache.ways c.args.rest.now = search rules in
    record {
      named = refl;
      needed = to_z-of_z w128 c.args.need c.ranges.need;
      hits = c.in-Unserved.ensures.hits;
      looked = λ _. c.in-Unserved.ensures.looked;
      each = λ _. subst (λ ps. AreReports c.args.reader.now.contents c.args.reader.now.pass.words c.args.rest.now c.args.need ps c.in-Unserved.reports) are (rw (to_z-of_z w128 c.args.need c.ranges.need) at c.in-Unserved.ensures.scan);
      places = λ _. are;
      no_words = λ none. absurd (some none);
    }

pub returns-then-self-eq0-clause-stands : goal.returns-then-self-eq0-clause-stands
returns-then-self-eq0-clause-stands g c =
    let none : c.args.reader.now.pass.cache.ways ≡ 0 = search rules in
    look_stands c.args.rest.now c.args.need _ c.args.reader.now _ (λ some. absurd (some none)) (returns-then-self-eq0-clause-look g c)

pub returns-in-Served-clause-stands : goal.returns-in-Served-clause-stands
returns-in-Served-clause-stands g c =
    let are : c.places_of-places.result ≡ places_of c.args.reader.now.pass.cache.ways c.args.rest.now = search rules in
    let own : c.args.reader.now.pass.cache.ways ≡ c.self.inside.ways = search rules in
    look_stands c.args.rest.now c.args.need _ c.args.reader.now _ (λ _. inside_of _ _ _ _ own are c.places_of-places.ensures.below) (returns-in-Served-clause-look g c)

pub returns-in-Unserved-clause-stands : goal.returns-in-Unserved-clause-stands
returns-in-Unserved-clause-stands g c =
    let are : c.places_of-places.result ≡ places_of c.args.reader.now.pass.cache.ways c.args.rest.now = search rules in
    let own : c.args.reader.now.pass.cache.ways ≡ c.self.inside.ways = search rules in
    look_stands c.args.rest.now c.args.need _ c.args.reader.now _ (λ _. inside_of _ _ _ _ own are c.places_of-places.ensures.below) (returns-in-Unserved-clause-look g c)
