use Rattle.std.proofs.Common.{◌≡◌, ◌+◌, ◌∙◌, ◌++◌, ◌∷◌, [], length, length-append, length-set, drop, ap, sym, arith}
use Rattle.dom_store.specs.Trails.{undone}
use Rattle.dom_store.proofs.Undoing.{one_back, first_part, rest_inside, undone_none}
use Rattle.dom_store.proofs.trail.undo.Goals as goal

pub loop-entries-preserved-in-Some : goal.loop-entries-preserved-in-Some
loop-entries-preserved-in-Some c =
    let s = c.loop-entries.invariant in
    let is : c.loop-entries.entries.items ≡ c.pop.new.self.items ++ c.in-Some.field-0 ∷ [] = c.in-Some.ensures.items in
    let long : length c.loop-entries.entries.items ≡ length c.pop.new.self.items + 1 = ap length is ∙ length-append c.pop.new.self.items (c.in-Some.field-0 ∷ []) in
    let count : length c.put.new.self ≡ length c.loop-entries.domains = ap length c.put.ensures ∙ length-set c.loop-entries.domains _ _ in
    record {
      start = omega (arith, long);
      part = first_part _ _ c.pop.new.self.items c.in-Some.field-0 s.part is;
      room = c.pop.ensures.capacity ∙ s.room;
      count = count ∙ s.count;
      inside = rest_inside _ _ _ c.pop.new.self.items c.in-Some.field-0 s.inside is count;
      back = ap (undone (drop c.args.start c.pop.new.self.items)) c.put.ensures ∙ sym (one_back _ c.pop.new.self.items c.in-Some.field-0 c.args.start c.loop-entries.domains is (omega (arith, long))) ∙ s.back;
    }

pub returns-clause-domains : goal.returns-clause-domains
returns-clause-domains c =
    undone_none _ c.args.start c.loop-entries.domains (omega arith) ∙ c.loop-entries.invariant.back
