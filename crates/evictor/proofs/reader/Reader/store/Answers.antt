use Rattle.std.proofs.Common.{rules, refl, sym, ◌∙◌}
use Rattle.evictor.specs.Puts.{IsStored}
use Rattle.evictor.proofs.reader.Reader.store.Goals.{then-word-ne0, else-word-ne0}
use Rattle.evictor.proofs.reader.Reader.store.Goals as goal

pub returns-in_default : goal.returns-in_default
unfolding IsStored
returns-in_default g c = rw (sym c.self.view_is) (record {
  fault = c.in_default.field-0;
  put = c.in_default.ensures.contents;
  rose = c.in_default.ensures.refused;
  pass = refl;
  absences = c.in_default.ensures.absences;
  hits = refl;
  stores = refl;
  gone = refl;
})

pub returns : goal.returns
unfolding IsStored
returns g c = rw (sym c.self.view_is) (elim c.if-word-ne0.branch [
  | then-word-ne0 w ↦ rw w.self-inside-is (
    refl,
    record {
      key = c.in-Ok.key;
      middle = g.H.Shelf.contents c.put.new.self;
      put = c.in-Ok.ensures.contents;
      words = c.swap-word.ensures.words;
      removed = λ some. rw (sym c.swap-word.ensures.stood) w.remove.ensures.contents;
      kept = λ zeroed. absurd (w.if-word-ne0.true (c.swap-word.ensures.stood ∙ zeroed));
      stores = search rules;
      refusals = w.remove.ensures.refusals ∙ c.in-Ok.ensures.kept;
      absences = w.remove.ensures.absences ∙ c.in-Ok.ensures.absences;
      hits = refl;
      gone = refl;
    },
  )
  | else-word-ne0 w ↦ rw w.self-inside-is (
    refl,
    record {
      key = c.in-Ok.key;
      middle = g.H.Shelf.contents c.put.new.self;
      put = c.in-Ok.ensures.contents;
      words = c.swap-word.ensures.words;
      removed = λ some. absurd (some (sym c.swap-word.ensures.stood ∙ w.if-word-ne0.false));
      kept = λ zeroed. refl;
      stores = search rules;
      refusals = c.in-Ok.ensures.kept;
      absences = c.in-Ok.ensures.absences;
      hits = refl;
      gone = refl;
    },
  )
])
