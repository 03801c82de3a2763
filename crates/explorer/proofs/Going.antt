-- Steps of a search one after another.
use Rattle.std.proofs.Common.{◌≡◌, ℕ, ◌+◌, ◌<◌, refl, ◌∙◌, arith}
use Rattle.incumbent_board.specs.Passes.{Held}
use Rattle.evictor.specs.Readers.{ReaderParts}
use Rattle.search_core.specs.Locals.{LocalParts}
use Rattle.explorer.specs.Offers.{Kept}
use Rattle.explorer.specs.Turns.{turns_left}
use Rattle.explorer.specs.Going.{Aim, State, state, CanGo, Goes, Ends, Working}
use Rattle.explorer.specs.declared.bench.Bench.{Bench}
use Rattle.explorer.specs.declared.meter.Meter.{Meter}
use Rattle.explorer.specs.declared.frame.Turn.{Turn}
use Rattle.explorer.specs.declared.frame.Stop.{Stop}
use Rattle.explorer.proofs.Working.{works_none, works_trans, cause_before, counted_before}

pub goes_none : (a : Aim) (u : Turn) (s : State) → Goes a 0 u s u s
unfolding Goes
goes_none a u s = record {
  stands = λ others st. st;
  turns = λ others st. omega arith;
  weights = λ others st. omega arith;
  counts = refl;
  levels = λ root lv. lv;
  works = λ others st. works_none a.model a.path a.limit s.pass s.reader s.reader s.meter s.found refl;
  plan = refl;
  closed = refl;
}

working_trans : (a : Aim) (s w z : State) → Working a s w → Working a w z → Working a s z
working_trans a s w z f g = works_trans a.model a.path a.limit s.pass w.pass z.pass s.reader w.reader z.reader s.meter w.meter z.meter s.found w.found z.found f g

pub goes_trans : (a : Aim) (i j n : ℕ) (u v y : Turn) (s w z : State) → Goes a i u s v w → Goes a j v w y z → n ≡ i + j → Goes a n u s y z
unfolding Goes
goes_trans a i j n u v y s w z f g e = record {
  stands = λ others st. g.stands others (f.stands others st);
  turns = λ others st. omega (arith, e, f.turns others st, g.turns others (f.stands others st));
  weights = λ others st. omega (arith, f.weights others st, g.weights others (f.stands others st));
  counts = omega (arith, f.counts, g.counts);
  levels = λ root lv. g.levels root (f.levels root lv);
  works = λ others st. working_trans a s w z (f.works others st) (g.works others (f.stands others st));
  plan = g.plan ∙ f.plan;
  closed = g.closed ∙ f.closed;
}

pub goes_more : (a : Aim) (i : ℕ) (u v y : Turn) (s w z : State) → Goes a 0 u s v w → Goes a i v w y z → Goes a 0 u s y z
unfolding Goes
goes_more a i u v y s w z f g = record {
  stands = λ others st. g.stands others (f.stands others st);
  turns = λ others st. omega (arith, f.turns others st, g.turns others (f.stands others st));
  weights = λ others st. omega (arith, f.weights others st, g.weights others (f.stands others st));
  counts = omega (arith, f.counts, g.counts);
  levels = λ root lv. g.levels root (f.levels root lv);
  works = λ others st. working_trans a s w z (f.works others st) (g.works others (f.stands others st));
  plan = g.plan ∙ f.plan;
  closed = g.closed ∙ f.closed;
}

pub goes_ends : (a : Aim) (i : ℕ) (u v : Turn) (s w z : State) (why : Stop) → Goes a i u s v w → Ends a v w why z → Ends a u s why z
unfolding Goes Ends
goes_ends a i u v s w z why f g = record {
  weights = λ others st. omega (arith, f.weights others st, g.weights others (f.stands others st));
  counts = counted_before why s.local w.local z.local s.pass w.pass z.pass f.counts g.counts;
  levels = λ root lv. g.levels root (f.levels root lv);
  works = λ others st. working_trans a s w z (f.works others st) (g.works others (f.stands others st));
  plan = g.plan ∙ f.plan;
  closed = g.closed ∙ f.closed;
  cause = λ others st. let did = f.works others st in cause_before why s.pass w.pass z.pass did.same did.for_budget did.for_memory (g.cause others (f.stands others st));
}

pub can_go : (a : Aim) (i : ℕ) (u v : Turn) (s z : State) → CanGo a u s → Goes a i u s v z → CanGo a v z
unfolding CanGo Goes
can_go a i u v s z c g = (c.0, g.stands c.0 c.1)

pub goes_less : (a : Aim) (u v : Turn) (t k : Bench) (x y : Held) (l n : LocalParts) (r s : ReaderParts) (b c : Meter) (f g : Kept) → CanGo a u (state t x l r b f) → Goes a 1 u (state t x l r b f) v (state k y n s c g) → turns_left a.model a.path v k < turns_left a.model a.path u t
unfolding CanGo Goes
goes_less a u v t k x y l n r s b c f g can go = omega (arith, go.turns can.0 can.1)
