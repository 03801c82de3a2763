use Rattle.std.proofs.Common.{subst, ◌≡◌, ℕ, take, ◌+◌, ◌<◌, ◌≤◌, ◌∙◌, List, None, Some, sym, refl, arith, drop, length, ap}
use Rattle.std.proofs.lemmas.List.{length-drop}
use Rattle.fzn_lexer.specs.Scan.{longest_at}
use Rattle.fzn_lexer.specs.Spots.{IsWhole, after_first, first, end_at}
use Rattle.fzn_lexer.specs.declared.seen.Seen.TheVariants.{Known}
use Rattle.fzn_lexer.proofs.Whole.{whole}
use Rattle.fzn_lexer.proofs.Gap.{at_end, at_bad, at_known, stays}
use Rattle.fzn_lexer.proofs.lexer.Lexer.spot.Goals as goal

pub returns-then-at-self-clause-value : goal.returns-then-at-self-clause-value
returns-then-at-self-clause-value c =
    let bs = drop c.past_gap-at.result.0 c.self.inside.bytes.now in
    let none : length bs ≡ 0 = omega (arith, length-drop c.past_gap-at.result.0 c.self.inside.bytes.now) in
    let ends = sym c.self.view_is ∙ sym c.past_gap-at.ensures.same ∙ at_end c.past_gap-at.result.1 c.past_gap-at.result.0 bs none in
    sym (ap first ends)

pub returns-then-at-self-clause-moved : goal.returns-then-at-self-clause-moved
returns-then-at-self-clause-moved c =
    let bs = drop c.past_gap-at.result.0 c.self.inside.bytes.now in
    let none : length bs ≡ 0 = omega (arith, length-drop c.past_gap-at.result.0 c.self.inside.bytes.now) in
    let ends = sym c.self.view_is ∙ sym c.past_gap-at.ensures.same ∙ at_end c.past_gap-at.result.1 c.past_gap-at.result.0 bs none in
    stays _ _ ends refl

pub returns-in-None-clause-value : goal.returns-in-None-clause-value
returns-in-None-clause-value c =
    let bs = drop c.past_gap-at.result.0 c.self.inside.bytes.now in
    let some : 0 < length bs = omega (arith, length-drop c.past_gap-at.result.0 c.self.inside.bytes.now, c.past_gap-at.ensures.within) in
    let t : longest_at bs ≡ None = ap longest_at (sym c.from.ensures) ∙ sym c.longest_at.ensures.value ∙ c.in-None.is in
    let bad = sym c.self.view_is ∙ sym c.past_gap-at.ensures.same ∙ at_bad c.past_gap-at.result.1 c.past_gap-at.result.0 bs some c.past_gap-at.ensures.stops t in
    sym (ap first bad)

pub returns-in-None-clause-moved : goal.returns-in-None-clause-moved
returns-in-None-clause-moved c =
    let bs = drop c.past_gap-at.result.0 c.self.inside.bytes.now in
    let some : 0 < length bs = omega (arith, length-drop c.past_gap-at.result.0 c.self.inside.bytes.now, c.past_gap-at.ensures.within) in
    let t : longest_at bs ≡ None = ap longest_at (sym c.from.ensures) ∙ sym c.longest_at.ensures.value ∙ c.in-None.is in
    let bad = sym c.self.view_is ∙ sym c.past_gap-at.ensures.same ∙ at_bad c.past_gap-at.result.1 c.past_gap-at.result.0 bs some c.past_gap-at.ensures.stops t in
    stays _ _ bad refl

pub returns-in-Some-clause-value : goal.returns-in-Some-clause-value
returns-in-Some-clause-value c =
    let at = c.past_gap-at.result.0 in
    let line = c.past_gap-at.result.1 in
    let input = c.self.inside.bytes.now in
    let t : longest_at (drop at input) ≡ Some (c.in-Some.kind, c.in-Some.count) = ap longest_at (sym c.from.ensures) ∙ sym c.longest_at.ensures.value ∙ c.in-Some.is in
    let fits : c.in-Some.count ≤ length (drop at input) = omega (arith, c.in-Some.ensures.within, ap length c.from.ensures) in
    let known = sym c.self.view_is ∙ sym c.past_gap-at.ensures.same ∙ at_known line at input c.in-Some.kind c.in-Some.count fits c.in-Some.ensures.some c.past_gap-at.ensures.stops t in
    let text : c.front-text.result.now ≡ take c.in-Some.count (drop at input) = c.front-text.ensures ∙ ap (take c.in-Some.count) c.from-in-Some.ensures in
    ap (λ (w : List ℕ). record (end_at line at) { seen = Known c.in-Some.kind; text = w; to = at + c.in-Some.count }) text ∙ sym (ap first known)

pub returns-in-Some-clause-moved : goal.returns-in-Some-clause-moved
returns-in-Some-clause-moved c =
    let at = c.past_gap-at.result.0 in
    let line = c.past_gap-at.result.1 in
    let input = c.self.inside.bytes.now in
    let t : longest_at (drop at input) ≡ Some (c.in-Some.kind, c.in-Some.count) = ap longest_at (sym c.from.ensures) ∙ sym c.longest_at.ensures.value ∙ c.in-Some.is in
    let fits : c.in-Some.count ≤ length (drop at input) = omega (arith, c.in-Some.ensures.within, ap length c.from.ensures) in
    let known = sym c.self.view_is ∙ sym c.past_gap-at.ensures.same ∙ at_known line at input c.in-Some.kind c.in-Some.count fits c.in-Some.ensures.some c.past_gap-at.ensures.stops t in
    sym (ap after_first known)

pub returns-then-at-self-clause-whole : goal.returns-then-at-self-clause-whole
returns-then-at-self-clause-whole c = subst IsWhole c.self.view_is (whole 0 c.self.inside.line c.self.inside.at (drop c.self.inside.at c.self.inside.bytes.now))

pub returns-in-None-clause-whole : goal.returns-in-None-clause-whole
returns-in-None-clause-whole c = subst IsWhole c.self.view_is (whole 0 c.self.inside.line c.self.inside.at (drop c.self.inside.at c.self.inside.bytes.now))

pub returns-in-Some-clause-whole : goal.returns-in-Some-clause-whole
returns-in-Some-clause-whole c = subst IsWhole c.self.view_is (whole 0 c.self.inside.line c.self.inside.at (drop c.self.inside.at c.self.inside.bytes.now))
