-- Lines noted one after another.
use Rattle.std.proofs.Common.{◌≡◌, ℕ, Bool, true, false, List, [], ◌++◌, length-append, refl, sym, ap, ◌∙◌, subst, append_assoc, append-nil, arith}
use Rattle.std.specs.Prelude.{Some, None}
use Rattle.std.specs.declared.option.Option.{Option}
use Rattle.std.specs.Io.KnownBytes.{Appends}
use Rattle.std.proofs.lemmas.List.Concat.{flat_map-append}
use Rattle.std.proofs.lemmas.Bool.{false≢true}
use Rattle.cs_base.specs.Causes.{Rose, AppendsFront}
use Rattle.run_log.specs.Texts.{Line, log_text, ended, entry_text, entry_of}
use Rattle.run_log.specs.Journals.{Noted, Notes}

pub log_text-append : (ls ks : List Line) → log_text (ls ++ ks) ≡ log_text ls ++ log_text ks
unfolding log_text
log_text-append ls ks = flat_map-append (λ (l : Line). ended (entry_text (entry_of l))) ls ks

appends_none : (a : Option (List ℕ)) → Appends a a []
appends_none None = tt
appends_none (Some xs) = sym (append-nil xs)

appends_then : (a b c : Option (List ℕ)) (bs cs : List ℕ) → Appends a b bs → Appends b c cs → Appends a c (bs ++ cs)
appends_then None b c bs cs p q = tt
appends_then (Some xs) None c bs cs p q = absurd p
appends_then (Some xs) (Some ys) None bs cs p q = absurd q
appends_then (Some xs) (Some ys) (Some zs) bs cs p q = q ∙ ap (λ t. t ++ cs) p ∙ append_assoc xs bs cs

front_then : (a b c : Option (List ℕ)) (bs cs : List ℕ) → Appends a b bs → AppendsFront b c cs → AppendsFront a c (bs ++ cs)
front_then a b c bs cs p (f, s, is, some, q) = (bs ++ f, s, ap (λ t. bs ++ t) is ∙ sym (append_assoc bs f s), some, appends_then a b c bs f p q)

front_part : (a b : Option (List ℕ)) (bs cs : List ℕ) → AppendsFront a b bs → AppendsFront a b (bs ++ cs)
front_part a b bs cs (f, s, is, some, q) = (f, s ++ cs, ap (λ t. t ++ cs) is ∙ append_assoc f s cs, omega (arith, length-append s cs), q)

-- nothing was noted
pub notes_none : (n : Noted) → Notes n n []
unfolding log_text
notes_none n = record {
  later = omega arith;
  whole = λ fine. (fine, refl, appends_none n.text);
  part = λ bad fine. absurd (false≢true (sym fine ∙ bad));
  stays = λ bad. refl;
}

part_then : (a b c : Noted) (ls ks : List Line) (f : Bool) → b.failed ≡ f → Notes a b ls → Notes b c ks → c.failed ≡ true → a.failed ≡ false → Rose a.faults c.faults × AppendsFront a.text c.text (log_text ls ++ log_text ks)
part_then a b c ls ks true is one two bad fine =
    let same = two.stays is in
    let broke = one.part is fine in
    rw same (broke.0, front_part a.text b.text (log_text ls) (log_text ks) broke.1)
part_then a b c ls ks false is one two bad fine =
    let all = one.whole is in
    let broke = two.part bad is in
    (subst (λ (n : ℕ). Rose n c.faults) all.1 broke.0, front_then a.text b.text c.text (log_text ls) (log_text ks) all.2 broke.1)

-- some lines were noted, and then others
pub notes_then : (a b c : Noted) (ls ks : List Line) → Notes a b ls → Notes b c ks → Notes a c (ls ++ ks)
notes_then a b c ls ks one two = record {
  later = omega (arith, one.later, two.later);
  whole = λ fine.
      let last = two.whole fine in
      let first = one.whole last.0 in
      (first.0, last.1 ∙ first.1, rw log_text-append (appends_then a.text b.text c.text (log_text ls) (log_text ks) first.2 last.2));
  part = λ bad fine. rw log_text-append (part_then a b c ls ks b.failed refl one two bad fine);
  stays = λ bad.
      let same = one.stays bad in
      two.stays (ap (λ (n : Noted). n.failed) same ∙ bad) ∙ same;
}
