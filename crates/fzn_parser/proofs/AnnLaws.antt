-- Annotations: what is passed over is spelled by its rule, and a refusal is fair.
use Rattle.std.proofs.Common.{◌≡◌, ℕ, zero, suc, List, [], ◌++◌, Bool, true, false, Result, refl, sym, ap, subst, ◌∙◌, inl, inr, codes}
use Rattle.std.proofs.lemmas.List.{append-nil}
use Rattle.fzn_lexer.specs.Spots.{Spot, first, after_first, IsWhole}
use Rattle.fzn_lexer.specs.declared.kind.Kind.TheVariants as kind
use Rattle.fzn_reader.specs.declared.begin.Begin.{Begin}
use Rattle.fzn_reader.specs.declared.begin.Begin.TheVariants as begin
use Rattle.fzn_reader.specs.declared.code.Code.TheVariants as code
use Rattle.fzn_reader.specs.declared.refused.Refused.{Refused}
use Rattle.fzn_reader.specs.Refusals.{is_kind, is_mark, most, refuse}
use Rattle.fzn_reader.specs.Exprs.{begins}
use Rattle.fzn_reader.specs.Annotations.{ann_begins_by, any_number_at, ann_number_at, Group, ann_with, annexpr_by, passing, group_with, annexpr_at, group_at, ann_at, annotation_at, annotations_at}
use Rattle.fzn_parser.specs.Grammar.{◌·◌, Optional, Mark, Name, Number, Separated, Leaf, AnnExpr, Ann, Annotations}
use Rattle.fzn_parser.specs.Laws.{is_name, Reads}
use Rattle.fzn_parser.proofs.Samples.{Sample, before, word_sample, mark_sample, number_sample, left_out as no_option, annexpr_sample, ann_sample}
use Rattle.fzn_parser.proofs.Lawful.{IsLawful, after, here, is_ok, refused, onward, given, next, finish, or_left, or_right, first_passes, first_read, token_first, wider, widen, choice, took, takes_spelled, takes_kind, takes_leaf, token_law, mark_law, name_law, repeat_law}
use Rattle.fzn_parser.proofs.ListLaws.{separated_law}
use Rattle.fzn_parser.proofs.BeginLaws.{Begun, begun, deep_round, deep_square, deep_brace}

-- a rule that may be left out, and is
pub left_out : {X Y : List Spot → Type 0} (us : List Spot) → X us → (X · Optional Y) us
left_out us p = record { front = us; back = []; first = p; second = inl refl; joined = sym (append-nil us) }

-- or is not
put_in : {X Y : List Spot → Type 0} (us : List Spot) → (X · Y) us → (X · Optional Y) us
put_in us p = record { front = p.front; back = p.back; first = p.first; second = inr p.second; joined = p.joined }

any_number_law : (ts : List Spot) → IsWhole ts → IsLawful Number here ts (any_number_at ts)
unfolding any_number_at
any_number_law ts w = token_law _ (takes_kind kind.Number) number_sample ts _ refl w

ann_number_law : (ts : List Spot) → Reads Number ts (after_first ts) → IsLawful (Number · Optional (Mark (codes "..") · Number)) here ts (ann_number_at ts)
unfolding ann_number_at
ann_number_law ts r = choice (is_mark (codes "..") (after_first ts))
    (λ h. widen put_in (onward r (let d = took _ (takes_spelled kind.Mark (codes "..")) (after_first ts) r.whole h in onward d (any_number_law _ d.whole))))
    (λ h. is_ok _ (wider left_out r))

ann_with_law : {X : List Spot → Type 0} (group : Group) → ((ts : List Spot) → IsWhole ts → Reads (Mark (codes "(")) ts (after_first ts) → IsLawful X here ts (group (codes ")") ts)) → (ts : List Spot) → IsWhole ts → IsLawful (Name · Optional X) here ts (ann_with group ts)
unfolding ann_with
ann_with_law group law ts w = given (name_law ts w) (before no_option) (λ x r. choice (is_mark (codes "(") x.1)
    (λ h. widen put_in (onward r (law x.1 r.whole (took _ (takes_spelled kind.Mark (codes "(")) x.1 r.whole h))))
    (λ h. is_ok _ (wider left_out r)))

-- annexpr, where what opens is read by `group`
module _ {X : List Spot → Type 0} (group : Group)
    (leaf : (us : List Spot) → Leaf us → X us)
    (number : (us : List Spot) → (Number · Optional (Mark (codes "..") · Number)) us → X us)
    (name : (ts : List Spot) → IsWhole ts → IsLawful X here ts (ann_with group ts))
    (brace : (ts : List Spot) → IsWhole ts → Reads (Mark (codes "{")) ts (after_first ts) → IsLawful X here ts (group (codes "}") ts))
    (bracket : (ts : List Spot) → IsWhole ts → Reads (Mark (codes "[")) ts (after_first ts) → IsLawful X here ts (group (codes "]") ts)) where
  annexpr_by_law : (b : Begin) (text : Bool) (ts : List Spot) → IsWhole ts → is_kind kind.Text (first ts).seen ≡ text → Begun b ts → IsLawful X here ts (annexpr_by (ann_begins_by b text) group ts)
  annexpr_by_law begin.Number text ts w e r = widen number (ann_number_law ts r)
  annexpr_by_law begin.Real text ts w e r = is_ok _ (wider (λ us p. leaf us (inl p)) (took _ takes_leaf ts w (or_right (is_kind kind.Text (first ts).seen) _ r)))
  annexpr_by_law (begin.Truth true) text ts w e r = is_ok _ (wider (λ us p. leaf us (inr (inl p))) r)
  annexpr_by_law (begin.Truth false) text ts w e r = is_ok _ (wider (λ us p. leaf us (inr (inr p))) r)
  annexpr_by_law begin.Name text ts w e r = name ts w
  annexpr_by_law begin.Brace text ts w e r = brace ts w r
  annexpr_by_law begin.Bracket text ts w e r = bracket ts w r
  annexpr_by_law begin.Other true ts w e r = is_ok _ (wider (λ us p. leaf us (inl p)) (took _ takes_leaf ts w (or_left (is_kind kind.Text (first ts).seen) _ e)))
  annexpr_by_law begin.Other false ts w e r = refused code.Syntax ts w refl (let t = word_sample (codes "true") in (t.0, leaf t.0 (inr (inl t.1))))

pub passing_law : {X : List Spot → Type 0} (read : List Spot → Result (List Spot) Refused) → ((ts : List Spot) → IsWhole ts → IsLawful X here ts (read ts)) → (u : Unit {0}) (ts : List Spot) → IsWhole ts → IsLawful X after ts (passing read u ts)
passing_law read law u ts w = finish (λ rest. (tt, rest)) (law ts w) (λ x. refl)

-- from the opening mark on
group_law : {X : List Spot → Type 0} (member : List Spot → Result (List Spot) Refused) → ((ts : List Spot) → IsWhole ts → IsLawful X here ts (member ts)) → Sample X → (mark close : List ℕ) (ts : List Spot) → Reads (Mark mark) ts (after_first ts) → IsLawful (Mark mark · Separated X · Mark close) here ts (group_with member close ts)
unfolding group_with
group_law member law sample mark close ts r = onward r (next (separated_law close (passing member) (passing_law member law) sample tt (after_first ts) r.whole) (mark_sample close) (λ x w. mark_law close x.1 w))

no_group : (us : List Spot) → (Name · Optional (λ vs. vs ≡ [])) us → Name us
no_group us p = subst Name (sym (p.joined ∙ (elim p.second [ inl e ↦ ap (λ vs. p.front ++ vs) e ∙ append-nil p.front | inr e ↦ ap (λ vs. p.front ++ vs) e ∙ append-nil p.front ]))) p.first

annexpr_law : (levels : ℕ) (ts : List Spot) → IsWhole ts → IsLawful (AnnExpr levels) here ts (annexpr_at levels ts)
unfolding annexpr_at AnnExpr
annexpr_law zero ts w = annexpr_by_law (λ close rest. refuse code.TooDeep rest) (λ us p. inl p) (λ us p. inr (inl p))
    (λ us p. widen (λ vs q. inr (inr (no_group vs q))) (ann_with_law (λ close rest. refuse code.TooDeep rest) (λ vs v r. refused code.TooDeep vs v (deep_round (first vs) (first_passes r)) ([], refl)) us p)) (λ us v r. refused code.TooDeep us v (deep_brace (first us) (first_passes r)) (annexpr_sample zero)) (λ us v r. refused code.TooDeep us v (deep_square (first us) (first_passes r)) (annexpr_sample zero))
    (begins ts) (is_kind kind.Text (first ts).seen) ts w refl (begun ts w)
annexpr_law (suc levels) ts w = annexpr_by_law (group_with (annexpr_at levels)) (λ us p. inl p) (λ us p. inr (inl p))
    (λ us p. widen (λ vs q. inr (inr (inl q))) (ann_with_law (group_with (annexpr_at levels)) (λ vs v r. group_law (annexpr_at levels) (annexpr_law levels) (annexpr_sample levels) (codes "(") (codes ")") vs r) us p))
    (λ us v r. widen (λ vs q. inr (inr (inr (inl q)))) (group_law (annexpr_at levels) (annexpr_law levels) (annexpr_sample levels) (codes "{") (codes "}") us r))
    (λ us v r. widen (λ vs q. inr (inr (inr (inr q)))) (group_law (annexpr_at levels) (annexpr_law levels) (annexpr_sample levels) (codes "[") (codes "]") us r))
    (begins ts) (is_kind kind.Text (first ts).seen) ts w refl (begun ts w)

-- where so many levels may be opened, and one more
opened_law : (levels : ℕ) (mark close : List ℕ) (ts : List Spot) → Reads (Mark mark) ts (after_first ts) → IsLawful (Mark mark · Separated (AnnExpr levels) · Mark close) here ts (group_at (suc levels) close ts)
unfolding group_at
opened_law levels mark close ts r = group_law (annexpr_at levels) (annexpr_law levels) (annexpr_sample levels) mark close ts r

pub ann_law : (ts : List Spot) → IsWhole ts → IsLawful Ann here ts (ann_at ts)
unfolding ann_at Ann
ann_law ts w = ann_with_law (group_at 64) (λ us v r. opened_law 63 (codes "(") (codes ")") us r) ts w

pub passed_law : (u : Unit {0}) (ts : List Spot) → IsWhole ts → IsLawful Ann after ts (passing ann_at u ts)
passed_law u ts w = passing_law ann_at ann_law u ts w

module _ {S : Type 0} (step : S → List Spot → Result (S × List Spot) Refused) (law : (s : S) (ts : List Spot) → IsWhole ts → IsLawful Ann after ts (step s ts)) where
  annotation_law : (s : S) (ts : List Spot) → IsWhole ts → IsLawful (Mark (codes "::") · Ann) after ts (annotation_at step s ts)
  unfolding annotation_at
  annotation_law s ts w = next (mark_law _ ts w) ann_sample (λ rest p. law s rest p)

  pub annotations_law : (s : S) (ts : List Spot) → IsWhole ts → IsLawful Annotations after ts (annotations_at step s ts)
  unfolding annotations_at Annotations
  annotations_law s ts w = repeat_law _ _ (λ t us p h. annotation_law t us p) most s ts w

-- an annotation begins with a name
pub ann_name : (ts rest : List Spot) → Reads Ann ts rest → is_name (first ts) ≡ true
unfolding Ann
ann_name ts rest r = let (mid, us, p, e) = first_read r in token_first mid p e
