-- Annotations: what the grammar spells is passed over to its end, or refused for another reason than its form.
use Rattle.std.proofs.Common.{◌≡◌, ℕ, zero, suc, ◌<◌, List, ◌++◌, length, Bool, true, false, ◌||◌, not, Result, refl, sym, ap, subst, ◌∙◌, inl, inr, codes}
use Rattle.std.specs.Str.{bytes_eq}
use Rattle.fzn_lexer.specs.Spots.{Spot, first, after_first}
use Rattle.fzn_lexer.specs.declared.kind.Kind.TheVariants as kind
use Rattle.fzn_reader.specs.declared.ann_begin.AnnBegin.{AnnBegin}
use Rattle.fzn_reader.specs.declared.ann_begin.AnnBegin.TheVariants as ann
use Rattle.fzn_reader.specs.declared.begin.Begin.{Begin}
use Rattle.fzn_reader.specs.declared.begin.Begin.TheVariants as begin
use Rattle.fzn_reader.specs.declared.code.Code.TheVariants as code
use Rattle.fzn_reader.specs.declared.code.Code.{Code}
use Rattle.fzn_reader.specs.declared.refused.Refused.{Refused}
use Rattle.fzn_reader.specs.Refusals.{is_kind, is_mark, most, refuse}
use Rattle.fzn_reader.specs.Exprs.{begins}
use Rattle.fzn_reader.specs.Annotations.{ann_begins, ann_begins_by, any_number_at, ann_number_at, Group, ann_with, annexpr_by, passing, group_with, annexpr_at, group_at, ann_at, no_annotation, annotation_at, annotations_at}
use Rattle.fzn_parser.specs.Grammar.{◌·◌, ◌∣◌, Optional, Mark, Name, Number, Separated, Leaf, AnnOver, AnnExpr, Ann, Annotations}
use Rattle.fzn_parser.proofs.Lawful.{both, takes_spelled, takes_kind, takes_leaf, takes_name, after, here}
use Rattle.fzn_parser.proofs.AnnLaws.{left_out}
use Rattle.fzn_parser.proofs.Formed.{Spelled, at_front, IsFormed, ok_formed, made, chosen, passed, split, seq, taken, token_formed, mark_formed, name_formed, behind_token, narrow, seen_is, other_text}
use Rattle.fzn_parser.proofs.FormedLists.{Follows, marked, token_some, first_some, many_first, repeat_formed, separated_formed}
use Rattle.fzn_parser.proofs.FormedBegins.{begins_kind_number, begins_truth, begins_name, brace_begins, bracket_begins, number_opens, Opens, opens_kind, opens_mark, word_opens}

-- what may be left out is, or is not
optional_by : {X : List Spot → Type 0} {C : Type 0} (ts rest front : List Spot) → Optional X front → ts ≡ front ++ rest → length front < most → (ts ≡ rest → C) → (Spelled X ts rest → C) → C
optional_by ts rest front (inl n) e k p q = p (e ∙ ap (λ (us : List Spot). us ++ rest) n)
optional_by ts rest front (inr x) e k p q = q (at_front front e k x)

pub optional : {X : List Spot → Type 0} {C : Type 0} {ts rest : List Spot} → Spelled (Optional X) ts rest → (ts ≡ rest → C) → (Spelled X ts rest → C) → C
optional s p q = optional_by _ _ s.front s.spelled s.joined s.few p q

any_number_formed : {bad : Code → Bool} (ts rest : List Spot) → Spelled Number ts rest → IsFormed bad here rest (any_number_at ts)
unfolding any_number_at
any_number_formed ts rest p = token_formed (takes_kind kind.Number) p _ _ refl

ann_number_formed : {bad : Code → Bool} (ts rest : List Spot) → Spelled (Number · Optional (Mark (codes "..") · Number)) ts rest → Follows rest → IsFormed bad here rest (ann_number_at ts)
unfolding ann_number_at
ann_number_formed ts rest p f = optional (behind_token (takes_kind kind.Number) p)
    (λ e. passed (is_mark (codes "..") (after_first ts)) _ (subst (λ (us : List Spot). is_mark (codes "..") us ≡ false) (sym e) f.dots) (ok_formed _ e))
    (λ q. chosen (is_mark (codes "..") (after_first ts)) _ (marked (codes "..") q) (any_number_formed _ rest (behind_token (takes_spelled kind.Mark (codes "..")) q)))

ann_with_formed : {bad : Code → Bool} {X : List Spot → Type 0} (group : Group) (ts rest : List Spot) → ((us : List Spot) → Spelled X us rest → is_mark (codes "(") us ≡ true) → ((us : List Spot) → Spelled X us rest → IsFormed bad here rest (group (codes ")") us))
    → Spelled (Name · Optional X) ts rest → is_mark (codes "(") rest ≡ false → IsFormed bad here rest (ann_with group ts)
unfolding ann_with
ann_with_formed group ts rest starts law p f = seq p (λ mid a b. name_formed ts mid a) (λ name q. optional q
    (λ e. passed (is_mark (codes "(") name.1) _ (subst (λ (us : List Spot). is_mark (codes "(") us ≡ false) (sym e) f) (ok_formed _ e))
    (λ r. chosen (is_mark (codes "(") name.1) _ (starts name.1 r) (law name.1 r)))

passing_formed : {bad : Code → Bool} (read : List Spot → Result (List Spot) Refused) (u : Unit {0}) (ts rest : List Spot) → IsFormed bad here rest (read ts) → IsFormed bad after rest (passing read u ts)
passing_formed read u ts rest p = made (λ us. (tt, us)) p (λ x. refl)

-- from the opening mark on
group_formed : {bad : Code → Bool} {X : List Spot → Type 0} (member : List Spot → Result (List Spot) Refused) (mark close : List ℕ) → bytes_eq close (codes "..") ≡ false → bytes_eq close (codes "(") ≡ false → bytes_eq close (codes ",") ≡ false
    → ((ts mid : List Spot) → Spelled X ts mid → is_mark close ts ≡ false) → ((ts mid : List Spot) → Spelled X ts mid → Follows mid → IsFormed bad here mid (member ts))
    → (ts rest : List Spot) → Spelled (Mark mark · Separated X · Mark close) ts rest → IsFormed bad here rest (group_with member close ts)
unfolding group_with
group_formed member mark close d b c opens law ts rest p = seq (behind_token (takes_spelled kind.Mark mark) p)
    (λ mid x y. separated_formed close d b c (passing member) opens (λ u us m q f. passing_formed member u us m (law us m q f)) tt (after_first ts) mid x (taken (takes_spelled kind.Mark close) y).passes)
    (λ x q. mark_formed close x.1 rest q)

-- one token that stands alone
leaf_by : (ts : List Spot) (b : Bool) → is_kind kind.Text (first ts).seen ≡ b → (b || is_kind kind.Real (first ts).seen) ≡ true → ann_begins ts ≡ ann.Leaf
unfolding begins
leaf_by ts true h k = rw (seen_is kind.Text (first ts).seen h) refl
leaf_by ts false h k = rw (seen_is kind.Real (first ts).seen k) refl

ann_begins_is : (ts : List Spot) (b : Begin) (a : AnnBegin) → begins ts ≡ b → ((text : Bool) → ann_begins_by b text ≡ a) → ann_begins ts ≡ a
ann_begins_is ts b a e h = ap (λ (x : Begin). ann_begins_by x (is_kind kind.Text (first ts).seen)) e ∙ h (is_kind kind.Text (first ts).seen)

leaf_formed : {bad : Code → Bool} (group : Group) (ts rest front : List Spot) → Leaf front → ts ≡ front ++ rest → length front < most → IsFormed bad here rest (annexpr_by (ann_begins ts) group ts)
leaf_formed group ts rest front (inl a) e k =
    let q = taken {rest = rest} takes_leaf (at_front front e k a) in
    rw (leaf_by ts (is_kind kind.Text (first ts).seen) refl q.passes) (ok_formed _ q.behind)
leaf_formed group ts rest front (inr (inl a)) e k =
    let q = taken {rest = rest} (takes_spelled kind.Word (codes "true")) (at_front front e k a) in
    rw (ann_begins_is ts (begin.Truth true) ann.Leaf (begins_truth ts true (codes "true") refl q.passes) (λ t. refl)) (ok_formed _ q.behind)
leaf_formed group ts rest front (inr (inr a)) e k =
    let q = taken {rest = rest} (takes_spelled kind.Word (codes "false")) (at_front front e k a) in
    rw (ann_begins_is ts (begin.Truth false) ann.Leaf (begins_truth ts false (codes "false") refl q.passes) (λ t. refl)) (ok_formed _ q.behind)

number_ann : {bad : Code → Bool} (group : Group) (ts rest : List Spot) → Spelled (Number · Optional (Mark (codes "..") · Number)) ts rest → Follows rest → IsFormed bad here rest (annexpr_by (ann_begins ts) group ts)
number_ann group ts rest p f = rw (ann_begins_is ts begin.Number ann.Number (begins_kind_number ts (taken (takes_kind kind.Number) (split p).first).passes) (λ t. refl)) (ann_number_formed ts rest p f)

leaf_opens : (ts rest front : List Spot) → Leaf front → ts ≡ front ++ rest → length front < most → Opens ts
leaf_opens ts rest front (inl a) e k = token_opens (is_kind kind.Text (first ts).seen) refl (taken {rest = rest} takes_leaf (at_front front e k a)).passes
  where
    token_opens : (b : Bool) → is_kind kind.Text (first ts).seen ≡ b → (b || is_kind kind.Real (first ts).seen) ≡ true → Opens ts
    token_opens true h q = opens_kind kind.Text ts refl h
    token_opens false h q = opens_kind kind.Real ts refl q
leaf_opens ts rest front (inr (inl a)) e k = word_opens (codes "true") ts (taken {rest = rest} (takes_spelled kind.Word (codes "true")) (at_front front e k a)).passes
leaf_opens ts rest front (inr (inr a)) e k = word_opens (codes "false") ts (taken {rest = rest} (takes_spelled kind.Word (codes "false")) (at_front front e k a)).passes

name_opens : (ts rest : List Spot) → Spelled Name ts rest → Opens ts
name_opens ts rest p = opens_kind kind.Word ts refl (both _ _ (taken takes_name p).passes).0

mark_opens : {Y : List Spot → Type 0} (text : List ℕ) (ts rest : List Spot) → bytes_eq text (codes "}") ≡ false → bytes_eq text (codes "]") ≡ false → bytes_eq text (codes ")") ≡ false → Spelled (Mark text · Y) ts rest → Opens ts
mark_opens text ts rest a b c p = opens_mark text ts a b c (marked text p)

level_opens : {X : List Spot → Type 0} (ts rest front : List Spot) → (Leaf ∣ (Number · Optional (Mark (codes "..") · Number)) ∣ AnnOver X ∣ (Mark (codes "{") · Separated X · Mark (codes "}")) ∣ (Mark (codes "[") · Separated X · Mark (codes "]"))) front → ts ≡ front ++ rest → length front < most → Opens ts
level_opens ts rest front (inl a) e k = leaf_opens ts rest front a e k
level_opens {X} ts rest front (inr (inl a)) e k = let p : Spelled (Number · Optional (Mark (codes "..") · Number)) ts rest = at_front front e k a in let m = split p in number_opens ts m.mid m.first
level_opens {X} ts rest front (inr (inr (inl a))) e k = let p : Spelled (AnnOver X) ts rest = at_front front e k a in let m = split p in name_opens ts m.mid m.first
level_opens {X} ts rest front (inr (inr (inr (inl a)))) e k = let p : Spelled (Mark (codes "{") · Separated X · Mark (codes "}")) ts rest = at_front front e k a in mark_opens (codes "{") ts rest refl refl refl p
level_opens {X} ts rest front (inr (inr (inr (inr a)))) e k = let p : Spelled (Mark (codes "[") · Separated X · Mark (codes "]")) ts rest = at_front front e k a in mark_opens (codes "[") ts rest refl refl refl p

last_opens : (ts rest front : List Spot) → (Leaf ∣ (Number · Optional (Mark (codes "..") · Number)) ∣ Name) front → ts ≡ front ++ rest → length front < most → Opens ts
last_opens ts rest front (inl a) e k = leaf_opens ts rest front a e k
last_opens ts rest front (inr (inl a)) e k = let p : Spelled (Number · Optional (Mark (codes "..") · Number)) ts rest = at_front front e k a in let m = split p in number_opens ts m.mid m.first
last_opens ts rest front (inr (inr a)) e k = name_opens ts rest (at_front front e k a)

annexpr_opens : (levels : ℕ) (ts rest : List Spot) → Spelled (AnnExpr levels) ts rest → Opens ts
unfolding AnnExpr
annexpr_opens zero ts rest p = last_opens ts rest p.front p.spelled p.joined p.few
annexpr_opens (suc levels) ts rest p = level_opens ts rest p.front p.spelled p.joined p.few

-- the levels that are left read what stands in brackets
module _ {bad : Code → Bool} (levels : ℕ) (opens : (ts rest : List Spot) → Spelled (AnnExpr levels) ts rest → Opens ts) (law : (ts rest : List Spot) → Spelled (AnnExpr levels) ts rest → Follows rest → IsFormed bad here rest (annexpr_at levels ts)) where
  round_formed : (ts rest : List Spot) → Spelled (Mark (codes "(") · Separated (AnnExpr levels) · Mark (codes ")")) ts rest → IsFormed bad here rest (group_with (annexpr_at levels) (codes ")") ts)
  round_formed ts rest p = group_formed (annexpr_at levels) (codes "(") (codes ")") refl refl refl (λ us m q. (opens us m q).round) law ts rest p

  over_formed : (ts rest : List Spot) → Spelled (AnnOver (AnnExpr levels)) ts rest → is_mark (codes "(") rest ≡ false → IsFormed bad here rest (ann_with (group_with (annexpr_at levels)) ts)
  over_formed ts rest p f = ann_with_formed (group_with (annexpr_at levels)) ts rest (λ us q. marked (codes "(") q) (λ us q. round_formed us rest q) p f

  level_by : (ts rest front : List Spot) → (Leaf ∣ (Number · Optional (Mark (codes "..") · Number)) ∣ AnnOver (AnnExpr levels) ∣ (Mark (codes "{") · Separated (AnnExpr levels) · Mark (codes "}")) ∣ (Mark (codes "[") · Separated (AnnExpr levels) · Mark (codes "]"))) front
      → ts ≡ front ++ rest → length front < most → Follows rest → IsFormed bad here rest (annexpr_by (ann_begins ts) (group_with (annexpr_at levels)) ts)
  level_by ts rest front (inl a) e k f = leaf_formed (group_with (annexpr_at levels)) ts rest front a e k
  level_by ts rest front (inr (inl a)) e k f = number_ann (group_with (annexpr_at levels)) ts rest (at_front front e k a) f
  level_by ts rest front (inr (inr (inl a))) e k f =
      let p : Spelled (AnnOver (AnnExpr levels)) ts rest = at_front front e k a in
      rw (ann_begins_is ts begin.Name ann.Name (begins_name ts (taken takes_name (split p).first).passes) (λ t. refl)) (over_formed ts rest p f.bracket)
  level_by ts rest front (inr (inr (inr (inl a)))) e k f =
      let p : Spelled (Mark (codes "{") · Separated (AnnExpr levels) · Mark (codes "}")) ts rest = at_front front e k a in
      rw (ann_begins_is ts begin.Brace ann.Brace (brace_begins ts rest p) (λ t. refl)) (group_formed (annexpr_at levels) (codes "{") (codes "}") refl refl refl (λ us m q. (opens us m q).brace) law ts rest p)
  level_by ts rest front (inr (inr (inr (inr a)))) e k f =
      let p : Spelled (Mark (codes "[") · Separated (AnnExpr levels) · Mark (codes "]")) ts rest = at_front front e k a in
      rw (ann_begins_is ts begin.Bracket ann.Bracket (bracket_begins ts rest p) (λ t. refl)) (group_formed (annexpr_at levels) (codes "[") (codes "]") refl refl refl (λ us m q. (opens us m q).bracket) law ts rest p)

-- where no level is left
last_by : {bad : Code → Bool} (ts rest front : List Spot) → (Leaf ∣ (Number · Optional (Mark (codes "..") · Number)) ∣ Name) front → ts ≡ front ++ rest → length front < most → Follows rest → IsFormed bad here rest (annexpr_by (ann_begins ts) (λ close us. refuse code.TooDeep us) ts)
last_by ts rest front (inl a) e k f = leaf_formed (λ close us. refuse code.TooDeep us) ts rest front a e k
last_by ts rest front (inr (inl a)) e k f = number_ann (λ close us. refuse code.TooDeep us) ts rest (at_front front e k a) f
last_by ts rest front (inr (inr a)) e k f =
    let p : Spelled Name ts rest = at_front front e k a in
    rw (ann_begins_is ts begin.Name ann.Name (begins_name ts (taken takes_name p).passes) (λ t. refl))
    (ann_with_formed {X = λ us. ⊥} (λ close us. refuse code.TooDeep us) ts rest (λ us q. absurd q.spelled) (λ us q. absurd q.spelled) (narrow left_out p) f.bracket)

annexpr_formed : {bad : Code → Bool} (levels : ℕ) (ts rest : List Spot) → Spelled (AnnExpr levels) ts rest → Follows rest → IsFormed bad here rest (annexpr_at levels ts)
unfolding annexpr_at AnnExpr
annexpr_formed zero ts rest p f = last_by ts rest p.front p.spelled p.joined p.few f
annexpr_formed (suc levels) ts rest p f = level_by levels (annexpr_opens levels) (λ us m q g. annexpr_formed levels us m q g) ts rest p.front p.spelled p.joined p.few f

pub opened_formed : {bad : Code → Bool} (levels : ℕ) (ts rest : List Spot) → Spelled (Mark (codes "(") · Separated (AnnExpr levels) · Mark (codes ")")) ts rest → IsFormed bad here rest (group_at (suc levels) (codes ")") ts)
unfolding group_at
opened_formed levels ts rest p = round_formed levels (annexpr_opens levels) (annexpr_formed levels) ts rest p

pub ann_formed : {bad : Code → Bool} (ts rest : List Spot) → Spelled Ann ts rest → is_mark (codes "(") rest ≡ false → IsFormed bad here rest (ann_at ts)
unfolding ann_at Ann
ann_formed ts rest p f = ann_with_formed (group_at 64) ts rest (λ us q. marked (codes "(") q) (λ us q. opened_formed 63 us rest q) p f

pub passed_formed : {bad : Code → Bool} (u : Unit {0}) (ts rest : List Spot) → Spelled Ann ts rest → is_mark (codes "(") rest ≡ false → IsFormed bad after rest (passing ann_at u ts)
passed_formed u ts rest p f = passing_formed ann_at u ts rest (ann_formed ts rest p f)

module _ {bad : Code → Bool} {S : Type 0} (step : S → List Spot → Result (S × List Spot) Refused) (law : (s : S) (ts mid : List Spot) → Spelled Ann ts mid → is_mark (codes "(") mid ≡ false → IsFormed bad after mid (step s ts)) where
  annotation_formed : (s : S) (ts mid : List Spot) → Spelled (Mark (codes "::") · Ann) ts mid → is_mark (codes "(") mid ≡ false → IsFormed bad after mid (annotation_at step s ts)
  unfolding annotation_at
  annotation_formed s ts mid p f = seq p (λ m a b. mark_formed _ ts m a) (λ us b. law s us mid b f)

  pub annotations_formed : (s : S) (ts rest : List Spot) → Spelled Annotations ts rest → is_mark (codes "(") rest ≡ false → is_mark (codes "::") rest ≡ false → IsFormed bad after rest (annotations_at step s ts)
  unfolding annotations_at Annotations
  annotations_formed s ts rest p f g = repeat_formed no_annotation (annotation_at step) (first_some token_some) rest (λ t. ap not g) (λ t us m q. ap not (marked (codes "::") q))
      (λ t us m q r. annotation_formed t us m q (many_first (λ vs. is_mark (codes "(") vs ≡ false) f (λ vs n u. other_text kind.Mark (codes "::") (codes "(") (first vs) refl (marked (codes "::") u)) r)) s ts p
