-- Annotations: what is read is what their rules make, and what these make is read.
use Rattle.std.proofs.Common.{◌≡◌, ℕ, suc, ◌+◌, ◌<◌, List, [], ◌∷◌, ◌++◌, length, Bool, true, false, cond, ◌⊎◌, not, Option, Some, None, Result, Ok, Err, refl, sym, ap, subst, ◌∙◌, append_assoc, inl, inr, codes, ℤ, arith}
use Rattle.std.specs.Str.{bytes_eq}
use Rattle.std.proofs.lemmas.List.{length-append}
use Rattle.fzn_lexer.specs.Spots.{Spot, first, after_first, IsWhole}
use Rattle.fzn_lexer.specs.declared.kind.Kind.TheVariants as kind
use Rattle.fzn_reader.specs.declared.code.Code.{Code}
use Rattle.fzn_reader.specs.declared.refused.Refused.{Refused}
use Rattle.fzn_reader.specs.Refusals.{◌>>=◌ as ◌then◌, is_kind, is_spelled, is_mark}
use Rattle.fzn_reader.specs.Annotations.{ann_with, ann_at, passing, no_annotation, annotation_at, annotations_at}
use Rattle.fzn_reader.specs.Sets.{number_at}
use Rattle.fzn_reader.specs.Outputs.{variable_ann, one_range, index_ranges_at, is_shape, shaped, with_ranges, array_ann}
use Rattle.fzn_reader.specs.Solving.{solve_ann}
use Rattle.fzn_parser.specs.Grammar.{Token, ◌·◌, Many, none, more, Mark, Name, Number, Separated, AnnExpr, Ann}
use Rattle.fzn_parser.specs.Laws.{Reads}
use Rattle.fzn_parser.specs.Rules.{Rule, ◌>>=◌, makes, holds, here, Stands, mark, word, spelled, Each, none as none_each, more as more_each, Commas}
use Rattle.fzn_parser.specs.States.{number, bounds, annotation, output_var, index_ranges, earlier_or, output_array, search_annotation}
use Rattle.fzn_parser.proofs.Lawful.{both, takes_spelled}
use Rattle.fzn_parser.proofs.AnnLaws.{ann_law}
use Rattle.fzn_parser.proofs.Formed.{Spelled, IsFormed, seq, chosen, name_formed, seen_is, text_is}
use Rattle.fzn_parser.proofs.FormedLists.{marked}
use Rattle.fzn_parser.proofs.FormedBegins.{not_true}
use Rattle.fzn_parser.proofs.FormedAnns.{opened_formed, ann_formed}
use Rattle.fzn_parser.proofs.Made.{Ready, Takes, IsSound, IsMade, IsPassed, Free, lone, ready, ok_sound, err_sound, choice, next_if, next, pass_if, pass, done, placed, stands, stood, mark_made}
use Rattle.fzn_parser.proofs.MadeLists.{At, marks, apart, mark_strict, repeat_made, commas_made}
use Rattle.fzn_parser.proofs.MadeExprs.{number_made, number_no_mark, bounds_moved, bounds_made}

-- more stands here, and no `(`
pub record Beyond (ts : List Spot) : Type 0 where
  pub round : is_mark (codes "(") ts ≡ false
  pub some : 0 < length ts

-- and no annotation
pub record Ended (ts : List Spot) : Type 0 where
  pub beyond : Beyond ts
  pub colons : is_mark (codes "::") ts ≡ false

mark_some : (text : List ℕ) (ts : List Spot) → At text ts → 0 < length ts
mark_some text [] h = absurd (cc)
mark_some text (s ∷ ss) h = omega arith

pub beyond : (text : List ℕ) → bytes_eq text (codes "(") ≡ false → (ts : List Spot) → At text ts → Beyond ts
beyond text n ts h = record { round = apart text (codes "(") ts n h; some = mark_some text ts h }

pub ended : (text : List ℕ) → bytes_eq text (codes "(") ≡ false → bytes_eq text (codes "::") ≡ false → (ts : List Spot) → At text ts → Ended ts
ended text n k ts h = record { beyond = beyond text n ts h; colons = apart text (codes "::") ts k h }

-- no refusal has one of all codes
abbrev pub always : Code → Bool
always c = true

pub formed_exact : {rest : List Spot} (read : Result (List Spot) Refused) → IsFormed always (λ us. us) rest read → read ≡ Ok rest
formed_exact (Ok us) p = ap Ok (p.ends us refl)
formed_exact (Err r) p = let e = p.other r refl in absurd (cc)

-- tokens that a rule spells, before more
few_spelled : {X : List Spot → Type 0} {ts rest : List Spot} → Ready ts → 0 < length rest → spelled X ts rest tt → Spelled X ts rest
few_spelled {X} {ts} {rest} w n p =
    let k : length ts ≡ length p.0 + length rest = ap length p.2 ∙ length-append p.0 rest in
    let f = w.few in
    record { front = p.0; spelled = p.1; joined = p.2; few = omega arith }

pub ann_made : (ts : List Spot) → Ready ts → IsPassed (spelled Ann) Beyond ts (ann_at ts)
ann_made ts w = record {
  it = record {
    sound = sound_by (ann_at ts) refl;
    exact = λ u rest p n. ap lone (formed_exact (ann_at ts) (ann_formed ts rest (few_spelled w n.some p) n.round));
  };
}
  where
    sound_by : (r : Result (List Spot) Refused) → ann_at ts ≡ r → IsSound (spelled Ann) ts (lone r)
    sound_by (Ok rest) e =
        let q = (ann_law ts w.whole).reads rest e in
        let k : length ts ≡ length q.front + length rest = ap length q.joined ∙ length-append q.front rest in
        ok_sound (tt, rest) (record { made = (q.front, q.spelled, q.joined); whole = q.whole; shorter = omega arith })
    sound_by (Err r) e = err_sound r

module _ {S : Type 0} {X : S → Rule S} (step : S → List Spot → Result (S × List Spot) Refused) (law : (s : S) (ts : List Spot) → Ready ts → IsMade (X s) Beyond ts (step s ts)) where
  annotation_made : (s : S) (ts : List Spot) → Ready ts → IsMade (mark (codes "::") >>= λ u. X s) Beyond ts (annotation_at step s ts)
  unfolding annotation_at
  annotation_made s ts w = pass w (mark_made _ ts w) (λ mid v. law s mid v)

  annotation_strict : (s : S) (ts : List Spot) → Ready ts → (x : S × List Spot) → annotation_at step s ts ≡ Ok x → length x.1 < length ts
  unfolding annotation_at
  annotation_strict s ts w x e = mark_strict {Y = X s} (codes "::") ts (λ rest. step s rest) w (λ mid v. (law s mid v).sound) x e

  pub annotations_made : (s : S) (ts : List Spot) → Ready ts → IsMade (Each (λ t. mark (codes "::") >>= λ u. X t) s) Ended ts (annotations_at step s ts)
  unfolding annotations_at
  annotations_made s ts w = repeat_made Beyond Ended no_annotation (annotation_at step) (λ t us v h. annotation_made t us v) annotation_strict (λ t rest q. ap not q.colons) (λ t u us mid p. ap not (marks p.first)) (λ rest q. q.beyond) (λ t u us mid p. beyond (codes "::") refl us (marks p.first)) s ts w

-- an annotation that adds nothing
pub passed_made : (ts : List Spot) → Ready ts → IsMade (Each annotation tt) Ended ts (annotations_at (passing ann_at) tt ts)
unfolding annotation
passed_made ts w = annotations_made (passing ann_at) (λ u us v. pass_if v (ann_made us v) (λ mid rest b p q. subst Beyond (sym p.0) q) (λ mid v. done _ v)) tt ts w

pub output_var_made : (ts : List Spot) → Ready ts → IsMade (Each output_var false) Ended ts (annotations_at variable_ann false ts)
unfolding output_var variable_ann
output_var_made ts w = annotations_made variable_ann (λ before us v. placed v (pass_if v (ann_made us v) (λ mid rest b p q. subst Beyond (sym p.0) q) (λ mid v. done _ v))) false ts w

pub search_made : (ts : List Spot) → Ready ts → IsMade (Each search_annotation None) Ended ts (annotations_at solve_ann None ts)
unfolding search_annotation solve_ann
search_made ts w = annotations_made solve_ann (λ before us v. placed v (pass_if v (ann_made us v) (λ mid rest b p q. subst Beyond (sym p.0) q) (λ mid v. done _ v))) None ts w

-- a rule without values behind another
spells_seq : {X Y : List Spot → Type 0} {ts mid rest : List Spot} → spelled X ts mid tt → spelled Y mid rest tt → spelled (X · Y) ts rest tt
spells_seq {rest = rest} p q = (p.0 ++ q.0, record { front = p.0; back = q.0; first = p.1; second = q.1; joined = refl }, p.2 ∙ ap (λ (us : List Spot). p.0 ++ us) q.2 ∙ sym (append_assoc p.0 q.0 rest))

spells_token : {test : Spot → Bool} {ts rest : List Spot} → Stands test ts rest → spelled (Token test) ts rest tt
spells_token s = (s.spot ∷ [], record { spot = s.spot; passes = s.passes; only = refl }, s.joined)

spells_more : {X Y : List Spot → Type 0} {ts rest : List Spot} → ((us : List Spot) → X us → Y us) → spelled X ts rest tt → spelled Y ts rest tt
spells_more h p = (p.0, h p.0 p.1, p.2)

spells_each : {S : Type 0} {X : S → Rule S} {Y : List Spot → Type 0} → ((s t : S) (ts mid : List Spot) → X s ts mid t → spelled Y ts mid tt) → (s u : S) (ts rest : List Spot) → Each X s ts rest u → spelled (Many Y) ts rest tt
spells_each h _ _ _ _ (none_each s ts) = ([], none, refl)
spells_each {Y = Y} h _ _ _ _ (more_each s t u ts mid rest a b) = let p = spells_seq (h s t ts mid a) (spells_each h t u mid rest b) in spells_more (λ us q. subst (Many Y) (sym q.joined) (more q.front q.back q.first q.second)) p

spells_commas : {S : Type 0} {X : S → Rule S} {Y : List Spot → Type 0} → ((s t : S) (ts mid : List Spot) → X s ts mid t → spelled Y ts mid tt) → (s u : S) (ts rest : List Spot) → Commas X s ts rest u → spelled (Separated Y) ts rest tt
spells_commas h s u ts rest p = elim p [
  | inl e ↦ ([], inl refl, e.0)
  | inr q ↦ spells_more (λ us x. inr x) (spells_seq (h s q.value ts q.mid q.first) (spells_each (λ a b us vs x. spells_seq (spells_token x.first) (h a b x.mid vs x.second)) q.value u q.mid rest q.second))
]

number_token : (ts rest : List Spot) (z : ℤ) → number ts rest z → spelled Number ts rest tt
unfolding number
number_token ts rest z p = subst (λ (us : List Spot). spelled Number ts us tt) p.second.0 (spells_token p.first.0)

-- a pair of bounds is spelled as an annotation spells it
bounds_spelled : (levels : ℕ) (ts rest : List Spot) (b : ℤ × ℤ) → bounds ts rest b → spelled (AnnExpr (suc levels)) ts rest tt
unfolding bounds AnnExpr
bounds_spelled levels ts rest b p =
    let high = subst (λ (us : List Spot). spelled Number p.second.mid us tt) p.second.second.second.0 (number_token p.second.mid _ _ p.second.second.first) in
    spells_more (λ us q. inr (inl q)) (spells_seq (number_token ts p.mid p.value p.first) (spells_more (λ us q. inr q) (spells_seq (spells_token p.second.first) high)))

abbrev OneRange : List (ℤ × ℤ) → Rule (List (ℤ × ℤ))
OneRange before = bounds >>= λ r. makes (before ++ r ∷ [])

range_spelled : (levels : ℕ) (before after : List (ℤ × ℤ)) (ts rest : List Spot) → OneRange before ts rest after → spelled (AnnExpr (suc levels)) ts rest tt
range_spelled levels before after ts rest p = subst (λ (us : List Spot). spelled (AnnExpr (suc levels)) ts us tt) p.second.0 (bounds_spelled levels ts p.mid p.value p.first)

ranges_spelled : (levels : ℕ) (ts rest : List Spot) (ranges : List (ℤ × ℤ)) → index_ranges ts rest ranges → spelled (Mark (codes "(") · Separated (AnnExpr (suc (suc levels))) · Mark (codes ")")) ts rest tt
unfolding index_ranges AnnExpr
ranges_spelled levels ts rest ranges p =
    let list = p.second in
    let members = list.second in
    let close = members.second in
    let round = subst (λ (us : List Spot). spelled (Mark (codes ")")) close.mid us tt) close.second.second.0 (spells_token close.second.first) in
    let one = spells_seq (spells_token list.first) (spells_seq (spells_commas (λ s t us vs x. range_spelled levels s t us vs x) [] members.value list.mid members.mid members.first) (spells_token close.first)) in
    let all = spells_seq (spells_more (λ us x. inr (inr (inr (inr x)))) one) ([], none, refl) in
    spells_seq (spells_token p.first) (spells_seq (spells_more (λ us x. inr x) all) round)

one_range_made : (before : List (ℤ × ℤ)) (ts : List Spot) → Ready ts → IsMade (OneRange before) Free ts (one_range before ts)
unfolding one_range
one_range_made before ts w = rw (bounds_moved (λ r. before ++ r ∷ []) (number_at ts)) (next w (bounds_made ts w (number_made ts w)) (λ b v. done _ v))

one_range_no_mark : (before after : List (ℤ × ℤ)) (ts mid : List Spot) → OneRange before ts mid after → is_mark (codes "]") ts ≡ false
unfolding bounds
one_range_no_mark before after ts mid p = number_no_mark (codes "]") ts p.first.mid p.first.value p.first.first

index_ranges_made : (ts : List Spot) → Ready ts → IsMade index_ranges Free ts (index_ranges_at ts)
unfolding index_ranges index_ranges_at
index_ranges_made ts w = pass w (mark_made _ ts w) (λ open_ v. pass v (mark_made _ open_ v) (λ list v.
    next_if v (commas_made Free (codes "]") refl one_range one_range_made one_range_no_mark (λ rest h. tt) (λ rest h. tt) [] list v) (λ a mid rest b p q. marks p.first)
    (λ ranges v. pass v (mark_made _ ranges.1 v) (λ bracket v. pass v (mark_made _ bracket v) (λ close v. done _ v)))))

ann_exact : (ts rest : List Spot) → Ready ts → spelled Ann ts rest tt → Beyond rest → ann_at ts ≡ Ok rest
ann_exact ts rest w p n = formed_exact (ann_at ts) (ann_formed ts rest (few_spelled w n.some p) n.round)

-- an annotation with arguments, whatever stands behind it
args_formed : (ts rest : List Spot) → Spelled (Name · Mark (codes "(") · Separated (AnnExpr 63) · Mark (codes ")")) ts rest → IsFormed always (λ us. us) rest (ann_at ts)
unfolding ann_at ann_with
args_formed ts rest p = seq p (λ mid a b. name_formed ts mid a) (λ name q. chosen (is_mark (codes "(") name.1) _ (marked (codes "(") q) (opened_formed 63 name.1 rest q))

named_token : {ts rest : List Spot} → Stands (is_spelled kind.Word (codes "output_array")) ts rest → spelled Name ts rest tt
named_token {ts} {rest} s =
    let k = seen_is kind.Word s.spot.seen (both _ _ s.passes).0 in
    let t : s.spot.text ≡ codes "output_array" = text_is kind.Word (codes "output_array") s.spot s.passes in
    spells_token (record { spot = s.spot; passes = (rw (k, t) refl); joined = s.joined })

args_exact : (ts mid rest : List Spot) (ranges : List (ℤ × ℤ)) → Ready ts → 0 < length rest → Stands (is_spelled kind.Word (codes "output_array")) ts mid → index_ranges mid rest ranges → ann_at ts ≡ Ok rest
args_exact ts mid rest ranges w n s p = formed_exact (ann_at ts) (args_formed ts rest (few_spelled w n (spells_seq (named_token s) (ranges_spelled 61 mid rest ranges p))))

-- an annotation that makes no output, and one that makes one
abbrev Other : Option (List (ℤ × ℤ)) → Rule (Option (List (ℤ × ℤ)))
Other before = here >>= λ place. spelled Ann >>= λ u. holds (not (bytes_eq (first place).text (codes "output_array"))) >>= λ v. makes before

abbrev Shaped : ℕ → Option (List (ℤ × ℤ)) → Rule (Option (List (ℤ × ℤ)))
Shaped count before = word (codes "output_array") >>= λ u. index_ranges >>= λ ranges. holds (is_shape count ranges) >>= λ v. makes (earlier_or before ranges)

abbrev OneOutput : ℕ → Option (List (ℤ × ℤ)) → Rule (Option (List (ℤ × ℤ)))
OneOutput count before ts rest a = Other before ts rest a ⊎ Shaped count before ts rest a

some_of_whole : (ts : List Spot) → IsWhole ts → 0 < length ts
some_of_whole [] w = absurd w
some_of_whole (s ∷ ss) w = omega arith

-- an annotation begins with a name
ann_word : (ts rest : List Spot) → Reads Ann ts rest → is_kind kind.Word (first ts).seen ≡ true
unfolding Ann
ann_word ts rest r =
    let t = r.spelled.first in
    let e : ts ≡ t.spot ∷ (r.spelled.back ++ rest) = r.joined ∙ ap (λ (us : List Spot). us ++ rest) (r.spelled.joined ∙ ap (λ (us : List Spot). us ++ r.spelled.back) t.only) in
    ap (λ (us : List Spot). is_kind kind.Word (first us).seen) e ∙ (both _ _ t.passes).0

module _ (count : ℕ) (before : Option (List (ℤ × ℤ))) (ts : List Spot) (w : Ready ts) where
  other_takes : (rest : List Spot) → Takes (spelled Ann) ts rest tt → bytes_eq (first ts).text (codes "output_array") ≡ false → Takes (OneOutput count before) ts rest before
  other_takes rest t h = record {
    made = inl (record { mid = ts; value = ts; first = (refl, refl); second = record { mid = rest; value = tt; first = t.made; second = record { mid = rest; value = tt; first = (refl, ap not h); second = (refl, refl) } } });
    whole = t.whole;
    shorter = t.shorter;
  }

  shaped_takes : (rest mid : List Spot) (ranges : List (ℤ × ℤ)) → ann_at ts ≡ Ok rest → Reads Ann ts rest → bytes_eq (first ts).text (codes "output_array") ≡ true → index_ranges_at (after_first ts) ≡ Ok (ranges, mid) → is_shape count ranges ≡ true → Takes (OneOutput count before) ts rest (earlier_or before ranges)
  shaped_takes rest mid ranges e r h f g =
      let s = stands (takes_spelled kind.Word (codes "output_array")) w (rw (ann_word ts rest r, h) refl) in
      let v = ready w s in
      let t = (index_ranges_made (after_first ts) v).sound.takes (ranges, mid) f in
      let same : mid ≡ rest = (let k = args_exact ts (after_first ts) mid ranges w (some_of_whole mid t.whole) s.made t.made in cc) in
      let i = s.shorter in
      let j = t.shorter in
      let l : length mid ≡ length rest = ap length same in
      record {
        made = inr (record { mid = after_first ts; value = tt; first = s.made; second = record { mid = rest; value = ranges; first = subst (λ (us : List Spot). index_ranges (after_first ts) us ranges) same t.made; second = record { mid = rest; value = tt; first = (refl, g); second = (refl, refl) } } });
        whole = r.whole;
        shorter = omega arith;
      }

  ranges_sound : (rest : List Spot) → ann_at ts ≡ Ok rest → Reads Ann ts rest → bytes_eq (first ts).text (codes "output_array") ≡ true → (r : Result (List (ℤ × ℤ) × List Spot) Refused) → index_ranges_at (after_first ts) ≡ r → IsSound (OneOutput count before) ts (with_ranges before (shaped count r) ts rest)
  ranges_sound rest e p h (Err r) f = err_sound _
  ranges_sound rest e p h (Ok x) f = by_shape (is_shape count x.0) refl
    where
      by_before : (o : Option (List (ℤ × ℤ))) → Takes (OneOutput count before) ts rest (earlier_or o x.0) → IsSound (OneOutput count before) ts (with_ranges o (Some x.0) ts rest)
      by_before None t = ok_sound (Some x.0, rest) t
      by_before (Some y) t = ok_sound (Some y, rest) t

      by_shape : (b : Bool) → is_shape count x.0 ≡ b → IsSound (OneOutput count before) ts (with_ranges before (cond b (Some x.0) None) ts rest)
      by_shape true g = by_before before (shaped_takes rest x.1 x.0 e p h f g)
      by_shape false g = err_sound _

  array_sound : (r : Result (List Spot) Refused) → ann_at ts ≡ r → IsSound (OneOutput count before) ts (◌then◌ r (λ rest. cond (bytes_eq (first ts).text (codes "output_array")) (with_ranges before (shaped count (index_ranges_at (after_first ts))) ts rest) (Ok (before, rest))))
  array_sound (Ok rest) e = let r = (ann_law ts w.whole).reads rest e in choice (bytes_eq (first ts).text (codes "output_array")) (λ h. ranges_sound rest e r h (index_ranges_at (after_first ts)) refl)
      (λ h. ok_sound (before, rest) (other_takes rest ((ann_made ts w).it.sound.takes (tt, rest) (rw e refl)) h))
  array_sound (Err r) e = err_sound r

  other_exact : (a : Option (List (ℤ × ℤ))) (rest : List Spot) → Other before ts rest a → Beyond rest → array_ann count before ts ≡ Ok (a, rest)
  unfolding array_ann
  other_exact a rest p n =
      let place : p.value ≡ ts = p.first.1 in
      let q = p.second in
      let f : q.mid ≡ rest = q.second.first.0 ∙ q.second.second.0 in
      let h : bytes_eq (first ts).text (codes "output_array") ≡ false = ap (λ (us : List Spot). bytes_eq (first us).text (codes "output_array")) (sym place) ∙ not_true _ q.second.first.1 in
      let e = ann_exact ts rest w (subst (λ (us : List Spot). spelled Ann ts us tt) f (subst (λ (us : List Spot). spelled Ann us q.mid tt) (sym p.first.0) q.first)) n in
      let g = q.second.second.1 in
      rw (e, h) cc

  shaped_exact : (a : Option (List (ℤ × ℤ))) (rest : List Spot) → Shaped count before ts rest a → Beyond rest → array_ann count before ts ≡ Ok (a, rest)
  unfolding array_ann
  shaped_exact a rest p n =
      let q = p.second in
      let f : q.mid ≡ rest = q.second.first.0 ∙ q.second.second.0 in
      let ranges = subst (λ (us : List Spot). index_ranges p.mid us q.value) f q.first in
      let k = stood (takes_spelled kind.Word (codes "output_array")) p.first in
      let s = stands (takes_spelled kind.Word (codes "output_array")) w k.passes in
      let i = (index_ranges_made (after_first ts) (ready w s)).exact q.value rest (subst (λ (us : List Spot). index_ranges us rest q.value) (sym k.behind) ranges) tt in
      let e = args_exact ts p.mid rest q.value w n.some p.first ranges in
      let h : bytes_eq (first ts).text (codes "output_array") ≡ true = (both _ _ k.passes).1 in
      let g : is_shape count q.value ≡ true = q.second.first.1 in
      rw (e, h, i, g) (by_before before ∙ ap (λ (o : Option (List (ℤ × ℤ))). Ok (o, rest)) (sym q.second.second.1))
    where
      by_before : (o : Option (List (ℤ × ℤ))) → with_ranges o (Some p.second.value) ts rest ≡ Ok (earlier_or o p.second.value, rest)
      by_before None = refl
      by_before (Some y) = refl

  one_output_made : IsMade (OneOutput count before) Beyond ts (array_ann count before ts)
  unfolding array_ann
  one_output_made = record { sound = array_sound (ann_at ts) refl; exact = λ a rest p n. elim p [ inl p ↦ other_exact a rest p n | inr p ↦ shaped_exact a rest p n ] }

pub outputs_made : (count : ℕ) (ts : List Spot) → Ready ts → IsMade (Each (output_array count) None) Ended ts (annotations_at (array_ann count) None ts)
unfolding output_array
outputs_made count ts w = annotations_made (array_ann count) (λ before us v. one_output_made count before us v) None ts w
