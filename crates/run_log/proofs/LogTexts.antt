-- The text of a log: lines, each with its line feed.
use Rattle.std.proofs.Common.{◌≡◌, ℕ, ◌+◌, ◌<◌, ◌≤◌, List, [], ◌∷◌, ◌++◌, length, drop, refl, arith, ap, sym, ◌∙◌, subst, append_assoc, append-nil, length-append, map, inl, inr}
use Rattle.std.specs.Prelude.{All, codes, ◌⊎◌}
use Rattle.std.proofs.lemmas.Grind.{flat_map-append}
use Rattle.std.proofs.lemmas.List.Elements.{All-cons, All-nil, All-append}
use Rattle.std.proofs.lemmas.List.Folds.{flat_map-map}
use Rattle.run_log.specs.declared.entry.LogEntry.{LogEntry}
use Rattle.run_log.specs.Texts.{Line, entry_of, entry_text, ended, entries_text, log_text}
use Rattle.run_log.specs.Readings.{Fits, IsLog, IsBadLine}
use Rattle.run_log.specs.Steps.{Follows, Lacks, Splits, HasText}
use Rattle.run_log.proofs.Parts.{same_front, all_head, all_tail, lacks_not_contains}
use Rattle.run_log.proofs.EntryTexts.{entry_lacks, begins, same_entry}

-- entries behind others
pub record Behind (xs ys : List LogEntry) (rest : List ℕ) : Type 0 where
  pub zs : List LogEntry
  pub joined : ys ≡ xs ++ zs
  pub fit : All Fits zs
  pub shown : entries_text zs ≡ rest

one_more : (x y : LogEntry) (xs ys : List LogEntry) (rest : List ℕ) → x ≡ y → Behind xs ys rest → Behind (x ∷ xs) (y ∷ ys) rest
one_more x y xs ys rest e b = record { zs = b.zs; joined = cc; fit = b.fit; shown = b.shown }

line_first : (line rest : List ℕ) → ended line ++ rest ≡ line ++ 10 ∷ rest
line_first line rest = append_assoc line (codes "\n") rest

some_text : (x : LogEntry) (rest : List ℕ) → 0 < length (ended (entry_text x) ++ rest)
some_text x rest = simp length-append (omega arith)

entries_behind : (xs ys : List LogEntry) (rest : List ℕ) → All Fits xs → All Fits ys → entries_text ys ≡ entries_text xs ++ rest → Behind xs ys rest
entries_behind [] ys rest f g e = record { zs = ys; joined = refl; fit = g; shown = e }
entries_behind (x ∷ xs) [] rest f g e =
    let n = some_text x (entries_text xs ++ rest) in
    let same : entries_text [] ≡ ended (entry_text x) ++ (entries_text xs ++ rest) = e ∙ append_assoc (ended (entry_text x)) (entries_text xs) rest in
    absurd (omega (arith, n, ap length same))
entries_behind (x ∷ xs) (y ∷ ys) rest f g e =
    let fx = all_head Fits x xs f in
    let gy = all_head Fits y ys g in
    let both : entry_text y ++ 10 ∷ entries_text ys ≡ entry_text x ++ 10 ∷ (entries_text xs ++ rest) = sym (line_first (entry_text y) (entries_text ys)) ∙ e ∙ append_assoc (ended (entry_text x)) (entries_text xs) rest ∙ line_first (entry_text x) (entries_text xs ++ rest) in
    let parts = same_front 10 (entry_text y) (entry_text x) (10 ∷ entries_text ys) (10 ∷ (entries_text xs ++ rest)) (entry_lacks y gy) (entry_lacks x fx) refl refl both in
    one_more x y xs ys rest (same_entry x y fx gy (sym parts.0)) (entries_behind xs ys rest (all_tail Fits x xs f) (all_tail Fits y ys g) (ap (drop 1) parts.1))

-- ---- a text has one list of entries
none_left : (zs : List LogEntry) → entries_text zs ≡ [] → zs ≡ []
none_left [] e = refl
none_left (z ∷ zs) e = absurd (omega (arith, some_text z (entries_text zs), ap length e))

no_more : (xs ys : List LogEntry) → Behind xs ys [] → ys ≡ xs
no_more xs ys b = b.joined ∙ ap (λ (zs : List LogEntry). xs ++ zs) (none_left b.zs b.shown) ∙ append-nil xs

same_entries : (xs ys : List LogEntry) → All Fits xs → All Fits ys → entries_text xs ≡ entries_text ys → xs ≡ ys
same_entries xs ys f g e = sym (no_more xs ys (entries_behind xs ys [] f g (sym e ∙ sym (append-nil _))))

abbrev first : List ℕ → ℕ
first [] = 0
first (b ∷ bs) = b

begins_so : (z : LogEntry) (rest : List ℕ) → first (ended (entry_text z) ++ rest) ≡ 37
begins_so z rest = let b = begins z in ap (λ (t : List ℕ). first (ended t ++ rest)) b.1

no_line_feed : (zs : List LogEntry) → entries_text zs ≡ codes "\n" → ⊥
no_line_feed [] e = absurd (cc)
no_line_feed (z ∷ zs) e = omega (arith, begins_so z (entries_text zs), ap first e)

one_ends : (xs ys : List LogEntry) (bytes : List ℕ) → All Fits xs → All Fits ys → bytes ≡ entries_text xs → bytes ++ codes "\n" ≡ entries_text ys → ⊥
one_ends xs ys bytes f g p q =
    let b = entries_behind xs ys (codes "\n") f g (sym q ∙ ap (λ (t : List ℕ). t ++ codes "\n") p) in
    no_line_feed b.zs b.shown

pub one_list : (bytes : List ℕ) (xs ys : List LogEntry) → IsLog bytes xs → IsLog bytes ys → xs ≡ ys
one_list bytes xs ys h k =
    elim h.text [
      | inl p ↦ elim k.text [
        | inl q ↦ same_entries xs ys h.fit k.fit (sym p ∙ q)
        | inr q ↦ absurd (one_ends xs ys bytes h.fit k.fit p q)
      ]
      | inr p ↦ elim k.text [
        | inl q ↦ absurd (one_ends ys xs bytes k.fit h.fit q p)
        | inr q ↦ same_entries xs ys h.fit k.fit (sym p ∙ q)
      ]
    ]

-- ---- a bad line is in no log
bad_first : (line rest : List ℕ) (zs : List LogEntry) → Lacks 10 line → Follows 10 rest → 0 < length (line ++ rest) → ((e : LogEntry) → Fits e → entry_text e ≡ line → ⊥) → All Fits zs → entries_text zs ≡ line ++ rest → ⊥
bad_first line rest [] l f some none g e = omega (arith, some, ap length e)
bad_first line rest (z ∷ zs) l f some none g e =
    let fits = all_head Fits z zs g in
    let same = same_front 10 (entry_text z) line (10 ∷ entries_text zs) rest (entry_lacks z fits) l refl f (sym (line_first (entry_text z) (entries_text zs)) ∙ e) in
    none z fits same.0

follows_end : (behind : List ℕ) → (behind ≡ []) ⊎ ((more : List ℕ) × (behind ≡ codes "\n" ++ more)) → Follows 10 behind
follows_end behind h = elim h [ inl e ↦ subst (Follows 10) (sym e) tt | inr p ↦ subst (Follows 10) (sym p.1) refl ]

follows_more : (behind : List ℕ) → Follows 10 behind → Follows 10 (behind ++ codes "\n")
follows_more [] f = refl
follows_more (b ∷ behind) f = f

longer : (line behind : List ℕ) → 0 < length (line ++ (behind ++ codes "\n"))
longer line behind = simp length-append (omega arith)

pub no_bad_line : (bytes : List ℕ) (number : ℕ) (xs : List LogEntry) → IsBadLine bytes number → IsLog bytes xs → ⊥
no_bad_line bytes number xs b h =
    let ends = follows_end b.behind b.stands.ends in
    let lacks = lacks_not_contains 10 b.line b.stands.whole in
    let whole = b.text ∙ append_assoc (entries_text b.entries) b.line b.behind in
    elim h.text [
      | inl p ↦
          let k = entries_behind b.entries xs (b.line ++ b.behind) b.fit h.fit (sym p ∙ whole) in
          bad_first b.line b.behind k.zs lacks ends b.stands.some b.none k.fit k.shown
      | inr p ↦
          let whole_ended = ap (λ (t : List ℕ). t ++ codes "\n") whole ∙ append_assoc (entries_text b.entries) (b.line ++ b.behind) (codes "\n") ∙ ap (λ (t : List ℕ). entries_text b.entries ++ t) (append_assoc b.line b.behind (codes "\n")) in
          let k = entries_behind b.entries xs (b.line ++ (b.behind ++ codes "\n")) b.fit h.fit (sym p ∙ whole_ended) in
          bad_first b.line (b.behind ++ codes "\n") k.zs lacks (follows_more b.behind ends) (longer b.line b.behind) b.none k.fit k.shown
    ]

-- ---- what was noted reads back
pub reads_back : (lines : List Line) → All Fits (map entry_of lines) → IsLog (log_text lines) (map entry_of lines)
unfolding log_text
reads_back lines f = record { fit = f; text = inl (sym (flat_map-map (λ e. ended (entry_text e)) entry_of lines)) }

-- ---- a loop over the lines
pub record Reached (bytes : List ℕ) (entries : List LogEntry) (rest : List ℕ) : Type 0 where
  pub fit : All Fits entries
  pub few : length entries + length rest ≤ length bytes
  pub whole : (bytes ≡ entries_text entries ++ rest) ⊎ ((rest ≡ []) × (bytes ++ codes "\n" ≡ entries_text entries))

pub log_start : (bytes : List ℕ) → Reached bytes [] bytes
log_start bytes = record { fit = All-nil Fits; few = omega arith; whole = inl refl }

more_text : (entries : List LogEntry) (e : LogEntry) (line : List ℕ) → entry_text e ≡ line → entries_text (entries ++ e ∷ []) ≡ entries_text entries ++ (line ++ codes "\n")
more_text entries e line h =
    flat_map-append (λ x. ended (entry_text x)) entries (e ∷ []) ∙ ap (λ (t : List ℕ). entries_text entries ++ t) (append-nil (ended (entry_text e)) ∙ ap ended h)

so_far : (bytes : List ℕ) (entries : List LogEntry) (rest : List ℕ) → Reached bytes entries rest → 0 < length rest → bytes ≡ entries_text entries ++ rest
so_far bytes entries rest r some = elim r.whole [ inl p ↦ p | inr q ↦ absurd (omega (arith, some, ap length q.0)) ]

whole_more : (bytes : List ℕ) (entries : List LogEntry) (line behind : List ℕ) (e : LogEntry) → bytes ≡ entries_text entries ++ (line ++ behind) → Follows 10 behind → entry_text e ≡ line → (bytes ≡ entries_text (entries ++ e ∷ []) ++ drop 1 behind) ⊎ ((drop 1 behind ≡ []) × (bytes ++ codes "\n" ≡ entries_text (entries ++ e ∷ [])))
whole_more bytes entries line [] e w f h =
    inr (refl, ap (λ (t : List ℕ). t ++ codes "\n") (w ∙ ap (λ (t : List ℕ). entries_text entries ++ t) (append-nil line)) ∙ append_assoc (entries_text entries) line (codes "\n") ∙ sym (more_text entries e line h))
whole_more bytes entries line (b ∷ more) e w f h =
    inl (w ∙ ap (λ (c : ℕ). entries_text entries ++ (line ++ c ∷ more)) f ∙ ap (λ (t : List ℕ). entries_text entries ++ t) (sym (append_assoc line (codes "\n") more)) ∙ sym (append_assoc (entries_text entries) (line ++ codes "\n") more) ∙ ap (λ (t : List ℕ). t ++ more) (sym (more_text entries e line h)))

shorter : (line behind : List ℕ) → 0 < length (line ++ behind) → length (drop 1 behind) + 1 ≤ length (line ++ behind)
shorter line [] h = omega (arith, h)
shorter line (b ∷ more) h = simp length-append (omega arith)

pub log_more : (bytes : List ℕ) (entries : List LogEntry) (rest line behind : List ℕ) (e : LogEntry) → Reached bytes entries rest → 0 < length rest → Splits 10 rest line behind → HasText line e → Reached bytes (entries ++ e ∷ []) (drop 1 behind)
log_more bytes entries rest line behind e r some s h =
    let short = shorter line behind (omega (arith, some, ap length s.whole)) in
    record {
      fit = All-append Fits entries (e ∷ []) r.fit (All-cons Fits e [] h.fit (All-nil Fits));
      few = simp length-append (omega (arith, r.few, short, ap length s.whole));
      whole = whole_more bytes entries line behind e (so_far bytes entries rest r some ∙ ap (λ (t : List ℕ). entries_text entries ++ t) s.whole) s.follows h.shown;
    }

ends : (behind : List ℕ) → Follows 10 behind → (behind ≡ []) ⊎ ((more : List ℕ) × (behind ≡ codes "\n" ++ more))
ends [] f = inl refl
ends (b ∷ more) f = inr (more, ap (λ (c : ℕ). c ∷ more) f)

pub log_bad : (bytes : List ℕ) (entries : List LogEntry) (rest line behind : List ℕ) (number : ℕ) → Reached bytes entries rest → 0 < length rest → Splits 10 rest line behind → ((e : LogEntry) → HasText line e → ⊥) → number ≡ length entries + 1 → IsBadLine bytes number
log_bad bytes entries rest line behind number r some s none n = record {
  entries = entries;
  line = line;
  behind = behind;
  fit = r.fit;
  counted = n;
  text = so_far bytes entries rest r some ∙ ap (λ (t : List ℕ). entries_text entries ++ t) s.whole ∙ sym (append_assoc (entries_text entries) line behind);
  stands = record { whole = λ h. s.lacks h.0 10 h.1 h.2; some = omega (arith, some, ap length s.whole); ends = ends behind s.follows };
  none = λ e f t. none e (record { fit = f; shown = t });
}

pub log_end : (bytes : List ℕ) (entries : List LogEntry) (rest : List ℕ) → Reached bytes entries rest → length rest ≡ 0 → IsLog bytes entries
log_end bytes entries [] r n = record { fit = r.fit; text = elim r.whole [ inl p ↦ inl (p ∙ append-nil _) | inr q ↦ inr q.1 ] }
log_end bytes entries (b ∷ rest) r n = absurd (omega (arith, n))
