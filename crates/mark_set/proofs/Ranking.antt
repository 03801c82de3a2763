-- Two sets as one.
use Rattle.std.proofs.Common.{◌≡◌, ℕ, zero, suc, ◌<◌, Bool, true, false, ◌||◌, List, [], ◌∷◌, length, get_or, set, replicate, refl, sym, ap, ◌∙◌, arith, inl, inr}
use Rattle.std.proofs.lemmas.Bool.{false≢true, or_from, or_left, or_right, false_from_ne_true}
use Rattle.mark_set.specs.Marks.{IsMarked, IsUnmarked, IsClear, Takes}
use Rattle.mark_set.specs.Ranks.{joined, IsRankedSet, TakesCheapFirst}

pub length-joined : (cheap late : List Bool) → length cheap ≡ length late → length (joined cheap late) ≡ length cheap
unfolding joined
length-joined [] late same = refl
length-joined (c ∷ cheap) [] same = absurd (omega (arith, same))
length-joined (c ∷ cheap) (l ∷ late) same = ap suc (length-joined cheap late (omega (arith, same)))

pub get_or-joined : (cheap late : List Bool) (v : ℕ) → length cheap ≡ length late → get_or (joined cheap late) v false ≡ (get_or cheap v false || get_or late v false)
unfolding joined
get_or-joined [] [] v same = refl
get_or-joined [] (l ∷ late) v same = absurd (omega (arith, same))
get_or-joined (c ∷ cheap) [] v same = absurd (omega (arith, same))
get_or-joined (c ∷ cheap) (l ∷ late) zero same = refl
get_or-joined (c ∷ cheap) (l ∷ late) (suc v) same = get_or-joined cheap late v (omega (arith, same))

pub joined-cheap : (cheap late : List Bool) (v : ℕ) (b : Bool) → joined (set cheap v b) late ≡ set (joined cheap late) v (b || get_or late v false)
unfolding joined
joined-cheap [] late v b = refl
joined-cheap (c ∷ cheap) [] zero b = refl
joined-cheap (c ∷ cheap) [] (suc v) b = refl
joined-cheap (c ∷ cheap) (l ∷ late) zero b = refl
joined-cheap (c ∷ cheap) (l ∷ late) (suc v) b = ap (λ (ms : List Bool). (c || l) ∷ ms) (joined-cheap cheap late v b)

pub joined-late : (cheap late : List Bool) (v : ℕ) (b : Bool) → joined cheap (set late v b) ≡ set (joined cheap late) v (get_or cheap v false || b)
unfolding joined
joined-late [] late v b = refl
joined-late (c ∷ cheap) [] v b = refl
joined-late (c ∷ cheap) (l ∷ late) zero b = refl
joined-late (c ∷ cheap) (l ∷ late) (suc v) b = ap (λ (ms : List Bool). (c || l) ∷ ms) (joined-late cheap late v b)

pub joined_none : (n : ℕ) → joined (replicate n false) (replicate n false) ≡ replicate n false
unfolding joined
joined_none zero = refl
joined_none (suc n) = ap (λ (ms : List Bool). false ∷ ms) (joined_none n)

-- ---- what a set keeps is what its parts keep
module _ (cheap late dear now : List Bool) (s : IsRankedSet cheap late dear) (is : joined cheap late ≡ now) where
  same_length : length cheap ≡ length late
  same_length = s.cheap_below ∙ sym s.late_below

  pub now_long : length now ≡ length dear
  now_long = ap length (sym is) ∙ length-joined cheap late same_length ∙ s.cheap_below

  pub below_dear : (v : ℕ) → v < length now → v < length dear
  below_dear v h = omega (arith, h, now_long)

  pub below_cheap : (v : ℕ) → v < length now → v < length cheap
  below_cheap v h = omega (arith, h, now_long, s.cheap_below)

  pub below_late : (v : ℕ) → v < length now → v < length late
  below_late v h = omega (arith, h, now_long, s.late_below)

  mark : (v : ℕ) → get_or now v false ≡ (get_or cheap v false || get_or late v false)
  mark v = ap (λ (ms : List Bool). get_or ms v false) (sym is) ∙ get_or-joined cheap late v same_length

  pub has_cheap : (v : ℕ) (b : Bool) → b ≡ get_or cheap v false → b ≡ true → b ≡ get_or now v false
  has_cheap v b has marked = marked ∙ sym (mark v ∙ or_left _ _ (sym has ∙ marked))

  pub has_late : (v : ℕ) (b : Bool) → get_or cheap v false ≡ false → b ≡ get_or late v false → b ≡ get_or now v false
  has_late v b clear has = has ∙ sym (mark v ∙ ap (λ x. x || get_or late v false) clear)

  pub add_cheap : (v : ℕ) (then : List Bool) → then ≡ set cheap v true → joined then late ≡ set now v true
  add_cheap v then added = ap (λ (ms : List Bool). joined ms late) added ∙ joined-cheap cheap late v true ∙ ap (λ (ms : List Bool). set ms v true) is

  pub add_late : (v : ℕ) (then : List Bool) → then ≡ set late v true → joined cheap then ≡ set now v true
  add_late v then added = ap (λ (ms : List Bool). joined cheap ms) added ∙ joined-late cheap late v true ∙ ap (λ b. set (joined cheap late) v b) (or_right (get_or cheap v false) true refl) ∙ ap (λ (ms : List Bool). set ms v true) is

  pub clear_both : IsClear cheap → IsClear late → IsClear now
  clear_both none_cheap none_late v = mark v ∙ or_from _ _ (none_cheap v) (none_late v)

  pub clears_long : (cheap_then late_then : List Bool) → length cheap_then ≡ length cheap → length late_then ≡ length late → length (joined cheap_then late_then) ≡ length now
  clears_long cheap_then late_then cheap_same late_same = length-joined cheap_then late_then (cheap_same ∙ same_length ∙ sym late_same) ∙ cheap_same ∙ s.cheap_below ∙ sym now_long

  pub clears_both : (cheap_then late_then : List Bool) → length cheap_then ≡ length cheap → length late_then ≡ length late → IsClear cheap_then → IsClear late_then → IsClear (joined cheap_then late_then)
  clears_both cheap_then late_then cheap_same late_same none_cheap none_late v = get_or-joined cheap_then late_then v (cheap_same ∙ same_length ∙ sym late_same) ∙ or_from _ _ (none_cheap v) (none_late v)

  pub takes_one : (v : ℕ) (cheap_then late_then : List Bool) → TakesCheapFirst v cheap late cheap_then late_then → Takes v now (joined cheap_then late_then)
  takes_one v cheap_then late_then takes = elim takes [
    | inl here ↦ (let taken = here.0 in record {
      inside = omega (arith, taken.inside, now_long, s.cheap_below);
      was = mark v ∙ or_left _ _ taken.was;
      is = ap (λ (ms : List Bool). joined ms late_then) taken.is ∙ ap (λ (ms : List Bool). joined (set cheap v false) ms) here.1
          ∙ joined-cheap cheap late v false ∙ ap (λ b. set (joined cheap late) v b) (not_late v taken.was) ∙ ap (λ (ms : List Bool). set ms v false) is;
    })
    | inr here ↦ (let taken = here.2 in record {
      inside = omega (arith, taken.inside, now_long, s.late_below);
      was = mark v ∙ or_right _ _ taken.was;
      is = ap (λ (ms : List Bool). joined ms late_then) here.1 ∙ ap (λ (ms : List Bool). joined cheap ms) taken.is
          ∙ joined-late cheap late v false ∙ ap (λ b. set (joined cheap late) v (b || false)) (here.0 v) ∙ ap (λ (ms : List Bool). set ms v false) is;
    })
  ]
    where
      not_late : (v : ℕ) → IsMarked cheap v → IsUnmarked late v
      not_late v marked = false_from_ne_true _ (λ other. false≢true (sym (s.is_cheap v marked) ∙ s.is_dear v other))
