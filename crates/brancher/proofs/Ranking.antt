-- What the walk over a list of terms has found, as the list grows.
use Rattle.std.proofs.Common.{◌≡◌, ℕ, ◌<◌, inl, inr, List, [], ◌∷◌, ◌++◌, take, drop, length, Option, Some, None, refl, sym, subst, ap, ◌∙◌, arith, ℤ, pos, ◌≤ℤ◌, ◌<ℤ◌, All, true, is_some}
use Rattle.std.proofs.lemmas.Int.{ints}
use Rattle.std.proofs.lemmas.List.{append_assoc, take-append-drop}
use Rattle.std.proofs.lemmas.List.Elements.{All-append, All-push, All-cons, All-nil}
use Rattle.fzn_model.specs.declared.term.Term.{Term}
use Rattle.fzn_model.specs.declared.term.Term.TheVariants as term
use Rattle.fzn_model.specs.declared.pick.VarBy.{VarBy}
use Rattle.fzn_model.specs.declared.pick.VarBy.TheVariants as choice
use Rattle.fzn_model.specs.Bounds.{IsFixed}
use Rattle.brancher.specs.declared.best.Best.{Best}
use Rattle.brancher.specs.Branching.{AreFixed, IsOpen, rank, IsBehind, IsNotBefore, IsFirstBest}
use Rattle.brancher.specs.Making.{IsBestOf}

-- a further term that is fixed, or ranks not before
longer : (ts before after : List Term) (x t : Term) → ts ≡ before ++ x ∷ after → ts ++ t ∷ [] ≡ before ++ x ∷ (after ++ t ∷ [])
longer ts before after x t e = ap (λ l. l ++ t ∷ []) e ∙ append_assoc before (x ∷ after) (t ∷ [])

passed : (box : List (List ℤ)) (by : VarBy) (front : List Term) (b : Best) (t : Term) → IsBestOf box by front (Some b) → IsNotBefore box by b.rank t → IsBestOf box by (front ++ t ∷ []) (Some b)
unfolding IsBestOf
passed box by front b t had behind =
    let best = had.0 in (
      record {
        before = best.before;
        after = best.after ++ t ∷ [];
        «is» = longer front best.before best.after (term.Var b.var) t best.is;
        has_values = best.has_values;
        earlier = best.earlier;
        later = All-push (IsNotBefore box by (rank box by (term.Var b.var))) best.after t best.later (subst (λ r. IsNotBefore box by r t) had.1 behind);
      },
      had.1,
      had.2,
    )

pub passed_later : (box : List (List ℤ)) (by : VarBy) (front : List Term) (b : Best) (t : Term) → IsBestOf box by front (Some b) → b.rank ≤ℤ rank box by t → IsBestOf box by (front ++ t ∷ []) (Some b)
unfolding IsNotBefore
passed_later box by front b t had later = passed box by front b t had (inr later)

pub passed_fixed : (box : List (List ℤ)) (by : VarBy) (front : List Term) (best : Option Best) (t : Term) → IsBestOf box by front best → IsFixed box t → IsBestOf box by (front ++ t ∷ []) best
unfolding IsBestOf IsNotBefore AreFixed
passed_fixed box by front None t had fixed = All-push (IsFixed box) front t had fixed
passed_fixed box by front (Some b) t had fixed = passed box by front b t had (inl fixed)

-- the first open term
pub found : (box : List (List ℤ)) (by : VarBy) (front : List Term) (b : Best) → IsBestOf box by front None → IsOpen box (term.Var b.var) → b.rank ≡ rank box by (term.Var b.var) → b.var < length box → IsBestOf box by (front ++ term.Var b.var ∷ []) (Some b)
unfolding IsBestOf IsBehind AreFixed
found box by front b had several ranks within = (
  record {
    before = front;
    after = [];
    «is» = refl;
    has_values = several;
    earlier = λ i d h. inl (had i d h);
    later = All-nil (IsNotBefore box by (rank box by (term.Var b.var)));
  },
  ranks,
  within,
)

behind_both : (box : List (List ℤ)) (by : VarBy) (r s : ℤ) (t : Term) → r <ℤ s → IsNotBefore box by s t → IsBehind box by r t
unfolding IsBehind IsNotBefore
behind_both box by r s t less (inl fixed) = inl fixed
behind_both box by r s t less (inr later) = inr (omega (arith, ints))

behind_more : (box : List (List ℤ)) (by : VarBy) (r s : ℤ) (t : Term) → r <ℤ s → IsBehind box by s t → IsBehind box by r t
unfolding IsBehind
behind_more box by r s t less (inl fixed) = inl fixed
behind_more box by r s t less (inr later) = inr (omega (arith, ints))

-- a further term that ranks before
pub improved : (box : List (List ℤ)) (by : VarBy) (front : List Term) (old b : Best) → IsBestOf box by front (Some old) → IsOpen box (term.Var b.var) → b.rank ≡ rank box by (term.Var b.var) → b.var < length box → b.rank <ℤ old.rank → IsBestOf box by (front ++ term.Var b.var ∷ []) (Some b)
unfolding IsBestOf IsBehind
improved box by front old b had several ranks within less =
    let best = had.0 in
    let r = rank box by (term.Var b.var) in
    let s = rank box by (term.Var old.var) in
    let below : r <ℤ s = omega (arith, ints, less, ranks, had.1) in
    let all : All (IsBehind box by r) (best.before ++ term.Var old.var ∷ best.after) =
    All-append (IsBehind box by r) best.before (term.Var old.var ∷ best.after) (λ i d h. behind_more box by r s _ below (best.earlier i d h))
    (All-cons (IsBehind box by r) (term.Var old.var) best.after (inr below) (λ i d h. behind_both box by r s _ below (best.later i d h))) in (
      record {
        before = front;
        after = [];
        «is» = refl;
        has_values = several;
        earlier = subst (All (IsBehind box by r)) (sym best.is) all;
        later = All-nil (IsNotBefore box by r);
      },
      ranks,
      within,
    )

-- in the order of the list the first open term decides
pub settled : (box : List (List ℤ)) (by : VarBy) (ts : List Term) (n : ℕ) (best : Option Best) → by ≡ choice.InputOrder → is_some best ≡ true → IsBestOf box by (take n ts) best → IsBestOf box by ts best
unfolding IsBestOf IsNotBefore rank
settled box by ts n None e some had = absurd (cc)
settled box choice.InputOrder ts n (Some b) e some had =
    let best = had.0 in (
      record {
        before = best.before;
        after = best.after ++ drop n ts;
        «is» = sym (take-append-drop n ts) ∙ ap (λ l. l ++ drop n ts) best.is ∙ append_assoc best.before (term.Var b.var ∷ best.after) (drop n ts);
        has_values = best.has_values;
        earlier = best.earlier;
        later = All-append (IsNotBefore box choice.InputOrder (pos 0)) best.after (drop n ts) best.later (λ i d h. inr (omega (arith, ints)));
      },
      had.1,
      had.2,
    )
settled box choice.FirstFail ts n (Some b) e some had = absurd (cc)
settled box choice.Smallest ts n (Some b) e some had = absurd (cc)
settled box choice.Largest ts n (Some b) e some had = absurd (cc)

-- what was found in the end
pub all_fixed : (box : List (List ℤ)) (by : VarBy) (ts : List Term) → IsBestOf box by ts None → AreFixed box ts
unfolding IsBestOf
all_fixed box by ts had = had

pub best_is : (box : List (List ℤ)) (by : VarBy) (ts : List Term) (b : Best) → IsBestOf box by ts (Some b) → IsFirstBest box by ts b.var
unfolding IsBestOf
best_is box by ts b had = had.0

pub best_within : (box : List (List ℤ)) (by : VarBy) (ts : List Term) (b : Best) → IsBestOf box by ts (Some b) → b.var < length box
unfolding IsBestOf
best_within box by ts b had = had.2

pub nothing : (box : List (List ℤ)) (by : VarBy) → IsBestOf box by [] None
unfolding IsBestOf AreFixed
nothing box by = All-nil (IsFixed box)
