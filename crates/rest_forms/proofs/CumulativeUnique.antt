-- The runs of amounts are the only ones, and so is the form of cumulative tasks.
use Rattle.std.proofs.Common.{◌≡◌, List, [], ◌∷◌, map, refl, sym, ap, subst, ◌∙◌, arith, ℤ, pos, ◌≤ℤ◌, ◌<ℤ◌, Bool, true, false}
use Rattle.std.specs.Prelude.{int_le, int_lt}
use Rattle.std.specs.Bool.{MatchBool}
use Rattle.std.proofs.lemmas.Int.{ints}
use Rattle.fzn_model.specs.declared.term.Term.{Term}
use Rattle.fzn_model.specs.declared.cumulative.CumTask.{CumTask}
use Rattle.fzn_model.specs.declared.cumulative.Used.{Used}
use Rattle.fzn_model.specs.declared.con.Con.TheVariants as con
use Rattle.fzn_model.specs.Meaning.{amount_at}
use Rattle.fzn_model.specs.Bounds.{term_low}
use Rattle.rest_basic.specs.Forms.{substituted, empty_clause, of_truth}
use Rattle.rest_basic.specs.declared.reduced.Reduced.{Reduced}
use Rattle.rest_basic.specs.declared.reduced.Reduced.TheVariants as reduced
use Rattle.fzn_model.proofs.Moments.{part_over, part_within, amount_later}
use Rattle.rest_forms.specs.Forms.{AreRunsOf, open_tasks, substituted_task, all_used, some_negative, peak, always_fits, all_fixed, IsCumulativeLeft, IsCumulativeForm}
use Rattle.rest_forms.specs.Sweep.{part_at}
use Rattle.rest_forms.proofs.JoinedRuns.{Chain, chain_of, all_begin, later_all}
use Rattle.rest_forms.proofs.Peaks.{later_idle}

-- ---- what runs use at their ends
-- within the first its amount
pub first_amount : (u : Used) (us : List Used) (t : ℤ) → Chain (u ∷ us) → u.from ≤ℤ t → t <ℤ u.to → amount_at (u ∷ us) t ≡ u.amount
first_amount u us t chain from to =
    let here = part_within u t from to in
    let idle = later_idle u us t chain to in
    omega (arith, ints, here, idle)

-- before the first nothing
pub before_first : (u : Used) (us : List Used) (t : ℤ) → Chain (u ∷ us) → t <ℤ u.from → amount_at (u ∷ us) t ≡ pos 0
before_first u us t chain h = amount_later (u ∷ us) t (later_all u.from t (u ∷ us) h (all_begin u.from (u ∷ us) (omega (arith, ints)) chain))

-- where the first ends, other than its amount
pub other_after : (u : Used) (us : List Used) → Chain (u ∷ us) → amount_at us u.to ≡ u.amount → ⊥
other_after u [] chain same = let some = chain.1 in omega (arith, ints, some, same)
other_after u (v ∷ vs) chain same = by_test (int_lt u.to v.from) refl
  where
    by_test : (w : Bool) → int_lt u.to v.from ≡ w → ⊥
    by_test true e = let none = before_first v vs u.to chain.3 (omega (arith, ints, e)) in let some = chain.1 in omega (arith, ints, none, same, some)
    by_test false e =
        let order = chain.2.0 in
        let wide = chain.3.0 in
        let near : u.to ≡ v.from = omega (arith, ints, order, e) in
        let there = first_amount v vs u.to chain.3 (omega (arith, ints, near)) (omega (arith, ints, near, wide)) in
        chain.2.1 near (sym same ∙ there)

-- ---- two lists of runs that use the same
first_from : (u v : Used) (us vs : List Used) → Chain (u ∷ us) → Chain (v ∷ vs) → ((t : ℤ) → amount_at (u ∷ us) t ≡ amount_at (v ∷ vs) t) → u.from ≤ℤ v.from
first_from u v us vs one two same = by_test (int_le u.from v.from) refl
  where
    by_test : (w : Bool) → int_le u.from v.from ≡ w → u.from ≤ℤ v.from
    by_test true e = omega (arith, ints, e)
    by_test false e =
        let none = before_first u us v.from one (omega (arith, ints, e)) in
        let there = first_amount v vs v.from two (omega (arith, ints)) two.0 in
        let some = two.1 in
        let both = same v.from in
        absurd (omega (arith, ints, none, there, some, both))

first_to : (u v : Used) (us vs : List Used) → Chain (u ∷ us) → Chain (v ∷ vs) → u.from ≡ v.from → u.amount ≡ v.amount → ((t : ℤ) → amount_at (u ∷ us) t ≡ amount_at (v ∷ vs) t) → v.to ≤ℤ u.to
first_to u v us vs one two from amount same = by_test (int_le v.to u.to) refl
  where
    by_test : (w : Bool) → int_le v.to u.to ≡ w → v.to ≤ℤ u.to
    by_test true e = omega (arith, ints, e)
    by_test false e =
        let wide = one.0 in
        let there = first_amount v vs u.to two (omega (arith, ints, wide, from)) (omega (arith, ints, e)) in
        let over = part_over u u.to (omega (arith, ints)) in
        let both = same u.to in
        absurd (other_after u us one (omega (arith, ints, there, over, both, amount)))

same_used : (u v : Used) → u.from ≡ v.from → u.to ≡ v.to → u.amount ≡ v.amount → u ≡ v
same_used u v e f g =
    subst (λ (x : ℤ). u ≡ record { from = x; to = v.to; amount = v.amount }) e
    (subst (λ (y : ℤ). u ≡ record { from = u.from; to = y; amount = v.amount }) f
    (subst (λ (z : ℤ). u ≡ record { from = u.from; to = u.to; amount = z }) g refl))

same_first : (u v : Used) (us vs : List Used) → Chain (u ∷ us) → Chain (v ∷ vs) → ((t : ℤ) → amount_at (u ∷ us) t ≡ amount_at (v ∷ vs) t) → u ≡ v
same_first u v us vs one two same =
    let back : (t : ℤ) → amount_at (v ∷ vs) t ≡ amount_at (u ∷ us) t = λ t. sym (same t) in
    let le = first_from u v us vs one two same in
    let ge = first_from v u vs us two one back in
    let from : u.from ≡ v.from = omega (arith, ints, le, ge) in
    let wide = one.0 in
    let wide_too = two.0 in
    let here = first_amount u us u.from one (omega (arith, ints)) wide in
    let there = first_amount v vs u.from two (omega (arith, ints, from)) (omega (arith, ints, from, wide_too)) in
    let amount : u.amount ≡ v.amount = sym here ∙ same u.from ∙ there in
    let up = first_to u v us vs one two from amount same in
    let down = first_to v u vs us two one (sym from) (sym amount) back in
    same_used u v from (omega (arith, ints, up, down)) amount

unique : (us vs : List Used) → Chain us → Chain vs → ((t : ℤ) → amount_at us t ≡ amount_at vs t) → us ≡ vs
unique [] [] one two same = refl
unique [] (v ∷ vs) one two same =
    let there = first_amount v vs v.from two (omega (arith, ints)) two.0 in
    let some = two.1 in
    let both = same v.from in
    absurd (omega (arith, ints, there, some, both))
unique (u ∷ us) [] one two same =
    let here = first_amount u us u.from one (omega (arith, ints)) one.0 in
    let some = one.1 in
    let both = same u.from in
    absurd (omega (arith, ints, here, some, both))
unique (u ∷ us) (v ∷ vs) one two same =
    let first = same_first u v us vs one two same in
    let rest = unique us vs one.3 two.3 (λ t. let both = same t in let parts = ap (λ (w : Used). part_at w t) first in omega (arith, ints, both, parts)) in
    subst (λ (ws : List Used). (u ∷ us) ≡ (v ∷ ws)) rest (ap (λ (w : Used). w ∷ us) first)

pub runs_unique : (us vs ws : List Used) → AreRunsOf us ws → AreRunsOf vs ws → us ≡ vs
runs_unique us vs ws one two = unique us vs (chain_of us one.runs) (chain_of vs two.runs) (λ t. one.same t ∙ sym (two.same t))

-- ---- forms
-- what is left has tasks, runs and a limit
pub record IsLeftBy (box : List (List ℤ)) (ks : List CumTask) (used : List Used) (b : Term) (form : Reduced) : Type 0 where
  pub used_left : List Used
  pub runs : AreRunsOf used_left (all_used box ks used)
  pub is : form ≡ reduced.Is (con.CumulUsed (map (substituted_task box) (open_tasks box ks)) used_left (substituted box b))

pub left_by : (box : List (List ℤ)) (ks : List CumTask) (used : List Used) (b : Term) (form : Reduced) → IsCumulativeLeft box ks used b form → IsLeftBy box ks used b form
left_by box ks used b (reduced.Is (con.CumulUsed ks' used' b')) left = record { used_left = used'; runs = left.1; is = rw (left.0, left.2) refl }
left_by box ks used b form left = absurd left

same_left : (box : List (List ℤ)) (ks : List CumTask) (used : List Used) (b : Term) (f g : Reduced) → IsLeftBy box ks used b f → IsLeftBy box ks used b g → f ≡ g
same_left box ks used b f g one two =
    let same = runs_unique one.used_left two.used_left (all_used box ks used) one.runs two.runs in
    one.is ∙ ap (λ (us : List Used). reduced.Is (con.CumulUsed (map (substituted_task box) (open_tasks box ks)) us (substituted box b))) same ∙ sym two.is

unique_by : (box : List (List ℤ)) (ks : List CumTask) (used : List Used) (b : Term) (f g : Reduced) (w n s a : Bool)
    → MatchBool n (f ≡ reduced.Is empty_clause) (MatchBool s (f ≡ reduced.Holds) (MatchBool a (f ≡ of_truth w) (IsCumulativeLeft box ks used b f)))
    → MatchBool n (g ≡ reduced.Is empty_clause) (MatchBool s (g ≡ reduced.Holds) (MatchBool a (g ≡ of_truth w) (IsCumulativeLeft box ks used b g)))
    → f ≡ g
unique_by box ks used b f g w true s a one two = one ∙ sym two
unique_by box ks used b f g w false true a one two = one ∙ sym two
unique_by box ks used b f g w false false true one two = one ∙ sym two
unique_by box ks used b f g w false false false one two = same_left box ks used b f g (left_by box ks used b f one) (left_by box ks used b g two)

pub cumulative_unique : (box : List (List ℤ)) (ks : List CumTask) (used : List Used) (b : Term) (f g : Reduced) → IsCumulativeForm box ks used b f → IsCumulativeForm box ks used b g → f ≡ g
unfolding IsCumulativeForm
cumulative_unique box ks used b f g one two = unique_by box ks used b f g (int_le (peak (all_used box ks used)) (term_low box b)) (some_negative box ks) (always_fits box ks used b) (all_fixed box ks b) one two
