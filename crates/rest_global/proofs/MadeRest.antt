-- The rest of a box of its parts, as far as a limit allows.
use Rattle.std.proofs.Common.{◌≡◌, ℕ, ◌+◌, ◌*◌, ◌<◌, ◌≤◌, List, length, refl, sym, subst, ◌∙◌, ap, arith, ℤ, inl, inr}
use Rattle.std.specs.Prelude.{All}
use Rattle.fzn_model.specs.declared.con.Con.{Con}
use Rattle.fzn_model.specs.Parts.{Parts}
use Rattle.fzn_model.specs.Limits.{IsModel}
use Rattle.std.proofs.lemmas.List.{length-map}
use Rattle.fzn_model.specs.Grouping.{runs_of}
use Rattle.fzn_model.specs.Boxes.{IsBox, domain_at}
use Rattle.fzn_model.specs.Rests.{RestParts, IsRest, LiesWithin}
use Rattle.rest_key.specs.Counts.{IsNarrow, domains_count}
use Rattle.rest_key.specs.Words.{words_of}
use Rattle.rest_key.proofs.WordCounts.{words_count, domains_narrow}
use Rattle.rest_global.specs.Projection.{rest_variables, cost_left, cost_offset, IsRestOfBox}
use Rattle.rest_global.specs.Projected.{IsProjected, IsOffset, MeansRest}
use Rattle.rest_global.specs.Making.{AreCounted}
use Rattle.rest_global.specs.declared.labelled.Labelled.{Labelled}
use Rattle.rest_global.specs.declared.projected.Projected.{Projected}
use Rattle.rest_global.specs.declared.projected.Projected.TheVariants as projected
use Rattle.std.proofs.lemmas.Bool.{cases_lt}
use Rattle.rest_global.proofs.ModelOverBox.{model_goal}
use Rattle.rest_global.proofs.RestKept.{rest_domains, rest_kept, rest_is, offset_kept, variables_few, domains_kept, cost_kept}
use Rattle.rest_global.proofs.RestLaw.{rest_means}

module _ (box : List (List ℤ)) (m : Parts) (well_formed : IsBox box) (model : IsModel m) (lies : LiesWithin box m) (doms : List (List (ℤ × ℤ))) (cost : List (ℤ × ℕ)) (left : Labelled) (limit : ℕ)
    (domains : doms ≡ rest_domains box) (goal : cost ≡ cost_left box m.goal) (counted : AreCounted box m.cons (3 + domains_count doms + 2 * length cost) limit left) where
  parts : List Con → List ℕ → RestParts
  parts cons labels = record { doms = doms; cost = cost; cons = cons; labels = labels }

  -- the whole rest, whether it is kept or not
  whole_kept : IsRest (parts counted.all counted.names)
  unfolding parts
  whole_kept = rest_kept box m (parts counted.all counted.names) well_formed model lies domains counted.is goal

  whole_words : left.words ≡ length (words_of (parts counted.all counted.names))
  unfolding parts
  whole_words = counted.words ∙ sym (words_count (parts counted.all counted.names) whole_kept)

  whole_is : (below : ℤ) (offset : ℤ) → offset ≡ cost_offset box m.goal → IsRestOfBox box m below (parts counted.all counted.names) offset
  unfolding parts
  whole_is below offset constant = rest_is box m below (parts counted.all counted.names) offset domains counted.is goal constant

  made_whole : left.words ≤ limit → parts left.cons left.labels ≡ parts counted.all counted.names
  made_whole few = let both = counted.kept few in ap (λ (cs : List Con). parts cs left.labels) both.0 ∙ ap (λ (ls : List ℕ). parts counted.all ls) both.1

  pub made_kept : left.words ≤ limit → IsRest (record { doms = doms; cost = cost; cons = left.cons; labels = left.labels })
  unfolding parts
  made_kept few = subst IsRest (sym (made_whole few)) whole_kept

  pub projected_is : (below : ℤ) (offset : ℤ) (answer : Projected) → offset ≡ cost_offset box m.goal → (left.words ≤ limit → answer ≡ projected.Whole (record { doms = doms; cost = cost; cons = left.cons; labels = left.labels }) offset) → (limit < left.words → answer ≡ projected.Wide (record { words = left.words; limit = limit }))
      → IsProjected box m below limit answer
  unfolding parts
  projected_is below offset answer constant if_few if_many = elim (cases_lt limit left.words) [
    | inl many ↦ rw (if_many many) (record { rest = parts counted.all counted.names; offset = offset; is = whole_is below offset constant; words = whole_words; more = many; bound = refl })
    | inr few ↦ rw (if_few few) (
      subst (λ (r : RestParts). IsRestOfBox box m below r offset) (sym (made_whole few)) (whole_is below offset constant),
      subst (λ (r : RestParts). length (words_of r) ≤ limit) (sym (made_whole few)) (let same = whole_words in omega (arith, same, few)),
    )
  ]

-- what a projection means
pub projected_means : (box : List (List ℤ)) (m : Parts) (below : ℤ) (limit : ℕ) (answer : Projected) → IsBox box → IsModel m → LiesWithin box m → IsProjected box m below limit answer → MeansRest box m below answer
projected_means box m below limit (projected.Whole r offset) well_formed model lies is = (
  rest_means box m below r offset well_formed model lies is.0,
  subst IsOffset (sym is.0.constant) (offset_kept box m.goal well_formed (model_goal box m model lies)),
)
projected_means box m below limit (projected.Wide w) well_formed model lies is = tt

-- ---- what the count asks for
pub domains_few : (box : List (List ℤ)) (m : Parts) (doms : List (List (ℤ × ℤ))) → IsModel m → LiesWithin box m → doms ≡ rest_domains box → length doms ≤ 100000
domains_few box m doms model lies is =
    let count = ap (length {A = List (ℤ × ℤ)}) is ∙ length-map (rest_variables box) (λ k. runs_of (domain_at box k)) in
    omega (arith, count, variables_few box, lies.count, model.variables)

pub narrow_domains : (box : List (List ℤ)) (doms : List (List (ℤ × ℤ))) → IsBox box → doms ≡ rest_domains box → All IsNarrow doms
narrow_domains box doms well_formed is = rw is (domains_narrow (rest_domains box) (domains_kept box well_formed))

pub cost_short : (box : List (List ℤ)) (m : Parts) (cost : List (ℤ × ℕ)) → IsBox box → IsModel m → LiesWithin box m → cost ≡ cost_left box m.goal → length cost ≤ 2000000
cost_short box m cost well_formed model lies is = rw is ((cost_kept box m.goal well_formed (model_goal box m model lies)).count)
