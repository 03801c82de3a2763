-- Nodes: what propagation makes of one, and what settles it.
use Rattle.std.proofs.Common.{◌≡◌, ℕ, List, [], length, sym, subst, ◌∙◌, arith, ℤ, ◌<ℤ◌}
use Rattle.std.specs.Prelude.{slice_index_or, All}
use Rattle.std.proofs.lemmas.Int.{ints, by_lt_z}
use Rattle.std.proofs.lemmas.List.Elements.{Contains-get_or}
use Rattle.fzn_model.specs.declared.term.Term.{Term}
use Rattle.fzn_model.specs.declared.term.Term.TheVariants as term
use Rattle.fzn_model.specs.declared.base.Base.{Base}
use Rattle.fzn_model.specs.declared.base.Base.TheVariants as base
use Rattle.fzn_model.specs.declared.con.Con.{Con}
use Rattle.fzn_model.specs.declared.con.Con.TheVariants as con
use Rattle.fzn_model.specs.Parts.{Parts}
use Rattle.fzn_model.specs.Sets.{IsIn, IsWithin}
use Rattle.fzn_model.specs.Solutions.{Solves, MeetsAll, cost}
use Rattle.fzn_model.specs.Limits.{IsModel, IsBit, IsTruth, BaseTruths, ConTruths, ConInLimits, GoalInLimits, of_model}
use Rattle.fzn_model.specs.Boxes.{IsBox, domain_at}
use Rattle.fzn_model.specs.Booleans.{IsBoolean, BaseBooleans, ConBooleans, FitsBox}
use Rattle.fzn_model.specs.Rests.{LiesWithin}
use Rattle.fzn_model.proofs.Wider.{con_of_call}
use Rattle.dom_store.specs.Stores.{Stored}
use Rattle.dom_store.specs.Narrowing.{HasNone}
use Rattle.dom_store.proofs.Laws.{in_before}
use Rattle.prop_engine.specs.Plans.{Plan, plan_of, IsFor}
use Rattle.prop_engine.specs.Fixing.{Cheaper, Fixes, FixedMeans}
use Rattle.prop_engine.specs.declared.fixed.Fixed.{Fixed}
use Rattle.prop_engine.specs.declared.fixed.Fixed.TheVariants as fixed
use Rattle.search_core.specs.declared.decision.Decision.{Decision}
use Rattle.search_core.specs.Paths.{meets, Settled}
use Rattle.explorer.specs.Nodes.{IsNode}

-- ---- a box within the model's domains has the model's Booleans
bit_of : (runs : List (ℤ × ℤ)) (z : ℤ) → All (λ (run : ℤ × ℤ). IsBit run.0 × IsBit run.1) runs → IsIn runs z → IsBit z
unfolding IsIn IsWithin
bit_of runs z all (k, run, below, is, w) =
    let here : IsBit run.0 × IsBit run.1 = subst (λ (x : ℤ × ℤ). IsBit x.0 × IsBit x.1) is (all k run below) in
    (omega (arith, ints, here.0.0, w.0), omega (arith, ints, here.1.1, w.1))

module _ (m : Parts) (box : List (List ℤ)) (lies : LiesWithin box m) where
  boolean_in : (t : Term) → IsTruth m.doms t → IsBoolean box t
  boolean_in (term.Const z) h = h
  boolean_in (term.Var k) h = λ j d l. bit_of (slice_index_or m.doms k []) (slice_index_or (domain_at box k) j d) h (lies.within k (slice_index_or (domain_at box k) j d) (Contains-get_or (domain_at box k) j d l))

  booleans_in : (ts : List Term) → All (IsTruth m.doms) ts → All (IsBoolean box) ts
  booleans_in ts all k d h = boolean_in (slice_index_or ts k d) (all k d h)

  base_in : (b : Base) → BaseTruths m.doms b → BaseBooleans box b
  base_in (base.Lin l) h = tt
  base_in (base.Clause c) h = (booleans_in c.pos h.0, booleans_in c.neg h.1)
  base_in (base.Member k) h = tt

  con_in : (c : Con) → ConTruths m.doms c → ConBooleans box c
  con_in (con.Base b) h = base_in b h
  con_in (con.Reif b r f) h = (base_in b h.0, boolean_in r h.1)
  con_in c h = tt

  fits : IsModel m → All (FitsBox box) m.cons
  fits model k d h = record {
    kept = con_of_call (length box) (slice_index_or m.cons k d) (subst (λ (n : ℕ). ConInLimits of_model n (slice_index_or m.cons k d)) (sym lies.count) (model.cons k d h));
    booleans = con_in (slice_index_or m.cons k d) (model.truths k d h);
  }

-- the model's propagators are for the box
pub is_for : (m : Parts) (p : List Decision) (box : List (List ℤ)) (b : ℤ) (plan : Plan) → IsModel m → IsNode m p box b → plan ≡ plan_of m → IsFor box plan
is_for m p box b plan model node is =
    let own : IsFor box (plan_of m) = record {
      cons = fits m box node.within model;
      goal = subst (λ (n : ℕ). GoalInLimits n m.goal) (sym node.within.count) model.goal;
    } in
    subst (IsFor box) (sym is) own

-- ---- propagation
cheaper : (m : Parts) (plan : Plan) (b : ℤ) (θ : List ℤ) → plan ≡ plan_of m → Solves m θ → cost m θ <ℤ b → Cheaper plan b θ
unfolding MeetsAll
cheaper m plan b θ is solves less =
    let own : Cheaper (plan_of m) b θ = record { holds = solves.constraints; cheaper = less } in
    subst (λ (x : Plan). Cheaper x b θ) (sym is) own

pub fixed_node : (m : Parts) (p : List Decision) (plan : Plan) (b : ℤ) (old new : Stored) → plan ≡ plan_of m → IsNode m p old.box b → Fixes plan b old new → IsBox new.box → IsNode m p new.box b
fixed_node m p plan b old new is node fixes domains = record {
  keeps = λ θ solves meets less. fixes.loses.kept θ (node.keeps θ solves meets less) (cheaper m plan b θ is solves less);
  lies = λ θ within. node.lies θ (in_before (Cheaper plan b) old.box new.box θ fixes.loses within);
  within = record {
    count = fixes.loses.count ∙ node.within.count;
    within = λ k z has. node.within.within k z (fixes.loses.within k z has);
  };
  domains = domains;
}

pub none_settled : (m : Parts) (p : List Decision) (plan : Plan) (b : ℤ) (box : List (List ℤ)) → plan ≡ plan_of m → IsNode m p box b → HasNone (Cheaper plan b) box → Settled m p b
unfolding Settled
none_settled m p plan b box is node none θ solves meets =
    by_lt_z (cost m θ) b (λ less. absurd (none θ (node.keeps θ solves meets less) (cheaper m plan b θ is solves less))) (λ most. most)

pub means_settled : (m : Parts) (p : List Decision) (plan : Plan) (b : ℤ) (old new : List (List ℤ)) (answer : Fixed) → plan ≡ plan_of m → IsNode m p old b → FixedMeans plan b old new answer → answer ≡ fixed.Empty → Settled m p b
means_settled m p plan b old new fixed.Empty is node means e = none_settled m p plan b old is node means
means_settled m p plan b old new fixed.Kept is node means e = absurd (cc)
means_settled m p plan b old new fixed.EarlyStop is node means e = absurd (cc)
