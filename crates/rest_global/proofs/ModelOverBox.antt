-- The constraints of a model suit a box whose domains lie within the model's.
use Rattle.std.proofs.Common.{List, [], length, get_or, subst, arith, ℤ}
use Rattle.std.specs.Prelude.{All}
use Rattle.std.proofs.lemmas.Int.{ints}
use Rattle.std.proofs.lemmas.List.Elements.{All-weaker, Contains-get_or}
use Rattle.fzn_model.specs.declared.term.Term.{Term}
use Rattle.fzn_model.specs.declared.term.Term.TheVariants as term
use Rattle.fzn_model.specs.declared.base.Base.{Base}
use Rattle.fzn_model.specs.declared.base.Base.TheVariants as base
use Rattle.fzn_model.specs.declared.con.Con.{Con}
use Rattle.fzn_model.specs.declared.con.Con.TheVariants as con
use Rattle.fzn_model.specs.Sets.{IsWithin, IsIn}
use Rattle.fzn_model.specs.Parts.{Parts}
use Rattle.fzn_model.specs.Limits.{IsBit, ConInLimits, IsTruth, BaseTruths, ConTruths, GoalInLimits, IsModel, of_model}
use Rattle.fzn_model.specs.Boxes.{domain_at}
use Rattle.fzn_model.specs.Booleans.{IsBoolean, BaseBooleans, ConBooleans}
use Rattle.fzn_model.proofs.Wider.{con_of_call}
use Rattle.fzn_model.specs.Rests.{LiesWithin}
use Rattle.rest_global.specs.Making.{IsOver}

-- ---- Booleans
bit_of : (set : List (ℤ × ℤ)) (z : ℤ) → All (λ (run : ℤ × ℤ). IsBit run.0 × IsBit run.1) set → IsIn set z → IsBit z
unfolding IsIn IsWithin
bit_of set z bits (k, run, inside, is, within) =
    let ends : IsBit run.0 × IsBit run.1 = subst (λ (x : ℤ × ℤ). IsBit x.0 × IsBit x.1) is (bits k run inside) in
    (omega (arith, ints, ends, within), omega (arith, ints, ends, within))

boolean_of : (box : List (List ℤ)) (m : Parts) (t : Term) → LiesWithin box m → IsTruth m.doms t → IsBoolean box t
boolean_of box m (term.Const z) lies truth = truth
boolean_of box m (term.Var k) lies truth = λ i d inside. bit_of (get_or m.doms k []) (get_or (domain_at box k) i d) truth (lies.within k (get_or (domain_at box k) i d) (Contains-get_or (domain_at box k) i d inside))

base_booleans : (box : List (List ℤ)) (m : Parts) (b : Base) → LiesWithin box m → BaseTruths m.doms b → BaseBooleans box b
base_booleans box m (base.Clause c) lies truths = (All-weaker (IsTruth m.doms) (IsBoolean box) (λ t truth. boolean_of box m t lies truth) c.pos truths.0, All-weaker (IsTruth m.doms) (IsBoolean box) (λ t truth. boolean_of box m t lies truth) c.neg truths.1)
base_booleans box m b lies truths = tt

con_booleans : (box : List (List ℤ)) (m : Parts) (c : Con) → LiesWithin box m → ConTruths m.doms c → ConBooleans box c
con_booleans box m (con.Base b) lies truths = base_booleans box m b lies truths
con_booleans box m (con.Reif b r f) lies truths = (base_booleans box m b lies truths.0, boolean_of box m r lies truths.1)
con_booleans box m c lies truths = tt

-- ---- constraints and the goal
pub model_over : (box : List (List ℤ)) (m : Parts) → IsModel m → LiesWithin box m → All (IsOver box) m.cons
model_over box m model lies i d inside =
    let kept : ConInLimits of_model (length box) (get_or m.cons i d) = rw lies.count (model.cons i d inside) in
    record {
      fits_box = record { kept = con_of_call (length box) (get_or m.cons i d) kept; booleans = con_booleans box m (get_or m.cons i d) lies (model.truths i d inside) };
      kept = kept;
    }

pub model_goal : (box : List (List ℤ)) (m : Parts) → IsModel m → LiesWithin box m → GoalInLimits (length box) m.goal
model_goal box m model lies = rw lies.count model.goal
