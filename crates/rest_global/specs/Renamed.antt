-- A constraint with each of its terms replaced.
use Rattle.std.specs.Prelude.{List, map, ℤ}
use Rattle.fzn_model.specs.declared.term.Term.{Term}
use Rattle.fzn_model.specs.declared.base.Base.{Base}
use Rattle.fzn_model.specs.declared.base.Base.TheVariants as base
use Rattle.fzn_model.specs.declared.cumulative.CumTask.{CumTask}
use Rattle.fzn_model.specs.declared.con.Con.{Con}
use Rattle.fzn_model.specs.declared.con.Con.TheVariants as con

module _ (to : Term → Term) where
  unfoldable pub terms_by : List Term → List Term
  terms_by ts = map to ts

  unfoldable pub linear_terms_by : List (ℤ × Term) → List (ℤ × Term)
  linear_terms_by ps = map (λ p. (p.0, to p.1)) ps

  abbrev pub task_by : CumTask → CumTask
  task_by k = record { s = to k.s; d = to k.d; r = to k.r }

  unfoldable pub tasks_by : List CumTask → List CumTask
  tasks_by ks = map task_by ks

  abbrev pub base_by : Base → Base
  base_by (base.Lin l) = base.Lin (record { rel = l.rel; terms = linear_terms_by l.terms; r = l.r })
  base_by (base.Clause c) = base.Clause (record { pos = terms_by c.pos; neg = terms_by c.neg })
  base_by (base.Member m) = base.Member (record { x = to m.x; set = m.set })

  abbrev pub con_by : Con → Con
  con_by (con.Base b) = con.Base (base_by b)
  con_by (con.Reif b r f) = con.Reif (base_by b) (to r) f
  con_by (con.Times a b c) = con.Times (to a) (to b) (to c)
  con_by (con.Abs a b) = con.Abs (to a) (to b)
  con_by (con.Div a b c) = con.Div (to a) (to b) (to c)
  con_by (con.Mod a b c) = con.Mod (to a) (to b) (to c)
  con_by (con.Greatest m xs) = con.Greatest (to m) (terms_by xs)
  con_by (con.Least m xs) = con.Least (to m) (terms_by xs)
  con_by (con.Element i xs c) = con.Element (to i) (terms_by xs) (to c)
  con_by (con.AllDiffExcept xs taken) = con.AllDiffExcept (terms_by xs) taken
  con_by (con.CumulUsed tasks used b) = con.CumulUsed (tasks_by tasks) used (to b)
  con_by (con.Table xs rows) = con.Table (terms_by xs) rows
