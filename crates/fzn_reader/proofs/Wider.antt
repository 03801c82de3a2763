-- What holds over the domains holds over the domains with one more.
use Rattle.std.proofs.Common.{◌<◌, List, [], ◌∷◌, ◌++◌, length, get_or, sym, subst, Some, None, Option, arith, ℤ}
use Rattle.std.specs.Prelude.{All, IfSome}
use Rattle.std.proofs.lemmas.List.{length_push, get_or_append_left}
use Rattle.fzn_model.specs.declared.term.Term.{Term}
use Rattle.fzn_model.specs.declared.term.Term.TheVariants.{Const, Var}
use Rattle.fzn_model.specs.declared.con.Con.{Con}
use Rattle.fzn_model.specs.declared.con.Con.TheVariants as con
use Rattle.fzn_model.specs.declared.base.Base.{Base}
use Rattle.fzn_model.specs.declared.base.Base.TheVariants as base
use Rattle.fzn_model.specs.declared.out.Out.{Out}
use Rattle.fzn_model.specs.declared.goal.Goal.{Goal}
use Rattle.fzn_model.specs.declared.goal.Goal.TheVariants as goal
use Rattle.fzn_model.specs.Limits.{TermIn, TermsIn, SumInLimits, ListInLimits, ConInLimits, BaseInLimits, BaseTruths, ConTruths, OutInLimits, GoalInLimits, IsTruth, IsBit, of_model}
use Rattle.fzn_reader.specs.declared.decl.Decl.{Decl}
use Rattle.fzn_reader.specs.declared.decl.Decl.TheVariants as decl
use Rattle.fzn_reader.specs.Names.{Names}
use Rattle.fzn_reader.specs.Invariants.{TruthIn, DeclKept, EntryKept, ConFits}

module _ (ds : List (List (ℤ × ℤ))) (d : List (ℤ × ℤ)) where
  abbrev more : List (List (ℤ × ℤ))
  more = ds ++ d ∷ []

  pub longer : length ds < length more
  longer = omega (arith, length_push ds d)

  term_wider : (t : Term) → TermIn (length ds) t → TermIn (length more) t
  term_wider (Const z) p = p
  term_wider (Var k) p = let l : length ds < length more = longer in omega arith

  terms_wider : (ts : List Term) → TermsIn (length ds) ts → TermsIn (length more) ts
  terms_wider ts p = record { count = p.count; terms = λ k t h. term_wider (get_or ts k t) (p.terms k t h) }

  is_truth_wider : (t : Term) → TermIn (length ds) t → IsTruth ds t → IsTruth more t
  is_truth_wider (Const z) w p = p
  is_truth_wider (Var k) w p = subst (λ (dom : List (ℤ × ℤ)). All (λ run. IsBit run.0 × IsBit run.1) dom) (sym (get_or_append_left ds (d ∷ []) [] k w)) p

  truth_wider : (t : Term) → TruthIn ds t → TruthIn more t
  truth_wider t p = record { within = term_wider t p.within; truth = is_truth_wider t p.within p.truth }

  are_truths_wider : (ts : List Term) → TermsIn (length ds) ts → All (IsTruth ds) ts → All (IsTruth more) ts
  are_truths_wider ts w p k t h = is_truth_wider (get_or ts k t) (w.terms k t h) (p k t h)

  sum_wider : (ts : List (ℤ × Term)) → SumInLimits (length ds) ts → SumInLimits (length more) ts
  sum_wider ts p = record { count = p.count; factors = p.factors; terms = λ k t h. term_wider (get_or ts k t).1 (p.terms k t h) }

  list_wider : (ts : List Term) → ListInLimits (length ds) ts → ListInLimits (length more) ts
  list_wider ts p = record { some = p.some; terms = terms_wider ts p.terms }

  base_wider : (b : Base) → BaseInLimits of_model (length ds) b → BaseInLimits of_model (length more) b
  base_wider (base.Lin l) p = record { sum = sum_wider l.terms p.sum; constant = p.constant }
  base_wider (base.Clause c) p = record { pos = terms_wider c.pos p.pos; neg = terms_wider c.neg p.neg }
  base_wider (base.Member m) p = record { x = term_wider m.x p.x; set = p.set }

  con_wider : (c : Con) → ConInLimits of_model (length ds) c → ConInLimits of_model (length more) c
  con_wider (con.Base b) p = base_wider b p
  con_wider (con.Reif b r f) p = (base_wider b p.0, term_wider r p.1)
  con_wider (con.Times a b c) p = (term_wider a p.0, term_wider b p.1, term_wider c p.2)
  con_wider (con.Abs a b) p = (term_wider a p.0, term_wider b p.1)
  con_wider (con.Div a b c) p = (term_wider a p.0, term_wider b p.1, term_wider c p.2)
  con_wider (con.Mod a b c) p = (term_wider a p.0, term_wider b p.1, term_wider c p.2)
  con_wider (con.Greatest m xs) p = (term_wider m p.0, list_wider xs p.1)
  con_wider (con.Least m xs) p = (term_wider m p.0, list_wider xs p.1)
  con_wider (con.Element i xs c) p = (term_wider i p.0, terms_wider xs p.1, term_wider c p.2)
  con_wider (con.AllDiffExcept xs taken) p = (terms_wider xs p.0, p.1)
  con_wider (con.CumulUsed tasks used b) p = (record { count = p.0.count; terms = λ k t h. let q = p.0.terms k t h in (term_wider (get_or tasks k t).s q.0, term_wider (get_or tasks k t).d q.1, term_wider (get_or tasks k t).r q.2) }, p.1, term_wider b p.2)
  con_wider (con.Table xs rows) p = record { columns = list_wider xs p.columns; count = p.count; whole = p.whole; values = p.values }

  base_truths_wider : (b : Base) → BaseInLimits of_model (length ds) b → BaseTruths ds b → BaseTruths more b
  base_truths_wider (base.Clause c) w p = (are_truths_wider c.pos w.pos p.0, are_truths_wider c.neg w.neg p.1)
  base_truths_wider b w p = tt

  truths_wider : (c : Con) → ConInLimits of_model (length ds) c → ConTruths ds c → ConTruths more c
  truths_wider (con.Base b) w p = base_truths_wider b w p
  truths_wider (con.Reif b r f) w p = (base_truths_wider b w.0 p.0, is_truth_wider r w.1 p.1)
  truths_wider c w p = tt

  decl_wider : (e : Decl) → DeclKept ds e → DeclKept more e
  decl_wider (decl.Int t) p = term_wider t p
  decl_wider (decl.Bool t) p = truth_wider t p
  decl_wider (decl.Set set) p = p
  decl_wider (decl.Ints parameters ts) p = terms_wider ts p
  decl_wider (decl.Bools parameters ts) p = record { count = p.count; each = λ k t h. truth_wider (get_or ts k t) (p.each k t h) }
  decl_wider decl.Sets p = tt

  pub names_wider : (names : Names) → All (EntryKept ds) names → All (EntryKept more) names
  names_wider names p k e h = record { decl = decl_wider (get_or names k e).1 (p k e h).decl }

  pub cons_wider : (cs : List Con) → All (ConFits ds) cs → All (ConFits more) cs
  cons_wider cs p k c h = let q = p k c h in record { kept = con_wider (get_or cs k c) q.kept; truths = truths_wider (get_or cs k c) q.kept q.truths }

  pub outs_wider : (os : List Out) → All (OutInLimits (length ds)) os → All (OutInLimits (length more)) os
  outs_wider os p k o h = let q = p k o h in record { terms = terms_wider (get_or os k o).terms q.terms; ranges = q.ranges; shape = q.shape }

  pub goal_wider : (g : Option Goal) → IfSome g (GoalInLimits (length ds)) → IfSome g (GoalInLimits (length more))
  goal_wider None p = tt
  goal_wider (Some goal.Satisfy) p = tt
  goal_wider (Some (goal.Minimise t)) p = term_wider t p
  goal_wider (Some (goal.Maximise t)) p = term_wider t p
