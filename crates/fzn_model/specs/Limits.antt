-- What the type of a model keeps, and what calls with a constraint require.
use Rattle.std.specs.Prelude.{◌≡◌, ℕ, ◌*◌, ◌<◌, ◌≤◌, ◌^◌, List, [], length, slice_index_or, ℤ, pos, ◌-ℤ◌, ◌≤ℤ◌, ◌<ℤ◌, All, unsigned_abs, ⊤}
use Rattle.fzn_model.specs.declared.term.Term.{Term}
use Rattle.fzn_model.specs.declared.term.Term.TheVariants as term
use Rattle.fzn_model.specs.declared.lin.Lin.{Lin}
use Rattle.fzn_model.specs.declared.clause.Clause.{Clause}
use Rattle.fzn_model.specs.declared.member.Member.{Member}
use Rattle.fzn_model.specs.declared.base.Base.{Base}
use Rattle.fzn_model.specs.declared.base.Base.TheVariants as base
use Rattle.fzn_model.specs.declared.cumulative.CumTask.{CumTask}
use Rattle.fzn_model.specs.declared.cumulative.Used.{Used}
use Rattle.fzn_model.specs.declared.con.Con.{Con}
use Rattle.fzn_model.specs.declared.con.Con.TheVariants as con
use Rattle.fzn_model.specs.declared.goal.Goal.{Goal}
use Rattle.fzn_model.specs.declared.goal.Goal.TheVariants as goal
use Rattle.fzn_model.specs.declared.out.Out.{Out}
use Rattle.fzn_model.specs.declared.pick.Pick.{Pick}
use Rattle.fzn_model.specs.Sets.{low_of, high_of}
use Rattle.fzn_model.specs.Parts.{Parts}
use Rattle.fzn_model.specs.Values.{largest}
use Rattle.fzn_model.specs.Shapes.{array_size}

abbrev pub IsValue : ℤ → Type 0
IsValue z = unsigned_abs z ≤ largest

-- a value that a call is given
abbrev pub IsNear : ℤ → Type 0
IsNear z = unsigned_abs z ≤ 2 * largest

-- The limits on numbers and lists that are no constants of the file. A constraint in a model keeps those of a model; a
-- constraint that a call is given need only keep those of a call, so that residual problems have room.
pub record Limits : Type 0 where
  pub number : ℕ
  pub moment : ℕ
  pub used : ℕ
  pub taken : ℕ

abbrev pub of_model : Limits
of_model = record { number = largest; moment = largest; used = 2000000; taken = 2000000 }

abbrev pub of_call : Limits
of_call = record { number = 2 ^ 100; moment = 2 * largest; used = 8000000; taken = 4000000 }

-- a term over n variables
abbrev pub TermIn : ℕ → Term → Type 0
TermIn n (term.Const z) = IsValue z
TermIn n (term.Var k) = k < n

pub record TermsIn (n : ℕ) (ts : List Term) : Type 0 where
  pub count : length ts ≤ 2000000
  pub terms : All (TermIn n) ts

abbrev pub AreValues : List ℤ → Type 0
AreValues zs = All IsValue zs

pub record SumInLimits (n : ℕ) (ts : List (ℤ × Term)) : Type 0 where
  pub count : length ts ≤ 2000000
  pub factors : All (λ t. IsValue t.0) ts
  pub terms : All (λ t. TermIn n t.1) ts

pub record LinInLimits (lim : Limits) (n : ℕ) (l : Lin) : Type 0 where
  pub sum : SumInLimits n l.terms
  pub constant : unsigned_abs l.r ≤ lim.number

pub record ClauseInLimits (n : ℕ) (c : Clause) : Type 0 where
  pub pos : TermsIn n c.pos
  pub neg : TermsIn n c.neg

pub record MemberInLimits (n : ℕ) (m : Member) : Type 0 where
  pub x : TermIn n m.x
  pub set : All (λ run. IsValue run.0 × IsValue run.1) m.set

abbrev pub BaseInLimits : Limits → ℕ → Base → Type 0
BaseInLimits lim n (base.Lin l) = LinInLimits lim n l
BaseInLimits lim n (base.Clause c) = ClauseInLimits n c
BaseInLimits lim n (base.Member m) = MemberInLimits n m

pub record TasksInLimits (n : ℕ) (tasks : List CumTask) : Type 0 where
  pub count : length tasks ≤ 2000000
  pub terms : All (λ k. TermIn n k.s × TermIn n k.d × TermIn n k.r) tasks

-- no amount is negative
pub record UsedInLimits (lim : Limits) (used : List Used) : Type 0 where
  pub count : length used ≤ lim.used
  pub moments : All (λ u. (unsigned_abs u.from ≤ lim.moment) × (unsigned_abs u.to ≤ lim.moment)) used
  pub amounts : All (λ u. (pos 0 ≤ℤ u.amount) × (unsigned_abs u.amount ≤ lim.number)) used

-- one term or more
pub record ListInLimits (n : ℕ) (ts : List Term) : Type 0 where
  pub some : 0 < length ts
  pub terms : TermsIn n ts

pub record TakenInLimits (lim : Limits) (taken : List ℤ) : Type 0 where
  pub count : length taken ≤ lim.taken
  pub values : AreValues taken

-- whole rows
pub record RowsInLimits (n : ℕ) (xs : List Term) (rows : List ℤ) : Type 0 where
  pub columns : ListInLimits n xs
  pub count : length rows ≤ 2000000
  pub whole : (k : ℕ) × (length rows ≡ k * length xs)
  pub values : AreValues rows

-- a constraint over n variables
abbrev pub ConInLimits : Limits → ℕ → Con → Type 0
ConInLimits lim n (con.Base b) = BaseInLimits lim n b
ConInLimits lim n (con.Reif b r f) = BaseInLimits lim n b × TermIn n r
ConInLimits lim n (con.Times a b c) = TermIn n a × TermIn n b × TermIn n c
ConInLimits lim n (con.Abs a b) = TermIn n a × TermIn n b
ConInLimits lim n (con.Div a b c) = TermIn n a × TermIn n b × TermIn n c
ConInLimits lim n (con.Mod a b c) = TermIn n a × TermIn n b × TermIn n c
ConInLimits lim n (con.Greatest m xs) = TermIn n m × ListInLimits n xs
ConInLimits lim n (con.Least m xs) = TermIn n m × ListInLimits n xs
ConInLimits lim n (con.Element i xs c) = TermIn n i × TermsIn n xs × TermIn n c
ConInLimits lim n (con.AllDiffExcept xs taken) = TermsIn n xs × TakenInLimits lim taken
ConInLimits lim n (con.CumulUsed tasks used b) = TasksInLimits n tasks × UsedInLimits lim used × TermIn n b
ConInLimits lim n (con.Table xs rows) = RowsInLimits n xs rows

-- 0 or 1
abbrev pub IsBit : ℤ → Type 0
IsBit z = (pos 0 ≤ℤ z) × (z ≤ℤ pos 1)

-- a Boolean: 0, 1, or a variable whose domain lies within 0..1
abbrev pub IsTruth : List (List (ℤ × ℤ)) → Term → Type 0
IsTruth ds (term.Const z) = IsBit z
IsTruth ds (term.Var k) = All (λ run. IsBit run.0 × IsBit run.1) (slice_index_or ds k [])

abbrev pub BaseTruths : List (List (ℤ × ℤ)) → Base → Type 0
BaseTruths ds (base.Lin l) = ⊤
BaseTruths ds (base.Clause c) = All (IsTruth ds) c.pos × All (IsTruth ds) c.neg
BaseTruths ds (base.Member m) = ⊤

-- the literals of clauses and the term of a reified constraint are Booleans
abbrev pub ConTruths : List (List (ℤ × ℤ)) → Con → Type 0
ConTruths ds (con.Base b) = BaseTruths ds b
ConTruths ds (con.Reif b r f) = BaseTruths ds b × IsTruth ds r
ConTruths ds (con.Times a b c) = ⊤
ConTruths ds (con.Abs a b) = ⊤
ConTruths ds (con.Div a b c) = ⊤
ConTruths ds (con.Mod a b c) = ⊤
ConTruths ds (con.Greatest m xs) = ⊤
ConTruths ds (con.Least m xs) = ⊤
ConTruths ds (con.Element i xs c) = ⊤
ConTruths ds (con.AllDiffExcept xs taken) = ⊤
ConTruths ds (con.CumulUsed tasks used b) = ⊤
ConTruths ds (con.Table xs rows) = ⊤

-- Within the values; a domain with a gap has a hull of at most 1,024 numbers.
pub record DomainInLimits (d : List (ℤ × ℤ)) : Type 0 where
  pub values : All (λ run. IsValue run.0 × IsValue run.1) d
  pub narrow : 1 < length d → (high_of d -ℤ low_of d) <ℤ pos 1024

abbrev pub GoalInLimits : ℕ → Goal → Type 0
GoalInLimits n goal.Satisfy = ⊤
GoalInLimits n (goal.Minimise t) = TermIn n t
GoalInLimits n (goal.Maximise t) = TermIn n t

-- no dimensions and one term, or 1 to 6 dimensions whose sizes multiply to the number of terms
abbrev pub IsShape : List (ℤ × ℤ) → ℕ → Type 0
IsShape ds count = (length ds ≤ 6) × (array_size ds ≡ count)

pub record OutInLimits (n : ℕ) (o : Out) : Type 0 where
  pub terms : TermsIn n o.terms
  pub ranges : All (λ range. IsValue range.0 × IsValue range.1) o.dims
  pub shape : IsShape o.dims (length o.terms)

-- the terms that an annotation chooses are variables of the model, or constants
abbrev pub PickInLimits : ℕ → Pick → Type 0
PickInLimits n p = All (TermIn n) p.vars

-- The limits of a model and of its parts.
pub record IsModel (m : Parts) : Type 0 where
  pub variables : length m.doms ≤ 100000
  pub domains : All DomainInLimits m.doms
  pub constraints : length m.cons ≤ 400000
  pub cons : All (ConInLimits of_model (length m.doms)) m.cons
  pub truths : All (ConTruths m.doms) m.cons
  pub goal : GoalInLimits (length m.doms) m.goal
  pub outs : All (OutInLimits (length m.doms)) m.outs
  pub order : All (PickInLimits (length m.doms)) m.order
