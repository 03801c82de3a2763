-- What loops and proofs use, and the definition of reading doesn't: which tokens a reader stands for, and what the values
-- of reading keep, within the limits of a model and over the domains so far.
use Rattle.std.specs.Prelude.{◌≡◌, ℕ, ◌+◌, ◌*◌, ◌≤◌, List, [], ◌∷◌, true, length, ℤ, pos, All, IfSome, ⊤}
use Rattle.fzn_lexer.specs.Spots.{Spot}
use Rattle.fzn_lexer.specs.declared.seen.Seen.{Seen}
use Rattle.fzn_lexer.specs.declared.seen.Seen.TheVariants.{Known, End, Bad}
use Rattle.fzn_model.specs.declared.term.Term.{Term}
use Rattle.fzn_model.specs.declared.term.Term.TheVariants.{Const, Var}
use Rattle.fzn_model.specs.declared.con.Con.{Con}
use Rattle.fzn_model.specs.Shapes.{array_size}
use Rattle.fzn_model.specs.Limits.{IsValue, TermIn, TermsIn, IsTruth, ConInLimits, ConTruths, DomainInLimits, OutInLimits, GoalInLimits, of_model}
use Rattle.fzn_builtin.specs.declared.arg.Arg.{Arg}
use Rattle.fzn_builtin.specs.declared.needs.Need.{Need}
use Rattle.fzn_builtin.specs.Arguments.{Fits, FitsNeed}
use Rattle.fzn_builtin.specs.Limits.{ArgKept, ArgTruth}
use Rattle.fzn_reader.specs.declared.decl.Decl.{Decl}
use Rattle.fzn_reader.specs.declared.decl.Decl.TheVariants as decl
use Rattle.fzn_reader.specs.declared.scalar.Scalar.{Scalar}
use Rattle.fzn_reader.specs.declared.scalar.Scalar.TheVariants.{IntConst, IntTerm, BoolConst, BoolTerm}
use Rattle.fzn_reader.specs.declared.var_type.VarType.{VarType}
use Rattle.fzn_reader.specs.Constraints.{Args}
use Rattle.fzn_reader.specs.Drafts.{Stated}

-- a reader's tokens: the one in hand, and what the lexer has behind it
abbrev pub in_hand : Seen → Spot → List Spot → List Spot
in_hand (Known k) s ss = s ∷ ss
in_hand End s ss = s ∷ []
in_hand Bad s ss = s ∷ []

-- each end of a run is within the values of a model
abbrev pub SetKept : List (ℤ × ℤ) → Type 0
SetKept set = All (λ run. IsValue run.0 × IsValue run.1) set

-- the type of a variable: a set within the values, 0..1 for a bool
pub record IsVarType (ty : VarType) : Type 0 where
  pub set : SetKept ty.set
  pub truth : ty.truth ≡ true → ty.set ≡ (pos 0, pos 1) ∷ []

-- a place for constants takes no variable
abbrev pub IsConstant : Term → Type 0
IsConstant (Const z) = ⊤
IsConstant (Var k) = ⊥

abbrev pub FitsScalar : Scalar → List (List (ℤ × ℤ)) → Term → Type 0
FitsScalar IntConst ds t = IsConstant t
FitsScalar IntTerm ds t = ⊤
FitsScalar BoolConst ds t = IsConstant t × IsTruth ds t
FitsScalar BoolTerm ds t = IsTruth ds t

-- a term over the domains, of the type needed
pub record ScalarKept (ds : List (List (ℤ × ℤ))) (s : Scalar) (t : Term) : Type 0 where
  pub within : TermIn (length ds) t
  pub fits : FitsScalar s ds t

-- terms of the type needed, within the limit
pub record ListInLimits (used : ℕ) (ds : List (List (ℤ × ℤ))) (s : Scalar) (terms : List Term) : Type 0 where
  pub count : used + length terms ≤ 2000000
  pub each : All (ScalarKept ds s) terms

-- index ranges of an array of so many elements
pub record AreRanges (count : ℕ) (ranges : List (ℤ × ℤ)) : Type 0 where
  pub values : All (λ range. IsValue range.0 × IsValue range.1) ranges
  pub few : length ranges ≤ 6
  pub size : array_size ranges ≡ count

-- an argument of the kind needed, over the domains
pub record ArgFits (ds : List (List (ℤ × ℤ))) (n : Need) (a : Arg) : Type 0 where
  pub fits : FitsNeed n a
  pub kept : ArgKept (length ds) a
  pub truth : ArgTruth ds a

-- what the arguments so far keep: they fit their needs, are over the domains, and are within the limit
pub record ArgsKept (ds : List (List (ℤ × ℤ))) (needs : List Need) (args : Args) : Type 0 where
  pub fits : Fits needs args.0
  pub kept : All (ArgKept (length ds)) args.0
  pub truths : All (ArgTruth ds) args.0
  pub used : args.1 ≤ 2000000

-- a bool over the domains
pub record TruthIn (ds : List (List (ℤ × ℤ))) (t : Term) : Type 0 where
  pub within : TermIn (length ds) t
  pub truth : IsTruth ds t

pub record TruthsIn (ds : List (List (ℤ × ℤ))) (ts : List Term) : Type 0 where
  pub count : length ts ≤ 2000000
  pub each : All (TruthIn ds) ts

-- what a name stands for, over the domains
abbrev pub DeclKept : List (List (ℤ × ℤ)) → Decl → Type 0
DeclKept ds (decl.Int t) = TermIn (length ds) t
DeclKept ds (decl.Bool t) = TruthIn ds t
DeclKept ds (decl.Set set) = SetKept set
DeclKept ds (decl.Ints parameters ts) = TermsIn (length ds) ts
DeclKept ds (decl.Bools parameters ts) = TruthsIn ds ts
DeclKept ds decl.Sets = ⊤

pub record EntryKept (ds : List (List (ℤ × ℤ))) (e : List ℕ × Decl) : Type 0 where
  pub decl : DeclKept ds e.1

-- a constraint over the domains
pub record ConFits (ds : List (List (ℤ × ℤ))) (c : Con) : Type 0 where
  pub kept : ConInLimits of_model (length ds) c
  pub truths : ConTruths ds c

-- The limits, and that each part is over the variables so far. A variable has at most two constraints of its own.
pub record IsDraft (d : Stated) : Type 0 where
  pub vars : length d.doms ≤ 100000
  pub items : d.items ≤ 200000
  pub elements : d.elements ≤ 2000000
  pub count : length d.cons ≤ d.items + 2 * length d.doms
  pub domains : All DomainInLimits d.doms
  pub names : All (EntryKept d.doms) d.names
  pub cons : All (ConFits d.doms) d.cons
  pub outs : All (OutInLimits (length d.doms)) d.outs
  pub goal : IfSome d.goal (GoalInLimits (length d.doms))
