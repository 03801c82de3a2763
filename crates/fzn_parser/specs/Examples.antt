-- Small files, and the models that they state, written out by hand.
use Rattle.std.specs.Prelude.{[], ◌∷◌, true, false, codes, pos, negsuc}
use Rattle.fzn_model.specs.declared.term.Term.TheVariants.{Const, Var}
use Rattle.fzn_model.specs.declared.con.Con.TheVariants.{Base, Reif}
use Rattle.fzn_model.specs.declared.base.Base.TheVariants.{Lin, Clause, Member}
use Rattle.fzn_model.specs.declared.lin.Rel.TheVariants.{Le, Eq}
use Rattle.fzn_model.specs.declared.goal.Goal.TheVariants.{Satisfy, Minimise, Maximise}
use Rattle.fzn_model.specs.declared.pick.VarBy.TheVariants.{FirstFail}
use Rattle.fzn_model.specs.declared.pick.ValAt.TheVariants.{Max}
use Rattle.fzn_parser.specs.States.{States}

-- one variable
abbrev pub Variable : Type 0
Variable = States (codes "var 1..3: x;\nsolve satisfy;\n") (record { doms = ((pos 1, pos 3) ∷ []) ∷ []; cons = []; goal = Satisfy; outs = []; order = [] })

-- a bool with an initialiser, which is an output
abbrev pub Output : Type 0
Output = States (codes "var bool: b :: output_var = true; solve satisfy;") (record {
  doms = ((pos 0, pos 1) ∷ []) ∷ [];
  cons = Base (Lin (record { rel = Eq; terms = (pos 1, Var 0) ∷ (negsuc 0, Const (pos 1)) ∷ []; r = pos 0 })) ∷ [];
  goal = Satisfy;
  outs = (record { name = codes "b"; dims = []; terms = Var 0 ∷ []; truth = true }) ∷ [];
  order = [];
})

-- a set in any order, with a gap
abbrev pub Braces : Type 0
Braces = States (codes "var {5,1,2}: x; solve minimize x;") (record { doms = ((pos 1, pos 2) ∷ (pos 5, pos 5) ∷ []) ∷ []; cons = []; goal = Minimise (Var 0); outs = []; order = [] })

-- a set with a gap that is too wide for a domain
abbrev pub Wide : Type 0
Wide = States (codes "var {1,2000}: x; solve maximize x;") (record {
  doms = ((pos 1, pos 2000) ∷ []) ∷ [];
  cons = Base (Member (record { x = Var 0; set = (pos 1, pos 1) ∷ (pos 2000, pos 2000) ∷ [] })) ∷ [];
  goal = Maximise (Var 0);
  outs = [];
  order = [];
})

-- a parameter, and a variable that is another
abbrev pub Alias : Type 0
Alias = States (codes "int: n = 3; var 0..9: x; var 0..9: y = x; constraint int_le(y,n); solve satisfy;") (record {
  doms = ((pos 0, pos 9) ∷ []) ∷ ((pos 0, pos 9) ∷ []) ∷ [];
  cons = Base (Lin (record { rel = Eq; terms = (pos 1, Var 1) ∷ (negsuc 0, Var 0) ∷ []; r = pos 0 })) ∷ Base (Lin (record { rel = Le; terms = (pos 1, Var 1) ∷ (negsuc 0, Const (pos 3)) ∷ []; r = pos 0 })) ∷ [];
  goal = Satisfy;
  outs = [];
  order = [];
})

-- an array of parameters, and a list in its place
abbrev pub Linear : Type 0
Linear = States (codes "array [1..2] of int: c = [2,-3,]; var 0..9: x; var 0..0x9: y; constraint int_lin_le(c,[x,y],7); solve satisfy;") (record {
  doms = ((pos 0, pos 9) ∷ []) ∷ ((pos 0, pos 9) ∷ []) ∷ [];
  cons = Base (Lin (record { rel = Le; terms = (pos 2, Var 0) ∷ (negsuc 2, Var 1) ∷ []; r = pos 7 })) ∷ [];
  goal = Satisfy;
  outs = [];
  order = [];
})

-- an array of variables, its output, and a search annotation
abbrev pub Array : Type 0
Array = States (codes "var 1..2: x; var 1..2: y; array [1..3] of var int: a :: output_array([1..3]) = [x,7,y]; solve :: int_search(a,first_fail,indomain_max) satisfy;") (record {
  doms = ((pos 1, pos 2) ∷ []) ∷ ((pos 1, pos 2) ∷ []) ∷ [];
  cons = [];
  goal = Satisfy;
  outs = (record { name = codes "a"; dims = (pos 1, pos 3) ∷ []; terms = Var 0 ∷ Const (pos 7) ∷ Var 1 ∷ []; truth = false }) ∷ [];
  order = (record { vars = Var 0 ∷ Var 1 ∷ []; by = FirstFail; at = Max }) ∷ [];
})

-- a predicate and a comment, which add nothing, and a clause
abbrev pub Clauses : Type 0
Clauses = States (codes "predicate p(int: x); % a comment\nvar bool: a; var bool: b; constraint bool_clause([a],[b]) :: domain; solve satisfy;") (record {
  doms = ((pos 0, pos 1) ∷ []) ∷ ((pos 0, pos 1) ∷ []) ∷ [];
  cons = Base (Clause (record { pos = Var 0 ∷ []; neg = Var 1 ∷ [] })) ∷ [];
  goal = Satisfy;
  outs = [];
  order = [];
})

-- a set by its name
abbrev pub Sets : Type 0
Sets = States (codes "set of int: s = 1..3; var int: x; constraint set_in(x,s); solve satisfy;") (record {
  doms = ((negsuc 999999, pos 1000000) ∷ []) ∷ [];
  cons = Base (Member (record { x = Var 0; set = (pos 1, pos 3) ∷ [] })) ∷ [];
  goal = Satisfy;
  outs = [];
  order = [];
})

-- a constraint that a variable reflects, behind `solve`
abbrev pub Reified : Type 0
Reified = States (codes "var 0..1: x; var bool: r; solve satisfy; constraint int_eq_reif(x,1,r);") (record {
  doms = ((pos 0, pos 1) ∷ []) ∷ ((pos 0, pos 1) ∷ []) ∷ [];
  cons = Reif (Lin (record { rel = Eq; terms = (pos 1, Var 0) ∷ (negsuc 0, Const (pos 1)) ∷ []; r = pos 0 })) (Var 1) true ∷ [];
  goal = Satisfy;
  outs = [];
  order = [];
})

abbrev pub Examples : Type 0
Examples = Variable × Output × Braces × Wide × Alias × Linear × Array × Clauses × Sets × Reified
