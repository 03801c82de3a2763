-- Arguments that fit their needs.
use Rattle.std.proofs.Common.{◌≡◌, ℕ, zero, suc, ◌<◌, ◌≤◌, List, [], ◌∷◌, ◌++◌, Bool, true, false, cond, ◌&&◌, length, get_or, refl, Some, None, arith, ℤ, nat_le}
use Rattle.std.specs.Prelude.{All, IfSome, slice_get, IsTrue, ◌↔◌}
use Rattle.std.specs.List.{list_all}
use Rattle.std.proofs.lemmas.Bool.Decides.{nat_tests}
use Rattle.std.proofs.lemmas.List.Elements.{All-push}
use Rattle.fzn_model.specs.declared.term.Term.{Term}
use Rattle.fzn_model.specs.declared.term.Term.TheVariants.{Const, Var}
use Rattle.fzn_model.specs.declared.con.Con.{Con}
use Rattle.fzn_model.specs.Limits.{TermsIn, ConInLimits, ConTruths, of_model}
use Rattle.fzn_builtin.specs.declared.arg.Arg.{Arg}
use Rattle.fzn_builtin.specs.declared.arg.Arg.TheVariants as arg
use Rattle.fzn_builtin.specs.declared.needs.Need.{Need}
use Rattle.fzn_builtin.specs.declared.needs.Need.TheVariants as need
use Rattle.fzn_builtin.specs.Arguments.{FitsNeed}
use Rattle.fzn_builtin.specs.Limits.{ArgKept, ArgTruth}
use Rattle.fzn_builtin.proofs.Pairs.{fits_push}
use Rattle.fzn_reader.specs.declared.decl.Decl.{Decl}
use Rattle.fzn_reader.specs.declared.decl.Decl.TheVariants as decl
use Rattle.fzn_reader.specs.declared.scalar.Scalar.{Scalar}
use Rattle.fzn_reader.specs.declared.scalar.Scalar.TheVariants.{IntConst, IntTerm, BoolConst, BoolTerm}
use Rattle.fzn_reader.specs.Constraints.{fitting_list}
use Rattle.fzn_reader.specs.Scalars.{is_constant}
use Rattle.fzn_reader.specs.Invariants.{SetKept, DeclKept, TruthsIn, ConFits, IsConstant, ScalarKept, ListInLimits, ArgsKept, ArgFits}

both : (a b : Bool) → (a && b) ≡ true → (a ≡ true) × (b ≡ true)
both true b h = (refl, h)
both false b h = absurd (cc)

constant : (t : Term) → is_constant t ≡ true → IsConstant t
constant (Const z) h = tt
constant (Var k) h = absurd (cc)

constants_each : (ts : List Term) → list_all is_constant ts ≡ true → (k : ℕ) (d : Term) → k < length ts → IsConstant (get_or ts k d)
constants_each [] h k d p = absurd (omega arith)
constants_each (t ∷ ts) h zero d p = constant t (both (is_constant t) (list_all is_constant ts) h).0
constants_each (t ∷ ts) h (suc k) d p = constants_each ts (both (is_constant t) (list_all is_constant ts) h).1 k d (omega arith)

ints_only : (ds : List (List (ℤ × ℤ))) (ts : List Term) (b : Bool) → list_all is_constant ts ≡ b → TermsIn (length ds) ts → IfSome (cond b (Some ts) None) (ListInLimits 0 ds IntConst)
ints_only ds ts true h p = record { count = omega (arith, p.count); each = λ k t q. record { within = p.terms k t q; fits = constants_each ts h k t q } }
ints_only ds ts false h p = tt

bools_only : (ds : List (List (ℤ × ℤ))) (ts : List Term) (b : Bool) → list_all is_constant ts ≡ b → TruthsIn ds ts → IfSome (cond b (Some ts) None) (ListInLimits 0 ds BoolConst)
bools_only ds ts true h p = record { count = omega (arith, p.count); each = λ k t q. record { within = (p.each k t q).within; fits = (constants_each ts h k t q, (p.each k t q).truth) } }
bools_only ds ts false h p = tt

-- an array that is named
pub named_kept : (s : Scalar) (e : Decl) (ds : List (List (ℤ × ℤ))) → DeclKept ds e → IfSome (fitting_list s e) (ListInLimits 0 ds s)
named_kept IntConst (decl.Ints false ts) ds p = tt
named_kept IntConst (decl.Ints true ts) ds p = ints_only ds ts (list_all is_constant ts) refl p
named_kept IntTerm (decl.Ints parameters ts) ds p = record { count = omega (arith, p.count); each = λ k t q. record { within = p.terms k t q; fits = tt } }
named_kept BoolConst (decl.Bools false ts) ds p = tt
named_kept BoolConst (decl.Bools true ts) ds p = bools_only ds ts (list_all is_constant ts) refl p
named_kept BoolTerm (decl.Bools parameters ts) ds p = record { count = omega (arith, p.count); each = λ k t q. record { within = (p.each k t q).within; fits = (p.each k t q).truth } }
named_kept s e ds p = tt

-- a list that is written out
pub written_kept : (used : ℕ) (ds : List (List (ℤ × ℤ))) (s : Scalar) (ts : List Term) → ListInLimits used ds s ts → ListInLimits 0 ds s ts
written_kept used ds s ts p = record { count = omega (arith, p.count); each = p.each }

terms_in : (ds : List (List (ℤ × ℤ))) (s : Scalar) (ts : List Term) → ListInLimits 0 ds s ts → TermsIn (length ds) ts
terms_in ds s ts p = record { count = omega (arith, p.count); terms = λ k t h. (p.each k t h).within }

pub int_const : (ds : List (List (ℤ × ℤ))) (t : Term) → ScalarKept ds IntConst t → ArgFits ds need.IntConst (arg.Int t)
unfolding FitsNeed
int_const ds t p = record { fits = p.fits; kept = p.within; truth = tt }

pub int_term : (ds : List (List (ℤ × ℤ))) (t : Term) → ScalarKept ds IntTerm t → ArgFits ds need.IntTerm (arg.Int t)
unfolding FitsNeed
int_term ds t p = record { fits = tt; kept = p.within; truth = tt }

pub bool_term : (ds : List (List (ℤ × ℤ))) (t : Term) → ScalarKept ds BoolTerm t → ArgFits ds need.BoolTerm (arg.Bool t)
unfolding FitsNeed
bool_term ds t p = record { fits = tt; kept = p.within; truth = p.fits }

pub set_const : (ds : List (List (ℤ × ℤ))) (set : List (ℤ × ℤ)) → SetKept set → ArgFits ds need.SetConst (arg.Set set)
unfolding FitsNeed
set_const ds set p = record { fits = tt; kept = p; truth = tt }

pub int_consts : (ds : List (List (ℤ × ℤ))) (ts : List Term) → ListInLimits 0 ds IntConst ts → ArgFits ds need.IntConsts (arg.Ints ts)
unfolding FitsNeed
int_consts ds ts p = record { fits = λ k t h. (p.each k t h).fits; kept = terms_in ds IntConst ts p; truth = tt }

pub int_terms : (ds : List (List (ℤ × ℤ))) (ts : List Term) → ListInLimits 0 ds IntTerm ts → ArgFits ds need.IntTerms (arg.Ints ts)
unfolding FitsNeed
int_terms ds ts p = record { fits = tt; kept = terms_in ds IntTerm ts p; truth = tt }

pub bool_consts : (ds : List (List (ℤ × ℤ))) (ts : List Term) → ListInLimits 0 ds BoolConst ts → ArgFits ds need.BoolConsts (arg.Bools ts)
unfolding FitsNeed
bool_consts ds ts p = record { fits = λ k t h. (p.each k t h).fits.0; kept = terms_in ds BoolConst ts p; truth = λ k t h. (p.each k t h).fits.1 }

pub bool_terms : (ds : List (List (ℤ × ℤ))) (ts : List Term) → ListInLimits 0 ds BoolTerm ts → ArgFits ds need.BoolTerms (arg.Bools ts)
unfolding FitsNeed
bool_terms ds ts p = record { fits = tt; kept = terms_in ds BoolTerm ts p; truth = λ k t h. (p.each k t h).fits }

-- one argument more
pub args_push : (ds : List (List (ℤ × ℤ))) (needs : List Need) (args : List Arg) (used more : ℕ) (n : Need) (a : Arg) → slice_get needs (length args) ≡ Some n → ArgFits ds n a → more ≤ 2000000 → ArgsKept ds needs (args, used) → ArgsKept ds needs (args ++ a ∷ [], more)
args_push ds needs args used more n a e f m p = record {
  fits = fits_push needs args n a p.fits e f.fits;
  kept = All-push (ArgKept (length ds)) args a p.kept f.kept;
  truths = All-push (ArgTruth ds) args a p.truths f.truth;
  used = m;
}

-- the test of a whole list
whole_by : (a b c : ℕ) (r s t : Bool) → nat_le a b ≡ s → nat_le b c ≡ t → (IsTrue r ↔ ((a ≤ b) × (b ≤ c))) → r ≡ (s && t)
whole_by a b c true true true p q h = refl
whole_by a b c true true false p q h = let k : b ≤ c = (h.0 refl).1 in absurd (grind (arith, nat_tests))
whole_by a b c true false t p q h = let k : a ≤ b = (h.0 refl).0 in absurd (grind (arith, nat_tests))
whole_by a b c false true true p q h = let k : a ≤ b = grind (arith, nat_tests) in let l : b ≤ c = grind (arith, nat_tests) in let never : IsTrue false = h.1 (k, l) in absurd (cc)
whole_by a b c false true false p q h = refl
whole_by a b c false false t p q h = refl

pub whole_test : (a b c : ℕ) (r : Bool) → (IsTrue r ↔ ((a ≤ b) × (b ≤ c))) → r ≡ (nat_le a b && nat_le b c)
whole_test a b c r h = whole_by a b c r (nat_le a b) (nat_le b c) refl refl h

-- a constraint that is built of arguments that fit
pub built_fits : (ds : List (List (ℤ × ℤ))) (needs : List Need) (args : List Arg) (used : ℕ) (c : Con) → ArgsKept ds needs (args, used) → ((n : ℕ) → All (ArgKept n) args → ConInLimits of_model n c) → ((es : List (List (ℤ × ℤ))) → All (ArgTruth es) args → ConTruths es c) → ConFits ds c
built_fits ds needs args used c p kept truths = record { kept = kept (length ds) p.kept; truths = truths ds p.truths }
