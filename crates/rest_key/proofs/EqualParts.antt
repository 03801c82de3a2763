-- Equality of parts of constraints, as their tests decide it.
use Rattle.std.proofs.Common.{◌≡◌, ℕ, List, refl, ap, ℤ, Bool, true, false}
use Rattle.std.specs.Prelude.{◌&&◌, ◌==◌}
use Rattle.std.specs.Bool.{Decides}
use Rattle.std.specs.Ordering.{int_eq}
use Rattle.std.proofs.lemmas.Bool.Decides.{Decides-int_eq, Decides-eqb}
use Rattle.std.proofs.lemmas.Slice.Eq.{slice_eq-Decides}
use Rattle.std.specs.Cmp.Lexicographic.{pointwise}
use Rattle.fzn_model.specs.declared.term.Term.{Term}
use Rattle.fzn_model.specs.declared.term.Term.TheVariants as term
use Rattle.fzn_model.specs.declared.lin.Lin.{Lin}
use Rattle.fzn_model.specs.declared.clause.Clause.{Clause}
use Rattle.fzn_model.specs.declared.member.Member.{Member}
use Rattle.fzn_model.specs.declared.cumulative.CumTask.{CumTask}
use Rattle.fzn_model.specs.contracts.term.TermPartialEq.TheImpl as term_eq
use Rattle.fzn_model.specs.contracts.cumulative.CumTaskPartialEq.TheImpl as task_eq

pub term_decides : (a b : Term) → Decides (term_eq.eq-value.it a b) (a ≡ b)
term_decides (term.Const x) (term.Const y) = (λ h. ap term.Const ((Decides-int_eq x y).0 h), λ h. (Decides-int_eq x y).1 (cc))
term_decides (term.Var x) (term.Var y) = (λ h. ap term.Var ((Decides-eqb x y).0 h), λ h. (Decides-eqb x y).1 (cc))
term_decides _ _ = (λ h. (cc), λ h. (cc))

-- two tests decide what each of their facts makes up
both_decide : {P Q R : Type 0} (p q : Bool) → Decides p P → Decides q Q → (R → P) → (R → Q) → (P → Q → R) → Decides (p && q) R
both_decide true true dp dq x y z = (λ h. z (dp.0 refl) (dq.0 refl), λ h. refl)
both_decide true false dp dq x y z = (λ h. (cc), λ h. dq.1 (y h))
both_decide false q dp dq x y z = (λ h. (cc), λ h. dp.1 (x h))

pair_decides : {A B : Type 0} (E : A → A → Bool) (F : B → B → Bool) → ((a b : A) → Decides (E a b) (a ≡ b)) → ((a b : B) → Decides (F a b) (a ≡ b)) → (p q : A × B) → Decides (E p.0 q.0 && F p.1 q.1) (p ≡ q)
pair_decides E F d f p q = both_decide _ _ (d p.0 q.0) (f p.1 q.1) (ap (λ x. x.0)) (ap (λ x. x.1)) (λ e g i. (e i, g i))

task_decides : (a b : CumTask) → Decides (task_eq.eq-value.it a b) (a ≡ b)
task_decides a b = both_decide _ _ (term_decides a.s b.s) (both_decide _ _ (term_decides a.d b.d) (term_decides a.r b.r) (λ (e : (a.d ≡ b.d) × (a.r ≡ b.r)). e.0) (λ e. e.1) (λ e f. (e, f))) (ap (λ (k : CumTask). k.s)) (λ e. (ap (λ (k : CumTask). k.d) e, ap (λ (k : CumTask). k.r) e)) (λ e f i. record { s = e i; d = f.0 i; r = f.1 i })

pub terms_decide : (xs ys : List Term) (r : Bool) → r ≡ pointwise term_eq.eq-value.it xs ys → Decides r (xs ≡ ys)
terms_decide xs ys r e = slice_eq-Decides term_decides xs ys r e

pub tasks_decide : (xs ys : List CumTask) (r : Bool) → r ≡ pointwise task_eq.eq-value.it xs ys → Decides r (xs ≡ ys)
tasks_decide xs ys r e = slice_eq-Decides task_decides xs ys r e

pub linear_terms_decide : (xs ys : List (ℤ × Term)) (r : Bool) → r ≡ pointwise (λ p q. int_eq p.0 q.0 && term_eq.eq-value.it p.1 q.1) xs ys → Decides r (xs ≡ ys)
linear_terms_decide xs ys r e = slice_eq-Decides (pair_decides int_eq term_eq.eq-value.it Decides-int_eq term_decides) xs ys r e

pub runs_decide : (xs ys : List (ℤ × ℤ)) (r : Bool) → r ≡ pointwise (λ p q. int_eq p.0 q.0 && int_eq p.1 q.1) xs ys → Decides r (xs ≡ ys)
runs_decide xs ys r e = slice_eq-Decides (pair_decides int_eq int_eq Decides-int_eq Decides-int_eq) xs ys r e

pub costs_decide : (xs ys : List (ℤ × ℕ)) (r : Bool) → r ≡ pointwise (λ p q. int_eq p.0 q.0 && (p.1 == q.1)) xs ys → Decides r (xs ≡ ys)
costs_decide xs ys r e = slice_eq-Decides (pair_decides int_eq (λ a b. a == b) Decides-int_eq Decides-eqb) xs ys r e

-- with equal parts they are the same
pub lins_same : (a b : Lin) → a.rel ≡ b.rel → a.terms ≡ b.terms → a.r ≡ b.r → a ≡ b
lins_same a b e f g = λ i. record { rel = e i; terms = f i; r = g i }

pub clauses_same : (a b : Clause) → a.pos ≡ b.pos → a.neg ≡ b.neg → a ≡ b
clauses_same a b e f = λ i. record { pos = e i; neg = f i }

pub members_same : (a b : Member) → a.x ≡ b.x → a.set ≡ b.set → a ≡ b
members_same a b e f = λ i. record { x = e i; set = f i }

pub numbers_decide : (xs ys : List ℤ) (r : Bool) → r ≡ pointwise int_eq xs ys → Decides r (xs ≡ ys)
numbers_decide xs ys r e = slice_eq-Decides Decides-int_eq xs ys r e
