-- The lengths of the words of parts.
use Rattle.std.proofs.Common.{◌≡◌, ℕ, ◌+◌, ◌*◌, ◌<◌, ◌≤◌, List, [], ◌∷◌, ◌++◌, length, get_or, drop, refl, ap, arith, ℤ, pos, ◌-ℤ◌, ◌≤ℤ◌, add-one, drop-cons, length-append}
use Rattle.std.specs.Prelude.{All}
use Rattle.std.specs.List.{AllByRecursion, flat_map}
use Rattle.std.proofs.lemmas.Int.{ints}
use Rattle.std.proofs.lemmas.List.{drop_all}
use Rattle.std.proofs.lemmas.List.Elements.{recursion_from_All}
use Rattle.fzn_model.specs.declared.term.Term.{Term}
use Rattle.fzn_model.specs.declared.term.Term.TheVariants as term
use Rattle.fzn_model.specs.declared.base.Base.{Base}
use Rattle.fzn_model.specs.declared.base.Base.TheVariants as base
use Rattle.fzn_model.specs.declared.cumulative.CumTask.{CumTask}
use Rattle.fzn_model.specs.declared.con.Con.{Con}
use Rattle.fzn_model.specs.declared.con.Con.TheVariants as con
use Rattle.fzn_model.specs.Sets.{AreAbove, AreRuns}
use Rattle.fzn_model.specs.Values.{largest}
use Rattle.fzn_model.specs.Limits.{IsValue, DomainInLimits, BaseInLimits, ConInLimits, of_call}
use Rattle.fzn_model.specs.Rests.{RestParts, IsRest}
use Rattle.rest_key.specs.Words.{term_words, number_words, run_words, set_words, linear_term_words, cost_words, task_words, used_words, base_parts, con_parts, labelled, words_of}
use Rattle.rest_key.specs.Counts.{base_count, con_count, cons_count, domains_count, IsNarrow, IsShortBase, IsShort}

-- runs above a number, with gaps, that end by the largest number
above_few : (before : ℤ) (runs : List (ℤ × ℤ)) → AreAbove before runs → AllByRecursion (λ run. IsValue run.0 × IsValue run.1) runs → before ≤ℤ pos largest → pos (2 * length runs) ≤ℤ (pos largest -ℤ before)
above_few before [] a w h = omega (arith, ints)
above_few before (r ∷ rs) a w h = let p = above_few r.1 rs a.2 w.1 (omega (arith, ints, w.0.1)) in omega (arith, ints, p, a.0, a.1)

few_by : (runs : List (ℤ × ℤ)) → AreRuns runs → AllByRecursion (λ run. IsValue run.0 × IsValue run.1) runs → length runs ≤ largest + 1
few_by [] a w = omega arith
few_by (r ∷ rs) a w = let p = above_few r.1 rs a.1 w.1 (omega (arith, ints, w.0.1)) in omega (arith, ints, p, w.0.0, a.0)

pub few_runs : (runs : List (ℤ × ℤ)) → AreRuns runs → IsNarrow runs → length runs ≤ largest + 1
unfolding IsNarrow
few_runs runs a w = few_by runs a (recursion_from_All (λ run. IsValue run.0 × IsValue run.1) runs w)

-- sums from a place on
pub domains_from : (ds : List (List (ℤ × ℤ))) (i : ℕ) (d : List (ℤ × ℤ)) → i < length ds → domains_count (drop i ds) ≡ 1 + 2 * length (get_or ds i d) + domains_count (drop (i + 1) ds)
unfolding domains_count
domains_from ds i d h = rw add-one (ap domains_count (drop-cons ds i d h))

pub cons_from : (cs : List Con) (i : ℕ) (d : Con) → i < length cs → cons_count (drop i cs) ≡ 1 + con_count (get_or cs i d) + cons_count (drop (i + 1) cs)
unfolding cons_count
cons_from cs i d h = rw add-one (ap cons_count (drop-cons cs i d h))

pub domains_end : (ds : List (List (ℤ × ℤ))) (i : ℕ) → length ds ≤ i → domains_count (drop i ds) ≡ 0
unfolding domains_count
domains_end ds i h = ap domains_count (drop_all i ds h)

pub cons_end : (cs : List Con) (i : ℕ) → length cs ≤ i → cons_count (drop i cs) ≡ 0
unfolding cons_count
cons_end cs i h = ap cons_count (drop_all i cs h)

-- members of so many words each
each_length : {X : Type 0} (f : X → List ℤ) (w : ℕ) → ((x : X) → length (f x) ≡ w) → (xs : List X) → length (flat_map f xs) ≡ w * length xs
each_length f w e [] = omega arith
each_length f w e (x ∷ xs) = let p = each_length f w e xs in let q = e x in simp length-append (omega (arith, p, q))

term_length : (t : Term) → length (term_words t) ≡ 2
term_length (term.Const z) = refl
term_length (term.Var k) = refl

linear_term_length : (p : ℤ × Term) → length (linear_term_words p) ≡ 3
linear_term_length p = let q = term_length p.1 in omega (arith, q)

three_length : (x y z : Term) → length (term_words x ++ term_words y ++ term_words z) ≡ 6
three_length x y z = let p = term_length x in let q = term_length y in let r = term_length z in simp length-append (omega (arith, p, q, r))

task_length : (k : CumTask) → length (task_words k) ≡ 6
task_length k = three_length k.s k.d k.r

terms_length : (xs : List Term) → length (flat_map term_words xs) ≡ 2 * length xs
terms_length xs = each_length term_words 2 term_length xs

numbers_length : (xs : List ℤ) → length (flat_map number_words xs) ≡ 1 * length xs
numbers_length xs = each_length number_words 1 (λ x. refl) xs

runs_length : (xs : List (ℤ × ℤ)) → length (flat_map run_words xs) ≡ 2 * length xs
runs_length xs = each_length run_words 2 (λ x. refl) xs

base_length : (b : Base) → length (base_parts b) ≡ base_count b
base_length (base.Lin l) = let p = each_length linear_term_words 3 linear_term_length l.terms in simp length-append (omega (arith, p))
base_length (base.Clause c) = let p = terms_length c.pos in let q = terms_length c.neg in simp length-append (omega (arith, p, q))
base_length (base.Member m) = let p = term_length m.x in let q = runs_length m.set in simp length-append (omega (arith, p, q))

con_length : (c : Con) → 1 + length (con_parts c) ≡ con_count c
con_length (con.Base b) = let p = base_length b in omega (arith, p)
con_length (con.Reif b r f) = let p = base_length b in let q = term_length r in simp length-append (omega (arith, p, q))
con_length (con.Times x y z) = let p = three_length x y z in omega (arith, p)
con_length (con.Abs x y) = let p = term_length x in let q = term_length y in simp length-append (omega (arith, p, q))
con_length (con.Div x y z) = let p = three_length x y z in omega (arith, p)
con_length (con.Mod x y z) = let p = three_length x y z in omega (arith, p)
con_length (con.Greatest m xs) = let p = term_length m in let q = terms_length xs in simp length-append (omega (arith, p, q))
con_length (con.Least m xs) = let p = term_length m in let q = terms_length xs in simp length-append (omega (arith, p, q))
con_length (con.Element i xs x) = let p = term_length i in let q = terms_length xs in let r = term_length x in simp length-append (omega (arith, p, q, r))
con_length (con.AllDiffExcept xs taken) = let p = terms_length xs in let q = numbers_length taken in simp length-append (omega (arith, p, q))
con_length (con.CumulUsed tasks used b) = let p = each_length task_words 6 task_length tasks in let q = each_length used_words 3 (λ x. refl) used in let r = term_length b in simp length-append (omega (arith, p, q, r))
con_length (con.Table xs rows) = let p = terms_length xs in let q = numbers_length rows in simp length-append (omega (arith, p, q))

cons_length : (cs : List Con) (labels : List ℕ) → length labels ≡ length cs → length (labelled con_parts cs labels) ≡ cons_count cs
unfolding cons_count
cons_length [] labels e = refl
cons_length (c ∷ cs) [] e = absurd (omega arith)
cons_length (c ∷ cs) (l ∷ ls) e = let p = con_length c in let q = cons_length cs ls (omega arith) in simp length-append (omega (arith, p, q))

domains_length : (ds : List (List (ℤ × ℤ))) → length (flat_map set_words ds) ≡ domains_count ds
unfolding domains_count
domains_length [] = refl
domains_length (d ∷ ds) = let p = runs_length d in let q = domains_length ds in simp length-append (omega (arith, p, q))

pub words_count : (r : RestParts) → IsRest r → length (words_of r) ≡ 3 + domains_count r.doms + 2 * length r.cost + cons_count r.cons
unfolding words_of
words_count r k = let p = domains_length r.doms in let q = each_length cost_words 2 (λ x. refl) r.cost in let s = cons_length r.cons r.labels k.labelled in simp length-append (omega (arith, p, q, s))

-- what a residual problem keeps
pub domains_narrow : (ds : List (List (ℤ × ℤ))) → All DomainInLimits ds → All IsNarrow ds
unfolding IsNarrow
domains_narrow ds k i d h = (k i d h).values

base_short : (n : ℕ) (b : Base) → BaseInLimits of_call n b → IsShortBase b
unfolding IsNarrow
base_short n (base.Lin l) k = k.sum.count
base_short n (base.Clause c) k = (k.pos.count, k.neg.count)
base_short n (base.Member m) k = k.set

pub con_short : (n : ℕ) (c : Con) → ConInLimits of_call n c → IsShort c
con_short n (con.Base b) k = base_short n b k
con_short n (con.Reif b r f) k = base_short n b k.0
con_short n (con.Greatest m xs) k = k.1.terms.count
con_short n (con.Least m xs) k = k.1.terms.count
con_short n (con.Element i xs x) k = k.1.count
con_short n (con.AllDiffExcept xs taken) k = (k.0.count, k.1.count)
con_short n (con.CumulUsed tasks used b) k = (k.0.count, k.1.count)
con_short n (con.Table xs rows) k = (k.columns.terms.count, k.count)
con_short n c k = tt

pub cons_short : (n : ℕ) (cs : List Con) → All (ConInLimits of_call n) cs → All IsShort cs
cons_short n cs k i d h = con_short n (get_or cs i d) (k i d h)
