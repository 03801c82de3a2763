-- What the reading of one word more adds to what is known of those before.
use Rattle.std.proofs.Common.{◌≡◌, ℕ, zero, suc, ◌+◌, ◌≤◌, if◌then◌else◌, List, [], ◌∷◌, ◌++◌, sym, ap, subst, ◌∙◌, arith, ℤ, inl, inr}
use Rattle.std.specs.declared.option.Option.{Option}
use Rattle.std.proofs.lemmas.List.Sums.{sum_by-append}
use Rattle.fzn_model.specs.Rests.{RestParts}
use Rattle.entry_slab.specs.Entries.{Rose}
use Rattle.entry_slab.specs.Contents.{Contents}
use Rattle.evictor.specs.declared.report.Report.{Report}
use Rattle.evictor.specs.declared.report.Report.TheVariants as report
use Rattle.evictor.specs.declared.found.Found.{Found}
use Rattle.evictor.specs.declared.found.Found.TheVariants as found
use Rattle.evictor.specs.Passes.{word_at}
use Rattle.evictor.specs.Reports.{IsReport, AreReports, gone_count, is_gone, gone_by}
use Rattle.std.proofs.lemmas.Bool.{cases_eq}
use Rattle.entry_slab.specs.Entries.{counted}
use Rattle.evictor.specs.Readers.{raised, CountsAbsences}

pub reports_more : (told : Option Contents) (words : List ℕ) (r : RestParts) (need : ℤ) (places : List ℕ) (reports : List Report) (place : ℕ) (q : Report) → AreReports told words r need places reports → IsReport told r need (word_at words place) q → AreReports told words r need (places ++ place ∷ []) (reports ++ q ∷ [])
unfolding AreReports
reports_more told words r need [] [] place q are one = (one, tt)
reports_more told words r need [] (p ∷ ps) place q are one = absurd are
reports_more told words r need (p ∷ ps) [] place q are one = absurd are
reports_more told words r need (p ∷ ps) (x ∷ xs) place q are one = (are.0, reports_more told words r need ps xs place q are.1 one)

pub gone_more : (reports : List Report) (q : Report) → gone_count (reports ++ q ∷ []) ≡ gone_by (found.Not q) + gone_count reports
unfolding gone_count
gone_more reports q = let more = sum_by-append (λ (x : Report). if is_gone x then 1 else 0) reports (q ∷ []) in omega (arith, more)

pub raised_more : (n k j : ℕ) → j ≤ 1 → raised (raised n k) j ≡ raised n (j + k)
raised_more n k zero few = ap (raised n) (omega arith)
raised_more n k (suc j) few =
    let none : j ≡ 0 = omega (arith, few) in
    let next : suc k ≡ suc j + k = omega (arith, few) in
    ap (λ m. counted (raised (raised n k) m)) none ∙ ap (raised n) next

pub at_most_one : (f : Found) → gone_by f ≤ 1
at_most_one (found.Serves b) = omega arith
at_most_one (found.Not report.Gone) = omega arith
at_most_one (found.Not report.Empty) = omega arith
at_most_one (found.Not (report.Weak b)) = omega arith
at_most_one (found.Not report.Unlike) = omega arith
at_most_one (found.Not report.NoCache) = omega arith

rose_then : (a b c : ℕ) → Rose a b → Rose b c → Rose a c
rose_then a b c first second = omega (arith, first, second)

pub absences_more : (k j a b c : ℕ) → CountsAbsences k a b → CountsAbsences j b c → CountsAbsences (j + k) a c
absences_more k j a b c first second = record {
  none = λ zeroed. second.none (omega (arith, zeroed)) ∙ first.none (omega (arith, zeroed));
  some = λ some. elim (cases_eq k 0) [
    | inl zeroed ↦ subst (λ n. Rose n c) (first.none zeroed) (second.some (λ none. some (omega (arith, none, zeroed))))
    | inr more ↦ elim (cases_eq j 0) [
      | inl zeroed ↦ subst (λ n. Rose a n) (sym (second.none zeroed)) (first.some more)
      | inr more' ↦ rose_then a b c (first.some more) (second.some more')
    ]
  ];
}
