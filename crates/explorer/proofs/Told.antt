-- What is noted of a lookup and of a publication.
use Rattle.std.proofs.Common.{◌≡◌, ℕ, ◌+◌, ◌<◌, List, [], ◌∷◌, ◌++◌, length, take, get_or, length-take, append-nil, refl, sym, ap, ◌∙◌, ℤ, arith, append_assoc}
use Rattle.std.specs.Prelude.{Some, None}
use Rattle.evictor.specs.declared.report.Report.{Report}
use Rattle.evictor.specs.declared.report.Report.TheVariants as report
use Rattle.evictor.specs.declared.put.Put.{Put}
use Rattle.evictor.specs.declared.put.Put.TheVariants as put
use Rattle.std.proofs.lemmas.List.{map-append, take_more}
use Rattle.run_log.specs.declared.line.LogLine.TheVariants as line
use Rattle.run_log.specs.Texts.{plain}
use Rattle.explorer.specs.Trees.{gone_lines}
use Rattle.explorer.specs.Recording.{gone_one, gone_at, stored_at}

pub not_gone : (place : ℕ) (r : Report) → (r ≡ report.Gone → ⊥) → gone_one place r ≡ []
not_gone place report.Gone h = absurd (h refl)
not_gone place report.Empty h = refl
not_gone place report.Unlike h = refl
not_gone place (report.Weak b) h = refl
not_gone place report.NoCache h = refl

pub not_stored : (p : Put) (bound : ℤ) → ((place : ℕ) → p ≡ put.Stored place → ⊥) → stored_at p bound ≡ None
not_stored (put.Stored place) bound h = absurd (h place refl)
not_stored (put.AlreadyThere place) bound h = refl
not_stored put.Refused bound h = refl

gone_push : (ps : List ℕ) (rs : List Report) (p : ℕ) (r : Report) → length ps ≡ length rs → gone_at (ps ++ p ∷ []) (rs ++ r ∷ []) ≡ gone_at ps rs ++ gone_one p r
unfolding gone_at
gone_push [] [] p r e = append-nil (gone_one p r)
gone_push [] (q ∷ rs) p r e = cc
gone_push (o ∷ ps) [] p r e = cc
gone_push (o ∷ ps) (q ∷ rs) p r e = ap (λ (xs : List ℕ). gone_one o q ++ xs) (gone_push ps rs p r (omega (arith, e))) ∙ sym (append_assoc (gone_one o q) (gone_at ps rs) (gone_one p r))

-- one place more
pub gone_more : (ps : List ℕ) (rs : List Report) (at : ℕ) → at < length ps → at < length rs → gone_lines (gone_at (take (at + 1) ps) (take (at + 1) rs)) ≡ gone_lines (gone_at (take at ps) (take at rs)) ++ gone_lines (gone_one (get_or ps at 0) (get_or rs at report.Empty))
gone_more ps rs at few less = rw (take_more ps at 0 few, take_more rs at report.Empty less) (
    ap gone_lines (gone_push (take at ps) (take at rs) (get_or ps at 0) (get_or rs at report.Empty) (omega (arith, few, less, length-take at ps, length-take at rs))) ∙ map-append (λ (place : ℕ). plain (line.Gone place)) (gone_at (take at ps) (take at rs)) (gone_one (get_or ps at 0) (get_or rs at report.Empty)))
