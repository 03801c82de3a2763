-- From what an entry says to what a reading says.
use Rattle.std.proofs.Common.{◌≡◌, ◌≢◌, ◌==◌, ◌<◌, ℕ, zero, suc, not, true, ℤ, refl, ap, arith}
use Rattle.std.proofs.Math.Dec.{eqb-suc-zero}
use Rattle.std.specs.declared.option.Option.{Option}
use Rattle.fzn_model.specs.Rests.{RestParts}
use Rattle.entry_slab.specs.Entries.{Bounded}
use Rattle.entry_slab.specs.Contents.{Contents}
use Rattle.entry_slab.specs.Readings.{IsRead, Says, IsReading, CountsAbsence}
use Rattle.entry_slab.specs.declared.reading.Reading.{Reading}
use Rattle.entry_slab.specs.declared.reading.Reading.TheVariants as reading

pub reading_of : (told : Option Contents) (key : ℕ) (rest : RestParts) (need : ℤ) (e : Bounded) (r : Reading) → IsRead told key e → Says rest need e r → IsReading told key rest need r
unfolding IsReading
reading_of told key rest need e (reading.Hit b) read says = (e, read, says)
reading_of told key rest need e (reading.Weak b) read says = (e, read, says)
reading_of told key rest need e reading.Unlike read says = (e, read, says)
reading_of told key rest need e reading.Gone read says = absurd says

pub counts_none : (rest : RestParts) (need : ℤ) (e : Bounded) (r : Reading) (n : ℕ) → Says rest need e r → CountsAbsence r n n
unfolding CountsAbsence
counts_none rest need e (reading.Hit b) n says = refl
counts_none rest need e (reading.Weak b) n says = refl
counts_none rest need e reading.Unlike n says = refl
counts_none rest need e reading.Gone n says = absurd says

pub not_gone : (rest : RestParts) (need : ℤ) (e : Bounded) (r : Reading) → Says rest need e r → r ≢ reading.Gone
not_gone rest need e (reading.Hit b) says same = cc
not_gone rest need e (reading.Weak b) says same = cc
not_gone rest need e reading.Unlike says same = cc
not_gone rest need e reading.Gone says same = says

pub loses : (lose : ℕ) → 0 < lose → not (lose == 0) ≡ true
loses zero some = absurd (omega arith)
loses (suc lose) some = ap not (eqb-suc-zero lose)
