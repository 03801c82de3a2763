use Rattle.std.proofs.Common.{arith, Err}
use Rattle.std.proofs.lemmas.List.Sorted.{searched}
use Rattle.rest_key.specs.Dominance.{IsCovered}
use Rattle.rest_key.proofs.RisingLabels.{rising_not_falling, not_found}
use Rattle.rest_key.proofs.dominance.is_covered.Goals as goal

pub returns-in-Err : goal.returns-in-Err
unfolding IsCovered
returns-in-Err c =
    let found = searched c.args.labels.now c.args.label (Err c.in-Err.field-0) c.in-Err.ensures.position (rising_not_falling c.args.labels.now c.requires.rising) in
    (λ h. (cc), λ h. absurd (not_found c.args.labels.now c.args.label c.in-Err.field-0 found.1 found.2 h.0 (omega (arith, h.1, c.requires.labelled)) h.2))
