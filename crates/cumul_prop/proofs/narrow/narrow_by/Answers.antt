use Rattle.std.proofs.Common.{sym, ◌∙◌}
use Rattle.std.proofs.lemmas.Bool.{false≢true}
use Rattle.cumul_prop.proofs.Owing.{none_fits}
use Rattle.cumul_prop.proofs.narrow.narrow_by.Goals as goal

pub returns-then-not-fits-clause-steps : goal.returns-then-not-fits-clause-steps
returns-then-not-fits-clause-steps c = none_fits c.args.tasks.now c.args.used.now c.args.capacity c.args.all.now c.args.profile.now c.args.store.now
    c.requires.ready c.requires.profile (λ within. false≢true (sym c.if-not-fits.true ∙ c.fits.ensures.1 within))
