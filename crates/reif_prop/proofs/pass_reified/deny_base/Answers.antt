use Rattle.reif_prop.proofs.Owing.{failed_step}
use Rattle.reif_prop.proofs.pass_reified.deny_base.Goals as goal

pub returns : goal.returns
returns c = failed_step c.args.base.now c.args.term c.args.flag c.args.store.now c.deny.new.store c.deny.result c.requires.well_formed c.requires.fits_box c.requires.denied c.deny.ensures
