use Rattle.reif_prop.proofs.Owing.{shown_fixes, refuted_fixes}
use Rattle.reif_prop.proofs.pass_reified.fix_term.Goals as goal

pub returns-in-Shown : goal.returns-in-Shown
returns-in-Shown c = shown_fixes c.args.base.now c.args.term c.args.flag c.args.store.now c.fix_bit.new.store c.fix_bit.result c.requires.well_formed c.requires.fits_box c.requires.not_must c.in-Shown.ensures c.fix_bit.ensures

pub returns-in-Refuted : goal.returns-in-Refuted
returns-in-Refuted c = refuted_fixes c.args.base.now c.args.term c.args.flag c.args.store.now c.fix_bit-in-Refuted.new.store c.fix_bit-in-Refuted.result c.requires.well_formed c.requires.fits_box c.requires.not_denied c.in-Refuted.ensures c.fix_bit-in-Refuted.ensures
