use Rattle.fzn_reader.proofs.ArgLemmas.{set_const, int_consts, int_terms, bool_consts, bool_terms}
use Rattle.fzn_reader.proofs.arguments.argument.Goals as goal

pub returns-in_ok-value-in-SetConst-clause-kept : goal.returns-in_ok-value-in-SetConst-clause-kept
returns-in_ok-value-in-SetConst-clause-kept c = rw c.in-SetConst.is (set_const _ _ c.in_ok-value-in-SetConst.ensures.kept)

pub returns-in_ok-terms-in-IntConsts-clause-kept : goal.returns-in_ok-terms-in-IntConsts-clause-kept
returns-in_ok-terms-in-IntConsts-clause-kept c = rw c.in-IntConsts.is (int_consts _ _ c.in_ok-terms-in-IntConsts.ensures.kept)

pub returns-in_ok-terms-in-IntTerms-clause-kept : goal.returns-in_ok-terms-in-IntTerms-clause-kept
returns-in_ok-terms-in-IntTerms-clause-kept c = rw c.in-IntTerms.is (int_terms _ _ c.in_ok-terms-in-IntTerms.ensures.kept)

pub returns-in_ok-terms-in-BoolConsts-clause-kept : goal.returns-in_ok-terms-in-BoolConsts-clause-kept
returns-in_ok-terms-in-BoolConsts-clause-kept c = rw c.in-BoolConsts.is (bool_consts _ _ c.in_ok-terms-in-BoolConsts.ensures.kept)

pub returns-in_ok-terms-in-BoolTerms-clause-kept : goal.returns-in_ok-terms-in-BoolTerms-clause-kept
returns-in_ok-terms-in-BoolTerms-clause-kept c = rw c.in-BoolTerms.is (bool_terms _ _ c.in_ok-terms-in-BoolTerms.ensures.kept)
