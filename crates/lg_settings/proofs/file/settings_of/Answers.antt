use Rattle.lg_settings.proofs.DocumentLemmas.{limits_in_order}
use Rattle.lg_settings.proofs.ReadingLemmas.{told, still_due}
use Rattle.lg_settings.proofs.file.settings_of.Goals as goal

pub returns-in_err-document-clause-read : goal.returns-in_err-document-clause-read
returns-in_err-document-clause-read c = told _ _ _ (still_due _ _ _ c.in_err-document.ensures.err) c.from_residual.ensures.1

pub returns-clause-in_order : goal.returns-clause-in_order
returns-clause-in_order c = limits_in_order c.sections.result
