use Rattle.std.proofs.Common.{Some, sym, ap, ◌∙◌}
use Rattle.lg_settings.proofs.ReadingLemmas.{told, gives}
use Rattle.lg_settings.proofs.SchedulerLemmas.{no_keys}
use Rattle.lg_settings.proofs.SectionLemmas.{no_section, section_found, section_absent}
use Rattle.lg_settings.proofs.sections.settings_in.Goals as goal

pub returns-in_err-keys-clause-read : goal.returns-in_err-keys-clause-read
returns-in_err-keys-clause-read c = told _ _ _ (no_section _ _ _ _ c.in_err-keys.ensures.err) c.from_residual.ensures.1

pub returns-in-Some-clause-read : goal.returns-in-Some-clause-read
returns-in-Some-clause-read c = section_found _ _ _ _ _ c.in-Some.keys c.in_ok-keys.ensures.ok c.in-Some.is c.scheduler.ensures.read

pub returns-in-None-clause-read : goal.returns-in-None-clause-read
returns-in-None-clause-read c =
    section_absent _ _ _ _ _ c.in_ok-keys.ensures.ok c.in-None.is (gives _ _ (no_keys ∙ ap Some (sym c.new.ensures.defaults)))
