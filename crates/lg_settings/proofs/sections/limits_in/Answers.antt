use Rattle.std.proofs.Common.{Some, sym, ap}
use Rattle.lg_settings.proofs.ReadingLemmas.{told, gives}
use Rattle.lg_settings.proofs.SectionLemmas.{no_section, section_found, section_absent}
use Rattle.lg_settings.proofs.sections.limits_in.Goals as goal

pub returns-in_err-keys : goal.returns-in_err-keys
returns-in_err-keys c = told _ _ _ (no_section _ _ _ _ c.in_err-keys.ensures.err) c.from_residual.ensures.1

pub returns-in-Some : goal.returns-in-Some
returns-in-Some c = section_found _ _ _ _ _ c.in-Some.keys c.in_ok-keys.ensures.ok c.in-Some.is c.limits.ensures

pub returns-in-None : goal.returns-in-None
returns-in-None c = section_absent _ _ _ _ _ c.in_ok-keys.ensures.ok c.in-None.is (gives _ _ (ap Some (sym c.new.ensures)))
