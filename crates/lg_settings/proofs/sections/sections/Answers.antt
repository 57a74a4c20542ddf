use Rattle.std.proofs.Common.{refl}
use Rattle.lg_settings.specs.Sections.{sections}
use Rattle.lg_settings.proofs.ReadingLemmas.{refuses, then_answers, stopped_answers, done_answers}
use Rattle.lg_settings.proofs.SectionLemmas.{no_section, section_is_there}
use Rattle.lg_settings.proofs.sections.sections.Goals as goal

pub returns-in_err-settings-clause-read : goal.returns-in_err-settings-clause-read
unfolding sections
returns-in_err-settings-clause-read c = stopped_answers _ _ _ _ _ c.in_err-settings.ensures.read c.from_residual.ensures.1

pub returns-in_err-limits-clause-read : goal.returns-in_err-limits-clause-read
unfolding sections
returns-in_err-limits-clause-read c =
    then_answers _ _ _ _ _ c.in_ok-settings.ensures.read (stopped_answers _ _ _ _ _ c.in_err-limits.ensures c.from_residual-in_err-limits.ensures.1)

pub returns-in_err-section-clause-read : goal.returns-in_err-section-clause-read
unfolding sections
returns-in_err-section-clause-read c =
    then_answers _ _ _ _ _ c.in_ok-settings.ensures.read (then_answers _ _ _ _ _ c.in_ok-limits.ensures (stopped_answers _ _ _ _ _ (refuses _ _ (no_section _ _ _ _ c.in_err-section.ensures.err)) c.from_residual-in_err-section.ensures.1))

pub returns-in_err-section-2-clause-read : goal.returns-in_err-section-2-clause-read
unfolding sections
returns-in_err-section-2-clause-read c =
    then_answers _ _ _ _ _ c.in_ok-settings.ensures.read (then_answers _ _ _ _ _ c.in_ok-limits.ensures (then_answers _ _ _ _ _ (section_is_there _ _ _ c.in_ok-section.ensures.ok) (stopped_answers _ _ _ _ _ (refuses _ _ (no_section _ _ _ _ c.in_err-section-2.ensures.err)) c.from_residual-in_err-section-2.ensures.1)))

pub returns-clause-read : goal.returns-clause-read
unfolding sections
returns-clause-read c =
    then_answers _ _ _ _ _ c.in_ok-settings.ensures.read (then_answers _ _ _ _ _ c.in_ok-limits.ensures (then_answers _ _ _ _ _ (section_is_there _ _ _ c.in_ok-section.ensures.ok) (then_answers _ _ _ _ _ (section_is_there _ _ _ c.in_ok-section-2.ensures.ok) (done_answers _ _ _ refl))))
