use Rattle.std.proofs.Common.{Some, sym, ap, ◌∙◌}
use Rattle.std.specs.Option.{option_copied}
use Rattle.lg_settings.specs.declared.fault.SettingsFault.TheVariants.{NotSettings}
use Rattle.lg_settings.proofs.ReadingLemmas.{gives, refuses, wants}
use Rattle.lg_settings.proofs.keys.text_of.Goals as goal

pub returns-in_err-copied-in-Some : goal.returns-in_err-copied-in-Some
returns-in_err-copied-in-Some c = wants _ _ c.from_residual.ensures.1

pub returns-in_ok-copied-in-Some : goal.returns-in_ok-copied-in-Some
returns-in_ok-copied-in-Some c =
    gives _ _ (sym c.as_str.ensures ∙ ap option_copied c.in-Some.is ∙ ap Some (sym c.in_ok-copied-in-Some.ensures))

pub returns-in-None : goal.returns-in-None
returns-in-None c = refuses _ NotSettings (sym c.as_str.ensures ∙ ap option_copied c.in-None.is)
