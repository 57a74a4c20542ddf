use Rattle.std.proofs.Common.{sym, ap, ◌∙◌}
use Rattle.std.specs.Option.{ok_or}
use Rattle.toml.specs.Data.{as_bool}
use Rattle.lg_settings.specs.declared.fault.SettingsFault.TheVariants.{NotSettings}
use Rattle.lg_settings.proofs.KeyLemmas.{absent_key, present_key}
use Rattle.lg_settings.proofs.keys.truth.Goals as goal

pub returns-in-None : goal.returns-in-None
returns-in-None c =
    let a = c.args in
    sym (ap (λ due. ok_or due NotSettings) (absent_key as_bool a.unset c.get.result a.name.now a.keys.now.entries c.get.ensures.value c.in-None.is))

pub returns-in-Some : goal.returns-in-Some
returns-in-Some c =
    let a = c.args in
    let has = present_key as_bool a.unset c.get.result a.name.now a.keys.now.entries c.in-Some.value c.get.ensures.value c.in-Some.is in
    c.ok_or.ensures.value ∙ ap (λ due. ok_or due NotSettings) (c.as_bool.ensures ∙ sym has)
