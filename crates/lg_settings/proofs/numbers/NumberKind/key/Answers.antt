use Rattle.std.proofs.Common.{◌*◌, sym, ap, ◌∙◌}
use Rattle.std.specs.Option.{ok_or}
use Rattle.lg_settings.specs.Numbers.{number_of}
use Rattle.lg_settings.specs.declared.fault.SettingsFault.TheVariants.{NotSettings}
use Rattle.lg_settings.proofs.KeyLemmas.{absent_key, present_key}
use Rattle.lg_settings.proofs.numbers.NumberKind.key.Goals as goal

pub returns-in-None-clause-read : goal.returns-in-None-clause-read
returns-in-None-clause-read c =
    let a = c.args in
    sym (ap (λ due. ok_or due NotSettings) (absent_key (number_of a.self.now) (a.unset * a.self.now.unit) c.get.result a.name.now a.keys.now.entries c.get.ensures.value c.in-None.is))

pub returns-in-Some-clause-read : goal.returns-in-Some-clause-read
returns-in-Some-clause-read c =
    let a = c.args in
    let has = present_key (number_of a.self.now) (a.unset * a.self.now.unit) c.get.result a.name.now a.keys.now.entries c.in-Some.value c.get.ensures.value c.in-Some.is in
    c.ok_or.ensures.value ∙ ap (λ due. ok_or due NotSettings) (c.number_of.ensures.read ∙ sym has)
