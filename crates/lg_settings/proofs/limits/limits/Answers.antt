use Rattle.std.proofs.Common.{sym, ◌∙◌}
use Rattle.lg_settings.specs.declared.fault.SettingsFault.TheVariants.{NotSettings}
use Rattle.lg_settings.proofs.LimitLemmas.{no_limit_at, all_limits}
use Rattle.lg_settings.proofs.ReadingLemmas.{gives, refuses, wants}
use Rattle.lg_settings.proofs.limits.limits.Goals as goal

pub returns-in_err-copied-in-Some-limit_of : goal.returns-in_err-copied-in-Some-limit_of
returns-in_err-copied-in-Some-limit_of c = wants _ _ c.from_residual.ensures.1

pub returns-in_err-put-in-Some-limit_of : goal.returns-in_err-put-in-Some-limit_of
returns-in_err-put-in-Some-limit_of c = wants _ _ c.from_residual-in_err-put-in-Some-limit_of.ensures.1

pub returns-in-None-limit_of : goal.returns-in-None-limit_of
returns-in-None-limit_of c =
    let l = c.loop-name in
    let none = sym c.limit_of.ensures ∙ c.in-None-limit_of.is in
    refuses _ NotSettings (l.invariant ∙ no_limit_at l.limits c.in-Some.name.now c.in-Some.value.now l.name-iterator c.next.new.self c.in-Some.ensures.steps none)

pub returns : goal.returns
returns c = gives _ _ (c.loop-name.invariant ∙ all_limits c.loop-name.limits c.loop-name.name-iterator c.in-None.ensures.steps.0)
