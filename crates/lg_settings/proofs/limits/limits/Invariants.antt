use Rattle.std.proofs.Common.{◌≡◌}
use Rattle.std.specs.FinMap.{empty}
use Rattle.toml.specs.View.{members_view}
use Rattle.lg_settings.specs.Limits.{limits_from}
use Rattle.lg_settings.proofs.limits.limits.Given as goal

abbrev pub invariant-loop-name : goal.invariant-loop-name
invariant-loop-name l = limits_from empty (members_view l.keys.entries) ≡ limits_from l.limits (members_view l.name-iterator)
