use Rattle.std.proofs.Common.{◌≡◌, take}
use Rattle.std.specs.FinMap.{entries, insert}
use Rattle.std.specs.List.{fold}
use Rattle.lg_plain.proofs.requests.limits.limits_with.Given as goal

abbrev pub invariant-loop-name : goal.invariant-loop-name
invariant-loop-name l = l.limits ≡ fold (λ so_far limit. insert so_far limit.0 limit.1) l.known (take l.name-index (entries l.more))
