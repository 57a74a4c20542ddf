use Rattle.std.proofs.Common.{◌≡◌, ◌++◌, take}
use Rattle.std.specs.Prelude.{flat_map}
use Rattle.lg_views.specs.Fields.{fields_in}
use Rattle.lg_views.specs.Lent.{lent}
use Rattle.lg_calls.specs.Views.TaskSearch.{group}
use Rattle.lg_views.proofs.search.put_groups.Given as goal

abbrev pub invariant-loop-status : goal.invariant-loop-status
invariant-loop-status l = fields_in l.object ≡ fields_in l.fn.object ++ flat_map (group (lent l.tasks)) (take l.status-index l.statuses)
