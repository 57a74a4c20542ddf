-- The changes of the task of a call, by their kind.
use Rattle.lg_calls.specs.declared.methods.add_task.AddTask.{AddTask}
use Rattle.lg_calls.specs.Task.{Task}
use Rattle.lg_plain.specs.declared.adding.changes.Part.{Part}
use Rattle.lg_plain.specs.declared.adding.changes.Part.TheVariants as P
use Rattle.lg_calls.specs.AddTask.Describing.{filled, replaced}
use Rattle.lg_calls.specs.AddTask.Offering.{as_urgent, runnable_by, with_policy}
use Rattle.lg_calls.specs.AddTask.Reporting.{run_begun, with_deps, with_resources}

abbrev pub part_changed : AddTask → Part → Task → Task
part_changed ask P.Fill = filled ask
part_changed ask P.Replace = replaced ask
part_changed ask (P.Begin now) = run_begun ask now
part_changed ask P.Depend = with_deps ask
part_changed ask (P.Resources resources) = with_resources resources
part_changed ask P.Raise = as_urgent ask
part_changed ask (P.Policy policy) = with_policy policy
part_changed ask P.Offer = runnable_by ask.worker
