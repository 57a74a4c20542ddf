use Rattle.std.proofs.Common.{[], ◌++◌, Option, sym, ap, ◌∙◌, append-nil}
use Rattle.std.proofs.lemmas.List.{map_push}
use Rattle.std.specs.List.{cons_option}
use Rattle.std.specs.Option.{option_map}
use Rattle.lg_calls.specs.declared.worker.WorkerRec.{WorkerRec}
use Rattle.lg_calls.specs.Views.PendingCounts.{run_shown}
use Rattle.lg_views.specs.declared.runs.Run.{Run}
use Rattle.lg_views.specs.Runs.{runs_in}
use Rattle.lg_views.proofs.runs.push_run.Goals as goal

pub returns-in-None : goal.returns-in-None
returns-in-None g c =
    let old = runs_in c.args.runs.now.items in
    let task = c.args.task.now in
    sym (ap (λ (o : Option WorkerRec). old ++ cons_option (option_map (run_shown task) o) []) (sym c.in-None.ensures) ∙ append-nil old)

pub returns-in_ok-push-in-Some : goal.returns-in_ok-push-in-Some
returns-in_ok-push-in-Some g c =
    let old = c.args.runs.now.items in
    let task = c.args.task.now in
    ap runs_in c.in_ok-push-in-Some.ensures.items
    ∙ (map_push (λ (run : Run). run_shown run.task.now run.runner.now) old _
    ∙ ap (λ (o : Option WorkerRec). runs_in old ++ cons_option (option_map (run_shown task) o) []) c.in-Some.ensures)
