use Rattle.std.proofs.Common.{◌≡◌, ◌++◌, length, ap, ◌∙◌, arith}
use Rattle.std.proofs.lemmas.List.{length-map}
use Rattle.std.proofs.lemmas.Result.{on_ok_weaker}
use Rattle.std.specs.Borrow.{Bor}
use Rattle.std.specs.Prelude.{count_by}
use Rattle.lg_base.specs.declared.faults.NoMemory.{NoMemory}
use Rattle.lg_calls.specs.Task.{Task}
use Rattle.lg_calls.specs.Views.PendingCounts.{is_last_of, names_one, left_for, running_for, count_fields}
use Rattle.lg_views.specs.Fields.{fields_in}
use Rattle.lg_views.specs.Lent.{lent}
use Rattle.lg_views.specs.Runs.{runs_in, runs_of}
use Rattle.lg_views.proofs.PendingLemmas.{left_among, running_among, few_counted}
use Rattle.lg_views.proofs.PlaceLemmas.{CanBeLookedAt-listed}
use Rattle.lg_views.proofs.pending.put_known.Goals as goal

pub counted_for-requires : goal.counted_for-requires
counted_for-requires g c = CanBeLookedAt-listed _ c.requires

pub runs_among-requires : goal.runs_among-requires
runs_among-requires g c = CanBeLookedAt-listed _ c.requires

pub put_counts-requires : goal.put_counts-requires
put_counts-requires g c =
    let tasks = (g.K.Look.state c.args.state.now).tasks in
    let worker = c.args.worker.now in
    let left = c.as_slice-2.result.now in
    let left_is : lent left ≡ left_for worker tasks =
    left_among worker tasks (lent c.as_slice-tasks.result.now) (lent left) (ap lent c.as_slice-tasks.ensures.value ∙ c.in_ok-counted.ensures) (ap lent c.as_slice-2.ensures.value ∙ c.in_ok-left.ensures)
    in
    omega (arith, few_counted worker tasks c.requires.few_tasks, ap length left_is, length-map left (λ (task : Bor Task). task.now))

pub returns : goal.returns
returns g c =
    let s = g.K.Look.state c.args.state.now in
    let tasks = s.tasks in
    let worker = c.args.worker.now in
    let left = lent c.as_slice-2.result.now in
    let counted = lent c.as_slice-tasks.result.now in
    let all = ap lent c.as_slice-tasks.ensures.value ∙ c.in_ok-counted.ensures in
    let left_is : left ≡ left_for worker tasks = left_among worker tasks counted left all (ap lent c.as_slice-2.ensures.value ∙ c.in_ok-left.ensures) in
    let running_is : lent c.as_slice.result.now ≡ running_for worker tasks =
    running_among worker tasks counted (lent c.as_slice.result.now) all (ap lent c.as_slice.ensures.value ∙ c.in_ok-running.ensures)
    in
    let runs_is : runs_in c.as_slice-3.result.now ≡ runs_of s (running_for worker tasks) = ap runs_in c.as_slice-3.ensures.value ∙ c.in_ok-runs.ensures ∙ ap (runs_of s) running_is in
    on_ok_weaker {T = Unit {0}} {E = NoMemory} c.put_counts.result
    (λ put.
    put
    ∙ (λ i. fields_in c.args.object.now ++ count_fields (count_by (is_last_of worker) (left_is i)) (length (left_is i)) (count_by names_one (left_is i)) (runs_is i)))
    c.put_counts.ensures
