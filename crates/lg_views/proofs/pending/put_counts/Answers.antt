use Rattle.std.proofs.Common.{◌≡◌, sym, ap, codes, length}
use Rattle.std.proofs.lemmas.List.{length-map}
use Rattle.std.proofs.lemmas.Result.{on_ok_weaker}
use Rattle.std.specs.Borrow.{Bor}
use Rattle.std.specs.Prelude.{count_by}
use Rattle.lg_base.specs.declared.faults.NoMemory.{NoMemory}
use Rattle.lg_calls.specs.Task.{Task}
use Rattle.lg_calls.specs.Views.PendingCounts.{is_last_of, names_one}
use Rattle.lg_calls.specs.Views.Trees.{number}
use Rattle.lg_views.specs.Lent.{lent}
use Rattle.lg_views.proofs.BuildLemmas.{put_step_as}
use Rattle.lg_views.proofs.pending.put_counts.Goals as goal

pub returns : goal.returns
returns c =
    let left = c.args.left.now in
    let these = lent left in
    let many : length left ≡ length these = sym (length-map left (λ (task : Bor Task). task.now)) in
    on_ok_weaker {T = Unit {0}} {E = NoMemory} c.put-4.result
    (λ last.
    put_step_as _ _ _ _ (codes "n_pending_last_scheduled") _ (number (count_by (is_last_of c.args.worker.now) these)) (ap number c.count_among.ensures.count) c.in_ok-put.ensures
    (put_step_as _ _ _ _ (codes "n_pending_tasks") _ (number (length these)) (ap number many) c.in_ok-put-2.ensures
    (put_step_as _ _ _ _ (codes "n_unique_pending") _ (number (count_by names_one these)) (ap number c.count_among-2.ensures.count) c.in_ok-put-3.ensures
    last)))
    c.put-4.ensures
