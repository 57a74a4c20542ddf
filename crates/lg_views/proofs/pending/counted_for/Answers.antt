use Rattle.std.proofs.Common.{◌≡◌, not, refl, ap, ◌∙◌}
use Rattle.std.proofs.lemmas.Result.{IfOk-weaker}
use Rattle.std.specs.Prelude.{filter}
use Rattle.lg_calls.specs.Task.{Task}
use Rattle.lg_calls.specs.Upstream.{is_hopeless}
use Rattle.lg_calls.specs.Views.PendingCounts.{counts_for}
use Rattle.lg_calls.specs.Work.Walk.{names}
use Rattle.lg_views.specs.Lent.{lent}
use Rattle.lg_views.proofs.PendingLemmas.{filter-filter}
use Rattle.lg_views.proofs.pending.counted_for.Goals as goal

pub returns : goal.returns
returns g c =
    let tasks = (g.K.Look.state c.args.state.now).tasks in
    let worker = c.args.worker.now in
    IfOk-weaker c.not_hopeless.result
    (λ found. lent found.items ≡ filter (λ (task : Task). not (is_hopeless tasks task)) (lent c.as_slice.result.now))
    (λ found. lent found.items ≡ filter (counts_for worker tasks) tasks)
    (λ found kept.
    kept
    ∙ (ap (filter (λ (task : Task). not (is_hopeless tasks task))) (ap lent c.as_slice.ensures.value ∙ c.in_ok-named.ensures)
    ∙ filter-filter (names worker) (λ task. not (is_hopeless tasks task)) (counts_for worker tasks) (λ task. refl) tasks))
    c.not_hopeless.ensures
