use Rattle.std.proofs.Common.{ap, ◌∙◌, codes}
use Rattle.lg_calls.specs.Views.Counts.{status_counts}
use Rattle.lg_calls.specs.Views.Trees.{record_of, number}
use Rattle.lg_views.proofs.BuildLemmas.{all_put, put_step}
use Rattle.lg_views.proofs.CountLemmas.{counts_shown}
use Rattle.lg_views.proofs.counts.status_counts.Goals as goal

pub returns : goal.returns
unfolding status_counts
returns g c =
    let counts = c.counted-counts.result in
    c.into_out.ensures
    ∙ (ap record_of
    (all_put _ _ _ c.new-object.ensures
    (put_step _ _ _ _ (codes "BATCH_RUNNING") (number counts.batch_running) c.in_ok-put.ensures
    (put_step _ _ _ _ (codes "DISABLED") (number counts.disabled) c.in_ok-put-2.ensures
    (put_step _ _ _ _ (codes "DONE") (number counts.done) c.in_ok-put-3.ensures
    (put_step _ _ _ _ (codes "FAILED") (number counts.failed) c.in_ok-put-4.ensures
    (put_step _ _ _ _ (codes "PENDING") (number counts.pending) c.in_ok-put-5.ensures
    (put_step _ _ _ _ (codes "RUNNING") (number counts.running) c.in_ok-put-6.ensures
    c.in_ok-put-7.ensures)))))))
    ∙ ap counts_shown c.counted-counts.ensures)
