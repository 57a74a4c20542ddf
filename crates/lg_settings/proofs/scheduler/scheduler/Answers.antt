use Rattle.std.proofs.Common.{rules}
use Rattle.lg_settings.specs.Scheduler.{scheduler}
use Rattle.lg_settings.proofs.ReadingLemmas.{then_due, stopped_due, then_answers, stopped_answers, done_answers}
use Rattle.lg_settings.proofs.scheduler.scheduler.Goals as goal

pub returns-in_err-retry_delay-clause-read : goal.returns-in_err-retry_delay-clause-read
unfolding scheduler
returns-in_err-retry_delay-clause-read c =
    stopped_due _ _ _ _ _ c.in_err-retry_delay.ensures.read c.from_residual.ensures.1

pub returns-in_err-remove_delay-clause-read : goal.returns-in_err-remove_delay-clause-read
unfolding scheduler
returns-in_err-remove_delay-clause-read c =
    then_due _ _ _ _ _ c.in_ok-retry_delay.ensures.read (stopped_due _ _ _ _ _ c.in_err-remove_delay.ensures.read c.from_residual-in_err-remove_delay.ensures.1)

pub returns-in_err-worker_disconnect_delay-clause-read : goal.returns-in_err-worker_disconnect_delay-clause-read
unfolding scheduler
returns-in_err-worker_disconnect_delay-clause-read c =
    then_due _ _ _ _ _ c.in_ok-retry_delay.ensures.read (then_due _ _ _ _ _ c.in_ok-remove_delay.ensures.read (stopped_due _ _ _ _ _ c.in_err-worker_disconnect_delay.ensures.read c.from_residual-in_err-worker_disconnect_delay.ensures.1))

pub returns-in_err-disable_window-clause-read : goal.returns-in_err-disable_window-clause-read
unfolding scheduler
returns-in_err-disable_window-clause-read c =
    then_due _ _ _ _ _ c.in_ok-retry_delay.ensures.read (then_due _ _ _ _ _ c.in_ok-remove_delay.ensures.read (then_due _ _ _ _ _ c.in_ok-worker_disconnect_delay.ensures.read (stopped_due _ _ _ _ _ c.in_err-disable_window.ensures.read c.from_residual-in_err-disable_window.ensures.1)))

pub returns-in_err-disable_hard_timeout-clause-read : goal.returns-in_err-disable_hard_timeout-clause-read
unfolding scheduler
returns-in_err-disable_hard_timeout-clause-read c =
    then_due _ _ _ _ _ c.in_ok-retry_delay.ensures.read (then_due _ _ _ _ _ c.in_ok-remove_delay.ensures.read (then_due _ _ _ _ _ c.in_ok-worker_disconnect_delay.ensures.read (then_due _ _ _ _ _ c.in_ok-disable_window.ensures.read (stopped_due _ _ _ _ _ c.in_err-disable_hard_timeout.ensures.read c.from_residual-in_err-disable_hard_timeout.ensures.1))))

pub returns-in_err-disable_persist-clause-read : goal.returns-in_err-disable_persist-clause-read
unfolding scheduler
returns-in_err-disable_persist-clause-read c =
    then_due _ _ _ _ _ c.in_ok-retry_delay.ensures.read (then_due _ _ _ _ _ c.in_ok-remove_delay.ensures.read (then_due _ _ _ _ _ c.in_ok-worker_disconnect_delay.ensures.read (then_due _ _ _ _ _ c.in_ok-disable_window.ensures.read (then_due _ _ _ _ _ c.in_ok-disable_hard_timeout.ensures.read (stopped_due _ _ _ _ _ c.in_err-disable_persist.ensures.read c.from_residual-in_err-disable_persist.ensures.1)))))

pub returns-in_err-retry_count-clause-read : goal.returns-in_err-retry_count-clause-read
unfolding scheduler
returns-in_err-retry_count-clause-read c =
    then_due _ _ _ _ _ c.in_ok-retry_delay.ensures.read (then_due _ _ _ _ _ c.in_ok-remove_delay.ensures.read (then_due _ _ _ _ _ c.in_ok-worker_disconnect_delay.ensures.read (then_due _ _ _ _ _ c.in_ok-disable_window.ensures.read (then_due _ _ _ _ _ c.in_ok-disable_hard_timeout.ensures.read (then_due _ _ _ _ _ c.in_ok-disable_persist.ensures.read (stopped_due _ _ _ _ _ c.in_err-retry_count.ensures.read c.from_residual-in_err-retry_count.ensures.1))))))

pub returns-in_err-max_shown_tasks-clause-read : goal.returns-in_err-max_shown_tasks-clause-read
unfolding scheduler
returns-in_err-max_shown_tasks-clause-read c =
    then_due _ _ _ _ _ c.in_ok-retry_delay.ensures.read (then_due _ _ _ _ _ c.in_ok-remove_delay.ensures.read (then_due _ _ _ _ _ c.in_ok-worker_disconnect_delay.ensures.read (then_due _ _ _ _ _ c.in_ok-disable_window.ensures.read (then_due _ _ _ _ _ c.in_ok-disable_hard_timeout.ensures.read (then_due _ _ _ _ _ c.in_ok-disable_persist.ensures.read (then_due _ _ _ _ _ c.in_ok-retry_count.ensures.read (stopped_due _ _ _ _ _ c.in_err-max_shown_tasks.ensures.read c.from_residual-in_err-max_shown_tasks.ensures.1)))))))

pub returns-in_err-max_graph_nodes-clause-read : goal.returns-in_err-max_graph_nodes-clause-read
unfolding scheduler
returns-in_err-max_graph_nodes-clause-read c =
    then_due _ _ _ _ _ c.in_ok-retry_delay.ensures.read (then_due _ _ _ _ _ c.in_ok-remove_delay.ensures.read (then_due _ _ _ _ _ c.in_ok-worker_disconnect_delay.ensures.read (then_due _ _ _ _ _ c.in_ok-disable_window.ensures.read (then_due _ _ _ _ _ c.in_ok-disable_hard_timeout.ensures.read (then_due _ _ _ _ _ c.in_ok-disable_persist.ensures.read (then_due _ _ _ _ _ c.in_ok-retry_count.ensures.read (then_due _ _ _ _ _ c.in_ok-max_shown_tasks.ensures.read (stopped_due _ _ _ _ _ c.in_err-max_graph_nodes.ensures.read c.from_residual-in_err-max_graph_nodes.ensures.1))))))))

pub returns-in_err-stable_done_cooldown-clause-read : goal.returns-in_err-stable_done_cooldown-clause-read
unfolding scheduler
returns-in_err-stable_done_cooldown-clause-read c =
    then_due _ _ _ _ _ c.in_ok-retry_delay.ensures.read (then_due _ _ _ _ _ c.in_ok-remove_delay.ensures.read (then_due _ _ _ _ _ c.in_ok-worker_disconnect_delay.ensures.read (then_due _ _ _ _ _ c.in_ok-disable_window.ensures.read (then_due _ _ _ _ _ c.in_ok-disable_hard_timeout.ensures.read (then_due _ _ _ _ _ c.in_ok-disable_persist.ensures.read (then_due _ _ _ _ _ c.in_ok-retry_count.ensures.read (then_due _ _ _ _ _ c.in_ok-max_shown_tasks.ensures.read (then_due _ _ _ _ _ c.in_ok-max_graph_nodes.ensures.read (stopped_due _ _ _ _ _ c.in_err-stable_done_cooldown.ensures.read c.from_residual-in_err-stable_done_cooldown.ensures.1)))))))))

pub returns-in_err-prune_on_get_work-clause-read : goal.returns-in_err-prune_on_get_work-clause-read
unfolding scheduler
returns-in_err-prune_on_get_work-clause-read c =
    then_due _ _ _ _ _ c.in_ok-retry_delay.ensures.read (then_due _ _ _ _ _ c.in_ok-remove_delay.ensures.read (then_due _ _ _ _ _ c.in_ok-worker_disconnect_delay.ensures.read (then_due _ _ _ _ _ c.in_ok-disable_window.ensures.read (then_due _ _ _ _ _ c.in_ok-disable_hard_timeout.ensures.read (then_due _ _ _ _ _ c.in_ok-disable_persist.ensures.read (then_due _ _ _ _ _ c.in_ok-retry_count.ensures.read (then_due _ _ _ _ _ c.in_ok-max_shown_tasks.ensures.read (then_due _ _ _ _ _ c.in_ok-max_graph_nodes.ensures.read (then_due _ _ _ _ _ c.in_ok-stable_done_cooldown.ensures.read (stopped_due _ _ _ _ _ c.in_err-prune_on_get_work.ensures c.from_residual-in_err-prune_on_get_work.ensures.1))))))))))

pub returns-in_err-pause_enabled-clause-read : goal.returns-in_err-pause_enabled-clause-read
unfolding scheduler
returns-in_err-pause_enabled-clause-read c =
    then_due _ _ _ _ _ c.in_ok-retry_delay.ensures.read (then_due _ _ _ _ _ c.in_ok-remove_delay.ensures.read (then_due _ _ _ _ _ c.in_ok-worker_disconnect_delay.ensures.read (then_due _ _ _ _ _ c.in_ok-disable_window.ensures.read (then_due _ _ _ _ _ c.in_ok-disable_hard_timeout.ensures.read (then_due _ _ _ _ _ c.in_ok-disable_persist.ensures.read (then_due _ _ _ _ _ c.in_ok-retry_count.ensures.read (then_due _ _ _ _ _ c.in_ok-max_shown_tasks.ensures.read (then_due _ _ _ _ _ c.in_ok-max_graph_nodes.ensures.read (then_due _ _ _ _ _ c.in_ok-stable_done_cooldown.ensures.read (then_due _ _ _ _ _ c.in_ok-prune_on_get_work.ensures (stopped_due _ _ _ _ _ c.in_err-pause_enabled.ensures c.from_residual-in_err-pause_enabled.ensures.1)))))))))))

pub returns-in_err-max_tasks-clause-read : goal.returns-in_err-max_tasks-clause-read
unfolding scheduler
returns-in_err-max_tasks-clause-read c =
    then_due _ _ _ _ _ c.in_ok-retry_delay.ensures.read (then_due _ _ _ _ _ c.in_ok-remove_delay.ensures.read (then_due _ _ _ _ _ c.in_ok-worker_disconnect_delay.ensures.read (then_due _ _ _ _ _ c.in_ok-disable_window.ensures.read (then_due _ _ _ _ _ c.in_ok-disable_hard_timeout.ensures.read (then_due _ _ _ _ _ c.in_ok-disable_persist.ensures.read (then_due _ _ _ _ _ c.in_ok-retry_count.ensures.read (then_due _ _ _ _ _ c.in_ok-max_shown_tasks.ensures.read (then_due _ _ _ _ _ c.in_ok-max_graph_nodes.ensures.read (then_due _ _ _ _ _ c.in_ok-stable_done_cooldown.ensures.read (then_due _ _ _ _ _ c.in_ok-prune_on_get_work.ensures (then_due _ _ _ _ _ c.in_ok-pause_enabled.ensures (stopped_due _ _ _ _ _ c.in_err-max_tasks.ensures.read c.from_residual-in_err-max_tasks.ensures.1))))))))))))

pub returns-in_err-state_path-clause-read : goal.returns-in_err-state_path-clause-read
unfolding scheduler
returns-in_err-state_path-clause-read c =
    then_due _ _ _ _ _ c.in_ok-retry_delay.ensures.read (then_due _ _ _ _ _ c.in_ok-remove_delay.ensures.read (then_due _ _ _ _ _ c.in_ok-worker_disconnect_delay.ensures.read (then_due _ _ _ _ _ c.in_ok-disable_window.ensures.read (then_due _ _ _ _ _ c.in_ok-disable_hard_timeout.ensures.read (then_due _ _ _ _ _ c.in_ok-disable_persist.ensures.read (then_due _ _ _ _ _ c.in_ok-retry_count.ensures.read (then_due _ _ _ _ _ c.in_ok-max_shown_tasks.ensures.read (then_due _ _ _ _ _ c.in_ok-max_graph_nodes.ensures.read (then_due _ _ _ _ _ c.in_ok-stable_done_cooldown.ensures.read (then_due _ _ _ _ _ c.in_ok-prune_on_get_work.ensures (then_due _ _ _ _ _ c.in_ok-pause_enabled.ensures (then_due _ _ _ _ _ c.in_ok-max_tasks.ensures.read (stopped_answers _ _ _ _ _ c.in_err-state_path.ensures c.from_residual-in_err-state_path.ensures.1)))))))))))))

pub returns-clause-read : goal.returns-clause-read
unfolding scheduler
returns-clause-read c =
    then_due _ _ _ _ _ c.in_ok-retry_delay.ensures.read (then_due _ _ _ _ _ c.in_ok-remove_delay.ensures.read (then_due _ _ _ _ _ c.in_ok-worker_disconnect_delay.ensures.read (then_due _ _ _ _ _ c.in_ok-disable_window.ensures.read (then_due _ _ _ _ _ c.in_ok-disable_hard_timeout.ensures.read (then_due _ _ _ _ _ c.in_ok-disable_persist.ensures.read (then_due _ _ _ _ _ c.in_ok-retry_count.ensures.read (then_due _ _ _ _ _ c.in_ok-max_shown_tasks.ensures.read (then_due _ _ _ _ _ c.in_ok-max_graph_nodes.ensures.read (then_due _ _ _ _ _ c.in_ok-stable_done_cooldown.ensures.read (then_due _ _ _ _ _ c.in_ok-prune_on_get_work.ensures (then_due _ _ _ _ _ c.in_ok-pause_enabled.ensures (then_due _ _ _ _ _ c.in_ok-max_tasks.ensures.read (then_answers _ _ _ _ _ c.in_ok-state_path.ensures (done_answers _ _ _ (search rules)))))))))))))))
