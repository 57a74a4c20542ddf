-- The section `[scheduler]`: each key with its kind, and what it is where it is absent. This project's own, after Luigi 3's
-- configuration.
use Rattle.std.specs.Prelude.{codes, true, false}
use Rattle.lg_calls.specs.declared.settings.Settings.{Settings}
use Rattle.lg_settings.specs.Numbers.{number, time, count, tasks}
use Rattle.lg_settings.specs.Reading.{Reading, ◌>>=◌, done, truth, text}

unfoldable pub scheduler : Reading Settings
scheduler =
    number (codes "retry_delay") time 900 >>= λ retry_delay.
    number (codes "remove_delay") time 600 >>= λ remove_delay.
    number (codes "worker_disconnect_delay") time 60 >>= λ worker_disconnect_delay.
    number (codes "disable_window") time 3600 >>= λ disable_window.
    number (codes "disable_hard_timeout") time 999999999 >>= λ disable_hard_timeout.
    number (codes "disable_persist") time 86400 >>= λ disable_persist.
    number (codes "retry_count") count 999999999 >>= λ retry_count.
    number (codes "max_shown_tasks") count 100000 >>= λ max_shown_tasks.
    number (codes "max_graph_nodes") count 100000 >>= λ max_graph_nodes.
    number (codes "stable_done_cooldown_secs") time 10 >>= λ stable_done_cooldown.
    truth (codes "prune_on_get_work") false >>= λ prune_on_get_work.
    truth (codes "pause_enabled") true >>= λ pause_enabled.
    number (codes "max_tasks") tasks 1000000 >>= λ max_tasks.
    text (codes "state_path") >>= λ state_path.
    done (record {
      retry_delay = retry_delay;
      remove_delay = remove_delay;
      worker_disconnect_delay = worker_disconnect_delay;
      disable_window = disable_window;
      disable_hard_timeout = disable_hard_timeout;
      disable_persist = disable_persist;
      retry_count = retry_count;
      max_shown_tasks = max_shown_tasks;
      max_graph_nodes = max_graph_nodes;
      stable_done_cooldown = stable_done_cooldown;
      prune_on_get_work = prune_on_get_work;
      pause_enabled = pause_enabled;
      state_path = state_path;
      max_tasks = max_tasks;
    })
