-- What the scheduler is set to. This project's own, after Luigi 3's section `[scheduler]`.
use Rattle.std.specs.Prelude.{ℕ, ◌*◌, ◌^◌, ◌≤◌, true, false, None}
use Rattle.lg_retry.specs.declared.policy.Policy.{Policy}
use Rattle.lg_calls.specs.declared.settings.Settings.{Settings}

-- seconds in milliseconds
abbrev pub seconds : ℕ → ℕ
seconds n = n * 1000

-- the settings where nothing is set
abbrev pub default_settings : Settings
default_settings = record {
  retry_delay = seconds 900;
  remove_delay = seconds 600;
  worker_disconnect_delay = seconds 60;
  disable_window = seconds 3600;
  disable_hard_timeout = seconds 999999999;
  disable_persist = seconds 86400;
  retry_count = 999999999;
  max_shown_tasks = 100000;
  max_graph_nodes = 100000;
  stable_done_cooldown = seconds 10;
  prune_on_get_work = false;
  pause_enabled = true;
  state_path = None;
  max_tasks = 1000000;
}

-- the longest time, in milliseconds, and the greatest count
abbrev pub max_time : ℕ
max_time = 10 ^ 15

abbrev pub max_count : ℕ
max_count = 10 ^ 12

-- each time and each count is in its range
pub record AreInRange (s : Settings) : Type 0 where
  pub retry_delay : s.retry_delay ≤ max_time
  pub remove_delay : s.remove_delay ≤ max_time
  pub worker_disconnect_delay : s.worker_disconnect_delay ≤ max_time
  pub disable_window : s.disable_window ≤ max_time
  pub disable_hard_timeout : s.disable_hard_timeout ≤ max_time
  pub disable_persist : s.disable_persist ≤ max_time
  pub retry_count : s.retry_count ≤ max_count
  pub max_shown_tasks : s.max_shown_tasks ≤ max_count
  pub max_graph_nodes : s.max_graph_nodes ≤ max_count
  pub stable_done_cooldown : s.stable_done_cooldown ≤ max_time
  pub some_tasks : 1 ≤ s.max_tasks
  pub max_tasks : s.max_tasks ≤ 1000000

-- the policy of a task that has none of its own
abbrev pub policy_of : Settings → Policy
policy_of s = record {
  retry_count = s.retry_count;
  disable_window = s.disable_window;
  disable_hard_timeout = s.disable_hard_timeout;
}
