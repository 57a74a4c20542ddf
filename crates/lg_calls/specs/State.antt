-- The state in which the scheduler begins. This project's own, after Luigi's central scheduler.
use Rattle.std.specs.Prelude.{false, [], None}
use Rattle.std.specs.FinMap.{empty}
use Rattle.lg_calls.specs.declared.settings.Settings.{Settings}
use Rattle.lg_calls.specs.declared.state.State.{State}

-- nothing is known, and no step was made
abbrev pub empty_state : Settings → State
empty_state settings = record {
  tasks = [];
  workers = [];
  batchers = [];
  limits = empty;
  paused = false;
  moment = record { 0 = 0 };
  pruned = None;
  next = 0;
  settings = settings;
}
