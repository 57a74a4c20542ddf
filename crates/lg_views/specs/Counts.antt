-- The numbers of tasks as they are counted. This project's own.
use Rattle.std.specs.Prelude.{ℕ, ◌+◌, ◌<◌, List}
use Rattle.lg_calls.specs.declared.status.Status.{Status}
use Rattle.lg_calls.specs.declared.status.Status.TheVariants.{Pending, Running, BatchRunning, Done, Failed, Disabled, Unknown}
use Rattle.lg_calls.specs.Task.{Task}
use Rattle.lg_calls.specs.Views.Counts.{count_of}
use Rattle.lg_views.specs.declared.counts.Counts.{Counts}

-- how many tasks each status has
abbrev pub counts_of : List Task → Counts
counts_of tasks = record {
  batch_running = count_of BatchRunning tasks;
  disabled = count_of Disabled tasks;
  done = count_of Done tasks;
  failed = count_of Failed tasks;
  pending = count_of Pending tasks;
  running = count_of Running tasks;
  unknown = count_of Unknown tasks;
}

-- a task more of a status
abbrev pub with_one_more : Counts → Status → Counts
with_one_more counts BatchRunning = record counts { batch_running = counts.batch_running + 1 }
with_one_more counts Disabled = record counts { disabled = counts.disabled + 1 }
with_one_more counts Done = record counts { done = counts.done + 1 }
with_one_more counts Failed = record counts { failed = counts.failed + 1 }
with_one_more counts Pending = record counts { pending = counts.pending + 1 }
with_one_more counts Running = record counts { running = counts.running + 1 }
with_one_more counts Unknown = record counts { unknown = counts.unknown + 1 }

-- each number is below a bound
pub record AreBelow (bound : ℕ) (counts : Counts) : Type 0 where
  pub batch_running : counts.batch_running < bound
  pub disabled : counts.disabled < bound
  pub done : counts.done < bound
  pub failed : counts.failed < bound
  pub pending : counts.pending < bound
  pub running : counts.running < bound
  pub unknown : counts.unknown < bound
