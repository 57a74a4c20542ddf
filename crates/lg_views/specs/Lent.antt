-- Tasks that are lent. This project's own.
use Rattle.std.specs.Borrow.{Bor}
use Rattle.std.specs.Prelude.{◌≤◌, IsTrue, List, All, length, map}
use Rattle.lg_calls.specs.Task.{Task}
use Rattle.lg_calls.specs.Tasks.{have_distinct_ids}
use Rattle.lg_calls.specs.Valid.{IsValidTask}
use Rattle.lg_views.specs.Listed.{last_moment}

-- the tasks themselves
abbrev pub lent : List (Bor Task) → List Task
lent tasks = map (λ task. task.now) tasks

-- tasks of one state that can be listed
pub record CanBeShown (tasks : List Task) : Type 0 where
  pub few : length tasks ≤ 1000000
  pub ids_differ : IsTrue (have_distinct_ids tasks)
  pub valid : All (IsValidTask last_moment) tasks
