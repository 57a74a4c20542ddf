-- The records of tasks by id. This project's own, after Luigi's central scheduler.
use Rattle.std.specs.Cmp.Lexicographic.{slice_cmp}
use Rattle.std.specs.FinMap.{FinMap, from_entries, entries}
use Rattle.std.specs.Ordering.{nat_cmp}
use Rattle.std.specs.Prelude.{List, map}
use Rattle.lg_calls.specs.Task.{Task}
use Rattle.lg_json.specs.Tree.{Tree}
use Rattle.lg_calls.specs.Views.TaskRecord.{task_record}
use Rattle.lg_calls.specs.Views.Trees.{by_name}

-- tasks by their ids, in the order of the ids' bytes
abbrev pub by_ids : List Task → FinMap (slice_cmp nat_cmp) Task
by_ids tasks = from_entries (map (λ task. (task.id, task)) tasks)

-- their records by id
unfoldable pub records : List Task → Tree
records tasks = by_name task_record (entries (by_ids tasks))
