-- The limits, and who takes of each. This project's own, after Luigi's central scheduler.
use Rattle.std.specs.FinMap.{entries}
use Rattle.std.specs.Prelude.{ℕ, List, [], ◌∷◌, codes, filter, length}
use Rattle.lg_calls.specs.declared.state.State.{State}
use Rattle.lg_calls.specs.declared.status.Status.TheVariants.{Running}
use Rattle.lg_calls.specs.Task.{Task}
use Rattle.lg_json.specs.Tree.{Tree, str}
use Rattle.lg_calls.specs.Views.Records.{records}
use Rattle.lg_calls.specs.Views.Trees.{record_of, number, listed}
use Rattle.lg_calls.specs.Use.{takes, use_by, with_status}

-- of a limit with its amount, among the RUNNING tasks: how many take of it, how much they take, and their records
unfoldable pub limit_record : List Task → List ℕ → ℕ → Tree
limit_record running name total = record_of (
    (codes "name", str name) ∷
    (codes "num_consumer", number (length (filter (takes name) running))) ∷
    (codes "num_total", number total) ∷
    (codes "num_used", number (use_by running name)) ∷
    (codes "running", records (filter (takes name) running)) ∷ [])

-- each limit, in the order of the names' bytes
unfoldable pub resource_list : State → Tree
resource_list state = listed (λ limit. limit_record (with_status Running state.tasks) limit.0 limit.1) (entries state.limits)
