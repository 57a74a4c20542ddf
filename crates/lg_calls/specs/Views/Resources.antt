-- The limits and what is in use of each. This project's own, after Luigi's central scheduler.
use Rattle.std.specs.FinMap.{entries}
use Rattle.std.specs.Prelude.{ℕ, [], ◌∷◌, codes, map}
use Rattle.lg_calls.specs.declared.state.State.{State}
use Rattle.lg_json.specs.Tree.{Tree}
use Rattle.lg_calls.specs.Views.Trees.{record_of, number}
use Rattle.lg_calls.specs.Use.{used}

-- a limit, and what is in use of it
unfoldable pub resource_tree : ℕ → ℕ → Tree
resource_tree total used = record_of ((codes "total", number total) ∷ (codes "used", number used) ∷ [])

-- each limit by its name, in the order of the names' bytes
unfoldable pub resources : State → Tree
resources state = record_of (map (λ limit. (limit.0, resource_tree limit.1 (used state limit.0))) (entries state.limits))
