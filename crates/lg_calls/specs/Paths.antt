-- Paths from task to task. This project's own.
use Rattle.std.specs.Prelude.{Bool, ◌&&◌, ◌||◌, List, [], ◌∷◌}
use Rattle.lg_calls.specs.Task.{Task}

-- One task leads to another at once, or along a path through some of these: with one task more there are the paths without it,
-- and those to it and on from it.
unfoldable pub is_path_through : (Task → Task → Bool) → List Task → Task → Task → Bool
is_path_through leads [] from to = leads from to
is_path_through leads (task ∷ tasks) from to =
    is_path_through leads tasks from to || (is_path_through leads tasks from task && is_path_through leads tasks task to)
