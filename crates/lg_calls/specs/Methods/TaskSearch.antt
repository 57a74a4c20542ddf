-- The arguments of `task_search`. This project's own, after Luigi's RPC.
use Rattle.std.specs.Prelude.{codes}
use Rattle.lg_json.specs.Fields.{text_in}
use Rattle.lg_calls.specs.declared.methods.task_search.TaskSearch.{TaskSearch}
use Rattle.lg_calls.specs.Reading.{Reading, ◌>>=◌, needed, done}

abbrev pub task_search : Reading TaskSearch
task_search =
    needed text_in (codes "task_str") >>= λ task_str.
    done (record { task_str = task_str })
