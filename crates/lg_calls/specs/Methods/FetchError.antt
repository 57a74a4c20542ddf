-- The arguments of `fetch_error`. This project's own, after Luigi's RPC.
use Rattle.std.specs.Prelude.{codes}
use Rattle.lg_json.specs.Fields.{text_in}
use Rattle.lg_calls.specs.declared.methods.fetch_error.FetchError.{FetchError}
use Rattle.lg_calls.specs.Reading.{Reading, ◌>>=◌, needed, done}

abbrev pub fetch_error : Reading FetchError
fetch_error =
    needed text_in (codes "task_id") >>= λ task_id.
    done (record { task_id = task_id })
