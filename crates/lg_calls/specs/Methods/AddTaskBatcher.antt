-- The arguments of `add_task_batcher`. This project's own, after Luigi's RPC.
use Rattle.std.specs.Prelude.{codes, Bool}
use Rattle.lg_json.specs.Fields.{text_in, texts_in}
use Rattle.lg_calls.specs.declared.methods.add_task_batcher.AddTaskBatcher.{AddTaskBatcher}
use Rattle.lg_calls.specs.Ranges.{count, is_count}
use Rattle.lg_calls.specs.Reading.{Reading, ◌>>=◌, needed, done}

abbrev pub add_task_batcher : Reading AddTaskBatcher
add_task_batcher =
    needed text_in (codes "worker") >>= λ worker.
    needed text_in (codes "task_family") >>= λ family.
    needed texts_in (codes "batched_args") >>= λ names.
    count 1 (codes "max_batch_size") >>= λ size.
    done (record { worker = worker; task_family = family; batched_args = names; max_batch_size = size })

abbrev pub add_task_batcher_in_range : AddTaskBatcher → Bool
add_task_batcher_in_range ask = is_count 1 ask.max_batch_size
