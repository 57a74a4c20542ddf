-- Reading the smaller records of a snapshot, field after field in the order of their names. This project's own.
use Rattle.std.specs.Prelude.{codes}
use Rattle.serde_json.specs.Find.{as_bool, as_str}
use Rattle.lg_calls.specs.declared.batcher.BatcherRec.{BatcherRec}
use Rattle.lg_calls.specs.declared.worker.WorkerRec.{WorkerRec}
use Rattle.lg_retry.specs.declared.policy.Policy.{Policy}
use Rattle.lg_snapshot.specs.declared.record_reading.FailureParts.{FailureParts}
use Rattle.lg_snapshot.specs.Kinds.{number_in, moment_in, maybe_in, list_in, pairs_in, info_in}
use Rattle.lg_snapshot.specs.Reading.{Reading, ◌>>=◌, done, entry}

unfoldable pub policy : Reading Policy
policy =
    entry (codes "disable_hard_timeout") number_in >>= λ disable_hard_timeout.
    entry (codes "disable_window") number_in >>= λ disable_window.
    entry (codes "retry_count") number_in >>= λ retry_count.
    done (record {
      retry_count = retry_count;
      disable_window = disable_window;
      disable_hard_timeout = disable_hard_timeout;
    })

unfoldable pub failures : Reading FailureParts
failures =
    entry (codes "first") (maybe_in moment_in) >>= λ first.
    entry (codes "moments") (list_in moment_in) >>= λ moments.
    done (record { first = first; moments = moments })

unfoldable pub batcher : Reading BatcherRec
batcher =
    entry (codes "family") as_str >>= λ family.
    entry (codes "names") (list_in as_str) >>= λ names.
    entry (codes "size") (maybe_in number_in) >>= λ size.
    entry (codes "worker") as_str >>= λ worker.
    done (record { worker = worker; family = family; names = names; size = size })

unfoldable pub worker : Reading WorkerRec
worker =
    entry (codes "disabled") as_bool >>= λ disabled.
    entry (codes "id") as_str >>= λ id.
    entry (codes "info") (pairs_in info_in) >>= λ info.
    entry (codes "last_active") moment_in >>= λ last_active.
    entry (codes "last_get_work") (maybe_in moment_in) >>= λ last_get_work.
    entry (codes "started") moment_in >>= λ started.
    done (record {
      id = id;
      started = started;
      last_active = last_active;
      last_get_work = last_get_work;
      info = info;
      disabled = disabled;
    })
