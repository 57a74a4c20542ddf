-- Reading a state of a snapshot. This project's own.
use Rattle.std.specs.Prelude.{None, codes}
use Rattle.serde_json.specs.Find.{as_bool}
use Rattle.lg_calls.specs.declared.settings.Settings.{Settings}
use Rattle.lg_calls.specs.declared.state.State.{State}
use Rattle.lg_snapshot.specs.Kinds.{number_in, moment_in, list_in, amounts_in}
use Rattle.lg_snapshot.specs.Reading.{Reading, ◌>>=◌, done, entry, record_in}
use Rattle.lg_snapshot.specs.RecordReadings.{batcher, worker}
use Rattle.lg_snapshot.specs.TaskReading.{task}

-- the state has the settings that are given, and no moment of the last pruning
unfoldable pub state : Settings → Reading State
state settings =
    entry (codes "batchers") (list_in (record_in batcher)) >>= λ batchers.
    entry (codes "limits") amounts_in >>= λ limits.
    entry (codes "moment") moment_in >>= λ moment.
    entry (codes "next") number_in >>= λ next.
    entry (codes "paused") as_bool >>= λ paused.
    entry (codes "tasks") (list_in (record_in task)) >>= λ tasks.
    entry (codes "version") number_in >>= λ version.
    entry (codes "workers") (list_in (record_in worker)) >>= λ workers.
    done (record {
      tasks = tasks;
      workers = workers;
      batchers = batchers;
      limits = limits;
      paused = paused;
      moment = moment;
      pruned = None;
      next = next;
      settings = settings;
    })
