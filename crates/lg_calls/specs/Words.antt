-- The words of the statuses. This project's own, after Luigi's central scheduler.
use Rattle.std.specs.Prelude.{ℕ, List, [], ◌∷◌, Option, codes}
use Rattle.std.specs.List.{find}
use Rattle.std.specs.Str.{bytes_eq}
use Rattle.lg_calls.specs.declared.status.Status.{Status}
use Rattle.lg_calls.specs.declared.status.Status.TheVariants as S
use Rattle.lg_calls.specs.declared.status.Reported.{Reported}
use Rattle.lg_calls.specs.declared.status.Reported.TheVariants as R

-- where a task stands
abbrev pub status_word : Status → List ℕ
status_word S.Pending = codes "PENDING"
status_word S.Running = codes "RUNNING"
status_word S.BatchRunning = codes "BATCH_RUNNING"
status_word S.Done = codes "DONE"
status_word S.Failed = codes "FAILED"
status_word S.Disabled = codes "DISABLED"
status_word S.Unknown = codes "UNKNOWN"

abbrev pub statuses : List Status
statuses =
    S.Pending ∷ S.Running ∷ S.BatchRunning ∷ S.Done ∷ S.Failed ∷ S.Disabled ∷ S.Unknown ∷ []

-- what a worker reports of a task
abbrev pub reported_word : Reported → List ℕ
reported_word R.Pending = codes "PENDING"
reported_word R.Running = codes "RUNNING"
reported_word R.Done = codes "DONE"
reported_word R.Failed = codes "FAILED"
reported_word R.Disabled = codes "DISABLED"
reported_word R.Unknown = codes "UNKNOWN"
reported_word R.Suspended = codes "SUSPENDED"

abbrev pub reports : List Reported
reports =
    R.Pending ∷ R.Running ∷ R.Done ∷ R.Failed ∷ R.Disabled ∷ R.Unknown ∷ R.Suspended ∷ []

-- the one among these that has the word
abbrev pub named : {A : Type 0} → (A → List ℕ) → List A → List ℕ → Option A
named word_of all word = find (λ x. bytes_eq (word_of x) word) all
