-- How many tasks each status has, one task after another.
use Rattle.std.proofs.Common.{◌≡◌, ℕ, ◌+◌, ◌<◌, ◌≤◌, Bool, true, false, cond, List, [], ◌∷◌, ◌++◌, length, refl, sym, ap, ◌∙◌, add-zero, arith}
use Rattle.std.specs.Int.{from_bool}
use Rattle.std.specs.Prelude.{count_by, codes}
use Rattle.std.proofs.lemmas.List.Sums.{sum_by_push, count_by-le-length}
use Rattle.lg_calls.specs.declared.status.Status.{Status}
use Rattle.lg_calls.specs.declared.status.Status.TheVariants.{Pending, Running, BatchRunning, Done, Failed, Disabled, Unknown}
use Rattle.lg_calls.specs.Status.{is_status}
use Rattle.lg_calls.specs.Task.{Task}
use Rattle.lg_views.specs.declared.counts.Counts.{Counts}
use Rattle.lg_json.specs.Tree.{Tree}
use Rattle.lg_calls.specs.Views.Trees.{record_of, number}
use Rattle.lg_calls.specs.Views.Counts.{count_of}
use Rattle.lg_views.specs.Counts.{counts_of, with_one_more, AreBelow}

-- one where the statuses are one
abbrev one_if : Status → Status → ℕ
one_if one other = cond (is_status one other) 1 0

record HasOneMore (old new : Counts) (status : Status) : Type 0 where
  batch_running : new.batch_running ≡ old.batch_running + one_if BatchRunning status
  disabled : new.disabled ≡ old.disabled + one_if Disabled status
  done : new.done ≡ old.done + one_if Done status
  failed : new.failed ≡ old.failed + one_if Failed status
  pending : new.pending ≡ old.pending + one_if Pending status
  running : new.running ≡ old.running + one_if Running status
  unknown : new.unknown ≡ old.unknown + one_if Unknown status

-- counts with the same numbers are one
same_counts : (a b : Counts) → a.batch_running ≡ b.batch_running → a.disabled ≡ b.disabled → a.done ≡ b.done → a.failed ≡ b.failed → a.pending ≡ b.pending → a.running ≡ b.running → a.unknown ≡ b.unknown → a ≡ b
same_counts a b batch_running disabled done failed pending running unknown = λ i. record {
  batch_running = batch_running i;
  disabled = disabled i;
  done = done i;
  failed = failed i;
  pending = pending i;
  running = running i;
  unknown = unknown i;
}

one_more : (old new : Counts) (status : Status) → HasOneMore old new status → new ≡ with_one_more old status
one_more old new BatchRunning h = same_counts new _ h.batch_running (h.disabled ∙ add-zero _) (h.done ∙ add-zero _) (h.failed ∙ add-zero _) (h.pending ∙ add-zero _) (h.running ∙ add-zero _) (h.unknown ∙ add-zero _)
one_more old new Disabled h = same_counts new _ (h.batch_running ∙ add-zero _) h.disabled (h.done ∙ add-zero _) (h.failed ∙ add-zero _) (h.pending ∙ add-zero _) (h.running ∙ add-zero _) (h.unknown ∙ add-zero _)
one_more old new Done h = same_counts new _ (h.batch_running ∙ add-zero _) (h.disabled ∙ add-zero _) h.done (h.failed ∙ add-zero _) (h.pending ∙ add-zero _) (h.running ∙ add-zero _) (h.unknown ∙ add-zero _)
one_more old new Failed h = same_counts new _ (h.batch_running ∙ add-zero _) (h.disabled ∙ add-zero _) (h.done ∙ add-zero _) h.failed (h.pending ∙ add-zero _) (h.running ∙ add-zero _) (h.unknown ∙ add-zero _)
one_more old new Pending h = same_counts new _ (h.batch_running ∙ add-zero _) (h.disabled ∙ add-zero _) (h.done ∙ add-zero _) (h.failed ∙ add-zero _) h.pending (h.running ∙ add-zero _) (h.unknown ∙ add-zero _)
one_more old new Running h = same_counts new _ (h.batch_running ∙ add-zero _) (h.disabled ∙ add-zero _) (h.done ∙ add-zero _) (h.failed ∙ add-zero _) (h.pending ∙ add-zero _) h.running (h.unknown ∙ add-zero _)
one_more old new Unknown h = same_counts new _ (h.batch_running ∙ add-zero _) (h.disabled ∙ add-zero _) (h.done ∙ add-zero _) (h.failed ∙ add-zero _) (h.pending ∙ add-zero _) (h.running ∙ add-zero _) h.unknown

count_of-push : (status : Status) (tasks : List Task) (task : Task) → count_of status (tasks ++ task ∷ []) ≡ count_of status tasks + one_if status task.status
count_of-push status tasks task = sum_by_push (λ (t : Task). cond (is_status status t.status) 1 0) tasks task

-- a task more
pub counts_of-push : (tasks : List Task) (task : Task) → counts_of (tasks ++ task ∷ []) ≡ with_one_more (counts_of tasks) task.status
counts_of-push tasks task = one_more (counts_of tasks) (counts_of (tasks ++ task ∷ [])) task.status (record {
  batch_running = count_of-push BatchRunning tasks task;
  disabled = count_of-push Disabled tasks task;
  done = count_of-push Done tasks task;
  failed = count_of-push Failed tasks task;
  pending = count_of-push Pending tasks task;
  running = count_of-push Running tasks task;
  unknown = count_of-push Unknown tasks task;
})

-- no status has more tasks than there are
pub AreBelow-few : (bound : ℕ) (tasks : List Task) → length tasks < bound → AreBelow bound (counts_of tasks)
AreBelow-few bound tasks few = record {
  batch_running = below BatchRunning;
  disabled = below Disabled;
  done = below Done;
  failed = below Failed;
  pending = below Pending;
  running = below Running;
  unknown = below Unknown;
}
  where
    below : (status : Status) → count_of status tasks < bound
    below status = omega (arith, few, count_by-le-length (λ (t : Task). is_status status t.status) tasks)

-- counts, as they are shown
abbrev pub counts_shown : Counts → Tree
counts_shown counts = record_of (
    (codes "BATCH_RUNNING", number counts.batch_running) ∷
    (codes "DISABLED", number counts.disabled) ∷
    (codes "DONE", number counts.done) ∷
    (codes "FAILED", number counts.failed) ∷
    (codes "PENDING", number counts.pending) ∷
    (codes "RUNNING", number counts.running) ∷
    (codes "UNKNOWN", number counts.unknown) ∷ [])

from-cond : (b : Bool) → from_bool b ≡ cond b 1 0
from-cond true = refl
from-cond false = refl

pub from-small : (b : Bool) → from_bool b ≤ 1
from-small true = omega arith
from-small false = omega arith

-- one task more was looked at
pub count_more : (wants : Task → Bool) (seen more : List Task) (task : Task) (old new : ℕ) (met : Bool) → more ≡ seen ++ task ∷ [] → old ≡ count_by wants seen
    → met ≡ wants task → new ≡ old + from_bool met → new ≡ count_by wants more
count_more wants seen more task old new met longer so_far is grown =
    grown
    ∙ ((λ i. so_far i + from_bool (is i))
    ∙ (ap (λ (n : ℕ). count_by wants seen + n) (from-cond (wants task))
    ∙ (sym (sum_by_push (λ (t : Task). cond (wants t) 1 0) seen task) ∙ ap (count_by wants) (sym longer))))
