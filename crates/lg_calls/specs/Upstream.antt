-- What a task waits for at worst. This project's own, after Luigi's central scheduler.
use Rattle.std.specs.Prelude.{ℕ, nat_le, Bool, true, false, not, ◌&&◌, if◌then◌else◌, Option, Some, None, List, [], codes, filter, fold}
use Rattle.std.specs.List.{list_any}
use Rattle.lg_calls.specs.declared.status.Status.{Status}
use Rattle.lg_calls.specs.declared.status.Status.TheVariants as S
use Rattle.lg_calls.specs.declared.upstream.UpstreamStatus.{UpstreamStatus}
use Rattle.lg_calls.specs.declared.upstream.UpstreamStatus.TheVariants as U
use Rattle.lg_calls.specs.Paths.{is_path_through}
use Rattle.lg_calls.specs.Status.{is_status}
use Rattle.lg_calls.specs.Task.{Task}
use Rattle.lg_calls.specs.Tasks.{has_id}

-- what a status by itself means to those that wait for it: nothing where it is DONE or UNKNOWN
abbrev pub own_upstream : Status → Option UpstreamStatus
own_upstream S.Pending = Some U.MissingInput
own_upstream S.Running = Some U.Running
own_upstream S.BatchRunning = Some U.Running
own_upstream S.Done = None
own_upstream S.Failed = Some U.Failed
own_upstream S.Disabled = Some U.Disabled
own_upstream S.Unknown = None

-- how bad each is
abbrev pub severity : UpstreamStatus → ℕ
severity U.Running = 1
severity U.MissingInput = 2
severity U.Failed = 3
severity U.Disabled = 4

-- the worse of two, where there are both
abbrev pub worse : Option UpstreamStatus → Option UpstreamStatus → Option UpstreamStatus
worse None other = other
worse (Some one) None = Some one
worse (Some one) (Some other) = if nat_le (severity other) (severity one) then Some one else Some other

-- a task is open: it is PENDING, and waits for others
abbrev pub is_open : Task → Bool
is_open task = is_status S.Pending task.status && waits task.deps where
  waits : List (List ℕ) → Bool
  waits [] = false
  waits _ = true

-- an open task waits for another, which is one of its dependencies
abbrev pub waits_for : Task → Task → Bool
waits_for task other = is_open task && list_any (λ id. has_id id other) task.deps

-- the tasks that a task waits for in the end: those that aren't open and to which a path leads through open ones
abbrev pub waited_for : List Task → Task → List Task
waited_for tasks task = filter (λ other. not (is_open other) && is_path_through waits_for tasks task other) tasks

-- the worst of what these tasks are by themselves
abbrev pub worst_of : List Task → Option UpstreamStatus
worst_of tasks = fold (λ worst (task : Task). worse worst (own_upstream task.status)) None tasks

-- an open task is as bad as the worst that it waits for, and every other one as it is by itself
unfoldable pub upstream_status : List Task → Task → Option UpstreamStatus
upstream_status tasks task = if is_open task then worst_of (waited_for tasks task) else own_upstream task.status

-- a task is hopeless: it is disabled, or waits for one that is
abbrev pub is_hopeless : List Task → Task → Bool
is_hopeless tasks task = is_disabled (upstream_status tasks task) where
  is_disabled : Option UpstreamStatus → Bool
  is_disabled (Some U.Disabled) = true
  is_disabled _ = false

-- the words by which they are asked for
abbrev pub upstream_word : UpstreamStatus → List ℕ
upstream_word U.Running = codes "UPSTREAM_RUNNING"
upstream_word U.MissingInput = codes "UPSTREAM_MISSING_INPUT"
upstream_word U.Failed = codes "UPSTREAM_FAILED"
upstream_word U.Disabled = codes "UPSTREAM_DISABLED"
