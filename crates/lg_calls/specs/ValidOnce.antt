-- A state is valid in one way at most, so that a value can keep the fact. This project's own.
use Rattle.std.specs.Prelude.{◌≡◌, ◌^◌, ◌<◌, ◌≤◌, Bool, Option, Some, None, IfSome, List, All}
use Rattle.std.specs.Coded.{Coded-set, Π_prop, →_prop, Unit-prop, le_prop}
use mathlib.Core.Bool.{Bool-set}
use lib.Dec.{T_prop}
use Rattle.lg_base.specs.declared.moment.Moment.{Moment}
use Rattle.lg_retry.specs.declared.policy.Policy.{Policy}
use Rattle.lg_retry.specs.Failures.{History}
use Rattle.lg_calls.specs.contracts.status.Status as statuses
use Rattle.lg_calls.specs.declared.batcher.BatcherRec.{BatcherRec}
use Rattle.lg_calls.specs.declared.settings.Settings.{Settings}
use Rattle.lg_calls.specs.declared.state.State.{State}
use Rattle.lg_calls.specs.declared.status.Status.{Status}
use Rattle.lg_calls.specs.declared.worker.WorkerRec.{WorkerRec}
use Rattle.lg_calls.specs.Settings.{AreInRange}
use Rattle.lg_calls.specs.Task.{Task}
use Rattle.lg_calls.specs.Valid.{NotLater, FitsMoment, IsValidHistory, IsValidPolicy, IsValidTask, IsValidWorker, IsValidBatcher, IsValidState}

test-prop : (a b : Bool) → IsProp (a ≡ b)
test-prop a b = Bool-set a b

status-prop : (a b : Status) → IsProp (a ≡ b)
status-prop a b = Coded-set (statuses.the_row).coded a b

if_some-prop : {X : Type 0} (P : X → Type 0) → ((x : X) → IsProp (P x)) → (o : Option X) → IsProp (IfSome o P)
if_some-prop P one None = Unit-prop
if_some-prop P one (Some x) = one x

all-prop : {X : Type 0} (P : X → Type 0) → ((x : X) → IsProp (P x)) → (xs : List X) → IsProp (All P xs)
all-prop P one xs = Π_prop (λ k. Π_prop (λ d. →_prop (one _)))

history-prop : (now : Moment) (history : History) → IsProp (IsValidHistory now history)
history-prop now history x y = λ i. record {
  first = if_some-prop (λ moment. moment.0 ≤ now.0) (λ _. le_prop) history.first x.first y.first i;
  moments = all-prop (λ moment. moment.0 ≤ now.0) (λ _. le_prop) history.moments x.moments y.moments i;
  in_order = Π_prop (λ j. Π_prop (λ k. Π_prop (λ d. →_prop (→_prop le_prop)))) x.in_order y.in_order i;
}

policy-prop : (policy : Policy) → IsProp (IsValidPolicy policy)
policy-prop policy x y = λ i. record {
  retry_count = le_prop x.retry_count y.retry_count i;
  disable_window = le_prop x.disable_window y.disable_window i;
  disable_hard_timeout = le_prop x.disable_hard_timeout y.disable_hard_timeout i;
}

not_later-prop : (when : Option Moment) (now : Moment) → IsProp (NotLater when now)
not_later-prop when now = if_some-prop (λ moment. moment.0 ≤ now.0) (λ _. le_prop) when

fits-prop : (when : Option Moment) → IsProp (FitsMoment when)
fits-prop when = if_some-prop (λ moment. moment.0 < 2 ^ 63) (λ _. le_prop) when

task-prop : (now : Moment) (task : Task) → IsProp (IsValidTask now task)
task-prop now task x y = λ i. record {
  params = T_prop _ x.params y.params i;
  deps = test-prop _ _ x.deps y.deps i;
  workers = test-prop _ _ x.workers y.workers i;
  stakeholders = test-prop _ _ x.stakeholders y.stakeholders i;
  worker_running = test-prop _ _ x.worker_running y.worker_running i;
  time_running = test-prop _ _ x.time_running y.time_running i;
  batch = →_prop (test-prop _ _) x.batch y.batch i;
  in_batch = →_prop (test-prop _ _) x.in_batch y.in_batch i;
  disabled = →_prop (status-prop _ _) x.disabled y.disabled i;
  failed = →_prop (test-prop _ _) x.failed y.failed i;
  added = le_prop x.added y.added i;
  updated = le_prop x.updated y.updated i;
  running_since = not_later-prop task.time_running now x.running_since y.running_since i;
  disabled_at = not_later-prop task.disabled_at now x.disabled_at y.disabled_at i;
  failures = history-prop now task.failures x.failures y.failures i;
  policy = policy-prop task.policy x.policy y.policy i;
  retry = fits-prop task.retry x.retry y.retry i;
  remove = fits-prop task.remove x.remove y.remove i;
}

worker-prop : (now : Moment) (worker : WorkerRec) → IsProp (IsValidWorker now worker)
worker-prop now worker x y = λ i. record {
  started = le_prop x.started y.started i;
  last_active = le_prop x.last_active y.last_active i;
  last_get_work = not_later-prop worker.last_get_work now x.last_get_work y.last_get_work i;
  info = T_prop _ x.info y.info i;
}

batcher-prop : (batcher : BatcherRec) → IsProp (IsValidBatcher batcher)
batcher-prop batcher x y = λ i. record { size = if_some-prop (λ most. most < 2 ^ 63) (λ _. le_prop) batcher.size x.size y.size i }

settings-prop : (settings : Settings) → IsProp (AreInRange settings)
settings-prop settings x y = λ i. record {
  retry_delay = le_prop x.retry_delay y.retry_delay i;
  remove_delay = le_prop x.remove_delay y.remove_delay i;
  worker_disconnect_delay = le_prop x.worker_disconnect_delay y.worker_disconnect_delay i;
  disable_window = le_prop x.disable_window y.disable_window i;
  disable_hard_timeout = le_prop x.disable_hard_timeout y.disable_hard_timeout i;
  disable_persist = le_prop x.disable_persist y.disable_persist i;
  retry_count = le_prop x.retry_count y.retry_count i;
  max_shown_tasks = le_prop x.max_shown_tasks y.max_shown_tasks i;
  max_graph_nodes = le_prop x.max_graph_nodes y.max_graph_nodes i;
  stable_done_cooldown = le_prop x.stable_done_cooldown y.stable_done_cooldown i;
  some_tasks = le_prop x.some_tasks y.some_tasks i;
  max_tasks = le_prop x.max_tasks y.max_tasks i;
}

-- two proofs that a state is valid are one
pub valid_state-prop : (s : State) → IsProp (IsValidState s)
valid_state-prop s x y = λ i. record {
  moment_in_range = le_prop x.moment_in_range y.moment_in_range i;
  pruned_before = not_later-prop s.pruned s.moment x.pruned_before y.pruned_before i;
  next_in_range = le_prop x.next_in_range y.next_in_range i;
  settings_in_range = settings-prop s.settings x.settings_in_range y.settings_in_range i;
  few_tasks = le_prop x.few_tasks y.few_tasks i;
  ids_differ = test-prop _ _ x.ids_differ y.ids_differ i;
  numbers_rise = test-prop _ _ x.numbers_rise y.numbers_rise i;
  numbers_below_next = all-prop (λ task. task.number < s.next) (λ _. le_prop) s.tasks x.numbers_below_next y.numbers_below_next i;
  tasks = all-prop (IsValidTask s.moment) (task-prop s.moment) s.tasks x.tasks y.tasks i;
  workers_in_order = test-prop _ _ x.workers_in_order y.workers_in_order i;
  workers = all-prop (IsValidWorker s.moment) (worker-prop s.moment) s.workers x.workers y.workers i;
  batchers_in_order = test-prop _ _ x.batchers_in_order y.batchers_in_order i;
  batchers = all-prop IsValidBatcher batcher-prop s.batchers x.batchers y.batchers i;
}
