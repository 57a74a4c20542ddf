-- What is written of a record is read as that record.
use Rattle.std.proofs.Common.{◌≡◌, ℕ, suc, true, List, Option, Some, option_map, codes, drop, refl, ap, ◌∙◌}
use Rattle.std.specs.FinMap.{entries, entries_sorted}
use Rattle.serde_json.specs.Data.{Data, Members, member}
use Rattle.serde_json.specs.Find.{as_bool, as_str}
use Rattle.lg_calls.specs.declared.batcher.BatcherRec.{BatcherRec}
use Rattle.lg_calls.specs.declared.worker.WorkerRec.{WorkerRec}
use Rattle.lg_calls.specs.Task.{Task}
use Rattle.lg_json.specs.Tree.{int, str, members_of as tree_members}
use Rattle.lg_base.specs.Names as names
use Rattle.lg_retry.specs.declared.policy.Policy.{Policy}
use Rattle.lg_retry.specs.Failures.{History}
use Rattle.lg_snapshot.specs.Fitting.{TaskFits, WorkerFits}
use Rattle.lg_snapshot.specs.Holding.{IsHeld}
use Rattle.lg_snapshot.specs.Kinds.{number_in, int_in, moment_in, status_in, maybe_in, list_in, pairs_in, amounts_in, info_in}
use Rattle.lg_snapshot.specs.Reading.{Reading, ◌>>=◌, read_on, done, where_named, entry, record_in}
use Rattle.lg_snapshot.specs.RecordReadings.{policy, failures, batcher, worker}
use Rattle.lg_snapshot.specs.Records.{Fields, task_fields, tree_of_policy, tree_of_failures, tree_of_task, tree_of_worker, tree_of_batcher}
use Rattle.lg_snapshot.specs.TaskReading.{first, second, third, fourth, fifth, sixth, task}
use Rattle.lg_snapshot.specs.Trees.{number, moment, info}
use Rattle.lg_snapshot.proofs.KindBack.{int_back, status_back, maybe_text, maybe_moment, maybe_number, maybe_int, Holds, no_more, texts_back, moments_back, params_back, infos_back, amounts_back, maybe_order, list_order, named_order, info_order}
use Rattle.lg_snapshot.proofs.ReadBack.{data_of, members_of, IsInOrder}
use Rattle.lg_snapshot.proofs.ReadingLemmas.{member_entry}

-- the members of an object that has these fields
abbrev pub said : Fields → Members
said fields = members_of (tree_members fields)

-- the first member is read, and the others behind it
pub step : {A B : Type 0} (name : List ℕ) (kind : Data → Option A) (next : A → Reading B) (d : Data) (left : Members) (x : A) (answer : Option (B × Members))
    → kind d ≡ Some x → next x left ≡ answer → (entry name kind >>= next) (member name d left) ≡ answer
unfolding ◌>>=◌
step name kind next d left x answer is more = ap (λ r. read_on r next) (member_entry name kind d left ∙ ap (λ o. where_named true o left) is) ∙ more

-- a part is read, and the others behind it
pub part : {A B : Type 0} (first : Reading A) (next : A → Reading B) (members left : Members) (x : A) (answer : Option (B × Members))
    → first members ≡ Some (x, left) → next x left ≡ answer → (first >>= next) members ≡ answer
unfolding ◌>>=◌
part first next members left x answer is more = ap (λ r. read_on r next) is ∙ more

pub policy_back : (p : Policy) → record_in policy (data_of (tree_of_policy p)) ≡ Some p
unfolding policy done
policy_back policy =
    ap (option_map (λ read. read.0))
    (step (codes "disable_hard_timeout") number_in _ _ _ policy.disable_hard_timeout _ refl
    (step (codes "disable_window") number_in _ _ _ policy.disable_window _ refl
    (step (codes "retry_count") number_in _ _ _ policy.retry_count _ refl
    refl)))

pub failures_back : (history : History) → IsHeld (tree_of_failures history) → record_in failures (data_of (tree_of_failures history)) ≡ Some (record { first = history.first; moments = history.moments })
unfolding failures done
failures_back history held =
    ap (option_map (λ read. read.0))
    (step (codes "first") (maybe_in moment_in) _ _ _ history.first _ (maybe_moment history.first)
    (step (codes "moments") (list_in moment_in) _ _ _ history.moments _ (moments_back history.moments held.2.1)
    refl))

pub batcher_back : (b : BatcherRec) → IsHeld (tree_of_batcher b) → record_in batcher (data_of (tree_of_batcher b)) ≡ Some b
unfolding batcher done
batcher_back batcher held =
    ap (option_map (λ read. read.0))
    (step (codes "family") as_str _ _ _ batcher.family _ refl
    (step (codes "names") (list_in as_str) _ _ _ batcher.names _ (texts_back batcher.names held.2.1)
    (step (codes "size") (maybe_in number_in) _ _ _ batcher.size _ (maybe_number batcher.size)
    (step (codes "worker") as_str _ _ _ batcher.worker _ refl
    refl))))

pub worker_back : (w : WorkerRec) → IsHeld (tree_of_worker w) → WorkerFits w → record_in worker (data_of (tree_of_worker w)) ≡ Some w
unfolding worker done
worker_back worker held fits =
    ap (option_map (λ read. read.0))
    (step (codes "disabled") as_bool _ _ _ worker.disabled _ refl
    (step (codes "id") as_str _ _ _ worker.id _ refl
    (step (codes "info") (pairs_in info_in) _ _ _ worker.info _ (infos_back worker.info held.2.2.1 fits)
    (step (codes "last_active") moment_in _ _ _ worker.last_active _ refl
    (step (codes "last_get_work") (maybe_in moment_in) _ _ _ worker.last_get_work _ (maybe_moment worker.last_get_work)
    (step (codes "started") moment_in _ _ _ worker.started _ refl
    refl))))))

-- ---- a task, part by part

first_back : (task : Task) → IsHeld (tree_of_task task) → first (said (drop 0 (task_fields task))) ≡ Some (record { accepts_messages = task.accepts_messages; added = task.added; batch = task.batch; batchable = task.batchable; deps = task.deps }, said (drop 5 (task_fields task)))
unfolding first done
first_back task held =
    (step (codes "accepts_messages") as_bool _ _ _ task.accepts_messages _ refl
    (step (codes "added") moment_in _ _ _ task.added _ refl
    (step (codes "batch") (maybe_in as_str) _ _ _ task.batch _ (maybe_text task.batch)
    (step (codes "batchable") as_bool _ _ _ task.batchable _ refl
    (step (codes "deps") (list_in as_str) _ _ _ task.deps _ (texts_back task.deps held.2.2.2.2.1)
    refl)))))

second_back : (task : Task) → IsHeld (tree_of_task task) → second (said (drop 5 (task_fields task))) ≡ Some (record { disabled_at = task.disabled_at; expl = task.expl; failures = (record { first = task.failures.first; moments = task.failures.moments }); family = task.family; id = task.id }, said (drop 10 (task_fields task)))
unfolding second done
second_back task held =
    (step (codes "disabled_at") (maybe_in moment_in) _ _ _ task.disabled_at _ (maybe_moment task.disabled_at)
    (step (codes "expl") (maybe_in as_str) _ _ _ task.expl _ (maybe_text task.expl)
    (step (codes "failures") (record_in failures) _ _ _ (record { first = task.failures.first; moments = task.failures.moments }) _ (failures_back task.failures held.2.2.2.2.2.2.2.1)
    (step (codes "family") as_str _ _ _ task.family _ refl
    (step (codes "id") as_str _ _ _ task.id _ refl
    refl)))))

third_back : (task : Task) → IsHeld (tree_of_task task) → TaskFits task → third (said (drop 10 (task_fields task))) ≡ Some (record { «module» = task.«module»; number = task.number; params = task.params; policy = task.policy; priority = task.priority }, said (drop 15 (task_fields task)))
unfolding third done
third_back task held fits =
    (step (codes "module") (maybe_in as_str) _ _ _ task.«module» _ (maybe_text task.«module»)
    (step (codes "number") number_in _ _ _ task.number _ refl
    (step (codes "params") (pairs_in as_str) _ _ _ task.params _ (params_back task.params held.2.2.2.2.2.2.2.2.2.2.2.2.1)
    (step (codes "policy") (record_in policy) _ _ _ task.policy _ (policy_back task.policy)
    (step (codes "priority") int_in _ _ _ task.priority _ (int_back task.priority fits.priority)
    refl)))))

fourth_back : (task : Task) → IsHeld (tree_of_task task) → TaskFits task → fourth (said (drop 15 (task_fields task))) ≡ Some (record { progress = task.progress; remove = task.remove; resources = task.resources; retry = task.retry; runnable = task.runnable }, said (drop 20 (task_fields task)))
unfolding fourth done
fourth_back task held fits =
    (step (codes "progress") (maybe_in int_in) _ _ _ task.progress _ (maybe_int task.progress fits.progress)
    (step (codes "remove") (maybe_in moment_in) _ _ _ task.remove _ (maybe_moment task.remove)
    (step (codes "resources") amounts_in _ _ _ task.resources _ (amounts_back task.resources held.2.2.2.2.2.2.2.2.2.2.2.2.2.2.2.2.2.1 fits.resources)
    (step (codes "retry") (maybe_in moment_in) _ _ _ task.retry _ (maybe_moment task.retry)
    (step (codes "runnable") as_bool _ _ _ task.runnable _ refl
    refl)))))

fifth_back : (task : Task) → IsHeld (tree_of_task task) → fifth (said (drop 20 (task_fields task))) ≡ Some (record { stakeholders = task.stakeholders; status = task.status; status_message = task.status_message; time_running = task.time_running }, said (drop 24 (task_fields task)))
unfolding fifth done
fifth_back task held =
    (step (codes "stakeholders") (list_in as_str) _ _ _ task.stakeholders _ (texts_back task.stakeholders held.2.2.2.2.2.2.2.2.2.2.2.2.2.2.2.2.2.2.2.2.1)
    (step (codes "status") status_in _ _ _ task.status _ (status_back task.status)
    (step (codes "status_message") (maybe_in as_str) _ _ _ task.status_message _ (maybe_text task.status_message)
    (step (codes "time_running") (maybe_in moment_in) _ _ _ task.time_running _ (maybe_moment task.time_running)
    refl))))

sixth_back : (task : Task) → IsHeld (tree_of_task task) → sixth (said (drop 24 (task_fields task))) ≡ Some (record { tracking_url = task.tracking_url; updated = task.updated; worker_running = task.worker_running; workers = task.workers }, said (drop 28 (task_fields task)))
unfolding sixth done
sixth_back task held =
    (step (codes "tracking_url") (maybe_in as_str) _ _ _ task.tracking_url _ (maybe_text task.tracking_url)
    (step (codes "updated") moment_in _ _ _ task.updated _ refl
    (step (codes "worker_running") (maybe_in as_str) _ _ _ task.worker_running _ (maybe_text task.worker_running)
    (step (codes "workers") (list_in as_str) _ _ _ task.workers _ (texts_back task.workers held.2.2.2.2.2.2.2.2.2.2.2.2.2.2.2.2.2.2.2.2.2.2.2.2.2.2.2.1)
    refl))))

pub task_back : (t : Task) → IsHeld (tree_of_task t) → TaskFits t → record_in task (data_of (tree_of_task t)) ≡ Some t
unfolding task done
task_back t held fits =
    ap (option_map (λ read. read.0))
    (part first _ _ (said (drop 5 (task_fields t))) (record { accepts_messages = t.accepts_messages; added = t.added; batch = t.batch; batchable = t.batchable; deps = t.deps }) _ (first_back t held)
    (part second _ _ (said (drop 10 (task_fields t))) (record { disabled_at = t.disabled_at; expl = t.expl; failures = (record { first = t.failures.first; moments = t.failures.moments }); family = t.family; id = t.id }) _ (second_back t held)
    (part third _ _ (said (drop 15 (task_fields t))) (record { «module» = t.«module»; number = t.number; params = t.params; policy = t.policy; priority = t.priority }) _ (third_back t held fits)
    (part fourth _ _ (said (drop 20 (task_fields t))) (record { progress = t.progress; remove = t.remove; resources = t.resources; retry = t.retry; runnable = t.runnable }) _ (fourth_back t held fits)
    (part fifth _ _ (said (drop 24 (task_fields t))) (record { stakeholders = t.stakeholders; status = t.status; status_message = t.status_message; time_running = t.time_running }) _ (fifth_back t held)
    (part sixth _ _ (said (drop 28 (task_fields t))) (record { tracking_url = t.tracking_url; updated = t.updated; worker_running = t.worker_running; workers = t.workers }) _ (sixth_back t held)
    refl))))))

-- ---- the names of each record rise

pub policy_order : (n : ℕ) (policy : Policy) → IsInOrder (suc n) (tree_of_policy policy)
policy_order n policy = (refl, tt, (refl, tt, (tt, tt, tt)))

pub failures_order : (n : ℕ) (history : History) → IsInOrder (suc (suc n)) (tree_of_failures history)
failures_order n history = (refl, (maybe_order (suc n) moment history.first (λ x. tt)), (tt, (list_order n moment Holds (λ x _. tt) history.moments (no_more history.moments)), tt))

pub batcher_order : (n : ℕ) (batcher : BatcherRec) → IsInOrder (suc (suc n)) (tree_of_batcher batcher)
batcher_order n batcher = (refl, tt, (refl, (list_order n str Holds (λ x _. tt) batcher.names (no_more batcher.names)), (refl, (maybe_order (suc n) number batcher.size (λ x. tt)), (tt, tt, tt))))

pub worker_order : (n : ℕ) (worker : WorkerRec) → names.AreInOrder worker.info → IsInOrder (suc (suc n)) (tree_of_worker worker)
worker_order n worker rise = (refl, tt, (refl, tt, (refl, (named_order n info (λ x. info_order n x) worker.info rise), (refl, tt, (refl, (maybe_order (suc n) moment worker.last_get_work (λ x. tt)), (tt, tt, tt))))))

pub task_order : (n : ℕ) (task : Task) → names.AreInOrder task.params → IsInOrder (suc (suc (suc n))) (tree_of_task task)
task_order n task rise =
    (refl, tt, (refl, tt, (refl, (maybe_order (suc (suc n)) str task.batch (λ x. tt)), (refl, tt, (refl, (list_order (suc n) str Holds (λ x _. tt) task.deps (no_more task.deps)), (refl, (maybe_order (suc (suc n)) moment task.disabled_at (λ x. tt)), (refl, (maybe_order (suc (suc n)) str task.expl (λ x. tt)), (refl, (failures_order n task.failures), (refl, tt, (refl, tt, (refl, (maybe_order (suc (suc n)) str task.«module» (λ x. tt)), (refl, tt, (refl, (named_order (suc n) str (λ x. tt) task.params rise), (refl, (policy_order (suc n) task.policy), (refl, tt, (refl, (maybe_order (suc (suc n)) int task.progress (λ x. tt)), (refl, (maybe_order (suc (suc n)) moment task.remove (λ x. tt)), (refl, (named_order (suc n) number (λ x. tt) (entries task.resources) (entries_sorted task.resources)), (refl, (maybe_order (suc (suc n)) moment task.retry (λ x. tt)), (refl, tt, (refl, (list_order (suc n) str Holds (λ x _. tt) task.stakeholders (no_more task.stakeholders)), (refl, tt, (refl, (maybe_order (suc (suc n)) str task.status_message (λ x. tt)), (refl, (maybe_order (suc (suc n)) moment task.time_running (λ x. tt)), (refl, (maybe_order (suc (suc n)) str task.tracking_url (λ x. tt)), (refl, tt, (refl, (maybe_order (suc (suc n)) str task.worker_running (λ x. tt)), (tt, (list_order (suc n) str Holds (λ x _. tt) task.workers (no_more task.workers)), tt))))))))))))))))))))))))))))
