-- What the change of status comes to on the list: who stays, and what is set twice.
use Rattle.std.proofs.Common.{Ordering, Less, Equal, Greater, ◌≡◌, ◌≢◌, ℕ, ◌+◌, Bool, true, false, cond, not, ◌&&◌, ◌||◌, is_some, IsSome, Option, Some, None, option_and_then, List, [], ◌∷◌, map, refl, sym, ap, ◌∙◌}
use Rattle.std.proofs.lemmas.Bool.{false≢true}
use Rattle.std.specs.Cmp.{tied_itself}
use Rattle.std.specs.Cmp.Lexicographic.{slice_cmp, nat_list_cmp_total}
use Rattle.std.specs.FinMap.{nat_cmp-IsAntisymmetric, slice_cmp-IsAntisymmetric}
use Rattle.std.specs.Option.{option_map}
use Rattle.std.specs.Ordering.{nat_cmp, is_eq}
use Rattle.lg_base.specs.declared.moment.Moment.{Moment}
use Rattle.lg_calls.specs.declared.state.State.{State}
use Rattle.lg_calls.specs.declared.status.Status.{Status}
use Rattle.lg_calls.specs.declared.status.Status.TheVariants.{Pending, Running, BatchRunning, Done, Failed, Disabled, Unknown}
use Rattle.lg_calls.specs.Status.{is_status, is_held, forgiven, forgiven_by, failed_once_more, judged, carried_out, set_alone, enabled_alone, is_claim, is_batch, batch_along, runs_in, is_meant, along_with, set_status, enable}
use Rattle.lg_calls.specs.Order.{is_same}
use Rattle.lg_calls.specs.Task.{Task}
use Rattle.lg_calls.specs.Tasks.{ids_of, numbers_of, has_id, find_task, change_meant, change_task}
use Rattle.lg_plain.specs.Laws.{rest_of, BeginsAnew}
use Rattle.lg_plain.proofs.ListLemmas.{map-change_meant, find_task-change_meant, find_task-has}
use Rattle.lg_plain.proofs.RuleLemmas.{set_alone-held, set_alone-free}
use Rattle.lg_plain.proofs.StatusLemmas.{settled, settled-is, running-is, rest-set_alone, rest-enabled_alone, is_status-along, is_status-is}

-- ---- who stays

stays-held : (status : Status) (task : Task) → status ≢ Done → status ≢ Disabled → IsSome task.disabled_at → is_held status task ≡ true
stays-held Pending task done disabled some = some
stays-held Running task done disabled some = some
stays-held BatchRunning task done disabled some = some
stays-held Done task done disabled some = absurd (done refl)
stays-held Failed task done disabled some = some
stays-held Disabled task done disabled some = absurd (disabled refl)
stays-held Unknown task done disabled some = some

same-cond : {X : Type 0} (b : Bool) (one other : X) → one ≡ other → cond b one other ≡ other
same-cond true one other e = e
same-cond false one other e = refl

id-kept : (delay : ℕ) (now : Moment) (status : Status) (task : Task) → (set_alone delay now status task).id ≡ task.id
id-kept delay now status task = ap (λ (t : Task). t.id) (rest-set_alone delay now status task)

pub find_task-set_status : (s : State) (id : List ℕ) (status : Status) → status ≢ Done → status ≢ Disabled
    → (other : List ℕ) (task : Task) → find_task other s.tasks ≡ Some task → IsSome task.disabled_at → find_task other (set_status s id status).tasks ≡ Some task
find_task-set_status s id status done disabled other task found some =
    let change : Task → Task = set_alone s.settings.retry_delay s.moment status in
    let meant : Task → Bool = is_meant id (along_with status id s.tasks) in
    find_task-change_meant meant change (id-kept s.settings.retry_delay s.moment status) other s.tasks
    ∙ ap (option_map (λ t. cond (meant t) (change t) t)) found
    ∙ ap Some (same-cond (meant task) (change task) task (set_alone-held s.settings.retry_delay s.moment status task (stays-held status task done disabled some)))

-- ---- who goes along

equal : (o : Ordering) → is_eq o ≡ true → o ≡ Equal
equal Less e = cc
equal Equal e = refl
equal Greater e = cc

is_same-is : (one other : List ℕ) → is_same one other ≡ true → one ≡ other
is_same-is one other e = slice_cmp-IsAntisymmetric nat_cmp-IsAntisymmetric one other (equal (slice_cmp nat_cmp one other) e)

is_batch-itself : (batch : Option (List ℕ)) → is_some batch ≡ true → is_batch batch batch ≡ true
is_batch-itself None some = some
is_batch-itself (Some text) some = ap is_eq (tied_itself nat_list_cmp_total text)

is_status-other : (one other : Status) → one ≢ other → is_status one other ≡ false
is_status-other one other apart = by_choice (is_status one other) refl
  where
    by_choice : (b : Bool) → is_status one other ≡ b → b ≡ false
    by_choice true e = absurd (apart (is_status-is one other e))
    by_choice false e = refl

and_false : (b : Bool) → (b && false) ≡ false
and_false true = refl
and_false false = refl

or_true : (a : Bool) → (a || true) ≡ true
or_true true = refl
or_true false = refl

both_true : (a b : Bool) → (a && b) ≡ true → b ≡ true
both_true true b e = e
both_true false b e = absurd (false≢true e)

takes : (status : Status) (claim : Task) → is_claim claim ≡ true → status ≢ Running → is_held status claim ≡ false → batch_along status claim ≡ claim.batch
takes status claim claims apart free =
    ap (λ c. cond (c && not (is_status Running status) && not (is_held status claim)) claim.batch None) claims
    ∙ ap (λ r. cond (not r && not (is_held status claim)) claim.batch None) (is_status-other Running status (λ e. apart (sym e)))
    ∙ ap (λ h. cond (not h) claim.batch None) free

-- each task of the batch of a claim is set by itself
pub find_task-along : (s : State) (id : List ℕ) (status : Status) (claim : Task) → find_task id s.tasks ≡ Some claim
    → is_claim claim ≡ true → status ≢ Running → is_held status claim ≡ false
    → (other : List ℕ) (task : Task) → find_task other s.tasks ≡ Some task
    → task.status ≡ BatchRunning → task.batch ≡ claim.batch
    → find_task other (set_status s id status).tasks ≡ Some (set_alone s.settings.retry_delay s.moment status task)
find_task-along s id status claim here claims apart free other task found runs batch =
    let change : Task → Task = set_alone s.settings.retry_delay s.moment status in
    let along = along_with status id s.tasks in
    let same : along ≡ claim.batch = ap (option_and_then (batch_along status)) here ∙ takes status claim claims apart free in
    let in_batch : is_batch along task.batch ≡ true =
    ap (λ b. is_batch b task.batch) same ∙ ap (is_batch claim.batch) batch ∙ is_batch-itself claim.batch (both_true (is_status Running claim.status) (is_some claim.batch) claims) in
    let meant : is_meant id along task ≡ true =
    ap (λ b. has_id id task || (b && is_status BatchRunning task.status)) in_batch
    ∙ ap (λ b. has_id id task || b) (is_status-along BatchRunning task.status (sym runs)) ∙ or_true (has_id id task) in
    find_task-change_meant (is_meant id along) change (id-kept s.settings.retry_delay s.moment status) other s.tasks
    ∙ ap (option_map (λ t. cond (is_meant id along t) (change t) t)) found
    ∙ ap (λ b. Some (cond b (change task) task)) meant

has_id-other : (id other : List ℕ) (task : Task) → has_id other task ≡ true → other ≢ id → (b : Bool) → has_id id task ≡ b → b ≡ false
has_id-other id other task has apart true e = absurd (apart (is_same-is other task.id has ∙ sym (is_same-is id task.id e)))
has_id-other id other task has apart false e = refl

-- and whoever doesn't run for another changes by its own id alone
pub find_task-apart : (s : State) (id : List ℕ) (status : Status) (other : List ℕ) (task : Task)
    → find_task other s.tasks ≡ Some task → other ≢ id → task.status ≢ BatchRunning
    → find_task other (set_status s id status).tasks ≡ Some task
find_task-apart s id status other task found apart rests =
    let change : Task → Task = set_alone s.settings.retry_delay s.moment status in
    let along = along_with status id s.tasks in
    let meant : is_meant id along task ≡ false =
    ap (λ b. b || runs_in along task) (has_id-other id other task (find_task-has other s.tasks task found) apart (has_id id task) refl)
    ∙ ap (λ b. is_batch along task.batch && b) (is_status-other BatchRunning task.status (λ e. rests (sym e))) ∙ and_false (is_batch along task.batch) in
    find_task-change_meant (is_meant id along) change (id-kept s.settings.retry_delay s.moment status) other s.tasks
    ∙ ap (option_map (λ t. cond (is_meant id along t) (change t) t)) found
    ∙ ap (λ b. Some (cond b (change task) task)) meant

is_batch-is : (one other : Option (List ℕ)) → is_batch one other ≡ true → one ≡ other
is_batch-is None other e = absurd (false≢true e)
is_batch-is (Some text) None e = absurd (false≢true e)
is_batch-is (Some text) (Some other) e = ap Some (is_same-is text other e)

-- whoever runs in no batch that goes along stays
stays-apart : (s : State) (id : List ℕ) (status : Status) (other : List ℕ) (task : Task) → find_task other s.tasks ≡ Some task → other ≢ id
    → is_batch (along_with status id s.tasks) task.batch ≡ false → find_task other (set_status s id status).tasks ≡ Some task
stays-apart s id status other task found apart outside =
    let change : Task → Task = set_alone s.settings.retry_delay s.moment status in
    let along = along_with status id s.tasks in
    let meant : is_meant id along task ≡ false =
    ap (λ b. b || runs_in along task) (has_id-other id other task (find_task-has other s.tasks task found) apart (has_id id task) refl)
    ∙ ap (λ b. b && is_status BatchRunning task.status) outside in
    find_task-change_meant (is_meant id along) change (id-kept s.settings.retry_delay s.moment status) other s.tasks
    ∙ ap (option_map (λ t. cond (is_meant id along t) (change t) t)) found
    ∙ ap (λ b. Some (cond b (change task) task)) meant

-- who runs in another batch
other-batch : (b : Bool) (one task : Task) → task.batch ≢ one.batch → (inside : Bool) → is_batch (cond b one.batch None) task.batch ≡ inside → inside ≡ false
other-batch b one task apart false e = refl
other-batch true one task apart true e = absurd (apart (sym (is_batch-is one.batch task.batch e)))
other-batch false one task apart true e = sym e

pub find_task-other_batch : (s : State) (id : List ℕ) (status : Status) (one : Task) → find_task id s.tasks ≡ Some one
    → (other : List ℕ) (task : Task) → find_task other s.tasks ≡ Some task → other ≢ id → task.batch ≢ one.batch
    → find_task other (set_status s id status).tasks ≡ Some task
find_task-other_batch s id status one here other task found apart outside =
    stays-apart s id status other task found apart
    (ap (λ (o : Option Task). is_batch (option_and_then (batch_along status) o) task.batch) here
    ∙ other-batch (is_claim one && not (is_status Running status) && not (is_held status one)) one task outside (is_batch (batch_along status one) task.batch) refl)

-- where the task that is set is no claim
pub find_task-no_claim : (s : State) (id : List ℕ) (status : Status) (one : Task) → find_task id s.tasks ≡ Some one → is_claim one ≡ false
    → (other : List ℕ) (task : Task) → find_task other s.tasks ≡ Some task → other ≢ id
    → find_task other (set_status s id status).tasks ≡ Some task
find_task-no_claim s id status one here alone other task found apart =
    stays-apart s id status other task found apart
    (ap (λ (o : Option Task). is_batch (option_and_then (batch_along status) o) task.batch) here
    ∙ ap (λ c. is_batch (cond (c && not (is_status Running status) && not (is_held status one)) one.batch None) task.batch) alone)

-- the task of the id is set by itself
pub find_task-itself : (s : State) (id : List ℕ) (status : Status) (task : Task) → find_task id s.tasks ≡ Some task
    → find_task id (set_status s id status).tasks ≡ Some (set_alone s.settings.retry_delay s.moment status task)
find_task-itself s id status task found =
    let change : Task → Task = set_alone s.settings.retry_delay s.moment status in
    let along = along_with status id s.tasks in
    find_task-change_meant (is_meant id along) change (id-kept s.settings.retry_delay s.moment status) id s.tasks
    ∙ ap (option_map (λ t. cond (is_meant id along t) (change t) t)) found
    ∙ ap (λ b. Some (cond (b || runs_in along task) (change task) task)) (find_task-has id s.tasks task found)

-- enabling changes one
pub find_task-enable : (s : State) (id : List ℕ) (other : List ℕ) (task : Task) → find_task other s.tasks ≡ Some task → other ≢ id
    → find_task other (enable s id).tasks ≡ Some task
find_task-enable s id other task found apart =
    let change : Task → Task = enabled_alone s.settings.retry_delay s.moment in
    find_task-change_meant (has_id id) change (λ t. ap (λ (t : Task). t.id) (rest-enabled_alone s.settings.retry_delay s.moment t)) other s.tasks
    ∙ ap (option_map (λ t. cond (has_id id t) (change t) t)) found
    ∙ ap (λ b. Some (cond b (change task) task)) (has_id-other id other task (find_task-has other s.tasks task found) apart (has_id id task) refl)

-- ---- what is set twice

first_false : (a b : Bool) → (a || b) ≡ false → a ≡ false
first_false true b e = e
first_false false b e = refl

or_false : (a : Bool) → a ≡ false → (a || false) ≡ false
or_false a e = ap (λ b. b || false) e

-- where a task comes to rest, it is there already the second time
twice-settled : (delay : ℕ) (now : Moment) (status : Status) (task settled_task : Task) → set_alone delay now status task ≡ settled_task → set_alone delay now status settled_task ≡ settled_task
    → set_alone delay now status (set_alone delay now status task) ≡ set_alone delay now status task
twice-settled delay now status task settled_task first again = ap (set_alone delay now status) first ∙ again ∙ sym first

free-once : (delay : ℕ) (now : Moment) (status : Status) (task : Task) → status ≢ Failed → is_held status task ≡ false
    → (u : Task) × (set_alone delay now status task ≡ u) × (set_alone delay now status u ≡ u) × (batch_along status u ≡ None)
free-once delay now Pending task apart free =
    let u = settled delay now (is_some task.batch) Pending task in (
      u,
      set_alone-free delay now Pending task free ∙ settled-is delay now (is_some task.batch) Pending task refl,
      set_alone-free delay now Pending u free ∙ settled-is delay now false Pending u refl,
      refl,
    )
free-once delay now Unknown task apart free =
    let u = settled delay now (is_some task.batch) Unknown task in (
      u,
      set_alone-free delay now Unknown task free ∙ settled-is delay now (is_some task.batch) Unknown task refl,
      set_alone-free delay now Unknown u free ∙ settled-is delay now false Unknown u refl,
      refl,
    )
free-once delay now Done task apart free =
    let u = settled delay now (is_some task.batch) Done (forgiven_by Done task) in (
      u,
      set_alone-free delay now Done task free ∙ settled-is delay now (is_some task.batch) Done (forgiven_by Done task) refl,
      set_alone-free delay now Done u refl ∙ settled-is delay now false Done u refl,
      refl,
    )
free-once delay now Disabled task apart free =
    let begun : Task = record task { disabled_at = None } in
    let u = settled delay now (is_some task.batch) Disabled begun in (
      u,
      set_alone-free delay now Disabled task free ∙ settled-is delay now (is_some task.batch) Disabled begun refl,
      set_alone-free delay now Disabled u refl ∙ settled-is delay now false Disabled u refl,
      refl,
    )
free-once delay now Failed task apart free = absurd (apart refl)
free-once delay now Running task apart free =
    let u : Task = record task { status = Running; updated = cond (is_status Running task.status) task.updated now } in (
      u,
      running-is delay now Running task refl free,
      running-is delay now Running u refl free,
      ap (λ b. cond (b && not (is_held Running u)) u.batch None) (and_false (is_claim u)),
    )
free-once delay now BatchRunning task apart free =
    let u : Task = record task { status = BatchRunning; updated = cond (is_status BatchRunning task.status) task.updated now } in
    (u, running-is delay now BatchRunning task refl free, running-is delay now BatchRunning u refl free, refl)

-- one task by itself that is set twice is set once, and takes none along the second time
twice-alone : (delay : ℕ) (now : Moment) (status : Status) (task : Task) → status ≢ Failed
    → (set_alone delay now status (set_alone delay now status task) ≡ set_alone delay now status task) × (batch_along status (set_alone delay now status task) ≡ None)
twice-alone delay now status task apart = by_held (is_held status task) refl
  where
    by_held : (held : Bool) → is_held status task ≡ held
        → (set_alone delay now status (set_alone delay now status task) ≡ set_alone delay now status task) × (batch_along status (set_alone delay now status task) ≡ None)
    by_held true e =
        let same = set_alone-held delay now status task e in (
          ap (set_alone delay now status) same,
          ap (batch_along status) same ∙ ap (λ held. cond (is_claim task && not (is_status Running status) && not held) task.batch None) e
              ∙ ap (λ b. cond b task.batch None) (and_false (is_claim task && not (is_status Running status))),
        )
    by_held false e =
        let u = free-once delay now status task apart e in
        (twice-settled delay now status task u.0 u.1 u.2, ap (batch_along status) u.1 ∙ u.3)

-- whoever isn't meant the first time isn't meant the second time
again-cond : (id : List ℕ) (along : Option (List ℕ)) (change : Task → Task) (task : Task) → change (change task) ≡ change task → (b : Bool) → is_meant id along task ≡ b
    → cond (is_meant id None (cond b (change task) task)) (change (cond b (change task) task)) (cond b (change task) task) ≡ cond b (change task) task
again-cond id along change task twice true e = same-cond (is_meant id None (change task)) (change (change task)) (change task) twice
again-cond id along change task twice false e =
    ap (λ b. cond b (change task) task) (or_false (has_id id task) (first_false (has_id id task) (runs_in along task) e))

again-meant : (id : List ℕ) (along : Option (List ℕ)) (change : Task → Task) → ((task : Task) → change (change task) ≡ change task) → (tasks : List Task)
    → change_meant (is_meant id None) change (change_meant (is_meant id along) change tasks) ≡ change_meant (is_meant id along) change tasks
again-meant id along change twice [] = refl
again-meant id along change twice (task ∷ tasks) =
    λ i. again-cond id along change task (twice task) (is_meant id along task) refl i ∷ again-meant id along change twice tasks i

none-along : (id : List ℕ) (along : Option (List ℕ)) (status : Status) (change : Task → Task) → ((task : Task) → batch_along status (change task) ≡ None)
    → (tasks : List Task) (found : Option Task) → find_task id tasks ≡ found → option_and_then (batch_along status) (option_map (λ t. cond (is_meant id along t) (change t) t) found) ≡ None
none-along id along status change none tasks None e = refl
none-along id along status change none tasks (Some task) e =
    ap (λ a. batch_along status (cond (a || runs_in along task) (change task) task)) (find_task-has id tasks task e) ∙ none task

pub set_status-set_status : (s : State) (id : List ℕ) (status : Status) → status ≢ Failed → set_status (set_status s id status) id status ≡ set_status s id status
set_status-set_status s id status apart =
    let change : Task → Task = set_alone s.settings.retry_delay s.moment status in
    let along = along_with status id s.tasks in
    let behind = change_meant (is_meant id along) change s.tasks in
    let none : along_with status id behind ≡ None =
    ap (option_and_then (batch_along status)) (find_task-change_meant (is_meant id along) change (id-kept s.settings.retry_delay s.moment status) id s.tasks)
    ∙ none-along id along status change (λ task. (twice-alone s.settings.retry_delay s.moment status task apart).1) s.tasks (find_task id s.tasks) refl in
    ap (λ (a : Option (List ℕ)). record s { tasks = change_meant (is_meant id a) change behind }) none
    ∙ ap (λ (tasks : List Task). record s { tasks = tasks }) (again-meant id along change (λ task. (twice-alone s.settings.retry_delay s.moment status task apart).0) s.tasks)

-- ---- who is enabled

enabled-is : (delay : ℕ) (now : Moment) (task : Task) → task.status ≡ Disabled → enabled_alone delay now task ≡ settled delay now (is_some task.batch) Failed (forgiven task)
enabled-is delay now task disabled =
    set_alone-free delay now Failed (forgiven task) refl
    ∙ ap (λ b. carried_out delay now (is_some task.batch) (cond b (forgiven task, Failed) (judged now (failed_once_more now (forgiven task))))) (is_status-along Disabled task.status (sym disabled))
    ∙ settled-is delay now (is_some task.batch) Failed (forgiven task) refl

pub begins_anew : (delay : ℕ) (now : Moment) (task : Task) → task.status ≡ Disabled → BeginsAnew (record { 0 = now.0 + delay }) (enabled_alone delay now task)
begins_anew delay now task disabled =
    let same = enabled-is delay now task disabled in
    record {
      status = ap (λ (t : Task). t.status) same;
      failures = ap (λ (t : Task). t.failures) same;
      disabled_at = ap (λ (t : Task). t.disabled_at) same;
      retry_at = ap (λ (t : Task). t.retry) same;
    }

forgotten-cond : (id : List ℕ) (change : Task → Task) (task : Task) (b : Bool) → has_id id task ≡ b
    → cond b (change (forgiven task)) task ≡ cond (is_meant id None (cond b (forgiven task) task)) (change (cond b (forgiven task) task)) (cond b (forgiven task) task)
forgotten-cond id change task true e = ap (λ a. cond (a || false) (change (forgiven task)) (forgiven task)) (sym e)
forgotten-cond id change task false e = ap (λ a. cond (a || false) (change task) task) (sym e)

forgotten-meant : (id : List ℕ) (change : Task → Task) (tasks : List Task)
    → change_task id (λ task. change (forgiven task)) tasks ≡ change_meant (is_meant id None) change (change_task id forgiven tasks)
forgotten-meant id change [] = refl
forgotten-meant id change (task ∷ tasks) = λ i. forgotten-cond id change task (has_id id task) refl i ∷ forgotten-meant id change tasks i

no_claim : (task : Task) → task.status ≡ Disabled → batch_along Failed task ≡ None
no_claim task disabled = ap (λ (status : Status). cond (is_status Running status && is_some task.batch && true && not (is_held Failed task)) task.batch None) disabled

status-cond : (b : Bool) (task : Task) → (cond b (forgiven task) task).status ≡ task.status
status-cond true task = refl
status-cond false task = refl

pub enable-is : (s : State) (id : List ℕ) (task : Task) → find_task id s.tasks ≡ Some task → task.status ≡ Disabled
    → enable s id ≡ set_status (record s { tasks = change_task id forgiven s.tasks }) id Failed
enable-is s id task found disabled =
    let change : Task → Task = set_alone s.settings.retry_delay s.moment Failed in
    let forgotten = change_task id forgiven s.tasks in
    let none : along_with Failed id forgotten ≡ None =
    ap (option_and_then (batch_along Failed)) (find_task-change_meant (has_id id) forgiven (λ t. refl) id s.tasks ∙ ap (option_map (λ t. cond (has_id id t) (forgiven t) t)) found)
    ∙ no_claim (cond (has_id id task) (forgiven task) task) (status-cond (has_id id task) task ∙ disabled) in
    ap (λ (tasks : List Task). record s { tasks = tasks }) (forgotten-meant id change s.tasks)
    ∙ sym (ap (λ (a : Option (List ℕ)). record s { tasks = change_meant (is_meant id a) change forgotten }) none)

-- ---- what stays

pub map-rest : {X : Type 0} (field : Task → X) (one other : List Task) → ((task : Task) → field (rest_of task) ≡ field task) → map rest_of one ≡ map rest_of other → map field one ≡ map field other
map-rest field one other kept same =
    sym (fields field one kept) ∙ ap (map field) same ∙ fields field other kept
  where
    fields : {X : Type 0} (field : Task → X) (tasks : List Task) → ((task : Task) → field (rest_of task) ≡ field task) → map field (map rest_of tasks) ≡ map field tasks
    fields field [] kept = refl
    fields field (task ∷ tasks) kept = λ i. kept task i ∷ fields field tasks kept i

pub rest-set_status : (s : State) (id : List ℕ) (status : Status) → map rest_of (set_status s id status).tasks ≡ map rest_of s.tasks
rest-set_status s id status =
    map-change_meant rest_of (is_meant id (along_with status id s.tasks)) (set_alone s.settings.retry_delay s.moment status) (rest-set_alone s.settings.retry_delay s.moment status) s.tasks

pub rest-enable : (s : State) (id : List ℕ) → map rest_of (enable s id).tasks ≡ map rest_of s.tasks
rest-enable s id =
    map-change_meant rest_of (has_id id) (enabled_alone s.settings.retry_delay s.moment) (rest-enabled_alone s.settings.retry_delay s.moment) s.tasks

pub ids_of-set_status : (s : State) (id : List ℕ) (status : Status) → ids_of (set_status s id status).tasks ≡ ids_of s.tasks
ids_of-set_status s id status = map-rest (λ task. task.id) (set_status s id status).tasks s.tasks (λ task. refl) (rest-set_status s id status)

pub numbers_of-set_status : (s : State) (id : List ℕ) (status : Status) → numbers_of (set_status s id status).tasks ≡ numbers_of s.tasks
numbers_of-set_status s id status = map-rest (λ task. task.number) (set_status s id status).tasks s.tasks (λ task. refl) (rest-set_status s id status)
