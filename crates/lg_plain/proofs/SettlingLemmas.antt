-- What a task that is set by hand then is, and that the state stays valid.
use Rattle.std.proofs.Common.{◌≡◌, ℕ, Bool, true, false, cond, is_some, IfSome, List, Option, Some, None, refl, sym, ap, subst, ◌∙◌}
use Rattle.std.specs.List.{All}
use Rattle.std.specs.Option.{option_map, option_map_or}
use Rattle.std.proofs.lemmas.Option.{none-some, same_Some}
use Rattle.lg_base.specs.declared.moment.Moment.{Moment}
use Rattle.lg_json.specs.Tree.{null, str}
use Rattle.lg_calls.specs.declared.state.State.{State}
use Rattle.lg_calls.specs.declared.status.Status.{Status}
use Rattle.lg_calls.specs.declared.status.Status.TheVariants.{Pending, Done, Failed}
use Rattle.lg_calls.specs.Settling.{set_where, status_told}
use Rattle.lg_calls.specs.Status.{is_held, forgiven_by, set_alone, set_status}
use Rattle.lg_calls.specs.Task.{Task}
use Rattle.lg_calls.specs.Tasks.{find_task, has_id}
use Rattle.lg_calls.specs.Valid.{is_running, IsValidState, IsValidTask}
use Rattle.lg_calls.specs.Words.{status_word}
use Rattle.lg_plain.proofs.LawLemmas.{find_task-itself}
use Rattle.lg_plain.proofs.OrderedLemmas.{All-find}
use Rattle.lg_plain.proofs.RuleLemmas.{set_alone-free}
use Rattle.lg_plain.proofs.StatusLemmas.{settled-is}

-- ---- the status behind the change

behind-done : (delay : ℕ) (now : Moment) (task : Task) → (set_alone delay now Done task).status ≡ Done
behind-done delay now task =
    ap (λ (t : Task). t.status) (set_alone-free delay now Done task refl ∙ settled-is delay now (is_some task.batch) Done (forgiven_by Done task) refl)

behind-pending : (delay : ℕ) (now : Moment) (task : Task) → is_held Pending task ≡ false → (set_alone delay now Pending task).status ≡ Pending
behind-pending delay now task free =
    ap (λ (t : Task). t.status) (set_alone-free delay now Pending task free ∙ settled-is delay now (is_some task.batch) Pending task refl)

told-set : (s : State) (id : List ℕ) (status : Status) (task : Task) → find_task id s.tasks ≡ Some task
    → (set_alone s.settings.retry_delay s.moment status task).status ≡ status → status_told id (set_status s id status) ≡ str (status_word status)
told-set s id status task found behind =
    ap (λ (here : Option Task). option_map_or (λ (t : Task). str (status_word t.status)) here null) (find_task-itself s id status task found)
    ∙ ap (λ (there : Status). str (status_word there)) behind

-- a failed task isn't one that the scheduler disabled
free-failed : (now : Moment) (task : Task) → IsValidTask now task → task.status ≡ Failed → is_held Pending task ≡ false
free-failed now task valid failed = by_choice (is_some task.disabled_at) refl
  where
    by_choice : (b : Bool) → is_some task.disabled_at ≡ b → b ≡ false
    by_choice true is = let disabled = valid.disabled is in cc
    by_choice false is = refl

found-valid : (P : Task → Type 0) (found : Option Task) (task : Task) → found ≡ Some task → IfSome found P → P task
found-valid P found task is here = subst (λ (o : Option Task). IfSome o P) is here

-- a task that is forgiven is pending
pub told-forgiven : (s : State) (id : List ℕ) (task : Task) → IsValidState s → find_task id s.tasks ≡ Some task → task.status ≡ Failed
    → status_told id (set_status s id Pending) ≡ str (status_word Pending)
told-forgiven s id task valid found failed =
    let here = found-valid (IsValidTask s.moment) (find_task id s.tasks) task found (All-find (IsValidTask s.moment) (has_id id) s.tasks valid.tasks) in
    told-set s id Pending task found (behind-pending s.settings.retry_delay s.moment task (free-failed s.moment task here failed))

-- a task that is taken for done is done
pub told-done : (s : State) (id : List ℕ) (task : Task) → find_task id s.tasks ≡ Some task
    → status_told id (set_status s id Done) ≡ str (status_word Done)
told-done s id task found = told-set s id Done task found (behind-done s.settings.retry_delay s.moment task)

-- the task of a status that was looked up
looked_up : (found : Option Task) (status : Status) → option_map (λ (task : Task). task.status) found ≡ Some status
    → (task : Task) × (found ≡ Some task) × (task.status ≡ status)
looked_up None status is = absurd (none-some status is)
looked_up (Some task) status is = (task, refl, same_Some task.status status is)

pub forgiven-told : (s : State) (id : List ℕ) (tasks : List Task) (there : Option Status) → tasks ≡ s.tasks
    → there ≡ option_map (λ (task : Task). task.status) (find_task id tasks) → there ≡ Some Failed → IsValidState s
    → status_told id (set_status s id Pending) ≡ str (status_word Pending)
forgiven-told s id tasks there all looked is valid =
    let task = looked_up (find_task id s.tasks) Failed (ap (λ ts. option_map (λ (t : Task). t.status) (find_task id ts)) (sym all) ∙ sym looked ∙ is) in
    told-forgiven s id task.0 valid task.1 task.2

pub done-told : (s : State) (id : List ℕ) (tasks : List Task) (there : Option Status) (status : Status) → tasks ≡ s.tasks
    → there ≡ option_map (λ (task : Task). task.status) (find_task id tasks) → there ≡ Some status
    → status_told id (set_status s id Done) ≡ str (status_word Done)
done-told s id tasks there status all looked is =
    let task = looked_up (find_task id s.tasks) status (ap (λ ts. option_map (λ (t : Task). t.status) (find_task id ts)) (sym all) ∙ sym looked ∙ is) in
    told-done s id task.0 task.1

-- ---- the state stays valid

chosen : (b : Bool) (t u : State) → IsValidState t → IsValidState u → IsValidState (cond b t u)
chosen true t u p q = p
chosen false t u p q = q

by_found : (found : Option Task) (step : Task → State) (s : State) → ((task : Task) → IsValidState (step task)) → IsValidState s → IsValidState (option_map_or step found s)
by_found None step s valid here = here
by_found (Some task) step s valid here = valid task

-- a state stays valid where a task is set: a law of this crate
abbrev pub SettingKeeps : Type 0
SettingKeeps = (s : State) (id : List ℕ) (status : Status) → is_running status ≡ false → IsValidState s → IsValidState (set_status s id status)

pub valid-set_where : SettingKeeps → (meant : Status → Bool) (status : Status) (id : List ℕ) (s : State) → is_running status ≡ false → IsValidState s
    → IsValidState (set_where meant status id s)
valid-set_where keeps meant status id s rests valid =
    by_found (find_task id s.tasks) (λ task. cond (meant task.status) (set_status s id status) s) s
    (λ task. chosen (meant task.status) (set_status s id status) s (keeps s id status rests valid) valid) valid
