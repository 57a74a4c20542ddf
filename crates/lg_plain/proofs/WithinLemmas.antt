-- What all RUNNING tasks take of a resource stays within its limit where a worker asks for work.
use Rattle.std.proofs.Common.{◌≡◌, ℕ, ◌+◌, ◌≤◌, Bool, true, false, cond, IsTrue, List, [], ◌∷◌, map, Option, Some, None, refl, sym, ap, subst, ◌∙◌, arith}
use Rattle.std.specs.List.{All, Contains}
use Rattle.std.proofs.lemmas.List.Elements.{All-weaker}
use Rattle.lg_base.specs.Amounts.{AmountsByName, amount_of, limit_of}
use Rattle.lg_base.specs.declared.moment.Moment.{Moment}
use Rattle.lg_calls.specs.declared.methods.get_work.GetWork.{GetWork}
use Rattle.lg_calls.specs.declared.request.Request.TheVariants as R
use Rattle.lg_calls.specs.declared.state.State.{State}
use Rattle.lg_calls.specs.declared.status.Status.TheVariants.{Pending, Running}
use Rattle.lg_calls.specs.Laws.{NumbersKeepRising}
use Rattle.lg_calls.specs.Methods.GetWork.{heard_asking, newly_chosen}
use Rattle.lg_calls.specs.Running.{run_by}
use Rattle.lg_calls.specs.Status.{is_meant, set_alone}
use Rattle.lg_calls.specs.Step.{begun}
use Rattle.lg_calls.specs.Task.{Task}
use Rattle.lg_calls.specs.Tasks.{change_meant, find_task, has_id, have_distinct_ids, have_rising_numbers}
use Rattle.lg_calls.specs.Use.{use_by, used, with_status}
use Rattle.lg_calls.specs.Valid.{IsValidState}
use Rattle.lg_calls.specs.Work.Assigning.{assigned, assigned_again, running_since}
use Rattle.lg_calls.specs.Work.Candidate.{first_candidate}
use Rattle.lg_calls.specs.Work.Laws.{IsFirst, StandByRank}
use Rattle.lg_calls.specs.Work.Rank.{by_rank}
use Rattle.lg_calls.specs.Work.Walk.{has_no_resources, is_trivial, walk}
use Rattle.lg_plain.specs.WorkLaws.{asked, heard, seen, FitsIn, IsWithinLimit}
use Rattle.lg_plain.proofs.CandidateLawLemmas.{first-fits, unpaused}
use Rattle.lg_plain.proofs.GivenLemmas.{chosen, only}
use Rattle.lg_plain.proofs.LimitLawLemmas.{use-kept, use-one_more, within-with}
use Rattle.lg_plain.proofs.ListLemmas.{field-cond}
use Rattle.lg_plain.proofs.MeantLemmas.{nobody_along}
use Rattle.lg_plain.proofs.StatusLemmas.{rest-set_alone}
use Rattle.lg_plain.proofs.WorkLawLemmas.{limits-begun, limits-marked, other-status, tasks-begun, tasks-seen, ways}

-- the same tasks take the same
same-within : (name : List ℕ) (one other : State) → other.tasks ≡ one.tasks → other.limits ≡ one.limits → IsWithinLimit one name → IsWithinLimit other name
same-within name one other tasks limits within =
    subst (λ (all : AmountsByName). used other name ≤ limit_of all name) (sym limits)
    (subst (λ (ts : List Task). use_by (with_status Running ts) name ≤ limit_of one.limits name) (sym tasks) within)

again-within : (name : List ℕ) (id : List ℕ) (s : State) → IsWithinLimit s name → IsWithinLimit (assigned_again id s) name
again-within name id s within =
    subst (λ n. n ≤ limit_of s.limits name)
    (sym (use-kept name (λ (t : Task). cond (has_id id t) (running_since s.moment t) t)
    (λ t. field-cond (λ (x : Task). x.status) (has_id id t) (running_since s.moment t) t refl)
    (λ t. field-cond (λ (x : Task). x.resources) (has_id id t) (running_since s.moment t) t refl) s.tasks))
    within

-- ---- one task more

map-twice : (outer inner : Task → Task) (tasks : List Task) → map outer (map inner tasks) ≡ map (λ task. outer (inner task)) tasks
map-twice outer inner [] = refl
map-twice outer inner (task ∷ tasks) = λ i. outer (inner task) ∷ map-twice outer inner tasks i

assigned-within : (name worker : List ℕ) (task : Task) (s : State) → IsTrue (have_distinct_ids s.tasks) → Contains s.tasks task → FitsIn s task
    → IsWithinLimit s name → IsWithinLimit (assigned worker task.id s) name
assigned-within name worker task s distinct stands fit within =
    let begun_one = use-one_more name task.id change others resources (amount_of task.resources name) s.tasks distinct most in
    let alone : used (assigned worker task.id s) name ≡ use_by (with_status Running (map change s.tasks)) name =
    ap (λ (along : Option (List ℕ)). use_by (with_status Running (change_meant (has_id task.id) begin (change_meant (is_meant task.id along) set s.tasks))) name)
    (nobody_along (find_task task.id s.tasks))
    ∙ ap (λ tasks. use_by (with_status Running tasks) name) (map-twice (λ t. cond (has_id task.id t) (begin t) t) once s.tasks) in
    omega (arith, alone, begun_one, within-with s.limits task.resources (used s) name fit within)
  where
    set : Task → Task
    set = set_alone s.settings.retry_delay s.moment Running

    begin : Task → Task
    begin = run_by worker s.moment None

    once : Task → Task
    once t = cond (is_meant task.id None t) (set t) t

    change : Task → Task
    change t = cond (has_id task.id (once t)) (begin (once t)) (once t)

    others : (t : Task) → has_id task.id t ≡ false → change t ≡ t
    others t has = other-status task.id set begin t (has_id task.id t) refl has

    resources : (t : Task) → (change t).resources ≡ t.resources
    resources t =
        field-cond (λ (x : Task). x.resources) (has_id task.id (once t)) (begin (once t)) (once t) refl
        ∙ field-cond (λ (x : Task). x.resources) (is_meant task.id None t) (set t) t (ap (λ (x : Task). x.resources) (rest-set_alone s.settings.retry_delay s.moment Running t))

    most : All (λ t. has_id task.id t ≡ true → amount_of t.resources name ≤ amount_of task.resources name) s.tasks
    most =
        All-weaker (λ t. has_id task.id t ≡ true → t ≡ task) (λ t. has_id task.id t ≡ true → amount_of t.resources name ≤ amount_of task.resources name)
        (λ t alone has. subst (λ (x : Task). amount_of x.resources name ≤ amount_of task.resources name) (sym (alone has)) (omega arith)) s.tasks
        (only s.tasks task distinct stands)

-- ---- a step

module _
    (ranks : (tasks : List Task) → IsTrue (have_rising_numbers tasks) → StandByRank tasks (by_rank tasks))
    (rising : (tasks : List Task) → IsTrue (have_rising_numbers tasks) → NumbersKeepRising tasks)
    (first : (ask : GetWork) (s : State) (task : Task) → first_candidate ask s ≡ Some task → IsFirst ask s task)
    (nothing : (worker : List ℕ) (s : State) → IsTrue (is_trivial worker s) → (task : Task) → Contains (walk worker s) task → task.status ≡ Pending
    → IsTrue (has_no_resources task)) where
  pub stays-within : (s : State) (now : ℕ) (ask : GetWork) (name : List ℕ) → IsValidState s → IsWithinLimit s name → IsWithinLimit (asked s now ask).0 name
  stays-within s now ask name valid within =
      ways (λ outcome. IsWithinLimit outcome.0 name) s ask (begun s now (R.GetWork ask))
      (λ disabled. same-within name s (heard s now ask) (tasks-begun s now (R.GetWork ask)) (limits-begun s now (R.GetWork ask)) within)
      (λ task on e. again-within name task.id there within_there)
      (λ on lost e. within_there)
      (λ task on lost e. given task e)
    where
      there : State
      there = seen s now ask

      within_there : IsWithinLimit there name
      within_there = same-within name s there (tasks-seen s now ask) (limits-marked ask (heard s now ask) ∙ limits-begun s now (R.GetWork ask)) within

      given : (task : Task) → newly_chosen ask there ≡ Some task → IsWithinLimit (assigned ask.worker task.id there) name
      given task e =
          let same = tasks-seen s now ask in
          assigned-within name ask.worker task there (subst (λ tasks. IsTrue (have_distinct_ids tasks)) (sym same) valid.ids_differ)
          (chosen ranks rising first ask there task (subst (λ tasks. IsTrue (have_rising_numbers tasks)) (sym same) valid.numbers_rise) e).0
          (first-fits ask there task (first ask there task (unpaused ask there task e).1) nothing) within_there
