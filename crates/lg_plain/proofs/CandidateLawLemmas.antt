-- The laws of assignment: what a task was that begins to run, and where no work is given.
use Rattle.std.proofs.Common.{◌≡◌, ◌↔◌, ℕ, ◌+◌, ◌≤◌, Bool, true, false, cond, IsTrue, IsSomeAnd, List, [], ◌∷◌, ◌++◌, Option, Some, None, refl, sym, ap, subst, ◌∙◌, arith}
use Rattle.std.specs.List.{All, Contains, list_all}
use Rattle.std.specs.Option.{option_and_then, option_map_or}
use Rattle.std.proofs.lemmas.Bool.{false≢true}
use Rattle.std.proofs.lemmas.List.Elements.{All-contains, Contains-append_right}
use Rattle.std.proofs.lemmas.Option.{none-some, same_Some}
use Rattle.lg_base.specs.Amounts.{amount_of, limit_of}
use Rattle.lg_calls.specs.declared.methods.get_work.GetWork.{GetWork}
use Rattle.lg_calls.specs.declared.request.Request.TheVariants as R
use Rattle.lg_calls.specs.declared.state.State.{State}
use Rattle.lg_calls.specs.declared.status.Status.TheVariants.{Done, Pending, Running}
use Rattle.lg_calls.specs.Laws.{NumbersKeepRising}
use Rattle.lg_calls.specs.Methods.GetWork.{heard_asking, newly_chosen, work_reply}
use Rattle.lg_calls.specs.Outcome.{Outcome, replied}
use Rattle.lg_calls.specs.Status.{is_status}
use Rattle.lg_calls.specs.Step.{begun}
use Rattle.lg_calls.specs.Task.{Task}
use Rattle.lg_calls.specs.Tasks.{change_task, find_task, have_distinct_ids, have_rising_numbers}
use Rattle.lg_calls.specs.Use.{used}
use Rattle.lg_calls.specs.Valid.{IsValidState}
use Rattle.lg_calls.specs.Work.Again.{first_lost, given_again, was_lost}
use Rattle.lg_calls.specs.Work.Assigning.{assigned_again, running_since}
use Rattle.lg_calls.specs.Work.Candidate.{first_candidate, is_allowed, is_candidate}
use Rattle.lg_calls.specs.Work.Fits.{fits}
use Rattle.lg_calls.specs.Work.Laws.{HasNoCandidate, IsFirst, StandByRank}
use Rattle.lg_calls.specs.Work.Rank.{by_rank}
use Rattle.lg_calls.specs.Work.Ready.{is_done, is_ready}
use Rattle.lg_calls.specs.Work.Reserved.{can_be_kept, reserved}
use Rattle.lg_calls.specs.Work.Walk.{has_no_resources, is_trivial, taken, walk}
use Rattle.lg_calls.specs.Workers.{is_disabled}
use Rattle.lg_plain.specs.WorkLaws.{asked, heard, seen, AreDone, BeginsToRun, FitsIn, Gives, GivesNothing, LostBy}
use Rattle.lg_plain.proofs.GivenLemmas.{here, passing}
use Rattle.lg_plain.proofs.LimitLawLemmas.{all-pass, fits-all, fits-nothing, fits-used}
use Rattle.lg_plain.proofs.PathLemmas.{and-first, and-second}
use Rattle.lg_plain.proofs.StatusLemmas.{is_status-is}
use Rattle.lg_plain.proofs.ToldLemmas.{task-not_nothing, told-disabled, told-nothing, told-task}
use Rattle.lg_plain.proofs.WorkLawLemmas.{WasChosen, begins-chosen, paused-seen, seen_of, tasks-begun, tasks-seen, ways}

-- who is chosen anew is the first candidate, of a scheduler that isn't paused
pub unpaused : (ask : GetWork) (s : State) (task : Task) → newly_chosen ask s ≡ Some task → (s.paused ≡ false) × (first_candidate ask s ≡ Some task)
unpaused ask s task e = by_pause s.paused refl e
  where
    by_pause : (paused : Bool) → s.paused ≡ paused → cond paused None (first_candidate ask s) ≡ Some task → (s.paused ≡ false) × (first_candidate ask s ≡ Some task)
    by_pause true is e = absurd (none-some task e)
    by_pause false is e = (is, e)

-- ---- what a candidate is

module _ (ask : GetWork) (s : State) (task : Task) (is : IsFirst ask s task) where
  can_be : can_be_kept s (reserved ask s is.front) task ≡ true
  can_be = and-first (can_be_kept s (reserved ask s is.front) task) _ is.candidate

  pub first-ready : is_ready s.tasks task ≡ true
  first-ready = and-first (is_ready s.tasks task) _ can_be

  fits-taken : fits s.limits (taken ask.worker s) task.resources ≡ true
  fits-taken = and-second (is_allowed ask task) _ (and-second (can_be_kept s (reserved ask s is.front) task) _ is.candidate)

  pub first-walked : Contains (walk ask.worker s) task
  first-walked = subst (λ tasks. Contains tasks task) (sym is.in_walk) (Contains-append_right is.front (task ∷ is.rest) task (here task is.rest))

  first-pending : task.status ≡ Pending
  unfolding is_ready
  first-pending = sym (is_status-is Pending task.status (and-first (is_status Pending task.status) _ first-ready))

  pub first-trivial : ((worker : List ℕ) (s : State) → IsTrue (is_trivial worker s) → (task : Task) → Contains (walk worker s) task → task.status ≡ Pending
      → IsTrue (has_no_resources task)) → is_trivial ask.worker s ≡ true → has_no_resources task ≡ true
  first-trivial nothing trivial = nothing ask.worker s trivial task first-walked first-pending

  pub first-fits : ((worker : List ℕ) (s : State) → IsTrue (is_trivial worker s) → (task : Task) → Contains (walk worker s) task → task.status ≡ Pending
      → IsTrue (has_no_resources task)) → FitsIn s task
  first-fits nothing = by_worker (is_trivial ask.worker s) refl
    where
      by_worker : (b : Bool) → is_trivial ask.worker s ≡ b → FitsIn s task
      by_worker true trivial = fits-nothing task (used s) s.limits (first-trivial nothing trivial)
      by_worker false busy = fits-used ask.worker s task.resources busy (fits-all s.limits (taken ask.worker s) task.resources fits-taken)

-- ---- what a ready task waits for

done-is : (id : List ℕ) (found : Option Task) → option_map_or (λ (task : Task). is_status Done task.status) found false ≡ true → IsSomeAnd found (λ task. task.status ≡ Done)
done-is id None e = absurd (false≢true e)
done-is id (Some task) e = sym (is_status-is Done task.status e)

ready-done : (tasks : List Task) (task : Task) → is_ready tasks task ≡ true → AreDone tasks task.deps
unfolding is_ready
ready-done tasks task ready id among =
    done-is id (find_task id tasks)
    (All-contains (λ dep. is_done tasks dep ≡ true) task.deps id (all-pass (is_done tasks) task.deps (and-second (is_status Pending task.status) _ ready)) among)

-- ---- the laws

module _
    (ranks : (tasks : List Task) → IsTrue (have_rising_numbers tasks) → StandByRank tasks (by_rank tasks))
    (rising : (tasks : List Task) → IsTrue (have_rising_numbers tasks) → NumbersKeepRising tasks)
    (first : (ask : GetWork) (s : State) (task : Task) → first_candidate ask s ≡ Some task → IsFirst ask s task) where
  chose : (s : State) (now : ℕ) (ask : GetWork) (task : Task) → IsValidState s → BeginsToRun s now ask task
      → WasChosen ask (begun s now (R.GetWork ask)) task (asked s now ask)
  chose = begins-chosen ranks rising first

  pub begins-first : (s : State) (now : ℕ) (ask : GetWork) (task : Task) → IsValidState s → BeginsToRun s now ask task → IsFirst ask (seen s now ask) task
  begins-first s now ask task valid begins = first ask (seen s now ask) task (unpaused ask (seen s now ask) task (chose s now ask task valid begins).choice).1

  pub begins-told : (s : State) (now : ℕ) (ask : GetWork) (task : Task) → IsValidState s → BeginsToRun s now ask task → Gives task.id (asked s now ask).1
  begins-told s now ask task valid begins =
      subst (λ (outcome : State × Outcome). Gives task.id outcome.1) (sym (chose s now ask task valid begins).is) (told-task ask.worker (seen s now ask) task)

  pub begins-ready : (s : State) (now : ℕ) (ask : GetWork) (task : Task) → IsValidState s → BeginsToRun s now ask task → IsTrue (is_ready (seen s now ask).tasks task)
  begins-ready s now ask task valid begins = first-ready ask (seen s now ask) task (begins-first s now ask task valid begins)

  pub begins-done : (s : State) (now : ℕ) (ask : GetWork) (task : Task) → IsValidState s → BeginsToRun s now ask task → AreDone (seen s now ask).tasks task.deps
  begins-done s now ask task valid begins = ready-done (seen s now ask).tasks task (begins-ready s now ask task valid begins)

  pub begins-unpaused : (s : State) (now : ℕ) (ask : GetWork) (task : Task) → IsValidState s → s.paused ≡ true → BeginsToRun s now ask task → ⊥
  begins-unpaused s now ask task valid paused begins =
      false≢true (sym (unpaused ask (seen s now ask) task (chose s now ask task valid begins).choice).0 ∙ paused-seen s now ask ∙ paused)

  module _ (nothing : (worker : List ℕ) (s : State) → IsTrue (is_trivial worker s) → (task : Task) → Contains (walk worker s) task → task.status ≡ Pending
      → IsTrue (has_no_resources task)) where
    pub begins-fits : (s : State) (now : ℕ) (ask : GetWork) (task : Task) → IsValidState s → BeginsToRun s now ask task → FitsIn (seen s now ask) task
    begins-fits s now ask task valid begins = first-fits ask (seen s now ask) task (begins-first s now ask task valid begins) nothing

    pub begins-trivial : (s : State) (now : ℕ) (ask : GetWork) (task : Task) → IsValidState s → BeginsToRun s now ask task
        → IsTrue (is_trivial ask.worker (seen s now ask)) → IsTrue (has_no_resources task)
    begins-trivial s now ask task valid begins trivial = first-trivial ask (seen s now ask) task (begins-first s now ask task valid begins) nothing trivial

-- ---- where no work is given

pub disabled-told : (s : State) (now : ℕ) (ask : GetWork) → is_disabled ask.worker (heard s now ask).workers ≡ true → GivesNothing (asked s now ask).1
disabled-told s now ask disabled =
    ways (λ outcome. GivesNothing outcome.1) s ask (begun s now (R.GetWork ask))
    (λ e. told-disabled ask.worker (heard s now ask))
    (λ task on e. absurd (false≢true (sym on ∙ disabled)))
    (λ on none e. absurd (false≢true (sym on ∙ disabled)))
    (λ task on none e. absurd (false≢true (sym on ∙ disabled)))

pub disabled-tasks : (s : State) (now : ℕ) (ask : GetWork) → is_disabled ask.worker (heard s now ask).workers ≡ true → (asked s now ask).0.tasks ≡ s.tasks
disabled-tasks s now ask disabled =
    ways (λ outcome. outcome.0.tasks ≡ s.tasks) s ask (begun s now (R.GetWork ask))
    (λ e. tasks-begun s now (R.GetWork ask))
    (λ task on e. absurd (false≢true (sym on ∙ disabled)))
    (λ on none e. absurd (false≢true (sym on ∙ disabled)))
    (λ task on none e. absurd (false≢true (sym on ∙ disabled)))

none_chosen : (s : State) (now : ℕ) (ask : GetWork) (task : Task) → s.paused ≡ true → newly_chosen ask (seen s now ask) ≡ Some task → ⊥
none_chosen s now ask task paused e = false≢true (sym (unpaused ask (seen s now ask) task e).0 ∙ paused-seen s now ask ∙ paused)

not_both : (found : Option Task) (task : Task) → found ≡ None → found ≡ Some task → ⊥
not_both found task none some = none-some task (sym none ∙ some)

pub paused-told : (s : State) (now : ℕ) (ask : GetWork) → s.paused ≡ true → given_again ask (seen s now ask) ≡ None → GivesNothing (asked s now ask).1
paused-told s now ask paused nothing =
    ways (λ outcome. GivesNothing outcome.1) s ask (begun s now (R.GetWork ask))
    (λ e. told-disabled ask.worker (heard s now ask))
    (λ task on e. absurd (not_both (given_again ask (seen s now ask)) task nothing e))
    (λ on none e. told-nothing ask.worker (seen s now ask))
    (λ task on none e. absurd (none_chosen s now ask task paused e))

pub paused-tasks : (s : State) (now : ℕ) (ask : GetWork) → s.paused ≡ true → given_again ask (seen s now ask) ≡ None → (asked s now ask).0.tasks ≡ s.tasks
paused-tasks s now ask paused nothing =
    ways (λ outcome. outcome.0.tasks ≡ s.tasks) s ask (begun s now (R.GetWork ask))
    (λ e. tasks-begun s now (R.GetWork ask))
    (λ task on e. absurd (not_both (given_again ask (seen s now ask)) task nothing e))
    (λ on none e. tasks-seen s now ask)
    (λ task on none e. absurd (none_chosen s now ask task paused e))

-- ---- who is given again

is_lost : (ranks : (tasks : List Task) → IsTrue (have_rising_numbers tasks) → StandByRank tasks (by_rank tasks)) (ask : GetWork) (s : State) (task : Task)
    → IsTrue (have_rising_numbers s.tasks) → given_again ask s ≡ Some task → LostBy ask s task
unfolding given_again
is_lost ranks ask s task rise e = by_known ask.current_tasks refl e
  where
    by_known : (told : Option (List (List ℕ))) → ask.current_tasks ≡ told → option_and_then (first_lost ask.worker s.tasks) told ≡ Some task → LostBy ask s task
    by_known None is e = absurd (none-some task e)
    by_known (Some known) is e =
        let found = passing (was_lost ask.worker known) (by_rank s.tasks) task e in
        record { stands = (ranks s.tasks rise).no_others task found.0; known = known; told = is; lost = found.1 }

pub again-lost : (ranks : (tasks : List Task) → IsTrue (have_rising_numbers tasks) → StandByRank tasks (by_rank tasks))
    → (s : State) (now : ℕ) (ask : GetWork) (task : Task) → IsValidState s → given_again ask (seen s now ask) ≡ Some task → LostBy ask (seen s now ask) task
again-lost ranks s now ask task valid e =
    is_lost ranks ask (seen s now ask) task (subst (λ tasks. IsTrue (have_rising_numbers tasks)) (sym (tasks-seen s now ask)) valid.numbers_rise) e

-- the step, where a task is given again
given-again : (P : State × Outcome → Type 0) (s : State) (now : ℕ) (ask : GetWork) (task : Task) → is_disabled ask.worker (heard s now ask).workers ≡ false
    → given_again ask (seen s now ask) ≡ Some task
    → P (assigned_again task.id (seen s now ask), replied (work_reply ask.worker (seen s now ask) (Some task))) → P (asked s now ask)
given-again P s now ask task enabled again holds =
    ways P s ask (begun s now (R.GetWork ask))
    (λ disabled. absurd (false≢true (sym enabled ∙ disabled)))
    (λ other on e. subst (λ (t : Task). P (assigned_again t.id (seen s now ask), replied (work_reply ask.worker (seen s now ask) (Some t))))
    (same_Some task other (sym again ∙ e)) holds)
    (λ on none e. absurd (not_both (given_again ask (seen s now ask)) task none again))
    (λ other on none e. absurd (not_both (given_again ask (seen s now ask)) task none again))

pub again-told : (s : State) (now : ℕ) (ask : GetWork) (task : Task) → is_disabled ask.worker (heard s now ask).workers ≡ false
    → given_again ask (seen s now ask) ≡ Some task → Gives task.id (asked s now ask).1
again-told s now ask task enabled again =
    given-again (λ outcome. Gives task.id outcome.1) s now ask task enabled again (told-task ask.worker (seen s now ask) task)

pub again-tasks : (s : State) (now : ℕ) (ask : GetWork) (task : Task) → is_disabled ask.worker (heard s now ask).workers ≡ false
    → given_again ask (seen s now ask) ≡ Some task → (asked s now ask).0.tasks ≡ change_task task.id (running_since (seen s now ask).moment) s.tasks
again-tasks s now ask task enabled again =
    given-again (λ outcome. outcome.0.tasks ≡ change_task task.id (running_since (seen s now ask).moment) s.tasks) s now ask task enabled again
    (ap (change_task task.id (running_since (seen s now ask).moment)) (tasks-seen s now ask))

-- ---- where a candidate is there

-- some task is one
has-one : (ask : GetWork) (s : State) (task : Task) → IsFirst ask s task → HasNoCandidate ask s (walk ask.worker s) → ⊥
has-one ask s task is none = false≢true (sym (none is.front task is.rest is.in_walk) ∙ is.candidate)

chosen-none : (ask : GetWork) (s : State) → s.paused ≡ false → newly_chosen ask s ≡ first_candidate ask s
chosen-none ask s on = ap (λ paused. cond paused None (first_candidate ask s)) on

pub no_work-iff : (first : (ask : GetWork) (s : State) (task : Task) → first_candidate ask s ≡ Some task → IsFirst ask s task)
    → (none : (ask : GetWork) (s : State) → first_candidate ask s ≡ None → HasNoCandidate ask s (walk ask.worker s))
    → (s : State) (now : ℕ) (ask : GetWork) → is_disabled ask.worker (heard s now ask).workers ≡ false → s.paused ≡ false → given_again ask (seen s now ask) ≡ None
    → GivesNothing (asked s now ask).1 ↔ HasNoCandidate ask (seen s now ask) (walk ask.worker (seen s now ask))
no_work-iff first none s now ask enabled running nothing =
    ways (λ outcome. GivesNothing outcome.1 ↔ HasNoCandidate ask there (walk ask.worker there)) s ask (begun s now (R.GetWork ask))
    (λ disabled. absurd (false≢true (sym enabled ∙ disabled)))
    (λ task on e. absurd (not_both (given_again ask there) task nothing e))
    (λ on lost e. (λ told. none ask there (sym same ∙ e), λ no_candidate. told-nothing ask.worker there))
    (λ task on lost e. (λ told. absurd (task-not_nothing ask.worker there task told), λ no_candidate. absurd (has-one ask there task (first ask there task (sym same ∙ e)) no_candidate)))
  where
    there : State
    there = seen s now ask

    same : newly_chosen ask there ≡ first_candidate ask there
    same = chosen-none ask there (paused-seen s now ask ∙ running)
