-- The worst of what is waited for, one task after another.
use Rattle.std.proofs.Common.{◌≡◌, ℕ, Bool, true, false, not, ◌&&◌, cond, List, [], ◌∷◌, ◌++◌, Option, Some, None, refl, sym, ap, ◌∙◌, append-nil}
use Rattle.std.specs.Prelude.{IsTrue, ◌↔◌, filter, fold}
use Rattle.std.proofs.lemmas.List.Elements.{filter-append}
use Rattle.std.proofs.lemmas.List.Sums.{fold-append}
use Rattle.lg_calls.specs.declared.upstream.UpstreamStatus.{UpstreamStatus}
use Rattle.lg_calls.specs.declared.status.Status.TheVariants.{Pending}
use Rattle.lg_calls.specs.Status.{is_status}
use Rattle.lg_calls.specs.Task.{Task}
use Rattle.lg_calls.specs.declared.upstream.UpstreamStatus.TheVariants.{Running, MissingInput, Failed, Disabled}
use Rattle.lg_calls.specs.Upstream.{own_upstream, worse, is_open, worst_of, upstream_status, is_hopeless}
use Rattle.lg_views.specs.Upstream.{is_worst_of_all}

-- the worst of those tasks that pass a test
abbrev pub worst_by : (Task → Bool) → List Task → Option UpstreamStatus
worst_by test tasks = worst_of (filter test tasks)

worst-if : (b : Bool) (tasks : List Task) (task : Task)
    → worst_of (tasks ++ cond b (task ∷ []) []) ≡ cond b (worse (worst_of tasks) (own_upstream task.status)) (worst_of tasks)
worst-if true tasks task = fold-append (λ worst (t : Task). worse worst (own_upstream t.status)) None tasks (task ∷ [])
worst-if false tasks task = ap worst_of (append-nil tasks)

worst_by-push : (test : Task → Bool) (tasks : List Task) (task : Task)
    → worst_by test (tasks ++ task ∷ []) ≡ cond (test task) (worse (worst_by test tasks) (own_upstream task.status)) (worst_by test tasks)
worst_by-push test tasks task = ap worst_of (filter-append test tasks (task ∷ [])) ∙ worst-if (test task) (filter test tasks) task

-- one task more was looked at
pub worst_more : (test : Task → Bool) (seen more : List Task) (task : Task) (old new : Option UpstreamStatus) (is_reached : Bool)
    → more ≡ seen ++ task ∷ [] → old ≡ worst_by (λ other. not (is_open other) && test other) seen → is_reached ≡ test task
    → new ≡ cond (not (is_open task) && is_reached) (worse old (own_upstream task.status)) old → new ≡ worst_by (λ other. not (is_open other) && test other) more
worst_more test seen more task old new is_reached longer so_far reached grown =
    grown
    ∙ (λ i. cond (not (is_open task) && reached i) (worse (so_far i) (own_upstream task.status)) (so_far i))
    ∙ sym (worst_by-push (λ other. not (is_open other) && test other) seen task)
    ∙ ap (worst_by (λ other. not (is_open other) && test other)) (sym longer)

cons≢nil : (id : List ℕ) (ids : List (List ℕ)) → id ∷ ids ≡ [] → ⊥
cons≢nil id ids same = cc

open_of : (task : Task) (deps : List (List ℕ)) (empty : Bool) → (IsTrue empty ↔ (deps ≡ []))
    → (is_status Pending task.status && not empty) ≡ is_open (record task { deps = deps })
open_of task [] empty tells = ap (λ (b : Bool). is_status Pending task.status && not b) (tells.1 refl)
open_of task (id ∷ deps) true tells = absurd (cons≢nil id deps (tells.0 refl))
open_of task (id ∷ deps) false tells = refl

-- a task is open where it is PENDING and has dependencies
pub open_is : (task : Task) (empty : Bool) → (IsTrue empty ↔ (task.deps ≡ [])) → (is_status Pending task.status && not empty) ≡ is_open task
open_is task empty tells = open_of task task.deps empty tells

worst_cases : (worst : Option UpstreamStatus) (tasks : List Task) (task : Task) → upstream_status tasks task ≡ worst → is_worst_of_all worst ≡ is_hopeless tasks task
worst_cases None tasks task is = rw is refl
worst_cases (Some Running) tasks task is = rw is refl
worst_cases (Some MissingInput) tasks task is = rw is refl
worst_cases (Some Failed) tasks task is = rw is refl
worst_cases (Some Disabled) tasks task is = rw is refl

-- a task is hopeless where the worst of all is what it waits for
pub hopeless_is : (tasks : List Task) (task : Task) → is_worst_of_all (upstream_status tasks task) ≡ is_hopeless tasks task
hopeless_is tasks task = worst_cases (upstream_status tasks task) tasks task refl
