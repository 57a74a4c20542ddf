-- What a path leads to.
use Rattle.std.proofs.Common.{◌≡◌, ℕ, zero, suc, Bool, true, ◌&&◌, ◌⊎◌, List, [], ◌∷◌, Some, sym, subst, inl, inr}
use Rattle.std.specs.List.{AllByRecursion, slice_get}
use Rattle.std.proofs.lemmas.Option.{none-some}
use Rattle.lg_calls.specs.Paths.{is_path_through}
use Rattle.lg_calls.specs.Task.{Task}
use Rattle.lg_views.proofs.TestLemmas.{or-left, or-right, or-cases, and-both, and-first, and-second}

-- ---- one task more

-- the paths without it, and those to it and on from it
path-without : (leads : Task → Task → Bool) (m : Task) (tasks : List Task) (from to : Task) → is_path_through leads tasks from to ≡ true
    → is_path_through leads (m ∷ tasks) from to ≡ true
unfolding is_path_through
path-without leads m tasks from to h = or-left _ _ h

path-by : (leads : Task → Task → Bool) (m : Task) (tasks : List Task) (from to : Task) → is_path_through leads tasks from m ≡ true
    → is_path_through leads tasks m to ≡ true → is_path_through leads (m ∷ tasks) from to ≡ true
unfolding is_path_through
path-by leads m tasks from to h k = or-right (is_path_through leads tasks from to) _ (and-both _ _ h k)

path-cases : (leads : Task → Task → Bool) (m : Task) (tasks : List Task) (from to : Task) → is_path_through leads (m ∷ tasks) from to ≡ true
    → (is_path_through leads tasks from to ≡ true) ⊎ ((is_path_through leads tasks from m ≡ true) × (is_path_through leads tasks m to ≡ true))
unfolding is_path_through
path-cases leads m tasks from to h =
    elim (or-cases (is_path_through leads tasks from to) (is_path_through leads tasks from m && is_path_through leads tasks m to) h) [
      | inl direct ↦ inl direct
      | inr around ↦ inr (and-first _ _ around, and-second (is_path_through leads tasks from m) _ around)
    ]

-- ---- at once, and on from a task

pub path-at_once : (leads : Task → Task → Bool) (tasks : List Task) (from to : Task) → leads from to ≡ true → is_path_through leads tasks from to ≡ true
unfolding is_path_through
path-at_once leads [] from to h = h
path-at_once leads (m ∷ tasks) from to h = path-without leads m tasks from to (path-at_once leads tasks from to h)

-- to a task that is passed through, and from it
to_passed : (leads : Task → Task → Bool) (m : Task) (tasks : List Task) (from : Task) → is_path_through leads (m ∷ tasks) from m ≡ true
    → is_path_through leads tasks from m ≡ true
to_passed leads m tasks from h = elim (path-cases leads m tasks from m h) [ inl direct ↦ direct | inr around ↦ around.0 ]

from_passed : (leads : Task → Task → Bool) (m : Task) (tasks : List Task) (to : Task) → is_path_through leads (m ∷ tasks) m to ≡ true
    → is_path_through leads tasks m to ≡ true
from_passed leads m tasks to h = elim (path-cases leads m tasks m to h) [ inl direct ↦ direct | inr around ↦ around.1 ]

-- a task that is passed through leads on
pub path-on : (leads : Task → Task → Bool) (tasks : List Task) (k : ℕ) (from by to : Task) → slice_get tasks k ≡ Some by
    → is_path_through leads tasks from by ≡ true → is_path_through leads tasks by to ≡ true → is_path_through leads tasks from to ≡ true
path-on leads [] k from by to at h g = absurd (none-some by at)
path-on leads (m ∷ tasks) zero from by to at h g =
    let same : m ≡ by = cc in
    path-by leads m tasks from to
    (to_passed leads m tasks from (subst (λ t. is_path_through leads (m ∷ tasks) from t ≡ true) (sym same) h))
    (from_passed leads m tasks to (subst (λ t. is_path_through leads (m ∷ tasks) t to ≡ true) (sym same) g))
path-on leads (m ∷ tasks) (suc k) from by to at h g =
    elim (path-cases leads m tasks from by h) [
      | inl first ↦
          elim (path-cases leads m tasks by to g) [
            | inl second ↦ path-without leads m tasks from to (path-on leads tasks k from by to at first second)
            | inr second ↦ path-by leads m tasks from to (path-on leads tasks k from by m at first second.0) second.1
          ]
      | inr first ↦
          elim (path-cases leads m tasks by to g) [
            | inl second ↦ path-by leads m tasks from to first.0 (path-on leads tasks k m by to at first.1 second)
            | inr second ↦ path-by leads m tasks from to first.0 second.1
          ]
    ]

-- ---- what is reached

-- what a path leads to is reached, where what a task leads to is, and what each task leads to that is reached
pub path-reached : (leads : Task → Task → Bool) (Reached Done Known : Task → Type 0)
    → ((from to : Task) → Done from → Known to → leads from to ≡ true → Reached to)
    → ((task : Task) → Known task → Reached task → Done task)
    → (tasks : List Task) → AllByRecursion Known tasks → (from to : Task) → Done from → Known to → is_path_through leads tasks from to ≡ true → Reached to
unfolding is_path_through
path-reached leads Reached Done Known spread done [] all from to begun known h = spread from to begun known h
path-reached leads Reached Done Known spread done (m ∷ tasks) all from to begun known h =
    let reached = path-reached leads Reached Done Known spread done tasks all.1 in
    elim (path-cases leads m tasks from to h) [
      | inl direct ↦ reached from to begun known direct
      | inr around ↦ reached m to (done m all.0 (reached from m begun all.0 around.0)) known around.1
    ]
