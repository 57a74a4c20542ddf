-- What a task leads to, and that this is what a path leads to.
use Rattle.std.proofs.Common.{Ordering, Less, Equal, Greater, ◌≡◌, ℕ, zero, suc, ℤ, int_lt, ◌<ℤ◌, Bool, true, false, ◌&&◌, ◌||◌, ◌⊎◌, List, [], ◌∷◌, ◌++◌, Some, length, refl, sym, ap, ◌∙◌, subst, inl, inr, arith}
use Rattle.std.specs.Cmp.{tied_itself}
use Rattle.std.specs.Cmp.Lexicographic.{slice_cmp, nat_list_cmp_total}
use Rattle.std.specs.FinMap.{nat_cmp-IsAntisymmetric, slice_cmp-IsAntisymmetric}
use Rattle.std.specs.List.{All, AllByRecursion, Contains, list_any, slice_get}
use Rattle.std.specs.Ordering.{nat_cmp, is_eq}
use Rattle.std.proofs.lemmas.Int.{ints}
use Rattle.std.proofs.lemmas.List.Elements.{All-weaker, All-from_recursion, recursion_from_All, All-contains_itself}
use Rattle.std.proofs.lemmas.List.Folds.{Any-from_list_any, list_any-from_Any}
use Rattle.std.proofs.lemmas.Option.{none-some, slice_get_read}
use Rattle.lg_calls.specs.Order.{is_same}
use Rattle.lg_calls.specs.Task.{Task}
use Rattle.lg_calls.specs.Tasks.{has_id}
use Rattle.lg_calls.specs.Raising.{goes_on, leads, WaitsForLower, IsPath}

-- ---- tests

pub or-left : (a b : Bool) → a ≡ true → (a || b) ≡ true
or-left true b h = refl
or-left false b h = cc

pub or-right : (a b : Bool) → b ≡ true → (a || b) ≡ true
or-right true b h = refl
or-right false b h = h

pub or-cases : (a b : Bool) → (a || b) ≡ true → (a ≡ true) ⊎ (b ≡ true)
or-cases true b h = inl refl
or-cases false b h = inr h

pub and-both : (a b : Bool) → a ≡ true → b ≡ true → (a && b) ≡ true
and-both true b h k = k
and-both false b h k = cc

pub and-first : (a b : Bool) → (a && b) ≡ true → a ≡ true
and-first true b h = refl
and-first false b h = cc

pub and-second : (a b : Bool) → (a && b) ≡ true → b ≡ true
and-second true b h = h
and-second false b h = cc

-- ---- one task more

-- the paths without it, and those to it and on from it
pub leads-without : (p : ℤ) (m : Task) (tasks : List Task) (from to : Task) → leads p tasks from to ≡ true → leads p (m ∷ tasks) from to ≡ true
unfolding leads
leads-without p m tasks from to h = or-left _ _ h

pub leads-by : (p : ℤ) (m : Task) (tasks : List Task) (from to : Task) → leads p tasks from m ≡ true → leads p tasks m to ≡ true → leads p (m ∷ tasks) from to ≡ true
unfolding leads
leads-by p m tasks from to h k = or-right (leads p tasks from to) _ (and-both _ _ h k)

pub leads-cases : (p : ℤ) (m : Task) (tasks : List Task) (from to : Task) → leads p (m ∷ tasks) from to ≡ true
    → (leads p tasks from to ≡ true) ⊎ ((leads p tasks from m ≡ true) × (leads p tasks m to ≡ true))
unfolding leads
leads-cases p m tasks from to h =
    elim (or-cases (leads p tasks from to) (leads p tasks from m && leads p tasks m to) h) [
      | inl direct ↦ inl direct
      | inr around ↦ inr (and-first _ _ around, and-second (leads p tasks from m) _ around)
    ]

-- ---- at once, and on from a task

pub leads-at_once : (p : ℤ) (tasks : List Task) (from to : Task) → goes_on p from to ≡ true → leads p tasks from to ≡ true
unfolding leads
leads-at_once p [] from to h = h
leads-at_once p (m ∷ tasks) from to h = leads-without p m tasks from to (leads-at_once p tasks from to h)

-- to a task that is passed through, and from it
to_passed : (p : ℤ) (m : Task) (tasks : List Task) (from : Task) → leads p (m ∷ tasks) from m ≡ true → leads p tasks from m ≡ true
to_passed p m tasks from h = elim (leads-cases p m tasks from m h) [ inl direct ↦ direct | inr around ↦ around.0 ]

from_passed : (p : ℤ) (m : Task) (tasks : List Task) (to : Task) → leads p (m ∷ tasks) m to ≡ true → leads p tasks m to ≡ true
from_passed p m tasks to h = elim (leads-cases p m tasks m to h) [ inl direct ↦ direct | inr around ↦ around.1 ]

-- a task that is passed through leads on
pub leads-on : (p : ℤ) (tasks : List Task) (k : ℕ) (from by to : Task) → slice_get tasks k ≡ Some by
    → leads p tasks from by ≡ true → leads p tasks by to ≡ true → leads p tasks from to ≡ true
leads-on p [] k from by to at h g = absurd (none-some by at)
leads-on p (m ∷ tasks) zero from by to at h g =
    let same : m ≡ by = cc in
    leads-by p m tasks from to
    (to_passed p m tasks from (subst (λ t. leads p (m ∷ tasks) from t ≡ true) (sym same) h))
    (from_passed p m tasks to (subst (λ t. leads p (m ∷ tasks) t to ≡ true) (sym same) g))
leads-on p (m ∷ tasks) (suc k) from by to at h g =
    elim (leads-cases p m tasks from by h) [
      | inl first ↦
          elim (leads-cases p m tasks by to g) [
            | inl second ↦ leads-without p m tasks from to (leads-on p tasks k from by to at first second)
            | inr second ↦ leads-by p m tasks from to (leads-on p tasks k from by m at first second.0) second.1
          ]
      | inr first ↦
          elim (leads-cases p m tasks by to g) [
            | inl second ↦ leads-by p m tasks from to first.0 (leads-on p tasks k m by to at first.1 second)
            | inr second ↦ leads-by p m tasks from to first.0 second.1
          ]
    ]

-- ---- paths

equal : (o : Ordering) → is_eq o ≡ true → o ≡ Equal
equal Less e = cc
equal Equal e = refl
equal Greater e = cc

pub same-is : (one other : List ℕ) → is_same one other ≡ true → one ≡ other
same-is one other e = slice_cmp-IsAntisymmetric nat_cmp-IsAntisymmetric one other (equal (slice_cmp nat_cmp one other) e)

same-along : (one other : List ℕ) → one ≡ other → is_same one other ≡ true
same-along one other e = ap (λ text. is_same text other) e ∙ ap is_eq (tied_itself nat_list_cmp_total other)

below : (x y : ℤ) → int_lt x y ≡ true → x <ℤ y
below x y h = grind (arith, ints)

below-is : (x y : ℤ) → x <ℤ y → int_lt x y ≡ true
below-is x y h = grind (arith, ints)

-- where a priority goes on a task waits for another of lower priority
waits : (p : ℤ) (from to : Task) → goes_on p from to ≡ true → WaitsForLower p from to
waits p from to h =
    let any = Any-from_list_any (λ id. has_id id to) from.deps (and-first _ _ h) in
    record {
      dependency = subst (Contains from.deps) (same-is any.1 to.id any.4) (any.0, any.2, any.3);
      lower = below to.priority p (and-second (list_any (λ id. has_id id to) from.deps) _ h);
    }

waits-is : (p : ℤ) (from to : Task) → WaitsForLower p from to → goes_on p from to ≡ true
waits-is p from to h =
    and-both _ _
    (list_any-from_Any (λ id. has_id id to) from.deps (h.dependency.0, to.id, h.dependency.1, h.dependency.2, same-along to.id to.id refl))
    (below-is to.priority p h.lower)

path-through : (p : ℤ) (from : Task) (before : List Task) (by : Task) (behind : List Task) (to : Task) → IsPath p from before by → IsPath p by behind to
    → IsPath p from (before ++ by ∷ behind) to
path-through p from [] by behind to h g = (h, g)
path-through p from (m ∷ before) by behind to h g = (h.0, path-through p m before by behind to h.1 g)

-- known: a task of the list
abbrev pub IsKnown : List Task → Task → Type 0
IsKnown tasks task = (k : ℕ) × (slice_get tasks k ≡ Some task)

contained : (tasks : List Task) (task : Task) → Contains tasks task → IsKnown tasks task
contained tasks task is = (is.0, slice_get_read tasks (length tasks) is.0 task refl is.1 (sym is.2))

-- where a path leads a task leads
along : (p : ℤ) (tasks : List Task) (from : Task) (by : List Task) (to : Task) → AllByRecursion (IsKnown tasks) by → IsPath p from by to → leads p tasks from to ≡ true
along p tasks from [] to known h = leads-at_once p tasks from to (waits-is p from to h)
along p tasks from (m ∷ by) to known h =
    leads-on p tasks known.0.0 from m to known.0.1 (leads-at_once p tasks from m (waits-is p from m h.0)) (along p tasks m by to known.1 h.1)

pub leads-path : (p : ℤ) (tasks : List Task) (from : Task) (by : List Task) (to : Task) → All (Contains tasks) by → IsPath p from by to → leads p tasks from to ≡ true
leads-path p tasks from by to known h =
    along p tasks from by to (recursion_from_All (IsKnown tasks) by (All-weaker (Contains tasks) (IsKnown tasks) (contained tasks) by known)) h

-- where a task leads a path leads
joined : (P : Task → Type 0) (before behind : List Task) (by : Task) → AllByRecursion P before → P by → AllByRecursion P behind → AllByRecursion P (before ++ by ∷ behind)
joined P [] behind by all here more = (here, more)
joined P (m ∷ before) behind by all here more = (all.0, joined P before behind by all.1 here more)

by_path : (p : ℤ) (P : Task → Type 0) (tasks : List Task) (from to : Task) → AllByRecursion P tasks → leads p tasks from to ≡ true
    → (by : List Task) × AllByRecursion P by × IsPath p from by to
unfolding leads
by_path p P [] from to known h = ([], tt, waits p from to h)
by_path p P (m ∷ tasks) from to known h =
    elim (leads-cases p m tasks from to h) [
      | inl direct ↦ by_path p P tasks from to known.1 direct
      | inr around ↦
          (let before = by_path p P tasks from m known.1 around.0 in
          let behind = by_path p P tasks m to known.1 around.1 in
          (before.0 ++ m ∷ behind.0, joined P before.0 behind.0 m before.1 known.0 behind.1, path-through p from before.0 m behind.0 to before.2 behind.2))
    ]

pub path-leads : (p : ℤ) (tasks : List Task) (from to : Task) → leads p tasks from to ≡ true → (by : List Task) × All (Contains tasks) by × IsPath p from by to
path-leads p tasks from to h =
    let path = by_path p (Contains tasks) tasks from to (recursion_from_All (Contains tasks) tasks (All-contains_itself tasks)) h in
    (path.0, All-from_recursion (Contains tasks) path.0 path.1, path.2)

-- a task that is led to has a lower priority
pub leads-lower : (p : ℤ) (tasks : List Task) (from to : Task) → leads p tasks from to ≡ true → to.priority <ℤ p
unfolding leads
leads-lower p [] from to h = (waits p from to h).lower
leads-lower p (m ∷ tasks) from to h =
    elim (leads-cases p m tasks from to h) [ inl direct ↦ leads-lower p tasks from to direct | inr around ↦ leads-lower p tasks m to around.1 ]

-- ---- what is reached

-- what a task leads to is reached, where what goes on from it is, and what goes on from each task that is reached
pub leads-reached : (p : ℤ) (Reached Done : Task → Type 0) (Known : Task → Type 0)
    → ((from to : Task) → Done from → Known to → goes_on p from to ≡ true → Reached to)
    → ((task : Task) → Known task → Reached task → Done task)
    → (tasks : List Task) → AllByRecursion Known tasks → (from to : Task) → Done from → Known to → leads p tasks from to ≡ true → Reached to
unfolding leads
leads-reached p Reached Done Known spread done [] all from to begun known h = spread from to begun known h
leads-reached p Reached Done Known spread done (m ∷ tasks) all from to begun known h =
    let reached = leads-reached p Reached Done Known spread done tasks all.1 in
    elim (leads-cases p m tasks from to h) [
      | inl direct ↦ reached from to begun known direct
      | inr around ↦ reached m to (done m all.0 (reached from m begun all.0 around.0)) known around.1
    ]
