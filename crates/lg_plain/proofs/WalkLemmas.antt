-- What a walk marks, step by step.
use Rattle.std.proofs.Common.{◌≡◌, ◌≢◌, ℕ, zero, suc, ◌<◌, ℤ, int_lt, Bool, true, false, not, cond, ◌||◌, ◌⊎◌, ltb, List, [], ◌∷◌, ◌++◌, Option, Some, None, length, get_or, set, refl, sym, ap, ◌∙◌, subst, inl, inr, arith}
use Rattle.std.specs.List.{AllByRecursion, Contains, list_any, list_all, position, position_or_len, slice_get}
use Rattle.std.proofs.lemmas.Bool.{cases_eq, false≢true}
use Rattle.std.proofs.lemmas.Bool.Decides.{nat_tests}
use Rattle.std.proofs.lemmas.List.{get_or-set_same, get_or-set_other, length-set}
use Rattle.std.proofs.lemmas.List.Elements.{Contains-append_left, Contains-push, Contains-push_cases, recursion_from_All}
use Rattle.std.proofs.lemmas.List.Folds.{find_at, list_any-append}
use Rattle.std.proofs.lemmas.Option.{none-some, same_Some, slice_get-get_or, slice_get_past, slice_get_within, slice_get_cases}
use Rattle.lg_plain.specs.declared.walk.Walk.{Walk}
use Rattle.lg_calls.specs.Order.{is_same}
use Rattle.lg_calls.specs.Task.{Task}
use Rattle.lg_calls.specs.Tasks.{ids_of, have_distinct_ids, has_id, find_task}
use Rattle.lg_calls.specs.Raising.{goes_to, goes_on, leads_from}
use Rattle.lg_plain.specs.Walking.{is_marked, IsAhead, rest_of, IsFresh, IsMarkedBy, Marks, leads_at, IsPlaceOf}
use Rattle.lg_plain.proofs.ListLemmas.{find_task-has}
use Rattle.lg_plain.proofs.PathLemmas.{same-is, leads-at_once, leads-on, IsKnown, leads-reached, or-cases, or-left, or-right, and-first, and-second, and-both}

-- ---- tests

pub not-true : (b : Bool) → b ≡ false → b ≡ true → ⊥
not-true b off on = false≢true (sym off ∙ on)

same_tests : (a b : Bool) → (a ≡ true → b ≡ true) → (b ≡ true → a ≡ true) → a ≡ b
same_tests true b there back = sym (there refl)
same_tests false true there back = back refl
same_tests false false there back = refl

pub not-false : (b : Bool) → not b ≡ true → b ≡ true → ⊥
not-false true h k = false≢true h
not-false false h k = false≢true k

-- ---- the task of an id

all-at : (test : List ℕ → Bool) (tasks : List Task) (k : ℕ) (task : Task) → list_all test (ids_of tasks) ≡ true → slice_get tasks k ≡ Some task → test task.id ≡ true
all-at test [] k task all at = absurd (none-some task at)
all-at test (m ∷ tasks) zero task all at = ap (λ (t : Task). test t.id) (sym (same_Some m task at)) ∙ and-first _ _ all
all-at test (m ∷ tasks) (suc k) task all at = all-at test tasks k task (and-second (test m.id) _ all) at

-- an id that the first task has isn't that of a later one
apart-first : (id : List ℕ) (m : Task) (tasks : List Task) (k : ℕ) (task : Task) → list_all (λ other. not (is_same m.id other)) (ids_of tasks) ≡ true
    → slice_get tasks k ≡ Some task → has_id id m ≡ true → has_id id task ≡ true → ⊥
apart-first id m tasks k task all at one other =
    not-false (is_same m.id task.id) (all-at (λ t. not (is_same m.id t)) tasks k task all at)
    (ap (λ i. is_same i task.id) (sym (same-is id m.id one)) ∙ other)

-- an id is that of one place
pub alone : (id : List ℕ) (tasks : List Task) (i k : ℕ) (one other : Task) → have_distinct_ids tasks ≡ true → slice_get tasks i ≡ Some one → slice_get tasks k ≡ Some other
    → has_id id one ≡ true → has_id id other ≡ true → k ≡ i
alone id [] i k one other distinct at here has too = absurd (none-some one at)
alone id (m ∷ tasks) zero zero one other distinct at here has too = refl
alone id (m ∷ tasks) zero (suc k) one other distinct at here has too =
    absurd (apart-first id m tasks k other (and-first _ _ distinct) here (ap (has_id id) (same_Some m one at) ∙ has) too)
alone id (m ∷ tasks) (suc i) zero one other distinct at here has too =
    absurd (apart-first id m tasks i one (and-first _ _ distinct) at (ap (has_id id) (same_Some m other here) ∙ too) has)
alone id (m ∷ tasks) (suc i) (suc k) one other distinct at here has too =
    ap suc (alone id tasks i k one other (and-second (list_all (λ t. not (is_same m.id t)) (ids_of tasks)) _ distinct) at here has too)

first-not : (b : Bool) (m : Task) (rest : Option Task) → cond b (Some m) rest ≡ None → (b ≡ false) × (rest ≡ None)
first-not true m rest e = absurd (none-some m (sym e))
first-not false m rest e = (refl, e)

pub find_task-nobody : (id : List ℕ) (tasks : List Task) (k : ℕ) (task : Task) → find_task id tasks ≡ None → slice_get tasks k ≡ Some task → has_id id task ≡ false
find_task-nobody id [] k task e at = absurd (none-some task at)
find_task-nobody id (m ∷ tasks) zero task e at = ap (has_id id) (sym (same_Some m task at)) ∙ (first-not _ m _ e).0
find_task-nobody id (m ∷ tasks) (suc k) task e at = find_task-nobody id tasks k task (first-not _ m _ e).1 at

place-is : (id : List ℕ) (tasks : List Task) (b : Bool) → ltb (position_or_len (has_id id) tasks) (length tasks) ≡ b → (result : Option ℕ)
    → result ≡ cond b (Some (position_or_len (has_id id) tasks)) None → IsPlaceOf id tasks result
place-is id tasks true inside result e =
    subst (IsPlaceOf id tasks) (sym e) (find_at (has_id id) tasks, grind (arith, nat_tests))
place-is id tasks false outside result e =
    subst (IsPlaceOf id tasks) (sym e) (find_at (has_id id) tasks ∙ slice_get_past tasks _ (grind (arith, nat_tests)))

pub place-position : (id : List ℕ) (tasks : List Task) (result : Option ℕ) → result ≡ position (has_id id) tasks → IsPlaceOf id tasks result
place-position id tasks result e = place-is id tasks (ltb (position_or_len (has_id id) tasks) (length tasks)) refl result e

-- ---- one place

marked-set : (before after : Walk) (place : ℕ) → place < length before.marks.items → after.marks.items ≡ set before.marks.items place true → is_marked after place ≡ true
marked-set before after place inside e = ap (λ marks. get_or marks place false) e ∙ get_or-set_same before.marks.items place true false inside

marked-other : (before after : Walk) (place k : ℕ) → k ≢ place → after.marks.items ≡ set before.marks.items place true → is_marked after k ≡ is_marked before k
marked-other before after place k apart e = ap (λ marks. get_or marks k false) e ∙ get_or-set_other before.marks.items place k true false apart

marked-same : (before after : Walk) (k : ℕ) → after.marks.items ≡ before.marks.items → is_marked after k ≡ is_marked before k
marked-same before after k e = ap (λ marks. get_or marks k false) e

-- a place more is marked
pub Marks-more : (tasks : List Task) (test : Task → Bool) (before after : Walk) (place : ℕ) (task : Task)
    → slice_get tasks place ≡ Some task → test task ≡ true → ((k : ℕ) (t : Task) → slice_get tasks k ≡ Some t → test t ≡ true → k ≡ place)
    → place < length before.marks.items → after.marks.items ≡ set before.marks.items place true → after.places.items ≡ before.places.items ++ place ∷ []
    → rest_of after ≡ rest_of before → Marks tasks test before after
Marks-more tasks test before after place task at passes sole inside marks places rest =
    let here = marked-set before after place inside marks in
    record {
      marked = λ k t found is. ap (is_marked after) (sole k t found is) ∙ here;
      by_test = λ k is. elim (cases_eq k place) [
        | inl same ↦ inr (task, ap (slice_get tasks) same ∙ at, passes)
        | inr apart ↦ inl (sym (marked-other before after place k apart marks) ∙ is)
      ];
      kept = λ k is. elim (cases_eq k place) [
        | inl same ↦ ap (is_marked after) same ∙ here
        | inr apart ↦ marked-other before after place k apart marks ∙ is
      ];
      ahead = λ k is. elim (cases_eq k place) [
        | inl same ↦ inr (subst (IsAhead after) (sym same) (subst (λ l. Contains l place) (sym places) (Contains-push before.places.items place)))
        | inr apart ↦ inl (sym (marked-other before after place k apart marks) ∙ is)
      ];
      ahead_kept = λ k is. subst (λ l. Contains l k) (sym places) (Contains-append_left before.places.items (place ∷ []) k is);
      ahead_marked = λ k is. elim (Contains-push_cases before.places.items place k (subst (λ l. Contains l k) places is)) [
        | inl old ↦ inl old
        | inr same ↦ inr (ap (is_marked after) (sym same) ∙ here)
      ];
      count = ap length marks ∙ length-set before.marks.items place true;
      rest = rest;
    }

-- nothing more is marked, where what passes is marked already
pub Marks-same : (tasks : List Task) (test : Task → Bool) (before after : Walk)
    → ((k : ℕ) (t : Task) → slice_get tasks k ≡ Some t → test t ≡ true → is_marked before k ≡ true)
    → after.marks.items ≡ before.marks.items → after.places.items ≡ before.places.items → rest_of after ≡ rest_of before → Marks tasks test before after
Marks-same tasks test before after passed marks places rest = record {
  marked = λ k t found is. marked-same before after k marks ∙ passed k t found is;
  by_test = λ k is. inl (sym (marked-same before after k marks) ∙ is);
  kept = λ k is. marked-same before after k marks ∙ is;
  ahead = λ k is. inl (sym (marked-same before after k marks) ∙ is);
  ahead_kept = λ k is. subst (λ l. Contains l k) (sym places) is;
  ahead_marked = λ k is. inl (subst (λ l. Contains l k) places is);
  count = ap length marks;
  rest = rest;
}

-- one step behind another
pub Marks-then : (tasks : List Task) (one other both : Task → Bool) (a b c : Walk) → Marks tasks one a b → Marks tasks other b c
    → ((t : Task) → both t ≡ true → (one t ≡ true) ⊎ (other t ≡ true)) → ((t : Task) → one t ≡ true → both t ≡ true) → ((t : Task) → other t ≡ true → both t ≡ true)
    → Marks tasks both a c
Marks-then tasks one other both a b c first second cases left right = record {
  marked = λ k t found is. elim (cases t is) [
    | inl passes ↦ second.kept k (first.marked k t found passes)
    | inr passes ↦ second.marked k t found passes
  ];
  by_test = λ k is. elim (second.by_test k is) [
    | inl old ↦ elim (first.by_test k old) [ inl older ↦ inl older | inr new ↦ inr (new.0, new.1, left new.0 new.2) ]
    | inr new ↦ inr (new.0, new.1, right new.0 new.2)
  ];
  kept = λ k is. second.kept k (first.kept k is);
  ahead = λ k is. elim (second.ahead k is) [
    | inl old ↦ elim (first.ahead k old) [ inl older ↦ inl older | inr new ↦ inr (second.ahead_kept k new) ]
    | inr new ↦ inr new
  ];
  ahead_kept = λ k is. second.ahead_kept k (first.ahead_kept k is);
  ahead_marked = λ k is. elim (second.ahead_marked k is) [
    | inl old ↦ elim (first.ahead_marked k old) [ inl older ↦ inl older | inr new ↦ inr (second.kept k new) ]
    | inr new ↦ inr new
  ];
  count = second.count ∙ first.count;
  rest = second.rest ∙ first.rest;
}

-- ---- one dependency

single : (p : ℤ) (id : List ℕ) (t : Task) → goes_to p (id ∷ []) t ≡ true → has_id id t ≡ true
single p id t h = elim (or-cases (has_id id t) false (and-first _ _ h)) [ inl has ↦ has | inr none ↦ absurd (false≢true none) ]

pub reached-more : (p : ℤ) (id : List ℕ) (tasks : List Task) (before after : Walk) (place : ℕ) (task : Task) → have_distinct_ids tasks ≡ true
    → find_task id tasks ≡ slice_get tasks place → slice_get tasks place ≡ Some task → int_lt task.priority p ≡ true
    → place < length before.marks.items → after.marks.items ≡ set before.marks.items place true → after.places.items ≡ before.places.items ++ place ∷ []
    → rest_of after ≡ rest_of before → Marks tasks (goes_to p (id ∷ [])) before after
reached-more p id tasks before after place task distinct found at lower inside marks places rest =
    let has = find_task-has id tasks task (found ∙ at) in
    Marks-more tasks (goes_to p (id ∷ [])) before after place task at (and-both _ _ (or-left _ _ has) lower)
    (λ k t there passes. alone id tasks place k task t distinct at there has (single p id t passes)) inside marks places rest

pub reached-same : (p : ℤ) (id : List ℕ) (tasks : List Task) (walk : Walk) (place : ℕ) (task : Task) → have_distinct_ids tasks ≡ true
    → find_task id tasks ≡ slice_get tasks place → slice_get tasks place ≡ Some task → (int_lt task.priority p ≡ true → is_marked walk place ≡ true)
    → Marks tasks (goes_to p (id ∷ [])) walk walk
reached-same p id tasks walk place task distinct found at marked =
    Marks-same tasks (goes_to p (id ∷ [])) walk walk
    (λ k t there passes.
    let same : k ≡ place = alone id tasks place k task t distinct at there (find_task-has id tasks task (found ∙ at)) (single p id t passes) in
    let task_is : t ≡ task = same_Some t task (sym there ∙ ap (slice_get tasks) same ∙ at) in
    ap (is_marked walk) same ∙ marked (ap (λ (u : Task). int_lt u.priority p) (sym task_is) ∙ and-second (has_id id t || false) _ passes))
    refl refl refl

pub reached-nobody : (p : ℤ) (id : List ℕ) (tasks : List Task) (walk : Walk) → find_task id tasks ≡ None → Marks tasks (goes_to p (id ∷ [])) walk walk
reached-nobody p id tasks walk none =
    Marks-same tasks (goes_to p (id ∷ [])) walk walk (λ k t there passes. absurd (not-true (has_id id t) (find_task-nobody id tasks k t none there) (single p id t passes)))
    refl refl refl

pub Marks-none : (p : ℤ) (tasks : List Task) (walk : Walk) → Marks tasks (goes_to p []) walk walk
Marks-none p tasks walk = Marks-same tasks (goes_to p []) walk walk (λ k t there passes. absurd (false≢true passes)) refl refl refl

-- ---- one dependency after another

to-cases : (p : ℤ) (xs ys : List (List ℕ)) (t : Task) → goes_to p (xs ++ ys) t ≡ true → (goes_to p xs t ≡ true) ⊎ (goes_to p ys t ≡ true)
to-cases p xs ys t h =
    let has : List ℕ → Bool = λ id. has_id id t in
    let lower = and-second (list_any has (xs ++ ys)) _ h in
    elim (or-cases (list_any has xs) (list_any has ys) (sym (list_any-append has xs ys) ∙ and-first _ _ h)) [
      | inl is ↦ inl (and-both _ _ is lower)
      | inr is ↦ inr (and-both _ _ is lower)
    ]

to-left : (p : ℤ) (xs ys : List (List ℕ)) (t : Task) → goes_to p xs t ≡ true → goes_to p (xs ++ ys) t ≡ true
to-left p xs ys t h =
    let has : List ℕ → Bool = λ id. has_id id t in
    and-both _ _ (list_any-append has xs ys ∙ or-left _ _ (and-first (list_any has xs) _ h)) (and-second (list_any has xs) _ h)

to-right : (p : ℤ) (xs ys : List (List ℕ)) (t : Task) → goes_to p ys t ≡ true → goes_to p (xs ++ ys) t ≡ true
to-right p xs ys t h =
    let has : List ℕ → Bool = λ id. has_id id t in
    and-both _ _ (list_any-append has xs ys ∙ or-right (list_any has xs) _ (and-first (list_any has ys) _ h)) (and-second (list_any has ys) _ h)

pub Marks-append : (p : ℤ) (tasks : List Task) (xs ys : List (List ℕ)) (a b c : Walk) → Marks tasks (goes_to p xs) a b → Marks tasks (goes_to p ys) b c
    → Marks tasks (goes_to p (xs ++ ys)) a c
Marks-append p tasks xs ys a b c first second =
    Marks-then tasks (goes_to p xs) (goes_to p ys) (goes_to p (xs ++ ys)) a b c first second (to-cases p xs ys) (to-left p xs ys) (to-right p xs ys)

-- ---- the whole walk

-- what goes on from a task is marked
abbrev pub IsDone : ℤ → List Task → Walk → Task → Type 0
IsDone p tasks walk from = (place : ℕ) (to : Task) → slice_get tasks place ≡ Some to → goes_on p from to ≡ true → is_marked walk place ≡ true

pub record IsWalked (p : ℤ) (tasks : List Task) (root : ℕ) (walk : Walk) : Type 0 where
  pub size : length walk.marks.items ≡ length tasks
  pub led_to : (k : ℕ) → is_marked walk k ≡ true → (task : Task) × (slice_get tasks k ≡ Some task) × (leads_at p tasks root task ≡ true)
  pub begun : (k : ℕ) → IsAhead walk k → (k ≡ root) ⊎ (is_marked walk k ≡ true)
  pub done : (k : ℕ) (from : Task) → slice_get tasks k ≡ Some from → (k ≡ root) ⊎ (is_marked walk k ≡ true) → IsAhead walk k ⊎ IsDone p tasks walk from

nowhere : (k : ℕ) → Contains [] k → ⊥
nowhere k is = absurd (omega (arith, is.1))

pub IsWalked-begin : (p : ℤ) (tasks : List Task) (root : ℕ) (fresh walk : Walk) → IsFresh (length tasks) fresh → walk.marks.items ≡ fresh.marks.items
    → walk.places.items ≡ root ∷ [] → IsWalked p tasks root walk
IsWalked-begin p tasks root fresh walk is marks places =
    let unmarked : (k : ℕ) → is_marked walk k ≡ true → ⊥ = λ k on. not-true (is_marked walk k) (marked-same fresh walk k marks ∙ is.unmarked k) on in
    record {
      size = ap length marks ∙ is.count;
      led_to = λ k on. absurd (unmarked k on);
      begun = λ k ahead. elim (Contains-push_cases [] root k (subst (λ l. Contains l k) places ahead)) [
        | inl none ↦ absurd (nowhere k none)
        | inr same ↦ inl (sym same)
      ];
      done = λ k from at reached. elim reached [
        | inl same ↦ inl (subst (IsAhead walk) (sym same) (subst (λ l. Contains l root) (sym places) (Contains-push [] root)))
        | inr on ↦ absurd (unmarked k on)
      ];
    }

on-from : (p : ℤ) (tasks : List Task) (root : Option Task) (k : ℕ) (by to : Task) → slice_get tasks k ≡ Some by → leads_from p tasks root by ≡ true → goes_on p by to ≡ true
    → leads_from p tasks root to ≡ true
on-from p tasks None k by to at h goes = absurd (false≢true h)
on-from p tasks (Some root) k by to at h goes = leads-on p tasks k root by to at h (leads-at_once p tasks by to goes)

-- the task of a place that was reached leads on
leads-at : (p : ℤ) (tasks : List Task) (root : ℕ) (walk : Walk) (place : ℕ) (task to : Task) → IsWalked p tasks root walk → slice_get tasks place ≡ Some task → IsAhead walk place
    → goes_on p task to ≡ true → leads_at p tasks root to ≡ true
leads-at p tasks root walk place task to is at ahead goes =
    elim (is.begun place ahead) [
      | inl same ↦ ap (λ o. leads_from p tasks o to) (ap (slice_get tasks) (sym same) ∙ at) ∙ leads-at_once p tasks task to goes
      | inr marked ↦
          (let led = is.led_to place marked in
          let here : led.0 ≡ task = same_Some led.0 task (sym led.1 ∙ at) in
          on-from p tasks (slice_get tasks root) place task to at (ap (leads_at p tasks root) (sym here) ∙ led.2) goes)
    ]

pub IsWalked-more : (p : ℤ) (tasks : List Task) (root : ℕ) (before left after : Walk) (place : ℕ) (task : Task) → IsWalked p tasks root before
    → before.places.items ≡ left.places.items ++ place ∷ [] → left.marks.items ≡ before.marks.items → slice_get tasks place ≡ Some task
    → Marks tasks (goes_on p task) left after → IsWalked p tasks root after
IsWalked-more p tasks root before left after place task is places marks at step =
    let still : (k : ℕ) → is_marked left k ≡ is_marked before k = λ k. marked-same before left k marks in
    let was_ahead : (k : ℕ) → IsAhead left k → IsAhead before k = λ k ahead. subst (λ l. Contains l k) (sym places) (Contains-append_left left.places.items (place ∷ []) k ahead) in
    let here : IsAhead before place = subst (λ l. Contains l place) (sym places) (Contains-push left.places.items place) in
    let kept : (k : ℕ) → is_marked before k ≡ true → is_marked after k ≡ true = λ k on. step.kept k (still k ∙ on) in
    let old : (k : ℕ) (from : Task) → slice_get tasks k ≡ Some from → (k ≡ root) ⊎ (is_marked before k ≡ true) → IsAhead after k ⊎ IsDone p tasks after from =
    λ k from found reached. elim (is.done k from found reached) [
      | inl ahead ↦
          elim (Contains-push_cases left.places.items place k (subst (λ l. Contains l k) places ahead)) [
            | inl later ↦ inl (step.ahead_kept k later)
            | inr same ↦
                inr (let task_is : task ≡ from = same_Some task from (sym at ∙ ap (slice_get tasks) same ∙ found) in
                λ j to there goes. step.marked j to there (ap (λ t. goes_on p t to) task_is ∙ goes))
          ]
      | inr done ↦ inr (λ j to there goes. kept j (done j to there goes))
    ]
    in
    record {
      size = step.count ∙ ap length marks ∙ is.size;
      led_to = λ k on. elim (step.by_test k on) [
        | inl earlier ↦ is.led_to k (sym (still k) ∙ earlier)
        | inr new ↦ (new.0, new.1, leads-at p tasks root before place task new.0 is at here new.2)
      ];
      begun = λ k ahead. elim (step.ahead_marked k ahead) [
        | inl earlier ↦ elim (is.begun k (was_ahead k earlier)) [ inl same ↦ inl same | inr on ↦ inr (kept k on) ]
        | inr on ↦ inr on
      ];
      done = λ k from found reached. elim reached [
        | inl same ↦ old k from found (inl same)
        | inr on ↦ elim (step.ahead k on) [ inl earlier ↦ old k from found (inr (sym (still k) ∙ earlier)) | inr ahead ↦ inl ahead ]
      ];
    }

all_known : (tasks : List Task) → AllByRecursion (IsKnown tasks) tasks
all_known tasks = recursion_from_All (IsKnown tasks) tasks (λ k d inside. (k, slice_get-get_or tasks k d inside))

pub IsWalked-end : (p : ℤ) (tasks : List Task) (root : ℕ) (walk : Walk) (from : Task) → IsWalked p tasks root walk → slice_get tasks root ≡ Some from
    → walk.places.items ≡ [] → IsMarkedBy tasks (leads_at p tasks root) walk
IsWalked-end p tasks root walk from is at over place task found =
    let done : (k : ℕ) (t : Task) → slice_get tasks k ≡ Some t → (k ≡ root) ⊎ (is_marked walk k ≡ true) → IsDone p tasks walk t =
    λ k t there reached. elim (is.done k t there reached) [ inl ahead ↦ absurd (nowhere k (subst (λ l. Contains l k) over ahead)) | inr all ↦ all ]
    in
    let Reached : Task → Type 0 = λ t. (k : ℕ) → slice_get tasks k ≡ Some t → is_marked walk k ≡ true in
    let there : is_marked walk place ≡ true → leads_at p tasks root task ≡ true =
    λ on. let led = is.led_to place on in ap (leads_at p tasks root) (same_Some task led.0 (sym found ∙ led.1)) ∙ led.2
    in
    let back : leads_at p tasks root task ≡ true → is_marked walk place ≡ true =
    λ h. leads-reached p Reached (IsDone p tasks walk) (IsKnown tasks)
    (λ one to begun known goes k where_to. begun k to where_to goes)
    (λ t known reached. done known.0 t known.1 (inr (reached known.0 known.1)))
    tasks (all_known tasks) from task (done root from at (inl refl)) (place, found)
    (ap (λ o. leads_from p tasks o task) (sym at) ∙ h) place found
    in
    same_tests _ _ there back

-- a place that is still to be looked at is that of a task
pub ahead-known : (p : ℤ) (tasks : List Task) (root : ℕ) (walk : Walk) (left : List ℕ) (place : ℕ) → IsWalked p tasks root walk → root < length tasks
    → walk.places.items ≡ left ++ place ∷ [] → place < length tasks
ahead-known p tasks root walk left place is known places =
    elim (is.begun place (subst (λ l. Contains l place) (sym places) (Contains-push left place))) [
      | inl same ↦ subst (λ k. k < length tasks) (sym same) known
      | inr on ↦ (let led = is.led_to place on in slice_get_within tasks place led.0 led.1)
    ]

-- nothing is left to look at: each task is marked to which that of the root leads, and nothing else
pub IsMarkedBy-empty : (p : ℤ) (tasks : List Task) (root : ℕ) (walk left : Walk) → root < length tasks → IsWalked p tasks root walk
    → left.marks.items ≡ walk.marks.items → walk.places.items ≡ left.places.items → left.places.items ≡ [] → IsMarkedBy tasks (leads_at p tasks root) left
IsMarkedBy-empty p tasks root walk left known is marks places over =
    λ place task at. marked-same walk left place marks
    ∙ (elim (slice_get_cases tasks root).1 [
      | inl here ↦ IsWalked-end p tasks root walk here.0 is here.2 (places ∙ over) place task at
      | inr gone ↦ absurd (omega (arith, gone.0))
    ])
