-- What a walk marks, step by step.
use Rattle.std.proofs.Common.{◌≡◌, ◌≢◌, ℕ, ◌<◌, Bool, true, false, ◌||◌, ◌⊎◌, List, [], ◌∷◌, ◌++◌, Option, Some, None, length, get_or, set, refl, sym, ap, ◌∙◌, subst, inl, inr, arith}
use Rattle.std.specs.List.{Contains, list_any}
use Rattle.std.proofs.lemmas.Bool.{cases_eq, false≢true}
use Rattle.std.proofs.lemmas.List.{get_or-set_same, get_or-set_other, length-set}
use Rattle.std.proofs.lemmas.List.Elements.{Contains-append_left, Contains-push, Contains-push_cases}
use Rattle.std.proofs.lemmas.List.Folds.{list_any-append}
use Rattle.std.proofs.lemmas.Option.{none-some, same_Some}
use Rattle.lg_views.specs.declared.walk.Walk.{Walk}
use Rattle.lg_calls.specs.Look.{tasks_at, task_at}
use Rattle.lg_calls.specs.Paths.{is_path_through}
use Rattle.lg_calls.specs.Task.{Task}
use Rattle.lg_calls.specs.Tasks.{have_distinct_ids, has_id, find_task}
use Rattle.lg_views.specs.Walking.{is_marked, IsAhead, rest_of, IsFresh, IsMarkedBy, Marks, has_one_of}
use Rattle.lg_views.proofs.PathLemmas.{path-at_once, path-on, path-reached}
use Rattle.lg_views.proofs.ShelfLemmas.{Stands, all_stand, stands-known, alone, IsPlaceOf, nobody}
use Rattle.lg_views.proofs.TestLemmas.{or-left, or-right, or-cases}

-- ---- tests

pub not-true : (b : Bool) → b ≡ false → b ≡ true → ⊥
not-true b off on = false≢true (sym off ∙ on)

same_tests : (a b : Bool) → (a ≡ true → b ≡ true) → (b ≡ true → a ≡ true) → a ≡ b
same_tests true b there back = sym (there refl)
same_tests false true there back = back refl
same_tests false false there back = refl

-- ---- one place

marked-set : (before after : Walk) (place : ℕ) → place < length before.marks.items → after.marks.items ≡ set before.marks.items place true → is_marked after place ≡ true
marked-set before after place inside e = ap (λ marks. get_or marks place false) e ∙ get_or-set_same before.marks.items place true false inside

marked-other : (before after : Walk) (place k : ℕ) → k ≢ place → after.marks.items ≡ set before.marks.items place true → is_marked after k ≡ is_marked before k
marked-other before after place k apart e = ap (λ marks. get_or marks k false) e ∙ get_or-set_other before.marks.items place k true false apart

marked-same : (before after : Walk) (k : ℕ) → after.marks.items ≡ before.marks.items → is_marked after k ≡ is_marked before k
marked-same before after k e = ap (λ marks. get_or marks k false) e

-- a place more is marked
Marks-more : (shelf : List (Option Task)) (test : Task → Bool) (before after : Walk) (place : ℕ) (task : Task)
    → task_at shelf place ≡ Some task → test task ≡ true → ((k : ℕ) (t : Task) → task_at shelf k ≡ Some t → test t ≡ true → k ≡ place)
    → place < length before.marks.items → after.marks.items ≡ set before.marks.items place true → after.places.items ≡ before.places.items ++ place ∷ []
    → rest_of after ≡ rest_of before → Marks shelf test before after
Marks-more shelf test before after place task at passes sole inside marks places rest =
    let here = marked-set before after place inside marks in
    record {
      marked = λ k t found is. ap (is_marked after) (sole k t found is) ∙ here;
      by_test = λ k is. elim (cases_eq k place) [
        | inl same ↦ inr (task, ap (task_at shelf) same ∙ at, passes)
        | inr apart ↦ inl (sym (marked-other before after place k apart marks) ∙ is)
      ];
      kept = λ k is. elim (cases_eq k place) [
        | inl same ↦ ap (is_marked after) same ∙ here
        | inr apart ↦ marked-other before after place k apart marks ∙ is
      ];
      ahead = λ k is. elim (cases_eq k place) [
        | inl same ↦ inr (subst (IsAhead after) (sym same) (subst (λ l. Contains l place) (sym places) (Contains-push before.places.items place)))
        | inr apart ↦ inl (sym (marked-other before after place k apart marks) ∙ is)
      ];
      ahead_kept = λ k is. subst (λ l. Contains l k) (sym places) (Contains-append_left before.places.items (place ∷ []) k is);
      ahead_marked = λ k is. elim (Contains-push_cases before.places.items place k (subst (λ l. Contains l k) places is)) [
        | inl old ↦ inl old
        | inr same ↦ inr (ap (is_marked after) (sym same) ∙ here)
      ];
      count = ap length marks ∙ length-set before.marks.items place true;
      rest = rest;
    }

-- nothing more is marked, where what passes is marked already
Marks-same : (shelf : List (Option Task)) (test : Task → Bool) (walk : Walk)
    → ((k : ℕ) (t : Task) → task_at shelf k ≡ Some t → test t ≡ true → is_marked walk k ≡ true) → Marks shelf test walk walk
Marks-same shelf test walk passed = record {
  marked = passed;
  by_test = λ k is. inl is;
  kept = λ k is. is;
  ahead = λ k is. inl is;
  ahead_kept = λ k is. is;
  ahead_marked = λ k is. inl is;
  count = refl;
  rest = refl;
}

-- where nothing passes
pub Marks-none : (shelf : List (Option Task)) (test : Task → Bool) (walk : Walk) → ((t : Task) → test t ≡ false) → Marks shelf test walk walk
Marks-none shelf test walk never = Marks-same shelf test walk (λ k t there passes. absurd (not-true (test t) (never t) passes))

-- one step behind another
Marks-then : (shelf : List (Option Task)) (one other both : Task → Bool) (a b c : Walk) → Marks shelf one a b → Marks shelf other b c
    → ((t : Task) → both t ≡ true → (one t ≡ true) ⊎ (other t ≡ true)) → ((t : Task) → one t ≡ true → both t ≡ true) → ((t : Task) → other t ≡ true → both t ≡ true)
    → Marks shelf both a c
Marks-then shelf one other both a b c first second cases left right = record {
  marked = λ k t found is. elim (cases t is) [
    | inl passes ↦ second.kept k (first.marked k t found passes)
    | inr passes ↦ second.marked k t found passes
  ];
  by_test = λ k is. elim (second.by_test k is) [
    | inl old ↦ elim (first.by_test k old) [ inl older ↦ inl older | inr new ↦ inr (new.0, new.1, left new.0 new.2) ]
    | inr new ↦ inr (new.0, new.1, right new.0 new.2)
  ];
  kept = λ k is. second.kept k (first.kept k is);
  ahead = λ k is. elim (second.ahead k is) [
    | inl old ↦ elim (first.ahead k old) [ inl older ↦ inl older | inr new ↦ inr (second.ahead_kept k new) ]
    | inr new ↦ inr new
  ];
  ahead_kept = λ k is. second.ahead_kept k (first.ahead_kept k is);
  ahead_marked = λ k is. elim (second.ahead_marked k is) [
    | inl old ↦ elim (first.ahead_marked k old) [ inl older ↦ inl older | inr new ↦ inr (second.kept k new) ]
    | inr new ↦ inr new
  ];
  count = second.count ∙ first.count;
  rest = second.rest ∙ first.rest;
}

-- ---- the task of an id

single : (id : List ℕ) (t : Task) → has_one_of (id ∷ []) t ≡ true → has_id id t ≡ true
single id t h = elim (or-cases (has_id id t) false h) [ inl has ↦ has | inr none ↦ absurd (false≢true none) ]

pub reached-more : (id : List ℕ) (shelf : List (Option Task)) (before after : Walk) (place : ℕ) → have_distinct_ids (tasks_at shelf) ≡ true
    → IsPlaceOf id shelf place → length before.marks.items ≡ length shelf → after.marks.items ≡ set before.marks.items place true
    → after.places.items ≡ before.places.items ++ place ∷ [] → rest_of after ≡ rest_of before → Marks shelf (has_one_of (id ∷ [])) before after
reached-more id shelf before after place distinct is count marks places rest =
    Marks-more shelf (has_one_of (id ∷ [])) before after place is.task is.at (or-left _ _ is.has)
    (λ k t there passes. alone id shelf place k is.task t distinct is.at there is.has (single id t passes))
    (omega (arith, is.inside, count)) marks places rest

pub reached-same : (id : List ℕ) (shelf : List (Option Task)) (walk : Walk) (place : ℕ) → have_distinct_ids (tasks_at shelf) ≡ true
    → IsPlaceOf id shelf place → is_marked walk place ≡ true → Marks shelf (has_one_of (id ∷ [])) walk walk
reached-same id shelf walk place distinct is marked =
    Marks-same shelf (has_one_of (id ∷ [])) walk
    (λ k t there passes.
    let same : k ≡ place = alone id shelf place k is.task t distinct is.at there is.has (single id t passes) in
    ap (is_marked walk) same ∙ marked)

pub reached-nobody : (id : List ℕ) (shelf : List (Option Task)) (walk : Walk) → find_task id (tasks_at shelf) ≡ None → Marks shelf (has_one_of (id ∷ [])) walk walk
reached-nobody id shelf walk none =
    Marks-same shelf (has_one_of (id ∷ [])) walk (λ k t there passes. absurd (not-true (has_id id t) (nobody id shelf k t none there) (single id t passes)))

pub Marks-append : (shelf : List (Option Task)) (xs ys : List (List ℕ)) (a b c : Walk) → Marks shelf (has_one_of xs) a b → Marks shelf (has_one_of ys) b c
    → Marks shelf (has_one_of (xs ++ ys)) a c
Marks-append shelf xs ys a b c first second =
    let split : (t : Task) → has_one_of (xs ++ ys) t ≡ (has_one_of xs t || has_one_of ys t) = λ t. list_any-append (λ id. has_id id t) xs ys in
    Marks-then shelf (has_one_of xs) (has_one_of ys) (has_one_of (xs ++ ys)) a b c first second
    (λ t is. or-cases (has_one_of xs t) (has_one_of ys t) (sym (split t) ∙ is))
    (λ t is. split t ∙ or-left _ _ is)
    (λ t is. split t ∙ or-right (has_one_of xs t) _ is)

-- ---- the whole walk

module _ (leads : Task → Task → Bool) (shelf : List (Option Task)) (root : Task) where
  -- what a task leads to is marked
  abbrev IsDone : Walk → Task → Type 0
  IsDone walk from = (place : ℕ) (to : Task) → task_at shelf place ≡ Some to → leads from to ≡ true → is_marked walk place ≡ true

  abbrev pub leads_on : Task → Bool
  leads_on to = is_path_through leads (tasks_at shelf) root to

  pub record IsWalked (walk : Walk) : Type 0 where
    pub size : length walk.marks.items ≡ length shelf
    pub begun : IsDone walk root
    pub led_to : (k : ℕ) → is_marked walk k ≡ true → (task : Task) × (task_at shelf k ≡ Some task) × (leads_on task ≡ true)
    pub ahead_marked : (k : ℕ) → IsAhead walk k → is_marked walk k ≡ true
    pub done : (k : ℕ) (from : Task) → task_at shelf k ≡ Some from → is_marked walk k ≡ true → IsAhead walk k ⊎ IsDone walk from

  nowhere : (k : ℕ) → Contains [] k → ⊥
  nowhere k is = absurd (omega (arith, is.1))

  pub IsWalked-begin : (fresh walk : Walk) → IsFresh (length shelf) fresh → Marks shelf (leads root) fresh walk → IsWalked walk
  IsWalked-begin fresh walk is step =
      let unmarked : (k : ℕ) → is_marked fresh k ≡ true → ⊥ = λ k on. not-true (is_marked fresh k) (is.unmarked k) on in
      record {
        size = step.count ∙ is.count;
        begun = step.marked;
        led_to = λ k on. elim (step.by_test k on) [
          | inl old ↦ absurd (unmarked k old)
          | inr new ↦ (new.0, new.1, path-at_once leads (tasks_at shelf) root new.0 new.2)
        ];
        ahead_marked = λ k ahead. elim (step.ahead_marked k ahead) [
          | inl old ↦ absurd (nowhere k (subst (λ l. Contains l k) is.nothing_ahead old))
          | inr on ↦ on
        ];
        done = λ k from at on. elim (step.ahead k on) [ inl old ↦ absurd (unmarked k old) | inr ahead ↦ inl ahead ];
      }

  -- a place that is still to be looked at is that of a task
  pub ahead-known : (walk : Walk) (left : List ℕ) (place : ℕ) → IsWalked walk → walk.places.items ≡ left ++ place ∷ [] → task_at shelf place ≡ None → ⊥
  ahead-known walk left place is places none =
      let led = is.led_to place (is.ahead_marked place (subst (λ l. Contains l place) (sym places) (Contains-push left place))) in
      none-some led.0 (sym none ∙ led.1)

  pub IsWalked-more : (before left after : Walk) (place : ℕ) (task : Task) → IsWalked before
      → before.places.items ≡ left.places.items ++ place ∷ [] → left.marks.items ≡ before.marks.items → task_at shelf place ≡ Some task
      → Marks shelf (leads task) left after → IsWalked after
  IsWalked-more before left after place task is places marks at step =
      let still : (k : ℕ) → is_marked left k ≡ is_marked before k = λ k. marked-same before left k marks in
      let was_ahead : (k : ℕ) → IsAhead left k → IsAhead before k = λ k ahead. subst (λ l. Contains l k) (sym places) (Contains-append_left left.places.items (place ∷ []) k ahead) in
      let here : IsAhead before place = subst (λ l. Contains l place) (sym places) (Contains-push left.places.items place) in
      let kept : (k : ℕ) → is_marked before k ≡ true → is_marked after k ≡ true = λ k on. step.kept k (still k ∙ on) in
      let led = is.led_to place (is.ahead_marked place here) in
      let known = stands-known shelf place task at in
      let there : leads_on task ≡ true = ap leads_on (same_Some task led.0 (sym at ∙ led.1)) ∙ led.2 in
      let old : (k : ℕ) (from : Task) → task_at shelf k ≡ Some from → is_marked before k ≡ true → IsAhead after k ⊎ IsDone after from =
      λ k from found on. elim (is.done k from found on) [
        | inl ahead ↦
            elim (Contains-push_cases left.places.items place k (subst (λ l. Contains l k) places ahead)) [
              | inl later ↦ inl (step.ahead_kept k later)
              | inr same ↦
                  inr (let task_is : task ≡ from = same_Some task from (sym at ∙ ap (task_at shelf) same ∙ found) in
                  λ j to where_to goes. step.marked j to where_to (ap (λ t. leads t to) task_is ∙ goes))
            ]
        | inr done ↦ inr (λ j to where_to goes. kept j (done j to where_to goes))
      ]
      in
      record {
        size = step.count ∙ ap length marks ∙ is.size;
        begun = λ k to where_to goes. kept k (is.begun k to where_to goes);
        led_to = λ k on. elim (step.by_test k on) [
          | inl earlier ↦ is.led_to k (sym (still k) ∙ earlier)
          | inr new ↦ (new.0, new.1, path-on leads (tasks_at shelf) known.0 root task new.0 known.1 there (path-at_once leads (tasks_at shelf) task new.0 new.2))
        ];
        ahead_marked = λ k ahead. elim (step.ahead_marked k ahead) [
          | inl earlier ↦ kept k (is.ahead_marked k (was_ahead k earlier))
          | inr on ↦ on
        ];
        done = λ k from found on. elim (step.ahead k on) [ inl earlier ↦ old k from found (sym (still k) ∙ earlier) | inr ahead ↦ inl ahead ];
      }

  -- nothing is left to look at: each task is marked to which that of the root leads, and nothing else
  pub IsWalked-end : (walk left : Walk) → IsWalked walk → left.marks.items ≡ walk.marks.items → walk.places.items ≡ left.places.items → left.places.items ≡ []
      → IsMarkedBy shelf leads_on left
  IsWalked-end walk left is marks places over =
      let done : (k : ℕ) (t : Task) → task_at shelf k ≡ Some t → is_marked walk k ≡ true → IsDone walk t =
      λ k t there on. elim (is.done k t there on) [ inl ahead ↦ absurd (nowhere k (subst (λ l. Contains l k) (places ∙ over) ahead)) | inr all ↦ all ]
      in
      let Reached : Task → Type 0 = λ t. (k : ℕ) → task_at shelf k ≡ Some t → is_marked walk k ≡ true in
      record {
        count = ap length marks ∙ is.size;
        marks = λ place task found.
            marked-same walk left place marks
            ∙ same_tests _ _
            (λ on. let led = is.led_to place on in ap leads_on (same_Some task led.0 (sym found ∙ led.1)) ∙ led.2)
            (λ h.
            path-reached leads Reached (IsDone walk) (Stands shelf)
            (λ one to all known goes k where_to. all k to where_to goes)
            (λ t known reached. done known.0 t known.1 (reached known.0 known.1))
            (tasks_at shelf) (all_stand shelf) root task is.begun (place, found) h place found);
      }
