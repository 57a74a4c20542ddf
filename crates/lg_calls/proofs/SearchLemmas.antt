-- What a worker's search goes over, and which task is found first.
use Rattle.std.proofs.Common.{◌≡◌, refl, sym, ap, ◌∙◌, ℕ, Bool, true, false, cond, not, ◌&&◌, ◌||◌, IsTrue, Option, Some, None, List, [], ◌∷◌, ◌++◌}
use Rattle.std.specs.List.{AllByRecursion, Contains, filter, find, fold, list_all, scan}
use Rattle.std.specs.Option.{option_map}
use Rattle.std.proofs.lemmas.List.Elements.{All-contains, All-contains_itself, All-filter, All-from_recursion, filter_passes}
use Rattle.lg_calls.specs.declared.methods.get_work.GetWork.{GetWork}
use Rattle.lg_calls.specs.declared.state.State.{State}
use Rattle.lg_calls.specs.declared.status.Status.TheVariants.{Pending}
use Rattle.lg_calls.specs.Status.{is_status}
use Rattle.lg_calls.specs.Task.{Task}
use Rattle.lg_calls.specs.Work.Candidate.{is_candidate, first_candidate}
use Rattle.lg_calls.specs.Work.Laws.{HasNoCandidate, IsFirst}
use Rattle.lg_calls.specs.Work.Reserved.{with_next, nothing_reserved, reserved}
use Rattle.lg_calls.specs.Work.Walk.{has_no_resources, is_trivial, pending_of, can_be_walked, goes_over, names, walk}
use Rattle.lg_calls.proofs.OrderLemmas.{both, first_of_both, second_of_both}
use Rattle.lg_calls.proofs.RankLemmas.{Contains-from_by_rank}

-- ---- what is found along a scan

module _ {S X : Type 0} (next : S → X → S) (test : S × X → Bool) where
  abbrev along : S → List X → List (S × X)
  along before xs = scan next (λ state x. (state, x)) before xs

  abbrev found : S → List X → Option X
  found before xs = option_map (λ place. place.1) (find test (along before xs))

  -- no element passes, each taken with what those before it come to
  abbrev pub NonePasses : S → List X → Type 0
  NonePasses before xs = (front : List X) (x : X) (rest : List X) → xs ≡ front ++ x ∷ rest → test (fold next before front, x) ≡ false

  -- one passes, and none before it
  pub record Passes (before : S) (xs : List X) (x : X) : Type 0 where
    pub front : List X
    pub rest : List X
    pub split : xs ≡ front ++ x ∷ rest
    pub passes : test (fold next before front, x) ≡ true
    pub none_before : NonePasses before front

  abbrev tail_of : List X → List X
  tail_of [] = []
  tail_of (x ∷ xs) = xs

  abbrev head_of : X → List X → X
  head_of d [] = d
  head_of d (x ∷ xs) = x

  none-nil : (before : S) → NonePasses before []
  none-nil before [] x rest e = cc
  none-nil before (y ∷ front) x rest e = cc

  none-cons : (before : S) (x : X) (xs : List X) → test (before, x) ≡ false → NonePasses (next before x) xs → NonePasses before (x ∷ xs)
  none-cons before x xs fails none [] y rest e =
      ap (λ z. test (before, z)) (sym (ap (head_of x) e)) ∙ fails
  none-cons before x xs fails none (z ∷ front) y rest e =
      let same : x ≡ z = ap (head_of x) e in
      ap (λ w. test (fold next (next before w) front, y)) (sym same) ∙ none front y rest (ap tail_of e)

  none-step : (before : S) (x : X) (xs : List X) (b : Bool) → test (before, x) ≡ b → (found (next before x) xs ≡ None → NonePasses (next before x) xs)
      → option_map (λ (place : S × X). place.1) (cond b (Some (before, x)) (find test (along (next before x) xs))) ≡ None → NonePasses before (x ∷ xs)
  none-step before x xs true is none e = cc
  none-step before x xs false is none e = none-cons before x xs is (none e)

  pub none-found : (before : S) (xs : List X) → found before xs ≡ None → NonePasses before xs
  none-found before [] e = none-nil before
  none-found before (x ∷ xs) e = none-step before x xs (test (before, x)) refl (none-found (next before x) xs) e

  found-step : (before : S) (x : X) (xs : List X) (y : X) (b : Bool) → test (before, x) ≡ b → (found (next before x) xs ≡ Some y → Passes (next before x) xs y)
      → option_map (λ (place : S × X). place.1) (cond b (Some (before, x)) (find test (along (next before x) xs))) ≡ Some y → Passes before (x ∷ xs) y
  found-step before x xs y true is later e =
      let same : x ≡ y = cc in
      record {
        front = [];
        rest = xs;
        split = ap (λ z. z ∷ xs) same;
        passes = ap (λ z. test (before, z)) (sym same) ∙ is;
        none_before = none-nil before;
      }
  found-step before x xs y false is later e =
      let behind = later e in
      record {
        front = x ∷ behind.front;
        rest = behind.rest;
        split = ap (λ zs. x ∷ zs) behind.split;
        passes = behind.passes;
        none_before = none-cons before x behind.front is behind.none_before;
      }

  pub one-found : (before : S) (xs : List X) (y : X) → found before xs ≡ Some y → Passes before xs y
  one-found before [] y e = absurd (nothing e)
    where
      nothing : None ≡ Some y → ⊥
      nothing e = cc
  one-found before (x ∷ xs) y e = found-step before x xs y (test (before, x)) refl (one-found (next before x) xs y) e

-- ---- the first task that can be given

pub first-none : (ask : GetWork) (s : State) → first_candidate ask s ≡ None → HasNoCandidate ask s (walk ask.worker s)
unfolding first_candidate reserved
first-none ask s e = none-found (with_next ask s) (is_candidate ask s) (nothing_reserved ask s) (walk ask.worker s) e

pub first-some : (ask : GetWork) (s : State) (task : Task) → first_candidate ask s ≡ Some task → IsFirst ask s task
unfolding first_candidate reserved
first-some ask s task e =
    let there = one-found (with_next ask s) (is_candidate ask s) (nothing_reserved ask s) (walk ask.worker s) task e in
    record {
      front = there.front;
      rest = there.rest;
      in_walk = there.split;
      candidate = there.passes;
      none_before = there.none_before;
    }

-- ---- the walk of a trivial worker

named-alone : (trivial named : Bool) → trivial ≡ true → (not trivial || named) ≡ true → named ≡ true
named-alone true named is h = h
named-alone false named is h = cc

module _ {X : Type 0} (stays test : X → Bool) where
  kept-step : (x : X) (xs : List X) (b : Bool) → stays x ≡ b → list_all test (cond b (x ∷ filter stays xs) (filter stays xs)) ≡ true
      → (stays x ≡ true → test x ≡ true) × (list_all test (filter stays xs) ≡ true)
  kept-step x xs true is all = (λ kept. first_of_both _ _ all, second_of_both (test x) _ all)
  kept-step x xs false is all = (λ kept. absurd (never (sym is ∙ kept)), all)
    where
      never : false ≡ true → ⊥
      never e = cc

  -- what each element passes that is kept
  all-kept : (xs : List X) → list_all test (filter stays xs) ≡ true → AllByRecursion (λ x. stays x ≡ true → test x ≡ true) xs
  all-kept [] all = tt
  all-kept (x ∷ xs) all = let split = kept-step x xs (stays x) refl all in (split.0, all-kept xs split.1)

  pub kept-passes : (xs : List X) (x : X) → list_all test (filter stays xs) ≡ true → Contains xs x → stays x ≡ true → test x ≡ true
  kept-passes xs x all there =
      All-contains (λ y. stays y ≡ true → test y ≡ true) xs x (All-from_recursion (λ y. stays y ≡ true → test y ≡ true) xs (all-kept xs all)) there

  pub kept-here : (xs : List X) (x : X) → Contains (filter stays xs) x → Contains xs x
  kept-here xs x there = All-contains (Contains xs) (filter stays xs) x (All-filter stays (Contains xs) xs (All-contains_itself xs)) there

  pub kept-stays : (xs : List X) (x : X) → Contains (filter stays xs) x → stays x ≡ true
  kept-stays xs x there = All-contains (λ y. stays y ≡ true) (filter stays xs) x (filter_passes stays xs) there

-- whoever a trivial worker finds waiting needs nothing
pub trivial-needs_nothing : (worker : List ℕ) (s : State) → IsTrue (is_trivial worker s) → (task : Task) → Contains (walk worker s) task → task.status ≡ Pending → IsTrue (has_no_resources task)
unfolding walk
trivial-needs_nothing worker s trivial task there pending =
    let goes = goes_over (is_trivial worker s) worker in
    let among = Contains-from_by_rank (filter goes s.tasks) task there in
    let named = named-alone (is_trivial worker s) (names worker task) trivial (second_of_both (can_be_walked task) _ (kept-stays goes has_no_resources s.tasks task among)) in
    kept-passes (λ other. is_status Pending other.status && names worker other) has_no_resources s.tasks task
    (second_of_both _ (list_all has_no_resources (pending_of worker s.tasks)) trivial)
    (kept-here goes has_no_resources s.tasks task among)
    (both _ _ (ap (is_status Pending) pending) named)
