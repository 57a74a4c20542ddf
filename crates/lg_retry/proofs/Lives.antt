-- What is dropped never changes an answer.
use Rattle.std.proofs.Common.{◌≡◌, ℕ, ◌+◌, ◌-◌, ◌<◌, ◌≤◌, Bool, true, false, cond, Option, Some, unwrap_or, List, [], ◌∷◌, ◌++◌, length, get_or, slice_get, filter, count_by, refl, sym, ◌∙◌, ap, subst, append_assoc, arith, length-append}
use Rattle.std.specs.List.{list_any, All}
use Rattle.std.proofs.lemmas.List.Elements.{All-append, All-cons, All-filter, All-get_or, All-nil}
use Rattle.std.proofs.lemmas.List.{append-nil, get_or_append_left}
use Rattle.std.proofs.Math.Seq.{get_or-append_seam, take-append_seam}
use Rattle.std.proofs.lemmas.List.Sorted.{IsNonDecreasingBy-push, IsNonDecreasingBy-take}
use Rattle.std.proofs.lemmas.List.Kept.{IsNonDecreasingBy-filter}
use Rattle.std.proofs.lemmas.List.Sums.{fold-append, sum_by-append, length-filter}
use Rattle.std.proofs.lemmas.Bool.Decides.{nat_tests}
use Rattle.lg_base.specs.declared.moment.Moment.{Moment}
use Rattle.lg_retry.specs.declared.policy.Policy.{Policy}
use Rattle.lg_retry.specs.Failures.{History, no_failures, DoNotFall, add_failure, failure_count, is_inside_window, is_excessive, is_excessive_since}
use Rattle.lg_retry.specs.Life.{Event, Fails, Forgets, is_forgetting, history_after, history_after_one, since_forgotten, whole_history}

-- behind a front that has P, the rest is put on one by one
grown : {X : Type 0} (P : List X → Type 0) (step : (front : List X) (last : X) → P front → P (front ++ last ∷ [])) (front back : List X) → P front → P (front ++ back)
grown P step front [] holds = subst P (sym (append-nil front)) holds
grown P step front (x ∷ back) holds = subst P (append_assoc front (x ∷ []) back) (grown P step (front ++ x ∷ []) back (step front x holds))

-- the moments behind which none was forgotten, where it is known whether one of the later events forgets
since_forgotten-later : (life : List Event) (moment : Moment) (forgets : Bool) → list_any is_forgetting life ≡ forgets → since_forgotten (Fails moment ∷ life) ≡ cond forgets (since_forgotten life) (moment ∷ since_forgotten life)
since_forgotten-later life moment true is = rw is refl
since_forgotten-later life moment false is = rw is refl

forgets_at_last : (life : List Event) → list_any is_forgetting (life ++ Forgets ∷ []) ≡ true
forgets_at_last [] = refl
forgets_at_last (Forgets ∷ life) = refl
forgets_at_last (Fails moment ∷ life) = forgets_at_last life

same_at_last : (life : List Event) (now : Moment) → list_any is_forgetting (life ++ Fails now ∷ []) ≡ list_any is_forgetting life
same_at_last [] now = refl
same_at_last (Forgets ∷ life) now = refl
same_at_last (Fails moment ∷ life) now = same_at_last life now

since_forgotten-forgets : (life : List Event) → since_forgotten (life ++ Forgets ∷ []) ≡ []
since_forgotten-forgets [] = refl
since_forgotten-forgets (Forgets ∷ life) = since_forgotten-forgets life
since_forgotten-forgets (Fails moment ∷ life) =
    since_forgotten-later (life ++ Forgets ∷ []) moment true (forgets_at_last life) ∙ since_forgotten-forgets life

one_more : (forgets : Bool) (life later : List Moment) (moment now : Moment) → later ≡ life ++ now ∷ [] → cond forgets later (moment ∷ later) ≡ cond forgets life (moment ∷ life) ++ now ∷ []
one_more true life later moment now is = is
one_more false life later moment now is = ap (λ moments. moment ∷ moments) is

since_forgotten-fails : (life : List Event) (now : Moment) → since_forgotten (life ++ Fails now ∷ []) ≡ since_forgotten life ++ now ∷ []
since_forgotten-fails [] now = refl
since_forgotten-fails (Forgets ∷ life) now = since_forgotten-fails life now
since_forgotten-fails (Fails moment ∷ life) now =
    since_forgotten-later (life ++ Fails now ∷ []) moment (list_any is_forgetting life) (same_at_last life now)
    ∙ one_more (list_any is_forgetting life) (since_forgotten life) (since_forgotten (life ++ Fails now ∷ [])) moment now (since_forgotten-fails life now)

filter_step : {X : Type 0} (test kept : X → Bool) (x : X) (xs : List X) (t k : Bool) → test x ≡ t → kept x ≡ k → (t ≡ true → k ≡ true) → filter test (filter kept xs) ≡ filter test xs → filter test (cond k (x ∷ filter kept xs) (filter kept xs)) ≡ cond t (x ∷ filter test xs) (filter test xs)
filter_step test kept x xs true true passes stays keeps same = rw passes (ap (λ ys. x ∷ ys) same)
filter_step test kept x xs true false passes stays keeps same = absurd (let not_kept : false ≡ true = keeps refl in cc)
filter_step test kept x xs false true passes stays keeps same = rw passes same
filter_step test kept x xs false false passes stays keeps same = same

-- a filter passes the same behind one that keeps what it passes
filter-filter : {X : Type 0} (test kept : X → Bool) → ((x : X) → test x ≡ true → kept x ≡ true) → (xs : List X) → filter test (filter kept xs) ≡ filter test xs
filter-filter test kept keeps [] = refl
filter-filter test kept keeps (x ∷ xs) = filter_step test kept x xs (test x) (kept x) refl refl (keeps x) (filter-filter test kept keeps xs)

-- what is inside the window later was inside it before
inside_before : (policy : Policy) (earlier now moment : Moment) → earlier.0 ≤ now.0 → is_inside_window now policy moment ≡ true → is_inside_window earlier policy moment ≡ true
inside_before policy earlier now moment rises inside = grind (arith, nat_tests)

front_in_order : (front back : List Moment) → DoNotFall (front ++ back) → DoNotFall front
front_in_order front back ordered =
    subst DoNotFall (take-append_seam front back) (IsNonDecreasingBy-take (λ moment. moment.0) (length front) (front ++ back) ordered)

-- of moments that don't fall none is above the last
below_last : (moments : List Moment) (last : Moment) → DoNotFall (moments ++ last ∷ []) → (i : ℕ) (d : Moment) → i < length moments → (get_or moments i d).0 ≤ last.0
below_last moments last ordered i d inside =
    let low : get_or (moments ++ last ∷ []) i d ≡ get_or moments i d = get_or_append_left moments (last ∷ []) d i inside in
    let high : get_or (moments ++ last ∷ []) (length moments) d ≡ last = get_or-append_seam moments last [] d in
    let rises = ordered i (length moments) d (omega arith) (omega (arith, length-append moments (last ∷ []))) in
    omega (arith, rises, ap (λ (moment : Moment). moment.0) low, ap (λ (moment : Moment). moment.0) high)

last_two : (moments : List Moment) (moment now : Moment) → DoNotFall (moments ++ moment ∷ [] ++ now ∷ []) → moment.0 ≤ now.0
last_two moments moment now ordered =
    let here : get_or (moments ++ moment ∷ []) (length moments) now ≡ moment = get_or-append_seam moments moment [] now in
    let rises = below_last (moments ++ moment ∷ []) now ordered (length moments) now (omega (arith, length-append moments (moment ∷ []))) in
    omega (arith, rises, ap (λ (at : Moment). at.0) here)

-- the last but one may be left out
without_one : (moments : List Moment) (moment now : Moment) → DoNotFall (moments ++ moment ∷ [] ++ now ∷ []) → DoNotFall (moments ++ now ∷ [])
without_one moments moment now ordered =
    let front = front_in_order (moments ++ moment ∷ []) (now ∷ []) ordered in
    IsNonDecreasingBy-push (λ at. at.0) moments now (front_in_order moments (moment ∷ []) front)
    (λ d some. let rises = below_last moments moment front (length moments - 1) d (omega arith) in omega (arith, rises, last_two moments moment now ordered))

-- one failure more is one more to count
failure_count-add : (policy : Policy) (moments : List Moment) (moment now : Moment) → moment.0 ≤ now.0 → failure_count (filter (is_inside_window moment policy) moments ++ moment ∷ []) now policy ≡ failure_count moments now policy + count_by (is_inside_window now policy) (moment ∷ [])
failure_count-add policy moments moment now rises =
    let inside = is_inside_window now policy in
    let before = is_inside_window moment policy in
    let same : count_by inside (filter before moments) ≡ count_by inside moments =
    sym (length-filter inside (filter before moments)) ∙ (ap length (filter-filter inside before (λ x. inside_before policy moment now x rises) moments) ∙ length-filter inside moments) in
    sum_by-append (λ x. cond (inside x) 1 0) (filter before moments) (moment ∷ []) ∙ ap (λ n. n + count_by inside (moment ∷ [])) same

-- the count is that of all failures since they were last forgotten
CountsAll : Policy → List Event → Type 0
CountsAll policy life = (now : Moment) → DoNotFall (since_forgotten life ++ now ∷ []) → failure_count (history_after policy life).moments now policy ≡ failure_count (since_forgotten life) now policy

history_after-append : (policy : Policy) (life : List Event) (event : Event) → history_after policy (life ++ event ∷ []) ≡ history_after_one policy (history_after policy life) event
history_after-append policy life event = fold-append (history_after_one policy) no_failures life (event ∷ [])

counts_behind : (policy : Policy) (life : List Event) (event : Event) → CountsAll policy life → CountsAll policy (life ++ event ∷ [])
unfolding CountsAll
counts_behind policy life Forgets all = λ now ordered. rw (history_after-append policy life Forgets, since_forgotten-forgets life) refl
counts_behind policy life (Fails moment) all = λ now ordered.
    let moments : List Moment = since_forgotten life in
    let since : since_forgotten (life ++ Fails moment ∷ []) ≡ moments ++ moment ∷ [] = since_forgotten-fails life moment in
    let in_order : DoNotFall (moments ++ moment ∷ [] ++ now ∷ []) =
    (let P : List Moment → Type 0 = λ ms. DoNotFall (ms ++ now ∷ []) in subst P since ordered) in
    let here : ℕ = count_by (is_inside_window now policy) (moment ∷ []) in
    rw (history_after-append policy life (Fails moment)) (rw since
    (failure_count-add policy (history_after policy life).moments moment now (last_two moments moment now in_order)
    ∙ (ap (λ n. n + here) (all now (without_one moments moment now in_order))
    ∙ sym (sum_by-append (λ x. cond (is_inside_window now policy x) 1 0) moments (moment ∷ [])))))

pub counts_all : (policy : Policy) (life : List Event) (now : Moment) → DoNotFall (since_forgotten life ++ now ∷ []) → failure_count (history_after policy life).moments now policy ≡ failure_count (since_forgotten life) now policy
unfolding CountsAll
counts_all policy life = grown (CountsAll policy) (counts_behind policy) [] life (λ now ordered. refl)

first_behind : (moments : List Moment) (first : Option Moment) (now : Moment) → first ≡ slice_get moments 0 → Some (unwrap_or first now) ≡ slice_get (moments ++ now ∷ []) 0
first_behind [] first now is = rw is refl
first_behind (moment ∷ moments) first now is = rw is refl

IsFirst : Policy → List Event → Type 0
IsFirst policy life = (history_after policy life).first ≡ slice_get (since_forgotten life) 0

is_first_behind : (policy : Policy) (life : List Event) (event : Event) → IsFirst policy life → IsFirst policy (life ++ event ∷ [])
unfolding IsFirst
is_first_behind policy life Forgets is = rw (history_after-append policy life Forgets) (rw (since_forgotten-forgets life) refl)
is_first_behind policy life (Fails moment) is =
    rw (history_after-append policy life (Fails moment)) (rw (since_forgotten-fails life moment) (first_behind (since_forgotten life) (history_after policy life).first moment is))

pub first_of_all : (policy : Policy) (life : List Event) → (history_after policy life).first ≡ slice_get (since_forgotten life) 0
unfolding IsFirst
first_of_all policy life = grown (IsFirst policy) (is_first_behind policy) [] life refl

pub excess_of_all : (policy : Policy) (life : List Event) (now : Moment) → DoNotFall (since_forgotten life ++ now ∷ []) → is_excessive (history_after policy life) now policy ≡ is_excessive (whole_history (since_forgotten life)) now policy
excess_of_all policy life now ordered =
    ap (λ first. is_excessive_since first (failure_count (history_after policy life).moments now policy) now policy) (first_of_all policy life)
    ∙ ap (λ count. is_excessive_since (slice_get (since_forgotten life) 0) count now policy) (counts_all policy life now ordered)

filter-append : {X : Type 0} (test : X → Bool) (xs ys : List X) → filter test (xs ++ ys) ≡ filter test xs ++ filter test ys
filter-append test [] ys = refl
filter-append test (x ∷ xs) ys = rw (filter-append test xs ys) (elim (test x) as (λ t. cond t (x ∷ (filter test xs ++ filter test ys)) (filter test xs ++ filter test ys) ≡ cond t (x ∷ filter test xs) (filter test xs) ++ filter test ys) [ true ↦ refl | false ↦ refl ])

-- a moment is inside a window that ends with it
inside_at_once : (policy : Policy) (now : Moment) → is_inside_window now policy now ≡ true
inside_at_once policy now = grind (arith, nat_tests)

pub in_order_behind : (history : History) (now : Moment) (policy : Policy) → DoNotFall history.moments → All (λ moment. moment.0 ≤ now.0) history.moments → DoNotFall (add_failure history now policy).moments × All (λ moment. moment.0 ≤ now.0) (add_failure history now policy).moments
in_order_behind history now policy ordered none_later =
    let inside : Moment → Bool = is_inside_window now policy in
    let NotLater : Moment → Type 0 = λ moment. moment.0 ≤ now.0 in
    let ordered_behind : DoNotFall (history.moments ++ now ∷ []) =
    IsNonDecreasingBy-push (λ moment. moment.0) history.moments now ordered
    (λ d some. All-get_or NotLater history.moments (length history.moments - 1) d (omega arith) none_later) in
    let same : filter inside (history.moments ++ now ∷ []) ≡ filter inside history.moments ++ now ∷ [] =
    filter-append inside history.moments (now ∷ []) ∙ ap (λ keeps. filter inside history.moments ++ cond keeps (now ∷ []) []) (inside_at_once policy now) in (
      subst DoNotFall same (IsNonDecreasingBy-filter (λ moment. moment.0) inside (history.moments ++ now ∷ []) ordered_behind),
      All-append NotLater (filter inside history.moments) (now ∷ []) (All-filter inside NotLater history.moments none_later) (All-cons NotLater now [] (omega arith) (All-nil NotLater)),
    )
