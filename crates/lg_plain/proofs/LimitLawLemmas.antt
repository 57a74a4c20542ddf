-- What the RUNNING tasks take together, where one more begins to run.
use Rattle.std.proofs.Common.{◌≡◌, ℕ, ◌+◌, ◌≤◌, Bool, true, false, cond, not, ◌&&◌, leb, IsTrue, List, [], ◌∷◌, map, Option, Some, None, unwrap_or, refl, sym, ap, subst, ◌∙◌, arith}
use Rattle.std.specs.Cmp.Lexicographic.{slice_cmp}
use Rattle.std.specs.FinMap.{entries, get, get-entries}
use Rattle.std.specs.FinMap.Entries.{find}
use Rattle.std.specs.List.{All, Contains, list_all, sum_by}
use Rattle.std.specs.Ordering.{nat_cmp}
use Rattle.std.proofs.lemmas.Bool.{false≢true, leb-true}
use Rattle.std.proofs.lemmas.List.Elements.{All-cons, All-contains, All-head, All-nil, All-tail, All-weaker}
use Rattle.std.proofs.lemmas.List.Sums.{sum_by-cons}
use Rattle.std.proofs.lemmas.Option.{none-some, same_Some}
use Rattle.lg_base.specs.Amounts.{AmountsByName, Fits, amount_of, limit_of}
use Rattle.lg_calls.specs.declared.state.State.{State}
use Rattle.lg_calls.specs.declared.status.Status.TheVariants.{Running}
use Rattle.lg_calls.specs.Order.{is_same}
use Rattle.lg_calls.specs.Status.{is_status}
use Rattle.lg_calls.specs.Task.{Task}
use Rattle.lg_calls.specs.Tasks.{ids_of, has_id, have_distinct_ids}
use Rattle.lg_calls.specs.Use.{use_by, used, with_status}
use Rattle.lg_calls.specs.Work.Fits.{fits}
use Rattle.lg_calls.specs.Work.Walk.{has_no_resources, is_trivial, taken}
use Rattle.lg_plain.proofs.PathLemmas.{and-first, and-second, same-is}

-- ---- the sum

-- what one task takes where it is RUNNING
abbrev share : List ℕ → Task → ℕ
share name task = cond (is_status Running task.status) (amount_of task.resources name) 0

abbrev together : List ℕ → List Task → ℕ
together name tasks = use_by (with_status Running tasks) name

use-cons : (name : List ℕ) (task : Task) (tasks : List Task) → together name (task ∷ tasks) ≡ share name task + together name tasks
use-cons name task tasks = by_status (is_status Running task.status)
  where
    by_status : (b : Bool) → use_by (cond b (task ∷ with_status Running tasks) (with_status Running tasks)) name ≡ cond b (amount_of task.resources name) 0 + together name tasks
    by_status true = sum_by-cons (λ (t : Task). amount_of t.resources name) task (with_status Running tasks)
    by_status false = omega arith

share-most : (name : List ℕ) (task : Task) → share name task ≤ amount_of task.resources name
share-most name task = by_status (is_status Running task.status)
  where
    by_status : (b : Bool) → cond b (amount_of task.resources name) 0 ≤ amount_of task.resources name
    by_status true = omega arith
    by_status false = omega arith

-- a change that leaves status and resources leaves what is taken
pub use-kept : (name : List ℕ) (change : Task → Task) → ((task : Task) → (change task).status ≡ task.status) → ((task : Task) → (change task).resources ≡ task.resources)
    → (tasks : List Task) → together name (map change tasks) ≡ together name tasks
use-kept name change status resources [] = refl
use-kept name change status resources (task ∷ tasks) =
    use-cons name (change task) (map change tasks)
    ∙ (λ i. cond (is_status Running (status task i)) (amount_of (resources task i) name) 0 + use-kept name change status resources tasks i)
    ∙ sym (use-cons name task tasks)

module _ (name : List ℕ) (id : List ℕ) (change : Task → Task)
    (others : (task : Task) → has_id id task ≡ false → change task ≡ task)
    (resources : (task : Task) → (change task).resources ≡ task.resources) where
  -- where none has the id all stay
  none-changed : (tasks : List Task) → list_all (λ other. not (is_same id other)) (ids_of tasks) ≡ true → map change tasks ≡ tasks
  none-changed [] none = refl
  none-changed (task ∷ tasks) none =
      let apart : has_id id task ≡ false = differs (has_id id task) (and-first _ _ none) in
      λ i. others task apart i ∷ none-changed tasks (and-second (not (has_id id task)) _ none) i
    where
      differs : (b : Bool) → not b ≡ true → b ≡ false
      differs true e = absurd (false≢true e)
      differs false e = refl

  -- where one task may begin to run, no more is taken with it than it needs
  pub use-one_more : (amount : ℕ) (tasks : List Task) → have_distinct_ids tasks ≡ true
      → All (λ task. has_id id task ≡ true → amount_of task.resources name ≤ amount) tasks → together name (map change tasks) ≤ together name tasks + amount
  use-one_more amount [] distinct most = omega arith
  use-one_more amount (task ∷ tasks) distinct most =
      by_id (has_id id task) refl
      (use-one_more amount tasks (and-second (list_all (λ other. not (is_same task.id other)) (ids_of tasks)) _ distinct)
      (All-tail (λ t. has_id id t ≡ true → amount_of t.resources name ≤ amount) task tasks most))
    where
      whole : together name (map change (task ∷ tasks)) ≡ share name (change task) + together name (map change tasks)
      whole = use-cons name (change task) (map change tasks)

      before : together name (task ∷ tasks) ≡ share name task + together name tasks
      before = use-cons name task tasks

      by_id : (b : Bool) → has_id id task ≡ b → together name (map change tasks) ≤ together name tasks + amount
          → together name (map change (task ∷ tasks)) ≤ together name (task ∷ tasks) + amount
      by_id true has behind =
          let none = ap (λ text. list_all (λ other. not (is_same text other)) (ids_of tasks)) (same-is id task.id has) ∙ and-first _ _ distinct in
          let rest : together name (map change tasks) ≡ together name tasks = ap (together name) (none-changed tasks none) in
          let own : share name (change task) ≤ amount_of (change task).resources name = share-most name (change task) in
          let same : amount_of (change task).resources name ≡ amount_of task.resources name = ap (λ (all : AmountsByName). amount_of all name) (resources task) in
          let needs : amount_of task.resources name ≤ amount = All-head (λ t. has_id id t ≡ true → amount_of t.resources name ≤ amount) task tasks most has in
          omega (arith, whole, before, rest, own, same, needs)
      by_id false has behind =
          let same : share name (change task) ≡ share name task = ap (share name) (others task has) in
          omega (arith, whole, before, same, behind)

-- ---- what fits

pub all-pass : {X : Type 0} (test : X → Bool) (xs : List X) → list_all test xs ≡ true → All (λ x. test x ≡ true) xs
all-pass test [] all = All-nil (λ x. test x ≡ true)
all-pass test (x ∷ xs) all = All-cons (λ y. test y ≡ true) x xs (and-first _ _ all) (all-pass test xs (and-second (test x) _ all))

pub fits-all : (limits : AmountsByName) (taken : List ℕ → ℕ) (needs : AmountsByName) → fits limits taken needs ≡ true → Fits needs taken limits
unfolding fits
fits-all limits taken needs fit =
    All-weaker (λ need. leb (taken need.0 + need.1) (limit_of limits need.0) ≡ true) (λ need. taken need.0 + need.1 ≤ limit_of limits need.0)
    (λ need small. leb-true (taken need.0 + need.1) (limit_of limits need.0) small) (entries needs)
    (all-pass (λ need. leb (taken need.0 + need.1) (limit_of limits need.0)) (entries needs) fit)

-- whoever needs nothing fits
needs-nothing : (task : Task) (taken : List ℕ → ℕ) (limits : AmountsByName) → has_no_resources task ≡ true → (es : List (List ℕ × ℕ)) → entries task.resources ≡ es
    → All (λ need. taken need.0 + need.1 ≤ limit_of limits need.0) es
needs-nothing task taken limits none [] is = All-nil (λ need. taken need.0 + need.1 ≤ limit_of limits need.0)
needs-nothing task taken limits none (e ∷ es) is = absurd (false≢true (rw is at none))

pub fits-nothing : (task : Task) (taken : List ℕ → ℕ) (limits : AmountsByName) → has_no_resources task ≡ true → Fits task.resources taken limits
fits-nothing task taken limits none = needs-nothing task taken limits none (entries task.resources) refl

-- whoever isn't trivial sees what is taken
pub fits-used : (worker : List ℕ) (s : State) (needs : AmountsByName) → is_trivial worker s ≡ false → Fits needs (taken worker s) s.limits → Fits needs (used s) s.limits
fits-used worker s needs busy fit =
    All-weaker (λ need. taken worker s need.0 + need.1 ≤ limit_of s.limits need.0) (λ need. used s need.0 + need.1 ≤ limit_of s.limits need.0)
    (λ need small. subst (λ b. cond b 0 (used s need.0) + need.1 ≤ limit_of s.limits need.0) busy small) (entries needs) fit

-- what is needed of one name fits
amount-fits : (taken : ℕ) (limit : ℕ) (found : Option ℕ) → taken ≤ limit → ((amount : ℕ) → found ≡ Some amount → taken + amount ≤ limit) → taken + unwrap_or found 0 ≤ limit
amount-fits taken limit None within fit = omega arith
amount-fits taken limit (Some amount) within fit = fit amount refl

found-fits : (P : List ℕ × ℕ → Type 0) (name : List ℕ) (es : List (List ℕ × ℕ)) (amount : ℕ) → All P es → find (slice_cmp nat_cmp) name es ≡ Some amount → P (name, amount)
found-fits P name [] amount fit is = absurd (none-some amount is)
found-fits P name (e ∷ es) amount fit is = by_key (is_same name e.0) refl (found-fits P name es amount (All-tail P e es fit)) is
  where
    by_key : (b : Bool) → is_same name e.0 ≡ b → (find (slice_cmp nat_cmp) name es ≡ Some amount → P (name, amount)) → cond b (Some e.1) (find (slice_cmp nat_cmp) name es) ≡ Some amount → P (name, amount)
    by_key true same behind here = subst P (λ i. (sym (same-is name e.0 same) i, same_Some e.1 amount here i)) (All-head P e es fit)
    by_key false differs behind here = behind here

pub within-with : (limits needs : AmountsByName) (taken : List ℕ → ℕ) (name : List ℕ) → Fits needs taken limits → taken name ≤ limit_of limits name
    → taken name + amount_of needs name ≤ limit_of limits name
within-with limits needs taken name fit within =
    amount-fits (taken name) (limit_of limits name) (get needs name) within
    (λ amount is. found-fits (λ need. taken need.0 + need.1 ≤ limit_of limits need.0) name (entries needs) amount fit (sym (get-entries needs name) ∙ is))
