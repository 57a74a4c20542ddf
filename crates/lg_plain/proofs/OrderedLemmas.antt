-- What keeps lists in order, and each element of its own: an id that is put at its place, a worker that is put behind others.
use Rattle.std.proofs.Common.{Ordering, Less, Equal, Greater, ◌≡◌, ℕ, Bool, true, false, cond, not, ◌||◌, Option, Some, IfSome, List, [], ◌∷◌, ◌++◌, refl, ap, ◌∙◌}
use Rattle.std.specs.BTreeSet.{replace_key}
use Rattle.std.specs.FinMap.{nat_cmp-IsAntisymmetric, slice_cmp-IsAntisymmetric}
use Rattle.std.specs.List.{All, find, list_all, list_any}
use Rattle.std.specs.Ordering.{nat_cmp, is_lt, match_ordering, ordering_reverse}
use Rattle.std.specs.Cmp.Lexicographic.{slice_cmp}
use Rattle.std.proofs.lemmas.Cmp.{nat_list_cmp_total}
use Rattle.std.proofs.lemmas.List.Elements.{All-nil, All-cons, All-head, All-tail}
use Rattle.lg_calls.specs.declared.worker.WorkerRec.{WorkerRec}
use Rattle.lg_calls.specs.Order.{is_same, is_before, are_sorted, are_distinct}
use Rattle.lg_calls.specs.Valid.{worker_ids_of}
use Rattle.lg_calls.specs.AddTask.Offering.{with_worker}
use Rattle.lg_calls.specs.AddTask.Reporting.{with_ids}
use Rattle.lg_calls.specs.Workers.{worker_cmp}
use Rattle.lg_plain.proofs.DistinctLemmas.{differs}
use Rattle.lg_plain.proofs.PathLemmas.{and-both, and-first, and-second}

-- ---- ids in order

less : (o : Ordering) → is_lt o ≡ true → o ≡ Less
less Less e = refl
less Equal e = cc
less Greater e = cc

-- what stands before a text stands before each one behind it
all-before : (x y : List ℕ) → slice_cmp nat_cmp x y ≡ Less → (texts : List (List ℕ)) → list_all (is_before y) texts ≡ true → list_all (is_before x) texts ≡ true
all-before x y before [] all = refl
all-before x y before (z ∷ texts) all =
    and-both _ _
    (ap is_lt (nat_list_cmp_total.trans x y z before (less (slice_cmp nat_cmp y z) (and-first _ _ all))))
    (all-before x y before texts (and-second (is_before y z) _ all))

all-step : (test : List ℕ → Bool) (x : List ℕ) (texts : List (List ℕ)) (text : List ℕ) (o : Ordering) → test x ≡ true → list_all test texts ≡ true → test text ≡ true
    → list_all test (replace_key (slice_cmp nat_cmp) texts text) ≡ true
    → list_all test (match_ordering o (text ∷ x ∷ texts) (text ∷ texts) (x ∷ replace_key (slice_cmp nat_cmp) texts text)) ≡ true
all-step test x texts text Less first rest here put = and-both _ _ here (and-both _ _ first rest)
all-step test x texts text Equal first rest here put = and-both _ _ here rest
all-step test x texts text Greater first rest here put = and-both _ _ first put

all-replace : (test : List ℕ → Bool) (texts : List (List ℕ)) (text : List ℕ) → list_all test texts ≡ true → test text ≡ true
    → list_all test (replace_key (slice_cmp nat_cmp) texts text) ≡ true
all-replace test [] text all here = and-both _ _ here refl
all-replace test (x ∷ texts) text all here =
    let rest = and-second (test x) _ all in
    all-step test x texts text (slice_cmp nat_cmp text x) (and-first _ _ all) rest here (all-replace test texts text rest here)

sorted-step : (x : List ℕ) (texts : List (List ℕ)) (text : List ℕ) (o : Ordering) → slice_cmp nat_cmp text x ≡ o
    → list_all (is_before x) texts ≡ true → are_sorted texts ≡ true → are_sorted (replace_key (slice_cmp nat_cmp) texts text) ≡ true
    → are_sorted (match_ordering o (text ∷ x ∷ texts) (text ∷ texts) (x ∷ replace_key (slice_cmp nat_cmp) texts text)) ≡ true
sorted-step x texts text Less e first rest put = and-both _ _ (and-both _ _ (ap is_lt e) (all-before text x e texts first)) (and-both _ _ first rest)
sorted-step x texts text Equal e first rest put =
    and-both _ _ (ap (λ t. list_all (is_before t) texts) (slice_cmp-IsAntisymmetric nat_cmp-IsAntisymmetric text x e) ∙ first) rest
sorted-step x texts text Greater e first rest put =
    and-both _ _ (all-replace (is_before x) texts text first (ap is_lt (nat_list_cmp_total.antisymm x text ∙ ap ordering_reverse e))) put

-- an id is put at its place
pub sorted-replace : (texts : List (List ℕ)) (text : List ℕ) → are_sorted texts ≡ true → are_sorted (replace_key (slice_cmp nat_cmp) texts text) ≡ true
sorted-replace [] text sorted = refl
sorted-replace (x ∷ texts) text sorted =
    let rest = and-second (list_all (is_before x) texts) _ sorted in
    sorted-step x texts text (slice_cmp nat_cmp text x) refl (and-first _ _ sorted) rest (sorted-replace texts text rest)

pub sorted-with_ids : (known more : List (List ℕ)) → are_sorted known ≡ true → are_sorted (with_ids known more) ≡ true
sorted-with_ids known [] sorted = sorted
sorted-with_ids known (id ∷ more) sorted = sorted-with_ids (replace_key (slice_cmp nat_cmp) known id) more (sorted-replace known id sorted)

-- ---- workers in order

ids-step : (w : WorkerRec) (workers : List WorkerRec) (worker : WorkerRec) (o : Ordering)
    → worker_ids_of (replace_key worker_cmp workers worker) ≡ replace_key (slice_cmp nat_cmp) (worker_ids_of workers) worker.id
    → worker_ids_of (match_ordering o (worker ∷ w ∷ workers) (worker ∷ workers) (w ∷ replace_key worker_cmp workers worker))
    ≡ match_ordering o (worker.id ∷ w.id ∷ worker_ids_of workers) (worker.id ∷ worker_ids_of workers) (w.id ∷ replace_key (slice_cmp nat_cmp) (worker_ids_of workers) worker.id)
ids-step w workers worker Less rest = refl
ids-step w workers worker Equal rest = refl
ids-step w workers worker Greater rest = ap (λ ids. w.id ∷ ids) rest

-- a worker is put where its id is
pub worker_ids-replace : (workers : List WorkerRec) (worker : WorkerRec)
    → worker_ids_of (replace_key worker_cmp workers worker) ≡ replace_key (slice_cmp nat_cmp) (worker_ids_of workers) worker.id
worker_ids-replace [] worker = refl
worker_ids-replace (w ∷ workers) worker = ids-step w workers worker (slice_cmp nat_cmp worker.id w.id) (worker_ids-replace workers worker)

module _ {X : Type 0} (P : X → Type 0) where
  put-step : (cmp : X → X → Ordering) (x : X) (xs : List X) (item : X) (o : Ordering) → P item → All P (x ∷ xs) → All P (replace_key cmp xs item)
      → All P (match_ordering o (item ∷ x ∷ xs) (item ∷ xs) (x ∷ replace_key cmp xs item))
  put-step cmp x xs item Less here all put = All-cons P item (x ∷ xs) here all
  put-step cmp x xs item Equal here all put = All-cons P item xs here (All-tail P x xs all)
  put-step cmp x xs item Greater here all put = All-cons P x (replace_key cmp xs item) (All-head P x xs all) put

  -- what holds of each element and of the item
  pub All-replace : (cmp : X → X → Ordering) (xs : List X) (item : X) → P item → All P xs → All P (replace_key cmp xs item)
  All-replace cmp [] item here all = All-cons P item [] here (All-nil P)
  All-replace cmp (x ∷ xs) item here all = put-step cmp x xs item (cmp item x) here all (All-replace cmp xs item here (All-tail P x xs all))

  found-step : (b : Bool) (x : X) (rest : Option X) → P x → IfSome rest P → IfSome (cond b (Some x) rest) P
  found-step true x rest here behind = here
  found-step false x rest here behind = behind

  -- what holds of each element holds of the one that is found
  pub All-find : (test : X → Bool) (xs : List X) → All P xs → IfSome (find test xs) P
  All-find test [] all = tt
  All-find test (x ∷ xs) all = found-step (test x) x (find test xs) (All-head P x xs all) (All-find test xs (All-tail P x xs all))

-- ---- workers that differ

pub or-neither : (a b : Bool) → (a || b) ≡ false → (a ≡ false) × (b ≡ false)
or-neither true b e = cc
or-neither false b e = (refl, e)

all-push : (test : List ℕ → Bool) (texts : List (List ℕ)) (text : List ℕ) → list_all test texts ≡ true → test text ≡ true → list_all test (texts ++ text ∷ []) ≡ true
all-push test [] text all here = and-both _ _ here refl
all-push test (x ∷ texts) text all here = and-both _ _ (and-first _ _ all) (all-push test texts text (and-second (test x) _ all) here)

distinct-push : (texts : List (List ℕ)) (text : List ℕ) → are_distinct texts ≡ true → list_any (is_same text) texts ≡ false → are_distinct (texts ++ text ∷ []) ≡ true
distinct-push [] text distinct apart = refl
distinct-push (x ∷ texts) text distinct apart =
    let neither = or-neither (is_same text x) (list_any (is_same text) texts) apart in
    let others : List ℕ → Bool = λ other. not (is_same x other) in
    and-both _ _
    (all-push others texts text (and-first _ _ distinct) (differs x text (is_same x text) refl neither.0))
    (distinct-push texts text (and-second (list_all others texts) _ distinct) neither.1)

-- a worker comes behind the others where it isn't among them
pub distinct-with_worker : (worker : List ℕ) (workers : List (List ℕ)) → are_distinct workers ≡ true → are_distinct (with_worker worker workers) ≡ true
distinct-with_worker worker workers distinct = by_known (list_any (is_same worker) workers) refl
  where
    by_known : (b : Bool) → list_any (is_same worker) workers ≡ b → are_distinct (cond b workers (workers ++ worker ∷ [])) ≡ true
    by_known true e = distinct
    by_known false e = distinct-push workers worker distinct e
