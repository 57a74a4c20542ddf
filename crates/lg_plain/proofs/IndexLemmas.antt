-- What is found by an index.
use Rattle.std.proofs.Common.{Ordering, Less, Equal, Greater, ◌≡◌, ℕ, ◌+◌, ◌<◌, true, List, [], ◌∷◌, ◌++◌, length, get_or, Option, Some, None, refl, sym, ap, ◌∙◌, subst, inl, inr, arith}
use Rattle.std.specs.Cmp.{tied_itself}
use Rattle.std.specs.Cmp.Lexicographic.{slice_cmp, nat_list_cmp_total}
use Rattle.std.specs.List.{Contains, position, slice_get}
use Rattle.std.specs.List.Sorted.{IsNonDecreasingBy, IsPartitionPoint, IsPermutation}
use Rattle.std.specs.Ordering.{nat_cmp, is_eq, ordering_index}
use Rattle.std.proofs.lemmas.Bool.{cases_lt}
use Rattle.std.proofs.lemmas.List.Elements.{All-nil, All-push, All-weaker, Contains-append_left, Contains-push}
use Rattle.std.proofs.lemmas.List.Sorted.{All-permutation, Contains-permutation, searchable_from_sorted}
use Rattle.std.proofs.lemmas.Option.{slice_get_cases}
use Rattle.lg_plain.specs.declared.index.Index.{Index}
use Rattle.lg_calls.specs.Order.{is_same}
use Rattle.lg_calls.specs.Task.{Task}
use Rattle.lg_calls.specs.Tasks.{has_id, have_distinct_ids}
use Rattle.lg_plain.specs.Index.{id_of, id_at, HasEach, IsIndexOf}
use Rattle.lg_plain.specs.Walking.{IsPlaceOf}
use Rattle.lg_plain.proofs.ListLemmas.{find_task-has}
use Rattle.lg_plain.proofs.PathLemmas.{same-is}
use Rattle.lg_plain.proofs.WalkLemmas.{alone, place-position, find_task-nobody, not-true}

-- an id is its own
same-itself : (one other : List ℕ) → one ≡ other → is_same one other ≡ true
same-itself one other e = ap (λ text. is_same text other) e ∙ ap is_eq (tied_itself nat_list_cmp_total other)

-- the task at a place that an index has
at-place : (tasks : List Task) (place : ℕ) → place < length tasks → (task : Task) × (slice_get tasks place ≡ Some task)
at-place tasks place inside = elim (slice_get_cases tasks place).1 [ inl here ↦ (here.0, here.2) | inr gone ↦ absurd (omega (arith, gone.0)) ]

-- where the task of a place has the id, the place is that of the id
placed : (id : List ℕ) (tasks : List Task) (place : ℕ) (task : Task) (found : Option ℕ) → have_distinct_ids tasks ≡ true → slice_get tasks place ≡ Some task
    → has_id id task ≡ true → IsPlaceOf id tasks found → Some place ≡ found
placed id tasks place task None distinct at has none = absurd (not-true (has_id id task) (find_task-nobody id tasks place task none at) has)
placed id tasks place task (Some other) distinct at has is =
    let there = at-place tasks other is.1 in
    ap Some (alone id tasks other place there.0 task distinct there.1 at (find_task-has id tasks there.0 (is.0 ∙ there.1)) has)

pub index-found : (id : List ℕ) (tasks : List Task) (index : Index) (at place : ℕ) → IsIndexOf tasks index → have_distinct_ids tasks ≡ true → at < length index.places.items
    → place ≡ get_or index.places.items at place → slice_cmp nat_cmp (id_at tasks place) id ≡ Equal → Some place ≡ position (has_id id) tasks
index-found id tasks index at place is distinct inside here equal =
    let known : place < length tasks = subst (λ k. k < length tasks) (sym here) (is.has.inside at place inside) in
    let there = at-place tasks place known in
    let same : there.0.id ≡ id = same-is there.0.id id (ap is_eq (ap (λ o. slice_cmp nat_cmp (id_of o) id) (sym there.1) ∙ equal)) in
    placed id tasks place there.0 (position (has_id id) tasks) distinct there.1 (same-itself id there.0.id (sym same)) (place-position id tasks (position (has_id id) tasks) refl)

not-equal : (o : Ordering) → o ≡ Equal → o ≡ Less → ⊥
not-equal o e h = absurd (let apart : Equal ≡ Less → ⊥ = λ p. cc in apart (sym e ∙ h))

not-greater : (o : Ordering) → o ≡ Equal → o ≡ Greater → ⊥
not-greater o e h = absurd (let apart : Equal ≡ Greater → ⊥ = λ p. cc in apart (sym e ∙ h))

missing : (id : List ℕ) (tasks : List Task) (index : Index) (i : ℕ) (found : Option ℕ) → IsIndexOf tasks index → IsPlaceOf id tasks found
    → IsPartitionPoint (λ place. slice_cmp nat_cmp (id_at tasks place) id ≡ Less) (λ place. slice_cmp nat_cmp (id_at tasks place) id ≡ Greater) index.places.items i
    → None ≡ found
missing id tasks index i None is none point = refl
missing id tasks index i (Some place) is found point =
    let there = at-place tasks place found.1 in
    let has = find_task-has id tasks there.0 (found.0 ∙ there.1) in
    let equal : slice_cmp nat_cmp (id_at tasks place) id ≡ Equal =
    ap (λ o. slice_cmp nat_cmp (id_of o) id) there.1 ∙ ap (λ text. slice_cmp nat_cmp text id) (sym (same-is id there.0.id has)) ∙ tied_itself nat_list_cmp_total id
    in
    let where_it_is = is.has.each place found.1 in
    elim (cases_lt where_it_is.0 i) [
      | inl before ↦ absurd (not-equal _ equal (subst (λ p. slice_cmp nat_cmp (id_at tasks p) id ≡ Less) where_it_is.2 (point.0 where_it_is.0 place (omega arith) before)))
      | inr behind ↦ absurd (not-greater _ equal (subst (λ p. slice_cmp nat_cmp (id_at tasks p) id ≡ Greater) where_it_is.2 (point.1 where_it_is.0 place behind where_it_is.1)))
    ]

-- the place behind
pub has_each_more : (count : ℕ) (places : List ℕ) → HasEach count places → HasEach (count + 1) (places ++ count ∷ [])
has_each_more count places is = record {
  each = λ place inside. elim (cases_lt place count) [
    | inl before ↦ Contains-append_left places (count ∷ []) place (is.each place before)
    | inr here ↦ (let same : count ≡ place = omega arith in subst (Contains (places ++ count ∷ [])) same (Contains-push places count))
  ];
  inside = All-push (λ place. place < count + 1) places count (All-weaker (λ place. place < count) (λ place. place < count + 1) (λ place less. omega arith) places is.inside) (omega arith);
}

pub has_each_none : HasEach 0 []
has_each_none = record {
  each = λ place inside. absurd (omega arith);
  inside = All-nil (λ place. place < 0);
}

-- the same in another order
pub has_each_moved : (count : ℕ) (before after : List ℕ) → IsPermutation before after → HasEach count before → HasEach count after
has_each_moved count before after moved is = record {
  each = λ place inside. Contains-permutation before after place moved (is.each place inside);
  inside = All-permutation (λ place. place < count) before after moved is.inside;
}

-- what a search in order asks
pub searchable : (tasks : List Task) (index : Index) (id : List ℕ) → IsIndexOf tasks index
    → IsNonDecreasingBy (λ place. ordering_index (slice_cmp nat_cmp (id_at tasks place) id)) index.places.items
searchable tasks index id is = searchable_from_sorted nat_list_cmp_total (id_at tasks) index.places.items id is.in_order

pub index-missing : (id : List ℕ) (tasks : List Task) (index : Index) (i : ℕ) → IsIndexOf tasks index
    → IsPartitionPoint (λ place. slice_cmp nat_cmp (id_at tasks place) id ≡ Less) (λ place. slice_cmp nat_cmp (id_at tasks place) id ≡ Greater) index.places.items i
    → None ≡ position (has_id id) tasks
index-missing id tasks index i is point =
    missing id tasks index i (position (has_id id) tasks) is (place-position id tasks (position (has_id id) tasks) refl) point
