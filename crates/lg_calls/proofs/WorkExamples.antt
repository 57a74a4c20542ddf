-- Worked examples of the words on how a worker gets work.
use Rattle.std.proofs.Common.{◌≡◌, refl, ap, ◌∙◌, ℕ, ◌+◌, ℤ, pos, negsuc, true, false, ◌&&◌, leb, Option, Some, None, List, [], ◌∷◌}
use Rattle.std.specs.FinMap.{empty, entries, get}
use Rattle.std.specs.List.{list_all}
use Rattle.std.specs.Option.{unwrap_or}
use Rattle.lg_base.specs.Amounts.{AmountsByName, limit_of}
use Rattle.lg_retry.specs.Failures.{no_failures}
use Rattle.lg_calls.specs.declared.info.Info.TheVariants as I
use Rattle.lg_calls.specs.declared.status.Status.{Status}
use Rattle.lg_calls.specs.declared.status.Status.TheVariants.{Pending, Done, Failed, Unknown}
use Rattle.lg_calls.specs.Settings.{default_settings, policy_of}
use Rattle.lg_calls.specs.Task.{Task}
use Rattle.lg_calls.specs.Work.Fits.{fits}
use Rattle.lg_calls.specs.Work.Rank.{by_rank}
use Rattle.lg_calls.specs.Work.Ready.{is_ready}
use Rattle.lg_calls.specs.Work.Reserved.{slots_told, with_slot_taken}

-- a task of which only this is of interest
abbrev task_with : ℕ → ℤ → ℕ → Status → List (List ℕ) → Task
task_with number priority added status deps = record {
  id = number ∷ [];
  number = number;
  family = [];
  «module» = None;
  params = [];
  status = status;
  deps = deps;
  workers = [];
  stakeholders = [];
  priority = priority;
  resources = empty;
  added = record { 0 = added };
  updated = record { 0 = added };
  runnable = true;
  batchable = false;
  accepts_messages = false;
  worker_running = None;
  time_running = None;
  batch = None;
  failures = no_failures;
  policy = policy_of default_settings;
  retry = None;
  disabled_at = None;
  remove = None;
  expl = None;
  tracking_url = None;
  status_message = None;
  progress = None;
}

-- ---- rank

abbrev ranked : ℕ → ℤ → ℕ → Task
ranked number priority added = task_with number priority added Pending []

by_number : by_rank (ranked 2 (pos 1) 5 ∷ ranked 1 (pos 1) 5 ∷ []) ≡ ranked 1 (pos 1) 5 ∷ ranked 2 (pos 1) 5 ∷ []
unfolding by_rank
by_number = refl

by_moment : by_rank (ranked 1 (pos 1) 6 ∷ ranked 2 (pos 1) 5 ∷ []) ≡ ranked 2 (pos 1) 5 ∷ ranked 1 (pos 1) 6 ∷ []
unfolding by_rank
by_moment = refl

by_priority : by_rank (ranked 1 (negsuc 0) 5 ∷ ranked 2 (pos 0) 6 ∷ ranked 3 (pos 7) 7 ∷ []) ≡ ranked 3 (pos 7) 7 ∷ ranked 2 (pos 0) 6 ∷ ranked 1 (negsuc 0) 5 ∷ []
unfolding by_rank
by_priority = refl

-- ---- ready

abbrev waits_for : List (List ℕ) → Task
waits_for deps = task_with 1 (pos 0) 5 Pending deps

abbrev other_with : Status → Task
other_with status = task_with 2 (pos 0) 5 status []

without_deps : is_ready [] (waits_for []) ≡ true
unfolding is_ready
without_deps = refl

for_one_done : is_ready (other_with Done ∷ []) (waits_for ((2 ∷ []) ∷ [])) ≡ true
unfolding is_ready
for_one_done = refl

for_one_failed : is_ready (other_with Failed ∷ []) (waits_for ((2 ∷ []) ∷ [])) ≡ false
unfolding is_ready
for_one_failed = refl

for_no_task : is_ready (other_with Done ∷ []) (waits_for ((2 ∷ []) ∷ (3 ∷ []) ∷ [])) ≡ false
unfolding is_ready
for_no_task = refl

not_pending : is_ready [] (other_with Unknown) ≡ false
unfolding is_ready
not_pending = refl

-- ---- what fits: one resource is needed

fits_one : (limits needs : AmountsByName) (taken : List ℕ → ℕ) (name : List ℕ) (amount : ℕ) (limit : Option ℕ) → entries needs ≡ (name, amount) ∷ [] → get limits name ≡ limit
    → fits limits taken needs ≡ (leb (taken name + amount) (unwrap_or limit 1) && true)
unfolding fits
fits_one limits needs taken name amount limit one is =
    ap (λ all. list_all (λ need. leb (taken need.0 + need.1) (limit_of limits need.0)) all) one
    ∙ ap (λ found. leb (taken name + amount) (unwrap_or found 1) && true) is

module _ (limits needs : AmountsByName) (name : List ℕ) where
  limit_of_nothing : entries needs ≡ (name, 1) ∷ [] → get limits name ≡ Some 0 → fits limits (λ _. 0) needs ≡ false
  limit_of_nothing one is = fits_one limits needs (λ _. 0) name 1 (Some 0) one is

  nothing_of_nothing : entries needs ≡ (name, 0) ∷ [] → get limits name ≡ Some 0 → fits limits (λ _. 0) needs ≡ true
  nothing_of_nothing one is = fits_one limits needs (λ _. 0) name 0 (Some 0) one is

  one_without_limit : entries needs ≡ (name, 1) ∷ [] → get limits name ≡ None → fits limits (λ _. 0) needs ≡ true
  one_without_limit one is = fits_one limits needs (λ _. 0) name 1 None one is

  two_without_limit : entries needs ≡ (name, 1) ∷ [] → get limits name ≡ None → fits limits (λ _. 1) needs ≡ false
  two_without_limit one is = fits_one limits needs (λ _. 1) name 1 None one is

  just_within : entries needs ≡ (name, 2) ∷ [] → get limits name ≡ Some 3 → fits limits (λ _. 1) needs ≡ true
  just_within one is = fits_one limits needs (λ _. 1) name 2 (Some 3) one is

-- ---- slots

all_told : slots_told (I.Number (pos 65535)) ≡ pos 65535
all_told = refl

too_many_told : slots_told (I.Number (pos 65536)) ≡ pos 1
too_many_told = refl

none_told : slots_told (I.Number (pos 0)) ≡ pos 0
none_told = refl

below_nothing_told : slots_told (I.Number (negsuc 0)) ≡ pos 1
below_nothing_told = refl

below_nothing_left : with_slot_taken (1 ∷ []) ((1 ∷ [], pos 0) ∷ (2 ∷ [], pos 3) ∷ []) ≡ (1 ∷ [], negsuc 0) ∷ (2 ∷ [], pos 3) ∷ []
below_nothing_left = refl
