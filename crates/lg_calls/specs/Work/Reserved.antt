-- What the tasks at the front of a walk keep for themselves, though nobody was found to run them yet: amounts, and slots of
-- workers. This project's own, after Luigi's central scheduler.
use Rattle.std.specs.Prelude.{ℕ, ℤ, pos, ◌+◌, ◌-ℤ◌, nat_lt, int_lt, int_le, Bool, false, ◌&&◌, if◌then◌else◌, List, [], ◌∷◌, ◌++◌, codes, map, filter, find, fold}
use Rattle.std.specs.List.{list_any}
use Rattle.std.specs.Option.{option_map_or}
use Rattle.lg_base.specs.Amounts.{amount_of}
use Rattle.lg_base.specs.declared.moment.Moment.{Moment}
use Rattle.lg_calls.specs.declared.info.Info.{Info}
use Rattle.lg_calls.specs.declared.info.Info.TheVariants as I
use Rattle.lg_calls.specs.declared.methods.get_work.GetWork.{GetWork}
use Rattle.lg_calls.specs.declared.state.State.{State}
use Rattle.lg_calls.specs.declared.status.Status.TheVariants.{Running}
use Rattle.lg_calls.specs.declared.worker.WorkerRec.{WorkerRec}
use Rattle.lg_calls.specs.Order.{is_same}
use Rattle.lg_calls.specs.Status.{is_status}
use Rattle.lg_calls.specs.Task.{Task}
use Rattle.lg_calls.specs.Work.Fits.{fits}
use Rattle.lg_calls.specs.Work.Ready.{is_ready}
use Rattle.lg_calls.specs.Work.Walk.{info_of, is_trivial}

-- a worker is active: it asked for work less than the delay ago
abbrev pub is_active : ℕ → Moment → WorkerRec → Bool
is_active delay now worker = option_map_or (λ (last : Moment). nat_lt now.0 (last.0 + delay)) worker.last_get_work false

-- a whole number from 0 to 65,535 is a number of slots
abbrev pub slots_told : Info → ℤ
slots_told (I.Number n) = if int_le (pos 0) n && int_le n (pos 65535) then n else pos 1
slots_told _ = pos 1

-- how many tasks a worker runs at once: what it told, else 1
abbrev pub slots_of : WorkerRec → ℤ
slots_of worker = option_map_or slots_told (info_of (codes "workers") worker) (pos 1)

-- the slots that are left of each active worker; a number may fall below 0
abbrev pub Slots : Type 0
Slots = List (List ℕ × ℤ)

-- what is reserved: slots are left, and of each resource an amount is kept
pub record Reserved : Type 0 where
  pub slots : Slots
  pub amounts : List ℕ → ℕ

-- a worker is active, as the search sees it
abbrev pub has_slots : Slots → List ℕ → Bool
has_slots slots worker = list_any (λ slot. is_same worker slot.0) slots

-- a worker has a slot left
abbrev pub has_slot_left : Slots → List ℕ → Bool
has_slot_left slots worker = list_any (λ slot. is_same worker slot.0 && int_lt (pos 0) slot.1) slots

-- one slot of a worker is taken
abbrev pub with_slot_taken : List ℕ → Slots → Slots
with_slot_taken worker slots = map (λ slot. if is_same worker slot.0 then (slot.0, slot.1 -ℤ pos 1) else slot) slots

-- a task is kept for a worker: it takes one slot of it, and reserves the amounts of its resources
abbrev pub kept_for : List ℕ → Task → Reserved → Reserved
kept_for worker task reserved = record {
  slots = with_slot_taken worker reserved.slots;
  amounts = λ name. reserved.amounts name + amount_of task.resources name;
}

-- a task that runs is kept for the worker that runs it, where that is active
abbrev pub with_running : Task → Reserved → Reserved
with_running task reserved =
    option_map_or (λ worker. if has_slots reserved.slots worker then kept_for worker task reserved else reserved) task.worker_running reserved

-- those for which a task can be kept, in order: its workers, and behind them an assistant that asks
abbrev pub takers : GetWork → Task → List (List ℕ)
takers ask task = task.workers ++ (if ask.assistant then (ask.worker ∷ []) else [])

-- a task that waits is kept for the first of these that has a slot left
abbrev pub with_waiting : GetWork → Task → Reserved → Reserved
with_waiting ask task reserved =
    option_map_or (λ worker. kept_for worker task reserved) (find (has_slot_left reserved.slots) (takers ask task)) reserved

-- a task can be kept: it is ready, and fits beside what is reserved before it
abbrev pub can_be_kept : State → Reserved → Task → Bool
can_be_kept s reserved task = is_ready s.tasks task && fits s.limits reserved.amounts task.resources

-- what is reserved with one task more, that isn't chosen
abbrev pub with_next : GetWork → State → Reserved → Task → Reserved
with_next ask s reserved task =
    if is_status Running task.status then with_running task reserved
    else if can_be_kept s reserved task then with_waiting ask task reserved
    else reserved

-- the slots of all active workers
abbrev pub full_slots : State → Slots
full_slots s =
    map (λ (worker : WorkerRec). (worker.id, slots_of worker)) (filter (is_active s.settings.worker_disconnect_delay s.moment) s.workers)

-- before the first task nothing is reserved; a trivial worker's search knows of no active worker
abbrev pub nothing_reserved : GetWork → State → Reserved
nothing_reserved ask s = record { slots = if is_trivial ask.worker s then [] else full_slots s; amounts = λ name. 0 }

-- what the tasks at the front of a walk reserve
unfoldable pub reserved : GetWork → State → List Task → Reserved
reserved ask s front = fold (with_next ask s) (nothing_reserved ask s) front
