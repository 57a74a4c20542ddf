-- What is reserved stays within bounds, and how slots are taken along a list.
use Rattle.std.proofs.Common.{◌≡◌, ℕ, ◌+◌, ◌^◌, ◌<◌, ◌≤◌, ℤ, pos, ◌-ℤ◌, ◌≤ℤ◌, Bool, true, false, cond, ◌&&◌, ◌||◌, append-nil, List, [], ◌∷◌, ◌++◌, Option, Some, None, length, map, take, get_or, refl, sym, ap, ◌∙◌, subst, arith}
use Rattle.std.specs.List.{filter, find, list_any}
use Rattle.std.specs.Option.{option_map_or, option_or}
use Rattle.std.specs.Prelude.{int_le, codes}
use Rattle.std.proofs.lemmas.Int.{ints}
use Rattle.std.proofs.lemmas.List.{take_more}
use Rattle.std.proofs.lemmas.List.Folds.{find-append}
use Rattle.std.proofs.lemmas.List.Elements.{All-map, All-weaker, filter-append}
use Rattle.lg_base.specs.declared.moment.Moment.{Moment}
use Rattle.lg_base.specs.Amounts.{amount_of}
use Rattle.lg_calls.specs.declared.info.Info.{Info}
use Rattle.lg_calls.specs.declared.info.Info.TheVariants as I
use Rattle.lg_calls.specs.declared.methods.get_work.GetWork.{GetWork}
use Rattle.lg_calls.specs.declared.state.State.{State}
use Rattle.lg_calls.specs.declared.worker.WorkerRec.{WorkerRec}
use Rattle.lg_calls.specs.Order.{is_same}
use Rattle.lg_calls.specs.Task.{Task}
use Rattle.lg_calls.specs.Work.Reserved.{Reserved, Slots, with_slot_taken, kept_for, nothing_reserved, is_active, slots_told, slots_of, full_slots}
use Rattle.lg_calls.specs.Work.Walk.{info_of, is_trivial}
use Rattle.lg_work.specs.declared.reserve.Slot.{Slot}
use Rattle.lg_work.specs.Reserving.{AreWithin, IsWithin, slot_in, slots_in, slot_taken, slots_active}

-- more room is enough as well
pub IsWithin-more : (n m : ℕ) (reserved : Reserved) → n ≤ m → IsWithin n reserved → IsWithin m reserved
IsWithin-more n m reserved more within = record {
  amounts = λ name. omega (arith, more, within.amounts name);
  slots = All-weaker (λ (slot : List ℕ × ℤ). (pos 0 -ℤ pos n) ≤ℤ slot.1) (λ (slot : List ℕ × ℤ). (pos 0 -ℤ pos m) ≤ℤ slot.1) (λ slot here. omega (arith, ints, more, here)) reserved.slots within.slots;
}

told-step : (n : ℤ) (low high : Bool) → int_le (pos 0) n ≡ low → pos 0 ≤ℤ cond (low && high) n (pos 1)
told-step n true true is = grind (arith, ints, is)
told-step n true false is = omega (arith, ints)
told-step n false high is = omega (arith, ints)

told_not_below : (info : Info) → pos 0 ≤ℤ slots_told info
told_not_below (I.Number n) = told-step n (int_le (pos 0) n) (int_le n (pos 65535)) refl
told_not_below (I.Text text) = omega (arith, ints)
told_not_below (I.Truth truth) = omega (arith, ints)
told_not_below I.Null = omega (arith, ints)

found_not_below : (found : Option Info) → pos 0 ≤ℤ option_map_or slots_told found (pos 1)
found_not_below None = omega (arith, ints)
found_not_below (Some info) = told_not_below info

slots_not_below : (worker : WorkerRec) → (pos 0 -ℤ pos 0) ≤ℤ slots_of worker
slots_not_below worker = let told = found_not_below (info_of (codes "workers") worker) in omega (arith, ints, told)

mapped-append : {X Y : Type 0} (f : X → Y) (xs ys : List X) → map f (xs ++ ys) ≡ map f xs ++ map f ys
mapped-append f [] ys = refl
mapped-append f (x ∷ xs) ys = ap (λ rest. f x ∷ rest) (mapped-append f xs ys)

full_within : (delay : ℕ) (now : Moment) (workers : List WorkerRec) → AreWithin 0 (slots_active delay now workers)
full_within delay now workers =
    All-map (λ (slot : List ℕ × ℤ). (pos 0 -ℤ pos 0) ≤ℤ slot.1) (λ (worker : WorkerRec). (worker.id, slots_of worker)) _
    (λ k d inside. slots_not_below (get_or (filter (is_active delay now) workers) k d))

none_within : (trivial : Bool) (slots : Slots) → AreWithin 0 slots → AreWithin 0 (cond trivial [] slots)
none_within true slots within = λ k d inside. absurd (omega (arith, inside))
none_within false slots within = within

-- nothing is within no bound
pub IsWithin-nothing : (ask : GetWork) (s : State) (reserved : Reserved) → reserved ≡ nothing_reserved ask s → IsWithin 0 reserved
IsWithin-nothing ask s reserved nothing =
    subst (IsWithin 0) (sym nothing) (record {
      amounts = λ name. omega arith;
      slots = none_within (is_trivial ask.worker s) (full_slots s) (full_within s.settings.worker_disconnect_delay s.moment s.workers);
    })

one_less : (n : ℕ) (left : ℤ) (b : Bool) (worker : List ℕ) → (pos 0 -ℤ pos n) ≤ℤ left → (pos 0 -ℤ pos (n + 1)) ≤ℤ (cond {A = List ℕ × ℤ} b (worker, left -ℤ pos 1) (worker, left)).1
one_less n left true worker within = omega (arith, ints, within)
one_less n left false worker within = omega (arith, ints, within)

-- a task more is kept
pub IsWithin-kept : (n : ℕ) (worker : List ℕ) (task : Task) (reserved : Reserved) → ((name : List ℕ) → amount_of task.resources name < 2 ^ 32)
    → IsWithin n reserved → IsWithin (n + 1) (kept_for worker task reserved)
IsWithin-kept n worker task reserved small within = record {
  amounts = λ name. omega (arith, small name, within.amounts name);
  slots = All-map (λ (slot : List ℕ × ℤ). (pos 0 -ℤ pos (n + 1)) ≤ℤ slot.1) (slot_taken worker) reserved.slots
      (All-weaker (λ (slot : List ℕ × ℤ). (pos 0 -ℤ pos n) ≤ℤ slot.1) (λ (slot : List ℕ × ℤ). (pos 0 -ℤ pos (n + 1)) ≤ℤ (slot_taken worker slot).1)
      (λ slot here. one_less n slot.1 (is_same worker slot.0) slot.0 here) reserved.slots within.slots);
}

-- what is kept, by its parts
pub kept_is : (worker : List ℕ) (task : Task) (before : Reserved) (slots : Slots) (amounts : List ℕ → ℕ) → slots ≡ with_slot_taken worker before.slots
    → amounts ≡ (λ name. before.amounts name + amount_of task.resources name)
    → (record { slots = slots; amounts = amounts }) ≡ kept_for worker task before
kept_is worker task before slots amounts taken added = λ i. record { slots = taken i; amounts = added i }

-- the slots of one worker more
pub active_more : (delay : ℕ) (now : Moment) (workers : List WorkerRec) (i : ℕ) (worker : WorkerRec) → i < length workers → worker ≡ get_or workers i worker
    → slots_active delay now (take i workers) ++ slots_active delay now (worker ∷ []) ≡ slots_active delay now (take (i + 1) workers)
active_more delay now workers i worker inside here =
    sym (slots_active-append (take i workers) (worker ∷ []))
    ∙ ap (slots_active delay now) (ap (λ w. take i workers ++ w ∷ []) here ∙ sym (take_more workers i worker inside))
  where
    slots_active-append : (xs ys : List WorkerRec) → slots_active delay now (xs ++ ys) ≡ slots_active delay now xs ++ slots_active delay now ys
    slots_active-append xs ys = ap (map (λ (w : WorkerRec). (w.id, slots_of w))) (filter-append (is_active delay now) xs ys)
        ∙ mapped-append (λ (w : WorkerRec). (w.id, slots_of w)) (filter (is_active delay now) xs) (filter (is_active delay now) ys)

-- a test along what is lent is a test along what it stands for
pub any_map : {X Y : Type 0} (f : X → Y) (p : Y → Bool) (xs : List X) → list_any p (map f xs) ≡ list_any (λ x. p (f x)) xs
any_map f p [] = refl
any_map f p (x ∷ xs) = ap (λ rest. p (f x) || rest) (any_map f p xs)

-- the first that is found among some is the first among them and others behind them
pub found_first : (test : List ℕ → Bool) (xs ys : List (List ℕ)) (x : List ℕ) → find test xs ≡ Some x → Some x ≡ find test (xs ++ ys)
found_first test xs ys x found = sym (find-append test xs ys ∙ ap (λ first. option_or first (find test ys)) found)

-- where none is found among some it is the first of the others
pub found_behind : (test : List ℕ → Bool) (xs ys : List (List ℕ)) (o : Option (List ℕ)) → find test xs ≡ None → find test ys ≡ o → o ≡ find test (xs ++ ys)
found_behind test xs ys o none behind = sym behind ∙ sym (find-append test xs ys ∙ ap (λ first. option_or first (find test ys)) none)

-- an assistant that asks takes a task where it has a slot left
pub asking_takes : (test : List ℕ → Bool) (assistant : Bool) (worker : List ℕ) → assistant ≡ true → test worker ≡ true
    → find test (cond assistant (worker ∷ []) []) ≡ Some worker
asking_takes test true worker is left = ap (λ b. cond b (Some worker) None) left
asking_takes test false worker is left = cc

-- and else doesn't
pub asking_has_none : (test : List ℕ → Bool) (assistant : Bool) (worker : List ℕ) → test worker ≡ false → find test (cond assistant (worker ∷ []) []) ≡ None
asking_has_none test true worker left = ap (λ b. cond b (Some worker) None) left
asking_has_none test false worker left = refl

pub asking_is_none : (test : List ℕ → Bool) (assistant : Bool) (worker : List ℕ) → assistant ≡ false → find test (cond assistant (worker ∷ []) []) ≡ None
asking_is_none test true worker is = cc
asking_is_none test false worker is = refl

one_active : (delay : ℕ) (now : Moment) (worker : WorkerRec) (b : Bool) → is_active delay now worker ≡ b
    → slots_active delay now (worker ∷ []) ≡ map (λ (w : WorkerRec). (w.id, slots_of w)) (cond b (worker ∷ []) [])
one_active delay now worker b is = ap (λ c. map (λ (w : WorkerRec). (w.id, slots_of w)) (cond c (worker ∷ []) [])) is

-- an active worker's slots come behind the others
pub active_pushed : (delay : ℕ) (now : Moment) (worker : WorkerRec) (before after : List Slot) (slot : Slot) → is_active delay now worker ≡ true
    → slot_in slot ≡ (worker.id, slots_of worker) → after ≡ before ++ slot ∷ [] → slots_in after ≡ slots_in before ++ slots_active delay now (worker ∷ [])
active_pushed delay now worker before after slot is of_worker grown =
    ap slots_in grown ∙ (mapped-append slot_in before (slot ∷ [])
    ∙ ap (λ more. slots_in before ++ more) (ap (λ one. one ∷ []) of_worker ∙ sym (one_active delay now worker true is)))

-- any other's don't
pub idle_left : (delay : ℕ) (now : Moment) (worker : WorkerRec) (before : List Slot) → is_active delay now worker ≡ false
    → slots_in before ≡ slots_in before ++ slots_active delay now (worker ∷ [])
idle_left delay now worker before is =
    sym (ap (λ more. slots_in before ++ more) (one_active delay now worker false is) ∙ append-nil (slots_in before))
