use Rattle.std.proofs.Common.{◌≡◌, Some, None, true, false, cond, [], ◌∷◌, sym, ◌∙◌, rules}
use Rattle.std.specs.List.{find}
use Rattle.lg_calls.specs.Work.Reserved.{has_slot_left}
use Rattle.lg_work.specs.Reserving.{slots_in}
use Rattle.lg_work.proofs.ReserveLemmas.{found_first, found_behind, asking_takes, asking_has_none, asking_is_none}
use Rattle.lg_work.proofs.reserve.taker.Goals.{then-ask+else-has_slot_left, else-ask}
use Rattle.lg_work.proofs.reserve.taker.Goals as goal

pub returns-in-Some : goal.returns-in-Some
returns-in-Some c =
    let test = has_slot_left (slots_in c.args.slots.now) in
    let ask = c.args.ask.now in
    let found : find test c.args.task.now.workers ≡ Some c.in-Some.worker.now = search rules in
    found_first test c.args.task.now.workers (cond ask.assistant (ask.worker ∷ []) []) c.in-Some.worker.now found

pub returns-in-None : goal.returns-in-None
returns-in-None c =
    let test = has_slot_left (slots_in c.args.slots.now) in
    let ask = c.args.ask.now in
    let none : find test c.args.task.now.workers ≡ None = search rules in
    let left : test ask.worker ≡ true = sym c.has_slot_left.ensures ∙ c.if-has_slot_left.true in
    found_behind test c.args.task.now.workers (cond ask.assistant (ask.worker ∷ []) []) (Some ask.worker) none
    (asking_takes test ask.assistant ask.worker c.if-ask.true left)

pub returns-in-None-2 : goal.returns-in-None-2
returns-in-None-2 c =
    let test = has_slot_left (slots_in c.args.slots.now) in
    let ask = c.args.ask.now in
    let none : find test c.args.task.now.workers ≡ None = search rules in
    let asking : find test (cond ask.assistant (ask.worker ∷ []) []) ≡ None =
    elim c.if-ask.branch [
      | then-ask+else-has_slot_left w ↦ asking_has_none test ask.assistant ask.worker (sym w.has_slot_left.ensures ∙ w.if-has_slot_left.false)
      | else-ask w ↦ asking_is_none test ask.assistant ask.worker w.if-ask.false
    ] in
    found_behind test c.args.task.now.workers (cond ask.assistant (ask.worker ∷ []) []) None none asking
