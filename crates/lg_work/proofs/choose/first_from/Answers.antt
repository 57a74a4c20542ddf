use Rattle.std.proofs.Common.{◌≡◌, ◌+◌, ◌≤◌, ◌&&◌, true, false, length, drop, sym, ap, ◌∙◌, arith}
use Rattle.std.proofs.lemmas.List.{length-map}
use Rattle.std.specs.Borrow.{Bor}
use Rattle.lg_calls.specs.Task.{Task}
use Rattle.lg_calls.specs.Work.Candidate.{is_allowed, is_candidate}
use Rattle.lg_calls.specs.Work.Fits.{fits}
use Rattle.lg_calls.specs.Work.Reserved.{can_be_kept}
use Rattle.lg_views.specs.Lent.{lent}
use Rattle.lg_work.specs.Choosing.{first_from}
use Rattle.lg_work.specs.Reserving.{reserved_in}
use Rattle.lg_work.proofs.ChooseLemmas.{passed_by, found_here, nothing_left, next_lent}
use Rattle.lg_work.proofs.ReserveLemmas.{IsWithin-more}
use Rattle.lg_work.proofs.choose.first_from.Goals as goal

pub put_next-requires : goal.put_next-requires
put_next-requires c =
    let few : c.loop-task.task-index ≤ 1000000 = omega (arith, c.requires.few) in
    record {
      looked_at = c.requires.looked_at;
      within = IsWithin-more c.loop-task.task-index 1000000 (reserved_in c.loop-task.reserved) few c.loop-task.invariant.within;
    }

pub loop-task-preserved : goal.loop-task-preserved
loop-task-preserved c =
    let ask = c.args.ask.now in
    let s = c.args.state.now in
    let tasks = c.args.tasks.now in
    let i = c.loop-task.task-index in
    let before = reserved_in c.loop-task.reserved in
    let task = c.task-item.result in
    let fails : is_candidate ask s (before, task.now) ≡ false =
    ap (λ taken. can_be_kept s before task.now && (is_allowed ask task.now && fits s.limits taken task.now.resources)) (sym c.requires.taken)
    ∙ sym c.is_candidate.ensures ∙ c.if-is_candidate.false in
    record {
      rest =
          ap (λ reserved. first_from ask s reserved (drop (i + 1) (lent tasks))) c.in_ok-put_next.ensures.next
          ∙ sym (passed_by ask s before task.now (drop (i + 1) (lent tasks)) fails)
          ∙ ap (first_from ask s before) (sym (next_lent tasks i task (omega arith) c.task-item.is))
          ∙ c.loop-task.invariant.rest;
      within = c.in_ok-put_next.ensures.within i c.loop-task.invariant.within;
    }

pub returns-then-is_candidate : goal.returns-then-is_candidate
returns-then-is_candidate c =
    let ask = c.args.ask.now in
    let s = c.args.state.now in
    let tasks = c.args.tasks.now in
    let i = c.loop-task.task-index in
    let before = reserved_in c.loop-task.reserved in
    let task = c.task-item.result in
    let passes : is_candidate ask s (before, task.now) ≡ true =
    ap (λ taken. can_be_kept s before task.now && (is_allowed ask task.now && fits s.limits taken task.now.resources)) (sym c.requires.taken)
    ∙ sym c.is_candidate.ensures ∙ c.if-is_candidate.true in
    sym (found_here ask s before task.now (drop (i + 1) (lent tasks)) passes)
    ∙ ap (first_from ask s before) (sym (next_lent tasks i task (omega arith) c.task-item.is))
    ∙ c.loop-task.invariant.rest

pub returns : goal.returns
returns c =
    let tasks = c.args.tasks.now in
    let past : length (lent tasks) ≤ c.loop-task.task-index = omega (arith, length-map tasks (λ (t : Bor Task). t.now)) in
    sym (nothing_left c.args.ask.now c.args.state.now (reserved_in c.loop-task.reserved) (lent tasks) c.loop-task.task-index past) ∙ c.loop-task.invariant.rest
