-- The six rules on one task, one behind another.
use Rattle.std.proofs.Common.{◌≡◌, ℕ, Bool, true, false, cond, is_some, ap, ◌∙◌, sym}
use Rattle.lg_base.specs.declared.moment.Moment.{Moment}
use Rattle.lg_calls.specs.declared.status.Status.{Status}
use Rattle.lg_calls.specs.Status.{is_held, forgiven_by, judged_by, turned, rested, retried, carried_out, set_alone}
use Rattle.lg_calls.specs.Task.{Task}

-- where nothing happens the task stays
pub set_alone-held : (delay : ℕ) (now : Moment) (status : Status) (task : Task) → is_held status task ≡ true → set_alone delay now status task ≡ task
unfolding set_alone
set_alone-held delay now status task held =
    ap (λ b. cond b task (carried_out delay now (is_some task.batch) (judged_by status now (forgiven_by status task)))) held

-- and else the verdict on it is carried out
pub set_alone-free : (delay : ℕ) (now : Moment) (status : Status) (task : Task) → is_held status task ≡ false
    → set_alone delay now status task ≡ carried_out delay now (is_some task.batch) (judged_by status now (forgiven_by status task))
unfolding set_alone
set_alone-free delay now status task free =
    ap (λ b. cond b task (carried_out delay now (is_some task.batch) (judged_by status now (forgiven_by status task)))) free

-- the rules in their order, each from what the one before left
pub set_alone-steps : (delay : ℕ) (now : Moment) (status verdict : Status) (task begun judged : Task) (was_in_batch : Bool)
    → is_held status task ≡ false → was_in_batch ≡ is_some task.batch → begun ≡ forgiven_by status task → judged_by status now begun ≡ (judged, verdict)
    → set_alone delay now status task ≡ retried delay now was_in_batch (rested (turned verdict now judged))
set_alone-steps delay now status verdict task begun judged was_in_batch free was begins judges =
    set_alone-free delay now status task free
    ∙ ap (λ b. carried_out delay now b (judged_by status now (forgiven_by status task))) (sym was)
    ∙ ap (λ t. carried_out delay now was_in_batch (judged_by status now t)) (sym begins)
    ∙ ap (carried_out delay now was_in_batch) judges
