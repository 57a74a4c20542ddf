use Rattle.std.proofs.Common.{◌≡◌, Bool, true, false, cond, Option, sym, ap, ◌∙◌}
use Rattle.std.proofs.lemmas.Result.{IfOk-weaker}
use Rattle.lg_base.specs.declared.faults.NoMemory.{NoMemory}
use Rattle.lg_calls.specs.declared.upstream.UpstreamStatus.{UpstreamStatus}
use Rattle.lg_calls.specs.Task.{Task}
use Rattle.lg_calls.specs.Upstream.{is_open, own_upstream, waited_for, worst_of, upstream_status}
use Rattle.lg_views.proofs.upstream.upstream_status.Goals as goal

pub returns-then-is_open : goal.returns-then-is_open
unfolding upstream_status
returns-then-is_open g c =
    let tasks = (g.K.Look.state c.args.state.now).tasks in
    let task = c.args.task.now in
    let open_is : is_open task ≡ true = sym c.is_open.ensures ∙ c.if-is_open.true in
    IfOk-weaker {X = Option UpstreamStatus} {Y = NoMemory} c.worst_waited_for.result (λ worst. worst ≡ worst_of (waited_for tasks task))
    (λ worst. worst ≡ cond (is_open task) (worst_of (waited_for tasks task)) (own_upstream task.status))
    (λ worst is. is ∙ ap (λ (b : Bool). cond b (worst_of (waited_for tasks task)) (own_upstream task.status)) (sym open_is))
    c.worst_waited_for.ensures

pub returns-else-is_open : goal.returns-else-is_open
unfolding upstream_status
returns-else-is_open g c =
    let tasks = (g.K.Look.state c.args.state.now).tasks in
    let task = c.args.task.now in
    let open_is : is_open task ≡ false = sym c.is_open.ensures ∙ c.if-is_open.false in
    c.own_upstream.ensures
    ∙ (ap (λ (t : Task). own_upstream t.status) c.task.view_is
    ∙ ap (λ (b : Bool). cond b (worst_of (waited_for tasks task)) (own_upstream task.status)) (sym open_is))
