use Rattle.std.proofs.Common.{IsTrue, sym, ap, subst, ◌∙◌, to_z, of_z, w64}
use Rattle.lg_calls.specs.declared.state.State.{State}
use Rattle.lg_calls.specs.Tasks.{have_distinct_ids}
use Rattle.lg_calls.specs.AddTask.Describing.{task_described}
use Rattle.lg_calls.specs.AddTask.Reporting.{task_reported}
use Rattle.lg_calls.specs.AddTask.Wanting.{wanted}
use Rattle.lg_plain.proofs.AddedLemmas.{distinct_before}
use Rattle.lg_plain.proofs.adding.steps.carry_out.Goals as goal

pub offer-requires-clause-distinct : goal.offer-requires-clause-distinct
offer-requires-clause-distinct c =
    let ask = c.args.ask.now in
    subst (λ (s : State). IsTrue (have_distinct_ids s.tasks))
    (sym (c.in_ok-want.ensures
    ∙ ap (wanted ask) c.in_ok-report.ensures
    ∙ ap (λ s. wanted ask (task_reported ask s)) c.in_ok-describe.ensures.described
    ∙ ap (λ s. wanted ask (task_reported ask (task_described ask s))) c.in_ok-with_task.ensures.made))
    (distinct_before ask (to_z w64 (of_z w64 ask.priority)) c.args.state.now c.requires.distinct)
