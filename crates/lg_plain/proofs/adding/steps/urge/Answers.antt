use Rattle.std.proofs.Common.{IsTrue, sym, subst}
use Rattle.lg_calls.specs.declared.state.State.{State}
use Rattle.lg_calls.specs.Tasks.{have_distinct_ids}
use Rattle.lg_plain.proofs.AddedLemmas.{distinct_urgent}
use Rattle.lg_plain.proofs.adding.steps.urge.Goals as goal

pub pass_on-requires : goal.pass_on-requires
pass_on-requires c =
    subst (λ (s : State). IsTrue (have_distinct_ids s.tasks)) (sym c.in_ok-change_part.ensures)
    (distinct_urgent c.args.ask.now c.args.state.now c.requires)
