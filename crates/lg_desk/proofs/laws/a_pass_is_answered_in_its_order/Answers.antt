use Rattle.lg_desk.proofs.Passes.{answers_go_on}
use Rattle.lg_desk.proofs.laws.a_pass_is_answered_in_its_order.Goals as goal

pub returns : goal.returns
returns c = answers_go_on
