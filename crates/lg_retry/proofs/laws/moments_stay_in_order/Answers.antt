use Rattle.lg_retry.proofs.Lives.{in_order_behind}
use Rattle.lg_retry.proofs.laws.moments_stay_in_order.Goals as goal

pub returns : goal.returns
returns c = in_order_behind
