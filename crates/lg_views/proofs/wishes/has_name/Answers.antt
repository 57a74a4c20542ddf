use Rattle.std.specs.FinMap.{get}
use Rattle.lg_views.proofs.UseLemmas.{amount_is_limit}
use Rattle.lg_views.proofs.wishes.has_name.Goals as goal

pub returns : goal.returns
returns c = amount_is_limit (get c.args.amounts.now c.args.name.now) c.get.result c.limit_of.result c.get.ensures c.limit_of.ensures
