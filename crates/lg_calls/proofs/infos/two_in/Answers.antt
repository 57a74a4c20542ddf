use Rattle.std.proofs.Common.{rules}
use Rattle.lg_calls.proofs.InfoLemmas.{two_in-other}
use Rattle.lg_calls.proofs.infos.two_in.Goals as goal

pub returns-then-len-ne2 : goal.returns-then-len-ne2
returns-then-len-ne2 c = two_in-other c.args.items.items (search rules)
