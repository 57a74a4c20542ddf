use Rattle.lg_declare.proofs.LoopLemmas.{length_seen}
use Rattle.std.proofs.Common.{ap, length, ◌∙◌}
use Rattle.lg_declare.proofs.commands.output_count.Goals as goal

pub returns : goal.returns
returns c = length_seen c.list_at.result.now ∙ ap length c.list_at.ensures
