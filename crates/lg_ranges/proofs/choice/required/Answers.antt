use Rattle.lg_ranges.proofs.RequiredLemmas.{brings, all_missing, in_their_order, leaves_none_out}
use Rattle.lg_ranges.proofs.choice.required.Goals as goal

pub returns-clause-missing : goal.returns-clause-missing
returns-clause-missing c = brings _ _ c.chosen.result (λ required. all_missing _ _ required.items) c.chosen.ensures

pub returns-clause-in_order : goal.returns-clause-in_order
returns-clause-in_order c = brings _ _ c.chosen.result (λ required. in_their_order _ _ required.items) c.chosen.ensures

pub returns-clause-whole : goal.returns-clause-whole
returns-clause-whole c = brings _ _ c.chosen.result (λ required. leaves_none_out _ _ required.items) c.chosen.ensures
