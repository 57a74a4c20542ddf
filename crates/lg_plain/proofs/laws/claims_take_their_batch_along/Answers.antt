use Rattle.lg_plain.proofs.LawLemmas.{find_task-along, find_task-apart, find_task-other_batch, find_task-no_claim}
use Rattle.lg_plain.proofs.laws.claims_take_their_batch_along.Goals as goal

pub returns-clause-along : goal.returns-clause-along
returns-clause-along c = find_task-along

pub returns-clause-others : goal.returns-clause-others
returns-clause-others c = find_task-apart

pub returns-clause-other_batches : goal.returns-clause-other_batches
returns-clause-other_batches c = find_task-other_batch

pub returns-clause-no_claim : goal.returns-clause-no_claim
returns-clause-no_claim c = find_task-no_claim
