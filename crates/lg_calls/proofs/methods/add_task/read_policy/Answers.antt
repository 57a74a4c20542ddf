use Rattle.std.proofs.Common.{ap, ◌∙◌, rules}
use Rattle.lg_json.specs.Fields.{optional}
use Rattle.lg_calls.specs.RetryEntries.{policy_read, policy_in}
use Rattle.lg_calls.proofs.ReadingLemmas.{due_field_reads}
use Rattle.lg_calls.proofs.methods.add_task.read_policy.Goals as goal

pub returns-clause-read : goal.returns-clause-read
returns-clause-read c =
    let due = c.policy_in.ensures.read ∙ ap (optional policy_read) c.value-value.ensures.value in
    due_field_reads policy_in _ _ _ c.policy_in.result _ due (search rules) c.taken.ensures
