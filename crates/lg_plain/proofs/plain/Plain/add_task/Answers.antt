use Rattle.lg_plain.proofs.OutcomeLemmas.{valid-adds}
use Rattle.lg_plain.proofs.plain.Plain.add_task.Goals as goal

pub invariant_of-self : goal.invariant_of-self
invariant_of-self c =
    let s = c.args.self.now.state in
    record {
      is_valid = valid-adds c.adding_keeps_validity.ensures c.args.ask.now s c.add_task.new.state c.add_task.result c.add_task.ensures c.requires c.args.self.now.is_valid;
    }
