use Rattle.lg_calls.specs.Status.{set_status}
use Rattle.lg_plain.proofs.ValidityLemmas.{valid-answer}
use Rattle.lg_plain.proofs.plain.Plain.set.Goals as goal

pub invariant_of-self : goal.invariant_of-self
invariant_of-self c =
    let s = c.args.self.now.state in
    record {
      is_valid = valid-answer c.set.result s c.set.new.state (set_status s c.args.id.now c.args.status) c.set.ensures.ok c.set.ensures.err
          (c.setting_keeps_validity.ensures s c.args.id.now c.args.status c.requires c.args.self.now.is_valid) c.args.self.now.is_valid;
    }
