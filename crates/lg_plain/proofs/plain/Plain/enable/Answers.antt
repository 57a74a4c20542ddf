use Rattle.lg_calls.specs.Status.{enable}
use Rattle.lg_plain.proofs.ValidityLemmas.{valid-answer}
use Rattle.lg_plain.proofs.plain.Plain.enable.Goals as goal

pub invariant_of-self : goal.invariant_of-self
invariant_of-self c =
    let s = c.args.self.now.state in
    record {
      is_valid = valid-answer c.enable.result s c.enable.new.state (enable s c.args.id.now) c.enable.ensures.ok c.enable.ensures.err
          (c.enabling_keeps_validity.ensures s c.args.id.now c.args.self.now.is_valid) c.args.self.now.is_valid;
    }
