use Rattle.std.proofs.Common.{[], arith, sym, ◌∙◌}
use Rattle.std.proofs.lemmas.List.{append-nil}
use Rattle.lg_desk.proofs.desk.Desk.stopped.Goals as goal

pub give-requires-clause-added : goal.give-requires-clause-added
give-requires-clause-added g c =
    ([], sym c.take-kept.ensures.seen ∙ sym (append-nil _), omega arith, λ k d below. absurd (omega (arith, below)))
