use Rattle.std.proofs.Common.{◌∙◌}
use Rattle.lg_desk.proofs.desk.Desk.close_all.Goals as goal

pub returns-clause-begins : goal.returns-clause-begins
returns-clause-begins g c = λ k d below. let begins = c.close_all.ensures.begins k d below in (begins.0, c.finish.ensures.journal ∙ begins.1)
