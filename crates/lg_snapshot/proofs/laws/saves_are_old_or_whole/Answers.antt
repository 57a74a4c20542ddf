use Rattle.lg_snapshot.proofs.SavingLemmas.{saved_whole, refused_old}
use Rattle.lg_snapshot.proofs.laws.saves_are_old_or_whole.Goals as goal

pub returns-clause-whole : goal.returns-clause-whole
returns-clause-whole c = saved_whole c.aside_leaves_the_old.ensures c.whole_is_what_was_written.ensures

pub returns-clause-old : goal.returns-clause-old
returns-clause-old c = refused_old c.aside_leaves_the_old.ensures
