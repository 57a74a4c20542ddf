use Rattle.lg_target.proofs.WritingLemmas.{whole_once_renamed}
use Rattle.lg_target.proofs.laws.whole_is_what_was_written.Goals as goal

pub returns : goal.returns
returns c = whole_once_renamed
