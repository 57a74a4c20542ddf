use Rattle.lg_settings.proofs.NameLemmas.{same_scheduler}
use Rattle.lg_settings.proofs.laws.other_keys_make_no_difference.Goals as goal

pub returns : goal.returns
returns c = same_scheduler
