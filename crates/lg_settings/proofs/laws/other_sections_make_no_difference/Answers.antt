use Rattle.lg_settings.proofs.NameLemmas.{same_sections}
use Rattle.lg_settings.proofs.laws.other_sections_make_no_difference.Goals as goal

pub returns : goal.returns
returns c = same_sections
