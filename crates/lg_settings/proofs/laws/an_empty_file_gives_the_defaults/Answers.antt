use Rattle.lg_settings.proofs.EmptyLemmas.{empty_file}
use Rattle.lg_settings.proofs.laws.an_empty_file_gives_the_defaults.Goals as goal

pub returns : goal.returns
returns c = empty_file
