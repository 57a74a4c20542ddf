use Rattle.lg_target.proofs.NamingLemmas.{front_folder, no_folder}
use Rattle.lg_target.proofs.laws.folders.Goals as goal

pub returns-clause-front : goal.returns-clause-front
returns-clause-front c = front_folder

pub returns-clause-none : goal.returns-clause-none
returns-clause-none c = no_folder
