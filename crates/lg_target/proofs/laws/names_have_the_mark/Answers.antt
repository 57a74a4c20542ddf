use Rattle.lg_target.proofs.NamingLemmas.{named_temporary, ten}
use Rattle.lg_target.proofs.laws.names_have_the_mark.Goals as goal

pub returns-clause-mark : goal.returns-clause-mark
returns-clause-mark c = named_temporary

pub returns-clause-ten : goal.returns-clause-ten
returns-clause-ten c = ten
