use Rattle.lg_declare.proofs.KindLemmas.{fault_found}
use Rattle.lg_declare.proofs.parameters.fault_of.Goals as goal

pub returns : goal.returns
returns c = fault_found c.args.kind.now c.args.text.now c.read.result c.err.result c.read.ensures.value c.read.ensures.spelled c.err.ensures.value
