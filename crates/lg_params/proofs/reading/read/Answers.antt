use Rattle.std.proofs.lemmas.Result.{IfOk-weaker}
use Rattle.lg_params.proofs.KindLemmas.{writable}
use Rattle.lg_params.proofs.reading.read.Goals as goal

pub returns-clause-writable : goal.returns-clause-writable
returns-clause-writable c = IfOk-weaker _ _ _ (writable c.args.kind.now c.args.text.now) c.answer.ensures.value
