use Rattle.lg_taskid.specs.BatchId.{joined_ids}
use Rattle.lg_taskid.proofs.Digits.{length-md5_digits}
use Rattle.lg_taskid.proofs.Shape.{digits-md5_digits}
use Rattle.lg_taskid.proofs.laws.batch_id_has_32_digits.Goals as goal

pub returns : goal.returns
returns c = λ ids. (length-md5_digits (joined_ids ids), digits-md5_digits (joined_ids ids))
