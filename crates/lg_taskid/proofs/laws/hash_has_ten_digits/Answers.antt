use Rattle.lg_taskid.proofs.Shape.{length-hash_of, digits-hash_of}
use Rattle.lg_taskid.proofs.laws.hash_has_ten_digits.Goals as goal

pub returns : goal.returns
returns c = λ pairs. (length-hash_of pairs, digits-hash_of pairs)
