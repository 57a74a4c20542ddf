use Rattle.std.proofs.Common.{sym, subst}
use Rattle.std.proofs.lemmas.Result.{IfOk-weaker}
use Rattle.std.specs.Str.{IsAscii}
use Rattle.lg_taskid.proofs.Digits.{ascii-encode_lower}
use Rattle.lg_taskid.proofs.digest.md5_digits.Goals as goal

pub returns-clause-ascii : goal.returns-clause-ascii
returns-clause-ascii c = IfOk-weaker c.encode.result _ _ (λ digits is. subst IsAscii (sym is) (ascii-encode_lower c.digest.result)) c.encode.ensures
