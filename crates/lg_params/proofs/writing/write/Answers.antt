use Rattle.std.proofs.lemmas.Result.{IfOk-weaker}
use Rattle.lg_params.specs.declared.kinds.Kind.{Kind}
use Rattle.lg_params.specs.Kinds.{IsOfKind, HoldsUtf8}
use Rattle.lg_params.specs.Spelling.{Spells}
use Rattle.lg_params.specs.Writing.{IsWritten}
use Rattle.lg_params.proofs.TextLemmas.{written_spells}
use Rattle.lg_params.proofs.writing.write.Goals as goal

pub returns-clause-read_back : goal.returns-clause-read_back
returns-clause-read_back c =
    let p = c.args.param.now in
    IfOk-weaker c.written.result (λ text. IsWritten p text × HoldsUtf8 p) (λ text. (kind : Kind) → IsOfKind kind p → Spells kind text p)
    (λ text is kind of. written_spells kind p text of is.1 is.0) c.written.ensures
