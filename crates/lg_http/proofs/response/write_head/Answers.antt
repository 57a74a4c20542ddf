use Rattle.std.proofs.Common.{◌∙◌}
use Rattle.lg_http.proofs.PieceLemmas.{head_pieces}
use Rattle.lg_io.proofs.Sequence.{Writes-same}
use Rattle.lg_http.proofs.response.write_head.Goals as goal

pub returns : goal.returns
returns g c =
    Writes-same _ _ _ _ _
    (head_pieces c.args.status c.args.size c.args.last _ _ _ _ (c.as_bytes.ensures.value ∙ c.format.ensures.text) c.reason.ensures
    (c.as_bytes-2.ensures.value ∙ c.format-2.ensures.text) c.closing.ensures)
    c.write_pieces.ensures
