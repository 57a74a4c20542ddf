use Rattle.std.proofs.Common.{codes}
use Rattle.std.proofs.lemmas.Result.{err_from_is_err_and}
use Rattle.lg_io.proofs.Sequence.{front_of_piece, front_behind, written_behind}
use Rattle.luigid.proofs.audit.lines.write_life.Goals as goal

pub returns-in_err-write_all-clause-told : goal.returns-in_err-write_all-clause-told
returns-in_err-write_all-clause-told g c =
    let p = err_from_is_err_and c.from_residual.result c.from_residual.ensures.1 in
    rw p.1 (front_of_piece _ _ (codes "life ") _ c.in_err-write_all.ensures.told)

pub returns-in_err-write_all-2-clause-told : goal.returns-in_err-write_all-2-clause-told
returns-in_err-write_all-2-clause-told g c =
    let p = err_from_is_err_and c.from_residual-in_err-write_all-2.result c.from_residual-in_err-write_all-2.ensures.1 in
    let digits = rw (c.as_bytes.ensures.value, c.format.ensures.text) at c.in_err-write_all-2.ensures.told in
    rw p.1 (front_behind _ _ _ (codes "life ") _ c.in_ok-write_all.ensures.told (front_of_piece _ _ _ _ digits))

pub returns-clause-told : goal.returns-clause-told
returns-clause-told g c =
    let digits = rw (c.as_bytes.ensures.value, c.format.ensures.text) at c.in_ok-write_all-2.ensures.told in
    let tail = rw (c.as_bytes-2.ensures.value, c.end_of_line.ensures) at c.write_all-3.ensures.told in
    written_behind _ _ _ (codes "life ") _ _ c.in_ok-write_all.ensures.told (written_behind _ _ _ _ _ _ digits tail)
