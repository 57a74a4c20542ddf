use Rattle.std.proofs.Common.{◌≡◌, ◌-◌, ℕ, length, length-take, length-drop, subst, sym, arith}
use Rattle.lg_io.specs.Source.{FitsBuffer}
use Rattle.lg_http.proofs.WindowLemmas.{filled}
use Rattle.lg_http.proofs.window.read_behind.Goals as goal

pub returns-clause-filled : goal.returns-clause-filled
returns-clause-filled g c =
    let room : length c.read.new.buf ≡ length c.args.bytes.now - c.args.at =
    omega (arith, c.read.auto.buf, length-take {A = ℕ}, length-drop {A = ℕ}) in
    let read = filled c.read.result c.args.at c.args.bytes.now c.read.new.buf _ (g.R.Source.received c.args.source.now) _
    (subst (FitsBuffer c.read.result) (sym c.read.auto.buf) c.read.ensures.count)
    (omega (arith, room, c.requires)) (omega (arith, room, c.requires)) c.read.ensures.told in
    (read.0, read.1.given, read.1.inside, read.1.bytes, read.1.told)
