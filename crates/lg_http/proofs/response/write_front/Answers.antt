use Rattle.std.proofs.Common.{ℕ, ap}
use Rattle.lg_io.proofs.CallerLemmas.{Writes-cut, Writes-then, Writes-same}
use Rattle.lg_http.specs.Response.{opening, head_of}
use Rattle.lg_http.proofs.response.write_front.Goals as goal

pub returns-in_err-write_head : goal.returns-in_err-write_head
returns-in_err-write_head g c =
    Writes-cut _ _ _ (opening c.args.status) c.in_err-write_head.field-0.0 _ c.from_residual.ensures.0
    (Writes-same _ _ _ _ _ (ap (λ (n : ℕ). head_of c.args.status n c.args.last) c.body_length.ensures) c.in_err-write_head.ensures)

pub returns : goal.returns
returns g c =
    let opened = c.write_all.ensures in
    Writes-then _ _ _ _ _ _ (Writes-same _ _ _ _ _ (ap (λ (n : ℕ). head_of c.args.status n c.args.last) c.body_length.ensures) c.in_ok-write_head.ensures)
    (Writes-same _ _ _ _ _ c.opening.ensures (record { told = opened.told; cause = opened.cause; rest = opened.rest }))
