use Rattle.std.proofs.Common.{◌≤◌, ◌-◌, ℕ, length, length-take, ap, ◌∙◌, arith, drop}
use Rattle.lg_http.proofs.WindowLemmas.{skipped}
use Rattle.lg_http.proofs.window.Window.skip.Goals as goal

pub returns : goal.returns
returns c =
    let fits : c.args.count ≤ c.self.inside.end - c.self.inside.start =
    omega (arith, ap (length {A = ℕ}) c.self.view_is, length-take {A = ℕ}, c.requires) in
    skipped _ _ _ c.args.count fits ∙ ap (drop c.args.count) c.self.view_is
