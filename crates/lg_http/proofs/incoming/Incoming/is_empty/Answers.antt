use Rattle.std.proofs.Common.{◌∙◌, ap, length}
use Rattle.std.specs.Prelude.{◌==◌}
use Rattle.lg_http.proofs.IncomingLemmas.{kept_empty}
use Rattle.lg_http.proofs.incoming.Incoming.is_empty.Goals as goal

pub returns : goal.returns
returns c =
    kept_empty c.args.self.now.window c.args.self.now.arriving c.is_empty.result c.requires
    (c.is_empty.ensures ∙ ap (λ b. length b == 0) c.pending.ensures.same)
