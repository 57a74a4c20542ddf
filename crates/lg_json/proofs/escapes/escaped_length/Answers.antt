use Rattle.std.proofs.Common.{◌≡◌, sym, ap, ◌∙◌, length}
use Rattle.std.specs.Prelude.{chars}
use Rattle.std.proofs.lemmas.Iterator.{YieldsList-from_chars}
use Rattle.std.proofs.lemmas.Iterator.Consumers.{YieldsList-end}
use Rattle.std.proofs.lemmas.List.{map-id}
use Rattle.lg_json.specs.Capped.{capped}
use Rattle.lg_json.specs.Escapes.{escaped}
use Rattle.lg_json.proofs.escapes.escaped_length.Goals as goal

pub returns-clause-size : goal.returns-clause-size
returns-clause-size c =
    let ends = YieldsList-end (YieldsList-from_chars c.args.text.now c.utf8.text cc) c.loop-c.yielded _ c.loop-c.yielded_by _ _ c.in-None.is c.next.ensures.steps in
    let all : c.loop-c.yielded ≡ chars c.args.text.now = sym (map-id c.loop-c.yielded) ∙ ends.0 in
    c.loop-c.invariant ∙ ap (λ cs. capped (length (escaped cs))) all
