use Rattle.std.proofs.Common.{◌≡◌, length}
use Rattle.lg_json.specs.Capped.{capped}
use Rattle.lg_json.specs.Escapes.{escaped}
use Rattle.lg_json.proofs.escapes.escaped_length.Given as goal

abbrev pub invariant-loop-c : goal.invariant-loop-c
invariant-loop-c l = l.total ≡ capped (length (escaped l.yielded))
