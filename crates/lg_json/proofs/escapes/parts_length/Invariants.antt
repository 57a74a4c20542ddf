use Rattle.std.proofs.Common.{◌≡◌, ◌+◌, ◌<◌, ◌^◌, length}
use Rattle.lg_json.specs.Capped.{capped}
use Rattle.lg_json.specs.Parts.{joined}
use Rattle.lg_json.specs.Text.{quoted}
use Rattle.lg_json.proofs.Parts.{left_from}
use Rattle.lg_json.proofs.escapes.parts_length.Given as goal

-- the bytes so far and those that are left are those of the whole
abbrev pub invariant-loop-part : goal.invariant-loop-part
invariant-loop-part l =
    record {
      fits : l.total < 2 ^ 64;
      whole : capped (l.total + length (left_from l.parts l.part-index)) ≡ capped (length (quoted (joined l.parts)));
    }
