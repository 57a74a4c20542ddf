use Rattle.std.proofs.Common.{◌≡◌}
use Rattle.serde_json.specs.View.{members_view}
use Rattle.lg_json.specs.Fields.{each_member}
use Rattle.lg_calls.specs.Infos.{told}
use Rattle.lg_calls.proofs.InfoLemmas.{joined}
use Rattle.lg_calls.proofs.infos.members_told.Given as goal

abbrev pub invariant-loop-name : goal.invariant-loop-name
invariant-loop-name l =
    each_member told (members_view l.fn.members.entries) ≡ joined l.infos (each_member told (members_view l.name-iterator))
