use Rattle.std.proofs.Common.{◌≡◌, ◌++◌, option_map}
use Rattle.serde_json.specs.Events.{members_len}
use Rattle.lg_json.specs.Fields.{fields_view}
use Rattle.lg_snapshot.specs.Kinds.{each_member}
use Rattle.lg_snapshot.proofs.entries.members.Given as goal

abbrev pub invariant-loop-name : goal.invariant-loop-name
invariant-loop-name g l =
    each_member g.T.Spelled.kind (fields_view l.fn.fields) ≡ option_map (λ rest. l.pairs ++ rest) (each_member g.T.Spelled.kind (fields_view l.left))

abbrev pub decreases-loop-name : goal.decreases-loop-name
decreases-loop-name g l = members_len (fields_view l.left)
