use Rattle.std.proofs.Common.{◌++◌, option_map, sym, ap, ◌∙◌}
use Rattle.serde_json.specs.View.{view}
use Rattle.lg_json.specs.Fields.{fields_view}
use Rattle.lg_snapshot.specs.Kinds.{each_member}
use Rattle.lg_snapshot.proofs.ItemLemmas.{gathered_none, member_more, member_refused, members_over}
use Rattle.lg_snapshot.proofs.entries.members.Goals as goal

pub loop-name-init : goal.loop-name-init
loop-name-init g c = rw c.new-pairs.ensures (gathered_none (each_member g.T.Spelled.kind (fields_view c.args.fields)))

pub returns-in_err-read : goal.returns-in_err-read
returns-in_err-read g c =
    member_refused g.T.Spelled.kind _ c.loop-name.pairs c.in-Some.name (view c.in-Some.value) _ _ _ _ c.in-Some.ensures.members c.in_err-read.ensures c.loop-name.invariant c.from_residual.ensures.1

pub loop-name-preserved : goal.loop-name-preserved
loop-name-preserved g c =
    member_more g.T.Spelled.kind _ c.loop-name.pairs c.in-Some.name (view c.in-Some.value) c.in_ok-read.field-0 _ _ c.in-Some.ensures.members c.in_ok-read.ensures c.loop-name.invariant
    ∙ ap (λ done. option_map (λ rest. done ++ rest) (each_member g.T.Spelled.kind (fields_view c.take_first.new.self))) (sym c.in_ok-push.ensures.ok)

pub returns : goal.returns
returns g c = members_over g.T.Spelled.kind _ c.loop-name.pairs _ c.in_default.ensures.none.0 c.loop-name.invariant
