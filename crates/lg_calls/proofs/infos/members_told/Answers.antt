use Rattle.std.proofs.Common.{◌≡◌, [], ◌∷◌, ◌++◌, string_bytes, sym, arith}
use Rattle.std.proofs.lemmas.Grind.{common_steps}
use Rattle.serde_json.specs.View.{view, members_view}
use Rattle.lg_calls.specs.Infos.{told}
use Rattle.lg_calls.proofs.InfoLemmas.{joined-member}
use Rattle.lg_calls.proofs.infos.members_told.Goals as goal

pub loop-name-preserved : goal.loop-name-preserved
loop-name-preserved c =
    let info = c.in_ok-told.field-0 in
    let pushed : c.push.new.self ≡ c.loop-name.infos ++ (c.name_of.result, info) ∷ [] = grind (arith, common_steps) in
    rw (c.loop-name.invariant, c.in-Some.ensures.steps, pushed, c.name_of.ensures)
    (joined-member told c.loop-name.infos (string_bytes c.in-Some.name) (view c.in-Some.value) (members_view c.next.new.self) info (sym c.in_ok-told.ensures))
