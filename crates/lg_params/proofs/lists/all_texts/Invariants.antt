use Rattle.std.proofs.Common.{◌≡◌, map}
use Rattle.serde_json.specs.Data.{string}
use Rattle.serde_json.specs.View.{view}
use Rattle.lg_params.proofs.lists.all_texts.Given as goal

abbrev pub invariant-loop-item : goal.invariant-loop-item
invariant-loop-item l = map view l.yielded ≡ map string l.texts.items
