use Rattle.std.proofs.Common.{map, ap, ◌∙◌}
use Rattle.std.proofs.lemmas.Result.{IfOk-weaker}
use Rattle.serde_json.proofs.Views.{view-Array}
use Rattle.serde_json.specs.View.{view}
use Rattle.lg_params.proofs.ListLemmas.{found_in_array}
use Rattle.lg_params.proofs.lists.texts_of.Goals as goal

pub returns-in-Array : goal.returns-in-Array
returns-in-Array c =
    let items = ap view c.in-Array.is ∙ view-Array c.in-Array.items in
    IfOk-weaker _ _ _ (λ r found. found_in_array (map view c.in-Array.items.items) _ r items found) c.all_texts.ensures
