-- What is shown of a worker. This project's own, after Luigi's central scheduler.
use Rattle.std.specs.Prelude.{ℕ, Bool, true, false, List, codes}
use Rattle.lg_calls.specs.declared.info.Info.{Info}
use Rattle.lg_calls.specs.declared.info.Info.TheVariants as I
use Rattle.lg_calls.specs.declared.worker.WorkerRec.{WorkerRec}
use Rattle.lg_calls.specs.Views.Trees.{by_name}
use Rattle.lg_json.specs.Tree.{Tree, null, truth, int, str}

-- one thing that it told of itself
abbrev pub info_shown : Info → Tree
info_shown (I.Text text) = str text
info_shown (I.Number number) = int number
info_shown (I.Truth holds) = truth holds
info_shown I.Null = null

-- all that it told, by name
abbrev pub infos_shown : WorkerRec → Tree
infos_shown worker = by_name info_shown worker.info

-- whether it gets work
abbrev pub state_word : Bool → List ℕ
state_word true = codes "disabled"
state_word false = codes "active"
