-- What is shown of the task that is found is what is due of the id.
use Rattle.std.proofs.Common.{◌≡◌, ℕ, List, Option, Some, None, Result, subst}
use Rattle.std.specs.Prelude.{IfOk}
use Rattle.lg_base.specs.declared.faults.NoMemory.{NoMemory}
use Rattle.lg_calls.specs.Task.{Task}
use Rattle.lg_calls.specs.Tasks.{find_task}
use Rattle.lg_json.specs.declared.out.Out.{Out}
use Rattle.lg_json.specs.Tree.{tree_of}
use Rattle.lg_calls.specs.Views.Errors.{error_if}
use Rattle.lg_views.proofs.PlaceLemmas.{CanBeLookedAt-listed}
use Rattle.lg_views.proofs.errors.fetch_error.Goals as goal

shown_of_found : (r : Result Out NoMemory) (id : List ℕ) (there found : Option Task) → there ≡ found
    → IfOk r (λ out. tree_of out ≡ error_if id there) → IfOk r (λ out. tree_of out ≡ error_if id found)
shown_of_found r id there found same shown =
    let P : Option Task → Type 0 = λ o. IfOk r (λ out. tree_of out ≡ error_if id o) in subst P same shown

pub found-requires : goal.found-requires
found-requires g c = CanBeLookedAt-listed _ c.requires

pub returns-in-Some : goal.returns-in-Some
returns-in-Some g c =
    shown_of_found c.error_of.result c.args.id.now (Some c.in-Some.task.now) (find_task c.args.id.now (g.K.Look.state c.args.state.now).tasks)
    c.in-Some.ensures c.error_of.ensures

pub returns-in-None : goal.returns-in-None
returns-in-None g c =
    shown_of_found c.no_error_of.result c.args.id.now None (find_task c.args.id.now (g.K.Look.state c.args.state.now).tasks)
    c.in-None.ensures c.no_error_of.ensures
