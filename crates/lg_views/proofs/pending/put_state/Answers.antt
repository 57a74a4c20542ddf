use Rattle.std.proofs.Common.{◌∷◌, [], ◌++◌, ap, ◌∙◌, codes}
use Rattle.std.proofs.lemmas.Result.{on_ok_weaker}
use Rattle.lg_base.specs.declared.faults.NoMemory.{NoMemory}
use Rattle.lg_json.specs.Tree.{str}
use Rattle.lg_calls.specs.Views.Workers.{state_word}
use Rattle.lg_calls.specs.Workers.{is_disabled}
use Rattle.lg_views.specs.Fields.{fields_in}
use Rattle.lg_views.proofs.pending.put_state.Goals as goal

pub returns : goal.returns
returns g c =
    let old = fields_in c.args.object.now in
    let worker = c.args.worker.now in
    on_ok_weaker {T = Unit {0}} {E = NoMemory} c.put.result
    (λ put.
    put
    ∙ ap (λ word. old ++ (codes "worker_state", str word) ∷ []) (c.state_word-word.ensures ∙ ap state_word (c.is_disabled.ensures ∙ ap (is_disabled worker) c.workers.ensures)))
    c.put.ensures
