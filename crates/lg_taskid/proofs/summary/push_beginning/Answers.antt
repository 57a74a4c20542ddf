use Rattle.std.proofs.Common.{rules, ◌++◌, ap, ◌∙◌}
use Rattle.std.proofs.lemmas.Iterator.{YieldsList-from_chars, YieldsList-from_take, YieldsList-from_map}
use Rattle.std.proofs.lemmas.Iterator.Adapters.{items_from_extend}
use Rattle.std.proofs.lemmas.Result.{on_ok_weaker}
use Rattle.std.specs.Prelude.{string_bytes}
use Rattle.lg_taskid.specs.TaskId.{safe_character, beginning_of}
use Rattle.lg_taskid.proofs.Summaries.{encodes-safe}
use Rattle.lg_taskid.proofs.summary.push_beginning.Goals as goal

pub returns : goal.returns
returns c =
    let items = items_from_extend c.extend.result c.extend.ensures.ran (YieldsList-from_map _ safe_character (YieldsList-from_take 16 (YieldsList-from_chars c.args.value.now c.utf8.value cc) cc) c.map.ensures.closure (λ x r q k. search rules)) in
    on_ok_weaker c.extend.result (λ is. is ∙ ap (λ ys. string_bytes c.args.id.now ++ ys) (encodes-safe (beginning_of c.args.value.now))) items
