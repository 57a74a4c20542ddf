use Rattle.std.proofs.Common.{arith}
use Rattle.std.proofs.lemmas.Result.{on_ok_weaker}
use Rattle.lg_base.specs.declared.faults.NoMemory.{NoMemory}
use Rattle.lg_params.proofs.ListLemmas.{utf8_from_first}
use Rattle.lg_params.proofs.lists.push_joined.Goals as goal

pub returns-in_ok-push_str-in-len1-up-clause-utf8 : goal.returns-in_ok-push_str-in-len1-up-clause-utf8
returns-in_ok-push_str-in-len1-up-clause-utf8 c =
    on_ok_weaker {T = Unit {0}} {E = NoMemory} c.push_others.result (utf8_from_first c.args.texts.now _ (omega arith) c.first-item.is c.as_str.ensures.utf8) c.push_others.ensures.utf8
