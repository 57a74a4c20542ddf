use Rattle.std.proofs.Common.{◌≡◌, ℕ, Bool, List, Result, Ok, Err, OnErr, sym, ◌∙◌}
use Rattle.lg_calls.specs.declared.method.Method.{Method}
use Rattle.luigid.specs.declared.refusal.Misrouted.{Misrouted}
use Rattle.luigid.specs.Call.{route}
use Rattle.luigid.proofs.Calls.{asks-none, wants-call}
use Rattle.luigid.proofs.call.read_call.Goals as goal

-- what was found for the parts of a message
found_for : (verb target seen at : List ℕ) (sized : Bool) (found value : Result Method Misrouted) → seen ≡ verb → at ≡ target → found ≡ route seen sized at → found ≡ value
    → route verb sized target ≡ value
found_for verb target seen at sized found value verb_is target_is is value_is = rw (← verb_is, ← target_is) (sym is ∙ value_is)

-- what holds anyway holds of a fault
on_err : {A E : Type 0} (r : Result A E) (P : Type 0) → P → OnErr r P
on_err (Ok x) P p = tt
on_err (Err e) P p = p

pub returns-in-Ok-clause-memory : goal.returns-in-Ok-clause-memory
returns-in-Ok-clause-memory c =
    on_err c.asked_of.result _ (wants-call c.args.message.now.verb c.args.message.now.sized c.args.message.now.target c.args.message.now.body.items _
    (found_for c.args.message.now.verb c.args.message.now.target _ _ _ _ _ c.bytes-verb.ensures c.bytes-target.ensures c.route.ensures c.in-Ok.is))

pub returns-in-Err-clause-asked : goal.returns-in-Err-clause-asked
returns-in-Err-clause-asked c =
    asks-none c.args.message.now.verb c.args.message.now.sized c.args.message.now.target c.args.message.now.body.items _
    (found_for c.args.message.now.verb c.args.message.now.target _ _ _ _ _ c.bytes-verb.ensures c.bytes-target.ensures c.route.ensures c.in-Err.is)
