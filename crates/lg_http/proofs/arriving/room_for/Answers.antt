use Rattle.std.proofs.Common.{take, ap, ◌∙◌}
use Rattle.std.proofs.lemmas.List.{take_at}
use Rattle.lg_http.proofs.WindowLemmas.{taken_min}
use Rattle.lg_http.proofs.arriving.room_for.Goals as goal

pub returns-clause-read : goal.returns-clause-read
returns-clause-read c =
    ap (take c.min-filled.result) (take_at c.copy_to_front.new.room _ c.in_ok-room.room.len (c.copy_to_front.auto.room ∙ c.deref_mut.ensures.len))
    ∙ taken_min c.copy_to_front.new.room c.args.bytes.now _ _ c.min-filled.ensures c.copy_to_front.ensures
