use Rattle.std.proofs.Common.{◌≡◌, ℕ, Bool, false, List, ◌∷◌, sym, ◌∙◌, true≢false}
use Rattle.lg_io.specs.declared.door.Accept.TheVariants as accept
use Rattle.lg_io.specs.declared.memory.door.Visit.{Visit}
use Rattle.lg_io.specs.declared.memory.door.Visit.TheVariants as visit
use Rattle.lg_io.specs.declared.memory.sink.MemorySink.{MemorySink}
use Rattle.lg_io.specs.declared.memory.source.MemorySource.{MemorySource}
use Rattle.lg_io.specs.declared.pair.PairLink.{PairLink}
use Rattle.lg_io.specs.FaultPlan.{behind}
use Rattle.lg_io.specs.MemoryDoor.{DoorScript, IsBegunAnew, AcceptsByScript}
use Rattle.lg_io.proofs.memory.door.MemoryDoorDoor.accept.Goals as goal

-- a link is handed out where the next visit is one and the call isn't to fail
hands_out : {P : Type 0} (due script : P → ℕ → Bool) (old new : DoorScript P) (next link : PairLink (MemorySource P) (MemorySink P))
    → old.fails 0 ≡ false → new.fails ≡ behind old.fails → old.visits ≡ visit.Conn next ∷ new.visits
    → IsBegunAnew due script next link → AcceptsByScript due script old new (accept.Conn link)
hands_out due script old new next link not_due goes_on visits anew = record {
  fails = (λ is. cc, λ is_due. absurd (true≢false (sym is_due ∙ not_due)));
  takes = (next, visits, anew);
  goes_on = goes_on;
}

-- a link for which there is no memory stays the next visit
keeps_link : {P : Type 0} (due script : P → ℕ → Bool) (old new : DoorScript P) (next : PairLink (MemorySource P) (MemorySink P))
    (rest : List (Visit P)) → old.fails 0 ≡ false → new.fails ≡ behind old.fails → old.visits ≡ visit.Conn next ∷ rest
    → new.visits ≡ visit.Conn next ∷ rest → AcceptsByScript due script old new accept.NoMemory
keeps_link due script old new next rest not_due goes_on visits put_back = record {
  fails = (λ is. cc, λ is_due. absurd (true≢false (sym is_due ∙ not_due)));
  takes = (next, rest, visits, put_back ∙ sym visits);
  goes_on = goes_on;
}

pub returns-then-is_err-clause-follows : goal.returns-then-is_err-clause-follows
returns-then-is_err-clause-follows g c = λ _.
    keeps_link _ _ _ _ c.in-Some-Conn.link _ (sym c.is_due.ensures.due ∙ c.if-is_due.false) c.is_due.ensures.next
    (rw c.in-Some-Conn.field-0-is at c.in-Some-Conn.ensures.items) c.push_front_reserved.ensures.items

pub returns-else-is_err-clause-follows : goal.returns-else-is_err-clause-follows
returns-else-is_err-clause-follows g c = λ _.
    hands_out _ _ _ _ c.in-Some-Conn.link _ (sym c.is_due.ensures.due ∙ c.if-is_due.false) c.is_due.ensures.next
    (rw c.in-Some-Conn.field-0-is at c.in-Some-Conn.ensures.items) c.restart.ensures.anew
