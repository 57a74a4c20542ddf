use Rattle.std.proofs.Common.{◌≡◌, ℕ, Bool, ◌<◌, IfSome, length, [], get_or, refl, sym, subst, ◌∙◌, arith}
use Rattle.std.proofs.lemmas.List.{take_more_set, take_all}
use Rattle.std.proofs.lemmas.List.Elements.{All-push, All-same}
use Rattle.lg_io.specs.declared.memory.door.MemoryDoor.{MemoryDoor}
use Rattle.lg_io.specs.Door.{unused_door}
use Rattle.lg_io.specs.MemoryClock.{moments_ahead}
use Rattle.lg_io.specs.MemoryDoor.{door_script, door_clock, IsUnusedDoor}
use Rattle.lg_io.specs.MemoryNet.{door_ahead}
use Rattle.lg_io.proofs.Restarts.{seen-set, seen-all}
use Rattle.lg_io.proofs.memory.net.restart_all.Goals as goal

-- a door that begins anew has its whole script ahead
begun_anew : {P : Type 0} (due script : P → ℕ → Bool) (old new : MemoryDoor P) → door_script due new ≡ door_script script old
    → moments_ahead (door_clock new) ≡ moments_ahead (door_clock old) → door_ahead due new ≡ door_ahead script old
begun_anew due script old new visits moments = cc

pub loop-door-preserved : goal.loop-door-preserved
loop-door-preserved g c =
    let fits : c.loop-door.door-index < length c.loop-door.doors = omega arith in
    record {
      unused = All-same (IsUnusedDoor g.P.FaultPlan.faults) _ _ (take_more_set c.loop-door.doors c.loop-door.door-index c.restart.new.self fits)
          (All-push (IsUnusedDoor g.P.FaultPlan.faults) _ c.restart.new.self c.loop-door.invariant.unused (record {
            did_nothing = subst (λ o. IfSome o (λ d. d ≡ unused_door)) (sym c.restart.ensures.door) refl;
            read_nothing = subst (λ o. IfSome o (λ calls. calls ≡ [])) (sym c.restart.ensures.calls) refl;
            met_nothing = c.restart.ensures.faults;
            answered_nothing = c.restart.ensures.closed;
          }));
      ahead = seen-set _ _ c.loop-door.doors c.loop-door.door-index c.door-item.result c.restart.new.self fits
          (begun_anew g.P.FaultPlan.due g.P.FaultPlan.script (get_or c.loop-door.doors c.loop-door.door-index c.door-item.result) c.restart.new.self c.restart.ensures.due c.restart.ensures.moments) ∙ c.loop-door.invariant.ahead;
    }

pub returns-clause-unused : goal.returns-clause-unused
returns-clause-unused g c =
    All-same (IsUnusedDoor g.P.FaultPlan.faults) _ _ (sym (take_all c.loop-door.door-index c.loop-door.doors (omega arith))) c.loop-door.invariant.unused

pub returns-clause-ahead : goal.returns-clause-ahead
returns-clause-ahead g c = sym (seen-all _ _ c.loop-door.doors c.loop-door.door-index (omega arith)) ∙ c.loop-door.invariant.ahead
