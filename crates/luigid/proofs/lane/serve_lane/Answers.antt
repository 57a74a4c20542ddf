use Rattle.std.proofs.Common.{◌≡◌, Bool, refl, sym, ◌∙◌, arith, Option, ℕ}
use Rattle.std.proofs.lemmas.List.Elements.{All-nil}
use Rattle.lg_io.specs.Door.{DoorTold, closed, failed, no_memory}
use Rattle.lg_io.specs.Rest.{of_door}
use Rattle.luigid.specs.declared.audit.LifeEnd.TheVariants.{Stop, Full, Closed, Doors, Memory}
use Rattle.lg_desk.specs.declared.journal.Entry.{Entry}
use Rattle.luigid.proofs.Faults.{unmoved, nothing_failed, failed_at_last}
use Rattle.lg_desk.proofs.CallerLemmas.{alone_more, stop_is_over}
use Rattle.luigid.proofs.Lanes.{so_far_nothing, so_far_more, none_out}
use Rattle.luigid.proofs.LaneEnds.{ends_over, ends_by_door}
use Rattle.luigid.proofs.lane.serve_lane.Goals as goal

-- the doors of equal rests are equal
same_door : (x y : Option DoorTold) (m n : ℕ) (b d : Bool) → of_door x m b ≡ of_door y n d → x ≡ y
same_door x y m n b d same = cc

-- and so are their faults
same_faults : (x y : Option DoorTold) (m n : ℕ) (b d : Bool) → of_door x m b ≡ of_door y n d → m ≡ n
same_faults x y m n b d same = cc

pub loop-connection-init : goal.loop-connection-init
loop-connection-init g c = record {
  begun = λ none. c.requires.begun;
  replayed = rw c.requires.begun refl;
  faults = refl;
  alone = rw c.requires.begun (All-nil (λ (e : Entry). e.pass ≡ c.args.lane));
  so_far = so_far_nothing _ _ _ _ _ c.requires.begun;
}

pub loop-connection-preserved : goal.loop-connection-preserved
loop-connection-preserved g c =
    let laws = g.met.D.Door g.world.𝓛 g.world.𝓜 g.world.𝓡 ((λ s x. x), (λ x. x), (λ x. x), λ x. x) in
    let before = c.loop-connection.invariant in
    let rest = sym (laws.clock_rest c.serve_connection.new.clock) ∙ c.serve_connection.ensures.rest ∙ laws.clock_rest c.next_link.new.door in
    let kept = same_door _ _ _ _ _ _ rest ∙ c.in-Conn.ensures.told in
    record {
      begun = λ none. absurd (omega (arith, none));
      replayed = c.serve_connection.ensures.replayed _ before.replayed;
      faults = c.done.ensures.faults ∙ same_faults _ _ _ _ _ _ rest ∙ unmoved _ _ _ c.in-Conn.ensures.cause (λ failed. absurd (cc)) ∙ before.faults;
      alone = alone_more _ _ _ before.alone c.serve_connection.ensures.goes_on;
      so_far = so_far_more _ _ _ _ _ _ _ _ _ _ _ _ _ _ _ _ before.so_far (sym c.is_over.ensures ∙ c.if-is_over.false) before.alone c.in-Conn.ensures.fresh c.serve_connection.ensures.goes_on
          c.in-Conn.ensures.calls (c.serve_connection.ensures.serves _ before.replayed) kept c.done.ensures.told c.done.ensures.calls;
    }

pub returns-then-is_stopped-clause-served : goal.returns-then-is_stopped-clause-served
returns-then-is_stopped-clause-served g c =
    let before = c.loop-connection.invariant in
    ends_over _ _ _ _ _ _ _ _ _ _ Stop before.so_far before.begun (stop_is_over c.loop-connection.life.journal (sym c.is_stopped.ensures ∙ c.if-is_stopped.true)) (λ told last. last)

pub returns-then-is_over-clause-served : goal.returns-then-is_over-clause-served
returns-then-is_over-clause-served g c =
    let before = c.loop-connection.invariant in
    ends_over _ _ _ _ _ _ _ _ _ _ Full before.so_far before.begun (sym c.is_over.ensures ∙ c.if-is_over.true) (λ told last. last)

pub returns-in-Closed-clause-served : goal.returns-in-Closed-clause-served
returns-in-Closed-clause-served g c =
    ends_by_door _ _ _ _ _ _ _ _ _ _ _ _ Closed closed c.loop-connection.invariant.so_far refl c.in-Closed.ensures.told c.in-Closed.ensures.calls (λ told. refl)

pub returns-in-Failed-clause-served : goal.returns-in-Failed-clause-served
returns-in-Failed-clause-served g c =
    ends_by_door _ _ _ _ _ _ _ _ _ _ _ _ Doors failed c.loop-connection.invariant.so_far refl c.in-Failed.ensures.told c.in-Failed.ensures.calls (λ told. refl)

pub returns-in-NoMemory-clause-served : goal.returns-in-NoMemory-clause-served
returns-in-NoMemory-clause-served g c =
    ends_by_door _ _ _ _ _ _ _ _ _ _ _ _ Memory no_memory c.loop-connection.invariant.so_far refl c.in-NoMemory.ensures.told c.in-NoMemory.ensures.calls (λ told. refl)

pub next_link-requires-clause-all_back : goal.next_link-requires-clause-all_back
next_link-requires-clause-all_back g c = λ κs outlives. none_out _ _ _ _ _ _ _ _ c.loop-connection.invariant.so_far c.requires.all_back

pub returns-then-is_stopped-clause-failed : goal.returns-then-is_stopped-clause-failed
returns-then-is_stopped-clause-failed g c = nothing_failed _ _ _ c.loop-connection.invariant.faults (λ it. cc)

pub returns-then-is_over-clause-failed : goal.returns-then-is_over-clause-failed
returns-then-is_over-clause-failed g c = nothing_failed _ _ _ c.loop-connection.invariant.faults (λ it. cc)

pub returns-in-Closed-clause-failed : goal.returns-in-Closed-clause-failed
returns-in-Closed-clause-failed g c =
    nothing_failed _ _ _ (unmoved _ _ _ c.in-Closed.ensures.cause (λ failed. absurd (cc)) ∙ c.loop-connection.invariant.faults) (λ it. cc)

pub returns-in-Failed-clause-failed : goal.returns-in-Failed-clause-failed
returns-in-Failed-clause-failed g c = failed_at_last _ _ _ _ _ c.loop-connection.invariant.faults c.in-Failed.ensures.cause refl refl

pub returns-in-NoMemory-clause-failed : goal.returns-in-NoMemory-clause-failed
returns-in-NoMemory-clause-failed g c =
    nothing_failed _ _ _ (unmoved _ _ _ c.in-NoMemory.ensures.cause (λ failed. absurd (cc)) ∙ c.loop-connection.invariant.faults) (λ it. cc)
