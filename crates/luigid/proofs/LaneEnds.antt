-- How a lane ends, from what it served so far.
use Rattle.std.proofs.Common.{◌≡◌, ℕ, zero, suc, ◌<◌, true, false, List, [], refl, ap, arith, Option, Some, None, option_map}
use Rattle.lg_io.specs.Clock.{ClockCall}
use Rattle.lg_io.specs.Door.{AcceptKind, DoorTold, conn, accepted, handed_by}
use Rattle.luigid.specs.declared.audit.LifeEnd.{LifeEnd}
use Rattle.lg_desk.specs.declared.journal.Entry.{Entry}
use Rattle.lg_calls.specs.declared.state.State.{State}
use Rattle.luigid.specs.Headline.{HasLane, HasLast}
use Rattle.lg_desk.specs.Journal.{is_over}
use Rattle.luigid.proofs.Lanes.{SoFar}

-- a lane whose journal is over served a link
some_link : (connections : ℕ) (journal : List Entry) → (connections ≡ 0 → journal ≡ []) → is_over journal ≡ true → 0 < connections
some_link zero journal begun over =
    let empty : is_over journal ≡ false = ap is_over (begun refl) in
    absurd (cc)
some_link (suc n) journal begun over = omega arith

-- the lane ended as its journal is over
pub ends_over : (base : State) (journal : List Entry) (lane connections : ℕ) (first now : Option DoorTold) (before calls : Option (List ClockCall)) (m n : ℕ) (end : LifeEnd)
    → SoFar base journal lane connections first now before calls → (connections ≡ 0 → journal ≡ []) → is_over journal ≡ true
    → ((told : DoorTold) → told.last ≡ Some conn → HasLast end told)
    → HasLane base lane end journal (record { door = first; faults = m; calls = before }) (record { door = now; faults = n; calls = calls })
ends_over base journal lane connections None now before calls m n end so_far begun over last = so_far
ends_over base journal lane connections (Some old) now before calls m n end so_far begun over last = record {
  new = so_far.0;
  tells = so_far.1;
  sessions = so_far.2.sessions;
  is_lane = so_far.2.as_lane;
  last = last so_far.0 (so_far.2.last (some_link connections journal begun over));
}

-- the lane ended as its door handed out no link
pub ends_by_door : (base : State) (journal : List Entry) (lane connections : ℕ) (first door now : Option DoorTold) (before calls after : Option (List ClockCall)) (m n : ℕ) (end : LifeEnd) (kind : AcceptKind)
    → SoFar base journal lane connections first door before calls → handed_by kind ≡ 0
    → now ≡ option_map (accepted kind) door → after ≡ calls
    → ((told : DoorTold) → HasLast end (accepted kind told))
    → HasLane base lane end journal (record { door = first; faults = m; calls = before }) (record { door = now; faults = n; calls = after })
ends_by_door base journal lane connections None door now before calls after m n end kind so_far none now_is after_is last = rw (now_is, so_far) refl
ends_by_door base journal lane connections (Some old) door now before calls after m n end kind so_far none now_is after_is last =
    let told = so_far.0 in
    let lane' = so_far.2.as_lane in
    record {
      new = accepted kind told;
      tells = rw (now_is, so_far.1) refl;
      sessions = so_far.2.sessions;
      is_lane = record {
        links = lane'.links;
        all_back = omega (arith, lane'.all_back, none);
        served = lane'.served;
        made = lane'.made;
        read = rw after_is lane'.read;
        none_behind = lane'.none_behind;
      };
      last = last told;
    }
