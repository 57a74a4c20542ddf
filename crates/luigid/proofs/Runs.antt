-- What a run of the daemon comes to, from its parts.
use Rattle.std.proofs.Common.{◌≡◌, ◌≢◌, ℕ, ◌<◌, ◌≤◌, List, [], ◌∷◌, map, length, get_or, refl, sym, ◌∙◌, subst, arith, All, Option, Some, None, IfSome, option_map, inr}
use Rattle.std.proofs.Math.ListN.{set}
use Rattle.lg_io.specs.Cause.{HasCause}
use Rattle.lg_io.specs.Clock.{ClockCall}
use Rattle.lg_io.specs.Door.{DoorTold, unused_door, HasNoLinkOut}
use Rattle.lg_io.specs.DoorSeen.{DoorSeen}
use Rattle.lg_io.specs.Net.{BindCall}
use Rattle.lg_io.specs.Tells.{TellsOn}
use Rattle.luigid.specs.declared.audit.LifeEnd.{LifeEnd}
use Rattle.luigid.specs.declared.audit.LifeEnd.TheVariants.{Stop, Full, Closed, Doors, Memory}
use Rattle.luigid.specs.declared.exit.Exit.{Exit}
use Rattle.luigid.specs.declared.exit.Exit.TheVariants.{BadWords, CannotListen}
use Rattle.lg_desk.specs.declared.journal.Entry.{Entry}
use Rattle.lg_calls.specs.declared.state.State.{State}
use Rattle.luigid.specs.Audit.{LifeTold, EndsLife}
use Rattle.luigid.proofs.Audits.{told_whole}
use Rattle.luigid.specs.Headline.{EndsBy, HasLane, first_state, Outside, IsRun, IsLine, IsUntouched, IsServedLife, ServedLife, HasBinding, exit_of, the_bind, unused}
use Rattle.lg_desk.specs.Journal.{NoneBehindEnd}
use Rattle.luigid.specs.Lane.{IsLane}

-- a list of one item
pub only_item : {A : Type 0} (xs : List A) (d : A) → 1 ≤ length xs → length xs < 2 → xs ≡ get_or xs 0 d ∷ []
only_item [] d some few = absurd (omega arith)
only_item (x ∷ []) d some few = refl
only_item (x ∷ y ∷ xs) d some few = absurd (omega arith)

-- what is seen of the one door, after it changed
pub only_door : {A B : Type 0} (f : A → B) (doors : List A) (door : A) → length doors ≡ 1 → map f (set doors 0 door) ≡ f door ∷ []
only_door f [] door one = absurd (omega arith)
only_door f (first ∷ []) door one = refl
only_door f (first ∷ second ∷ doors) door one = absurd (omega arith)

-- a life's end is no end of a run without a life
ends_life : (end : LifeEnd) → (exit_of end ≢ BadWords) × (exit_of end ≢ CannotListen)
ends_life Stop = ((λ e. cc), (λ e. cc))
ends_life Full = ((λ e. cc), (λ e. cc))
ends_life Closed = ((λ e. cc), (λ e. cc))
ends_life Doors = ((λ e. cc), (λ e. cc))
ends_life Memory = ((λ e. cc), (λ e. cc))

binding_of : (old new : Option (List BindCall)) (end : LifeEnd) → TellsOn old new (the_bind ∷ []) → HasBinding old new (exit_of end)
binding_of old new Stop told = told
binding_of old new Full told = told
binding_of old new Closed told = told
binding_of old new Doors told = told
binding_of old new Memory told = inr told

-- a run that served a life
pub run_served : (words : List (List ℕ)) (before after : Outside) (door : DoorSeen) (life : ServedLife) (exit : Exit)
    → IsLine words → TellsOn before.binds after.binds (the_bind ∷ []) → before.bind_faults ≤ after.bind_faults → (¬ (before.bind_faults < after.bind_faults))
    → after.doors ≡ door ∷ [] → IsServedLife before.lives after.lives door life → exit ≡ exit_of life.end
    → IsRun words before after exit
run_served words before after door life exit line told never_falls no_fault one_door served exit_is = record {
  line = ((λ bad. absurd ((ends_life life.end).0 (sym exit_is ∙ bad))), (λ not_line. absurd (not_line line)));
  binding = subst (HasBinding before.binds after.binds) (sym exit_is) (binding_of before.binds after.binds life.end told);
  cannot_listen = ((λ failed. absurd ((ends_life life.end).1 (sym exit_is ∙ failed))), (λ rose. absurd (no_fault rose)));
  never_falls = never_falls;
  life = Some life;
  lives = record { bound = told; door = door; one_door = one_door; served = served; exit_is = exit_is };
}

-- what an untouched door told, if its lane goes on telling
lane_of_unused : (base : State) (journal : List Entry) (end : LifeEnd) (first now : Option DoorTold) (before calls : Option (List ClockCall)) (m n : ℕ)
    → IfSome first (λ told. told ≡ unused_door) → IfSome before (λ c. c ≡ [])
    → HasLane base 0 end journal (record { door = first; faults = m; calls = before }) (record { door = now; faults = n; calls = calls })
    → HasLane base 0 end journal (unused (record { door = now; faults = n; calls = calls })) (record { door = now; faults = n; calls = calls })
lane_of_unused base journal end None now before calls m n was none lane = rw lane refl
lane_of_unused base journal end (Some old) now before calls m n was none lane =
    let told : now ≡ Some lane.new = lane.tells in
    let since : IsLane base journal 0 unused_door lane.new before calls lane.sessions =
    subst (λ d. IsLane base journal 0 d lane.new before calls lane.sessions) was lane.is_lane in
    rw told (record {
      new = lane.new;
      tells = refl;
      sessions = lane.sessions;
      is_lane = record {
        links = since.links;
        all_back = since.all_back;
        served = since.served;
        made = since.made;
        read = read_since before calls _ none since.read;
        none_behind = since.none_behind;
      };
      last = lane.last;
    }) where
      read_since : (before calls : Option (List ClockCall)) (items : List ClockCall) → IfSome before (λ c. c ≡ []) → TellsOn before calls items → TellsOn (option_map (λ _. []) calls) calls items
      read_since before None items none read = tt
      read_since None (Some new) items none read = absurd read
      read_since (Some c) (Some new) items none read = rw none at read

-- a life that was told from its beginning to its end was served
pub served_life : (base : State) (journal handed : List Entry) (end : LifeEnd) (began door : DoorSeen) (before during after : Option (List LifeTold))
    → base ≡ first_state → handed ≡ journal
    → TellsOn before during (record { base = base; end = None } ∷ []) → EndsLife handed end during after
    → EndsBy end journal → HasCause began.faults door.faults (end ≡ Doors) → NoneBehindEnd handed → All (λ (e : Entry). e.pass ≡ 0) journal → IsUntouched began → HasLane base 0 end journal began door
    → IsServedLife before after door (record { journal = handed; end = end })
served_life base journal handed end began door before during after base_is handed_is begun ended ends failed none_behind alone untouched lane = record {
  audited = subst (λ state. TellsOn before after (record { base = state; end = Some (handed, end) } ∷ [])) base_is (told_whole base handed end before during after begun ended);
  ends = rw handed_is ends;
  door_failed = rw untouched.unfailed at failed.rises;
  none_behind = none_behind;
  no_other = rw handed_is alone;
  lane = rw (← base_is, handed_is) (lane_of_unused base journal end began.door door.door began.calls door.calls began.faults door.faults untouched.unused untouched.uncalled lane);
}

-- an untouched door has no link out
pub untouched_all_back : (door : Option DoorTold) → IfSome door (λ told. told ≡ unused_door) → HasNoLinkOut door
untouched_all_back None unused = tt
untouched_all_back (Some told) unused = rw unused (omega arith)
