-- The life of a task as its failures see it. This project's own.
use Rattle.std.specs.Prelude.{if◌then◌else◌, Bool, true, false, List, [], ◌∷◌, fold, slice_get}
use Rattle.std.specs.List.{list_any}
use Rattle.lg_base.specs.declared.moment.Moment.{Moment}
use Rattle.lg_retry.specs.declared.policy.Policy.{Policy}
use Rattle.lg_retry.specs.Failures.{History, no_failures, add_failure}

-- the task fails at a moment, or its failures are forgotten
pub data Event : Type 0 where
  Fails : Moment → Event
  Forgets : Event

abbrev pub is_forgetting : Event → Bool
is_forgetting (Fails moment) = false
is_forgetting Forgets = true

-- the history behind one event more
abbrev pub history_after_one : Policy → History → Event → History
history_after_one policy history (Fails now) = add_failure history now policy
history_after_one policy history Forgets = no_failures

-- the history behind a life under one policy
abbrev pub history_after : Policy → List Event → History
history_after policy life = fold (history_after_one policy) no_failures life

-- the moments of the failures behind which none was forgotten
abbrev pub since_forgotten : List Event → List Moment
since_forgotten [] = []
since_forgotten (Forgets ∷ later) = since_forgotten later
since_forgotten (Fails moment ∷ later) =
    if list_any is_forgetting later then since_forgotten later else moment ∷ since_forgotten later

-- the history of these failures, of which nothing was dropped
abbrev pub whole_history : List Moment → History
whole_history moments = record { first = slice_get moments 0; moments = moments }
