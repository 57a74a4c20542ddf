-- The state that the scheduler over lists keeps.
use Rattle.lg_calls.specs.declared.state.State.{State}
use Rattle.lg_plain.specs.declared.plain.Plain.{Plain}

abbrev pub state_of : Plain → State
state_of plain = plain.state
