-- No work is given while the scheduler is paused. This project's own, after Luigi's central scheduler.
use Rattle.std.specs.Prelude.{Bool, if◌then◌else◌, codes, ℕ, List}
use Rattle.lg_json.specs.Tree.{Tree, truth, object, no_members, member}
use Rattle.lg_calls.specs.declared.state.State.{State}

-- the scheduler is paused or goes on, where the settings allow it
abbrev pub set_paused : Bool → State → State
set_paused paused s = if s.settings.pause_enabled then record s { paused = paused } else s

-- what is replied to a question that is answered by yes or no
abbrev pub yes_or_no : List ℕ → Bool → Tree
yes_or_no name answer = object (member name (truth answer) no_members)
