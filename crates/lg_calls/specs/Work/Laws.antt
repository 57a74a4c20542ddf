-- What a worker's search comes to. This project's own.
use Rattle.std.specs.Prelude.{◌≡◌, false, IsTrue, List, ◌∷◌, ◌++◌, length, Contains}
use Rattle.lg_calls.specs.declared.methods.get_work.GetWork.{GetWork}
use Rattle.lg_calls.specs.declared.state.State.{State}
use Rattle.lg_calls.specs.Order.{all_pairs}
use Rattle.lg_calls.specs.Task.{Task}
use Rattle.lg_calls.specs.Work.Candidate.{is_candidate}
use Rattle.lg_calls.specs.Work.Rank.{outranks}
use Rattle.lg_calls.specs.Work.Reserved.{reserved}
use Rattle.lg_calls.specs.Work.Walk.{walk}

-- the same tasks, each before those that it outranks
pub record StandByRank (tasks ranked : List Task) : Type 0 where
  pub all_stay : (task : Task) → Contains tasks task → Contains ranked task
  pub no_others : (task : Task) → Contains ranked task → Contains tasks task
  pub as_many : length ranked ≡ length tasks
  pub in_order : IsTrue (all_pairs outranks ranked)

-- no task of a list can be given, each taken with what those before it reserve
abbrev pub HasNoCandidate : GetWork → State → List Task → Type 0
HasNoCandidate ask s tasks = (front : List Task) (task : Task) (rest : List Task)
    → tasks ≡ front ++ task ∷ rest → is_candidate ask s (reserved ask s front, task) ≡ false

-- a task of the walk can be given with what those before it reserve, and none of those before it can
pub record IsFirst (ask : GetWork) (s : State) (task : Task) : Type 0 where
  pub front : List Task
  pub rest : List Task
  pub in_walk : walk ask.worker s ≡ front ++ task ∷ rest
  pub candidate : IsTrue (is_candidate ask s (reserved ask s front, task))
  pub none_before : HasNoCandidate ask s front
