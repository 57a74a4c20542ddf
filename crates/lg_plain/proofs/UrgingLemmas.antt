-- The tasks of a state are taken out, raised, and put back.
use Rattle.std.proofs.Common.{◌≡◌, ℕ, ℤ, List, Result, Ok, Err, OnOk, ap, ◌∙◌}
use Rattle.lg_calls.specs.declared.state.State.{State}
use Rattle.lg_calls.specs.Raising.{raised}
use Rattle.lg_calls.specs.Task.{Task}

pub raised_back : {E : Type 0} (r : Result (Unit {0}) E) (s : State) (id : List ℕ) (p q : ℤ) (before after back : List Task)
    → q ≡ p → before ≡ s.tasks → back ≡ after → OnOk r (after ≡ raised q id before)
    → OnOk r (record s { tasks = back } ≡ record s { tasks = raised p id s.tasks })
raised_back (Ok u) s id p q before after back same is put done =
    ap (λ (tasks : List Task). record s { tasks = tasks }) (put ∙ done ∙ (λ i. raised (same i) id (is i)))
raised_back (Err e) s id p q before after back same is put done = tt
