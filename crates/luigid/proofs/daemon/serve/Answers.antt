use Rattle.std.proofs.Common.{◌≡◌, List, ◌⊎◌, inl, inr, Option, Ok, Err, Result}
use Rattle.lg_io.specs.declared.net.BindFault.{BindFault}
use Rattle.lg_io.specs.declared.net.BindFault.TheVariants.{NoMemory}
use Rattle.lg_io.specs.Net.{BindCall}
use Rattle.lg_io.specs.Tells.{TellsOn}
use Rattle.luigid.proofs.Runs.{run_served, only_door}
use Rattle.luigid.proofs.daemon.serve.Goals as goal

-- where the doors were bound the call was made
was_called : (old new : Option (List BindCall)) (calls : List BindCall) (unit : Unit {0})
    → ((◌≡◌ {A = Result (Unit {0}) BindFault} (Ok unit) (Err NoMemory)) × (new ≡ old)) ⊎ TellsOn old new calls → TellsOn old new calls
was_called old new calls unit (inl without) = let differ = without.0 in absurd (cc)
was_called old new calls unit (inr told) = told

pub returns-in-Ok-serve_life-clause-run : goal.returns-in-Ok-serve_life-clause-run
returns-in-Ok-serve_life-clause-run g c words line =
    run_served _ _ _ _ record { journal = c.in-Ok-serve_life.ensures.ok.0; end = c.in-Ok-serve_life.end } _
    line (was_called _ _ _ _ c.in-Ok.ensures.told) c.in-Ok.ensures.cause.never_falls (λ rose. let failed = c.in-Ok.ensures.cause.rises.1 rose in cc)
    (only_door _ _ _ c.in-Ok.ensures.one) c.in-Ok-serve_life.ensures.ok.1 c.from.ensures
