-- How the outcome of a step is told at a desk. This project's own.
use Rattle.std.specs.Prelude.{Result, Ok, Err}
use Rattle.lg_calls.specs.declared.engine.Reply.{Reply}
use Rattle.lg_calls.specs.declared.engine.StepFault.{StepFault}
use Rattle.lg_calls.specs.declared.engine.StepFault.TheVariants.{Full, NoMemory}
use Rattle.lg_desk.specs.declared.fault.DeskFault.{DeskFault}
use Rattle.lg_desk.specs.declared.fault.DeskFault.TheVariants.{Full as found_full, NoMemory as out_of_memory}

abbrev pub desk_fault : StepFault → DeskFault
desk_fault (Full tasks) = found_full tasks
desk_fault NoMemory = out_of_memory

-- the answer of a step, as a desk gives it
abbrev pub told_of : Result Reply StepFault → Result Reply DeskFault
told_of (Ok reply) = Ok reply
told_of (Err fault) = Err (desk_fault fault)
