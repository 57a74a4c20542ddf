-- What a fault of an aside is to a save. This project's own.
use Rattle.lg_snapshot.specs.declared.fault.SaveFault.{SaveFault}
use Rattle.lg_snapshot.specs.declared.fault.SaveFault.TheVariants as saving
use Rattle.lg_target.specs.declared.fault.AsideFault.{AsideFault}
use Rattle.lg_target.specs.declared.fault.AsideFault.TheVariants as beginning

abbrev pub save_fault : AsideFault → SaveFault
save_fault beginning.Files = saving.Files
save_fault beginning.NoMemory = saving.NoMemory
