-- The text of a refused split. This project's own.
use Rattle.std.specs.Prelude.{List, ℕ, codes}
use Rattle.lg_turn.specs.declared.fault.TurnFault.{TurnFault}
use Rattle.lg_turn.specs.declared.fault.TurnFault.TheVariants.{Many, Spent}

abbrev pub fault_text : TurnFault → List ℕ
fault_text Many = codes "as many passes are out as there are callers"
fault_text Spent = codes "no numbers of passes are left"
