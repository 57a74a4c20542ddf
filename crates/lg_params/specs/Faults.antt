-- Why a text gives no value, in words. This project's own.
use Rattle.std.specs.Prelude.{ℕ, List, codes}
use Rattle.lg_params.specs.declared.fault.ReadFault.{ReadFault}
use Rattle.lg_params.specs.declared.fault.ReadFault.TheVariants.{BadText, NotAChoice, OutOfRange, NoMemory}

abbrev pub fault_text : ReadFault → List ℕ
fault_text BadText = codes "a text of another kind"
fault_text NotAChoice = codes "a text that is no choice"
fault_text OutOfRange = codes "a number out of range"
fault_text NoMemory = codes "no memory"
