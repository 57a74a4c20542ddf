-- What is said of bytes that gave no settings. This project's own.
use Rattle.std.specs.Prelude.{ℕ, List, codes}
use Rattle.lg_settings.specs.declared.fault.SettingsFault.{SettingsFault}
use Rattle.lg_settings.specs.declared.fault.SettingsFault.TheVariants.{NotSettings, NoMemory}

abbrev pub fault_text : SettingsFault → List ℕ
fault_text NotSettings = codes "no settings file"
fault_text NoMemory = codes "no memory"
