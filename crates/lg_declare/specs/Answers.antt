-- What a reading of a template answers. This project's own.
use Rattle.std.specs.Prelude.{◌≡◌, List, Option, Some, None, Result, Ok, Err}
use Rattle.lg_declare.specs.Template.{Part}
use Rattle.lg_declare.specs.declared.fault.TemplateFault.{TemplateFault}
use Rattle.lg_declare.specs.declared.fault.TemplateFault.TheVariants.{BadTemplate, NoMemory}

-- the parts that are due, or none where none are; but memory may run out before
abbrev pub Gives : Result (List Part) TemplateFault → Option (List Part) → Type 0
Gives (Ok parts) due = due ≡ Some parts
Gives (Err BadTemplate) due = due ≡ None
Gives (Err NoMemory) due = Unit {0}
