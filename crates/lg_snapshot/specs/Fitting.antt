-- What the types of values bound, beyond what memory holds of each tree. This project's own.
use Rattle.std.specs.FinMap.{entries}
use Rattle.std.specs.Int.{w64}
use Rattle.std.specs.Prelude.{◌<◌, ◌^◌, All, FitsSigned, IfSome}
use Rattle.lg_base.specs.Amounts.{AmountsByName}
use Rattle.lg_calls.specs.declared.info.Info.{Info}
use Rattle.lg_calls.specs.declared.info.Info.TheVariants as I
use Rattle.lg_calls.specs.declared.worker.WorkerRec.{WorkerRec}
use Rattle.lg_calls.specs.Task.{Task}
use Rattle.lg_json.specs.Tree.{members_of}
use Rattle.lg_snapshot.specs.Holding.{MembersAreHeld}
use Rattle.lg_snapshot.specs.Records.{Fields}

-- memory holds each of the fields
abbrev pub FieldsAreHeld : Fields → Type 0
FieldsAreHeld fields = MembersAreHeld (members_of fields)

-- each amount is below 2^32
abbrev pub AreAmounts : AmountsByName → Type 0
AreAmounts amounts = All (λ entry. entry.1 < 2 ^ 32) (entries amounts)

-- a number that is told has 64 bits with a sign
abbrev pub IsSignedInfo : Info → Type 0
IsSignedInfo (I.Text text) = Unit {0}
IsSignedInfo (I.Number n) = FitsSigned w64 n
IsSignedInfo (I.Truth b) = Unit {0}
IsSignedInfo I.Null = Unit {0}

-- each number that a worker tells has 64 bits with a sign
abbrev pub WorkerFits : WorkerRec → Type 0
WorkerFits worker = All (λ pair. IsSignedInfo pair.1) worker.info

-- a task's priority and progress have 64 bits with a sign, and its resources are amounts
pub record TaskFits (task : Task) : Type 0 where
  pub priority : FitsSigned w64 task.priority
  pub progress : IfSome task.progress (FitsSigned w64)
  pub resources : AreAmounts task.resources
