-- What an audit in memory tells, from what it keeps. This project's own.
use Rattle.luigid.specs.declared.audit.memory.AuditedLife.{AuditedLife}
use Rattle.luigid.specs.Audit.{LifeTold}

-- a life, as it is told
abbrev pub life_told : AuditedLife → LifeTold
life_told life = record { base = life.base; end = life.end }
