use Rattle.std.proofs.Common.{arith}
use Rattle.luigid.proofs.Audits.{kept_ended, some_life}
use Rattle.luigid.proofs.audit.memory.MemoryAuditAudit.ends.Goals as goal

pub returns-clause-told : goal.returns-clause-told
returns-clause-told c = kept_ended _ _ _ c.index_mut.result.now _ (omega (arith, some_life _ c.requires.open)) c.index_mut.ensures.value
