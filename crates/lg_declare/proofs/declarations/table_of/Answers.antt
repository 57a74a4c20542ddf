use Rattle.lg_declare.proofs.DeclaringLemmas.{gives, no_memory, tells}
use Rattle.lg_declare.proofs.DocumentLemmas.{no_document, not_told, some_document}
use Rattle.lg_declare.proofs.declarations.table_of.Goals as goal

pub returns-in-Ok : goal.returns-in-Ok
returns-in-Ok c = gives _ _ (some_document _ _ c.in-Ok.ensures.ok)

pub returns-in-Err : goal.returns-in-Err
returns-in-Err c = no_memory _

pub returns-in-Err-2 : goal.returns-in-Err-2
returns-in-Err-2 c = tells _ _ (no_document _ (c.in-Err.ensures.refused (not_told c.is_memory.result c.if-is_memory.false c.is_memory.ensures)))
