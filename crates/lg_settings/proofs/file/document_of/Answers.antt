use Rattle.toml.specs.View.{table_view}
use Rattle.lg_settings.proofs.DocumentLemmas.{some_document, no_document, not_told}
use Rattle.lg_settings.proofs.file.document_of.Goals as goal

pub returns-in-Ok-clause-ok : goal.returns-in-Ok-clause-ok
returns-in-Ok-clause-ok c = some_document c.args.bytes.now (table_view c.in-Ok.document) c.in-Ok.ensures.ok

pub returns-in-Err-2-clause-err : goal.returns-in-Err-2-clause-err
returns-in-Err-2-clause-err c =
    no_document c.args.bytes.now (c.in-Err.ensures.refused (not_told c.is_memory.result c.if-is_memory.false c.is_memory.ensures))
