use Rattle.lg_declare.proofs.TemplateLaws.{said_parts}
use Rattle.lg_declare.proofs.laws.said_parts_are_read.Goals as goal

pub returns : goal.returns
returns c = said_parts
