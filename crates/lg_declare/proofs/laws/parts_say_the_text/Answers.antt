use Rattle.lg_declare.proofs.TemplateLaws.{parts_say}
use Rattle.lg_declare.proofs.laws.parts_say_the_text.Goals as goal

pub returns : goal.returns
returns c = parts_say
