use Rattle.lg_declare.proofs.PieceLemmas.{spelled-bytes}
use Rattle.lg_declare.proofs.TemplateLaws.{doubled}
use Rattle.lg_declare.proofs.laws.doubled_braces_are_braces.Goals as goal

pub returns : goal.returns
returns c = record { read = doubled; spelled = spelled-bytes }
