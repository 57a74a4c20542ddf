use Rattle.std.proofs.Common.{sym, ◌∙◌}
use Rattle.lg_declare.proofs.WordLemmas.{named, unnamed}
use Rattle.lg_declare.proofs.words.is_name.Goals as goal

pub returns-in-Some : goal.returns-in-Some
returns-in-Some c = c.begins_name.ensures ∙ sym (named _ _ _ _ c.as_bytes.ensures.value c.in-Some.ensures.cases.0)

pub returns-in-None : goal.returns-in-None
returns-in-None c = sym (unnamed _ _ c.as_bytes.ensures.value c.in-None.ensures.cases)
