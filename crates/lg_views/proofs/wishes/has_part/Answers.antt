use Rattle.std.proofs.lemmas.Str.Pattern.{contains_text}
use Rattle.lg_views.proofs.PartLemmas.{answer-has}
use Rattle.lg_views.proofs.wishes.has_part.Goals as goal

pub returns : goal.returns
returns c = answer-has c.args.part.now c.args.text.now c.contains.result (contains_text c.contains.result c.args.part.now c.args.text.now c.contains.ensures.cases)
