use Rattle.lg_declare.proofs.DeclaringLemmas.{gives, refuses}
use Rattle.lg_declare.proofs.LoopLemmas.{is_among_words}
use Rattle.lg_declare.specs.Reading.{known_key}
use Rattle.std.proofs.Common.{refl, sym, ◌∙◌}
use Rattle.lg_declare.proofs.values.known_key.Goals as goal

pub returns-then-is_known : goal.returns-then-is_known
unfolding known_key
returns-then-is_known c = rw (sym (c.is_known.ensures ∙ is_among_words c.args.known.now c.args.key.now) ∙ c.if-is_known.true) (gives _ _ refl)

pub returns-else-is_known : goal.returns-else-is_known
unfolding known_key
returns-else-is_known c = rw (sym (c.is_known.ensures ∙ is_among_words c.args.known.now c.args.key.now) ∙ c.if-is_known.false) (refuses _ _ _ c.unknown_key.ensures refl)
