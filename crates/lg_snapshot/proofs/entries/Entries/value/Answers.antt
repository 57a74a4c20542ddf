use Rattle.std.proofs.Common.{◌≡◌, true, false, sym, ap, ◌∙◌}
use Rattle.std.specs.Str.{bytes_eq}
use Rattle.lg_snapshot.proofs.ReadingLemmas.{none_taken, named_taken, other_taken}
use Rattle.lg_snapshot.proofs.entries.Entries.value.Goals as goal

pub returns-in_default : goal.returns-in_default
returns-in_default c = none_taken _ _ _ c.in_default.ensures.none.0

pub returns-then-eq : goal.returns-then-eq
returns-then-eq c =
    let same : bytes_eq c.in-Some.found c.args.name.now ≡ true = ap (λ t. bytes_eq t c.args.name.now) (sym c.as_str.ensures.same) ∙ (sym c.eq.ensures ∙ c.if-eq.true) in
    named_taken _ c.in-Some.found _ _ c.in-Some.value c.in-Some.ensures.members same

pub returns : goal.returns
returns c =
    let differs : bytes_eq c.in-Some.found c.args.name.now ≡ false = ap (λ t. bytes_eq t c.args.name.now) (sym c.as_str.ensures.same) ∙ (sym c.eq.ensures ∙ c.if-eq.false) in
    other_taken _ c.in-Some.found _ _ c.in-Some.value c.in-Some.ensures.members differs
