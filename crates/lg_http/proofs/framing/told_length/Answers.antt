use Rattle.std.proofs.Common.{arith}
use Rattle.lg_http.proofs.FieldLemmas.{length_told, one_counted, none_counted_tells, more_counted_tells}
use Rattle.lg_http.proofs.framing.told_length.Goals as goal

pub only_length-requires-clause-one : goal.only_length-requires-clause-one
only_length-requires-clause-one c = one_counted c.args.known.now _ c.requires.known c.in-1.is

pub only_length-requires-clause-told : goal.only_length-requires-clause-told
only_length-requires-clause-told c = length_told c.args.known.now _ c.requires.known

pub returns-in-0 : goal.returns-in-0
returns-in-0 c = none_counted_tells c.args.known.now _ c.requires.known c.in-0.is

pub returns-in_default : goal.returns-in_default
returns-in_default c = more_counted_tells c.args.known.now _ c.requires.known (λ e. omega (arith, e)) (λ e. omega (arith, e))
