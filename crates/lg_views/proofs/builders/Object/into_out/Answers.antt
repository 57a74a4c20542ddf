use Rattle.std.proofs.Common.{rules}
use Rattle.lg_json.specs.declared.out.Out.{the_lemmas}
use Rattle.lg_views.specs.Fields.{fields_in}
use Rattle.lg_views.proofs.builders.Object.into_out.Goals as goal

pub returns : goal.returns
unfolding fields_in
returns c = search (rules, the_lemmas)
