use Rattle.std.proofs.Common.{refl}
use Rattle.std.proofs.lemmas.List.{map_push}
use Rattle.lg_views.specs.Fields.{fields_in}
use Rattle.lg_views.proofs.builders.Object.put.Goals as goal

pub returns : goal.returns
unfolding fields_in
returns g c = rw (c.in_ok-push.ensures.items, map_push, c.in_ok-out.ensures, c.from-name.ensures, c.in_ok-copied.ensures) refl
