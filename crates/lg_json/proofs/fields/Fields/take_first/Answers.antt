use Rattle.std.proofs.Common.{◌≡◌, None, option_map, string_bytes, refl, ap, sym, ◌∙◌}
use Rattle.serde_json.specs.Find.{get_member}
use Rattle.serde_json.specs.View.{view, members_view}
use Rattle.serde_json.proofs.Views.{view-lookup}
use Rattle.lg_json.proofs.Removal.{first_taken, below_names}
use Rattle.lg_json.proofs.fields.Fields.take_first.Goals as goal

pub returns-clause-taken : goal.returns-clause-taken
returns-clause-taken c =
    let name = string_bytes c.in_ok-name.name in
    let left = c.pop_first.new.self.entries in
    let gone : get_member name (members_view left) ≡ None = sym (view-lookup name left) ∙ ap (option_map view) c.in_ok-name.ensures.updates.1 in
    rw (c.from.ensures, c.from_string.ensures.same, c.in_ok-name.ensures.removal) (first_taken name (view c.in_ok-name.value) (members_view left) gone)

pub returns-clause-members : goal.returns-clause-members
returns-clause-members c = rw (c.from.ensures, c.from_string.ensures.same, c.in_ok-name.ensures.removal) refl

pub returns-clause-least : goal.returns-clause-least
returns-clause-least c = rw (c.from.ensures, c.from_string.ensures.same) (below_names c.in_ok-name.name c.pop_first.new.self.entries c.in_ok-name.ensures.all_above)
