use Rattle.std.proofs.Common.{◌≡◌, None, option_map, ap, ◌∙◌, sym}
use Rattle.serde_json.specs.Find.{get_member}
use Rattle.serde_json.specs.View.{view, members_view}
use Rattle.serde_json.proofs.Views.{view-lookup}
use Rattle.lg_json.proofs.Removal.{get_member-without_other, members_view-remove_entry}
use Rattle.lg_json.proofs.fields.Fields.remove.Goals as goal

pub returns-clause-value : goal.returns-clause-value
returns-clause-value c = ap (option_map view) c.remove.ensures.value ∙ view-lookup c.args.name.now c.args.self.now.members.entries

pub returns-clause-taken : goal.returns-clause-taken
returns-clause-taken c =
    let name = c.args.name.now in
    let old = c.args.self.now.members.entries in
    let gone : get_member name (members_view c.remove.new.self.entries) ≡ None = sym (view-lookup name c.remove.new.self.entries) ∙ ap (option_map view) c.remove.ensures.updates.1 in
    let same = ap members_view c.remove.ensures.entries ∙ members_view-remove_entry name old (rw c.remove.ensures.entries at gone) in
    record { same = same; gone = gone; others = λ other apart. ap (get_member other) same ∙ get_member-without_other name other (members_view old) apart }
