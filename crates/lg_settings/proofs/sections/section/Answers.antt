use Rattle.std.proofs.Common.{Some, None, option_map, sym, ap, refl, ◌∙◌}
use Rattle.toml.specs.View.{view, table_view}
use Rattle.lg_settings.proofs.KeyLemmas.{absent_member, present_member}
use Rattle.lg_settings.proofs.SectionLemmas.{no_keys_in, some_keys_in}
use Rattle.lg_settings.proofs.sections.section.Goals as goal

pub returns-in-None-clause-ok : goal.returns-in-None-clause-ok
returns-in-None-clause-ok c =
    let a = c.args in
    no_keys_in a.name.now (table_view a.document.now) (absent_member c.get.result a.name.now a.document.now.entries c.get.ensures.value c.in-None.is)

pub returns-in-Some-as_table-clause-ok : goal.returns-in-Some-as_table-clause-ok
returns-in-Some-as_table-clause-ok c =
    let a = c.args in
    let has = present_member c.get.result a.name.now a.document.now.entries c.in-Some.value c.get.ensures.value c.in-Some.is in
    let keys = sym c.as_table.ensures ∙ ap (option_map (λ table. table_view table.now)) c.in-Some-as_table.is in
    some_keys_in a.name.now (table_view a.document.now) (view c.in-Some.value.now) (Some (table_view c.in-Some-as_table.keys.now)) has keys

pub returns-in-None-as_table-clause-err : goal.returns-in-None-as_table-clause-err
returns-in-None-as_table-clause-err c =
    let a = c.args in
    let has = present_member c.get.result a.name.now a.document.now.entries c.in-Some.value c.get.ensures.value c.in-Some.is in
    let none = sym c.as_table.ensures ∙ ap (option_map (λ table. table_view table.now)) c.in-None-as_table.is in
    (refl, some_keys_in a.name.now (table_view a.document.now) (view c.in-Some.value.now) None has none)
