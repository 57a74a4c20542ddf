use Rattle.std.proofs.Common.{Some, None, ap, ◌∙◌}
use Rattle.std.specs.Option.{option_and_then}
use Rattle.toml.specs.Data.{as_str}
use Rattle.toml.specs.View.{view}
use Rattle.lg_settings.specs.Reading.{some_text}
use Rattle.lg_settings.proofs.KeyLemmas.{absent_key, present_key}
use Rattle.lg_settings.proofs.ReadingLemmas.{gives, given, told_of}
use Rattle.lg_settings.proofs.keys.text.Goals as goal

pub returns-in-None : goal.returns-in-None
returns-in-None c =
    let a = c.args in
    gives _ _ (absent_key some_text None c.get.result a.name.now a.keys.now.entries c.get.ensures.value c.in-None.is)

pub returns-in_err-text_of-in-Some : goal.returns-in_err-text_of-in-Some
returns-in_err-text_of-in-Some c =
    let a = c.args in
    let has = present_key some_text None c.get.result a.name.now a.keys.now.entries c.in-Some.value c.get.ensures.value c.in-Some.is in
    told_of _ (as_str (view c.in-Some.value.now)) (λ text. Some (Some text)) _ _ has c.in_err-text_of-in-Some.ensures c.from_residual.ensures.1

pub returns-in_ok-text_of-in-Some : goal.returns-in_ok-text_of-in-Some
returns-in_ok-text_of-in-Some c =
    let a = c.args in
    let has = present_key some_text None c.get.result a.name.now a.keys.now.entries c.in-Some.value c.get.ensures.value c.in-Some.is in
    gives _ _ (has ∙ ap (option_and_then (λ text. Some (Some text))) (given _ _ c.in_ok-text_of-in-Some.ensures))
