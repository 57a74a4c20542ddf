-- A file without bytes.
use Rattle.std.proofs.Common.{◌≡◌, [], Some, refl, ◌∙◌, ap}
use Rattle.std.specs.FinMap.{empty}
use Rattle.std.specs.Option.{option_and_then}
use Rattle.std.specs.Str.{chars, is_utf8}
use Rattle.toml.specs.Data.{no_members}
use Rattle.toml.proofs.OnLiterals.{toml_on_literals}
use Rattle.lg_calls.specs.Settings.{default_settings}
use Rattle.lg_settings.specs.Reading.{◌>>=◌, done, key}
use Rattle.lg_settings.specs.Scheduler.{scheduler}
use Rattle.lg_settings.specs.Sections.{section, sections}
use Rattle.lg_settings.specs.Settings.{document_of, settings_of}

no_document : document_of [] ≡ Some no_members
unfolding document_of is_utf8 chars toml_on_literals
no_document = refl

no_sections : sections no_members ≡ Some (default_settings, empty)
unfolding sections section scheduler ◌>>=◌ done key
no_sections = refl

pub empty_file : settings_of [] ≡ Some (default_settings, empty)
empty_file = ap (option_and_then sections) no_document ∙ no_sections
