-- Settings files. This project's own, after Luigi 3's configuration, as TOML 1.1.
use Rattle.std.specs.Prelude.{ℕ, List, Option, None, if◌then◌else◌, option_and_then}
use Rattle.std.specs.Str.{is_utf8}
use Rattle.toml.specs.Data.{Members}
use Rattle.toml.specs.Parse.{parse_document}
use Rattle.lg_base.specs.Amounts.{AmountsByName}
use Rattle.lg_calls.specs.declared.settings.Settings.{Settings}
use Rattle.lg_settings.specs.Sections.{sections}

-- the table that bytes write; none where they aren't UTF-8, or no TOML
unfoldable pub document_of : List ℕ → Option Members
document_of bytes = if is_utf8 bytes then parse_document bytes else None

-- the settings and the limits of a settings file; none where the bytes are no settings file
abbrev pub settings_of : List ℕ → Option (Settings × AmountsByName)
settings_of bytes = option_and_then sections (document_of bytes)
