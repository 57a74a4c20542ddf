-- The sections of a settings file. This project's own, after Luigi 3's configuration.
use Rattle.std.specs.Prelude.{ℕ, List, codes, Option, Some, None, option_and_then, String}
use Rattle.std.specs.Borrow.{Bor}
use Rattle.std.specs.BTreeMap.{BTreeMap}
use Rattle.std.specs.declared.alloc.Global.{Global}
use Rattle.toml.specs.View.{table_view}
use Rattle.toml.specs.declared.value.Value.{Value}
use Rattle.toml.specs.Data.{Data, Members, no_members, as_table, get_member}
use Rattle.lg_base.specs.Amounts.{AmountsByName}
use Rattle.lg_calls.specs.declared.settings.Settings.{Settings}
use Rattle.lg_settings.specs.Limits.{limits}
use Rattle.lg_settings.specs.Reading.{Reading, ◌>>=◌, done, set_or}
use Rattle.lg_settings.specs.Scheduler.{scheduler}

-- the keys of a section: those of its table, and none where it is absent
abbrev pub keys_in : Option Data → Option Members
keys_in section = set_or as_table no_members section

-- the keys of a table that was found, or none
abbrev pub keys_of : Option (Bor (BTreeMap (String Global) Value)) → Members
keys_of None = no_members
keys_of (Some table) = table_view table.now

-- what is made of the keys of a section; none where the section is no table
unfoldable pub section : {A : Type 0} → List ℕ → Reading A → Reading A
section name reading document = option_and_then reading (keys_in (get_member name document))

-- nothing is read
abbrev pub nothing : Reading (Unit {0})
nothing = done tt

-- a document with settings and limits; the sections of the worker are only looked at for being tables
unfoldable pub sections : Reading (Settings × AmountsByName)
sections =
    section (codes "scheduler") scheduler >>= λ settings.
    section (codes "resources") limits >>= λ limits.
    section (codes "worker") nothing >>= λ worker.
    section (codes "retcode") nothing >>= λ retcode.
    done (settings, limits)
