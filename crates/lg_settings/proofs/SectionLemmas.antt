-- What is read of a section.
use Rattle.std.proofs.Common.{◌≡◌, ℕ, List, Option, Some, None, Result, Ok, refl, ap, ◌∙◌}
use Rattle.std.specs.Borrow.{Bor}
use Rattle.std.specs.BTreeMap.{BTreeMap}
use Rattle.std.specs.Prelude.{String}
use Rattle.std.specs.declared.alloc.Global.{Global}
use Rattle.toml.specs.Data.{Data, Members, no_members, as_table, get_member}
use Rattle.toml.specs.View.{table_view}
use Rattle.toml.specs.declared.value.Value.{Value}
use Rattle.lg_settings.proofs.ReadingLemmas.{gives}
use Rattle.lg_settings.specs.Reading.{Reading, done, IsDue, Answers}
use Rattle.lg_settings.specs.Sections.{keys_in, keys_of, section, nothing}
use Rattle.lg_settings.specs.declared.fault.SettingsFault.{SettingsFault}
use Rattle.lg_settings.specs.declared.fault.SettingsFault.TheVariants.{NotSettings}

-- what is read of the keys of a section
pub section_answers : {A : Type 0} (name : List ℕ) (reading : Reading A) (document keys : Members) (result : Result A SettingsFault)
    → keys_in (get_member name document) ≡ Some keys → Answers (reading keys) result → Answers (section name reading document) result
unfolding section
section_answers name reading document keys result is rest = rw is rest

-- a section that is no table
pub no_section : {A : Type 0} (name : List ℕ) (reading : Reading A) (document : Members) (fault : SettingsFault)
    → (fault ≡ NotSettings) × (keys_in (get_member name document) ≡ None) → IsDue (section name reading document) fault
unfolding section
no_section name reading document fault is = rw (is.0, is.1) refl

-- a section of which nothing is read
pub section_is_there : (name : List ℕ) (document keys : Members) → keys_in (get_member name document) ≡ Some keys
    → Answers (section name nothing document) (Ok tt)
unfolding done
section_is_there name document keys is = section_answers name nothing document keys (Ok tt) is (gives (Some tt) tt refl)

-- a section that was found, and one that is absent
pub section_found : {A : Type 0} (name : List ℕ) (reading : Reading A) (document : Members) (result : Result A SettingsFault)
    (found : Option (Bor (BTreeMap (String Global) Value))) (keys : Bor (BTreeMap (String Global) Value))
    → keys_in (get_member name document) ≡ Some (keys_of found) → found ≡ Some keys → Answers (reading (table_view keys.now)) result
    → Answers (section name reading document) result
section_found name reading document result found keys is there rest =
    section_answers name reading document (table_view keys.now) result (is ∙ ap (λ table. Some (keys_of table)) there) rest

pub section_absent : {A : Type 0} (name : List ℕ) (reading : Reading A) (document : Members) (result : Result A SettingsFault)
    (found : Option (Bor (BTreeMap (String Global) Value)))
    → keys_in (get_member name document) ≡ Some (keys_of found) → found ≡ None → Answers (reading no_members) result
    → Answers (section name reading document) result
section_absent name reading document result found is absent rest =
    section_answers name reading document no_members result (is ∙ ap (λ table. Some (keys_of table)) absent) rest

-- what has the name of a section, and whether it is a table
pub no_keys_in : (name : List ℕ) (document : Members) → get_member name document ≡ None → keys_in (get_member name document) ≡ Some no_members
no_keys_in name document none = ap keys_in none

pub some_keys_in : (name : List ℕ) (document : Members) (value : Data) (keys : Option Members) → get_member name document ≡ Some value → as_table value ≡ keys
    → keys_in (get_member name document) ≡ keys
some_keys_in name document value keys is table = ap keys_in is ∙ table
