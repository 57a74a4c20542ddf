-- The section `[scheduler]` without keys.
use Rattle.std.proofs.Common.{◌≡◌, Some, refl}
use Rattle.toml.specs.Data.{no_members}
use Rattle.lg_calls.specs.Settings.{default_settings}
use Rattle.lg_settings.specs.Reading.{◌>>=◌, done, key}
use Rattle.lg_settings.specs.Scheduler.{scheduler}

pub no_keys : scheduler no_members ≡ Some default_settings
unfolding scheduler ◌>>=◌ done key
no_keys = refl
