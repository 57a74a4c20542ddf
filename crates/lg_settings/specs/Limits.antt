-- The section `[resources]`: names with limits. This project's own, after Luigi 3's configuration.
use Rattle.std.specs.Prelude.{Some, option_and_then}
use Rattle.std.specs.FinMap.{empty, insert}
use Rattle.toml.specs.Data.{no_members, member}
use Rattle.lg_base.specs.Amounts.{AmountsByName}
use Rattle.lg_settings.specs.Numbers.{amount, number_of}
use Rattle.lg_settings.specs.Reading.{Reading}

-- the limits, and that of each key; none where one is no amount
abbrev pub limits_from : AmountsByName → Reading AmountsByName
limits_from limits no_members = Some limits
limits_from limits (member name value later) =
    option_and_then (λ limit. limits_from (insert limits name limit) later) (number_of amount value)

-- each key is a name, and its value the limit
abbrev pub limits : Reading AmountsByName
limits = limits_from empty
