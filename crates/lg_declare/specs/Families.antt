-- The families of a declaration. This project's own.
use Rattle.std.specs.Prelude.{ℕ, if◌then◌else◌, List, [], codes, Option, Some, None, Ok, Err}
use Rattle.std.specs.Str.{is_utf8}
use Rattle.toml.specs.Data.{Data, Members, get, as_table, table}
use Rattle.toml.specs.Parse.{parse_document}
use Rattle.lg_declare.specs.Commands.{command_in, outputs_in, external_in}
use Rattle.lg_declare.specs.Keys.{family_keys, top_keys, is_name}
use Rattle.lg_declare.specs.Parameters.{parameters_in}
use Rattle.lg_declare.specs.Reading.{Read, ◌>>=◌, right_kind, ensured, read_or, each_member, only_keys}
use Rattle.lg_declare.specs.Requirements.{requires_in}
use Rattle.lg_declare.specs.Terms.{terms_in}
use Rattle.lg_declare.specs.declared.family.Family.{Family}
use Rattle.lg_declare.specs.declared.family.Parameter.{Parameter}
use Rattle.lg_declare.specs.declared.terms.Terms.{Terms}
use Rattle.lg_declare.specs.declared.families.Work.{Work}
use Rattle.lg_declare.specs.declared.declare_fault.DeclareFault.TheVariants.{NotToml}

-- The keys of a family in their order. Each may look at the keys behind it, whose own faults come later: a command may
-- use the parameters, and a requirement those of another family.
unfoldable pub work_in : Data → Data → Read Work
work_in families tree =
    command_in families tree >>= λ command.
    outputs_in tree >>= λ outputs.
    external_in tree >>= λ external.
    requires_in families tree >>= λ requirements.
    Ok (record { command = command; outputs = outputs; external = external; requirements = requirements })

abbrev pub family_with : List ℕ → Work → Terms → List Parameter → Family
family_with name work terms params = record {
  name = name;
  command = work.command;
  outputs = work.outputs;
  external = work.external;
  requirements = work.requirements;
  resources = terms.resources;
  priority = terms.priority;
  retries = terms.retries;
  max_batch_size = terms.max_batch_size;
  params = params;
}

unfoldable pub family_in : Data → List ℕ → Data → Read Family
family_in families name tree =
    work_in families tree >>= λ work.
    terms_in tree >>= λ terms.
    parameters_in tree >>= λ params.
    Ok (family_with name work terms params)

unfoldable pub family_of : Data → List ℕ → Data → Read Family
family_of families name d =
    ensured name (is_name name) >>= λ _.
    right_kind name (as_table d) >>= λ members.
    only_keys family_keys members >>= λ _.
    family_in families name d

unfoldable pub families_of : Data → Read (List Family)
families_of d = right_kind (codes "task") (as_table d) >>= λ members. each_member (family_of d) members

-- the families that a table declares, or the first fault
unfoldable pub declared : Members → Read (List Family)
declared top = only_keys top_keys top >>= λ _. read_or [] families_of (get (codes "task") (table top))

-- the table that bytes write: TOML is UTF-8
abbrev pub or_not_toml : Option Members → Read Members
or_not_toml None = Err NotToml
or_not_toml (Some members) = Ok members

unfoldable pub document_of : List ℕ → Read Members
document_of bytes = if is_utf8 bytes then or_not_toml (parse_document bytes) else Err NotToml

-- the families that a file declares, or its first fault
unfoldable pub declared_in : List ℕ → Read (List Family)
declared_in bytes = document_of bytes >>= λ top. declared top
