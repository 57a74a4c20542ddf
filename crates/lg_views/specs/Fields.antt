-- The fields of an object that is being built. This project's own.
use Rattle.std.specs.Prelude.{map}
use Rattle.lg_json.specs.Tree.{tree_of}
use Rattle.lg_views.specs.declared.builders.Object.{Object}
use Rattle.lg_calls.specs.Views.Trees.{Fields}

-- each with its name and what stands for it
unfoldable pub fields_in : Object → Fields
fields_in object = map (λ field. (field.0, tree_of field.1)) object.fields.items
