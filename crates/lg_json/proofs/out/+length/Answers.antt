use Rattle.std.proofs.Common.{◌≡◌, ap, sym, rules, arith}
use Rattle.lg_json.specs.Capped.{capped}
use Rattle.lg_json.specs.declared.out.Out.{the_lemmas}
use Rattle.lg_json.specs.Text.{texts_of, member_texts_of}
use Rattle.lg_json.specs.Tree.{tree_of, object, trees_view, members_view}
use Rattle.lg_json.proofs.Commas.{length-enclosed}
use Rattle.lg_json.proofs.out.+length.Goals as goal

pub length-returns-in-Object : goal.length-returns-in-Object
length-returns-in-Object t c =
    let seen : tree_of c.args.tree.now ≡ object (members_view c.deref-in-Object.result.now) = rw c.in-Object.is (search (rules, the_lemmas)) in
    rw seen c.object_length.ensures

pub list_length-loop-item-init : goal.list_length-loop-item-init
list_length-loop-item-init t c = (omega arith, omega arith, ap capped (sym (length-enclosed 91 93 (texts_of (trees_view c.args.items.now)))))

pub object_length-loop-name-init : goal.object_length-loop-name-init
object_length-loop-name-init t c = (omega arith, omega arith, ap capped (sym (length-enclosed 123 125 (member_texts_of (members_view c.args.members.now)))))
