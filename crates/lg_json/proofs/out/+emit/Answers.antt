use Rattle.std.proofs.Common.{◌≡◌, [], ◌∷◌, drop, rules, arith}
use Rattle.std.proofs.lemmas.List.{drop_all}
use Rattle.lg_json.specs.declared.out.Out.{the_lemmas}
use Rattle.lg_json.specs.Text.{text_of, list_text, object_text, member_text, quoted}
use Rattle.lg_json.specs.Tree.{tree_of, str, object, trees_view, members_view}
use Rattle.lg_json.proofs.Commas.{with_commas-after}
use Rattle.lg_io.proofs.CallerLemmas.{UpTo-start, UpTo-piece, UpTo-failed, UpTo-last}
use Rattle.lg_json.proofs.Trees.{next_text, next_member}
use Rattle.lg_json.proofs.out.+emit.Goals as goal

pub emit-returns-in-Str-clause-told : goal.emit-returns-in-Str-clause-told
emit-returns-in-Str-clause-told g t c =
    let seen : tree_of c.args.tree.now ≡ str c.as_str.result.now = rw c.in-Str.is (search (rules, the_lemmas)) in
    rw seen c.emit_quoted.ensures.told

pub emit-returns-in-Object-clause-told : goal.emit-returns-in-Object-clause-told
emit-returns-in-Object-clause-told g t c =
    let seen : tree_of c.args.tree.now ≡ object (members_view c.deref-in-Object.result.now) = rw c.in-Object.is (search (rules, the_lemmas)) in
    rw seen c.emit_object.ensures.told

pub emit_list-returns-in_err-write_all : goal.emit_list-returns-in_err-write_all
emit_list-returns-in_err-write_all g t c =
    let part = c.in_err-write_all.ensures in
    UpTo-failed _ _ _ _ (91 ∷ []) _ c.in_err-write_all.field-0.0 _ (UpTo-start c.args.sink.now (list_text (trees_view c.args.items.now)))
    (record { told = part.told; cause = part.cause; rest = part.rest }) c.from_residual.ensures.0

pub emit_list-loop-item-init : goal.emit_list-loop-item-init
emit_list-loop-item-init g t c =
    let wrote = c.in_ok-write_all.ensures in
    rw (← with_commas-after) (UpTo-piece _ _ _ _ (91 ∷ []) _ (UpTo-start c.args.sink.now (list_text (trees_view c.args.items.now))) (record { told = wrote.told; cause = wrote.cause; rest = wrote.rest }))

pub emit_list-returns-in_err-write_all-2 : goal.emit_list-returns-in_err-write_all-2
emit_list-returns-in_err-write_all-2 g t c =
    let l = c.loop-item in
    let part = c.in_err-write_all-2.ensures in
    let next = next_text l.separator.now (93 ∷ []) c.args.items.now l.item-index c.item-item.result (omega arith) c.item-item.is in
    UpTo-failed _ _ _ _ l.separator.now _ c.in_err-write_all-2.field-0.0 _ (rw next at l.invariant) (record { told = part.told; cause = part.cause; rest = part.rest }) c.from_residual-in_err-write_all-2.ensures.0

pub emit_list-returns-in_err-emit : goal.emit_list-returns-in_err-emit
emit_list-returns-in_err-emit g t c =
    let l = c.loop-item in
    let wrote = c.in_ok-write_all-2.ensures in
    let part = c.in_err-emit.ensures in
    let next = next_text l.separator.now (93 ∷ []) c.args.items.now l.item-index c.item-item.result (omega arith) c.item-item.is in
    let separated = UpTo-piece _ _ _ _ l.separator.now _ (rw next at l.invariant) (record { told = wrote.told; cause = wrote.cause; rest = wrote.rest }) in
    UpTo-failed _ _ _ _ (text_of (tree_of c.item-item.result)) _ c.in_err-emit.field-0.0 _ separated (record { told = part.told; cause = part.cause; rest = part.rest }) c.from_residual-in_err-emit.ensures.0

pub emit_list-loop-item-preserved : goal.emit_list-loop-item-preserved
emit_list-loop-item-preserved g t c =
    let l = c.loop-item in
    let wrote = c.in_ok-write_all-2.ensures in
    let item = c.in_ok-emit.ensures in
    let next = next_text l.separator.now (93 ∷ []) c.args.items.now l.item-index c.item-item.result (omega arith) c.item-item.is in
    let separated = UpTo-piece _ _ _ _ l.separator.now _ (rw next at l.invariant) (record { told = wrote.told; cause = wrote.cause; rest = wrote.rest }) in
    UpTo-piece _ _ _ _ (text_of (tree_of c.item-item.result)) _ separated (record { told = item.told; cause = item.cause; rest = item.rest })

pub emit_list-returns : goal.emit_list-returns
emit_list-returns g t c =
    let l = c.loop-item in
    let closed = c.write_all-2.ensures in
    let none : drop l.item-index c.args.items.now ≡ [] = drop_all l.item-index c.args.items.now (omega arith) in
    UpTo-last _ _ _ (list_text (trees_view c.args.items.now)) (93 ∷ []) _ (rw none at l.invariant) (record { told = closed.told; cause = closed.cause; rest = closed.rest })

pub emit_member-returns-in_err-emit_quoted : goal.emit_member-returns-in_err-emit_quoted
emit_member-returns-in_err-emit_quoted g t c =
    UpTo-failed _ _ _ _ (quoted c.args.name.now) _ c.in_err-emit_quoted.field-0.0 _ (UpTo-start c.args.sink.now (member_text c.args.name.now (tree_of c.args.tree.now)))
    (rw c.as_str.ensures.same at c.in_err-emit_quoted.ensures) c.from_residual.ensures.0

pub emit_member-returns-in_err-write_all : goal.emit_member-returns-in_err-write_all
emit_member-returns-in_err-write_all g t c =
    let part = c.in_err-write_all.ensures in
    let named = UpTo-piece _ _ _ _ (quoted c.args.name.now) _ (UpTo-start c.args.sink.now (member_text c.args.name.now (tree_of c.args.tree.now))) (rw c.as_str.ensures.same at c.in_ok-emit_quoted.ensures) in
    UpTo-failed _ _ _ _ (58 ∷ []) _ c.in_err-write_all.field-0.0 _ named (record { told = part.told; cause = part.cause; rest = part.rest }) c.from_residual-in_err-write_all.ensures.0

pub emit_member-returns : goal.emit_member-returns
emit_member-returns g t c =
    let colon = c.in_ok-write_all.ensures in
    let tree = c.emit.ensures in
    let named = UpTo-piece _ _ _ _ (quoted c.args.name.now) _ (UpTo-start c.args.sink.now (member_text c.args.name.now (tree_of c.args.tree.now))) (rw c.as_str.ensures.same at c.in_ok-emit_quoted.ensures) in
    UpTo-last _ _ _ _ (text_of (tree_of c.args.tree.now)) _ (UpTo-piece _ _ _ _ (58 ∷ []) _ named (record { told = colon.told; cause = colon.cause; rest = colon.rest }))
    (record { told = tree.told; cause = tree.cause; rest = tree.rest })

pub emit_object-returns-in_err-write_all : goal.emit_object-returns-in_err-write_all
emit_object-returns-in_err-write_all g t c =
    let part = c.in_err-write_all.ensures in
    UpTo-failed _ _ _ _ (123 ∷ []) _ c.in_err-write_all.field-0.0 _ (UpTo-start c.args.sink.now (object_text (members_view c.args.members.now)))
    (record { told = part.told; cause = part.cause; rest = part.rest }) c.from_residual.ensures.0

pub emit_object-loop-name-init : goal.emit_object-loop-name-init
emit_object-loop-name-init g t c =
    let wrote = c.in_ok-write_all.ensures in
    rw (← with_commas-after) (UpTo-piece _ _ _ _ (123 ∷ []) _ (UpTo-start c.args.sink.now (object_text (members_view c.args.members.now))) (record { told = wrote.told; cause = wrote.cause; rest = wrote.rest }))

pub emit_object-returns-in_err-write_all-2 : goal.emit_object-returns-in_err-write_all-2
emit_object-returns-in_err-write_all-2 g t c =
    let l = c.loop-name in
    let part = c.in_err-write_all-2.ensures in
    let next = next_member l.separator.now (125 ∷ []) c.args.members.now l.name-index c.loop-name-item.result (omega arith) c.loop-name-item.is in
    UpTo-failed _ _ _ _ l.separator.now _ c.in_err-write_all-2.field-0.0 _ (rw next at l.invariant) (record { told = part.told; cause = part.cause; rest = part.rest }) c.from_residual-in_err-write_all-2.ensures.0

pub emit_object-returns-in_err-emit_member : goal.emit_object-returns-in_err-emit_member
emit_object-returns-in_err-emit_member g t c =
    let l = c.loop-name in
    let wrote = c.in_ok-write_all-2.ensures in
    let part = c.in_err-emit_member.ensures in
    let next = next_member l.separator.now (125 ∷ []) c.args.members.now l.name-index c.loop-name-item.result (omega arith) c.loop-name-item.is in
    let separated = UpTo-piece _ _ _ _ l.separator.now _ (rw next at l.invariant) (record { told = wrote.told; cause = wrote.cause; rest = wrote.rest }) in
    UpTo-failed _ _ _ _ (member_text c.loop-name-item.result.0 (tree_of c.loop-name-item.result.1)) _ c.in_err-emit_member.field-0.0 _ separated part c.from_residual-in_err-emit_member.ensures.0

pub emit_object-loop-name-preserved : goal.emit_object-loop-name-preserved
emit_object-loop-name-preserved g t c =
    let l = c.loop-name in
    let wrote = c.in_ok-write_all-2.ensures in
    let next = next_member l.separator.now (125 ∷ []) c.args.members.now l.name-index c.loop-name-item.result (omega arith) c.loop-name-item.is in
    let separated = UpTo-piece _ _ _ _ l.separator.now _ (rw next at l.invariant) (record { told = wrote.told; cause = wrote.cause; rest = wrote.rest }) in
    UpTo-piece _ _ _ _ (member_text c.loop-name-item.result.0 (tree_of c.loop-name-item.result.1)) _ separated c.in_ok-emit_member.ensures

pub emit_object-returns : goal.emit_object-returns
emit_object-returns g t c =
    let l = c.loop-name in
    let closed = c.write_all-2.ensures in
    let none : drop l.name-index c.args.members.now ≡ [] = drop_all l.name-index c.args.members.now (omega arith) in
    UpTo-last _ _ _ (object_text (members_view c.args.members.now)) (125 ∷ []) _ (rw none at l.invariant) (record { told = closed.told; cause = closed.cause; rest = closed.rest })
