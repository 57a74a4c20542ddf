use Rattle.std.proofs.Common.{◌∷◌, [], ◌++◌, drop}
use Rattle.lg_json.specs.Text.{list_text, object_text, texts_of, member_texts_of}
use Rattle.lg_json.specs.Tree.{trees_view, members_view}
use Rattle.lg_json.proofs.Commas.{after_separator}
use Rattle.lg_io.proofs.CallerLemmas.{WritesUpTo}
use Rattle.lg_json.proofs.out.+emit.Given as goal

abbrev pub invariant-emit_list-loop-item : goal.invariant-emit_list-loop-item
invariant-emit_list-loop-item g l =
    WritesUpTo g.S.Sink.taken g.S.Sink.faults g.S.Sink.rest l.fn.sink l.sink (list_text (trees_view l.items)) (after_separator l.separator (texts_of (trees_view (drop l.item-index l.items))) ++ 93 ∷ [])

abbrev pub invariant-emit_object-loop-name : goal.invariant-emit_object-loop-name
invariant-emit_object-loop-name g l =
    WritesUpTo g.S.Sink.taken g.S.Sink.faults g.S.Sink.rest l.fn.sink l.sink (object_text (members_view l.members)) (after_separator l.separator (member_texts_of (members_view (drop l.name-index l.members))) ++ 125 ∷ [])
