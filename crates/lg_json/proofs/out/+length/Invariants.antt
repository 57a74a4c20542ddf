use Rattle.std.proofs.Common.{◌≡◌, ◌+◌, ◌<◌, ◌^◌, drop, length, replicate}
use Rattle.lg_json.specs.Capped.{capped}
use Rattle.lg_json.specs.Text.{list_text, object_text, texts_of, member_texts_of}
use Rattle.lg_json.specs.Tree.{trees_view, members_view}
use Rattle.lg_json.proofs.Commas.{after_separator}
use Rattle.lg_json.proofs.out.+length.Given as goal

abbrev pub invariant-list_length-loop-item : goal.invariant-list_length-loop-item
invariant-list_length-loop-item l =
    (l.total < 2 ^ 64) × (l.separator < 2) × (capped (l.total + length (after_separator (replicate l.separator 44) (texts_of (trees_view (drop l.item-index l.items))))) ≡ capped (length (list_text (trees_view l.items))))

abbrev pub invariant-object_length-loop-name : goal.invariant-object_length-loop-name
invariant-object_length-loop-name l =
    (l.total < 2 ^ 64) × (l.separator < 2) × (capped (l.total + length (after_separator (replicate l.separator 44) (member_texts_of (members_view (drop l.name-index l.members))))) ≡ capped (length (object_text (members_view l.members))))
