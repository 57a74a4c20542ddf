use Rattle.std.proofs.Common.{ℕ, List, [], ◌∷◌, ◌++◌, ap, ◌∙◌}
use Rattle.lg_json.specs.Text.{text_of}
use Rattle.lg_snapshot.specs.Records.{tree_of_state}
use Rattle.lg_snapshot.specs.Snapshot.{snapshot_text}
use Rattle.lg_snapshot.proofs.encoding.encode.Goals as goal

pub returns-clause-text : goal.returns-clause-text
unfolding snapshot_text
returns-clause-text c =
    let tree = tree_of_state c.args.state.now in
    c.into_text.ensures
    ∙ (c.in_ok-word.ensures
    ∙ ap (λ (text : List ℕ). text ++ 10 ∷ []) (c.in_ok-write_state.ensures.written ∙ ap (λ (text : List ℕ). text ++ text_of tree) c.new-output.ensures))
