-- The task's place in the list is its place in the state.
use Rattle.std.proofs.Common.{ap, sym, ◌∙◌, position}
use Rattle.lg_calls.specs.Tasks.{has_id}
use Rattle.lg_calls.proofs.LookLemmas.{place_of-all}
use Rattle.lg_calls.proofs.look.StateLook.find.Goals as goal

pub returns-in_err-place : goal.returns-in_err-place
returns-in_err-place c =
    let here = c.args.self.now.tasks in
    c.from_residual.ensures ∙ c.in_err-place.ensures ∙ ap (λ xs. position (has_id c.args.id.now) xs) c.as_slice.ensures ∙ sym (place_of-all c.args.id.now here)

pub returns : goal.returns
returns c =
    let here = c.args.self.now.tasks in
    c.in_ok-place.ensures ∙ ap (λ xs. position (has_id c.args.id.now) xs) c.as_slice.ensures ∙ sym (place_of-all c.args.id.now here)
