use Rattle.std.proofs.Common.{◌+◌, ◌++◌, length, slice_range, ap, ◌∙◌, arith}
use Rattle.std.proofs.lemmas.List.{take_at}
use Rattle.lg_http.proofs.WindowLemmas.{filled_between, nothing_given}
use Rattle.lg_http.proofs.window.Window.fill.Goals as goal

pub returns-in-Bytes-clause-filled : goal.returns-in-Bytes-clause-filled
returns-in-Bytes-clause-filled g c =
    let place = c.make_room-start.result in
    let to = place.1 + c.in-Bytes.count in
    let room = c.make_room-start.ensures in
    let read = c.in-Bytes.ensures.filled in (
      read.0,
      read.1,
      ap (λ b. slice_range b place.0 to) (take_at c.read_behind-step.new.bytes _ c.make_room-start.new.bytes.len (c.read_behind-step.auto.bytes ∙ c.deref_mut.ensures.len))
          ∙ filled_between c.deref_mut.result.now _ read.0 place.0 place.1 to room.ordered (omega (arith, read.2)) (omega (arith, read.1.0)) read.3
          ∙ ap (λ t. t ++ read.0) (ap (λ b. slice_range b place.0 place.1) c.deref_mut.ensures.value ∙ room.same ∙ c.self.view_is),
      read.4,
    )

pub returns-in_default-clause-filled : goal.returns-in_default-clause-filled
returns-in_default-clause-filled g c =
    let place = c.make_room-start.result in
    let room = c.make_room-start.ensures in
    let read = c.read_behind-step.ensures.filled in
    let none = ap length (nothing_given c.read_behind-step.result read.0 c.in_default.not-Bytes read.1) in (
      read.0,
      read.1,
      ap (λ b. slice_range b place.0 place.1) (take_at c.read_behind-step.new.bytes _ c.make_room-start.new.bytes.len (c.read_behind-step.auto.bytes ∙ c.deref_mut.ensures.len))
          ∙ filled_between c.deref_mut.result.now _ read.0 place.0 place.1 place.1 room.ordered (omega (arith, read.2)) (omega (arith, none)) read.3
          ∙ ap (λ t. t ++ read.0) (ap (λ b. slice_range b place.0 place.1) c.deref_mut.ensures.value ∙ room.same ∙ c.self.view_is),
      read.4,
    )
