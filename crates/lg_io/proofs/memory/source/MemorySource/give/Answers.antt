use Rattle.std.proofs.Common.{◌≡◌, ℕ, ◌+◌, ◌-◌, List, ◌++◌, length, take, drop, sym, arith}
use Rattle.std.proofs.lemmas.Grind.{common_steps}
use Rattle.std.proofs.lemmas.List.{take-append-drop}
use Rattle.std.proofs.Math.Seq.{take-add}
use Rattle.lg_io.proofs.memory.source.MemorySource.give.Goals as goal

-- the bytes that were copied come next in the input
next_piece : (at count : ℕ) (input copied : List ℕ) → take count copied ≡ take count (take (length input - at) (drop at input)) → drop at input ≡ take count copied ++ drop (at + count) input
next_piece at count input copied same =
    let left : take (length input - at) (drop at input) ≡ drop at input = grind (arith, common_steps) in
    let later : drop (at + count) input ≡ drop count (drop at input) = grind (arith, common_steps) in
    rw (same, left, later) (sym (take-append-drop count (drop at input)))

pub returns-clause-told : goal.returns-clause-told
returns-clause-told g c =
    let next = take-add c.args.self.now.at c.copy_front-count.result c.args.self.now.input.items in
    let whole = c.deref.ensures.value in
    grind (arith, common_steps, next, whole, c.copy_front-count.ensures.copied)

pub returns-clause-bytes : goal.returns-clause-bytes
returns-clause-bytes g c =
    let copied = rw c.deref.ensures.value at c.copy_front-count.ensures.copied in
    next_piece c.args.self.now.at _ c.args.self.now.input.items _ copied
