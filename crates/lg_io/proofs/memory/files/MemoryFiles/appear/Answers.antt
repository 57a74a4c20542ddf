use Rattle.std.proofs.Common.{Result, Ok, Err, OnErr, ap, sym, ◌∙◌, ◌++◌}
use Rattle.lg_io.specs.Appearances.{due_before, left_before, maps_with}
use Rattle.lg_io.specs.Files.{present}
use Rattle.lg_io.specs.FileScript.{held_maps}
use Rattle.lg_io.proofs.Grown.{grown_more}
use Rattle.lg_io.proofs.Appearing.{appear_next, due_before-cons, due_before-some, left_before-cons}
use Rattle.lg_io.proofs.memory.files.MemoryFiles.appear.Goals as goal

pub loop-file-preserved : goal.loop-file-preserved
loop-file-preserved g c =
    let before = c.loop-file.invariant in
    let placed = c.in_ok-place.ensures in
    let call = c.args.call in
    let file = c.in-Some.file in
    let later = c.next_due.new.coming.items in
    let maps = held_maps c.loop-file.self in
    record {
      grown = grown_more _ _ _ before.grown placed.grown;
      maps = rw placed.coming (appear_next maps (held_maps c.place.new.self) file (due_before call later) placed.maps)
          ∙ ap (λ files. maps ++ maps_with (present maps) files)
          (sym (due_before-cons call file later c.in-Some.ensures.due) ∙ ap (due_before call) (sym c.in-Some.ensures.next)) ∙ before.maps;
      ahead = rw placed.coming (sym (left_before-cons call file later c.in-Some.ensures.due))
          ∙ ap (left_before call) (sym c.in-Some.ensures.next) ∙ before.ahead;
      due = λ _. before.due (due_before-some call file _ later c.in-Some.ensures.next c.in-Some.ensures.due);
      calls = placed.calls ∙ before.calls;
      count = placed.count ∙ before.count;
      plan = placed.plan ∙ before.plan;
      late = placed.late ∙ before.late;
      wants = placed.wants ∙ before.wants;
    }

pub returns-in_err-place-clause-grown : goal.returns-in_err-place-clause-grown
returns-in_err-place-clause-grown g c = grown_more _ _ _ c.loop-file.invariant.grown c.in_err-place.ensures.grown

-- what holds anyway holds where there is an error
on_err : {A E : Type 0} (r : Result A E) {P : Type 0} → P → OnErr r P
on_err (Ok x) is = tt
on_err (Err e) is = is

pub returns-in_err-place-clause-due : goal.returns-in_err-place-clause-due
returns-in_err-place-clause-due g c =
    on_err c.from_residual.result (c.loop-file.invariant.due (due_before-some c.args.call c.in-Some.file _ c.next_due.new.coming.items c.in-Some.ensures.next c.in-Some.ensures.due))
