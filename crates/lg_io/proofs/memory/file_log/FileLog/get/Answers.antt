use Rattle.std.proofs.Common.{List, Some, ap, sym, ◌∙◌, option_map}
use Rattle.std.specs.Ordering.{nat_cmp, is_eq}
use Rattle.std.specs.Cmp.Lexicographic.{slice_cmp}
use Rattle.std.specs.FinMap.{get, get-empty}
use Rattle.std.proofs.lemmas.List.{nil_from_length}
use Rattle.lg_io.specs.declared.memory.file_log.Edit.{Edit}
use Rattle.lg_io.specs.MemoryFiles.{files_of}
use Rattle.lg_io.proofs.FilesOf.{get-files_of_same, get-files_of_other}
use Rattle.lg_io.proofs.memory.file_log.FileLog.get.Goals as goal

pub loop-edit-preserved : goal.loop-edit-preserved
loop-edit-preserved c =
    let q = c.args.path.now in
    let is_other = ap is_eq (sym c.cmp.ensures) ∙ sym c.is_eq.ensures ∙ c.if-is_eq.false in
    c.loop-edit.invariant
    ∙ ap (λ (edits : List Edit). get (files_of edits) q) c.in-Some.ensures.steps
    ∙ get-files_of_other c.in-Some.edit.now _ q is_other

pub returns-in-Some-bytes : goal.returns-in-Some-bytes
returns-in-Some-bytes c =
    let q = c.args.path.now in
    let is_same = ap is_eq (sym c.cmp.ensures) ∙ sym c.is_eq.ensures ∙ c.if-is_eq.true in
    let held =
    c.loop-edit.invariant
    ∙ ap (λ (edits : List Edit). get (files_of edits) q) c.in-Some.ensures.steps
    ∙ get-files_of_same c.in-Some.edit.now _ q is_same in
    ap Some c.as_slice.ensures.value ∙ sym (held ∙ ap (option_map (λ v. v.items)) c.in-Some-bytes.is)

pub returns-in-None-bytes : goal.returns-in-None-bytes
returns-in-None-bytes c =
    let q = c.args.path.now in
    let is_same = ap is_eq (sym c.cmp.ensures) ∙ sym c.is_eq.ensures ∙ c.if-is_eq.true in
    let held =
    c.loop-edit.invariant
    ∙ ap (λ (edits : List Edit). get (files_of edits) q) c.in-Some.ensures.steps
    ∙ get-files_of_same c.in-Some.edit.now _ q is_same in
    sym (held ∙ ap (option_map (λ v. v.items)) c.in-None-bytes.is)

pub returns : goal.returns
returns c =
    let q = c.args.path.now in
    sym (
    c.loop-edit.invariant
    ∙ ap (λ (edits : List Edit). get (files_of edits) q) (nil_from_length _ c.in-None.ensures.steps.0)
    ∙ get-empty (slice_cmp nat_cmp) q
    )
