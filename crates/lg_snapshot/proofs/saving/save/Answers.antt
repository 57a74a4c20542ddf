use Rattle.std.proofs.Common.{refl, subst, ◌∙◌}
use Rattle.lg_snapshot.specs.declared.fault.SaveFault.TheVariants as saving
use Rattle.lg_snapshot.specs.SaveFaults.{save_fault}
use Rattle.lg_snapshot.specs.Saving.{Saves, GivesUp, publishing}
use Rattle.lg_snapshot.specs.FileCalls.{TellsCalls}
use Rattle.lg_snapshot.specs.Snapshot.{snapshot_text}
use Rattle.lg_snapshot.proofs.SavingLemmas.{refused_as, save_leaves, saves_all, saves_given_up, saves_nothing, saves_unbegun}
use Rattle.lg_snapshot.proofs.saving.save.Goals as goal

pub returns-in_err-text-clause-asked : goal.returns-in_err-text-clause-asked
returns-in_err-text-clause-asked g c =
    let text = snapshot_text c.args.state.now in
    let numbers = g.G.Numbers.draws c.args.numbers.now in
    let files = g.F.Files.files c.args.files.now in
    refused_as (Saves c.args.path.now text numbers numbers files files) c.from_residual.result saving.NoMemory c.from_residual.ensures.1
    (saves_nothing c.args.path.now text numbers files)

pub returns-in_err-text-clause-leaves : goal.returns-in_err-text-clause-leaves
returns-in_err-text-clause-leaves g c =
    save_leaves c.saves_are_old_or_whole.ensures.whole c.saves_are_old_or_whole.ensures.old c.args.path.now (snapshot_text c.args.state.now) _ _ _ _
    c.from_residual.result (returns-in_err-text-clause-asked g c)

pub returns-in_err-aside-clause-asked : goal.returns-in_err-aside-clause-asked
returns-in_err-aside-clause-asked g c =
    let path = c.args.path.now in
    let text = snapshot_text c.args.state.now in
    let undrawn = g.G.Numbers.draws c.args.numbers.now in
    let drawn = g.G.Numbers.draws c.begin.new.numbers in
    let before = g.F.Files.files c.args.files.now in
    let after = g.F.Files.files c.begin.new.files in
    let fault = c.in_err-aside.field-0.0 in
    refused_as (Saves path text undrawn drawn before after) c.from_residual-in_err-aside.result (save_fault fault) c.from_residual-in_err-aside.ensures.1
    (saves_unbegun path text undrawn drawn before after fault (save_fault fault) refl c.in_err-aside.ensures.name c.in_err-aside.ensures.folder)

pub returns-in_err-aside-clause-leaves : goal.returns-in_err-aside-clause-leaves
returns-in_err-aside-clause-leaves g c =
    save_leaves c.saves_are_old_or_whole.ensures.whole c.saves_are_old_or_whole.ensures.old c.args.path.now (snapshot_text c.args.state.now) _ _ _ _
    c.from_residual-in_err-aside.result (returns-in_err-aside-clause-asked g c)

pub returns-in_err-put-clause-asked : goal.returns-in_err-put-clause-asked
returns-in_err-put-clause-asked g c =
    let path = c.args.path.now in
    let text = snapshot_text c.args.state.now in
    let undrawn = g.G.Numbers.draws c.args.numbers.now in
    let drawn = g.G.Numbers.draws c.begin.new.numbers in
    let before = g.F.Files.files c.args.files.now in
    let begun = g.F.Files.files c.begin.new.files in
    let after = g.F.Files.files c.put.new.files in
    let aside = c.in_ok-aside.aside in
    refused_as (Saves path text undrawn drawn before after) c.from_residual-in_err-put.result saving.Files c.from_residual-in_err-put.ensures.1
    (saves_given_up path text undrawn drawn before begun after aside c.in_ok-aside.ensures.name c.in_ok-aside.ensures.folder
    (subst (λ bytes. GivesUp aside bytes begun after) (c.bytes.ensures ∙ c.in_ok-text.ensures.text) c.in_err-put.ensures.asked))

pub returns-in_err-put-clause-leaves : goal.returns-in_err-put-clause-leaves
returns-in_err-put-clause-leaves g c =
    save_leaves c.saves_are_old_or_whole.ensures.whole c.saves_are_old_or_whole.ensures.old c.args.path.now (snapshot_text c.args.state.now) _ _ _ _
    c.from_residual-in_err-put.result (returns-in_err-put-clause-asked g c)

pub returns-clause-asked : goal.returns-clause-asked
returns-clause-asked g c =
    let path = c.args.path.now in
    let text = snapshot_text c.args.state.now in
    let undrawn = g.G.Numbers.draws c.args.numbers.now in
    let drawn = g.G.Numbers.draws c.begin.new.numbers in
    let before = g.F.Files.files c.args.files.now in
    let begun = g.F.Files.files c.begin.new.files in
    let after = g.F.Files.files c.put.new.files in
    let aside = c.in_ok-aside.aside in
    saves_all path text undrawn drawn before begun after aside c.in_ok-aside.ensures.name c.in_ok-aside.ensures.folder
    (subst (λ bytes. TellsCalls begun (publishing aside.path aside.name bytes) after) (c.bytes.ensures ∙ c.in_ok-text.ensures.text) c.in_ok-put.ensures.asked)

pub returns-clause-leaves : goal.returns-clause-leaves
returns-clause-leaves g c =
    save_leaves c.saves_are_old_or_whole.ensures.whole c.saves_are_old_or_whole.ensures.old c.args.path.now (snapshot_text c.args.state.now) _ _ _ _
    _ (returns-clause-asked g c)
