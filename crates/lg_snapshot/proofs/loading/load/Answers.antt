use Rattle.std.proofs.Common.{Ok, None, subst}
use Rattle.lg_io.specs.Files.{found, absent}
use Rattle.lg_snapshot.specs.Loading.{IsReadAs}
use Rattle.lg_snapshot.proofs.LoadingLemmas.{loads_held}
use Rattle.lg_snapshot.proofs.loading.load.Goals as goal

pub returns-in_ok-decode-in-Found-clause-found : goal.returns-in_ok-decode-in-Found-clause-found
returns-in_ok-decode-in-Found-clause-found g c =
    let settings = c.args.settings.now in
    let state = c.in_ok-decode-in-Found.field-0 in
    let read_as : IsReadAs settings c.deref.result.now state = record {
      is = c.in_ok-decode-in-Found.ensures.found;
      only = c.in_ok-decode-in-Found.ensures.only;
    } in
    loads_held c.aside_leaves_the_old.ensures c.args.path.now settings (g.F.Files.files c.args.files.now) (g.F.Files.files c.read.new.self) (Ok state)
    (record {
      answer = found c.in-Found.bytes.items;
      told = c.in-Found.ensures.told;
      is = subst (λ bytes. IsReadAs settings bytes state) c.deref.ensures.value read_as;
    })

pub returns-in-Absent-clause-found : goal.returns-in-Absent-clause-found
returns-in-Absent-clause-found g c =
    loads_held c.aside_leaves_the_old.ensures c.args.path.now c.args.settings.now (g.F.Files.files c.args.files.now) (g.F.Files.files c.read.new.self)
    (Ok None) (record { answer = absent; told = c.in-Absent.ensures.told; is = tt })
