use Rattle.lg_calls.specs.Infos.{infos_in}
use Rattle.lg_calls.proofs.InfoLemmas.{met_field_reads}
use Rattle.lg_calls.proofs.methods.add_worker.read_info.Goals as goal

pub returns : goal.returns
returns c =
    let met = rw c.value-value.ensures.value at c.infos_in.ensures in
    met_field_reads infos_in _ _ _ c.infos_in.result _ met c.value-value.ensures.taken c.taken.ensures
