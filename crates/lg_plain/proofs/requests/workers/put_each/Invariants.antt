use Rattle.std.proofs.Common.{◌≡◌, take}
use Rattle.std.specs.BTreeSet.{replace_key}
use Rattle.std.specs.List.{fold}
use Rattle.lg_calls.specs.Methods.AddWorker.{info_cmp}
use Rattle.lg_plain.proofs.requests.workers.put_each.Given as goal

abbrev pub invariant-loop-pair : goal.invariant-loop-pair
invariant-loop-pair l = l.known.items ≡ fold (replace_key info_cmp) l.initial.known.items (take l.pair-index l.infos)
