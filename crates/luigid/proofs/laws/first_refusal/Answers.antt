use Rattle.std.proofs.Common.{false, codes, refl, ◌∙◌}
use Rattle.luigid.specs.Payload.{path_of}
use Rattle.luigid.proofs.Calls.{asks-none, asks-method}
use Rattle.luigid.proofs.Consequences.{other_verb, by_path, unknown_path, no_method}
use Rattle.luigid.proofs.laws.first_refusal.Goals as goal

pub returns : goal.returns
returns c = record {
  verb = λ verb target body sized no_post no_get. asks-none verb sized target body _ (other_verb verb target sized no_post no_get);
  length = λ target body. asks-none (codes "POST") false target body _ refl;
  path = λ verb target body sized may other.
      asks-none verb sized target body _ (by_path verb target sized may ∙ unknown_path (path_of target) other);
  method = λ verb target body name sized fault may is none.
      asks-none verb sized target body _ (by_path verb target sized may ∙ no_method (path_of target) name fault is none);
  payload = λ verb target body sized method may is. asks-method verb sized target body method (by_path verb target sized may ∙ is);
}
