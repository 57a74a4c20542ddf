-- What the definition of a call comes to.
use Rattle.std.proofs.Common.{◌≡◌, ◌≢◌, ◌⊎◌, inl, inr, ℕ, Bool, true, false, List, ◌++◌, codes, refl, ap, Err}
use Rattle.std.proofs.lemmas.Bool.Decides.{Decides-eqb}
use Rattle.std.proofs.lemmas.Slice.Eq.{slice_eq-Decides}
use Rattle.std.specs.List.{starts_with}
use Rattle.std.specs.Prelude.{nat_eq}
use Rattle.std.specs.Str.{bytes_eq}
use Rattle.lg_calls.specs.declared.method.MethodFault.{MethodFault}
use Rattle.lg_calls.specs.Method.{method_asked}
use Rattle.luigid.specs.declared.refusal.Misrouted.TheVariants.{BadVerb, UnknownPath}
use Rattle.luigid.specs.Call.{route, route_of, misrouted_by, routed, MayCall}
use Rattle.luigid.specs.Payload.{path_of}

other_value : (verb target : List ℕ) (sized posts gets : Bool) → bytes_eq verb (codes "POST") ≡ posts → bytes_eq verb (codes "GET") ≡ gets
    → posts ≡ false → gets ≡ false → route verb sized target ≡ Err BadVerb
other_value verb target sized posts gets is_post is_get other_one other_two = rw (is_post, is_get, other_one, other_two) refl

differs_from : (verb word : List ℕ) (same : Bool) → (same ≡ true → verb ≡ word) → verb ≢ word → same ≡ false
differs_from verb word true found differs = absurd (differs (found refl))
differs_from verb word false found differs = refl

pub other_verb : (verb target : List ℕ) (sized : Bool) → verb ≢ codes "POST" → verb ≢ codes "GET" → route verb sized target ≡ Err BadVerb
other_verb verb target sized no_post no_get =
    other_value verb target sized (bytes_eq verb (codes "POST")) (bytes_eq verb (codes "GET")) refl refl
    (differs_from verb (codes "POST") _ (λ yes. (slice_eq-Decides Decides-eqb _ _ _ refl).0 yes) no_post)
    (differs_from verb (codes "GET") _ (λ yes. (slice_eq-Decides Decides-eqb _ _ _ refl).0 yes) no_get)

-- where a call may be made the path tells its method
pub by_path : (verb target : List ℕ) (sized : Bool) → MayCall verb sized → route verb sized target ≡ route_of (path_of target)
by_path verb target sized (inl get) = rw get refl
by_path verb target sized (inr (post, told)) = rw (post, told) refl

-- a path of another front
pub unknown_path : (path : List ℕ) → starts_with nat_eq path (codes "/api/") ≡ false → route_of path ≡ Err UnknownPath
unknown_path path other = rw other refl

-- a name that no method has that is built
pub no_method : (path name : List ℕ) (fault : MethodFault) → path ≡ codes "/api/" ++ name → method_asked name ≡ Err fault → route_of path ≡ Err (misrouted_by fault)
no_method path name fault is none = rw is (ap routed none)
