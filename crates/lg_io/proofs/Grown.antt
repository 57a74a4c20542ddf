-- Lists of maps that go on.
use Rattle.std.proofs.Common.{◌≡◌, List, [], ◌∷◌, ◌++◌, refl, sym, ap, subst, append_assoc, ◌∙◌}
use Rattle.std.proofs.lemmas.List.{append-nil}
use Rattle.lg_io.specs.Files.{FileMap, present, Appears, AppearInTurn, HasGrown}

-- the last map of a list to which others are joined is the last of those behind its own last
pub present-append : (ms ns : List FileMap) → present (ms ++ ns) ≡ present (present ms ∷ ns)
present-append [] [] = refl
present-append [] (n ∷ ns) = refl
present-append (m ∷ []) ns = refl
present-append (m ∷ k ∷ ms) ns = present-append (k ∷ ms) ns

pub present-push : (ms : List FileMap) (m : FileMap) → present (ms ++ m ∷ []) ≡ m
present-push ms m = present-append ms (m ∷ [])

AppearInTurn-append : (m : FileMap) (xs ys : List FileMap) → AppearInTurn m xs → AppearInTurn (present (m ∷ xs)) ys → AppearInTurn m (xs ++ ys)
AppearInTurn-append m [] ys first second = second
AppearInTurn-append m (x ∷ xs) ys first second = (first.0, AppearInTurn-append x xs ys first.1 second)

pub grown_none : (ms : List FileMap) → HasGrown ms ms
grown_none ms = record { more = []; appear = tt; is = sym (append-nil ms) }

pub grown_one : (ms : List FileMap) (m : FileMap) → Appears (present ms) m → HasGrown ms (ms ++ m ∷ [])
grown_one ms m appears = record { more = m ∷ []; appear = (appears, tt); is = refl }

pub grown_more : (a b c : List FileMap) → HasGrown a b → HasGrown b c → HasGrown a c
grown_more a b c first second =
    let last : present b ≡ present (present a ∷ first.more) = ap present first.is ∙ present-append a first.more in
    record {
      more = first.more ++ second.more;
      appear = AppearInTurn-append (present a) first.more second.more first.appear (subst (λ m. AppearInTurn m second.more) last second.appear);
      is = second.is ∙ ap (λ ms. ms ++ second.more) first.is ∙ append_assoc a first.more second.more;
    }
