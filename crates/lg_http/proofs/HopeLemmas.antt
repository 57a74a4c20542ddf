-- Which bytes may still become a head.
use Rattle.std.proofs.Common.{◌≡◌, ◌⊎◌, inl, inr, ℕ, ◌+◌, ◌*◌, ◌<◌, ◌≤◌, Bool, true, false, not, ◌||◌, eqb, List, [], ◌∷◌, ◌++◌, length, refl, sym, ◌∙◌, ap, subst, append_assoc, append-nil, length-append, arith}
use Rattle.std.specs.Prelude.{All, nat_lt}
use Rattle.std.specs.List.{flat_map}
use Rattle.std.proofs.lemmas.Bool.{ltb-true, ne_eqb, and_parts}
use Rattle.std.proofs.lemmas.List.Elements.{All-head, All-tail, All-cons, All-nil, All-weaker}
use Rattle.httparse.specs.Grammar.{is_uri_byte, IsToken, AllPass, LineEnd, crlf, lf, print_end, print_blank, Field, print_field, IsField, RequestHead, print_request, ReadsRequest, HasNoRequest, NeverHasRequest, MayBecomeRequest}
use Rattle.httparse.specs.Pieces.{Then, Completes, Section, RequestStart}
use Rattle.httparse.specs.Spans.{RequestExceeds}
use Rattle.httparse.proofs.PieceLemmas.{Blank_deterministic, Method_deterministic, Stops_token}
use Rattle.httparse.proofs.GrammarLemmas.{request_head, request_from_pieces}
use Rattle.httparse.proofs.OpenLemmas.{Completes_first, Completes_next, some_target, some_version, some_newline, some_section}
use Rattle.lg_http.specs.Heads.{max_head, is_target_byte, IsInTarget}
use Rattle.lg_http.specs.Messages.{HasHopelessFront}

-- of two cuts of one list one is no later than the other
pub append_cut : (a b x t : List ℕ) → a ++ b ≡ x ++ t
    → ((q : List ℕ) × (x ≡ a ++ q)) ⊎ ((u : List ℕ) × (a ≡ x ++ u) × (t ≡ u ++ b))
append_cut [] b x t e = inl (x, refl)
append_cut (y ∷ a) b [] t e = inr (y ∷ a, refl, sym e)
append_cut (y ∷ a) b (z ∷ x) t e = step (append_cut a b x t (cc))
  where
    same : y ≡ z
    same = cc

    step : ((q : List ℕ) × (x ≡ a ++ q)) ⊎ ((u : List ℕ) × (a ≡ x ++ u) × (t ≡ u ++ b))
        → ((q : List ℕ) × (z ∷ x ≡ (y ∷ a) ++ q)) ⊎ ((u : List ℕ) × (y ∷ a ≡ (z ∷ x) ++ u) × (t ≡ u ++ b))
    step (inl (q, cut)) = inl (q, cc (same, cut))
    step (inr (u, cut, rest)) = inr (u, cc (same, cut), rest)

All-front : (P : ℕ → Type 0) (front rest : List ℕ) → All P (front ++ rest) → All P front
All-front P [] rest all = All-nil P
All-front P (x ∷ front) rest all =
    All-cons P x front (All-head P x (front ++ rest) all) (All-front P front rest (All-tail P x (front ++ rest) all))

regroup : (a v t : List ℕ) → a ++ v ++ 32 ∷ t ≡ (a ++ (v ++ 32 ∷ [])) ++ t
regroup a v t = simp append_assoc

-- where a target begins a head may still come
head_behind_verb : (blank : List LineEnd) (verb : List ℕ) → IsToken verb
    → Completes (Then RequestStart Section) (print_blank blank ++ (verb ++ 32 ∷ []))
head_behind_verb blank verb token =
    Completes_first
    (Completes_next Blank_deterministic {a = blank} (refl, Stops_token verb (32 ∷ []) token.0 token.1)
    (Completes_next Method_deterministic {a = verb} (token.0, token.1, refl)
    (Completes_first some_target (Completes_first some_version some_newline))))
    some_section

-- no front of bytes that end in a target is hopeless
pub target_hopeful : (bytes : List ℕ) → IsInTarget bytes → ¬ (HasHopelessFront bytes)
target_hopeful bytes (blank, verb, target, token, all, is) (front, rest, split, fits, hopeless) =
    step (append_cut front rest start target (sym split ∙ is ∙ regroup (print_blank blank) verb target))
  where
    start : List ℕ
    start = print_blank blank ++ (verb ++ 32 ∷ [])

    step : ((q : List ℕ) × (start ≡ front ++ q)) ⊎ ((u : List ℕ) × (front ≡ start ++ u) × (target ≡ u ++ rest)) → ⊥
    step (inl (q, cut)) =
        let head = head_behind_verb blank verb token in
        let more = head.more ++ [] in
        hopeless.never (q ++ more) (request_head head.tree) []
        (subst (λ (s : List ℕ). ReadsRequest s (request_head head.tree) []) (ap (λ s. s ++ more) cut ∙ append_assoc front q more)
        (request_from_pieces _ head.tree [] (head.reads [])))
    step (inr (u, cut, more)) =
        hopeless.judged (
          blank,
          verb,
          u,
          token,
          All-front (λ b. is_target_byte b ≡ true) u rest (subst (AllPass is_target_byte) more all),
          cut ∙ sym (regroup (print_blank blank) verb u),
        )

uri_is_target : (b : ℕ) → is_uri_byte b ≡ true → is_target_byte b ≡ true
uri_is_target b uri =
    let above = ltb-true 32 b (and_parts (nat_lt 32 b) (not (eqb b 127)) uri).0 in
    tests (eqb b 32) (eqb b 13) (eqb b 10) (ne_eqb b 32 (λ e. omega arith)) (ne_eqb b 13 (λ e. omega arith)) (ne_eqb b 10 (λ e. omega arith))
  where
    tests : (x y z : Bool) → x ≡ false → y ≡ false → z ≡ false → not (x || (y || z)) ≡ true
    tests x y z p q r = rw (p, q, r)

-- no front of bytes that may become a head is hopeless
pub unfinished_hopeful : (bytes : List ℕ) → MayBecomeRequest bytes → ¬ (HasHopelessFront bytes)
unfinished_hopeful bytes (inl (more, head, reads)) (front, rest, split, fits, hopeless) =
    hopeless.never (rest ++ more) head []
    (subst (λ (s : List ℕ). ReadsRequest s head []) (ap (λ s. s ++ more) split ∙ append_assoc front rest more) reads)
unfinished_hopeful bytes (inr (blank, verb, target, token, all, is)) hopeless =
    target_hopeful bytes (blank, verb, target, token, All-weaker _ _ uri_is_target target all, is) hopeless

-- what never has a head has none now
pub never_now : (bytes : List ℕ) → NeverHasRequest bytes → HasNoRequest bytes
never_now bytes never = subst HasNoRequest (append-nil bytes) (never [])

end_some : (end : LineEnd) → 0 < length (print_end end)
end_some crlf = omega arith
end_some lf = omega arith

-- a field has three bytes or more
fields_shorter : (fields : List Field) → All IsField fields → 3 * length fields ≤ length (flat_map print_field fields)
fields_shorter [] each = omega arith
fields_shorter (f ∷ fields) each =
    omega (
      arith,
      fields_shorter fields (All-tail IsField f fields each),
      (All-head IsField f fields each).name.0,
      end_some f.end,
      length-append (print_field f) (flat_map print_field fields),
      length-append (f.name ++ 58 ∷ f.raw) (print_end f.end),
      length-append f.name (58 ∷ f.raw),
    )

-- and a head has three more
pub fields_fit : (head : RequestHead) → All IsField head.fields → 3 * length head.fields + 2 < length (print_request head)
unfolding print_request
fields_fit head each = omega (arith, length-append {A = ℕ}, fields_shorter head.fields each, end_some head.last)

-- so few bytes do not have more fields
pub no_more_fields : (bytes : List ℕ) → length bytes ≤ max_head → ¬ (RequestExceeds 5461 bytes)
no_more_fields bytes short (front, rest, split, head, reads, more) =
    omega (
      arith,
      short,
      more,
      fields_fit head reads.0.fields,
      ap length split,
      length-append front rest,
      ap length (reads.1 ∙ append-nil (print_request head)),
      length-append front (print_end lf),
    )

-- bytes that are enough to look at for a head have each hopeless front that more bytes have
pub hopeless_within : (bytes more : List ℕ) → max_head ≤ length bytes → HasHopelessFront (bytes ++ more) → HasHopelessFront bytes
hopeless_within bytes more full (front, rest, split, fits, hopeless) = step (append_cut bytes more front rest split)
  where
    step : ((q : List ℕ) × (front ≡ bytes ++ q)) ⊎ ((u : List ℕ) × (bytes ≡ front ++ u) × (rest ≡ u ++ more)) → HasHopelessFront bytes
    step (inl ([], cut)) = (front, [], sym (append-nil front ∙ cut ∙ append-nil bytes), fits, hopeless)
    step (inl (x ∷ q, cut)) = absurd (omega (arith, fits, full, ap length cut, length-append bytes (x ∷ q)))
    step (inr (u, cut, left)) = (front, u, cut, fits, hopeless)
