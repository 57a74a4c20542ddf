-- Why a stream is read in one way only.
use Rattle.std.proofs.Common.{◌≡◌, ◌⊎◌, inl, inr, ℕ, Bool, true, false, not, cond, nat_lt, List, [], ◌∷◌, ◌++◌, length, refl, sym, ◌∙◌, ap, subst, append_assoc, append-nil, arith, length-append}
use Rattle.std.proofs.lemmas.List.Elements.{All-head, All-tail}
use Rattle.std.specs.Prelude.{Option, Some, None, MatchBool, All}
use Rattle.std.specs.List.{flat_map}
use Rattle.httparse.specs.Grammar.{RequestHead, print_request, ReadsRequest}
use Rattle.httparse.proofs.GrammarLemmas.{request_unique, ReadsRequest-append}
use Rattle.lg_http.proofs.HopeLemmas.{append_cut, hopeless_within}
use Rattle.lg_http.specs.Fields.{headers_of, is_framed, body_length, closes}
use Rattle.lg_http.specs.Heads.{refusal_of}
use Rattle.lg_http.specs.Messages.{IsOverlong, WholeMessage, message_bytes, IsMessage, BeginsWith, WantsMemory, HasHopelessFront, IsBad, IsRefusalStatus, IsUndecided, IsRest, OnlyLastCloses, AreAll}

-- what is at the front of a stream whose first bytes are a message
pub front_of : (message : WholeMessage) (rest : List ℕ) → IsMessage message
    → BeginsWith (message_bytes message ++ rest) message.head (message.body ++ rest)
front_of message rest is = record {
  reads = (is.grammar, append_assoc (print_request message.head) message.body rest);
  short = is.short;
}

-- a head at the front rules out a hopeless one
pub never_hopeless : (bytes : List ℕ) (head : RequestHead) (rest : List ℕ)
    → ReadsRequest bytes head rest → ¬ (HasHopelessFront bytes)
never_hopeless bytes head rest reads (front, more, split, fits, hopeless) =
    hopeless.never more head rest (subst (λ (s : List ℕ). ReadsRequest s head rest) split reads)

two_answers : (refusal : Option ℕ) (status : ℕ) → refusal ≡ None → refusal ≡ Some status → ⊥
two_answers refusal status none some = absurd (cc)

-- a message is not bad
pub message_not_bad : (status : ℕ) (message : WholeMessage) (rest : List ℕ) → IsMessage message
    → ¬ (IsBad status (message_bytes message ++ rest))
message_not_bad status message rest is (inl (head, more, begins, refused)) =
    let same = request_unique _ head message.head _ _ begins.reads (front_of message rest is).reads in
    two_answers (refusal_of head) status (ap refusal_of same.0 ∙ is.accepted) refused
message_not_bad status message rest is (inr (inl (hopeless, code))) =
    never_hopeless _ message.head _ (front_of message rest is).reads hopeless
message_not_bad status message rest is (inr (inr (long, code))) = long.headless message.head _ (front_of message rest is)

-- and not cut short
pub message_not_undecided : (message : WholeMessage) (rest : List ℕ) → IsMessage message
    → ¬ (IsUndecided (message_bytes message ++ rest))
message_not_undecided message rest is (inl (head, more, begins, accepted, less)) =
    let same = request_unique _ head message.head _ _ begins.reads (front_of message rest is).reads in
    omega (arith, less, ap body_length same.0, ap length same.1, length-append message.body rest, is.whole)
message_not_undecided message rest is (inr part) =
    part.headless message.head _ (front_of message rest is).reads

message_not_rest : (message : WholeMessage) (rest : List ℕ) → IsMessage message
    → ¬ (IsRest (message_bytes message ++ rest))
message_not_rest message rest is (inl undecided) = message_not_undecided message rest is undecided
message_not_rest message rest is (inr (status, bad)) = message_not_bad status message rest is bad

-- two fronts of one length and the rests behind them
pub append_split : (a b r q : List ℕ) → length a ≡ length b → a ++ r ≡ b ++ q → (a ≡ b) × (r ≡ q)
append_split [] [] r q same e = (refl, e)
append_split [] (y ∷ b) r q same e = absurd (omega arith)
append_split (x ∷ a) [] r q same e = absurd (omega arith)
append_split (x ∷ a) (y ∷ b) r q same e =
    let first : x ≡ y = cc in
    let more = append_split a b r q (omega arith) (cc) in
    (cc (first, more.0), more.1)

-- one message is read in one way
message_unique : (a b : WholeMessage) (r q : List ℕ) → IsMessage a → IsMessage b
    → message_bytes a ++ r ≡ message_bytes b ++ q → (a ≡ b) × (r ≡ q)
message_unique a b r q x y e =
    let bytes = message_bytes b ++ q in
    let first = subst (λ (s : List ℕ). ReadsRequest s a.head (a.body ++ r)) e (front_of a r x).reads in
    let same = request_unique bytes a.head b.head _ _ first (front_of b q y).reads in
    let lengths : length a.body ≡ length b.body = x.whole ∙ ap body_length same.0 ∙ sym y.whole in
    let rests = append_split a.body b.body r q lengths same.1 in
    (λ i. record { head = same.0 i; body = rests.0 i }, rests.1)

-- two messages that are the same close or they don't, and so what stands behind them is the same
same_behind : (b : Bool) (ms ns : List WholeMessage) (r q : List ℕ)
    → MatchBool b (ms ≡ []) (AreAll ms r) → MatchBool b (ns ≡ []) (AreAll ns q)
    → flat_map message_bytes ms ++ r ≡ flat_map message_bytes ns ++ q
    → (AreAll ms r → AreAll ns q → (ms ≡ ns) × (r ≡ q)) → (ms ≡ ns) × (r ≡ q)
same_behind true ms ns r q one other same more = (
  one ∙ sym other,
  ap (λ s. flat_map message_bytes s ++ r) (sym one) ∙ same ∙ ap (λ s. flat_map message_bytes s ++ q) other,
)
same_behind false ms ns r q one other same more = more one other

closes_alike : (m n : WholeMessage) (ns : List WholeMessage) (q : List ℕ) → m ≡ n
    → MatchBool (closes n.head) (ns ≡ []) (AreAll ns q) → MatchBool (closes m.head) (ns ≡ []) (AreAll ns q)
closes_alike m n ns q same all = subst (λ (w : WholeMessage). MatchBool (closes w.head) (ns ≡ []) (AreAll ns q)) (sym same) all

-- a stream is read in one way
pub reading_unique : (ms ns : List WholeMessage) (r q : List ℕ)
    → All IsMessage ms → All IsMessage ns → AreAll ms r → AreAll ns q
    → flat_map message_bytes ms ++ r ≡ flat_map message_bytes ns ++ q → (ms ≡ ns) × (r ≡ q)
reading_unique [] [] r q x y u v e = (refl, e)
reading_unique [] (n ∷ ns) r q x y u v e =
    absurd (message_not_rest n (flat_map message_bytes ns ++ q) (All-head IsMessage n ns y)
    (subst IsRest (e ∙ append_assoc (message_bytes n) (flat_map message_bytes ns) q) u))
reading_unique (m ∷ ms) [] r q x y u v e =
    absurd (message_not_rest m (flat_map message_bytes ms ++ r) (All-head IsMessage m ms x)
    (subst IsRest (sym e ∙ append_assoc (message_bytes m) (flat_map message_bytes ms) r) v))
reading_unique (m ∷ ms) (n ∷ ns) r q x y u v e =
    let first = message_unique m n (flat_map message_bytes ms ++ r) (flat_map message_bytes ns ++ q)
    (All-head IsMessage m ms x) (All-head IsMessage n ns y)
    (sym (append_assoc (message_bytes m) (flat_map message_bytes ms) r) ∙ e
    ∙ append_assoc (message_bytes n) (flat_map message_bytes ns) q) in
    let more = same_behind (closes m.head) ms ns r q u (closes_alike m n ns q first.0 v) first.1
    (λ one other. reading_unique ms ns r q (All-tail IsMessage m ms x) (All-tail IsMessage n ns y) one other first.1) in
    (cc (first.0, more.0), more.1)

-- where a message closes nothing stands behind it, here and there
more_behind : (b : Bool) (ms ns : List WholeMessage) (q : List ℕ)
    → MatchBool b (ms ≡ []) (OnlyLastCloses ms) → MatchBool b (ns ≡ []) (AreAll ns q)
    → (OnlyLastCloses ms → AreAll ns q → (more : List WholeMessage) × (ns ≡ ms ++ more)) → (more : List WholeMessage) × (ns ≡ ms ++ more)
more_behind true ms ns q one other more = ([], other ∙ ap (λ s. s ++ []) (sym one))
more_behind false ms ns q one other more = more one other

-- messages at the front of a stream are its first, whatever stands behind them
pub reading_front : (ms ns : List WholeMessage) (r q : List ℕ)
    → All IsMessage ms → All IsMessage ns → OnlyLastCloses ms → AreAll ns q
    → flat_map message_bytes ms ++ r ≡ flat_map message_bytes ns ++ q → (more : List WholeMessage) × (ns ≡ ms ++ more)
reading_front [] ns r q x y u v e = (ns, refl)
reading_front (m ∷ ms) [] r q x y u v e =
    absurd (message_not_rest m (flat_map message_bytes ms ++ r) (All-head IsMessage m ms x)
    (subst IsRest (sym e ∙ append_assoc (message_bytes m) (flat_map message_bytes ms) r) v))
reading_front (m ∷ ms) (n ∷ ns) r q x y u v e =
    let first = message_unique m n (flat_map message_bytes ms ++ r) (flat_map message_bytes ns ++ q)
    (All-head IsMessage m ms x) (All-head IsMessage n ns y)
    (sym (append_assoc (message_bytes m) (flat_map message_bytes ms) r) ∙ e
    ∙ append_assoc (message_bytes n) (flat_map message_bytes ns) q) in
    let more = more_behind (closes m.head) ms ns q u (closes_alike m n ns q first.0 v)
    (λ one other. reading_front ms ns r q (All-tail IsMessage m ms x) (All-tail IsMessage n ns y) one other first.1) in
    (more.0, cc (first.0, more.1))

-- what is bad has no head at its front that is served
pub bad_not_served : (status : ℕ) (rest : List ℕ) → IsBad status rest → ¬ (WantsMemory rest)
bad_not_served status rest (inl (head, more, begins, refused)) (other, left, starts, accepted) =
    let same = request_unique rest head other more left begins.reads starts.reads in
    two_answers (refusal_of head) status (ap refusal_of same.0 ∙ accepted) refused
bad_not_served status rest (inr (inl (hopeless, code))) (other, left, starts, accepted) =
    never_hopeless rest other left starts.reads hopeless
bad_not_served status rest (inr (inr (long, code))) (other, left, starts, accepted) = long.headless other left starts

-- what is bad is not cut short
pub bad_not_undecided : (status : ℕ) (rest : List ℕ) → IsBad status rest → ¬ (IsUndecided rest)
bad_not_undecided status rest bad (inl (head, more, begins, accepted, less)) = bad_not_served status rest bad (head, more, begins, accepted)
bad_not_undecided status rest (inl (head, more, begins, refused)) (inr part) = part.headless head more begins.reads
bad_not_undecided status rest (inr (inl (hopeless, code))) (inr part) = part.hopeful hopeless
bad_not_undecided status rest (inr (inr (long, code))) (inr part) = omega (arith, long.full, part.short)

refusals : (framed many long : Bool) (status : ℕ)
    → cond (not framed) (Some 400) (cond many (Some 431) (cond long (Some 413) None)) ≡ Some status → IsRefusalStatus status
refusals false many long status e = inl (cc)
refusals true true long status e = inr (inr (cc))
refusals true false true status e = inr (inl (cc))
refusals true false false status e = absurd (cc)

-- what is bad has one of three statuses
pub bad_status : (status : ℕ) (rest : List ℕ) → IsBad status rest → IsRefusalStatus status
unfolding refusal_of
bad_status status rest (inl (head, more, begins, refused)) =
    refusals (is_framed head) (nat_lt 64 (length (headers_of head))) (nat_lt 1048576 (body_length head)) status refused
bad_status status rest (inr (inl (hopeless, code))) = inl code
bad_status status rest (inr (inr (long, code))) = inr (inr code)

some_same : (m n : ℕ) (refusal : Option ℕ) → refusal ≡ Some m → refusal ≡ Some n → m ≡ n
some_same m n refusal one other = cc

-- what is bad has one status
pub one_status : (status other : ℕ) (rest : List ℕ) → IsBad status rest → IsBad other rest → status ≡ other
one_status status other rest (inl (head, more, begins, refused)) (inl (found, left, starts, refuses)) =
    let same = request_unique rest head found more left begins.reads starts.reads in
    some_same status other (refusal_of head) refused (ap refusal_of same.0 ∙ refuses)
one_status status other rest (inl (head, more, begins, refused)) (inr (inl (hopeless, code))) =
    absurd (never_hopeless rest head more begins.reads hopeless)
one_status status other rest (inl (head, more, begins, refused)) (inr (inr (long, code))) = absurd (long.headless head more begins)
one_status status other rest (inr (inl (hopeless, code))) (inl (head, more, begins, refused)) =
    absurd (never_hopeless rest head more begins.reads hopeless)
one_status status other rest (inr (inl (hopeless, code))) (inr (inl (too, same))) = code ∙ sym same
one_status status other rest (inr (inl (hopeless, code))) (inr (inr (long, same))) = absurd (long.hopeful hopeless)
one_status status other rest (inr (inr (long, code))) (inl (head, more, begins, refused)) = absurd (long.headless head more begins)
one_status status other rest (inr (inr (long, code))) (inr (inl (hopeless, same))) = absurd (long.hopeful hopeless)
one_status status other rest (inr (inr (long, code))) (inr (inr (too, same))) = code ∙ sym same

-- as many bytes as are looked at have no head, whatever follows
overlong_stays : (bytes more : List ℕ) → IsOverlong bytes → IsOverlong (bytes ++ more)
overlong_stays bytes more long = record {
  full = omega (arith, long.full, length-append bytes more);
  headless = λ head rest begins.
      step head rest begins (append_cut (print_request head) rest bytes more (sym begins.reads.1));
  hopeful = λ hopeless. long.hopeful (hopeless_within bytes more long.full hopeless);
}
  where
    step : (head : RequestHead) (rest : List ℕ) → BeginsWith (bytes ++ more) head rest
        → ((q : List ℕ) × (bytes ≡ print_request head ++ q))
        ⊎ ((u : List ℕ) × (print_request head ≡ bytes ++ u) × (more ≡ u ++ rest)) → ⊥
    step head rest begins (inl (q, cut)) = long.headless head q (record { reads = (begins.reads.0, cut); short = begins.short })
    step head rest begins (inr ([], cut, left)) =
        long.headless head [] (record {
          reads = (begins.reads.0, sym (append-nil bytes) ∙ sym cut ∙ sym (append-nil (print_request head)));
          short = begins.short;
        })
    step head rest begins (inr (x ∷ u, cut, left)) =
        omega (arith, begins.short, long.full, ap length cut, length-append bytes (x ∷ u))

-- what is bad stays bad
pub bad_for_good : (status : ℕ) (bytes more : List ℕ) → IsBad status bytes → IsBad status (bytes ++ more)
bad_for_good status bytes more (inl (head, rest, begins, refused)) =
    inl (head, rest ++ more, record { reads = ReadsRequest-append bytes head rest more begins.reads; short = begins.short }, refused)
bad_for_good status bytes more (inr (inl ((front, rest, split, fits, hopeless), code))) =
    inr (inl ((front, rest ++ more, ap (λ s. s ++ more) split ∙ append_assoc front rest more, fits, hopeless), code))
bad_for_good status bytes more (inr (inr (long, code))) = inr (inr (overlong_stays bytes more long, code))
