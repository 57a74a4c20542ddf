-- What a whole head gives: the message, or a body that arrives.
use Rattle.std.proofs.Common.{Bool, true, false, ◌≡◌, inl, ℕ, ◌+◌, ◌-◌, ◌<◌, ◌≤◌, List, [], ◌∷◌, ◌++◌, length, take, drop, refl, sym, ◌∙◌, ap, subst, append-nil, append_assoc, length-append, take-append-drop, arith, Option, Some, None}
use Rattle.std.specs.Prelude.{◌==◌, is_none}
use Rattle.std.proofs.lemmas.Bool.{ne_eqb}
use Rattle.std.proofs.lemmas.Grind.{common_steps}
use Rattle.std.proofs.lemmas.List.{drop-drop}
use Rattle.httparse.specs.Grammar.{RequestHead, print_request}
use Rattle.lg_http.proofs.FieldLemmas.{short_body}
use Rattle.lg_http.proofs.HopeLemmas.{fields_fit}
use Rattle.lg_http.specs.declared.heads.Head.{Head}
use Rattle.lg_http.specs.declared.incoming.Incoming.{Incoming}
use Rattle.lg_http.specs.declared.message.Message.{Message}
use Rattle.lg_http.specs.declared.message.Next.{Next}
use Rattle.lg_io.specs.declared.source.ReadStep.{ReadStep}
use Rattle.lg_io.specs.declared.source.ReadStep.TheVariants.{Bytes, End, Quiet, Failed}
use Rattle.lg_http.specs.Answers.{max_quiets, Shows}
use Rattle.lg_http.specs.Arrival.{Arrival, Begins}
use Rattle.lg_http.specs.Decisions.{IsHeadAt}
use Rattle.lg_http.specs.Fields.{headers_of, body_length}
use Rattle.lg_http.specs.Heads.{max_head, refusal_of, IsAccepted}
use Rattle.lg_http.specs.Given.{IsGiven, OnNothing}
use Rattle.lg_http.specs.Incoming.{IsArriving, IsKept, IsReady, IsSound, HasRoom, Finds, bytes_of, kept_bytes}
use Rattle.lg_http.specs.Messages.{WholeMessage, message_bytes, IsMessage, IsUndecided}

-- a message with the parts of an arrival
pub record IsOf (message : Message) (arrival : Arrival) : Type 0 where
  pub verb_is : message.verb ≡ arrival.verb
  pub target_is : message.target ≡ arrival.target
  pub body_is : message.body.items ≡ arrival.read
  pub sized_is : message.sized ≡ arrival.sized
  pub last_is : message.last ≡ arrival.last

-- a message is whole, and left is what stands behind it
abbrev pub IsFound : Message → List ℕ → List ℕ → Type 0
IsFound message bytes left =
    (whole : WholeMessage) × IsMessage whole × Shows message whole × (bytes ≡ message_bytes whole ++ left)

-- the body that arrived is whole
pub body_found : (window left : List ℕ) (arrival : Arrival) (head : RequestHead) (message : Message)
    → IsArriving window arrival head → length arrival.read ≡ arrival.size → IsOf message arrival → left ≡ []
    → IsFound message (window ++ arrival.read) left
body_found window left arrival head message is whole of none = (
  record { head = head; body = arrival.read },
  record {
    grammar = is.grammar;
    short = subst (λ (w : List ℕ). length w ≤ max_head) is.whole is.short;
    accepted = is.accepted;
    whole = whole ∙ is.size_is;
  },
  record {
    verb = of.verb_is ∙ is.verb_is;
    target = of.target_is ∙ is.target_is;
    body = of.body_is;
    sized = of.sized_is ∙ is.sized_is;
    last = of.last_is ∙ is.last_is;
  },
  ap (λ w. w ++ arrival.read) is.whole ∙ sym (append-nil (print_request head ++ arrival.read))
      ∙ ap (λ l. (print_request head ++ arrival.read) ++ l) (sym none),
)

-- the body stands in the window as a whole
pub message_found : (bytes left : List ℕ) (found : Head) (head : RequestHead) (arrival : Arrival) (message : Message)
    → IsHeadAt bytes found head → Begins bytes found arrival → length arrival.read ≡ arrival.size → IsOf message arrival
    → left ≡ drop (found.len + found.body_len) bytes → IsFound message bytes left
message_found bytes left found head arrival message at begins whole of is = (
  record { head = head; body = arrival.read },
  record {
    grammar = at.begins.reads.0;
    short = at.begins.short;
    accepted = at.accepted;
    whole = whole ∙ begins.size_is ∙ at.size;
  },
  record {
    verb = of.verb_is ∙ begins.verb_is ∙ at.verb;
    target = of.target_is ∙ begins.target_is ∙ at.target;
    body = of.body_is;
    sized = of.sized_is ∙ begins.sized_is ∙ at.sized;
    last = of.last_is ∙ begins.last_is ∙ at.last;
  },
  at.begins.reads.1 ∙ ap (λ d. print_request head ++ d) behind ∙ sym (append_assoc (print_request head) arrival.read left),
)
  where
    behind : drop found.len bytes ≡ arrival.read ++ left
    behind =
        sym (take-append-drop found.body_len (drop found.len bytes))
        ∙ ap (λ t. t ++ drop found.body_len (drop found.len bytes)) (sym begins.read_is)
        ∙ ap (λ t. arrival.read ++ t) (drop-drop found.body_len found.len bytes ∙ sym is)

take_fewer : (n : ℕ) (bytes : List ℕ) → length (take n bytes) < n → take n bytes ≡ bytes
take_fewer n bytes fewer = grind (arith, common_steps)

-- a head that is served has no long body
short_head : (head : RequestHead) → IsAccepted head → body_length head ≤ 1048576
unfolding refusal_of
short_head head accepted = short_body (headers_of head) accepted

-- the body is cut short
pub body_cut : (bytes : List ℕ) (found : Head) (head : RequestHead) (arrival : Arrival)
    → IsHeadAt bytes found head → Begins bytes found arrival → length arrival.read < arrival.size
    → (take found.len bytes ++ arrival.read ≡ bytes) × IsUndecided bytes
    × (arrival.size - length arrival.read ≤ 1048577 + (max_head - length bytes))
body_cut bytes found head arrival at begins less =
    let rest = drop found.len bytes in
    let fewer : length (take found.body_len rest) < found.body_len = omega (arith, ap length begins.read_is, begins.size_is, less) in
    let all : arrival.read ≡ rest = begins.read_is ∙ take_fewer found.body_len rest fewer in
    let size = short_head head at.accepted in (
      ap (λ t. take found.len bytes ++ t) all ∙ take-append-drop found.len bytes,
      inl (
        head,
        rest,
        at.begins,
        at.accepted,
        omega (arith, ap length all, begins.size_is, less, at.size),
      ),
      omega (arith, size, begins.size_is, at.size),
    )

-- a test for the last place failed
pub below_last : (m n : ℕ) (test : Bool) → m ≤ n → (m ≡ n → test ≡ true) → test ≡ false → m < n
below_last m n test within last fails =
    let other : m ≡ n → ⊥ = λ e. (let both : true ≡ false = sym (last e) ∙ fails in absurd (cc)) in omega (arith, other)

empty_list : (xs : List ℕ) (test : Bool) → test ≡ (length xs == 0) → (test ≡ true → xs ≡ []) × (xs ≡ [] → test ≡ true)
empty_list [] test is = (λ e. refl, λ e. is)
empty_list (x ∷ xs) test is =
    let fails : test ≡ false = is ∙ ne_eqb (length (x ∷ xs)) 0 (λ e. omega arith) in
    (λ e. absurd (cc), λ e. absurd (cc))

-- nothing is kept exactly where the window is empty, since a head is not empty
pub kept_empty : (window : List ℕ) (arriving : Option Arrival) (test : Bool) → IsKept window arriving
    → test ≡ (length window == 0) → (test ≡ true → kept_bytes window arriving ≡ []) × (kept_bytes window arriving ≡ [] → test ≡ true)
kept_empty window None test kept is = empty_list window test is
kept_empty window (Some arrival) test (head, kept) is = (
  λ e. absurd (some (ap length ((empty_list window test is).0 e))),
  λ e. absurd (some (zero_front (length window) (length arrival.read) (sym (length-append window arrival.read) ∙ ap length e))),
)
  where
    some : length window ≡ 0 → ⊥
    some none = omega (arith, none, ap length kept.whole, fields_fit head kept.grammar.fields)

    zero_front : (m n : ℕ) → m + n ≡ 0 → m ≡ 0
    zero_front m n e = omega arith

-- a window that isn't full, and an arrival that isn't whole, stay so where nothing came
pub window_stays : (step : ReadStep) (got old new : List ℕ) → IsGiven step got → new ≡ old ++ got → length old < max_head
    → OnNothing step (length new < max_head)
window_stays (Bytes count) got old new given grows less = tt
window_stays End got old new given grows less = omega (arith, less, ap length grows, length-append old got, ap length given)
window_stays Quiet got old new given grows less = omega (arith, less, ap length grows, length-append old got, ap length given)
window_stays Failed got old new given grows less = omega (arith, less, ap length grows, length-append old got, ap length given)

unread : (got : List ℕ) (old new : Arrival) → got ≡ [] → new ≡ record old { read = old.read ++ got } → length old.read < old.size
    → length new.read < new.size
unread got old new none grows less =
    omega (arith, less, ap (λ a. length a.read) grows, ap (λ a. a.size) grows, length-append old.read got, ap length none)

pub arrival_stays : (step : ReadStep) (got : List ℕ) (old new : Arrival) → IsGiven step got → new ≡ record old { read = old.read ++ got }
    → length old.read < old.size → OnNothing step (length new.read < new.size)
arrival_stays (Bytes count) got old new given grows less = tt
arrival_stays End got old new given grows less = unread got old new given grows less
arrival_stays Quiet got old new given grows less = unread got old new given grows less
arrival_stays Failed got old new given grows less = unread got old new given grows less

-- what waits and got nothing is ready to read again
pub still_ready : (old new : Incoming) → IsSound new → bytes_of new ≡ bytes_of old → IsUndecided (bytes_of old) → HasRoom new
    → new.quiets < max_quiets → IsReady new
still_ready old new sound same undecided room few = record {
  sound = sound;
  waiting = λ e. (subst IsUndecided (sym same) undecided, room);
  quiets = few;
}

-- what was looked at waits exactly where nothing was found
pub looked : (old new : Incoming) (found : Option Next) (waits : Bool) → Finds old found new → IsSound new → new.quiets < max_quiets
    → waits ≡ is_none found → IsReady (record new { is_waiting = waits })
looked old new None waits finds sound few is = record {
  sound = sound;
  waiting = λ e. (subst IsUndecided (sym finds.0) finds.1, finds.2);
  quiets = few;
}
looked old new (Some answer) waits finds sound few is = record {
  sound = sound;
  waiting = λ e. absurd (cc);
  quiets = few;
}
