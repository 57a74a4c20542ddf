-- What is decided of a head that is whole.
use Rattle.std.proofs.Common.{◌≡◌, ℕ, Bool, ◌≤◌, List, map, length, take, drop, sym, ◌∙◌, ap, length-append, arith, subst, Some, None}
use Rattle.std.proofs.lemmas.List.{length-map}
use Rattle.httparse.specs.Grammar.{RequestHead, print_request}
use Rattle.httparse.specs.Spans.{span_bytes, header_bytes, IsRequestAt, IsRequestOf, IsRequestWithin}
use Rattle.httparse.specs.declared.spans.HeaderSpan.{HeaderSpan}
use Rattle.httparse.specs.declared.spans.RequestSpans.{RequestSpans}
use Rattle.http1.specs.Fields.{Header, known_fields}
use Rattle.http1.specs.declared.fields.KnownFields.{KnownFields}
use Rattle.lg_http.specs.declared.framing.BodyLength.{BodyLength}
use Rattle.lg_http.specs.declared.heads.Head.{Head}
use Rattle.lg_http.specs.Decisions.{IsHeadAt}
use Rattle.lg_http.proofs.FieldLemmas.{closes_told}
use Rattle.lg_http.specs.Fields.{headers_of, is_sized_in, length_in, closes_in, closes_with}
use Rattle.lg_http.specs.Framing.{Tells}
use Rattle.lg_http.specs.Heads.{max_head, refusal_in, refusal_of}
use Rattle.lg_http.specs.Messages.{BeginsWith, HasRefusedHead}

-- the names and the values that the spans of a head cover
abbrev pub headers_at : List ℕ → List HeaderSpan → RequestSpans → List Header
headers_at bytes fields spans = map (header_bytes bytes) (take spans.headers fields)

begins_with : (bytes : List ℕ) (fields : List HeaderSpan) (spans : RequestSpans) (head : RequestHead)
    → IsRequestAt bytes fields spans head → length bytes ≤ max_head → BeginsWith bytes head (drop spans.len bytes)
begins_with bytes fields spans head at short = record {
  reads = at.reads;
  short = omega (arith, short, ap length at.reads.1, length-append (print_request head) (drop spans.len bytes));
}

-- a head that is refused
pub refused_head : (status : ℕ) (bytes : List ℕ) (fields : List HeaderSpan) (spans : RequestSpans) (head : RequestHead)
    → IsRequestAt bytes fields spans head → length bytes ≤ max_head
    → Some status ≡ refusal_in (headers_at bytes fields spans) → HasRefusedHead status bytes
unfolding refusal_of
refused_head status bytes fields spans head at short refused =
    (head, drop spans.len bytes, begins_with bytes fields spans head at short, ap refusal_in (sym at.fields) ∙ sym refused)

-- what was read of a head that is served
pub record IsFoundBy (found : Head) (bytes : List ℕ) (spans : RequestSpans) (headers : List Header) : Type 0 where
  pub verb : found.verb ≡ spans.method
  pub target : found.target ≡ spans.path
  pub len : found.len ≡ spans.len
  pub size : found.body_len ≡ length_in headers
  pub sized : found.sized ≡ is_sized_in headers
  pub last : found.last ≡ closes_with spans.version (span_bytes bytes spans.method) headers

-- a head that is served
pub served_head : (found : Head) (bytes : List ℕ) (fields : List HeaderSpan) (spans : RequestSpans) (head : RequestHead)
    → IsRequestAt bytes fields spans head → IsRequestWithin bytes fields spans → length bytes ≤ max_head
    → None ≡ refusal_in (headers_at bytes fields spans) → IsFoundBy found bytes spans (headers_at bytes fields spans)
    → IsHeadAt bytes found head
unfolding refusal_of
served_head found bytes fields spans head at within short accepted is = record {
  begins = rw is.len (begins_with bytes fields spans head at short);
  len = is.len ∙ at.len;
  fits = omega (arith, is.len, within.section.len_fits);
  accepted = ap refusal_in (sym at.fields) ∙ sym accepted;
  size = is.size ∙ ap length_in at.fields;
  sized = is.sized ∙ ap is_sized_in at.fields;
  last = is.last ∙ ap (λ hs. closes_with spans.version (span_bytes bytes spans.method) hs) at.fields
      ∙ ap (λ verb. closes_with spans.version verb (headers_of head)) at.method
      ∙ ap (λ minor. closes_with minor head.method (headers_of head)) at.version;
  verb_fits = rw (is.len, is.verb) within.method;
  verb = ap (span_bytes bytes) is.verb ∙ at.method;
  target_fits = rw (is.len, is.target) within.path;
  target = ap (span_bytes bytes) is.target ∙ at.path;
}

-- what is told of the first fields is told of what the spans cover
told_at : (bytes : List ℕ) (fields few : List HeaderSpan) (spans : RequestSpans) (told : BodyLength) → few ≡ take spans.headers fields
    → Tells told (map (header_bytes bytes) few) → Tells told (headers_at bytes fields spans)
told_at bytes fields few spans told same tells = subst (λ (f : List HeaderSpan). Tells told (map (header_bytes bytes) f)) same tells

many_at : (bytes : List ℕ) (fields few : List HeaderSpan) (spans : RequestSpans) → few ≡ take spans.headers fields
    → length few ≡ length (headers_at bytes fields spans)
many_at bytes fields few spans same = ap length same ∙ sym (length-map (take spans.headers fields) (header_bytes bytes))

-- a head that is refused, by what was read of its fields
pub refused_by : (status : ℕ) (bytes : List ℕ) (fields few : List HeaderSpan) (spans : RequestSpans) (told : BodyLength)
    → IsRequestOf bytes fields spans → length bytes ≤ max_head → few ≡ take spans.headers fields
    → Tells told (map (header_bytes bytes) few)
    → ((headers : List Header) → Tells told headers → length few ≡ length headers → Some status ≡ refusal_in headers)
    → HasRefusedHead status bytes
refused_by status bytes fields few spans told whole short same tells refuses =
    refused_head status bytes fields spans whole.0 whole.1 short
    (refuses (headers_at bytes fields spans) (told_at bytes fields few spans told same tells) (many_at bytes fields few spans same))

-- a head that is served, by what was read of its fields
pub served_by : (found : Head) (bytes : List ℕ) (fields few : List HeaderSpan) (spans : RequestSpans) (told : BodyLength)
    (known : KnownFields) (verb : List ℕ) (whole : IsRequestOf bytes fields spans) → IsRequestWithin bytes fields spans
    → length bytes ≤ max_head → few ≡ take spans.headers fields
    → Tells told (map (header_bytes bytes) few) → known ≡ known_fields (map (header_bytes bytes) few)
    → ((headers : List Header) → Tells told headers → length few ≡ length headers → None ≡ refusal_in headers)
    → found.verb ≡ spans.method → found.target ≡ spans.path → found.len ≡ spans.len → verb ≡ span_bytes bytes spans.method
    → ((headers : List Header) → Tells told headers → refusal_in headers ≡ None → found.body_len ≡ length_in headers)
    → ((headers : List Header) → Tells told headers → refusal_in headers ≡ None → found.sized ≡ is_sized_in headers)
    → ((headers : List Header) → found.sized ≡ is_sized_in headers → known.close ≡ closes_in headers
    → found.last ≡ closes_with spans.version verb headers)
    → IsHeadAt bytes found whole.0
served_by found bytes fields few spans told known verb whole within short same tells known_is accepts verb_is target_is len_is word size sized last =
    let headers = headers_at bytes fields spans in
    let of_all = told_at bytes fields few spans told same tells in
    let accepted = accepts headers of_all (many_at bytes fields few spans same) in
    let told_size = sized headers of_all (sym accepted) in
    let asks = closes_told known headers (known_is ∙ ap (λ (f : List HeaderSpan). known_fields (map (header_bytes bytes) f)) same) in
    served_head found bytes fields spans whole.0 whole.1 within short accepted (record {
      verb = verb_is;
      target = target_is;
      len = len_is;
      size = size headers of_all (sym accepted);
      sized = told_size;
      last = last headers told_size asks ∙ ap (λ (v : List ℕ). closes_with spans.version v headers) word;
    })
