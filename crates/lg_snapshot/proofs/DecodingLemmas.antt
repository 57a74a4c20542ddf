-- What reading bytes as a state, and comparing them with its text, comes to.
use Rattle.std.proofs.Common.{◌≡◌, ℕ, Bool, true, false, ◌&&◌, List, Option, Some, None, option_and_then, Result, Ok, Err, refl, sym, ap, subst, ◌∙◌}
use Rattle.std.specs.Prelude.{if◌then◌else◌, IfOk, IfSome, IsUtf8}
use Rattle.std.specs.Result.{IsErrAnd}
use Rattle.std.specs.Str.{bytes_eq}
use Rattle.std.proofs.lemmas.Result.{err_from_is_err_and}
use Rattle.serde_json.specs.Find.{as_object}
use Rattle.serde_json.specs.View.{view}
use Rattle.serde_json.specs.declared.value.Value.{Value}
use Rattle.lg_calls.specs.declared.settings.Settings.{Settings}
use Rattle.lg_calls.specs.declared.state.State.{State}
use Rattle.lg_snapshot.specs.declared.entries.Entries.{Entries}
use Rattle.lg_snapshot.specs.declared.entries.Unread.{Unread}
use Rattle.lg_snapshot.specs.declared.entries.Unread.TheVariants.{Other, NoMemory}
use Rattle.lg_snapshot.specs.Parsing.{Parses, Says, Checks}
use Rattle.lg_snapshot.specs.Reading.{Answers, Reads, left_in, record_in}
use Rattle.lg_snapshot.specs.Records.{tree_of_state}
use Rattle.lg_snapshot.specs.Snapshot.{snapshot_text, IsHeldState, IsSnapshotOf}
use Rattle.lg_snapshot.specs.StateReading.{state}
use Rattle.lg_snapshot.specs.Validity.{passes}
use Rattle.lg_snapshot.proofs.AsciiLemmas.{QuotesArePrintable, line-utf8}
use Rattle.lg_snapshot.proofs.Names.{name_is, same_bytes}
use Rattle.lg_snapshot.proofs.OrderLemmas.{both, first_of, second_of}
use Rattle.lg_snapshot.proofs.ReadingLemmas.{no_object, object_reads}
use Rattle.lg_snapshot.proofs.StateBack.{snapshot_back}
use Rattle.lg_snapshot.proofs.ValidityLemmas.{passes-valid, valid-passes}

-- ---- what the bytes say

says_none : (settings : Settings) (bytes : List ℕ) (fault : Unread) → Parses bytes (Err fault) → Says settings bytes (Err fault)
says_none settings bytes Other is = λ utf8. ap (option_and_then (record_in (state settings))) (is utf8)
says_none settings bytes NoMemory is = λ utf8. tt

-- the bytes are no value
pub unparsed : (settings : Settings) (bytes : List ℕ) (fault : Unread) (result : Result State Unread)
    → Parses bytes (Err fault) → IsErrAnd result (λ told. told ≡ fault) → Says settings bytes result
unparsed settings bytes fault result is told =
    let p = err_from_is_err_and result told in
    rw (p.1, p.2) (says_none settings bytes fault is)

of_value : (settings : Settings) (bytes : List ℕ) (value : Value) (result : Result State Unread)
    → Parses bytes (Ok value) → Answers result (record_in (state settings) (view value)) → Says settings bytes result
of_value settings bytes value result is answer =
    λ utf8. subst (λ found. Answers result (option_and_then (record_in (state settings)) found)) (sym is) answer

-- the value is no object
pub no_members : (settings : Settings) (bytes : List ℕ) (value : Value) (fault : Unread) (result : Result State Unread)
    → Parses bytes (Ok value) → (fault ≡ Other) × (as_object (view value) ≡ None) → IsErrAnd result (λ told. told ≡ fault) → Says settings bytes result
no_members settings bytes value fault result is none told =
    of_value settings bytes value result is (no_object (state settings) (view value) fault result none told)

-- the value's members were read
pub members_said : (settings : Settings) (bytes : List ℕ) (value : Value) (before after : Entries) (result : Result State Unread)
    → Parses bytes (Ok value) → as_object (view value) ≡ Some (left_in before) → Reads (state settings) before after result → Says settings bytes result
members_said settings bytes value before after result is all said =
    of_value settings bytes value result is (object_reads (state settings) (view value) before after result all said)

-- ---- the state that they say

-- a state with other settings that are the same
pub with_settings : (s : State) (settings : Settings) → s.settings ≡ settings → s ≡ record s { settings = settings }
with_settings s settings is = λ i. record s { settings = is i }

some_is : (s t : State) → ◌≡◌ {A = Option State} (Some s) (Some t) → s ≡ t
some_is s t is = cc

where_checked : (settings : Settings) (s : State) (bytes : List ℕ) (b : Bool) → (passes s && bytes_eq (snapshot_text s) bytes) ≡ b → s.settings ≡ settings → s.pruned ≡ None
    → IfSome (if b then Some s else None) (λ t. IsSnapshotOf settings t bytes)
where_checked settings s bytes false is set unpruned = tt
where_checked settings s bytes true is set unpruned = record {
  valid = passes-valid s (first_of _ _ is);
  has_settings = set;
  unpruned = unpruned;
  text = name_is (snapshot_text s) bytes (second_of _ _ is);
}

-- what passes the comparison is a state of which the bytes are the snapshot
pub checked_found : {E : Type 0} (settings : Settings) (s : State) (bytes : List ℕ) (result : Result (Option State) E) → IfOk result (Checks s bytes)
    → s.settings ≡ settings → s.pruned ≡ None → IfOk result (λ found. IfSome found (λ t. IsSnapshotOf settings t bytes))
checked_found settings s bytes (Ok found) is set unpruned =
    subst (λ o. IfSome o (λ t. IsSnapshotOf settings t bytes)) (sym is) (where_checked settings s bytes (passes s && bytes_eq (snapshot_text s) bytes) refl set unpruned)
checked_found settings s bytes (Err fault) is set unpruned = tt

text-utf8 : QuotesArePrintable → (settings : Settings) (t : State) (bytes : List ℕ) → IsHeldState t → IsSnapshotOf settings t bytes → IsUtf8 bytes
unfolding snapshot_text
text-utf8 printable settings t bytes held is = subst IsUtf8 is.text (line-utf8 printable (tree_of_state t) held.tree)

passes_with : (settings : Settings) (t : State) (bytes : List ℕ) → IsSnapshotOf settings t bytes → (passes t && bytes_eq (snapshot_text t) bytes) ≡ true
passes_with settings t bytes is =
    both _ _ (valid-passes t is.valid) (subst (λ text. bytes_eq (snapshot_text t) text ≡ true) is.text (same_bytes (snapshot_text t)))

-- a state of which the bytes are the snapshot is the one that they say, and is found
pub checked_only : {E : Type 0} → QuotesArePrintable → (settings : Settings) (s : State) (bytes : List ℕ) (result : Result (Option State) E) → Says settings bytes (Ok s) → IfOk result (Checks s bytes)
    → IfOk result (λ found. (t : State) → IsHeldState t → IsSnapshotOf settings t bytes → found ≡ Some t)
checked_only printable settings s bytes (Ok found) said is = λ t held snapshot.
    let same : s ≡ t = some_is s t (sym (said (text-utf8 printable settings t bytes held snapshot)) ∙ snapshot_back settings t bytes held snapshot) in
    let compared : Checks t bytes found = subst (λ u. Checks u bytes found) same is in
    compared ∙ ap (λ b. if b then Some t else None) (passes_with settings t bytes snapshot)
checked_only printable settings s bytes (Err fault) said is = tt

-- where the bytes say no state, they are the snapshot of none
pub none_only : QuotesArePrintable → (settings : Settings) (bytes : List ℕ) (fault : Unread) → fault ≡ Other → Says settings bytes (Err fault)
    → (t : State) → IsHeldState t → IsSnapshotOf settings t bytes → ◌≡◌ {A = Option State} None (Some t)
none_only printable settings bytes fault other said t held snapshot =
    let none : Says settings bytes (Err Other) = subst (λ f. Says settings bytes (Err f)) other said in
    sym (none (text-utf8 printable settings t bytes held snapshot)) ∙ snapshot_back settings t bytes held snapshot

-- a state that memory holds is found again in its snapshot
pub found_again : {E : Type 0} (settings : Settings) (s : State) (bytes : List ℕ) (result : Result (Option State) E) → IsHeldState s → IsSnapshotOf settings s bytes
    → IfOk result (λ found. (t : State) → IsHeldState t → IsSnapshotOf settings t bytes → found ≡ Some t) → IfOk result (λ found. found ≡ Some s)
found_again settings s bytes (Ok found) held is only = only s held is
found_again settings s bytes (Err fault) held is only = tt
