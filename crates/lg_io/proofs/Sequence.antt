-- One write after another, as one write.
use Rattle.std.proofs.Common.{◌≡◌, ℕ, ◌<◌, List, [], ◌++◌, Option, Result, Ok, Err, refl, sym, ◌∙◌, ap, subst, arith, append_assoc, true≢false}
use Rattle.std.proofs.lemmas.List.{append-nil}
use Rattle.std.specs.Prelude.{IsErr}
use Rattle.lg_base.specs.declared.faults.Failed.{Failed}
use Rattle.lg_io.specs.Cause.{HasCause}
use Rattle.lg_io.specs.Rest.{Rest}
use Rattle.lg_io.specs.Sink.{IsPrefix, Takes, WritesAll}
use Rattle.lg_io.specs.Writes.{Writes}
use Rattle.lg_io.proofs.Writes.{Takes-nothing, Takes-append}

abbrev pub Outcome : Type 0
Outcome = Result (Unit {0}) Failed

-- a write that didn't fail
abbrev pub done : Outcome
done = Ok tt

-- a sink took a front of a text
abbrev pub TakesFront : Option (List ℕ) → Option (List ℕ) → List ℕ → Type 0
TakesFront before after text = (front : List ℕ) × IsPrefix front text × Takes before after front

-- the front of a piece is one of the text
pub front_of_piece : (before after : Option (List ℕ)) (x y : List ℕ) → TakesFront before after x → TakesFront before after (x ++ y)
front_of_piece before after x y (front, (left, is), took) = (front, (left ++ y, ap (λ text. text ++ y) is ∙ append_assoc front left y), took)

-- a piece with a front of the rest is one too
pub front_behind : (before middle after : Option (List ℕ)) (x y : List ℕ) → Takes before middle x → TakesFront middle after y → TakesFront before after (x ++ y)
front_behind before middle after x y first (front, (left, is), took) =
    (x ++ front, (left, ap (λ text. x ++ text) is ∙ sym (append_assoc x front left)), Takes-append before middle after x front first took)

-- a piece was written, and then the rest
pub written_behind : {T E : Type 0} (before middle after : Option (List ℕ)) (x y : List ℕ) (result : Result T E)
    → Takes before middle x → WritesAll middle after y result → WritesAll before after (x ++ y) result
written_behind before middle after x y (Ok value) first second = Takes-append before middle after x y first second
written_behind before middle after x y (Err fault) first second = front_behind before middle after x y first second

-- where a write fails, the text may go on in any way
written_before : (before after : Option (List ℕ)) (x y : List ℕ) (e : Failed) (outcome : Outcome) → IsErr outcome
    → WritesAll {T = Unit {0}} before after x (Err e) → WritesAll before after (x ++ y) outcome
written_before before after x y e (Ok value) failed part = absurd (true≢false (sym failed))
written_before before after x y e (Err f) failed part = front_of_piece before after x y part

-- a call that didn't fail left the count of faults as it was
unmoved : (before after : ℕ) → HasCause before after (IsErr done) → before ≡ after
unmoved before after cause =
    let never : before < after → ⊥ = λ h. true≢false (sym (cause.rises.1 h)) in
    omega (arith, cause.never_falls, never)

-- of the text that was to be written, all is written but what is left
pub record WritesUpTo {S : Type 0} (taken : S → Option (List ℕ)) (faults : S → ℕ) (others : S → Rest) (old new : S) (text left : List ℕ) : Type 0 where
  pub front : List ℕ
  pub split : text ≡ front ++ left
  pub writes : Writes taken faults others old new front done

module _ {S : Type 0} {taken : S → Option (List ℕ)} {faults : S → ℕ} {others : S → Rest} where
  -- nothing is written yet
  pub Writes-nothing : (s : S) → Writes taken faults others s s [] done
  Writes-nothing s = record {
    told = Takes-nothing (taken s);
    cause = record { never_falls = omega arith; rises = (λ h. absurd (true≢false (sym h)), λ h. absurd (omega arith)) };
    rest = refl;
  }

  -- a whole text, and then another
  pub Writes-then : (a b c : S) (x y : List ℕ) (outcome : Outcome) → Writes taken faults others a b x done
      → Writes taken faults others b c y outcome → Writes taken faults others a c (x ++ y) outcome
  Writes-then a b c x y outcome first second = record {
    told = written_behind (taken a) (taken b) (taken c) x y outcome first.told second.told;
    cause = rw (unmoved (faults a) (faults b) first.cause) second.cause;
    rest = second.rest ∙ first.rest;
  }

  -- a write that fails, before more that is not written
  pub Writes-cut : (a b : S) (x y : List ℕ) (e : Failed) (outcome : Outcome) → IsErr outcome
      → Writes taken faults others a b x (Err e) → Writes taken faults others a b (x ++ y) outcome
  Writes-cut a b x y e outcome failed part = record {
    told = written_before (taken a) (taken b) x y e outcome failed part.told;
    cause = record { never_falls = part.cause.never_falls; rises = (λ _. part.cause.rises.0 refl, λ _. failed) };
    rest = part.rest;
  }

  -- the same text in other words
  pub Writes-same : (a b : S) (x y : List ℕ) (outcome : Outcome) → x ≡ y → Writes taken faults others a b x outcome
      → Writes taken faults others a b y outcome
  Writes-same a b x y outcome same wrote = subst (λ (text : List ℕ). Writes taken faults others a b text outcome) same wrote

  pub UpTo-start : (s : S) (text : List ℕ) → WritesUpTo taken faults others s s text text
  UpTo-start s text = record { front = []; split = refl; writes = Writes-nothing s }

  -- one more piece is written
  pub UpTo-piece : (a b c : S) (text piece left : List ℕ) → WritesUpTo taken faults others a b text (piece ++ left) → Writes taken faults others b c piece done → WritesUpTo taken faults others a c text left
  UpTo-piece a b c text piece left before wrote = record {
    front = before.front ++ piece;
    split = before.split ∙ sym (append_assoc before.front piece left);
    writes = Writes-then a b c before.front piece done before.writes wrote;
  }

  -- the last piece is written, or its write fails
  pub UpTo-last : (a b c : S) (text piece : List ℕ) (outcome : Outcome) → WritesUpTo taken faults others a b text piece → Writes taken faults others b c piece outcome → Writes taken faults others a c text outcome
  UpTo-last a b c text piece outcome before wrote = rw before.split (Writes-then a b c before.front piece outcome before.writes wrote)

  -- the write of a piece fails, and the rest of the text is not written
  pub UpTo-failed : (a b c : S) (text piece left : List ℕ) (e : Failed) (outcome : Outcome) → WritesUpTo taken faults others a b text (piece ++ left) → Writes taken faults others b c piece (Err e) → IsErr outcome
      → Writes taken faults others a c text outcome
  UpTo-failed a b c text piece left e outcome before part failed = UpTo-last a b c text (piece ++ left) outcome before (Writes-cut b c piece left e outcome failed part)

  -- nothing is left
  pub UpTo-end : (a b : S) (text : List ℕ) → WritesUpTo taken faults others a b text [] → Writes taken faults others a b text done
  UpTo-end a b text before = rw (before.split ∙ append-nil before.front) before.writes
