-- Where a request target begins, and what may become of bytes that end inside one.
use Rattle.std.proofs.Common.{◌≡◌, ℕ, ◌+◌, ◌-◌, ◌<◌, Bool, true, false, not, cond, ◌&&◌, eqb, nat_lt, List, [], ◌∷◌, ◌++◌, suc, length, take, drop, refl, sym, ◌∙◌, ap, subst, append_assoc, append-nil, length-append, arith, Some, None}
use Rattle.std.specs.List.{list_all, position_or_len, position, before_first, after_first}
use Rattle.std.proofs.Math.Seq.{take-append_seam}
use Rattle.std.proofs.lemmas.Bool.{eqb-true, ltb-true, lt-ltb, false_from_ne_true}
use Rattle.std.proofs.lemmas.Grind.{common_steps, flat_map-append}
use Rattle.std.proofs.lemmas.List.Elements.{All-head, All-tail}
use Rattle.std.proofs.lemmas.List.Sums.{split_at_first, passes_at_first, AllPass-from_list_all, list_all-from_AllPass}
use Rattle.httparse.specs.Grammar.{is_token_byte, is_token, IsToken, AllPass, LineEnd, print_end, print_blank}
use Rattle.httparse.specs.Pieces.{Stops, is_newline}
use Rattle.httparse.proofs.PieceLemmas.{print_end_unique, newline_not_stopped, Stops_token, space_ends_token}
use Rattle.lg_http.specs.Heads.{is_target_byte, IsInTarget}

-- one more empty line
pub blank_push : (bytes rest left : List ℕ) (blank : List LineEnd) (end : LineEnd)
    → bytes ≡ print_blank blank ++ rest → rest ≡ print_end end ++ left
    → bytes ≡ print_blank (blank ++ end ∷ []) ++ left
blank_push bytes rest left blank end split more =
    split ∙ ap (λ t. print_blank blank ++ t) more ∙ sym (append_assoc (print_blank blank) (print_end end) left)
    ∙ ap (λ t. t ++ left) (sym (flat_map-append print_end blank (end ∷ []) ∙ ap (λ t. print_blank blank ++ t) (append-nil (print_end end))))

abbrev pub is_space : ℕ → Bool
is_space b = eqb b 32

-- the list does not begin with a line end
abbrev pub IsInLine : List ℕ → Type 0
IsInLine line = (end : LineEnd) (rest : List ℕ) → ¬ (line ≡ print_end end ++ rest)

is_token-IsToken : (word : List ℕ) → is_token word ≡ true → IsToken word
is_token-IsToken word passes =
    both _ _ (ltb-true 0 (length word)) (AllPass-from_list_all is_token_byte word) passes
  where
    both : (a b : Bool) {P Q : Type 0} → (a ≡ true → P) → (b ≡ true → Q) → (a && b) ≡ true → P × Q
    both true b p q e = (p refl, q e)
    both false b p q e = absurd (cc)

IsToken-is_token : (word : List ℕ) → IsToken word → is_token word ≡ true
IsToken-is_token word is =
    cc (lt-ltb 0 (length word) is.0, list_all-from_AllPass is_token_byte word is.1)

-- what the scan finds is in a target
pub found_target : (bytes line : List ℕ) (blank : List LineEnd) → bytes ≡ print_blank blank ++ line
    → position_or_len is_space line < length line
    → is_token (take (position_or_len is_space line) line) ≡ true
    → list_all is_target_byte (drop (position_or_len is_space line + 1) line) ≡ true
    → IsInTarget bytes
found_target bytes line blank split inside verb target =
    let at_blank = eqb-true _ 32 (passes_at_first is_space line 0 inside) in
    let parts = split_at_first is_space line 0 inside in (
      blank,
      before_first is_space line,
      after_first is_space line,
      is_token-IsToken _ verb,
      AllPass-from_list_all is_target_byte _ target,
      split ∙ ap (λ t. print_blank blank ++ t) (parts ∙ ap (λ b. before_first is_space line ++ (b ∷ after_first is_space line)) at_blank)
          ∙ sym (append_assoc (print_blank blank) (before_first is_space line) (32 ∷ after_first is_space line)),
    )

-- the empty lines end where no line end stands
blank_before : (a b : List LineEnd) (line rest : List ℕ) → print_blank a ++ line ≡ print_blank b ++ rest
    → IsInLine line → Stops is_newline rest → line ≡ rest
blank_before [] [] line rest e in_line stops = e
blank_before [] (f ∷ b) line rest e in_line stops =
    absurd (in_line f (print_blank b ++ rest) (e ∙ append_assoc (print_end f) (print_blank b) rest))
blank_before (f ∷ a) [] line rest e in_line stops =
    absurd (newline_not_stopped f (print_blank a ++ line) rest (sym (append_assoc (print_end f) (print_blank a) line) ∙ e) stops)
blank_before (f ∷ a) (g ∷ b) line rest e in_line stops =
    let first = print_end_unique f g (print_blank a ++ line) (print_blank b ++ rest)
    (sym (append_assoc (print_end f) (print_blank a) line) ∙ e ∙ append_assoc (print_end g) (print_blank b) rest) in
    blank_before a b line rest first.1 in_line stops

token_no_space : (b : ℕ) → is_token_byte b ≡ true → is_space b ≡ false
token_no_space b token = false_from_ne_true (is_space b) (λ e.
    let ends : true ≡ false = sym token ∙ ap is_token_byte (eqb-true b 32 e) ∙ space_ends_token in
    absurd (cc))

space_after : (word rest : List ℕ) → AllPass is_token_byte word
    → position_or_len is_space (word ++ 32 ∷ rest) ≡ length word
space_after [] rest all = refl
space_after (b ∷ word) rest all =
    let P : ℕ → Type 0 = λ v. is_token_byte v ≡ true in
    step (is_space b) (token_no_space b (All-head P b word all)) (space_after word rest (All-tail P b word all))
  where
    step : (t : Bool) {m n : ℕ} → t ≡ false → m ≡ n → cond (not t) (1 + m) 0 ≡ suc n
    step true none same = absurd (cc)
    step false none same = omega arith

drop_next : (front : List ℕ) (x : ℕ) (rest : List ℕ) → drop (length front + 1) (front ++ x ∷ rest) ≡ rest
drop_next [] x rest = refl
drop_next (b ∷ front) x rest =
    let more : suc (length front) + 1 ≡ suc (length front + 1) = omega arith in
    ap (λ n. drop n ((b ∷ front) ++ x ∷ rest)) more ∙ drop_next front x rest

-- the scan of a line finds a word of its parts
scan_finds : (verb target : List ℕ) → IsToken verb → AllPass is_target_byte target
    → let line = verb ++ 32 ∷ target in let at = length verb in
    (at < length line) × (is_token (take at line) ≡ true) × (list_all is_target_byte (drop (at + 1) line) ≡ true)
scan_finds verb target token all = (
  omega (arith, length-append verb (32 ∷ target)),
  ap is_token (take-append_seam verb (32 ∷ target)) ∙ IsToken-is_token verb token,
  ap (list_all is_target_byte) (drop_next verb 32 target) ∙ list_all-from_AllPass is_target_byte target all,
)

-- the scan of a line, with the place of its first blank
pub record IsScanned (line : List ℕ) (at : ℕ) : Type 0 where
  pub inside : at < length line
  pub verb : is_token (take at line) ≡ true
  pub target : list_all is_target_byte (drop (at + 1) line) ≡ true

-- what is in a target is found by the scan
pub target_found : (bytes line : List ℕ) (blank : List LineEnd) → bytes ≡ print_blank blank ++ line → IsInLine line
    → IsInTarget bytes → IsScanned line (position_or_len is_space line)
target_found bytes line blank split in_line (before, verb, target, token, all, is) =
    let ends = Stops_token verb (32 ∷ target) token.0 token.1 in
    let same = blank_before blank before line (verb ++ 32 ∷ target)
    (sym split ∙ is ∙ append_assoc (print_blank before) verb (32 ∷ target)) in_line ends in
    let at = ap (position_or_len is_space) same ∙ space_after verb target token.1 in
    let found = scan_finds verb target token all in
    subst (λ (n : ℕ). IsScanned line n) (sym at)
    (subst (λ (l : List ℕ). IsScanned l (length verb)) (sym same) (record { inside = found.0; verb = found.1; target = found.2 }))

-- what `position` answers is the place of the first blank
pub blank_at : (line : List ℕ) (at : ℕ) → Some at ≡ position is_space line → at ≡ position_or_len is_space line
blank_at line at found = step (nat_lt (position_or_len is_space line) (length line)) found
  where
    step : (b : Bool) → Some at ≡ cond b (Some (position_or_len is_space line)) None → at ≡ position_or_len is_space line
    step true e = cc
    step false e = absurd (cc)

position_inside : (line : List ℕ) (at : ℕ) → Some at ≡ position is_space line → position_or_len is_space line < length line
position_inside line at found = step (nat_lt (position_or_len is_space line) (length line)) (ltb-true _ _) found
  where
    step : (b : Bool) {P : Type 0} → (b ≡ true → P) → Some at ≡ cond b (Some (position_or_len is_space line)) None → P
    step true tells e = tells refl
    step false tells e = absurd (cc)

-- without a blank there is no target
pub no_blank : (bytes line : List ℕ) (blank : List LineEnd) → bytes ≡ print_blank blank ++ line → IsInLine line
    → position is_space line ≡ None → ¬ (IsInTarget bytes)
no_blank bytes line blank split in_line none target =
    let found = target_found bytes line blank split in_line target in
    let at : Some (position_or_len is_space line) ≡ None =
    ap (λ b. cond b (Some (position_or_len is_space line)) None) (sym (lt-ltb _ _ found.inside)) ∙ none in
    absurd (cc)

-- a slice to the end
pub take_rest : (line : List ℕ) (at : ℕ) → take (length line - at) (drop at line) ≡ drop at line
take_rest line at = grind (arith, common_steps)

-- what the scan answers behind a word
pub scan_behind_word : (bytes line : List ℕ) (blank : List LineEnd) (at : ℕ) (result : Bool)
    → bytes ≡ print_blank blank ++ line → IsInLine line → Some at ≡ position is_space line
    → is_token (take at line) ≡ true → result ≡ list_all is_target_byte (take (length line - (at + 1)) (drop (at + 1) line))
    → (result ≡ true → IsInTarget bytes) × (IsInTarget bytes → result ≡ true)
scan_behind_word bytes line blank at result split in_line place token rest =
    let is = rest ∙ ap (list_all is_target_byte) (take_rest line (at + 1)) in
    let same = blank_at line at place in (
      λ passes. found_target bytes line blank split (position_inside line at place)
          (subst (λ (n : ℕ). is_token (take n line) ≡ true) same token)
          (subst (λ (n : ℕ). list_all is_target_byte (drop (n + 1) line) ≡ true) same (sym is ∙ passes)),
      λ target. is ∙ ap (λ n. list_all is_target_byte (drop (n + 1) line)) same ∙ (target_found bytes line blank split in_line target).target,
    )

-- and where there is no word
pub scan_without_word : (bytes line : List ℕ) (blank : List LineEnd) (at : ℕ) (result : Bool)
    → bytes ≡ print_blank blank ++ line → IsInLine line → Some at ≡ position is_space line
    → result ≡ is_token (take at line) → result ≡ false
    → (result ≡ true → IsInTarget bytes) × (IsInTarget bytes → result ≡ true)
scan_without_word bytes line blank at result split in_line place is fails = (
  λ passes. absurd (cc),
  λ target. is ∙ ap (λ n. is_token (take n line)) (blank_at line at place) ∙ (target_found bytes line blank split in_line target).verb,
)
