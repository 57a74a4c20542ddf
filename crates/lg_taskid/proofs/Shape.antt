-- What an id looks like.
use Rattle.std.proofs.Common.{◌≡◌, ℕ, zero, suc, ◌+◌, ◌*◌, ◌/◌, ◌%◌, ◌<◌, ◌≤◌, Bool, true, false, cond, List, [], ◌∷◌, ◌++◌, flat_map, map, take, drop, length, slice_index, refl, sym, ap, ◌∙◌, append_assoc, length-append, arith}
use Rattle.std.proofs.lemmas.List.{take_at, drop_at, take-append-le, length-take, length-take-le, length-map}
use Rattle.std.proofs.lemmas.List.Elements.{All-nil, All-cons, All-head, All-tail, All-append, All-take, All-get_or, All-contains_itself}
use Rattle.std.proofs.lemmas.List.Sums.{AllPass-from_list_all}
use Rattle.std.specs.Prelude.{chars, codes, All, Contains}
use Rattle.std.specs.Int.{to_le_bytes, w32}
use Rattle.std.specs.List.{AllPass, join_by}
use Rattle.md5.specs.Md5.{block_words, rounds, compress, hash_after, padded_message, digest_bytes, md5}
use Rattle.hex.specs.Hex.{encode_lower, encode_with, lower_digits}
use Rattle.lg_json.specs.Canonical.{canonical_text}
use Rattle.lg_taskid.specs.Digest.{md5_digits}
use Rattle.lg_taskid.specs.TaskId.{is_safe, safe_character, summary_of, hash_of, task_id_of}
use Rattle.lg_taskid.proofs.Digits.{length-md5_digits}
use Rattle.lg_taskid.proofs.Summaries.{one_shown, all_shown}

-- what stands behind the family
abbrev pub tail_of : List (List ℕ × List ℕ) → List ℕ
tail_of pairs = (95 ∷ summary_of pairs) ++ (95 ∷ hash_of pairs)

task_id_of-tail : (family : List ℕ) (pairs : List (List ℕ × List ℕ)) → task_id_of family pairs ≡ family ++ tail_of pairs
task_id_of-tail family pairs =
    append_assoc ((family ++ 95 ∷ []) ++ summary_of pairs) (95 ∷ []) (hash_of pairs)
    ∙ append_assoc (family ++ 95 ∷ []) (summary_of pairs) (95 ∷ hash_of pairs)
    ∙ append_assoc family (95 ∷ []) (summary_of pairs ++ 95 ∷ hash_of pairs)

pub take-task_id_of : (family : List ℕ) (pairs : List (List ℕ × List ℕ)) → take (length family) (task_id_of family pairs) ≡ family
take-task_id_of family pairs = ap (take (length family)) (task_id_of-tail family pairs) ∙ take_at family (tail_of pairs) (length family) refl

pub drop-task_id_of : (family : List ℕ) (pairs : List (List ℕ × List ℕ)) → drop (length family) (task_id_of family pairs) ≡ tail_of pairs
drop-task_id_of family pairs = ap (drop (length family)) (task_id_of-tail family pairs) ∙ drop_at family (tail_of pairs) (length family) refl

pub same_behind_family : (family other : List ℕ) (pairs : List (List ℕ × List ℕ)) → drop (length family) (task_id_of family pairs) ≡ drop (length other) (task_id_of other pairs)
same_behind_family family other pairs = drop-task_id_of family pairs ∙ sym (drop-task_id_of other pairs)

-- ---- the bytes of a digest

bytes-four : (b₀ b₁ b₂ b₃ : ℕ) → b₀ < 256 → b₁ < 256 → b₂ < 256 → b₃ < 256 → All (λ byte. byte < 256) (b₀ ∷ b₁ ∷ b₂ ∷ b₃ ∷ [])
bytes-four b₀ b₁ b₂ b₃ low₀ low₁ low₂ low₃ =
    let Byte : ℕ → Type 0 = λ byte. byte < 256 in
    All-cons Byte b₀ (b₁ ∷ b₂ ∷ b₃ ∷ []) low₀ (All-cons Byte b₁ (b₂ ∷ b₃ ∷ []) low₁ (All-cons Byte b₂ (b₃ ∷ []) low₂ (All-cons Byte b₃ [] low₃ (All-nil Byte))))

bytes-to_le_bytes : (n : ℕ) → All (λ byte. byte < 256) (to_le_bytes w32 n)
bytes-to_le_bytes n = bytes-four (n % 256) (n / 256 % 256) (n / 65536 % 256) (n / 16777216 % 256) (omega arith) (omega arith) (omega arith) (omega arith)

bytes-digest_bytes : (h : List ℕ) (n : ℕ) → All (λ byte. byte < 256) (digest_bytes h n)
unfolding digest_bytes
bytes-digest_bytes h zero = All-nil (λ byte. byte < 256)
bytes-digest_bytes h (suc n) = All-append (λ byte. byte < 256) (digest_bytes h n) (to_le_bytes w32 (slice_index h n)) (bytes-digest_bytes h n) (bytes-to_le_bytes (slice_index h n))

bytes-md5 : (message : List ℕ) → All (λ byte. byte < 256) (md5 message)
unfolding md5
bytes-md5 message = bytes-digest_bytes (hash_after (padded_message message) (length (padded_message message) / 64)) 4

-- ---- digits and safe characters

-- what each of the sixteen digits is, each of a digest's is
each-encode_lower : (P : ℕ → Type 0) → All P lower_digits → (bytes : List ℕ) → All (λ byte. byte < 256) bytes → All P (encode_lower bytes)
unfolding encode_with
each-encode_lower P each [] are = All-nil P
each-encode_lower P each (byte ∷ bytes) are =
    let within = All-head (λ b. b < 256) byte bytes are in
    All-cons P (slice_index lower_digits (byte / 16)) (slice_index lower_digits (byte % 16) ∷ encode_lower bytes) (All-get_or P lower_digits (byte / 16) 0 (omega arith) each)
    (All-cons P (slice_index lower_digits (byte % 16)) (encode_lower bytes) (All-get_or P lower_digits (byte % 16) 0 (omega arith) each)
    (each-encode_lower P each bytes (All-tail (λ b. b < 256) byte bytes are)))

each-md5_digits : (P : ℕ → Type 0) → All P lower_digits → (message : List ℕ) → All P (md5_digits message)
each-md5_digits P each message = each-encode_lower P each (md5 message) (bytes-md5 message)

pub digits-md5_digits : (message : List ℕ) → All (Contains lower_digits) (md5_digits message)
digits-md5_digits = each-md5_digits (Contains lower_digits) (All-contains_itself lower_digits)

pub digits-hash_of : (pairs : List (List ℕ × List ℕ)) → All (Contains lower_digits) (hash_of pairs)
digits-hash_of pairs = All-take (Contains lower_digits) 10 (md5_digits (canonical_text pairs)) (digits-md5_digits (canonical_text pairs))

safe-md5_digits : (message : List ℕ) → AllPass is_safe (md5_digits message)
safe-md5_digits = each-md5_digits (λ c. is_safe c ≡ true) (AllPass-from_list_all is_safe lower_digits refl)

safe-by_test : (c : ℕ) (test : Bool) → is_safe c ≡ test → is_safe (cond test c 95) ≡ true
safe-by_test c true is = is
safe-by_test c false is = refl

safe-safe_character : (c : ℕ) → is_safe (safe_character c) ≡ true
safe-safe_character c = safe-by_test c (is_safe c) refl

safe-map : (cs : List ℕ) → AllPass is_safe (map safe_character cs)
safe-map [] = All-nil (λ c. is_safe c ≡ true)
safe-map (c ∷ cs) = All-cons (λ d. is_safe d ≡ true) (safe_character c) (map safe_character cs) (safe-safe_character c) (safe-map cs)

safe-tail_of : (pairs : List (List ℕ × List ℕ)) → AllPass is_safe (tail_of pairs)
safe-tail_of pairs =
    let Safe : ℕ → Type 0 = λ c. is_safe c ≡ true in
    All-append Safe (95 ∷ summary_of pairs) (95 ∷ hash_of pairs) (All-cons Safe 95 (summary_of pairs) refl (safe-map _))
    (All-cons Safe 95 (hash_of pairs) refl (All-take Safe 10 (md5_digits (canonical_text pairs)) (safe-md5_digits (canonical_text pairs))))

pub safe_behind_family : (family : List ℕ) (pairs : List (List ℕ × List ℕ)) → AllPass is_safe (drop (length family) (task_id_of family pairs))
safe_behind_family family pairs = rw (drop-task_id_of family pairs) (safe-tail_of pairs)

-- ---- lengths

pub length-hash_of : (pairs : List (List ℕ × List ℕ)) → length (hash_of pairs) ≡ 10
length-hash_of pairs = length-take-le 10 (md5_digits (canonical_text pairs)) (omega (arith, length-md5_digits (canonical_text pairs)))

length-later : (pairs : List (List ℕ × List ℕ)) → length (flat_map (λ pair. 95 ∷ one_shown pair) pairs) ≤ 17 * length pairs
length-later [] = omega arith
length-later (pair ∷ pairs) =
    omega (arith, length-later pairs, length-append (95 ∷ one_shown pair) (flat_map (λ p. 95 ∷ one_shown p) pairs), length-take 16 (chars pair.1))

length-joined : (pairs : List (List ℕ × List ℕ)) → length pairs ≤ 3 → length (join_by one_shown (95 ∷ []) pairs) ≤ 50
length-joined [] few = omega arith
length-joined (pair ∷ pairs) few =
    omega (arith, length-later pairs, length-append (one_shown pair) (flat_map (λ p. 95 ∷ one_shown p) pairs), length-take 16 (chars pair.1))

pub length-summary_of : (pairs : List (List ℕ × List ℕ)) → length (summary_of pairs) ≤ 50
length-summary_of pairs = rw (length-map (join_by one_shown (95 ∷ []) (take 3 pairs)) safe_character) (length-joined (take 3 pairs) (omega (arith, length-take 3 pairs)))

pub length-task_id_of : (family : List ℕ) (pairs : List (List ℕ × List ℕ)) → length (task_id_of family pairs) ≤ length family + 62
length-task_id_of family pairs =
    omega (arith, ap length (task_id_of-tail family pairs), length-append family (tail_of pairs), length-append (95 ∷ summary_of pairs) (95 ∷ hash_of pairs), length-summary_of pairs, length-hash_of pairs)

pub summary_of-append : (pairs more : List (List ℕ × List ℕ)) → 3 ≤ length pairs → summary_of (pairs ++ more) ≡ summary_of pairs
summary_of-append pairs more enough = ap all_shown (take-append-le 3 pairs more enough)

-- ---- no parameters

hash_of-none : hash_of [] ≡ codes "99914b932b"
unfolding block_words rounds compress hash_after digest_bytes md5 encode_with
hash_of-none = refl

pub task_id_of-none : (family : List ℕ) → task_id_of family [] ≡ family ++ codes "__99914b932b"
task_id_of-none family = task_id_of-tail family [] ∙ ap (λ hash. family ++ (95 ∷ 95 ∷ hash)) hash_of-none
