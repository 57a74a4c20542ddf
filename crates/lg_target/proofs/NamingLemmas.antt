-- Names of files aside and folders above paths.
use Rattle.std.proofs.Common.{◌≡◌, append_assoc, length-append, suc, ℕ, ◌+◌, ◌-◌, ◌<◌, ◌≤◌, ◌≢◌, true, false, not, List, [], ◌∷◌, ◌++◌, length, take, drop, get_or, eqb, length-drop, Some, sym, ap, subst, ◌∙◌, arith}
use Rattle.std.specs.Prelude.{nat_eq}
use Rattle.std.specs.Cmp.{unsigned_Decides}
use Rattle.std.specs.Prelude.{Contains}
use Rattle.std.proofs.lemmas.List.Elements.{Contains-get_or}
use Rattle.std.proofs.Math.Seq.{get_or-append_seam, get_or-append_right, take-append_seam}
use Rattle.std.specs.Str.{NoCharPasses}
use Rattle.std.specs.Str.Pattern.{RFindsChar}
use Rattle.std.proofs.lemmas.Bool.{false_from_ne_true}
use Rattle.std.proofs.lemmas.List.Sums.{suffix_len_is}
use Rattle.std.proofs.lemmas.Str.Pattern.{NoCharPasses-char}
use Rattle.std.specs.Prelude.{◌^◌, ◌%◌, replicate, codes}
use Rattle.std.specs.Fmt.{padded_integral, char_count, format_spec, decimal}
use Rattle.std.proofs.lemmas.List.{append-nil, get_or-drop, length-replicate}
use Rattle.lg_target.specs.Naming.{folder_above, with_zeros, ten_digits, aside_name, AsideFile, IsNamed}
use Rattle.lg_io.specs.Files.{IsTemporary}
use Rattle.std.proofs.lemmas.Fmt.{length-decimal-le}

-- a byte that is no slash
no_slash : (b : ℕ) → b ≢ 47 → not (nat_eq b 47) ≡ true
no_slash b differs = ap not (false_from_ne_true _ (λ same. differs ((unsigned_Decides b 47).0 same)))

a_slash : (b : ℕ) → b ≡ 47 → not (nat_eq b 47) ≡ false
a_slash b same = ap not ((unsigned_Decides b 47).1 same)

-- behind the last slash stand other bytes alone
behind_slash : (path : List ℕ) (at : ℕ) → at ≤ length path → ((k : ℕ) → at ≤ k → k < length path → get_or path k 0 ≢ 47)
    → (0 < at → get_or path (at - 1) 0 ≡ 47) → folder_above path ≡ take (at - 1) path
behind_slash path at within others slash =
    let behind = suffix_len_is (λ byte. not (nat_eq byte 47)) path at 0 within (λ k low high. no_slash _ (others k low high)) (λ some. a_slash _ (slash some)) in
    ap (λ n. take n path) (omega (arith, behind))

pub folder_at : (path front : List ℕ) (i j : ℕ) → RFindsChar 47 path (Some (i, j)) → front ≡ take i path → j ≤ length path
    → front ≡ folder_above path
folder_at path front i j found is within =
    let place : j ≡ i + 1 = found.1.ends in
    let others : (k : ℕ) → j ≤ k → k < length path → get_or path k 0 ≢ 47 = λ k low high same.
    let at : j + (k - j) ≡ k = omega arith in
    let shorter : k - j < length (drop j path) = omega (arith, length-drop j path) in
    NoCharPasses-char 47 (drop j path) (k - j) found.0 (omega arith) shorter (get_or-drop j path (k - j) 0 ∙ ap (λ n. get_or path n 0) at ∙ same) in
    let before : j - 1 ≡ i = omega (arith, place) in
    let slash : get_or path (j - 1) 0 ≡ 47 = ap (λ n. get_or path n 0) before ∙ found.1.byte (omega arith) in
    is ∙ ap (λ n. take n path) (sym before) ∙ sym (behind_slash path j within others (λ _. slash))

pub folder_none : (path : List ℕ) → NoCharPasses (λ d. eqb d 47) path → [] ≡ folder_above path
folder_none path none =
    sym (behind_slash path 0 (omega arith) (λ k low high. NoCharPasses-char 47 path k none (omega arith) high) (λ some. absurd (omega (arith, some))))

-- ten digits are written with zeros before them
pub padded_ten : (numeral : List ℕ) → padded_integral (format_spec 32 0 4 10 (2 ^ 64 - 1)) false [] numeral ≡ with_zeros numeral
unfolding padded_integral char_count
padded_ten numeral =
    ap (λ n. replicate n 48 ++ (numeral ++ [])) (omega arith) ∙ ap (λ ns. replicate (10 - length numeral) 48 ++ ns) (append-nil numeral)

-- what is written of a path and a number
pub named : (name bytes path : List ℕ) (number : ℕ) → name ≡ bytes
    → bytes ≡ path ++ (codes "-luigi-tmp-" ++ padded_integral (format_spec 32 0 4 10 (2 ^ 64 - 1)) false [] (decimal (number % 10 ^ 10)))
    → name ≡ aside_name path number
named name bytes path number same written =
    same ∙ written ∙ ap (λ digits. path ++ (codes "-luigi-tmp-" ++ digits)) (padded_ten (decimal (number % 10 ^ 10)))
    ∙ sym (append_assoc path (codes "-luigi-tmp-") (ten_digits number))

-- the name of a file aside has the mark
pub named_temporary : (file : AsideFile) → IsNamed file → IsTemporary file.name
named_temporary file named = (file.path, ten_digits named.number, named.is)

-- ten digits they are
pub ten : (number : ℕ) → length (ten_digits number) ≡ 10
ten number =
    let numeral : List ℕ = decimal (number % 10 ^ 10) in
    let zeros : List ℕ = replicate (10 - length numeral) 48 in
    let small : number % 10 ^ 10 < 10 ^ 10 = omega arith in
    let within : length numeral ≤ 10 = length-decimal-le 10 (number % 10 ^ 10) (omega arith) small (omega arith) in
    let before : length zeros ≡ 10 - length numeral = length-replicate (10 - length numeral) 48 in
    let whole : length (zeros ++ numeral) ≡ length zeros + length numeral = length-append zeros numeral in
    whole ∙ omega (arith, within, before)

-- a list without a slash has none at any place
without : (name : List ℕ) (k : ℕ) → (Contains name 47 → ⊥) → k < length name → get_or name k 0 ≢ 47
without name k none within same = none (subst (Contains name) same (Contains-get_or name k 0 within))

pub front_folder : (folder name : List ℕ) → (Contains name 47 → ⊥) → folder_above (folder ++ 47 ∷ name) ≡ folder
front_folder folder name none =
    let path = folder ++ 47 ∷ name in
    let size : length path ≡ length folder + suc (length name) = length-append folder (47 ∷ name) in
    let others : (k : ℕ) → length folder + 1 ≤ k → k < length path → get_or path k 0 ≢ 47 = λ k low high same.
    let place : k - length folder ≡ suc (k - length folder - 1) = omega arith in
    without name (k - length folder - 1) none (omega (arith, size, high, low))
    (sym (ap (λ n. get_or (47 ∷ name) n 0) place) ∙ sym (get_or-append_right folder (47 ∷ name) k 0 (omega arith)) ∙ same) in
    let at : length folder + 1 - 1 ≡ length folder = omega arith in
    behind_slash path (length folder + 1) (omega (arith, size)) others (λ _. ap (λ n. get_or path n 0) at ∙ get_or-append_seam folder 47 name 0)
    ∙ ap (λ n. take n path) at ∙ take-append_seam folder (47 ∷ name)

pub no_folder : (path : List ℕ) → (Contains path 47 → ⊥) → folder_above path ≡ []
no_folder path none = behind_slash path 0 (omega arith) (λ k low high. without path k none high) (λ some. absurd (omega (arith, some)))
