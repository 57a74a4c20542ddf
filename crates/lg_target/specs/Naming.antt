-- The names of files aside and the folders above paths. This project's own, after Luigi's `LocalTarget`.
use Rattle.std.specs.Prelude.{◌≡◌, ℕ, ◌-◌, ◌%◌, ◌^◌, List, ◌++◌, length, replicate, codes, nat_eq}
use Rattle.std.specs.List.{before_last}
use Rattle.std.specs.Fmt.{decimal}

-- a decimal number with zeros before it, up to ten digits
abbrev pub with_zeros : List ℕ → List ℕ
with_zeros numeral = replicate (10 - length numeral) 48 ++ numeral

-- a number modulo 10^10 in ten digits
abbrev pub ten_digits : ℕ → List ℕ
ten_digits number = with_zeros (decimal (number % 10 ^ 10))

-- the path, the mark and ten digits
abbrev pub aside_name : List ℕ → ℕ → List ℕ
aside_name path number = path ++ codes "-luigi-tmp-" ++ ten_digits number

-- a file aside: the path that it is for, and its own
pub record AsideFile : Type 0 where
  pub path : List ℕ
  pub name : List ℕ

-- its name is that of the path with some number
pub record IsNamed (file : AsideFile) : Type 0 where
  pub number : ℕ
  pub is : file.name ≡ aside_name file.path number

-- the file aside of a path and a number
abbrev pub aside_of : List ℕ → ℕ → AsideFile
aside_of path number = record { path = path; name = aside_name path number }

-- The folder above a path is what stands before its last `/`. Where that is nothing there is none: the path has no `/`,
-- or only the one that it begins with.
abbrev pub folder_above : List ℕ → List ℕ
folder_above path = before_last (λ byte. nat_eq byte 47) path
