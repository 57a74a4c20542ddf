-- The texts of parameters, one behind another.
use Rattle.std.proofs.Common.{◌≡◌, ℕ, Bool, true, false, ◌<◌, ◌+◌, List, [], ◌∷◌, ◌++◌, flat_map, length, get_or, drop, codes, refl, sym, ap, ◌∙◌, append_assoc}
use Rattle.std.proofs.lemmas.List.{drop_more}
use Rattle.lg_calls.specs.Views.DisplayName.{param_text, params_text, separator_if}

-- what these parameters still add, with a separator before the first of them where something stands before
abbrev pub params_left : Bool → List (List ℕ × List ℕ) → List ℕ
params_left later [] = []
params_left later (param ∷ params) = separator_if later ++ (param_text param ++ params_left true params)

each_after_separator : (params : List (List ℕ × List ℕ)) → flat_map (λ param. codes ", " ++ param_text param) params ≡ params_left true params
each_after_separator [] = refl
each_after_separator (param ∷ params) = ap (λ (rest : List ℕ). 44 ∷ 32 ∷ (param_text param ++ rest)) (each_after_separator params)

pub params_text-left : (params : List (List ℕ × List ℕ)) → params_text params ≡ params_left false params
params_text-left [] = refl
params_text-left (param ∷ params) = ap (λ (rest : List ℕ). param_text param ++ rest) (each_after_separator params)

-- a separator and a text more are written
one_more : (done separator text rest : List ℕ) → done ++ (separator ++ (text ++ rest)) ≡ ((done ++ separator) ++ text) ++ rest
one_more done separator text rest = simp append_assoc

-- the parameter at hand comes next
pub next_param : (whole done : List ℕ) (later : Bool) (params : List (List ℕ × List ℕ)) (i : ℕ) (param : List ℕ × List ℕ) → i < length params → param ≡ get_or params i param
    → whole ≡ done ++ params_left later (drop i params)
    → whole ≡ ((done ++ separator_if later) ++ param_text param) ++ params_left true (drop (i + 1) params)
next_param whole done later params i param within is so_far =
    so_far
    ∙ (ap (λ rest. done ++ params_left later rest) (drop_more params i param within ∙ ap (λ y. y ∷ drop (i + 1) params) (sym is))
    ∙ one_more done (separator_if later) (param_text param) (params_left true (drop (i + 1) params)))

-- a family, and parameters between parentheses
pub named_in : (s0 s1 s2 s3 s4 family params : List ℕ) → s0 ≡ [] → s1 ≡ s0 ++ family → s2 ≡ s1 ++ 40 ∷ [] → s3 ≡ s2 ++ params → s4 ≡ s3 ++ 41 ∷ []
    → s4 ≡ family ++ 40 ∷ (params ++ 41 ∷ [])
named_in s0 s1 s2 s3 s4 family params e0 e1 e2 e3 e4 =
    e4
    ∙ (ap (λ s. s ++ 41 ∷ []) (e3 ∙ ap (λ s. s ++ params) (e2 ∙ ap (λ s. s ++ 40 ∷ []) (e1 ∙ ap (λ s. s ++ family) e0)))
    ∙ (append_assoc (family ++ 40 ∷ []) params (41 ∷ []) ∙ append_assoc family (40 ∷ []) (params ++ 41 ∷ [])))
