-- The names of a command, one after another.
use Rattle.std.proofs.Common.{◌≡◌, ℕ, zero, suc, ◌+◌, ◌<◌, Bool, true, false, List, [], ◌∷◌, ◌++◌, length, take, get_or, map, refl, sym, ap, ◌∙◌, append_assoc, arith}
use Rattle.std.specs.List.{enumerate_from, range_with_len, filter_map}
use Rattle.std.proofs.lemmas.List.{map-append, append-nil, take_more, length-take-le}
use Rattle.std.proofs.lemmas.List.Elements.{filter_map-append}
use Rattle.lg_declare.specs.Names.{output_name, output_names, input_name, input_named, input_names}

range-push-suc : (a n : ℕ) → range_with_len a (suc n) ≡ range_with_len a n ++ (a + n) ∷ []
range-push-suc a zero = let e : a + 0 ≡ a = omega arith in rw e refl
range-push-suc a (suc n) = let e : a + suc n ≡ a + 1 + n = omega arith in rw e (ap (λ xs. a ∷ xs) (range-push-suc (a + 1) n))

range-push : (a n : ℕ) → range_with_len a (n + 1) ≡ range_with_len a n ++ (a + n) ∷ []
range-push a n = let e : n + 1 ≡ suc n = omega arith in rw e (range-push-suc a n)

pub outputs-more : (start was now : List (List ℕ)) (n : ℕ) (name : List ℕ) → was ≡ start ++ output_names n → name ≡ output_name n → now ≡ was ++ name ∷ []
    → now ≡ start ++ output_names (n + 1)
outputs-more start was now n name before is after =
    after ∙ ap (λ xs. xs ++ name ∷ []) before ∙ append_assoc start (output_names n) (name ∷ [])
    ∙ ap (λ x. start ++ (output_names n ++ x ∷ [])) is
    ∙ ap (λ xs. start ++ xs) (sym (ap (map output_name) (range-push 0 n) ∙ map-append output_name (range_with_len 0 n) ((0 + n) ∷ [])
    ∙ ap (λ k. output_names n ++ output_name k ∷ []) (let e : 0 + n ≡ n = omega arith in e)))

enumerate-push : {X : Type 0} (n : ℕ) (xs : List X) (x : X) → enumerate_from n (xs ++ x ∷ []) ≡ enumerate_from n xs ++ (n + length xs, x) ∷ []
enumerate-push n [] x = let e : n + 0 ≡ n = omega arith in ap (λ k. (k, x) ∷ []) (sym e)
enumerate-push n (y ∷ ys) x =
    ap (λ zs. (n, y) ∷ zs) (enumerate-push (n + 1) ys x ∙ ap (λ k. enumerate_from (n + 1) ys ++ (k, x) ∷ []) (let e : n + 1 + length ys ≡ n + suc (length ys) = omega arith in e))

-- one requirement more
inputs-more : (inputs : List Bool) (i : ℕ) → i < length inputs
    → input_names (take (i + 1) inputs) ≡ input_names (take i inputs) ++ filter_map input_named ((i, get_or inputs i false) ∷ [])
inputs-more inputs i within =
    ap input_names (take_more inputs i false within)
    ∙ ap (filter_map input_named) (enumerate-push 0 (take i inputs) (get_or inputs i false) ∙ ap (λ k. enumerate_from 0 (take i inputs) ++ (k, get_or inputs i false) ∷ []) (let e : 0 + length (take i inputs) ≡ i = omega (arith, length-take-le i inputs (omega arith)) in e))
    ∙ filter_map-append input_named (enumerate_from 0 (take i inputs)) ((i, get_or inputs i false) ∷ [])

pub inputs-named : (start was now : List (List ℕ)) (inputs : List Bool) (i : ℕ) (name : List ℕ) → i < length inputs → get_or inputs i false ≡ true
    → was ≡ start ++ input_names (take i inputs) → name ≡ input_name i → now ≡ was ++ name ∷ [] → now ≡ start ++ input_names (take (i + 1) inputs)
inputs-named start was now inputs i name within has before same after =
    after ∙ ap (λ xs. xs ++ name ∷ []) before ∙ append_assoc start (input_names (take i inputs)) (name ∷ [])
    ∙ ap (λ x. start ++ (input_names (take i inputs) ++ x ∷ [])) same
    ∙ ap (λ xs. start ++ xs) (sym (inputs-more inputs i within ∙ ap (λ b. input_names (take i inputs) ++ filter_map input_named ((i, b) ∷ [])) has))

pub inputs-unnamed : (start was now : List (List ℕ)) (inputs : List Bool) (i : ℕ) → i < length inputs → get_or inputs i false ≡ false
    → was ≡ start ++ input_names (take i inputs) → now ≡ was → now ≡ start ++ input_names (take (i + 1) inputs)
inputs-unnamed start was now inputs i within none before same =
    same ∙ before
    ∙ ap (λ xs. start ++ xs) (sym (inputs-more inputs i within ∙ ap (λ b. input_names (take i inputs) ++ filter_map input_named ((i, b) ∷ [])) none ∙ append-nil (input_names (take i inputs))))
