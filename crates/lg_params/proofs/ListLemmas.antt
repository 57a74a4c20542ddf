-- Lists of texts, as values of JSON.
use Rattle.std.proofs.Common.{◌≡◌, ℕ, zero, suc, ◌<◌, List, length, get_or, arith, [], ◌∷◌, map, Option, Some, None, Ok, subst, refl, ap, sym, ◌∙◌}
use Rattle.std.specs.Prelude.{IsUtf8, All}
use Rattle.std.specs.List.{between}
use Rattle.std.proofs.lemmas.List.{get_or_read}
use Rattle.std.proofs.lemmas.Slice.{between_to_end}
use Rattle.serde_json.specs.Data.{Data, string, array}
use Rattle.serde_json.specs.Find.{as_str}
use Rattle.serde_json.specs.View.{items_of}
use Rattle.serde_json.specs.Read.{read}
use Rattle.lg_params.specs.declared.kinds.Kind.{Kind}
use Rattle.lg_params.specs.declared.params.Param.{Param}
use Rattle.lg_params.specs.Finds.{Finds}
use Rattle.lg_params.specs.Refusing.{Answers}

-- one of some values is no string, and so they are no strings
pub not_all_texts : {V : Type 0} (view : V → Data) (vs : List V) (i : ℕ) (v : V) (texts : List (List ℕ)) → i < length vs → v ≡ get_or vs i v → as_str (view v) ≡ None → map view vs ≡ map string texts → ⊥
not_all_texts view [] i v texts within at other e = omega arith
not_all_texts view (w ∷ vs) i v [] within at other e = cc
not_all_texts view (w ∷ vs) zero v (t ∷ texts) within at other e =
    let same : view v ≡ string t = ap view at ∙ cc in
    let some : as_str (view v) ≡ Some t = ap as_str same in cc
not_all_texts view (w ∷ vs) (suc i) v (t ∷ texts) within at other e =
    not_all_texts view vs i v texts (omega arith) at other (cc)

-- an array is known by its items
pub items_same : (ds es : List Data) → items_of ds ≡ items_of es → ds ≡ es
items_same [] [] e = refl
items_same [] (b ∷ es) e = absurd (cc)
items_same (a ∷ ds) [] e = absurd (cc)
items_same (a ∷ ds) (b ∷ es) e =
    let head : a ≡ b = cc in
    let rest : items_of ds ≡ items_of es = cc in
    let tail = items_same ds es rest in cc

pub found_in_array : (ds : List Data) (d : Data) (r : Option (List (List ℕ))) → d ≡ array (items_of ds) → Finds (λ texts. ds ≡ map string texts) r → Finds (λ texts. d ≡ array (items_of (map string texts))) r
found_in_array ds d (Some texts) is found = is ∙ ap (λ (es : List Data). array (items_of es)) found
found_in_array ds d None is none = λ texts e.
    let same : array (items_of ds) ≡ array (items_of (map string texts)) = sym is ∙ e in
    none texts (items_same ds (map string texts) (cc))

-- the answer to what a text is as JSON
pub texts_answer : (text : List ℕ) (d : Data) (texts : List (List ℕ)) → read text ≡ Some d → d ≡ array (items_of (map string texts)) → Answers Kind.Texts text (Ok (Param.Texts texts))
texts_answer text d texts is found =
    let spells : read text ≡ Some (array (items_of (map string texts))) = is ∙ ap (λ (e : Data). Some e) found in
    record {
      value = (texts, spells, refl);
      spelled = λ _ _. tt;
      bad_text = λ told. absurd (cc);
      bad_text_told = λ bad. absurd (bad (Param.Texts texts) (texts, spells, refl));
      no_choice = (λ told. absurd (cc), λ none. absurd none);
      out_of_range = (λ told. absurd (cc), λ out. absurd out);
      memory = λ told. tt;
    }

-- ---- each of some texts is UTF-8

pub utf8_here : (ts : List (List ℕ)) (i k : ℕ) (t d : List ℕ) → i < length ts → t ≡ get_or ts i t → i ≡ k → IsUtf8 t → IsUtf8 (get_or ts k d)
utf8_here ts i k t d within at same utf8 =
    subst (λ (s : List ℕ). IsUtf8 s) (get_or_read ts i t within at d ∙ ap (λ (n : ℕ). get_or ts n d) same) utf8

pub utf8_from_first : (ts : List (List ℕ)) (t : List ℕ) → 0 < length ts → t ≡ get_or ts 0 t → IsUtf8 t → All IsUtf8 (between 1 (length ts) ts) → All IsUtf8 ts
utf8_from_first [] t some at first others = absurd (omega arith)
utf8_from_first (a ∷ ts) t some at first others =
    let rest : All IsUtf8 ts = subst (λ (us : List (List ℕ)). All IsUtf8 us) (between_to_end (a ∷ ts) 1 (length (a ∷ ts)) (omega arith)) others in
    λ k d below. utf8_in a ts t k d at first rest below
  where
    utf8_in : (a : List ℕ) (ts : List (List ℕ)) (t : List ℕ) (k : ℕ) (d : List ℕ) → t ≡ a → IsUtf8 t → All IsUtf8 ts → k < length (a ∷ ts) → IsUtf8 (get_or (a ∷ ts) k d)
    utf8_in a ts t zero d at first rest below = subst (λ (s : List ℕ). IsUtf8 s) at first
    utf8_in a ts t (suc k) d at first rest below = rest k d (omega arith)
