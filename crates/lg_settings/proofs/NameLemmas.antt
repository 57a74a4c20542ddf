-- Two tables that agree at the names that are looked at.
use Rattle.std.proofs.Common.{◌≡◌, ℕ, List, [], Option, Some, None, refl, ap, lit<}
use Rattle.std.specs.Option.{option_and_then}
use Rattle.toml.specs.Data.{Data, Members, get_member}
use Rattle.lg_settings.specs.Names.{scheduler_keys, section_names, AgreeAt}
use Rattle.lg_settings.specs.Reading.{Reading, ◌>>=◌, done, set_or, key}
use Rattle.lg_settings.specs.Scheduler.{scheduler}
use Rattle.lg_settings.specs.Sections.{keys_in, section, sections}

same_and_then : {A B : Type 0} (due : Option A) (one other : A → Option B) → ((x : A) → one x ≡ other x) → option_and_then one due ≡ option_and_then other due
same_and_then None one other same = refl
same_and_then (Some x) one other same = same x

-- one reading behind another
then_same : {A B : Type 0} (first : Reading A) (next : A → Reading B) (one other : Members) → first one ≡ first other
    → ((x : A) → next x one ≡ next x other) → (first >>= next) one ≡ (first >>= next) other
unfolding ◌>>=◌
then_same first next one other same later = rw same (same_and_then (first other) (λ x. next x one) (λ x. next x other) later)

same_key : {A : Type 0} (name : List ℕ) (kind : Data → Option A) (unset : A) (one other : Members) → get_member name one ≡ get_member name other
    → key name kind unset one ≡ key name kind unset other
unfolding key
same_key name kind unset one other same = ap (set_or kind unset) same

same_section : {A : Type 0} (name : List ℕ) (reading : Reading A) (one other : Members) → get_member name one ≡ get_member name other
    → section name reading one ≡ section name reading other
unfolding section
same_section name reading one other same = ap (λ value. option_and_then reading (keys_in value)) same

pub same_scheduler : (one other : Members) → AgreeAt scheduler_keys one other → scheduler one ≡ scheduler other
unfolding scheduler done
same_scheduler one other agree =
    then_same _ _ one other (same_key _ _ _ one other (agree 0 [] (lit< tt))) (λ x0. then_same _ _ one other (same_key _ _ _ one other (agree 1 [] (lit< tt))) (λ x1. then_same _ _ one other (same_key _ _ _ one other (agree 2 [] (lit< tt))) (λ x2. then_same _ _ one other (same_key _ _ _ one other (agree 3 [] (lit< tt))) (λ x3. then_same _ _ one other (same_key _ _ _ one other (agree 4 [] (lit< tt))) (λ x4. then_same _ _ one other (same_key _ _ _ one other (agree 5 [] (lit< tt))) (λ x5. then_same _ _ one other (same_key _ _ _ one other (agree 6 [] (lit< tt))) (λ x6. then_same _ _ one other (same_key _ _ _ one other (agree 7 [] (lit< tt))) (λ x7. then_same _ _ one other (same_key _ _ _ one other (agree 8 [] (lit< tt))) (λ x8. then_same _ _ one other (same_key _ _ _ one other (agree 9 [] (lit< tt))) (λ x9. then_same _ _ one other (same_key _ _ _ one other (agree 10 [] (lit< tt))) (λ x10. then_same _ _ one other (same_key _ _ _ one other (agree 11 [] (lit< tt))) (λ x11. then_same _ _ one other (same_key _ _ _ one other (agree 12 [] (lit< tt))) (λ x12. then_same _ _ one other (same_key _ _ _ one other (agree 13 [] (lit< tt))) (λ x13. refl))))))))))))))

pub same_sections : (one other : Members) → AgreeAt section_names one other → sections one ≡ sections other
unfolding sections done
same_sections one other agree =
    then_same _ _ one other (same_section _ _ one other (agree 0 [] (lit< tt))) (λ x0. then_same _ _ one other (same_section _ _ one other (agree 1 [] (lit< tt))) (λ x1. then_same _ _ one other (same_section _ _ one other (agree 2 [] (lit< tt))) (λ x2. then_same _ _ one other (same_section _ _ one other (agree 3 [] (lit< tt))) (λ x3. refl))))
