-- How what is prepared grows along the tasks, and how it is used up along them.
use Rattle.std.proofs.Common.{◌≡◌, ℕ, ◌+◌, ◌<◌, Bool, true, false, cond, ◌&&◌, List, [], ◌∷◌, ◌++◌, length, map, take, drop, get_or, set, Option, None, IsSomeAnd, refl, sym, ap, subst, ◌∙◌, arith}
use Rattle.std.specs.List.{filter}
use Rattle.std.proofs.lemmas.List.{map_push, append-nil, length-map, length-take, drop_more, get_or_at}
use Rattle.std.proofs.lemmas.List.Elements.{filter_more}
use Rattle.std.proofs.lemmas.List.Edits.{map_over_more}
use Rattle.lg_retry.specs.Failures.{History, Kept}
use Rattle.lg_calls.specs.Status.{forgiven}
use Rattle.lg_calls.specs.Task.{Task}
use Rattle.lg_calls.specs.Tasks.{change_meant}
use Rattle.lg_plain.specs.declared.change.Change.{Change}
use Rattle.lg_plain.specs.Prepared.{beginning, adds_failure, gets_failure, failures_behind, Takes}

abbrev pub history_of : Kept → History
history_of kept = kept.history

-- what is prepared, whoever is meant
abbrev pub IsPrepared : Change → (Task → Bool) → List Task → List Kept → Type 0
IsPrepared change meant tasks prepared = map history_of prepared ≡ map (failures_behind change) (filter (gets_failure change.status meant) tasks)

-- ---- how it grows

filtered : (p : Task → Bool) (tasks : List Task) (i : ℕ) (task : Task) (b : Bool) → i < length tasks → task ≡ get_or tasks i task → p task ≡ b
    → filter p (take (i + 1) tasks) ≡ filter p (take i tasks) ++ cond b (task ∷ []) []
filtered p tasks i task b inside here is =
    filter_more p tasks i task inside
    ∙ ap (λ t. filter p (take i tasks) ++ cond (p t) (t ∷ []) []) (sym here)
    ∙ ap (λ c. filter p (take i tasks) ++ cond c (task ∷ []) []) is

-- the failures of one task more
pub IsPrepared-more : (change : Change) (meant : Task → Bool) (tasks : List Task) (i : ℕ) (task : Task) (before : List Kept) (kept : Kept)
    → i < length tasks → task ≡ get_or tasks i task → IsPrepared change meant (take i tasks) before
    → gets_failure change.status meant task ≡ true → kept.history ≡ failures_behind change task
    → IsPrepared change meant (take (i + 1) tasks) (before ++ kept ∷ [])
IsPrepared-more change meant tasks i task before kept inside here prepared gets behind =
    let p : Task → Bool = gets_failure change.status meant in
    map_push history_of before kept
    ∙ ap (λ histories. histories ++ kept.history ∷ []) prepared
    ∙ ap (λ history. map (failures_behind change) (filter p (take i tasks)) ++ history ∷ []) behind
    ∙ sym (map_push (failures_behind change) (filter p (take i tasks)) task)
    ∙ ap (map (failures_behind change)) (sym (filtered p tasks i task true inside here gets))

-- a task that gets none
pub IsPrepared-same : (change : Change) (meant : Task → Bool) (tasks : List Task) (i : ℕ) (task : Task) (before : List Kept)
    → i < length tasks → task ≡ get_or tasks i task → IsPrepared change meant (take i tasks) before
    → gets_failure change.status meant task ≡ false
    → IsPrepared change meant (take (i + 1) tasks) before
IsPrepared-same change meant tasks i task before inside here prepared none =
    let p : Task → Bool = gets_failure change.status meant in
    prepared ∙ ap (map (failures_behind change)) (sym (filtered p tasks i task false inside here none ∙ append-nil (filter p (take i tasks))))

-- ---- how it is used up

-- the element of a list that is changed in place is that of the list as it was
pub read-initially : {X : Type 0} (f : X → X) (xs ys : List X) (i : ℕ) (x : X) → i < length xs → ys ≡ map f (take i xs) ++ drop i xs → x ≡ get_or ys i x → x ≡ get_or xs i x
read-initially f xs ys i x inside changed here =
    let front = map f (take i xs) in
    let long : length front ≡ i = length-map (take i xs) f ∙ omega (arith, length-take i xs) in
    here ∙ ap (λ l. get_or l i x) (changed ∙ ap (λ l. front ++ l) (drop_more xs i x inside)) ∙ get_or_at front _ _ x i long

taken-first : (before : List Kept) (history : History) (histories : List History) → map history_of before ≡ history ∷ histories
    → (taken : Option Kept) (after : List Kept) → Takes true before taken after
    → (map history_of after ≡ histories) × IsSomeAnd taken (λ kept. kept.history ≡ history)
taken-first [] history histories e taken after takes = absurd (none e)
  where
    none : {X : Type 0} {x : X} {xs : List X} → [] ≡ x ∷ xs → ⊥
    none e = cc
taken-first (kept ∷ before) history histories e taken after takes =
    let first : kept.history ≡ history = cc in
    let others : map history_of before ≡ histories = cc in
    (ap (map history_of) takes.1 ∙ others, subst (λ o. IsSomeAnd o (λ k. k.history ≡ history)) (sym takes.0) first)

used-by : (change : Change) (meant : Task → Bool) (task : Task) (rest : List Task) (before : List Kept) (b : Bool)
    → map history_of before ≡ map (failures_behind change) (cond b (task ∷ filter (gets_failure change.status meant) rest) (filter (gets_failure change.status meant) rest))
    → (taken : Option Kept) (after : List Kept) → Takes b before taken after
    → IsPrepared change meant rest after × (b ≡ true → IsSomeAnd taken (λ kept. kept.history ≡ failures_behind change task))
used-by change meant task rest before true prepared taken after takes =
    let used = taken-first before (failures_behind change task) (map (failures_behind change) (filter (gets_failure change.status meant) rest)) prepared taken after takes in
    (used.0, λ _. used.1)
used-by change meant task rest before false prepared taken after takes =
    (ap (map history_of) takes.1 ∙ prepared, λ e. absurd (apart e))
  where
    apart : false ≡ true → ⊥
    apart e = cc

-- what is left behind a task, and what was taken out for it
pub IsPrepared-used : (change : Change) (meant : Task → Bool) (tasks : List Task) (i : ℕ) (task : Task) (before : List Kept)
    → i < length tasks → task ≡ get_or tasks i task → IsPrepared change meant (drop i tasks) before
    → (taken : Option Kept) (after : List Kept) → Takes (gets_failure change.status meant task) before taken after
    → IsPrepared change meant (drop (i + 1) tasks) after × (gets_failure change.status meant task ≡ true → IsSomeAnd taken (λ kept. kept.history ≡ failures_behind change task))
IsPrepared-used change meant tasks i task before inside here prepared taken after takes =
    let p : Task → Bool = gets_failure change.status meant in
    let split : drop i tasks ≡ task ∷ drop (i + 1) tasks = drop_more tasks i task inside ∙ ap (λ t. t ∷ drop (i + 1) tasks) (sym here) in
    used-by change meant task (drop (i + 1) tasks) before (p task) (prepared ∙ ap (λ l. map (failures_behind change) (filter p l)) split) taken after takes

-- a task begins with the status that it has
pub adds_failure-beginning : (change : Change) (task : Task) → adds_failure change.status (beginning change task) ≡ adds_failure change.status task
adds_failure-beginning change task = by_choice change.forgets
  where
    by_choice : (b : Bool) → adds_failure change.status (cond b (forgiven task) task) ≡ adds_failure change.status task
    by_choice true = refl
    by_choice false = refl

-- a task that is meant: what is left behind it, and what was taken out for it
pub used-meant : (change : Change) (meant : Task → Bool) (tasks : List Task) (i : ℕ) (task : Task) (before : List Kept)
    → i < length tasks → task ≡ get_or tasks i task → IsPrepared change meant (drop i tasks) before → meant task ≡ true
    → (taken : Option Kept) (after : List Kept) → Takes (adds_failure change.status task) before taken after
    → IsPrepared change meant (drop (i + 1) tasks) after
    × (adds_failure change.status (beginning change task) ≡ true → IsSomeAnd taken (λ kept. kept.history ≡ failures_behind change task))
used-meant change meant tasks i task before inside here prepared is taken after takes =
    let gets : gets_failure change.status meant task ≡ adds_failure change.status task = ap (λ m. m && adds_failure change.status task) is in
    let used = IsPrepared-used change meant tasks i task before inside here prepared taken after (subst (λ b. Takes b before taken after) (sym gets) takes) in
    (used.0, λ adds. used.1 (gets ∙ sym (adds_failure-beginning change task) ∙ adds))

-- any other task
pub used-other : (change : Change) (meant : Task → Bool) (tasks : List Task) (i : ℕ) (task : Task) (before : List Kept)
    → i < length tasks → task ≡ get_or tasks i task → IsPrepared change meant (drop i tasks) before → meant task ≡ false
    → IsPrepared change meant (drop (i + 1) tasks) before
used-other change meant tasks i task before inside here prepared is =
    let gets : gets_failure change.status meant task ≡ false = ap (λ m. m && adds_failure change.status task) is in
    let takes : Takes false before None before = (refl, refl) in
    (IsPrepared-used change meant tasks i task before inside here prepared None before (subst (λ b. Takes b before None before) (sym gets) takes)).0

-- a task more is changed in place, where it is meant
pub set-change_meant : (meant : Task → Bool) (change : Task → Task) (tasks ys : List Task) (i : ℕ) (task behind : Task) (b : Bool)
    → i < length tasks → ys ≡ change_meant meant change (take i tasks) ++ drop i tasks → task ≡ get_or ys i task → meant task ≡ b → behind ≡ cond b (change task) task
    → set ys i behind ≡ change_meant meant change (take (i + 1) tasks) ++ drop (i + 1) tasks
set-change_meant meant change tasks ys i task behind b inside changed here is behind_is =
    ap (set ys i) (behind_is ∙ ap (λ a. cond a (change task) task) (sym is))
    ∙ map_over_more (λ t. cond (meant t) (change t) t) tasks ys i task inside changed here
