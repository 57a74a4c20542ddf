-- The names that a settings file is looked at for. This project's own, after Luigi 3's configuration.
use Rattle.std.specs.Prelude.{◌≡◌, ℕ, List, [], ◌∷◌, All, codes}
use Rattle.toml.specs.Data.{Members, get_member}

-- the keys of the section `[scheduler]`
abbrev pub scheduler_keys : List (List ℕ)
scheduler_keys =
    codes "retry_delay"
    ∷ codes "remove_delay"
    ∷ codes "worker_disconnect_delay"
    ∷ codes "disable_window"
    ∷ codes "disable_hard_timeout"
    ∷ codes "disable_persist"
    ∷ codes "retry_count"
    ∷ codes "max_shown_tasks"
    ∷ codes "max_graph_nodes"
    ∷ codes "stable_done_cooldown_secs"
    ∷ codes "prune_on_get_work"
    ∷ codes "pause_enabled"
    ∷ codes "max_tasks"
    ∷ codes "state_path"
    ∷ []

-- the sections
abbrev pub section_names : List (List ℕ)
section_names = codes "scheduler" ∷ codes "resources" ∷ codes "worker" ∷ codes "retcode" ∷ []

-- two tables have the same at each of these names
abbrev pub AgreeAt : List (List ℕ) → Members → Members → Type 0
AgreeAt names one other = All (λ name. get_member name one ≡ get_member name other) names
