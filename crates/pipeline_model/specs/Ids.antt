-- The identifiers of steps as texts that are numbered: a sign and then the identifier, or nothing where a step has none.
use Rattle.std.specs.Prelude.{ℕ, Bool, true, false, not, ◌||◌, ◌==◌, if◌then◌else◌, List, [], ◌∷◌, codes, Option, Some, None}
use Rattle.sig_base.specs.declared.refusal.Refusal.{Refusal}
use Rattle.sig_base.specs.Judged.{must}
use Rattle.text_index.specs.Numbers.{first_number}
use Rattle.yaml_tree.specs.Tree.{Tree}
use Rattle.yaml_tree.specs.Nodes.{place_of, is_text, text_in, entries_in, value_in, refused_by}

abbrev pub id_key_in : Tree → List ℕ
id_key_in t = if is_text t then 105 ∷ text_in t else []

abbrev pub id_key_if : Option Tree → List ℕ
id_key_if None = []
id_key_if (Some t) = id_key_in t

abbrev pub id_key : Tree → List ℕ
id_key t = id_key_if (value_in (codes "id") (entries_in t))

abbrev pub is_at : ℕ → Option ℕ → Bool
is_at at None = false
is_at at (Some number) = number == at

-- no text, or one that is first found at this step
abbrev pub is_first : List (List ℕ) → ℕ → Tree → Bool
is_first keys at t = not (is_text t) || is_at at (first_number keys (105 ∷ text_in t))

abbrev pub numbered_refusal : List (List ℕ) → ℕ → Tree → Option Refusal
numbered_refusal keys at t = must 93 (place_of t) (is_first keys at t)

abbrev pub id_by : List (List ℕ) → ℕ → Tree → Option Refusal
id_by keys at t = refused_by (numbered_refusal keys at) (value_in (codes "id") (entries_in t))
