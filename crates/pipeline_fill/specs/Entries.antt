-- Texts, each with those that take its place.
use Rattle.std.specs.Prelude.{ℕ, false, max, List, [], ◌∷◌, map, length, if◌then◌else◌, Option, Some, None}
use Rattle.std.specs.Str.{bytes_eq}
use Rattle.sig_strings.specs.declared.part.Part.{Part}
use Rattle.modifier_values.specs.Parts.{parts_of}
use Rattle.pipeline_model.specs.declared.pipeline.Var.{Var}
use Rattle.pipeline_model.specs.declared.step.Action.{Action}
use Rattle.pipeline_model.specs.declared.step.Action.TheVariants.{MapNames, Prefix, Suffix, MapPrefixes, Drop, Add, Source, MapTexts, FillHoles, WildHoles, FailRule, FailItem}
use Rattle.pipeline_model.specs.declared.step.Pair.{Pair}
use Rattle.pipeline_limits.specs.Sizes.{total}

-- the texts that take the place of a text: those of its first entry
abbrev pub texts_for : List Pair → List ℕ → Option (List (List ℕ))
texts_for [] text = None
texts_for (pair ∷ pairs) text = if bytes_eq pair.from text then Some pair.to else texts_for pairs text

-- a variable's values take the place of placeholders with its name
abbrev pub as_pair : Var → Pair
as_pair var = record { from = var.name; to = var.values }

abbrev pub as_pairs : List Var → List Pair
as_pairs vars = map as_pair vars

-- the entries that an action finds texts by
abbrev pub entries_of : List Var → Action → List Pair
entries_of vars (MapNames pairs) = []
entries_of vars (Prefix front) = []
entries_of vars (Suffix back) = []
entries_of vars (MapPrefixes pairs) = []
entries_of vars Drop = []
entries_of vars (Add items negated) = []
entries_of vars (Source source) = []
entries_of vars (MapTexts pairs) = pairs
entries_of vars (FillHoles choice) = as_pairs vars
entries_of vars (WildHoles choice) = []
entries_of vars (FailRule message) = []
entries_of vars (FailItem message) = []

-- each text read as a pattern, without placeholders
abbrev pub patterns_of : List (List ℕ) → List (List Part)
patterns_of texts = map (parts_of false) texts

-- the largest size in a list, 0 where there is none
abbrev pub largest : {A : Type 0} → (A → ℕ) → List A → ℕ
largest size [] = 0
largest size (x ∷ xs) = max (size x) (largest size xs)

-- how long the longest of the patterns is that texts are read as
abbrev pub longest_of : List (List ℕ) → ℕ
longest_of texts = largest length (patterns_of texts)

-- how many parts the patterns have together that texts are read as
abbrev pub extent_of : List (List ℕ) → ℕ
extent_of texts = total length (patterns_of texts)
