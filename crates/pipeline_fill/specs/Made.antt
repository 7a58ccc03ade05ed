-- What the builders answer, part by part.
use Rattle.std.specs.Prelude.{ℕ, ◌≡◌, ◌+◌, ◌*◌, Bool, true, false, ⊤, List, [], ◌∷◌, map, length, Option, Some, None}
use Rattle.sig_strings.specs.declared.part.Part.{Part}
use Rattle.sig_strings.specs.declared.part.Part.TheVariants as pieces
use Rattle.pipeline_model.specs.declared.pipeline.Var.{Var}
use Rattle.pipeline_model.specs.declared.step.Action.{Action}
use Rattle.pipeline_model.specs.declared.step.Action.TheVariants.{MapNames, Prefix, Suffix, MapPrefixes, Drop, Add, Source, MapTexts, FillHoles, WildHoles, FailRule, FailItem}
use Rattle.pipeline_model.specs.declared.step.Choice.{Choice}
use Rattle.pipeline_model.specs.declared.step.Choice.TheVariants.{Every, Include, Exclude}
use Rattle.pipeline_model.specs.declared.step.Pair.{Pair}
use Rattle.pipeline_fill.specs.declared.entry.Entry.{Entry}
use Rattle.pipeline_fill.specs.declared.filling.Filling.{Filling}
use Rattle.pipeline_fill.specs.declared.filling.Filling.TheVariants as fillings
use Rattle.pipeline_fill.specs.declared.growth.Growth.{Growth}
use Rattle.pipeline_fill.specs.declared.growth.Size.{Size}
use Rattle.pipeline_limits.specs.Sizes.{total}
use Rattle.pipeline_fill.specs.Counts.{capped}
use Rattle.pipeline_fill.specs.Entries.{patterns_of, longest_of, extent_of, largest}
use Rattle.pipeline_fill.specs.Filled.{choices, lacks_values}

-- ---- entries

abbrev pub froms_of : List Pair → List (List ℕ)
froms_of pairs = map (λ pair. pair.from) pairs

-- texts, and how long the longest of the patterns is that they're read as, and all together
abbrev pub texts_view : List (List ℕ) → List (List ℕ) × ℕ × ℕ
texts_view texts = (texts, longest_of texts, capped (extent_of texts))

abbrev pub found_of : Pair → List (List ℕ) × ℕ × ℕ
found_of pair = texts_view pair.to

abbrev pub entry_view : Entry → List (List ℕ) × ℕ × ℕ
entry_view e = (e.texts.now, e.longest, e.extent)

abbrev pub entries_view : List Entry → List (List (List ℕ) × ℕ × ℕ)
entries_view entries = map entry_view entries

-- the entry that was found
abbrev pub IsFound : Option (List (List ℕ)) → Option Entry → Type 0
IsFound wanted None = wanted ≡ None
IsFound wanted (Some e) = (wanted ≡ Some e.texts.now) × (e.longest ≡ longest_of e.texts.now) × (e.extent ≡ capped (extent_of e.texts.now))

-- the names that a choice gives
abbrev pub names_given : Choice → List (List ℕ)
names_given Every = []
names_given (Include names) = names
names_given (Exclude names) = names

abbrev pub names_chosen : Action → List (List ℕ)
names_chosen (MapNames pairs) = []
names_chosen (Prefix front) = []
names_chosen (Suffix back) = []
names_chosen (MapPrefixes pairs) = []
names_chosen Drop = []
names_chosen (Add items negated) = []
names_chosen (Source source) = []
names_chosen (MapTexts pairs) = []
names_chosen (FillHoles choice) = names_given choice
names_chosen (WildHoles choice) = names_given choice
names_chosen (FailRule message) = []
names_chosen (FailItem message) = []

-- ---- what takes a part's place

abbrev pub fills : Part → Filling → List (List Part)
fills part fillings.Itself = (part ∷ []) ∷ []
fills part fillings.Run = (pieces.Run ∷ []) ∷ []
fills part (fillings.Values e) = patterns_of e.texts.now
fills part fillings.Missing = []

abbrev pub is_missing_filling : Filling → Bool
is_missing_filling fillings.Itself = false
is_missing_filling fillings.Run = false
is_missing_filling (fillings.Values e) = false
is_missing_filling fillings.Missing = true

abbrev pub IsMeasured : Filling → Type 0
IsMeasured fillings.Itself = ⊤
IsMeasured fillings.Run = ⊤
IsMeasured (fillings.Values e) = (e.longest ≡ longest_of e.texts.now) × (e.extent ≡ capped (extent_of e.texts.now))
IsMeasured fillings.Missing = ⊤

pub record IsFilling (vars : List Var) (action : Action) (part : Part) (f : Filling) : Type 0 where
  pub stands : choices vars action part ≡ fills part f
  pub lacks : lacks_values vars action part ≡ is_missing_filling f
  pub measured : IsMeasured f

-- what is put in for a placeholder that is chosen
abbrev pub IsPut : Option (List (List Part)) → Filling → Type 0
IsPut wanted fillings.Itself = ⊥
IsPut wanted fillings.Run = wanted ≡ Some ((pieces.Run ∷ []) ∷ [])
IsPut wanted (fillings.Values e) = (wanted ≡ Some (patterns_of e.texts.now)) × (e.longest ≡ longest_of e.texts.now) × (e.extent ≡ capped (extent_of e.texts.now))
IsPut wanted fillings.Missing = wanted ≡ None

-- ---- counting

-- how many patterns are made of one: the product of what may take each part's place
abbrev pub counted : List Var → Action → List Part → ℕ
counted vars action [] = 1
counted vars action (part ∷ parts) = length (choices vars action part) * counted vars action parts

-- how long the longest of them is, where there is one
abbrev pub summed : List Var → Action → List Part → ℕ
summed vars action [] = 0
summed vars action (part ∷ parts) = largest length (choices vars action part) + summed vars action parts

-- how long they are together: each choice with each pattern behind it, and each pattern behind each choice
abbrev pub filled_extent : List Var → Action → List Part → ℕ
filled_extent vars action [] = 0
filled_extent vars action (part ∷ parts) =
    total length (choices vars action part) * counted vars action parts + length (choices vars action part) * filled_extent vars action parts

abbrev pub made_count : Option (List (List Part)) → ℕ
made_count None = 1
made_count (Some patterns) = length patterns

-- how long the longest is of the patterns that take a pattern's place, or the pattern where it stays
abbrev pub longest_made : List Part → Option (List (List Part)) → ℕ
longest_made parts None = length parts
longest_made parts (Some patterns) = largest length patterns

-- how long they are together
abbrev pub extent_made : List Part → Option (List (List Part)) → ℕ
extent_made parts None = length parts
extent_made parts (Some patterns) = total length patterns

abbrev pub IsGrowth : (tests longest extent : ℕ) → Bool → Growth → Type 0
IsGrowth tests longest extent lacking g = (g.tests ≡ capped tests) × (g.longest ≡ capped longest) × (g.extent ≡ capped extent) × (g.lacking ≡ lacking)

abbrev pub IsSize : (names tests longest extent : ℕ) → Size → Type 0
IsSize names tests longest extent s = (s.names ≡ capped names) × (s.tests ≡ capped tests) × (s.longest ≡ capped longest) × (s.extent ≡ capped extent)
