-- How the code finds rules, and where the fields of a group come from, as the code keeps it.
use Rattle.std.specs.Prelude.{ℕ, suc, List, [], ◌∷◌, ◌++◌, map, slice_index_or, position, Option, Some, None}
use Rattle.std.specs.Option.{option_map}
use Rattle.event_schema.specs.declared.schema.Field.{Field}
use Rattle.schema_index.specs.Numbers.{number_of}
use Rattle.text_index.specs.Numbers.{first_number}
use Rattle.rule_head.specs.declared.head.Head.{Head}
use Rattle.correlation_read.specs.declared.bindings.Source.{Source}
use Rattle.correlation_read.specs.declared.bindings.Source.TheVariants as sources
use Rattle.correlation_read.specs.declared.correlation.Alias.{Alias}
use Rattle.correlation_read.specs.Binding.{alias_field, is_meant, names_of_head}

-- ---- rules

-- where the first of these heads stands whose rule is meant
abbrev pub place_among : List Head → List ℕ → Option ℕ
place_among heads text = position (λ head. is_meant text (names_of_head head)) heads

-- a name or identifier, where there is one
abbrev pub listed : Option (List ℕ) → List (List ℕ)
listed None = []
listed (Some text) = text ∷ []

-- the names and identifiers of rules, in their order
abbrev pub texts_of : List Head → List (List ℕ)
texts_of [] = []
texts_of (h ∷ hs) = listed h.name ++ (listed h.id ++ texts_of hs)

-- the number of the rule of each of them, where the first rule has this number
abbrev pub rules_from : ℕ → List Head → List ℕ
rules_from n [] = []
rules_from n (h ∷ hs) = map (λ text. n) (listed h.name) ++ (map (λ text. n) (listed h.id) ++ rules_from (suc n) hs)

-- the number at a place
abbrev pub rule_at : List ℕ → ℕ → ℕ
rule_at rules place = slice_index_or rules place 0

-- the number beside the first of these texts that is the text
abbrev pub rule_beside : List (List ℕ) → List ℕ → List ℕ → Option ℕ
rule_beside texts rules text = option_map (rule_at rules) (first_number texts text)

-- ---- fields

abbrev pub sourced : Option ℕ → ℕ → Source
sourced None field = sources.Field field
sourced (Some alias) field = sources.Alias alias

-- the alias of this name, or else the field
abbrev pub source_of : List Field → List (List ℕ) → List ℕ → Source
source_of fields names name = sourced (first_number names name) (number_of fields name)

-- the field of each alias for a rule
abbrev pub numbers_for : List Field → List Alias → List ℕ → List ℕ
numbers_for fields aliases rule = map (λ a. number_of fields (alias_field rule a)) aliases

abbrev pub number_at : List ℕ → Source → ℕ
number_at numbers (sources.Field field) = field
number_at numbers (sources.Alias alias) = slice_index_or numbers alias 0

abbrev pub group_from : List Source → List ℕ → List ℕ
group_from all numbers = map (number_at numbers) all
