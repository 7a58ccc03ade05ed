-- Correlations bound to rules and to the fields of a schema (Sigma correlations specification 2.0: rules, aliases, group-by). What
-- is refused, that of two rules of one name the first is meant, and that an alias goes before a field of the same name, is this
-- profile's choice.
use Rattle.std.specs.Prelude.{ℕ, ◌≡◌, ◌<◌, Bool, true, false, not, ◌&&◌, ◌||◌, List, [], ◌∷◌, length, map, find, position, is_some, Option, Some, None}
use Rattle.std.specs.List.{list_any, list_all, AllZip}
use Rattle.std.specs.Option.{option_map}
use Rattle.std.specs.Str.{bytes_eq}
use Rattle.sig_base.specs.declared.refusal.Refusal.{Refusal}
use Rattle.sig_base.specs.Judged.{must, first}
use Rattle.event_schema.specs.Lists.{EachOf}
use Rattle.event_schema.specs.Rows.{field_number}
use Rattle.event_schema.specs.declared.schema.Field.{Field}
use Rattle.schema_index.specs.Numbers.{number_of}
use Rattle.rule_head.specs.Plain.{PlainHead}
use Rattle.rule_head.specs.declared.head.Head.{Head}
use Rattle.correlation_windows.specs.declared.bound.Bound.{Bound}
use Rattle.correlation_read.specs.declared.correlation.Alias.{Alias}
use Rattle.correlation_read.specs.declared.correlation.AliasField.{AliasField}
use Rattle.correlation_read.specs.Correlations.{PlainCorrelation}

-- ---- rules

-- by what a rule is meant: its name and its identifier
pub record Names : Type 0 where
  pub name : Option (List ℕ)
  pub id : Option (List ℕ)

-- what a head says of both
abbrev pub names_of_head : Head → Names
names_of_head head = record { name = head.name; id = head.id }

abbrev pub names_of_plain : PlainHead → Names
names_of_plain head = record { name = head.name; id = head.id }

-- a name or identifier that is there, and is this text
abbrev pub is_text : List ℕ → Option (List ℕ) → Bool
is_text text None = false
is_text text (Some other) = bytes_eq other text

-- the rule of these names has the text for its name or its identifier
abbrev pub is_meant : List ℕ → Names → Bool
is_meant text names = is_text text names.name || is_text text names.id

-- the number of the first rule that a text of `rules` stands for
abbrev pub rule_number : List Names → List ℕ → Option ℕ
rule_number all text = position (is_meant text) all

-- ---- fields

-- one of these texts
abbrev pub is_among : List (List ℕ) → List ℕ → Bool
is_among texts text = list_any (λ other. bytes_eq other text) texts

-- a field of the schema has this name
abbrev pub is_field : List Field → List ℕ → Bool
is_field fields name = is_some (field_number fields name)

-- the names of aliases
abbrev pub names_of : List Alias → List (List ℕ)
names_of aliases = map (λ a. a.name) aliases

-- an entry of an alias that is for this rule
abbrev pub is_rule : List ℕ → AliasField → Bool
is_rule rule f = bytes_eq f.rule rule

-- an alias gives a field for each of the rules, and names fields of the schema alone
abbrev pub fits : List Field → List (List ℕ) → Alias → Bool
fits fields rules a = list_all (λ rule. list_any (is_rule rule) a.fields) rules && list_all (λ f. is_field fields f.field) a.fields

-- an alias that isn't grouped by, or fits
abbrev pub is_bindable : List Field → List (List ℕ) → List (List ℕ) → Alias → Bool
is_bindable fields rules group_by a = not (is_among group_by a.name) || fits fields rules a

-- a name that is grouped by is an alias or a field
abbrev pub is_known : List Field → List (List ℕ) → List ℕ → Bool
is_known fields aliases name = is_among aliases name || is_field fields name

-- a field that is counted is the schema's
abbrev pub is_counted : List Field → Option (List ℕ) → Bool
is_counted fields None = true
is_counted fields (Some name) = is_field fields name

-- some rule is meant by a text of `rules`
abbrev pub is_there : List Names → List ℕ → Bool
is_there all text = is_some (rule_number all text)

-- each of the rules is there, or the correlation is refused
abbrev pub rules_refusal : List Names → PlainCorrelation → Option Refusal
rules_refusal all c = must 141 c.place (list_all (is_there all) c.rules)

-- aliases fit, and then the fields are there, or the correlation is refused
abbrev pub groups_refusal : List Field → PlainCorrelation → Option Refusal
groups_refusal fields c = first (
    must 143 c.place (list_all (is_bindable fields c.rules c.group_by) c.aliases)
    ∷ must 144 c.place (list_all (is_known fields (names_of c.aliases)) c.group_by && is_counted fields c.counted)
    ∷ [])

-- Why a correlation isn't bound: a rule that isn't there, an alias that doesn't fit, or a field that isn't there.
abbrev pub bind_refusal : List Names → List Field → PlainCorrelation → Option Refusal
bind_refusal all fields c = first (rules_refusal all c ∷ groups_refusal fields c ∷ [])

-- ---- what is bound

-- the field's name that an alias gives for a rule; an alias without the rule, which isn't bound, gives its own name
abbrev pub given_field : List ℕ → Option AliasField → List ℕ
given_field name None = name
given_field name (Some f) = f.field

-- the field's name that an alias gives for a rule
abbrev pub alias_field : List ℕ → Alias → List ℕ
alias_field rule a = given_field a.name (find (is_rule rule) a.fields)

-- a name that is no alias stands for itself
abbrev pub stands_for : List ℕ → List ℕ → Option Alias → List ℕ
stands_for rule name None = name
stands_for rule name (Some a) = alias_field rule a

-- an alias has this name
abbrev pub is_named : List ℕ → Alias → Bool
is_named name a = bytes_eq a.name name

-- the name of the field that a name of `group-by` stands for with a rule: an alias goes before a field of the same name
abbrev pub group_field : List Alias → List ℕ → List ℕ → List ℕ
group_field aliases rule name = stands_for rule name (find (is_named name) aliases)

-- the fields of the group of a rule's matches, by their numbers
abbrev pub group_of : List Field → List Alias → List (List ℕ) → List ℕ → List ℕ
group_of fields aliases group_by rule = map (λ name. number_of fields (group_field aliases rule name)) group_by

-- the fields of the group of each of the rules, in their order
abbrev pub groups_of : List Field → PlainCorrelation → List (List ℕ)
groups_of fields c = map (group_of fields c.aliases c.group_by) c.rules

-- the number of the rule that a text stands for
abbrev pub IsNumbered : List Names → List ℕ → ℕ → Type 0
IsNumbered all text number = rule_number all text ≡ Some number

-- the correlation with the numbers of its rules and fields
pub record IsBound (all : List Names) (fields : List Field) (c : PlainCorrelation) (b : Bound) : Type 0 where
  pub kind : b.kind ≡ c.kind
  pub rules : AllZip (IsNumbered all) c.rules b.rules
  pub groups : b.groups ≡ groups_of fields c
  pub span : b.span ≡ c.span
  pub condition : b.condition ≡ c.condition
  pub counted : b.counted ≡ option_map (number_of fields) c.counted

-- a number, if there is one, is less than the count
abbrev pub IsBelowIfAny : ℕ → Option ℕ → Type 0
IsBelowIfAny count None = Unit {0}
IsBelowIfAny count (Some number) = number < count

-- rules and fields are there, and each rule has the fields of its group
pub record IsWithin (rules fields : ℕ) (b : Bound) : Type 0 where
  pub rules_there : EachOf (λ number. number < rules) b.rules
  pub fields_there : EachOf (EachOf (λ number. number < fields)) b.groups
  pub counted_there : IsBelowIfAny fields b.counted
  pub each : length b.groups ≡ length b.rules
