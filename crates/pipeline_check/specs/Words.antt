-- The words of pipelines (pySigma, processing pipelines): the types of steps and of conditions, and keys.
use Rattle.std.specs.Prelude.{ℕ, Bool, true, false, ◌||◌, if◌then◌else◌, List, codes, Option, Some, None}
use Rattle.std.specs.Str.{bytes_eq}
use Rattle.pipeline_check.specs.declared.words.StepKind.{StepKind}
use Rattle.pipeline_check.specs.declared.words.StepKind.TheVariants as kinds
use Rattle.pipeline_check.specs.declared.words.Listing.{Listing}
use Rattle.pipeline_check.specs.declared.words.Listing.TheVariants.{Include, Exclude}

-- the types that change names or remove items
abbrev pub name_kind_of : List ℕ → Option StepKind
name_kind_of word =
    if bytes_eq word (codes "field_name_mapping") then Some kinds.MapNames
    else if bytes_eq word (codes "field_name_prefix") then Some kinds.Prefix
    else if bytes_eq word (codes "field_name_suffix") then Some kinds.Suffix
    else if bytes_eq word (codes "field_name_prefix_mapping") then Some kinds.MapPrefixes
    else if bytes_eq word (codes "drop_detection_item") then Some kinds.Drop
    else None

-- the other types
abbrev pub other_kind_of : List ℕ → Option StepKind
other_kind_of word =
    if bytes_eq word (codes "add_condition") then Some kinds.Add
    else if bytes_eq word (codes "change_logsource") then Some kinds.Source
    else if bytes_eq word (codes "map_string") then Some kinds.MapTexts
    else if bytes_eq word (codes "value_placeholders") then Some kinds.FillHoles
    else if bytes_eq word (codes "wildcard_placeholders") then Some kinds.WildHoles
    else if bytes_eq word (codes "rule_failure") then Some kinds.FailRule
    else if bytes_eq word (codes "detection_item_failure") then Some kinds.FailItem
    else None

abbrev pub either_kind : Option StepKind → Option StepKind → Option StepKind
either_kind (Some kind) other = Some kind
either_kind None other = other

-- the type of a step of this name
abbrev pub kind_of : List ℕ → Option StepKind
kind_of word = either_kind (name_kind_of word) (other_kind_of word)

-- the types of conditions on fields
abbrev pub listing_of : List ℕ → Option Listing
listing_of word =
    if bytes_eq word (codes "include_fields") then Some Include
    else if bytes_eq word (codes "exclude_fields") then Some Exclude
    else None

-- the keys that choose placeholders
abbrev pub chooser_of : List ℕ → Option Listing
chooser_of key =
    if bytes_eq key (codes "include") then Some Include
    else if bytes_eq key (codes "exclude") then Some Exclude
    else None

abbrev pub is_same : Listing → Listing → Bool
is_same Include Include = true
is_same Include Exclude = false
is_same Exclude Include = false
is_same Exclude Exclude = true

-- the keys of a log source
abbrev pub is_source_key : List ℕ → Bool
is_source_key key = bytes_eq key (codes "category") || bytes_eq key (codes "product") || bytes_eq key (codes "service")

-- the keys of a pipeline that pySigma has and that are left out here
abbrev pub is_left_out : List ℕ → Bool
is_left_out key = bytes_eq key (codes "postprocessing") || bytes_eq key (codes "finalizers") || bytes_eq key (codes "allowed_backends")
