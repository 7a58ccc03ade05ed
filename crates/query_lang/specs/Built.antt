-- What builders of regular expressions answer.
use Rattle.std.specs.Prelude.{ℕ, ◌≡◌, false, List, [], ◌∷◌, ◌++◌, ◌⊎◌, Result, Ok, Err, ⊤}
use Rattle.std.specs.Str.{chars}
use Rattle.regex.specs.declared.string.regex.Regex.{Regex}
use Rattle.regex.specs.Strings.{regex_source, regex_config, regex_pattern, matcher_pattern, IsReadFromSource}
use Rattle.regex.specs.declared.string.matcher.Matcher.{Matcher}
use Rattle.regex.specs.Patterns.{default_config}
use Rattle.sig_base.specs.declared.refusal.Fault.{Fault}
use Rattle.sig_base.specs.declared.refusal.Fault.TheVariants as fault
use Rattle.sig_base.specs.declared.refusal.Place.{Place}
use Rattle.sig_base.specs.Judged.{refusal}
use Rattle.query_lang.specs.Patterns.{is_pattern}
use Rattle.query_lang.specs.declared.builder.BuildFault.{BuildFault}
use Rattle.query_lang.specs.declared.builder.BuildFault.TheVariants.{Syntax, Refused, Memory}

-- the pattern that the grammar reads from this text with the default options
pub record IsBuilt (text : List ℕ) (regex : Regex) : Type 0 where
  pub source : chars (regex_source regex) ≡ text
  pub config : regex_config regex ≡ default_config
  pub read : IsReadFromSource regex

-- it searches for the pattern that the grammar reads from this text
pub record IsFinder (text : List ℕ) (matcher : Matcher) : Type 0 where
  pub regex : Regex
  pub built : IsBuilt text regex
  pub same : matcher_pattern matcher ≡ regex_pattern regex

-- a refusal by syntax is of a text that is no pattern; want of memory is none
abbrev pub CanRefuse : BuildFault → List ℕ → Type 0
CanRefuse Syntax text = is_pattern text ≡ false
CanRefuse Refused text = ⊤
CanRefuse Memory text = ⊥

-- The list of refused texts gains this text where it is refused, and nothing else.
abbrev pub BuildAnswers : {T : Type 0} → List (List ℕ) → List (List ℕ) → List ℕ → Result T BuildFault → Type 0
BuildAnswers old new text (Ok built) = new ≡ old
BuildAnswers old new text (Err Memory) = new ≡ old
BuildAnswers old new text (Err Refused) = new ≡ old ++ text ∷ []
BuildAnswers old new text (Err Syntax) = (new ≡ old ++ text ∷ []) × (is_pattern text ≡ false)

-- A refusal at a place is 47 where the text is no pattern, else 48; the list gains the text where it is refused, and nothing else.
abbrev pub SearchAnswers : {T : Type 0} → List (List ℕ) → List (List ℕ) → List ℕ → Place → Result T Fault → Type 0
SearchAnswers old new text place (Ok built) = new ≡ old
SearchAnswers old new text place (Err fault.Memory) = new ≡ old
SearchAnswers old new text place (Err (fault.Refused r)) =
    (new ≡ old ++ text ∷ []) × (((r ≡ refusal 47 place) × (is_pattern text ≡ false)) ⊎ (r ≡ refusal 48 place))
