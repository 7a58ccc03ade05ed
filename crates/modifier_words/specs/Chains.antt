-- Which words make a chain of modifiers, and why others don't (Sigma specification 2.0, modifiers).
use Rattle.std.specs.Prelude.{ℕ, Bool, true, false, ◌&&◌, ◌||◌, not, nat_le, List, [], ◌∷◌, count_by, find, if◌then◌else◌, Option, Some, None, is_some}
use Rattle.std.specs.List.{filter_map, list_all, list_any}
use Rattle.sig_base.specs.declared.refusal.Place.{Place}
use Rattle.sig_base.specs.declared.refusal.Refusal.{Refusal}
use Rattle.sig_base.specs.declared.refusal.Detail.TheVariants as details
use Rattle.sig_base.specs.Judged.{must, first}
use Rattle.modifier_words.specs.Kinds.{is_position, is_all, is_cased, is_units, is_encoding, is_exists, is_cidr, order_in, is_fieldref, is_re, is_case_flag, is_line_flag, is_dot_flag, expression_kinds, is_expression_word, text_kinds, unencoded_kinds, is_text_word}
use Rattle.modifier_words.specs.Words.{modifier_of, is_unknown}
use Rattle.modifier_words.specs.Written.{Written}
use Rattle.modifier_words.specs.declared.form.ChainForm.{ChainForm}
use Rattle.modifier_words.specs.declared.form.ChainForm.TheVariants.{Bare, Presence, Networks, Orders, Reference, Expressions, Texts}
use Rattle.modifier_words.specs.declared.form.Flags.{Flags}
use Rattle.modifier_words.specs.declared.modifier.Joined.{Joined}
use Rattle.modifier_words.specs.declared.modifier.Joined.TheVariants as joinings
use Rattle.modifier_words.specs.declared.modifier.Modifier.{Modifier}
use Rattle.modifier_words.specs.declared.modifier.Op.{Op}

abbrev pub is_empty : List Modifier → Bool
is_empty [] = true
is_empty (modifier ∷ modifiers) = false

-- no two of the modifiers are such
abbrev pub at_most_one : (Modifier → Bool) → List Modifier → Bool
at_most_one p modifiers = nat_le (count_by p modifiers) 1

abbrev pub starts_with : (Modifier → Bool) → List Modifier → Bool
starts_with p [] = false
starts_with p (modifier ∷ modifiers) = p modifier

-- ---- the chains

-- `exists` alone
abbrev pub is_presence : List Modifier → Bool
is_presence [] = false
is_presence (modifier ∷ modifiers) = is_exists modifier && is_empty modifiers

-- nothing, or `all` alone
abbrev pub is_all_or_none : List Modifier → Bool
is_all_or_none [] = true
is_all_or_none (modifier ∷ modifiers) = is_all modifier && is_empty modifiers

-- networks, and then perhaps `all`
abbrev pub is_network_chain : List Modifier → Bool
is_network_chain [] = false
is_network_chain (modifier ∷ modifiers) = is_cidr modifier && is_all_or_none modifiers

-- how values have to stand to a number: one word for that, and then perhaps `all`
abbrev pub order_of : List Modifier → Option Op
order_of [] = None
order_of (modifier ∷ modifiers) = if is_all_or_none modifiers then order_in modifier else None

abbrev pub is_order_chain : List Modifier → Bool
is_order_chain modifiers = is_some (order_of modifiers)

-- `fieldref` alone
abbrev pub is_reference : List Modifier → Bool
is_reference [] = false
is_reference (modifier ∷ modifiers) = is_fieldref modifier && is_empty modifiers

-- `re`, and then perhaps flags and `all`, each at most once and in any order
abbrev pub is_expression_chain : List Modifier → Bool
is_expression_chain [] = false
is_expression_chain (modifier ∷ modifiers) =
    is_re modifier
    && list_all is_expression_word modifiers
    && list_all (λ is_kind. at_most_one is_kind modifiers) expression_kinds

-- the flags that stand there
abbrev pub flags_of : List Modifier → Flags
flags_of modifiers = record { i = list_any is_case_flag modifiers; m = list_any is_line_flag modifiers; s = list_any is_dot_flag modifiers }

-- units stand directly before an encoding, and nowhere else
abbrev pub units_lead : List Modifier → Bool
units_lead [] = true
units_lead (modifier ∷ modifiers) = (not (is_units modifier) || starts_with is_encoding modifiers) && units_lead modifiers

-- no encoding stands behind a position
abbrev pub encodings_lead : List Modifier → Bool
encodings_lead [] = true
encodings_lead (modifier ∷ modifiers) = (not (is_position modifier) || not (list_any is_encoding modifiers)) && encodings_lead modifiers

-- some modifier is of one of these kinds
abbrev pub has_some_of : List (Modifier → Bool) → List Modifier → Bool
has_some_of kinds modifiers = list_any (λ is_kind. list_any is_kind modifiers) kinds

-- words of text chains alone, in any order but that units stand directly before an encoding, and an encoding before a
-- position; of each kind at most one, and with an encoding none of those that it doesn't stand together with
abbrev pub is_text_chain : List Modifier → Bool
is_text_chain modifiers =
    list_all is_text_word modifiers
    && list_all (λ is_kind. at_most_one is_kind modifiers) text_kinds
    && units_lead modifiers
    && encodings_lead modifiers
    && not (list_any is_encoding modifiers && has_some_of unencoded_kinds modifiers)

-- the chains of fields: no modifier, and a line for each kind of chain
abbrev pub is_field_chain : List Modifier → Bool
is_field_chain modifiers =
    is_empty modifiers
    || is_presence modifiers
    || is_network_chain modifiers
    || is_order_chain modifiers
    || is_reference modifiers
    || is_expression_chain modifiers
    || is_text_chain modifiers

-- the chains of keywords: no modifier, and a line for each kind of chain that keywords take
abbrev pub is_keyword_chain : List Modifier → Bool
is_keyword_chain modifiers =
    is_empty modifiers
    || is_expression_chain modifiers
    || is_text_chain modifiers

abbrev pub is_chain : Bool → List Modifier → Bool
is_chain keyword modifiers = if keyword then is_keyword_chain modifiers else is_field_chain modifiers

-- ---- what words are refused, and what a chain asks for

-- the modifiers that these words name, in their order
abbrev pub modifiers_of : List (List ℕ) → List Modifier
modifiers_of words = filter_map modifier_of words

-- code 40, which tells the word
abbrev pub unknown : Place → Option (List ℕ) → Option Refusal
unknown place None = None
unknown place (Some word) = Some (record { code = 40; place = place; detail = details.Text word })

-- why the words are no chain: the first that names no modifier, or that together they aren't allowed
abbrev pub chain_refusal : Bool → Place → List (List ℕ) → Option Refusal
chain_refusal keyword place words =
    first (unknown place (find is_unknown words) ∷ must 41 place (is_chain keyword (modifiers_of words)) ∷ [])

-- the chain of these words
abbrev pub chain_of : List (List ℕ) → Bool → Place → Written
chain_of words keyword place = record { modifiers = modifiers_of words; keyword = keyword; place = place }

-- all values have to be satisfied exactly where the chain says so
abbrev pub joined_of : Written → Joined
joined_of chain = if list_any is_all chain.modifiers then joinings.All else joinings.Any

-- null is taken beside texts where no modifier but `all` and `cased` stands
abbrev pub takes_null : List Modifier → Bool
takes_null modifiers = list_all (λ modifier. is_all modifier || is_cased modifier) modifiers

-- the kind of a chain that asks for no order
abbrev pub unordered_form : List Modifier → ChainForm
unordered_form modifiers =
    if is_empty modifiers then Bare
    else (if is_presence modifiers then Presence
    else (if is_network_chain modifiers then Networks
    else (if is_reference modifiers then Reference
    else (if is_expression_chain modifiers then Expressions (flags_of modifiers) else Texts (takes_null modifiers)))))

abbrev pub ordered_form : Option Op → List Modifier → ChainForm
ordered_form None modifiers = unordered_form modifiers
ordered_form (Some op) modifiers = Orders op

-- the kind of a chain at a field
abbrev pub field_form : List Modifier → ChainForm
field_form modifiers = ordered_form (order_of modifiers) modifiers

-- the kind of a chain at a keyword: regular expressions, or else texts, also without a modifier, and no null
abbrev pub keyword_form : List Modifier → ChainForm
keyword_form modifiers = if is_expression_chain modifiers then Expressions (flags_of modifiers) else Texts false

abbrev pub form_of : Written → ChainForm
form_of chain = if chain.keyword then keyword_form chain.modifiers else field_form chain.modifiers
