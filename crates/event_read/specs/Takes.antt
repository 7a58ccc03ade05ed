-- What a field takes of a JSON value: a line for each kind of value and of field.
use Rattle.std.specs.Prelude.{ℕ, nat_lt, ◌==◌, ℤ, pos, Bool, true, false, if◌then◌else◌, List, [], ◌∷◌, ◌++◌, codes, Option, Some, None, Result, Ok, Err}
use Rattle.std.specs.Fmt.{signed_decimal}
use Rattle.std.specs.List.{list_all}
use Rattle.std.specs.Str.{chars}
use Rattle.std.specs.Str.Parse.{signed_digits_value}
use Rattle.serde_json.specs.Data.{Num, unsigned, negative, float, Data, null, boolean, number, string, array, object, Items, no_items, item}
use Rattle.sig_base.specs.Digits.{is_digit, is_positive}
use Rattle.event_read.specs.Quads.{is_address}
pub use Rattle.event_time.specs.Wholes.{is_whole}
use Rattle.event_schema.specs.declared.schema.FieldKind.{FieldKind}
use Rattle.event_schema.specs.declared.schema.FieldKind.TheVariants as kinds
use Rattle.event_schema.specs.declared.value.Value.{Value}
use Rattle.event_schema.specs.declared.value.Value.TheVariants as values

-- no value, a single value, or the code for which nothing is taken
abbrev pub Taking : Type 0
Taking = Result (Option Value) ℕ

-- a list of values, or the code for which nothing is taken
abbrev pub Takings : Type 0
Takings = Result (List Value) ℕ

-- `0`, or an optional `-`, a digit 1 to 9 and any digits
abbrev pub is_decimal : List ℕ → Bool
is_decimal [] = false
is_decimal (c ∷ []) = is_digit c
is_decimal (c ∷ d ∷ ds) = if c == 45 then is_positive (d ∷ ds) else is_positive (c ∷ d ∷ ds)

-- a text, unless it holds U+0000
abbrev pub as_text : List ℕ → Taking
as_text text = if list_all (λ c. nat_lt 0 c) text then Ok (Some (values.Text text)) else Err 28

abbrev pub as_whole : ℤ → Taking
as_whole n = if is_whole n then Ok (Some (values.Whole n)) else Err 27

-- the decimal of a whole number
abbrev pub as_digits : ℤ → Taking
as_digits n = if is_whole n then Ok (Some (values.Text (signed_decimal n))) else Err 27

-- what a field of texts takes
abbrev pub text_of_number : Num → Taking
text_of_number (unsigned n) = as_digits (pos n)
text_of_number (negative z) = as_digits z
text_of_number (float x) = Err 26

abbrev pub text_of : Data → Taking
text_of null = Ok None
text_of (boolean true) = Ok (Some (values.Text (codes "true")))
text_of (boolean false) = Ok (Some (values.Text (codes "false")))
text_of (number n) = text_of_number n
text_of (string s) = as_text (chars s)
text_of (array ds) = Err 26
text_of (object ms) = Err 26

-- what a field of whole numbers takes
abbrev pub whole_of_number : Num → Taking
whole_of_number (unsigned n) = as_whole (pos n)
whole_of_number (negative z) = as_whole z
whole_of_number (float x) = Err 26

abbrev pub whole_of_text : List ℕ → Taking
whole_of_text text = if is_decimal text then as_whole (signed_digits_value 10 text) else Err 26

abbrev pub whole_of : Data → Taking
whole_of null = Ok None
whole_of (boolean b) = Err 26
whole_of (number n) = whole_of_number n
whole_of (string s) = whole_of_text s
whole_of (array ds) = Err 26
whole_of (object ms) = Err 26

-- what a field of addresses takes
abbrev pub address_of_text : List ℕ → Taking
address_of_text text = if is_address text then as_text (chars text) else Err 26

abbrev pub address_of : Data → Taking
address_of null = Ok None
address_of (boolean b) = Err 26
address_of (number n) = Err 26
address_of (string s) = address_of_text s
address_of (array ds) = Err 26
address_of (object ms) = Err 26

-- the single value that a field of this kind takes
abbrev pub take_single : FieldKind → Data → Taking
take_single kinds.Text d = text_of d
take_single kinds.Whole d = whole_of d
take_single kinds.Address d = address_of d

-- a list of one, or of none
abbrev pub alone : Taking → Takings
alone (Ok None) = Ok []
alone (Ok (Some value)) = Ok (value ∷ [])
alone (Err code) = Err code

-- values before others
abbrev pub before : List Value → Takings → Takings
before values (Ok others) = Ok (values ++ others)
before values (Err code) = Err code

-- the first that is refused decides
abbrev pub joined : Takings → Takings → Takings
joined (Ok values) rest = before values rest
joined (Err code) rest = Err code

-- the values of a list's elements, in their order; null is passed over
abbrev pub take_each : FieldKind → Items → Takings
take_each kind no_items = Ok []
take_each kind (item d ds) = joined (alone (take_single kind d)) (take_each kind ds)

-- what a field of several values takes: a list, or a single value
abbrev pub take_many : FieldKind → Data → Takings
take_many kind null = alone (take_single kind null)
take_many kind (boolean b) = alone (take_single kind (boolean b))
take_many kind (number n) = alone (take_single kind (number n))
take_many kind (string s) = alone (take_single kind (string s))
take_many kind (array ds) = take_each kind ds
take_many kind (object ms) = alone (take_single kind (object ms))

-- what a field takes of a value
abbrev pub take_values : FieldKind → Bool → Data → Takings
take_values kind true d = take_many kind d
take_values kind false d = alone (take_single kind d)
