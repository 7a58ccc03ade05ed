-- The words that the program accepts, and the request that they are.
use Rattle.std.specs.Prelude.{◌≡◌, ℕ, ◌-◌, ◌^◌, ◌<◌, Bool, ◌&&◌, ◌||◌, nat_le, nat_lt, if◌then◌else◌, List, [], ◌∷◌, length, map, codes, Option, Some, None, option_map, option_and_then, encode_utf8_all}
use Rattle.std.specs.Str.{bytes_eq, chars}
use Rattle.sig_base.specs.Digits.{is_positive, digits_from}
use Rattle.command_line.specs.Computed.{given}
use Rattle.command_line.specs.Given.{Item, value_of, names_of}
use Rattle.command_line.specs.Table.{row_of, backend, schema, pipeline, seed, events, IsGiven}
use Rattle.command_line.specs.declared.command_name.CommandName.{CommandName}
use Rattle.command_line.specs.declared.command_name.CommandName.TheVariants as commands
use Rattle.rule_convert.specs.declared.backend_name.BackendName.{BackendName}
use Rattle.rule_convert.specs.declared.backend_name.BackendName.TheVariants.{Sqlite, Lucene}
use Rattle.sigma_serve.specs.declared.request.Request.{Request}
use Rattle.sigma_serve.specs.declared.request.Request.TheVariants.{Check, Convert, Run, Query, Correlate, Generate}

-- the words in UTF-8
abbrev pub in_utf8 : List (List ℕ) → List (List ℕ)
in_utf8 words = map encode_utf8_all words

-- the files that the items name
abbrev pub files_of : List Item → List (List ℕ)
files_of items = map chars (names_of items)

-- the schema's file, if the items name one
abbrev pub schema_in : List Item → Option (List ℕ)
schema_in items = option_map chars (value_of schema items)

-- the file of pipelines, if they name one
abbrev pub pipelines_in : List Item → Option (List ℕ)
pipelines_in items = option_map chars (value_of pipeline items)

-- the names of the backends, a line for each
abbrev pub backend_names : List (List ℕ × BackendName)
backend_names =
    (codes "sqlite", Sqlite)
    ∷ (codes "lucene", Lucene)
    ∷ []

-- the first of these that goes by the word
abbrev pub backend_among : List (List ℕ × BackendName) → List ℕ → Option BackendName
backend_among [] word = None
backend_among (row ∷ rows) word = if bytes_eq word row.0 then Some row.1 else backend_among rows word

-- the backend of this name
abbrev pub backend_named : List ℕ → Option BackendName
backend_named word = backend_among backend_names word

-- the one name of these
abbrev pub only : List (List ℕ) → Option (List ℕ)
only [] = None
only (name ∷ []) = Some name
only (name ∷ other ∷ others) = None

-- ---- numbers

-- a canonical decimal without a sign: 0, or a digit 1 to 9 and any digits
abbrev pub is_canonical : List ℕ → Bool
is_canonical word = bytes_eq word (codes "0") || is_positive word

-- the number from 0 to the last one of which the word is the canonical decimal
abbrev pub number_to : ℕ → List ℕ → Option ℕ
number_to last word = if is_canonical word && nat_le (digits_from 0 word) last then Some (digits_from 0 word) else None

-- the number that the generator begins with, if the items name one: one of 32 bits
abbrev pub seed_in : List Item → Option ℕ
seed_in items = option_and_then (number_to 4294967295) (value_of seed items)

-- how many events it makes, if they tell it: 100,000 at most
abbrev pub count_in : List Item → Option ℕ
count_in items = option_and_then (number_to 100000) (value_of events items)

-- ---- requests

-- what a command with these items asks for
abbrev pub request_with : CommandName → List Item → Option Request
request_with commands.Check items = Some (Check (files_of items))
request_with commands.Convert items =
    option_map (λ name. Convert name (schema_in items) (pipelines_in items) (files_of items)) (option_and_then backend_named (value_of backend items))
request_with commands.Run items = option_map (Run (schema_in items) (pipelines_in items)) (only (files_of items))
request_with commands.Query items =
    option_and_then (λ name. option_and_then (λ under. option_map (Query name under) (only (files_of items))) (schema_in items))
    (option_and_then backend_named (value_of backend items))
request_with commands.Correlate items = option_map (λ under. Correlate under (pipelines_in items) (files_of items)) (schema_in items)
request_with commands.Generate items = option_and_then (λ start. option_map (Generate start) (count_in items)) (seed_in items)

-- The first word is a command's name, and those behind it give items that ask for the request. There are fewer than 2^20 words.
pub record IsAccepted (words : List (List ℕ)) (request : Request) : Type 0 where
  pub command : CommandName
  pub others : List (List ℕ)
  pub shape : words ≡ (row_of command).name ∷ others
  pub items : List Item
  pub given : IsGiven (row_of command) (in_utf8 others) items
  pub asks : request_with command items ≡ Some request
  pub few : length words < 2 ^ 20

-- the words are accepted as no request
abbrev pub IsUnaccepted : List (List ℕ) → Type 0
IsUnaccepted words = (request : Request) → IsAccepted words request → ⊥

-- ---- read word by word

-- the request of a command with these words behind its name
abbrev pub asked : CommandName → List (List ℕ) → Option Request
asked command others = option_and_then (request_with command) (given (row_of command) (in_utf8 others))

abbrev pub asked_if_any : Option CommandName → List (List ℕ) → Option Request
asked_if_any None others = None
asked_if_any (Some command) others = asked command others

-- the command of this name
abbrev pub command_named : List ℕ → Option CommandName
command_named word =
    if bytes_eq word (row_of commands.Check).name then Some commands.Check
    else if bytes_eq word (row_of commands.Convert).name then Some commands.Convert
    else if bytes_eq word (row_of commands.Run).name then Some commands.Run
    else if bytes_eq word (row_of commands.Query).name then Some commands.Query
    else if bytes_eq word (row_of commands.Correlate).name then Some commands.Correlate
    else if bytes_eq word (row_of commands.Generate).name then Some commands.Generate
    else None

abbrev pub request_of : List (List ℕ) → Option Request
request_of [] = None
request_of (word ∷ others) = asked_if_any (command_named word) others

-- the request that the words are, if they are one
abbrev pub read : List (List ℕ) → Option Request
read words = if nat_lt (length words) (2 ^ 20) then request_of words else None
