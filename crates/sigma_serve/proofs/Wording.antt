-- Words are accepted as the request that is read from them word by word, and as no other.
use Rattle.std.proofs.Common.{◌≡◌, ℕ, ◌<◌, ◌^◌, Bool, true, false, cond, List, [], ◌∷◌, length, nat_lt, refl, ap, sym, ◌∙◌, Option, Some, None, inl, inr}
use Rattle.std.specs.Prelude.{◌⊎◌, option_and_then, Result, Ok, Err, IfOk, IfSome, IfNone}
use Rattle.std.specs.declared.alloc.AllocError.{AllocError}
use Rattle.std.specs.Str.{bytes_eq}
use Rattle.std.proofs.lemmas.Bool.{lt-ltb, ltb-true}
use Rattle.std.proofs.lemmas.Slice.Eq.{bytes_eq-Decides}
use Rattle.command_line.proofs.Computing.{computed, plain_names}
use Rattle.command_line.specs.Computed.{given}
use Rattle.command_line.specs.Given.{Item}
use Rattle.command_line.specs.Table.{row_of}
use Rattle.command_line.specs.declared.command_name.CommandName.{CommandName}
use Rattle.command_line.specs.declared.command_name.CommandName.TheVariants as commands
use Rattle.sigma_serve.specs.Words.{in_utf8, request_with, IsAccepted, IsUnaccepted, asked, asked_if_any, command_named, request_of, read}
use Rattle.sigma_serve.specs.declared.request.Request.{Request}

-- ---- what is accepted is read

if_true : {A : Type 0} (b : Bool) (x y : A) → b ≡ true → cond b x y ≡ x
if_true true x y is = refl
if_true false x y is = absurd cc

named_so : (command : CommandName) → command_named (row_of command).name ≡ Some command
named_so commands.Check = refl
named_so commands.Convert = refl
named_so commands.Run = refl
named_so commands.Query = refl
named_so commands.Correlate = refl
named_so commands.Generate = refl

pub accepted_read : (words : List (List ℕ)) (request : Request) → IsAccepted words request → read words ≡ Some request
accepted_read words request accepted =
    let command = accepted.command in
    let items : given (row_of command) (in_utf8 accepted.others) ≡ Some accepted.items =
    (computed (row_of command) (in_utf8 accepted.others) accepted.items (plain_names command)).0 accepted.given in
    if_true (nat_lt (length words) (2 ^ 20)) (request_of words) None (lt-ltb (length words) (2 ^ 20) accepted.few)
    ∙ (ap request_of accepted.shape
    ∙ (ap (λ (c : Option CommandName). asked_if_any c accepted.others) (named_so command)
    ∙ (ap (λ (i : Option (List Item)). option_and_then (request_with command) i) items ∙ accepted.asks)))

-- ---- what is read is accepted

none_some : {A : Type 0} (x : A) → None ≡ Some x → ⊥
none_some x same = cc

some_is : {A : Type 0} (x y : A) → Some x ≡ Some y → x ≡ y
some_is x y same = cc

choose : {A : Type 0} (b : Bool) (x y z : A) → cond b x y ≡ z → ((b ≡ true) × (x ≡ z)) ⊎ ((b ≡ false) × (y ≡ z))
choose true x y z is = inl (refl, is)
choose false x y z is = inr (refl, is)

same_word : (word other : List ℕ) → bytes_eq word other ≡ true → word ≡ other
same_word word other is = (bytes_eq-Decides word other).0 is

-- a word that is compared with one name, and then with others
one_of : (word : List ℕ) (first command : CommandName) (others : Option CommandName) → (others ≡ Some command → word ≡ (row_of command).name)
    → cond (bytes_eq word (row_of first).name) (Some first) others ≡ Some command → word ≡ (row_of command).name
one_of word first command others rest is = elim (choose (bytes_eq word (row_of first).name) (Some first) others (Some command) is) [
  | inl h ↦ same_word word (row_of first).name h.0 ∙ ap (λ (c : CommandName). (row_of c).name) (some_is first command h.1)
  | inr h ↦ rest h.1
]

abbrev named_generate : List ℕ → Option CommandName
named_generate word = cond (bytes_eq word (row_of commands.Generate).name) (Some commands.Generate) None

abbrev named_correlate : List ℕ → Option CommandName
named_correlate word = cond (bytes_eq word (row_of commands.Correlate).name) (Some commands.Correlate) (named_generate word)

abbrev named_query : List ℕ → Option CommandName
named_query word = cond (bytes_eq word (row_of commands.Query).name) (Some commands.Query) (named_correlate word)

abbrev named_run : List ℕ → Option CommandName
named_run word = cond (bytes_eq word (row_of commands.Run).name) (Some commands.Run) (named_query word)

abbrev named_convert : List ℕ → Option CommandName
named_convert word = cond (bytes_eq word (row_of commands.Convert).name) (Some commands.Convert) (named_run word)

name_of : (word : List ℕ) (command : CommandName) → command_named word ≡ Some command → word ≡ (row_of command).name
name_of word command is =
    one_of word commands.Check command (named_convert word)
    (one_of word commands.Convert command (named_run word)
    (one_of word commands.Run command (named_query word)
    (one_of word commands.Query command (named_correlate word)
    (one_of word commands.Correlate command (named_generate word) (one_of word commands.Generate command None (λ none. absurd (none_some command none))))))) is

-- the items that were read, and what they ask for
asked_of : (command : CommandName) (others : List (List ℕ)) (request : Request) → asked command others ≡ Some request
    → (items : List Item) × (given (row_of command) (in_utf8 others) ≡ Some items) × (request_with command items ≡ Some request)
asked_of command others request is = by (given (row_of command) (in_utf8 others)) refl is where
  by : (found : Option (List Item)) → given (row_of command) (in_utf8 others) ≡ found → option_and_then (request_with command) found ≡ Some request
      → (items : List Item) × (given (row_of command) (in_utf8 others) ≡ Some items) × (request_with command items ≡ Some request)
  by None same is = absurd (none_some request is)
  by (Some items) same is = (items, same, is)

read_words : (words : List (List ℕ)) (request : Request) → length words < 2 ^ 20 → request_of words ≡ Some request → IsAccepted words request
read_words [] request few is = absurd (none_some request is)
read_words (word ∷ others) request few is = by (command_named word) refl is where
  by : (named : Option CommandName) → command_named word ≡ named → asked_if_any named others ≡ Some request → IsAccepted (word ∷ others) request
  by None same is = absurd (none_some request is)
  by (Some command) same is =
      let found = asked_of command others request is in
      record {
        command = command;
        others = others;
        shape = ap (λ (w : List ℕ). w ∷ others) (name_of word command same);
        items = found.0;
        given = (computed (row_of command) (in_utf8 others) found.0 (plain_names command)).1 found.1;
        asks = found.2;
        few = few;
      }

pub read_accepted : (words : List (List ℕ)) (request : Request) → read words ≡ Some request → IsAccepted words request
read_accepted words request is = elim (choose (nat_lt (length words) (2 ^ 20)) (request_of words) None (Some request) is) [
  | inl h ↦ read_words words request (ltb-true (length words) (2 ^ 20) h.0) h.1
  | inr h ↦ absurd (none_some request h.1)
]

-- ---- what follows

pub one_request : (words : List (List ℕ)) (a b : Request) → IsAccepted words a → IsAccepted words b → a ≡ b
one_request words a b first second = some_is a b (sym (accepted_read words a first) ∙ accepted_read words b second)

-- words are accepted as a request or as none
pub decided : (words : List (List ℕ)) → ((request : Request) × IsAccepted words request) ⊎ IsUnaccepted words
decided words = by (read words) refl
  where
    by : (r : Option Request) → read words ≡ r → ((request : Request) × IsAccepted words request) ⊎ IsUnaccepted words
    by (Some request) is = inl (request, read_accepted words request is)
    by None is = inr (λ request accepted. none_some request (sym is ∙ accepted_read words request accepted))

-- ---- of what the reader answers

pub accepted_if : (words : List (List ℕ)) (r : Result (Option Request) AllocError) → IfOk r (λ o. o ≡ read words) → IfOk r (λ o. IfSome o (λ request. IsAccepted words request))
accepted_if words (Ok (Some request)) is = read_accepted words request (sym is)
accepted_if words (Ok None) is = tt
accepted_if words (Err e) is = tt

pub unaccepted_if : (words : List (List ℕ)) (r : Result (Option Request) AllocError) → IfOk r (λ o. o ≡ read words) → IfOk r (λ o. IfNone o (IsUnaccepted words))
unaccepted_if words (Ok (Some request)) is = tt
unaccepted_if words (Ok None) is = λ request accepted. none_some request (is ∙ accepted_read words request accepted)
unaccepted_if words (Err e) is = tt
