-- Names of fields, leaves and numbers, as the reader finds them.
use Rattle.std.specs.Prelude.{ℕ, suc, ◌^◌, Bool, true, false, if◌then◌else◌, nat_lt, List, [], ◌∷◌, Option, Some, None, ℤ, pos}
use Rattle.std.specs.Str.{bytes_eq}
use Rattle.event_schema.specs.declared.schema.Field.{Field}
use Rattle.query_tokens.specs.Places.{At, CodeAt, code_at}
use Rattle.lucene_lang.specs.Faults.{in_bounds, is_whole}
use Rattle.lucene_lang.specs.Query.{Sought, Atom, Everything, OfField, number_of, is_twin}
use Rattle.lucene_read.specs.declared.partial.Known.{Known}
use Rattle.lucene_read.specs.declared.partial.Bound.{Bound}
use Rattle.lucene_read.specs.declared.partial.Bound.TheVariants.{Unbounded, At as Number, Far}

-- ---- names

-- whether a text is this one, if there is one
abbrev pub is_base : Option (List ℕ) → List ℕ → Bool
is_base None text = false
is_base (Some base) text = bytes_eq text base

abbrev pub known : ℕ → Bool → Bool → Known
known k cased whole = record { field = k; cased = cased; whole = whole }

-- the first field, counted from k, that has this name, or whose twin has it
abbrev pub known_in : ℕ → List Field → List ℕ → Option Known
known_in k [] name = None
known_in k (field ∷ fields) name =
    if bytes_eq field.name name then Some (known k false (is_whole field.kind))
    else if is_twin field name then Some (known k true (is_whole field.kind))
    else known_in (suc k) fields name

-- ---- numbers

abbrev pub bounded : ℕ → Option ℤ
bounded n = if nat_lt n (2 ^ 63) then Some (pos n) else None

-- the number that is written so, in bounds
abbrev pub number_in : List ℕ → Option ℤ
number_in w = if in_bounds w then Some (number_of w) else None

abbrev pub bound_if : Option ℤ → Bound
bound_if None = Far
bound_if (Some z) = Number z

abbrev pub bound_number : Bound → Option ℤ
bound_number Unbounded = None
bound_number (Number z) = Some z
bound_number Far = None

abbrev pub is_far : Bound → Bool
is_far Unbounded = false
is_far (Number z) = false
is_far Far = true

-- ---- leaves

-- a name: the field that it is, if it is one, and its place
pub record Name : Type 0 where
  pub known : Option Known
  pub place : At

abbrev pub name_at : Option Known → At → Name
name_at k p = record { known = k; place = p }

-- an atom, and what is wrong with it
pub record Leafed : Type 0 where
  pub atom : Atom
  pub ill : Option CodeAt

abbrev pub ill_if : Bool → At → Option CodeAt
ill_if true p = Some (code_at 133 p)
ill_if false p = None

-- What is wrong with a leaf of this name, whose value is ill on a field of texts, or on one of whole numbers: 132 or 133.
abbrev pub ill_of : Option Known → At → (text_ill : Bool) → (whole_ill : Bool) → Option CodeAt
ill_of None p text_ill whole_ill = Some (code_at 132 p)
ill_of (Some k) p text_ill whole_ill = ill_if (if k.whole then whole_ill else text_ill) p

-- an ill leaf is kept as *:*, since its query is refused
abbrev pub leaf_with : Option Known → Option CodeAt → Sought → Leafed
leaf_with None ill s = record { atom = Everything; ill = ill }
leaf_with (Some k) None s = record { atom = OfField k.field k.cased s; ill = None }
leaf_with (Some k) (Some f) s = record { atom = Everything; ill = Some f }

abbrev pub leaf_for : Name → (text_ill : Bool) → (whole_ill : Bool) → Sought → Leafed
leaf_for n text_ill whole_ill s = leaf_with n.known (ill_of n.known n.place text_ill whole_ill) s
