-- What the readers of addresses and networks answer.
use Rattle.std.specs.Prelude.{ℕ, ◌≡◌, ◌≤◌, ◌≢◌, List, [], ◌∷◌, ◌++◌, Option, Some, None, Result, Ok, Err}
use Rattle.std.specs.Fmt.{decimal}
use Rattle.std.specs.Str.{chars}
use Rattle.std.specs.Borrow.{Bor}
use Rattle.event_schema.specs.Addresses.{IsQuad}
use Rattle.sig_base.specs.declared.refusal.Place.{Place}
use Rattle.sig_base.specs.Judged.{refusal}
use Rattle.sig_base.specs.declared.refusal.Fault.{Fault}
use Rattle.sig_base.specs.declared.refusal.Fault.TheVariants.{Memory, Refused}
use Rattle.sig_encode.specs.Networks.{Net, IsNetwork, number_of}

-- the number of the address that the text is, if it's one
abbrev pub NumberIs : List ℕ → Option ℕ → Type 0
NumberIs text (Some number) = (quad : IsQuad text) × (number ≡ number_of quad)
NumberIs text None = IsQuad text → ⊥

-- the number from 0 to 32 whose decimal the text is, if there is one
abbrev pub PrefixIs : List ℕ → Option ℕ → Type 0
PrefixIs text (Some p) = (text ≡ decimal p) × (p ≤ 32)
PrefixIs text None = (p : ℕ) → p ≤ 32 → text ≡ decimal p → ⊥

-- the network that the text is, if it's one
abbrev pub NetworkIs : List ℕ → Option Net → Type 0
NetworkIs text (Some n) = IsNetwork text n
NetworkIs text None = (n : Net) → IsNetwork text n → ⊥

-- the network that the text is, or code 44 where it's none
abbrev pub NetworkRead : Place → List ℕ → Result Net Fault → Type 0
NetworkRead place text (Ok n) = IsNetwork text n
NetworkRead place text (Err Memory) = ⊥
NetworkRead place text (Err (Refused r)) = (r ≡ refusal 44 place) × ((n : Net) → IsNetwork text n → ⊥)

abbrev pub LacksSlash : List ℕ → Type 0
LacksSlash [] = Unit {0}
LacksSlash (c ∷ cs) = (c ≢ 47) × LacksSlash cs

-- the text divided at its first `/`, if there's one
abbrev pub IsCut : List ℕ → Option (Bor (List ℕ) × Bor (List ℕ)) → Type 0
IsCut text (Some parts) = (text ≡ chars parts.0.now ++ 47 ∷ chars parts.1.now) × LacksSlash (chars parts.0.now)
IsCut text None = LacksSlash text

-- the network of an address alone
abbrev pub WholeIs : List ℕ → Option Net → Type 0
WholeIs text (Some n) = (quad : IsQuad text) × (n.bits ≡ number_of quad) × (n.prefix ≡ 32)
WholeIs text None = IsQuad text → ⊥

-- the network of an address and a prefix
abbrev pub PartedIs : List ℕ → List ℕ → Option Net → Type 0
PartedIs address prefix (Some n) = (quad : IsQuad address) × (n.bits ≡ number_of quad) × (n.prefix ≤ 32) × (prefix ≡ decimal n.prefix)
PartedIs address prefix None = (p : ℕ) → IsQuad address → p ≤ 32 → prefix ≡ decimal p → ⊥
