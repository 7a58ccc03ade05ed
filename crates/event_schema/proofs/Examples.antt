-- Addresses, kinds of values, several values, and schemas, reckoned by hand.
use Rattle.std.proofs.Common.{◌≡◌, ◌<◌, ℕ, Bool, true, false, List, [], ◌∷◌, ◌++◌, inl, inr, refl, length, arith}
use Rattle.std.specs.Fmt.{digits}
use Rattle.std.specs.Prelude.{codes, pos, negsuc, ◌^◌, ◌-◌, ℤ, ◌≤ℤ◌, None}
use Rattle.event_schema.specs.Addresses.{IsQuad, IsAddress, BeginsAsQuad}
use Rattle.event_schema.specs.Events.{IsOfKind, AreValuesOf, IsEvent}
use Rattle.event_schema.specs.Inferred.{text_field}
use Rattle.event_schema.specs.Schemas.{IsOther, AreApart, twin, IsSchema}
use Rattle.event_schema.specs.declared.schema.Field.{Field}
use Rattle.event_schema.specs.declared.schema.FieldKind.TheVariants as kinds
use Rattle.event_schema.specs.declared.value.Value.TheVariants.{Text, Whole}

-- ---- addresses

quad : IsQuad (codes "10.0.255.1")
unfolding digits
quad = record { first = 10; second = 0; third = 255; fourth = 1; bytes = (omega arith, omega arith, omega arith, omega arith); spelled = refl }

address : IsOfKind kinds.Address (Text (codes "10.0.255.1"))
address = ((refl, refl), inl quad)

-- ---- whole numbers

greatest : IsOfKind kinds.Whole (Whole (pos (2 ^ 63 - 1)))
greatest = (omega arith, omega arith)

least : IsOfKind kinds.Whole (Whole (negsuc (2 ^ 63 - 2)))
least = (omega arith, omega arith)

below_least : IsOfKind kinds.Whole (Whole (negsuc (2 ^ 63 - 1))) → ⊥
below_least within = absurd (omega (arith, within.0))

-- ---- several values

user : Bool → Field
user many = record { name = codes "User"; kind = kinds.Text; at = codes "User" ∷ []; search = false; cased = false; many = many }

two_users : AreValuesOf (user true) (Text (codes "al") ∷ Text (codes "bob") ∷ [])
unfolding user
two_users = record { kinds = ((refl, refl), ((refl, refl), tt)); few = λ e. absurd cc }

one_alone : AreValuesOf (user false) (Text (codes "al") ∷ Text (codes "bob") ∷ []) → ⊥
unfolding user
one_alone values = absurd (omega (arith, values.few refl))

no_user : AreValuesOf (user false) []
unfolding user
no_user = record { kinds = tt; few = λ e. omega arith }

-- ---- names of schemas

same_name : AreApart (codes "User" ∷ codes "user" ∷ []) → ⊥
same_name apart = apart.0.0 refl

twin_taken : IsOther (twin (codes "a")) (codes "A.CASED" ∷ []) → ⊥
twin_taken other = other.0 refl

other_names : AreApart (codes "User" ∷ codes "Image" ∷ [])
other_names = (((λ e. absurd cc), tt), (tt, tt))
