-- One part, or one share, for each of some things.
use Rattle.std.specs.Prelude.{◌≡◌, ⊤, List, [], ◌∷◌}
use Rattle.answer_writer.specs.Input.{World}
use Rattle.answer_writer.specs.Parts.{Share, Part, joined}

-- each has its part, in order
abbrev pub EachPart : {X : Type 0} → (X → World → Part → Type 0) → List X → World → List Part → Type 0
EachPart gives [] world [] = ⊤
EachPart gives [] world (part ∷ parts) = ⊥
EachPart gives (x ∷ xs) world [] = ⊥
EachPart gives (x ∷ xs) world (part ∷ parts) = gives x world part × EachPart gives xs world parts

-- each has its share, in order
abbrev pub EachShare : {X : Type 0} → (X → Share → Type 0) → List X → List Share → Type 0
EachShare gives [] [] = ⊤
EachShare gives [] (share ∷ shares) = ⊥
EachShare gives (x ∷ xs) [] = ⊥
EachShare gives (x ∷ xs) (share ∷ shares) = gives x share × EachShare gives xs shares

-- the shares of all, as one
abbrev pub AllShares : {X : Type 0} → (X → Share → Type 0) → List X → Share → Type 0
AllShares gives xs share = (shares : List Share) × EachShare gives xs shares × (share ≡ joined shares)
