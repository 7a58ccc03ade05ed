-- What the reader sees at the front of a text.
use Rattle.std.specs.Prelude.{ℕ, ◌≡◌, Bool, List, [], ◌∷◌, Some, None}
use Rattle.std.specs.declared.option.Option.{Option}
use Rattle.std.specs.List.{take_while}
use Rattle.std.specs.Str.{chars}
use Rattle.std.specs.Borrow.{Bor}
use Rattle.sig_strings.specs.Spells.{SpellsFront, HasHole, is_word_char}
use Rattle.sig_strings.specs.declared.part.Part.{Part}
use Rattle.sig_strings.specs.declared.part.Part.TheVariants.{Char, One, Run, Hole}
use Rattle.sig_strings.specs.declared.sign.Sign.{Sign}
use Rattle.sig_strings.specs.declared.sign.Sign.TheVariants.{End, Star, Question, Plain, Named}

-- the name behind the first character
abbrev pub hole_name : List ℕ → List ℕ
hole_name [] = []
hole_name (c ∷ cs) = take_while is_word_char cs

-- the part that a sign at the front of the text stands for
abbrev pub part_at : List ℕ → Sign → Option Part
part_at text End = None
part_at text Star = Some Run
part_at text Question = Some One
part_at text (Plain c) = Some (Char c)
part_at text Named = Some (Hole (hole_name text))

-- the text has ended, or it begins with this part and leaves this rest
abbrev pub Begins : Bool → List ℕ → Option Part → List ℕ → Type 0
Begins expand text None rest = text ≡ []
Begins expand text (Some part) rest = SpellsFront expand text part rest

-- behind a `%`: a name and `%` stand there and this is the rest, or they don't
abbrev pub EndsHole : List ℕ → Option (Bor (List ℕ)) → Type 0
EndsHole text None = (name rest : List ℕ) → HasHole (37 ∷ text) name rest → ⊥
EndsHole text (Some rest) = HasHole (37 ∷ text) (take_while is_word_char text) (chars rest.now)
