-- `generate`: the line about a rule, its queries and the events that a number makes.
use Rattle.std.specs.Prelude.{◌≡◌, ℕ, List, [], ◌∷◌, None}
use Rattle.answer_writer.specs.Parts.{Part}
use Rattle.generate_run.specs.Lines.{IsGenerated}
use Rattle.sigma_serve.specs.Reports.{line_share}

-- The whole answer is the line of this number and of so many events, whatever the limits are. Nothing is read for it.
pub record Generated (seed events : ℕ) (parts : List Part) : Type 0 where
  pub line : List ℕ
  pub is : IsGenerated seed events line
  pub all : parts ≡ record { input = None; share = line_share line } ∷ []
