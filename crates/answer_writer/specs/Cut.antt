-- What stands where writing was cut off.
use Rattle.std.specs.Prelude.{◌≡◌, ℕ, List, [], ◌∷◌, ◌++◌, Option}
use Rattle.std.specs.Io.KnownBytes.{Appends}
use Rattle.sig_base.specs.Causes.{AppendsFront}
use Rattle.answer_writer.specs.Lines.{ended, diagnostics_text}
use Rattle.answer_writer.specs.Parts.{Share}
use Rattle.answer_writer.specs.State.{Streams}

-- At most one diagnostic is begun: the next one of the answer.
pub data IsBegun (begun : List ℕ) (later : List (List ℕ)) : Type 0 where
  nothing : begun ≡ [] → IsBegun begun later
  of_next : (diagnostic rest : List ℕ) (others : List (List ℕ)) → later ≡ diagnostic ∷ others → ended diagnostic ≡ begun ++ rest → IsBegun begun later

-- some of the diagnostics, whole and in order, and the beginning of at most one more
pub record DiagnosticsCut (old new : Option (List ℕ)) (diagnostics : List (List ℕ)) : Type 0 where
  pub whole : List (List ℕ)
  pub later : List (List ℕ)
  pub begun : List ℕ
  pub divide : diagnostics ≡ whole ++ later
  pub is_begun : IsBegun begun later
  pub grown : Appends old new (diagnostics_text whole ++ begun)

-- a front of the share's output, and of its diagnostics
abbrev pub Cut : Share → Streams → Streams → Type 0
Cut share old new = AppendsFront old.out new.out share.output × DiagnosticsCut old.err new.err share.diagnostics
