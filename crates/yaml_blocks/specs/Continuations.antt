-- What the reader of continuation lines gives.
use Rattle.std.specs.Prelude.{ℕ, List, ◌++◌, Ok}
use Rattle.yaml_inline.specs.Line.{Read, ◌>>=◌}
use Rattle.yaml_blocks.specs.declared.plain.Continuation.{Continuation}
use Rattle.yaml_blocks.specs.declared.plain.Continuation.TheVariants.{Empty, Comment, Text, Last}
use Rattle.yaml_blocks.specs.declared.plain.PlainText.{PlainText}
use Rattle.yaml_blocks.specs.declared.plain.PlainText.TheVariants.{OneLine, Joined}
use Rattle.yaml_blocks.specs.Blocks as blocks

abbrev pub continuation_view : Continuation → blocks.Continuation
continuation_view Empty = blocks.empty_line
continuation_view Comment = blocks.comment_line
continuation_view (Text t) = blocks.text_line t.now
continuation_view (Last t) = blocks.last_line t.now

abbrev pub text_given : List ℕ → List ℕ
text_given t = t

abbrev pub plain_view : PlainText → List ℕ
plain_view (OneLine t) = t.now
plain_view (Joined t) = t

-- a text, and what is read behind it
abbrev pub behind_text : List ℕ → Read (List ℕ) → Read (List ℕ)
behind_text t r = r >>= (λ more. Ok (t ++ more))
