-- What the readers of block scalars give.
use Rattle.std.specs.Prelude.{ℕ, Bool, List, [], ◌∷◌, ◌++◌, if◌then◌else◌, map as list_map}
use Rattle.std.specs.Borrow.{Bor}
use Rattle.yaml_blocks.specs.declared.scalar.Chomping.{Chomping}
use Rattle.yaml_blocks.specs.declared.scalar.Chomping.TheVariants.{Clip, Strip, Keep}
use Rattle.yaml_inline.specs.Scalar as scalar

abbrev pub chomping_view : Chomping → scalar.Chomping
chomping_view Clip = scalar.clip
chomping_view Strip = scalar.strip
chomping_view Keep = scalar.keep

abbrev pub texts_view : List (Bor (List ℕ)) → List (List ℕ)
texts_view ts = list_map (λ t. t.now) ts

-- a text behind others, with a line feed between where it isn't the first
abbrev pub add_text : Bool → List ℕ → List ℕ → List ℕ
add_text is_first content t = if is_first then content ++ t else (content ++ 10 ∷ []) ++ t

-- the lines without empty ones at the end, as one text
abbrev pub kept_text : Bool → List (List ℕ) → List ℕ
kept_text is_folded kept = if is_folded then scalar.folded kept else scalar.literal kept
