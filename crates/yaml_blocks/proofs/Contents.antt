-- What carries something.
use Rattle.std.proofs.Common.{◌≡◌, ℕ, suc, ◌+◌, ◌≤◌, Bool, true, false, ◌&&◌, ◌||◌, ◌==◌, List, [], ◌∷◌, length, drop, cond, Some, None, is_some, refl, sym, ap, ◌∙◌, arith}
use Rattle.std.specs.List.{prefix_len}
use Rattle.yaml_inline.specs.File.{Line, is_blank, is_space, is_empty, begins, blank_or_end, skip_blanks, carries_nothing, ends_line, is_marker}
use Rattle.yaml_inline.specs.Line.{Stop, indentation, body, is_comment, bad_start}
use Rattle.yaml_inline.proofs.Nexts.{next_is}
use Rattle.yaml_blocks.specs.Items.{IsContent}

unended : (cs : List ℕ) → carries_nothing cs ≡ false → ends_line cs ≡ false
unfolding ends_line
unended cs e = by (blank_or_end cs) where
  by : (b : Bool) → (b && carries_nothing cs) ≡ false
  by true = e
  by false = refl

pub content_is : (cs next : List ℕ) → carries_nothing cs ≡ false → next ≡ skip_blanks cs → length next ≤ length cs → IsContent cs next
content_is cs next e is within = record { some = e; next_is = is; solid = (next_is cs next (unended cs e) is within).solid; within = within }

-- a text behind its spaces begins with none
space_gone : (cs : List ℕ) → begins 32 (drop (prefix_len is_space cs) cs) ≡ false
space_gone [] = refl
space_gone (c ∷ cs) = by (is_space c) refl (space_gone cs) where
  by : (b : Bool) → is_space c ≡ b → begins 32 (drop (prefix_len is_space cs) cs) ≡ false → begins 32 (drop (prefix_len is_space (c ∷ cs)) (c ∷ cs)) ≡ false
  by true e h = let more : 1 + prefix_len is_space cs ≡ suc (prefix_len is_space cs) = omega arith in rw (e, more) h
  by false e h = rw e e

skip_space : (cs : List ℕ) → skip_blanks cs ≡ skip_blanks (drop (prefix_len is_space cs) cs)
unfolding skip_blanks
skip_space [] = refl
skip_space (c ∷ cs) = by (is_space c) refl (skip_space cs) where
  by : (b : Bool) → is_space c ≡ b → skip_blanks cs ≡ skip_blanks (drop (prefix_len is_space cs) cs) → skip_blanks (c ∷ cs) ≡ skip_blanks (drop (prefix_len is_space (c ∷ cs)) (c ∷ cs))
  by true e h =
      let more : 1 + prefix_len is_blank cs ≡ suc (prefix_len is_blank cs) = omega arith in
      let also : 1 + prefix_len is_space cs ≡ suc (prefix_len is_space cs) = omega arith in
      let blank : is_blank c ≡ true = ap (λ (b : Bool). b || c == 9) e in
      let first : skip_blanks (c ∷ cs) ≡ skip_blanks cs = rw (blank, more) refl in
      let gone : drop (prefix_len is_space (c ∷ cs)) (c ∷ cs) ≡ drop (prefix_len is_space cs) cs = rw (e, also) refl in
      first ∙ (h ∙ ap skip_blanks (sym gone))
  by false e h =
      let gone : drop (prefix_len is_space (c ∷ cs)) (c ∷ cs) ≡ c ∷ cs = rw e refl in
      ap skip_blanks (sym gone)

solid_text : (cs : List ℕ) → begins 32 cs ≡ false → begins 9 cs ≡ false → is_empty (skip_blanks cs) ≡ false → blank_or_end cs ≡ false
unfolding skip_blanks
solid_text [] space tab some = cc
solid_text (c ∷ cs) space tab some = rw (space, tab) refl

untabbed : (a b : Bool) (s t : Stop) → is_some (cond a (Some s) (cond b (Some t) None)) ≡ false → b ≡ false
untabbed true b s t e = cc
untabbed false true s t e = cc
untabbed false false s t e = refl

not_empty : (a b : Bool) → (a || b) ≡ false → a ≡ false
not_empty true b e = cc
not_empty false b e = refl

-- what follows the indentation of a line that carries something, and begins with no tab there
pub body_solid : (l : Line) → is_comment l ≡ false → is_some (bad_start l) ≡ false → blank_or_end (body l) ≡ false
unfolding is_comment carries_nothing bad_start body indentation
body_solid l comment free =
    solid_text (body l) (space_gone l.text) (untabbed (is_marker l) (begins 9 (body l)) _ _ free)
    (ap is_empty (sym (skip_space l.text)) ∙ not_empty (is_empty (skip_blanks l.text)) _ comment)
