-- The regular expression that a text stands for (Sigma specification 2.0, modifiers `re`, `i`, `m` and `s`).
use Rattle.std.specs.Prelude.{ℕ, ◌≡◌, Bool, true, false, not, ◌&&◌, ◌||◌, ◌==◌, if◌then◌else◌, List, [], ◌++◌, codes, Option, Some, None}
use Rattle.std.specs.List.{list_any}
use Rattle.event_schema.specs.Events.{IsPlainText}
use Rattle.query_lang.specs.Patterns.{is_pattern}
use Rattle.modifier_words.specs.declared.form.Flags.{Flags}
use Rattle.sig_base.specs.declared.refusal.Place.{Place}

abbrev pub letter_if : Bool → List ℕ → List ℕ
letter_if true letter = letter
letter_if false letter = []

-- the letters of the flags, in the order i, m, s
abbrev pub flag_letters : Flags → List ℕ
flag_letters flags = letter_if flags.i (codes "i") ++ (letter_if flags.m (codes "m") ++ letter_if flags.s (codes "s"))

-- the flags as a regular expression begins with them, `(?i)`; nothing without flags
abbrev pub flag_group : Flags → List ℕ
flag_group flags = if flags.i || flags.m || flags.s then codes "(?" ++ (flag_letters flags ++ codes ")") else []

-- the regular expression of a text that is read with these flags
abbrev pub expression_text : Flags → List ℕ → List ℕ
expression_text flags t = flag_group flags ++ t

-- its regular expression is one that the grammar reads, and it has no U+0000
abbrev pub IsPlainExpression : Flags → List ℕ → Type 0
IsPlainExpression flags t = (is_pattern (expression_text flags t) ≡ true) × IsPlainText t

-- the grammar reads the regular expression, if there is one
abbrev pub is_readable : Option (List ℕ) → Bool
is_readable None = true
is_readable (Some expression) = is_pattern expression

abbrev pub is_same_place : Place → Place → Bool
is_same_place p q = p.line == q.line && p.column == q.column

-- there is no regular expression, or its place isn't one of these, at which one isn't built
abbrev pub is_built_at : List Place → Place → Option (List ℕ) → Bool
is_built_at unbuilt place None = true
is_built_at unbuilt place (Some expression) = not (list_any (is_same_place place) unbuilt)
