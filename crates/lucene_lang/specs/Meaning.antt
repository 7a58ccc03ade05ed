-- Which events a query selects. The index has of each field a term for each of its values, the value's text: folded, and in
-- the field's twin as it is.
use Rattle.std.specs.Prelude.{ℕ, ◌≡◌, Bool, true, false, not, ◌&&◌, ◌||◌, ◌==◌, if◌then◌else◌, List, [], ◌∷◌, map, Option, Some, None, ℤ, int_lt, int_le}
use Rattle.std.specs.List.{list_all, list_any}
use Rattle.std.specs.Str.{bytes_eq}
use Rattle.sig_base.specs.Folding.{fold}
use Rattle.event_schema.specs.Rows.{field_values, value_text}
use Rattle.event_schema.specs.declared.value.Value.{Value}
use Rattle.event_schema.specs.declared.value.Value.TheVariants as values
use Rattle.lucene_lang.specs.declared.query.Word.{Word}
use Rattle.lucene_lang.specs.declared.query.Word.TheVariants.{And, Or}
use Rattle.lucene_lang.specs.declared.query.Glyph.{Glyph}
use Rattle.lucene_lang.specs.declared.query.Glyph.TheVariants.{Char, One, Run}
use Rattle.lucene_lang.specs.Query.{Sought, Term, Phrase, Range, Group, a_group, Clauses, no_clauses, a_clause, Atom, Everything, OfGroup, OfField}

-- ---- the index

-- a character as it is in the twin, and folded in the field
abbrev pub kept_char : (cased : Bool) → ℕ → ℕ
kept_char true c = c
kept_char false c = fold c

abbrev pub kept : (cased : Bool) → List ℕ → List ℕ
kept cased text = map (kept_char cased) text

-- the characters of a term too
abbrev pub kept_glyph : (cased : Bool) → Glyph → Glyph
kept_glyph cased (Char c) = Char (kept_char cased c)
kept_glyph cased One = One
kept_glyph cased Run = Run

abbrev pub kept_glyphs : (cased : Bool) → List Glyph → List Glyph
kept_glyphs cased gs = map (kept_glyph cased) gs

-- ---- terms

-- the text, or what is left of it behind some of its characters, is so
abbrev pub some_end : (List ℕ → Bool) → List ℕ → Bool
some_end fits [] = fits []
some_end fits (c ∷ cs) = fits (c ∷ cs) || some_end fits cs

-- the first character is so, and what is left is so
abbrev pub behind_one : (ℕ → Bool) → (List ℕ → Bool) → List ℕ → Bool
behind_one is_so fits [] = false
behind_one is_so fits (c ∷ cs) = is_so c && fits cs

abbrev pub is_nothing : List ℕ → Bool
is_nothing [] = true
is_nothing (c ∷ cs) = false

-- the whole text fits: * is any run of characters, ? any one, and any other character itself
unfoldable pub term_fits : List Glyph → List ℕ → Bool
term_fits [] text = is_nothing text
term_fits (Char c ∷ gs) text = behind_one (λ d. c == d) (term_fits gs) text
term_fits (One ∷ gs) text = behind_one (λ d. true) (term_fits gs) text
term_fits (Run ∷ gs) text = some_end (term_fits gs) text

-- ---- ranges

-- an end below, and one above: inside or outside, or none
abbrev pub is_above : Option ℤ → (inside : Bool) → ℤ → Bool
is_above None inside n = true
is_above (Some z) inside n = if inside then int_le z n else int_lt z n

abbrev pub is_below : Option ℤ → (inside : Bool) → ℤ → Bool
is_below None inside n = true
is_below (Some z) inside n = if inside then int_le n z else int_lt n z

-- ---- clauses

-- a value meets what is sought; a range is met by numbers alone
abbrev pub value_meets : (cased : Bool) → Sought → Value → Bool
value_meets cased (Term gs) v = term_fits (kept_glyphs cased gs) (kept cased (value_text v))
value_meets cased (Phrase t) v = bytes_eq (kept cased t) (kept cased (value_text v))
value_meets cased (Range low low_in high high_in) (values.Text t) = false
value_meets cased (Range low low_in high high_in) (values.Whole n) = is_above low low_in n && is_below high high_in n

-- some value of a field does
abbrev pub field_holds : (cased : Bool) → Sought → List Value → Bool
field_holds cased s vs = list_any (value_meets cased s) vs

-- A group's clauses in three lists, each of whether its clauses hold: in a group with AND a clause is required, in one with
-- OR it is optional, and one with NOT is prohibited in both.
pub record Lists : Type 0 where
  pub required : List Bool
  pub optional : List Bool
  pub prohibited : List Bool

abbrev pub no_lists : Lists
no_lists = record { required = []; optional = []; prohibited = [] }

-- a clause more, by the group's word, with NOT or without, and whether its atom holds
abbrev pub listed : Word → (negated : Bool) → Bool → Lists → Lists
listed w true holds l = record { required = l.required; optional = l.optional; prohibited = holds ∷ l.prohibited }
listed And false holds l = record { required = holds ∷ l.required; optional = l.optional; prohibited = l.prohibited }
listed Or false holds l = record { required = l.required; optional = holds ∷ l.optional; prohibited = l.prohibited }

abbrev pub is_none : List Bool → Bool
is_none [] = true
is_none (b ∷ bs) = false

abbrev pub all_hold : List Bool → Bool
all_hold bs = list_all (λ b. b) bs

abbrev pub one_holds : List Bool → Bool
one_holds bs = list_any (λ b. b) bs

-- no prohibited clause holds, each required one does and, where none is required, some optional one does
abbrev pub selected : Lists → Bool
selected l = (not (one_holds l.prohibited) && all_hold l.required) && (not (is_none l.required) || one_holds l.optional)

-- over an event, by the values of its fields
module _ (row : List (List Value)) where
  abbrev mutual
    pub selects : Group → Bool
    selects (a_group w cs) = selected (lists w cs)

    pub lists : Word → Clauses → Lists
    lists w no_clauses = no_lists
    lists w (a_clause negated a cs) = listed w negated (atom_holds a) (lists w cs)

    pub atom_holds : Atom → Bool
    atom_holds Everything = true
    atom_holds (OfGroup g) = selects g
    atom_holds (OfField k cased s) = field_holds cased s (field_values row k)

abbrev pub LuceneSelects : Group → List (List Value) → Type 0
LuceneSelects g row = selects row g ≡ true
