-- Texts with their queries, reckoned by hand from the grammar of the fragment: each kind of clause, term, name, phrase, range and
-- separator, and each escape.
use Rattle.std.proofs.Common.{ℕ, ◌≡◌, refl, Bool, true, false, List, [], ◌∷◌, ◌++◌, codes, subst, map}
use Rattle.std.specs.Prelude.{Option, Some, None, Result, Ok, Err, ℤ, pos, negsuc}
use Rattle.event_schema.specs.declared.schema.Field.{Field}
use Rattle.event_schema.specs.declared.schema.FieldKind.{FieldKind}
use Rattle.event_schema.specs.declared.schema.FieldKind.TheVariants as kinds
use Rattle.event_schema.specs.declared.schema.Schema.{Schema}
use Rattle.query_tokens.specs.Places.{CodeAt}
use Rattle.lucene_lang.specs.declared.query.Glyph.{Glyph}
use Rattle.lucene_lang.specs.declared.query.Glyph.TheVariants.{Char, One, Run}
use Rattle.lucene_lang.specs.declared.query.Word.{Word}
use Rattle.lucene_lang.specs.declared.query.Word.TheVariants.{And, Or}
use Rattle.lucene_lang.specs.Query.{Term, Phrase, Range, Group, a_group, Clauses, no_clauses, a_clause, Atom, Everything, OfGroup, OfField}
use Rattle.lucene_lang.specs.Tokens.{tokens, scan, run_sort, is_decimal}
use Rattle.lucene_lang.specs.Faults.{is_number}
use Rattle.lucene_lang.specs.Reading.{opens_too_far}
use Rattle.lucene_lang.specs.Machine.{step, go_on}
use Rattle.lucene_lang.specs.Verdict.{verdict, IsVerdict}
use Rattle.lucene_lang.proofs.Judged.{verdict_is}

abbrev pub field : List ℕ → FieldKind → Bool → Field
field name kind cased = record { name = name; kind = kind; at = name ∷ []; search = false; cased = cased; many = true }

-- a, b with a twin, whole numbers n, addresses ip, Image, names that need care, and addresses src with a twin
abbrev pub schema : Schema
schema = record {
  table = codes "events";
  fields =
      field (codes "a") kinds.Text false ∷ field (codes "b") kinds.Text true ∷ field (codes "n") kinds.Whole false
      ∷ field (codes "ip") kinds.Address false ∷ field (codes "Image") kinds.Text false ∷ field (codes "TO") kinds.Text false
      ∷ field (codes "12") kinds.Text false ∷ field (codes "x:y") kinds.Text false ∷ field (codes "src") kinds.Address true ∷ [];
  time = None;
}

abbrev pub refused : ℕ → ℕ → ℕ → Result Group CodeAt
refused code line column = Err (record { code = code; place = record { line = line; column = column } })

abbrev pub Cases : Type 0
Cases = List (List ℕ × Result Group CodeAt)

abbrev pub computed : ℕ → Cases → List (Result Group CodeAt)
computed limit cases = map (λ c. verdict limit schema c.0) cases

abbrev pub told : Cases → List (Result Group CodeAt)
told cases = map (λ c. c.1) cases

abbrev pub AreVerdicts : ℕ → Cases → Type 0
AreVerdicts limit [] = Unit {0}
AreVerdicts limit (c ∷ cases) = IsVerdict limit schema c.0 c.1 × AreVerdicts limit cases

-- what is computed is so by the definitions
pub are_so : (limit : ℕ) (cases : Cases) → computed limit cases ≡ told cases → AreVerdicts limit cases
are_so limit [] same = tt
are_so limit (c ∷ cases) same =
    let here : verdict limit schema c.0 ≡ c.1 = cc in
    let more : computed limit cases ≡ told cases = cc in
    (subst (IsVerdict limit schema c.0) here (verdict_is limit schema c.0), are_so limit cases more)

-- ---- queries

abbrev pub plus : Atom → Clauses → Clauses
plus a cs = a_clause false a cs

abbrev pub minus : Atom → Clauses → Clauses
minus a cs = a_clause true a cs

abbrev pub only : Atom → Group
only a = a_group And (plus a no_clauses)

abbrev pub two : Word → Atom → Atom → Group
two w a b = a_group w (plus a (plus b no_clauses))

abbrev pub as_char : ℕ → Glyph
as_char c = Char c

abbrev pub term_at : ℕ → List Glyph → Atom
term_at k gs = OfField k false (Term gs)

abbrev pub text_at : ℕ → List ℕ → Atom
text_at k cs = term_at k (map as_char cs)

abbrev pub phrase_at : ℕ → List ℕ → Atom
phrase_at k cs = OfField k false (Phrase cs)

abbrev pub range_at : ℕ → Option ℤ → Bool → Option ℤ → Bool → Atom
range_at k low low_in high high_in = OfField k false (Range low low_in high high_in)

-- controls, blanks of other alphabets, and signs that are no operator: none of them separates, and none is left out
abbrev unlike_signs : List ℕ
unlike_signs = 1 ∷ 11 ∷ 12 ∷ 31 ∷ 127 ∷ 133 ∷ 160 ∷ 0x2028 ∷ 0x3001 ∷ codes "#$%',.;<=>@_`"

abbrev pub read_cases : Cases
read_cases =
    (codes "a:1", Ok (only (text_at 0 (codes "1"))))
    ∷ (codes "a:x AND b:y", Ok (two And (text_at 0 (codes "x")) (text_at 1 (codes "y"))))
    ∷ (codes "a:x OR b:y", Ok (two Or (text_at 0 (codes "x")) (text_at 1 (codes "y"))))
    ∷ (codes "a:x OR NOT b:y", Ok (a_group Or (plus (text_at 0 (codes "x")) (minus (text_at 1 (codes "y")) no_clauses))))
    ∷ (codes "NOT a:x", Ok (a_group And (minus (text_at 0 (codes "x")) no_clauses)))
    ∷ (codes "(NOT Image:x)", Ok (only (OfGroup (a_group And (minus (text_at 4 (codes "x")) no_clauses)))))
    ∷ (codes "(*:* AND NOT Image:x)", Ok (only (OfGroup (a_group And (plus Everything (minus (text_at 4 (codes "x")) no_clauses))))))
    ∷ (codes "*:*", Ok (only Everything))
    ∷ (codes "* : *", Ok (only Everything))
    ∷ (codes "*:* AND NOT *:*", Ok (a_group And (plus Everything (minus Everything no_clauses))))
    ∷ (codes "NOT *:* OR a:x", Ok (a_group Or (minus Everything (plus (text_at 0 (codes "x")) no_clauses))))
    ∷ (codes "(a:x OR b:y) AND n:5", Ok (two And (OfGroup (two Or (text_at 0 (codes "x")) (text_at 1 (codes "y")))) (text_at 2 (codes "5"))))
    ∷ (codes "a:x AND (b:y OR b:z) AND NOT a:w", Ok (a_group And (plus (text_at 0 (codes "x")) (plus (OfGroup (two Or (text_at 1 (codes "y")) (text_at 1 (codes "z")))) (minus (text_at 0 (codes "w")) no_clauses)))))
    ∷ (codes "((a:x))", Ok (only (OfGroup (only (OfGroup (only (text_at 0 (codes "x"))))))))
    ∷ (codes "a:1 OR NOT (a:2 AND b:3) OR b:4", Ok (a_group Or (plus (text_at 0 (codes "1")) (minus (OfGroup (two And (text_at 0 (codes "2")) (text_at 1 (codes "3")))) (plus (text_at 1 (codes "4")) no_clauses)))))
    ∷ (codes "a:*", Ok (only (term_at 0 (Run ∷ []))))
    ∷ (codes "a:?", Ok (only (term_at 0 (One ∷ []))))
    ∷ (codes "a:?*", Ok (only (term_at 0 (One ∷ Run ∷ []))))
    ∷ (codes "a:**", Ok (only (term_at 0 (Run ∷ Run ∷ []))))
    ∷ (codes "a:x*y?", Ok (only (term_at 0 (Char 120 ∷ Run ∷ Char 121 ∷ One ∷ []))))
    ∷ (codes "a:\\*", Ok (only (term_at 0 (Char 42 ∷ []))))
    ∷ (codes "a:\\?*", Ok (only (term_at 0 (Char 63 ∷ Run ∷ []))))
    ∷ (codes "a:\\\\", Ok (only (term_at 0 (Char 92 ∷ []))))
    ∷ (codes "a:\\*?", Ok (only (term_at 0 (Char 42 ∷ One ∷ []))))
    ∷ (codes "a:x\\?y\\**", Ok (only (term_at 0 (Char 120 ∷ Char 63 ∷ Char 121 ∷ Char 42 ∷ Run ∷ []))))
    ∷ (codes "a:u", Ok (only (text_at 0 (codes "u"))))
    ∷ (codes "a:u*", Ok (only (term_at 0 (Char 117 ∷ Run ∷ []))))
    ∷ (codes "a:x\\ y\\\"\\(\\)\\[\\]\\{\\}\\:", Ok (only (text_at 0 (codes "x y\"()[]{}:"))))
    ∷ (codes "a:\\+\\-\\&\\|\\!\\^\\~\\/", Ok (only (text_at 0 (codes "+-&|!^~/"))))
    ∷ (codes "a:x+y-z%_#", Ok (only (text_at 0 (codes "x+y-z%_#"))))
    ∷ (codes "a:C\\:\\\\Windows\\\\*", Ok (only (term_at 0 (map as_char (codes "C:\\Windows\\") ++ Run ∷ []))))
    ∷ (codes "a:O'Brien AND b:100%_x*", Ok (two And (text_at 0 (codes "O'Brien")) (term_at 1 (map as_char (codes "100%_x") ++ Run ∷ []))))
    ∷ (codes "a:* AND NOT a:?*", Ok (a_group And (plus (term_at 0 (Run ∷ [])) (minus (term_at 0 (One ∷ Run ∷ [])) no_clauses))))
    ∷ (codes "a:\\AND", Ok (only (text_at 0 (codes "AND"))))
    ∷ (codes "a:O\\R", Ok (only (text_at 0 (codes "OR"))))
    ∷ (codes "a:\\NOT", Ok (only (text_at 0 (codes "NOT"))))
    ∷ (codes "a:and", Ok (only (text_at 0 (codes "and"))))
    ∷ (codes "a:ANDx", Ok (only (text_at 0 (codes "ANDx"))))
    ∷ (codes "a:TO", Ok (only (text_at 0 (codes "TO"))))
    ∷ (codes "a:-", refused 131 1 3)
    ∷ (codes "a:9223372036854775808", Ok (only (text_at 0 (codes "9223372036854775808"))))
    ∷ (codes "a:007", Ok (only (text_at 0 (codes "007"))))
    ∷ (codes "b:X", Ok (only (text_at 1 (codes "X"))))
    ∷ (codes "b.cased:X", Ok (only (OfField 1 true (Term (map as_char (codes "X"))))))
    ∷ (codes "\\b\\.cased:X", Ok (only (OfField 1 true (Term (map as_char (codes "X"))))))
    ∷ (codes "TO:TO", Ok (only (text_at 5 (codes "TO"))))
    ∷ (codes "\\TO:x", Ok (only (text_at 5 (codes "x"))))
    ∷ (codes "12:12", Ok (only (text_at 6 (codes "12"))))
    ∷ (codes "x\\:y:z", Ok (only (text_at 7 (codes "z"))))
    ∷ (codes "n:*", Ok (only (term_at 2 (Run ∷ []))))
    ∷ (codes "n:0", Ok (only (text_at 2 (codes "0"))))
    ∷ (codes "n:10", Ok (only (text_at 2 (codes "10"))))
    ∷ (codes "n:\\-3", Ok (only (text_at 2 (codes "-3"))))
    ∷ (codes "n:1\\2", Ok (only (text_at 2 (codes "12"))))
    ∷ (codes "n:9223372036854775807", Ok (only (text_at 2 (codes "9223372036854775807"))))
    ∷ (codes "n:\\-9223372036854775807", Ok (only (text_at 2 (codes "-9223372036854775807"))))
    ∷ (codes "a:\"x y\"", Ok (only (phrase_at 0 (codes "x y"))))
    ∷ (codes "a:\"\"", Ok (only (phrase_at 0 [])))
    ∷ (codes "a:\"*?\"", Ok (only (phrase_at 0 (codes "*?"))))
    ∷ (codes "a:\"\\\"\\\\\\x\"", Ok (only (phrase_at 0 (codes "\"\\x"))))
    ∷ (codes "a:\"-b:(c) AND ^~!u\"", Ok (only (phrase_at 0 (codes "-b:(c) AND ^~!u"))))
    ∷ (codes "b.cased:\"X\"", Ok (only (OfField 1 true (Phrase (codes "X")))))
    ∷ (codes "ip:\"1.2.3.4\" AND ip:1*", Ok (two And (phrase_at 3 (codes "1.2.3.4")) (term_at 3 (Char 49 ∷ Run ∷ []))))
    ∷ (codes "n:[1 TO 5]", Ok (only (range_at 2 (Some (pos 1)) true (Some (pos 5)) true)))
    ∷ (codes "n:{1 TO 5}", Ok (only (range_at 2 (Some (pos 1)) false (Some (pos 5)) false)))
    ∷ (codes "n:[1 TO 5}", Ok (only (range_at 2 (Some (pos 1)) true (Some (pos 5)) false)))
    ∷ (codes "n:{1 TO 5]", Ok (only (range_at 2 (Some (pos 1)) false (Some (pos 5)) true)))
    ∷ (codes "n:{-1 TO 2}", Ok (only (range_at 2 (Some (negsuc 0)) false (Some (pos 2)) false)))
    ∷ (codes "n:{5 TO *]", Ok (only (range_at 2 (Some (pos 5)) false None true)))
    ∷ (codes "n:[* TO -3]", Ok (only (range_at 2 None true (Some (negsuc 2)) true)))
    ∷ (codes "n:[ * TO * }", Ok (only (range_at 2 None true None false)))
    ∷ (codes "n:[0 TO 120]", Ok (only (range_at 2 (Some (pos 0)) true (Some (pos 120)) true)))
    ∷ (codes "n:[-9223372036854775807 TO 9223372036854775807]", Ok (only (range_at 2 (Some (negsuc 9223372036854775806)) true (Some (pos 9223372036854775807)) true)))
    ∷ (codes "n:[1 TO 5] AND a:x", Ok (two And (range_at 2 (Some (pos 1)) true (Some (pos 5)) true) (text_at 0 (codes "x"))))
    ∷ (codes "\n a\t:\rx AND\u{3000}b:y \r\n", Ok (two And (text_at 0 (codes "x")) (text_at 1 (codes "y"))))
    ∷ (codes "(a:x)OR(b:y)", Ok (two Or (OfGroup (only (text_at 0 (codes "x")))) (OfGroup (only (text_at 1 (codes "y"))))))
    ∷ (codes "a:\"x\"OR b:y", Ok (two Or (phrase_at 0 (codes "x")) (text_at 1 (codes "y"))))
    ∷ (codes "a:\\U0041", Ok (only (text_at 0 (codes "U0041"))))
    ∷ (codes "a:C\\:\\\\users*", Ok (only (term_at 0 (map as_char (codes "C:\\users") ++ Run ∷ []))))
    ∷ (codes "a:" ++ unlike_signs, Ok (only (text_at 0 unlike_signs)))
    ∷ []

read_verdicts : computed 1000 read_cases ≡ told read_cases
unfolding verdict tokens scan run_sort is_decimal opens_too_far step go_on is_number
read_verdicts = refl

pub example_queries : AreVerdicts 1000 read_cases
example_queries = are_so 1000 read_cases read_verdicts
