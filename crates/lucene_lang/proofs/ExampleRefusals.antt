-- Texts with their first refusals, reckoned by hand: each cause with its place, and the order of causes.
use Rattle.std.proofs.Common.{◌≡◌, refl, [], ◌∷◌, ◌++◌, codes}
use Rattle.std.specs.Prelude.{Ok}
use Rattle.lucene_lang.specs.declared.query.Word.TheVariants.{Or}
use Rattle.lucene_lang.specs.Query.{a_group, Atom, no_clauses, OfGroup}
use Rattle.lucene_lang.specs.Tokens.{tokens, scan, run_sort, is_decimal}
use Rattle.lucene_lang.specs.Faults.{is_number}
use Rattle.lucene_lang.specs.Reading.{opens_too_far}
use Rattle.lucene_lang.specs.Machine.{step, go_on}
use Rattle.lucene_lang.specs.Verdict.{verdict}
use Rattle.lucene_lang.proofs.Examples.{Cases, refused, computed, told, AreVerdicts, are_so, plus, only, text_at}

-- 131: before every other cause
abbrev pub left_out_cases : Cases
left_out_cases =
    (codes "a:b^c", refused 131 1 3)
    ∷ (codes "a:b~", refused 131 1 3)
    ∷ (codes "a:b&c", refused 131 1 3)
    ∷ (codes "a:b|c", refused 131 1 3)
    ∷ (codes "!a:b", refused 131 1 1)
    ∷ (codes "a:/x/", refused 131 1 3)
    ∷ (codes "+a:b", refused 131 1 1)
    ∷ (codes "-a:b", refused 131 1 1)
    ∷ (codes "a:-3", refused 131 1 3)
    ∷ (codes "a:-*", refused 131 1 3)
    ∷ (codes "a:+x", refused 131 1 3)
    ∷ (codes "a:\\u0041", refused 131 1 3)
    ∷ (codes "a:x\\u*", refused 131 1 3)
    ∷ (codes "a:\"\\u0041\"", refused 131 1 3)
    ∷ (codes "n:[1 TO 2] AND -a:x", refused 131 1 16)
    ∷ (codes "a:[x^ TO 1]", refused 131 1 4)
    ∷ (codes ")))) a:b^c", refused 131 1 8)
    ∷ (codes "(((a:x~", refused 131 1 6)
    ∷ (codes "a:1 AND b:2 OR a:b~", refused 131 1 18)
    ∷ (codes "zz:x\n\n AND ^", refused 131 3 6)
    ∷ (codes "a:x AND b:\\u OR b~", refused 131 1 11)
    ∷ (codes "n:{1 TO 2} -3", refused 131 1 12)
    ∷ (codes "[a TO] -b", refused 131 1 8)
    ∷ (codes "a^b \"\\u\"", refused 131 1 1)
    ∷ (codes "n:[x^* TO 1]", refused 131 1 4)
    ∷ (codes "n:[\"\\u\" TO 1]", refused 131 1 4)
    ∷ (codes "n:[1 TO x\\u]", refused 131 1 9)
    ∷ (codes "a:b*^2", refused 131 1 3)
    ∷ (codes "a:*~", refused 131 1 3)
    ∷ (codes "a:?&x", refused 131 1 3)
    ∷ (codes "n:[*^ TO 1]", refused 131 1 4)
    ∷ []

-- 130: the first token with which no query begins, or the end of the text
abbrev pub stop_cases : Cases
stop_cases =
    (codes "", refused 130 1 1)
    ∷ (codes " ", refused 130 1 2)
    ∷ (codes "\n", refused 130 2 1)
    ∷ (codes "\r\n\t", refused 130 2 2)
    ∷ (codes "a", refused 130 1 2)
    ∷ (codes "a:", refused 130 1 3)
    ∷ (codes "a:x b:y", refused 130 1 5)
    ∷ (codes "NOT", refused 130 1 4)
    ∷ (codes "NOT NOT a:x", refused 130 1 5)
    ∷ (codes "AND a:x", refused 130 1 1)
    ∷ (codes "a:x AND", refused 130 1 8)
    ∷ (codes "a:x OR ", refused 130 1 8)
    ∷ (codes "(a:x", refused 130 1 5)
    ∷ (codes "a:x)", refused 130 1 4)
    ∷ (codes "()", refused 130 1 2)
    ∷ (codes "a:(x)", refused 130 1 3)
    ∷ (codes "*:x", refused 130 1 3)
    ∷ (codes "*:\\*", refused 130 1 3)
    ∷ (codes "* a:x", refused 130 1 3)
    ∷ (codes "a*:x", refused 130 1 1)
    ∷ (codes "?:x", refused 130 1 1)
    ∷ (codes "\"a\":x", refused 130 1 1)
    ∷ (codes ":x", refused 130 1 1)
    ∷ (codes "a::x", refused 130 1 3)
    ∷ (codes "a:AND", refused 130 1 3)
    ∷ (codes "a:OR", refused 130 1 3)
    ∷ (codes "a:NOT", refused 130 1 3)
    ∷ (codes "AND:x", refused 130 1 1)
    ∷ (codes "NOT:x", refused 130 1 4)
    ∷ (codes "n:[1 TO 2", refused 130 1 10)
    ∷ (codes "n:[1 2]", refused 130 1 6)
    ∷ (codes "n:[1 to 2]", refused 130 1 6)
    ∷ (codes "n:[01 TO 2]", refused 130 1 4)
    ∷ (codes "n:[-0 TO 2]", refused 130 1 4)
    ∷ (codes "n:[+1 TO 2]", refused 130 1 4)
    ∷ (codes "n:[1- TO 2]", refused 130 1 4)
    ∷ (codes "n:[- TO 2]", refused 130 1 4)
    ∷ (codes "n:[x TO 2]", refused 130 1 4)
    ∷ (codes "n:[\"1\" TO 2]", refused 130 1 4)
    ∷ (codes "n:[1 TO 2)", refused 130 1 10)
    ∷ (codes "n:[1 TO TO]", refused 130 1 9)
    ∷ (codes "n:[\\1 TO 2]", refused 130 1 4)
    ∷ (codes "n:[1 T\\O 2]", refused 130 1 6)
    ∷ (codes "n:[\\* TO 2]", refused 130 1 4)
    ∷ (codes "n:[1 TO 2] 3", refused 130 1 12)
    ∷ (codes "*:*:*", refused 130 1 4)
    ∷ (codes "a:x OR AND b:y", refused 130 1 8)
    ∷ (codes "a:x NOT b:y", refused 130 1 5)
    ∷ (codes "a:x y", refused 130 1 5)
    ∷ (codes "]", refused 130 1 1)
    ∷ (codes "}", refused 130 1 1)
    ∷ (codes "a:\"x", refused 130 1 3)
    ∷ (codes "a:\"x\\\"", refused 130 1 3)
    ∷ (codes "a:\"\\u", refused 130 1 3)
    ∷ (codes "a:\\", refused 130 1 3)
    ∷ (codes "a:b\\", refused 130 1 4)
    ∷ (codes "a:x\"y\"", refused 130 1 4)
    ∷ (codes "a:\"x\"y", refused 130 1 6)
    ∷ (codes "a:x[", refused 130 1 4)
    ∷ (codes "a:x AND (b:y OR", refused 130 1 16)
    ∷ (codes "zz:1 AND n:x OR", refused 130 1 16)
    ∷ (codes "n:[-* TO 2]", refused 130 1 4)
    ∷ (codes "a:\"x\\", refused 130 1 3)
    ∷ (codes "a:x \\y", refused 130 1 5)
    ∷ (codes "a:x y\\z", refused 130 1 5)
    ∷ (codes "n:[1 AND -a:x", refused 130 1 6)
    ∷ (codes "[a:-3", refused 130 1 1)
    ∷ []

-- 134: before 132 and 133
abbrev pub mixed_cases : Cases
mixed_cases =
    (codes "a:1 AND b:2 OR c:3", refused 134 1 13)
    ∷ (codes "a:1 OR b:2 AND a:3", refused 134 1 12)
    ∷ (codes "a:1 AND (b:2 OR a:3 AND b:4) OR b:5", refused 134 1 21)
    ∷ (codes "zz:1 AND n:x OR a:1", refused 134 1 14)
    ∷ (codes "a:1 AND b:2 AND a:3 OR b:4", refused 134 1 21)
    ∷ (codes "NOT (a:1 AND b:2 OR a:3)", refused 134 1 18)
    ∷ (codes "a:1 OR b:2\nOR (a:3 OR b:4)\nAND a:5 OR b:6", refused 134 3 1)
    ∷ (codes "a:1 AND b:2 OR (b:3 OR b:4 AND a:5)", refused 134 1 13)
    ∷ (codes "zz:1 AND NOT a:1 OR a:1", refused 134 1 18)
    ∷ (codes "(a:1 OR b:2) OR a:3 AND b:4", refused 134 1 21)
    ∷ []

-- 132 and 133: at the field's name, by place
abbrev pub name_cases : Cases
name_cases =
    (codes "zz:x", refused 132 1 1)
    ∷ (codes "A:x", refused 132 1 1)
    ∷ (codes "a.cased:X", refused 132 1 1)
    ∷ (codes "B.cased:x", refused 132 1 1)
    ∷ (codes "b.CASED:x", refused 132 1 1)
    ∷ (codes "b.cased.cased:x", refused 132 1 1)
    ∷ (codes "\\*:*", refused 132 1 1)
    ∷ (codes "zz:[1 TO 2]", refused 132 1 1)
    ∷ (codes "zz:x AND n:y", refused 132 1 1)
    ∷ (codes "a:x\n  AND zz:y", refused 132 2 7)
    ∷ (codes "a:x AND NOT (*:* AND NOT zz:y)", refused 132 1 26)
    ∷ (codes "a\\::x", refused 132 1 1)
    ∷ (codes "\\-x:1", refused 132 1 1)
    ∷ (codes "ab:x", refused 132 1 1)
    ∷ (codes "x%:y", refused 132 1 1)
    ∷ (codes "(a:1) AND zz:x", refused 132 1 11)
    ∷ (codes "NOT a:1 AND zz:x", refused 132 1 13)
    ∷ (codes "n:[1 TO 2] AND zz:x", refused 132 1 16)
    ∷ []

abbrev pub kind_cases : Cases
kind_cases =
    (codes "n:x", refused 133 1 1)
    ∷ (codes "n:\"5\"", refused 133 1 1)
    ∷ (codes "n:5*", refused 133 1 1)
    ∷ (codes "n:**", refused 133 1 1)
    ∷ (codes "n:?", refused 133 1 1)
    ∷ (codes "n:\\*", refused 133 1 1)
    ∷ (codes "n:05", refused 133 1 1)
    ∷ (codes "n:\\-0", refused 133 1 1)
    ∷ (codes "n:\\-", refused 133 1 1)
    ∷ (codes "n:5-", refused 133 1 1)
    ∷ (codes "n:TO", refused 133 1 1)
    ∷ (codes "n:9223372036854775808", refused 133 1 1)
    ∷ (codes "n:\\-9223372036854775808", refused 133 1 1)
    ∷ (codes "a:[1 TO 2]", refused 133 1 1)
    ∷ (codes "b.cased:[1 TO 2]", refused 133 1 1)
    ∷ (codes "ip:[* TO *]", refused 133 1 1)
    ∷ (codes "n:[1 TO 9223372036854775808]", refused 133 1 1)
    ∷ (codes "n:[-9223372036854775808 TO *]", refused 133 1 1)
    ∷ (codes "n:[9223372036854775808 TO 1]", refused 133 1 1)
    ∷ (codes "a:x AND n:y", refused 133 1 9)
    ∷ (codes "n:x AND zz:y", refused 133 1 1)
    ∷ (codes "NOT (a:x OR n:x)", refused 133 1 13)
    ∷ []

abbrev x_group : Atom
x_group = OfGroup (only (text_at 0 (codes "x")))

-- 135: under a limit of 2, and of 0
abbrev pub depth_cases : Cases
depth_cases =
    (codes "((a:x))", Ok (only (OfGroup (only (OfGroup (only (text_at 0 (codes "x"))))))))
    ∷ (codes "(((a:x)))", refused 135 1 1)
    ∷ (codes "(((", refused 135 1 1)
    ∷ (codes "(a:x) (a:x) (a:x)", refused 130 1 7)
    ∷ (codes ")) ((((", refused 130 1 1)
    ∷ (codes ")) (((((", refused 135 1 1)
    ∷ (codes "a:x (((", refused 135 1 1)
    ∷ (codes "(((a:x AND b:y OR zz:z", refused 135 1 1)
    ∷ (codes "((a:x AND b:y OR zz:z))", refused 134 1 15)
    ∷ (codes "(a:x) OR (a:x) OR (a:x)", Ok (a_group Or (plus x_group (plus x_group (plus x_group no_clauses)))))
    ∷ (codes "[((", refused 130 1 1)
    ∷ (codes "((zz:x))", refused 132 1 3)
    ∷ []

abbrev pub flat_cases : Cases
flat_cases =
    (codes "(a:x)", refused 135 1 1)
    ∷ (codes "a:x", Ok (only (text_at 0 (codes "x"))))
    ∷ (codes ") (", refused 130 1 1)
    ∷ []

left_verdicts : computed 1000 left_out_cases ≡ told left_out_cases
unfolding verdict tokens scan run_sort is_decimal opens_too_far step go_on is_number
left_verdicts = refl

pub example_left : AreVerdicts 1000 left_out_cases
example_left = are_so 1000 left_out_cases left_verdicts

stop_verdicts : computed 1000 stop_cases ≡ told stop_cases
unfolding verdict tokens scan run_sort is_decimal opens_too_far step go_on is_number
stop_verdicts = refl

pub example_stop : AreVerdicts 1000 stop_cases
example_stop = are_so 1000 stop_cases stop_verdicts

fault_verdicts : computed 1000 (mixed_cases ++ (name_cases ++ kind_cases)) ≡ told (mixed_cases ++ (name_cases ++ kind_cases))
unfolding verdict tokens scan run_sort is_decimal opens_too_far step go_on is_number
fault_verdicts = refl

pub example_fault : AreVerdicts 1000 (mixed_cases ++ (name_cases ++ kind_cases))
example_fault = are_so 1000 (mixed_cases ++ (name_cases ++ kind_cases)) fault_verdicts

depth_verdicts : computed 2 depth_cases ≡ told depth_cases
unfolding verdict tokens scan run_sort is_decimal opens_too_far step go_on is_number
depth_verdicts = refl

pub example_depth : AreVerdicts 2 depth_cases
example_depth = are_so 2 depth_cases depth_verdicts

flat_verdicts : computed 0 flat_cases ≡ told flat_cases
unfolding verdict tokens scan run_sort is_decimal opens_too_far step go_on is_number
flat_verdicts = refl

pub example_flat : AreVerdicts 0 flat_cases
example_flat = are_so 0 flat_cases flat_verdicts
