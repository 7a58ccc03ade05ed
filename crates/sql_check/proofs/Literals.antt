-- Literals that are taken for operands, one behind the other.
use Rattle.std.proofs.Common.{ℕ, ◌≡◌, ◌+◌, ◌<◌, ◌≤◌, List, [], ◌∷◌, ◌++◌, length, drop, map, get_or, refl, sym, ap, ◌∙◌, append_assoc, append-nil}
use Rattle.std.proofs.lemmas.List.{map-append, drop_more, drop_all}
use Rattle.event_schema.specs.declared.schema.Field.{Field}
use Rattle.sql_lang.specs.Expression as plain
use Rattle.sql_lang.specs.Grammar as grammar
use Rattle.sql_parse.specs.View.{literal_view, literals_view}
use Rattle.sql_parse.specs.declared.syntax.Literal.{Literal}
use Rattle.sql_lang.specs.View.{operand_view}
use Rattle.sql_lang.specs.declared.query.Operand.{Operand}

pub operands_go : (fields : List Field) (done new : List Operand) (literals more : List Literal) (x : Literal) (o : Operand) (whole : List plain.Operand)
    → literals ≡ x ∷ more → map operand_view done ++ map (plain.literal_operand fields) (literals_view literals) ≡ whole
    → operand_view o ≡ plain.literal_operand fields (literal_view x) → new ≡ done ++ o ∷ [] → map operand_view new ++ map (plain.literal_operand fields) (literals_view more) ≡ whole
operands_go fields done new literals more x o whole is inv one pushed =
    let rest = map (plain.literal_operand fields) (literals_view more) in
    ap (λ (os : List Operand). map operand_view os ++ rest) pushed
    ∙ (ap (λ (os : List plain.Operand). os ++ rest) (map-append operand_view done (o ∷ []))
    ∙ (append_assoc (map operand_view done) (operand_view o ∷ []) rest
    ∙ (ap (λ (p : plain.Operand). map operand_view done ++ p ∷ rest) one
    ∙ (sym (ap (λ (ls : List Literal). map operand_view done ++ map (plain.literal_operand fields) (literals_view ls)) is) ∙ inv))))

pub next_literal : (literals : List Literal) (i : ℕ) (x : Literal) → i < length literals → x ≡ get_or literals i x → drop i literals ≡ x ∷ drop (i + 1) literals
next_literal literals i x h e = drop_more literals i x h ∙ ap (λ (y : Literal). y ∷ drop (i + 1) literals) (sym e)

pub operands_end : (fields : List Field) (done : List Operand) (literals : List Literal) (i : ℕ) (whole : List plain.Operand)
    → length literals ≤ i → map operand_view done ++ map (plain.literal_operand fields) (literals_view (drop i literals)) ≡ whole → map operand_view done ≡ whole
operands_end fields done literals i whole past inv =
    sym (append-nil (map operand_view done))
    ∙ (sym (ap (λ (ls : List Literal). map operand_view done ++ map (plain.literal_operand fields) (literals_view ls)) (drop_all i literals past)) ∙ inv)

in_a_list : (fields : List Field) (ls : List grammar.Literal) (last : grammar.Literal)
    → map (plain.literal_operand fields) ls ++ plain.literal_operand fields last ∷ [] ≡ plain.literal_operands fields ls last
in_a_list fields [] last = refl
in_a_list fields (l ∷ ls) last = ap (λ (os : List plain.Operand). plain.literal_operand fields l ∷ os) (in_a_list fields ls last)

pub last_goes : (fields : List Field) (done new : List Operand) (ls : List grammar.Literal) (o : Operand) (last : grammar.Literal)
    → map operand_view done ≡ map (plain.literal_operand fields) ls → operand_view o ≡ plain.literal_operand fields last → new ≡ done ++ o ∷ []
    → map operand_view new ≡ plain.literal_operands fields ls last
last_goes fields done new ls o last are one pushed =
    ap (map operand_view) pushed
    ∙ (map-append operand_view done (o ∷ [])
    ∙ (ap (λ (os : List plain.Operand). os ++ operand_view o ∷ []) are
    ∙ (ap (λ (p : plain.Operand). map (plain.literal_operand fields) ls ++ p ∷ []) one ∙ in_a_list fields ls last)))
