-- Lines as they are numbered, one more at a time.
use Rattle.std.proofs.Common.{◌≡◌, ℕ, suc, ◌+◌, List, [], ◌∷◌, ◌++◌, length, sym, ap, ◌∙◌, arith, append_assoc, append-nil}
use Rattle.std.proofs.lemmas.List.{map-append, length-append}
use Rattle.yaml_inline.specs.declared.line.Line as code
use Rattle.yaml_inline.specs.File.{Line, line_texts, numbered}
use Rattle.yaml_inline.specs.View.{line_view}
use Rattle.yaml_blocks.specs.Views.{lines_view}

-- so many lines are read, and this text is left
abbrev pub read_so_far : List code.Line → List ℕ → List Line
read_so_far ls rest = lines_view ls ++ numbered (length ls + 1) (line_texts rest)

pub one_more : (ls : List code.Line) (x : code.Line) (rest after : List ℕ) → line_texts rest ≡ x.text.now ∷ line_texts after → x.number ≡ length ls + 1
    → read_so_far (ls ++ x ∷ []) after ≡ read_so_far ls rest
one_more ls x rest after first number =
    let next : length (ls ++ x ∷ []) + 1 ≡ suc (length ls + 1) = omega (arith, length-append ls (x ∷ [])) in
    let head : line_view x ≡ record { number = length ls + 1; text = x.text.now } = ap (λ (n : ℕ). record { number = n; text = x.text.now }) number in
    ap (λ (vs : List Line). vs ++ numbered (length (ls ++ x ∷ []) + 1) (line_texts after)) (map-append line_view ls (x ∷ []))
    ∙ (append_assoc (lines_view ls) (line_view x ∷ []) _
    ∙ (ap (λ (n : ℕ). lines_view ls ++ (line_view x ∷ numbered n (line_texts after))) next
    ∙ (ap (λ (v : Line). lines_view ls ++ (v ∷ numbered (suc (length ls + 1)) (line_texts after))) head
    ∙ ap (λ (ts : List (List ℕ)). lines_view ls ++ numbered (length ls + 1) ts) (sym first))))

pub none_left : (ls : List code.Line) (rest : List ℕ) → length rest ≡ 0 → read_so_far ls rest ≡ lines_view ls
unfolding line_texts
none_left ls [] e = append-nil (lines_view ls)
none_left ls (c ∷ cs) e = absurd (omega arith)
