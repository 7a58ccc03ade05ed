-- Where and why the reading of a scalar or a flow collection stops in its block, by cases; and that it stops in each case.
use Rattle.std.proofs.Common.{◌≡◌, ℕ, suc, Bool, true, false, not, cond, ◌&&◌, ◌||◌, ◌==◌, nat_lt, ◌⊎◌, inl, inr, List, [], ◌∷◌, drop, is_some, Ok, Err, refl, sym, ◌∙◌}
use Rattle.std.proofs.lemmas.Bool.{or_parts}
use Rattle.yaml_inline.specs.File.{Line, is_empty, begins, skip_blanks, carries_nothing, ends_line}
use Rattle.yaml_inline.specs.Line.{spot, Stop, refused, syntax, indent, body, is_comment, is_empty_line, bad_start, starts_plain, plain_front, plain_rest, is_left_out}
use Rattle.yaml_inline.specs.Scalar.{Chomping, clip, strip, keep}
use Rattle.yaml_inline.specs.Flow.{quoted, is_quote, is_bracket, flow_node}
use Rattle.yaml_blocks.specs.Blocks.{skip_comments, nothing_from, nothing_in, alone, Continuation, empty_line, comment_line, text_line, last_line, continuation, add_line, more_plain, plain_text, digit_first, header_end, header_of, scalar_lines, block_scalar}
use Rattle.yaml_blocks.specs.Reading.{offset, scalar_or_flow_in}
use Rattle.yaml_blocks.specs.ScalarStops.{StopsBehind, StopsAlone, StopsContinuation, StopsPlainLines, StopsPlain, behind_chomping, StopsBlockScalar}
use Rattle.yaml_blocks.specs.Form.{StopsScalarOrFlow}
use Rattle.yaml_blocks.proofs.Tools.{choose, bind_err}
use Rattle.yaml_blocks.proofs.Complete.{quote_passed, bracket_passed, header_passed, plain_passed}
use Rattle.yaml_blocks.proofs.LineStopped.{quoted_stopped, quoted_stopping, flow_stopped, flow_stopping}

behind_stopped : (ls : List Line) (s : Stop) → nothing_in ls ≡ Err s → StopsBehind ls s
unfolding nothing_in
behind_stopped ls s e = by (skip_comments ls) refl e where
  by : (xs : List Line) → skip_comments ls ≡ xs → nothing_from xs ≡ Err s → StopsBehind ls s
  by [] is e = cc
  by (x ∷ xs) is e = (x, xs, is, cc)

behind_stopping : (ls : List Line) (s : Stop) → StopsBehind ls s → nothing_in ls ≡ Err s
unfolding nothing_in
behind_stopping ls s h = rw (h.2, h.3) refl

alone_stopped : {A : Type 0} (l : Line) (rest : List ℕ) (ls : List Line) (x : A) (s : Stop) → alone l rest ls x ≡ Err s → StopsAlone l rest ls s
alone_stopped l rest ls x s e =
    elim (choose (ends_line rest) _ _ _ e) [
      | inl h ↦ elim (bind_err (nothing_in ls) _ s h.1) [
        | inl g ↦ inr (h.0, behind_stopped ls s g)
        | inr g ↦ cc
      ]
      | inr h ↦ inl (h.0, cc)
    ]

alone_stopping : {A : Type 0} (l : Line) (rest : List ℕ) (ls : List Line) (x : A) (s : Stop) → StopsAlone l rest ls s → alone l rest ls x ≡ Err s
alone_stopping l rest ls x s (inl h) = rw (h.0, h.1) refl
alone_stopping l rest ls x s (inr h) = rw (h.0, behind_stopping ls s h.1) refl

-- ---- plain scalars

continuation_stopped : (m : ℕ) (l : Line) (s : Stop) → continuation m l ≡ Err s → StopsContinuation m l s
unfolding continuation
continuation_stopped m l s e =
    elim (choose (is_empty_line l) _ _ _ e) [
      | inl h ↦ cc
      | inr empty ↦ elim (choose (is_comment l) _ _ _ empty.1) [
        | inl h ↦ cc
        | inr comment ↦ elim (choose (is_some (bad_start l)) _ _ _ comment.1) [
          | inl h ↦ inl (comment.0, h.0, cc)
          | inr bar ↦ elim (choose (nat_lt (indent l) m || not (ends_line (plain_rest false (body l)))) _ _ _ bar.1) [
            | inl h ↦ inr (comment.0, bar.0, h.0, cc)
            | inr h ↦ elim (choose (is_empty (plain_rest false (body l))) _ _ _ h.1) [ inl g ↦ cc | inr g ↦ cc ]
          ]
        ]
      ]
    ]

-- a line that carries something has more than blanks
not_empty_line : (l : Line) → is_comment l ≡ false → is_empty_line l ≡ false
unfolding is_comment carries_nothing is_empty_line
not_empty_line l e = (or_parts (is_empty (skip_blanks l.text)) _ e).0

continuation_stopping : (m : ℕ) (l : Line) (s : Stop) → StopsContinuation m l s → continuation m l ≡ Err s
unfolding continuation
continuation_stopping m l s (inl h) = rw (not_empty_line l h.0, h.0, h.1, h.2) refl
continuation_stopping m l s (inr h) = rw (not_empty_line l h.0, h.0, h.1, h.2, h.3) refl

plain_lines_stopped : (m n : ℕ) (ls : List Line) (s : Stop) → more_plain m n ls ≡ Err s → StopsPlainLines m ls s
unfolding more_plain
plain_lines_stopped m n [] s e = cc
plain_lines_stopped m n (l ∷ ls) s e =
    elim (bind_err (continuation m l) _ s e) [
      | inl h ↦ inl (continuation_stopped m l s h)
      | inr h ↦ by (plain_lines_stopped m (suc n) ls s) (plain_lines_stopped m 0 ls s) h.0 h.1 h.2
    ] where
      by : (more_plain m (suc n) ls ≡ Err s → StopsPlainLines m ls s) → (more_plain m 0 ls ≡ Err s → StopsPlainLines m ls s)
          → (f : Continuation) → continuation m l ≡ Ok f → add_line n f (more_plain m (suc n) ls) (more_plain m 0 ls) (nothing_in ls) ≡ Err s → StopsPlainLines m (l ∷ ls) s
      by empty text empty_line is e = inr (inl (inl is, empty e))
      by empty text comment_line is e = elim (bind_err (nothing_in ls) _ s e) [ inl g ↦ inr (inr (inl is, behind_stopped ls s g)) | inr g ↦ cc ]
      by empty text (text_line t) is e = elim (bind_err (more_plain m 0 ls) _ s e) [ inl g ↦ inr (inl (inr (t, is), text g)) | inr g ↦ cc ]
      by empty text (last_line t) is e = elim (bind_err (nothing_in ls) _ s e) [ inl g ↦ inr (inr (inr (t, is), behind_stopped ls s g)) | inr g ↦ cc ]

plain_lines_stopping : (m n : ℕ) (ls : List Line) (s : Stop) → StopsPlainLines m ls s → more_plain m n ls ≡ Err s
unfolding more_plain
plain_lines_stopping m n [] s h = absurd h
plain_lines_stopping m n (l ∷ ls) s (inl h) = rw (continuation_stopping m l s h) refl
plain_lines_stopping m n (l ∷ ls) s (inr (inl (inl is, h))) = rw is (plain_lines_stopping m (suc n) ls s h)
plain_lines_stopping m n (l ∷ ls) s (inr (inl (inr (t, is), h))) = rw (is, plain_lines_stopping m 0 ls s h) refl
plain_lines_stopping m n (l ∷ ls) s (inr (inr (inl is, h))) = rw (is, behind_stopping ls s h) refl
plain_lines_stopping m n (l ∷ ls) s (inr (inr (inr (t, is), h))) = rw (is, behind_stopping ls s h) refl

plain_stopped : (m : ℕ) (l : Line) (cs : List ℕ) (ls : List Line) (s : Stop) → plain_text m l cs ls ≡ Err s → StopsPlain m l cs ls s
unfolding plain_text
plain_stopped m l cs ls s e =
    elim (choose (is_empty (plain_rest false cs)) _ _ _ e) [
      | inl h ↦ elim (bind_err (more_plain m 0 ls) _ s h.1) [
        | inl g ↦ inl (h.0, plain_lines_stopped m 0 ls s g)
        | inr g ↦ cc
      ]
      | inr h ↦ inr (h.0, alone_stopped l (plain_rest false cs) ls (plain_front false cs) s h.1)
    ]

plain_stopping : (m : ℕ) (l : Line) (cs : List ℕ) (ls : List Line) (s : Stop) → StopsPlain m l cs ls s → plain_text m l cs ls ≡ Err s
unfolding plain_text
plain_stopping m l cs ls s (inl h) = rw (h.0, plain_lines_stopping m 0 ls s h.1) refl
plain_stopping m l cs ls s (inr h) = rw h.0 (alone_stopping l (plain_rest false cs) ls (plain_front false cs) s h.1)

-- ---- block scalars

-- what the chomping indicator asks for
chomping_of : List ℕ → Chomping
chomping_of cs = cond (begins 45 cs) strip (cond (begins 43 cs) keep clip)

head_is : (l : Line) (cs : List ℕ) → header_of l cs ≡ header_end l (chomping_of cs) (behind_chomping cs)
unfolding chomping_of
head_is l cs = by (begins 45 cs) (begins 43 cs) where
  by : (a b : Bool) → cond a (header_end l strip (drop 1 cs)) (cond b (header_end l keep (drop 1 cs)) (header_end l clip cs)) ≡ header_end l (cond a strip (cond b keep clip)) (cond (a || b) (drop 1 cs) cs)
  by true b = refl
  by false true = refl
  by false false = refl

end_stopped : (l : Line) (e : Chomping) (cs : List ℕ) (s : Stop) → header_end l e cs ≡ Err s → ((digit_first cs ≡ true) × (s ≡ refused 3 (spot l cs))) ⊎ ((digit_first cs ≡ false) × (ends_line cs ≡ false) × (s ≡ syntax l))
end_stopped l e cs s h =
    elim (choose (digit_first cs) _ _ _ h) [
      | inl g ↦ inl (g.0, cc)
      | inr g ↦ elim (choose (ends_line cs) _ _ _ g.1) [
        | inl k ↦ cc
        | inr k ↦ inr (g.0, k.0, cc)
      ]
    ]

end_stopping : (l : Line) (e : Chomping) (cs : List ℕ) (s : Stop) → ((digit_first cs ≡ true) × (s ≡ refused 3 (spot l cs))) ⊎ ((digit_first cs ≡ false) × (ends_line cs ≡ false) × (s ≡ syntax l)) → header_end l e cs ≡ Err s
end_stopping l e cs s (inl h) = rw (h.0, h.1) refl
end_stopping l e cs s (inr h) = rw (h.0, h.1, h.2) refl

block_scalar_stopped : (m : ℕ) (l : Line) (cs : List ℕ) (ls : List Line) (s : Stop) → block_scalar m l cs ls ≡ Err s → StopsBlockScalar m l cs ls s
unfolding block_scalar
block_scalar_stopped m l cs ls s e =
    elim (bind_err (header_of l (drop 1 cs)) _ s e) [
      | inl h ↦ inl (end_stopped l (chomping_of (drop 1 cs)) (behind_chomping (drop 1 cs)) s (sym (head_is l (drop 1 cs)) ∙ h))
      | inr h ↦ elim (bind_err (nothing_in (scalar_lines m ls).1) _ s h.2) [
        | inl g ↦ inr (h.0, h.1, behind_stopped (scalar_lines m ls).1 s g)
        | inr g ↦ cc
      ]
    ]

block_scalar_stopping : (m : ℕ) (l : Line) (cs : List ℕ) (ls : List Line) (s : Stop) → StopsBlockScalar m l cs ls s → block_scalar m l cs ls ≡ Err s
unfolding block_scalar
block_scalar_stopping m l cs ls s (inl h) = rw (head_is l (drop 1 cs) ∙ end_stopping l (chomping_of (drop 1 cs)) (behind_chomping (drop 1 cs)) s h) refl
block_scalar_stopping m l cs ls s (inr h) = rw (h.1, behind_stopping (scalar_lines m ls).1 s h.2) refl

-- ---- scalars and flow collections

pub scalar_or_flow_stopped : (d m : ℕ) (l : Line) (cs : List ℕ) (ls : List Line) (s : Stop) → scalar_or_flow_in d m l cs ls ≡ Err s → StopsScalarOrFlow d m l cs ls s
unfolding scalar_or_flow_in
scalar_or_flow_stopped d m l cs ls s e =
    elim (choose (is_left_out cs || (begins 37 cs && offset l cs == 0)) _ _ _ e) [
      | inl h ↦ inl (h.0, cc)
      | inr left ↦
          elim (choose (is_quote cs) _ _ _ left.1) [
            | inl h ↦ elim (bind_err (quoted l cs) _ s h.1) [
              | inl g ↦ inr (inl (h.0, inl (quoted_stopped l cs s g)))
              | inr g ↦ inr (inl (h.0, inr (g.0, g.1, alone_stopped l g.0.1 ls _ s g.2)))
            ]
            | inr quote ↦
                elim (choose (is_bracket cs) _ _ _ quote.1) [
                  | inl h ↦ elim (bind_err (flow_node d l cs) _ s h.1) [
                    | inl g ↦ inr (inr (inl (h.0, inl (flow_stopped d l cs s g))))
                    | inr g ↦ inr (inr (inl (h.0, inr (g.0, g.1, alone_stopped l g.0.1 ls _ s g.2))))
                  ]
                  | inr bracket ↦
                      elim (choose (begins 124 cs || begins 62 cs) _ _ _ bracket.1) [
                        | inl h ↦ elim (bind_err (block_scalar m l cs ls) _ s h.1) [
                          | inl g ↦ inr (inr (inr (inl (h.0, block_scalar_stopped m l cs ls s g))))
                          | inr g ↦ cc
                        ]
                        | inr head ↦
                            elim (choose (starts_plain cs) _ _ _ head.1) [
                              | inl h ↦ elim (bind_err (plain_text m l cs ls) _ s h.1) [
                                | inl g ↦ inr (inr (inr (inr (inl (h.0, (or_parts (is_left_out cs) _ left.0).0, plain_stopped m l cs ls s g)))))
                                | inr g ↦ cc
                              ]
                              | inr h ↦ inr (inr (inr (inr (inr (left.0, quote.0, bracket.0, head.0, h.0, cc)))))
                            ]
                      ]
                ]
          ]
    ]

pub scalar_or_flow_stopping : (d m : ℕ) (l : Line) (cs : List ℕ) (ls : List Line) (s : Stop) → StopsScalarOrFlow d m l cs ls s → scalar_or_flow_in d m l cs ls ≡ Err s
unfolding scalar_or_flow_in
scalar_or_flow_stopping d m l cs ls s (inl h) = rw (h.0, h.1) refl
scalar_or_flow_stopping d m l cs ls s (inr (inl (quote, inl h))) = rw (quote_passed cs (offset l cs) quote, quote, quoted_stopping l cs s h) refl
scalar_or_flow_stopping d m l cs ls s (inr (inl (quote, inr h))) = rw (quote_passed cs (offset l cs) quote, quote, h.1) (alone_stopping l h.0.1 ls _ s h.2)
scalar_or_flow_stopping d m l cs ls s (inr (inr (inl (bracket, inl h)))) =
    let passed = bracket_passed cs (offset l cs) bracket in
    rw (passed.0, passed.1, bracket, flow_stopping d l cs s h) refl
scalar_or_flow_stopping d m l cs ls s (inr (inr (inl (bracket, inr h)))) =
    let passed = bracket_passed cs (offset l cs) bracket in
    rw (passed.0, passed.1, bracket, h.1) (alone_stopping l h.0.1 ls _ s h.2)
scalar_or_flow_stopping d m l cs ls s (inr (inr (inr (inl h)))) =
    let passed = header_passed cs (offset l cs) h.0 in
    rw (passed.0, passed.1, passed.2, h.0, block_scalar_stopping m l cs ls s h.1) refl
scalar_or_flow_stopping d m l cs ls s (inr (inr (inr (inr (inl h))))) =
    let passed = plain_passed cs (offset l cs) h.0 h.1 in
    rw (passed.0, passed.1, passed.2, passed.3, h.0, plain_stopping m l cs ls s h.2) refl
scalar_or_flow_stopping d m l cs ls s (inr (inr (inr (inr (inr h))))) = rw (h.0, h.1, h.2, h.3, h.4, h.5) refl
