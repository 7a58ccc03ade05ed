-- Tokens that are none of the language's, looked at from the left.
use Rattle.std.proofs.Common.{ℕ, ◌≡◌, ◌+◌, ◌<◌, ◌≤◌, sym, ◌∙◌, ap, Bool, true, false, List, length, drop, get_or}
use Rattle.std.specs.Prelude.{Some, None, if◌then◌else◌}
use Rattle.std.proofs.lemmas.List.{drop_more}
use Rattle.std.proofs.Math.ListN.{drop_of_length-le}
use Rattle.sql_lang.specs.Reading.{is_other, first_other}
use Rattle.sql_scan.specs.declared.token.Token.{Token}
use Rattle.query_tokens.specs.PlaceView.{place_view}
use Rattle.sql_scan.specs.View.{sort_view, tokens_view}

-- what is left to look at decides as the whole
abbrev pub Decides : List Token → ℕ → Type 0
Decides ts i = first_other (tokens_view (drop i ts)) ≡ first_other (tokens_view ts)

next_is : (ts : List Token) (i : ℕ) (t : Token) → i < length ts → t ≡ get_or ts i t
    → first_other (tokens_view (drop i ts)) ≡ (if is_other (sort_view t.sort) then Some (place_view t.place) else first_other (tokens_view (drop (i + 1) ts)))
next_is ts i t within is =
    ap (λ (us : List Token). first_other (tokens_view us)) (drop_more ts i t within)
    ∙ ap (λ (u : Token). if is_other (sort_view u.sort) then Some (place_view u.place) else first_other (tokens_view (drop (i + 1) ts))) (sym is)

pub other_here : (b : Bool) (ts : List Token) (i : ℕ) (t : Token) → Decides ts i → i < length ts → t ≡ get_or ts i t
    → b ≡ is_other (sort_view t.sort) → b ≡ true → Some (place_view t.place) ≡ first_other (tokens_view ts)
other_here b ts i t decides within is test so =
    sym (sym decides ∙ (next_is ts i t within is ∙ ap (λ (c : Bool). if c then Some (place_view t.place) else first_other (tokens_view (drop (i + 1) ts))) (sym test ∙ so)))

pub other_more : (b : Bool) (ts : List Token) (i : ℕ) (t : Token) → Decides ts i → i < length ts → t ≡ get_or ts i t
    → b ≡ is_other (sort_view t.sort) → b ≡ false → Decides ts (i + 1)
other_more b ts i t decides within is test so =
    sym (next_is ts i t within is ∙ ap (λ (c : Bool). if c then Some (place_view t.place) else first_other (tokens_view (drop (i + 1) ts))) (sym test ∙ so)) ∙ decides

pub other_end : (ts : List Token) (i : ℕ) → Decides ts i → length ts ≤ i → None ≡ first_other (tokens_view ts)
other_end ts i decides past = sym (ap (λ (us : List Token). first_other (tokens_view us)) (drop_of_length-le ts past)) ∙ decides
