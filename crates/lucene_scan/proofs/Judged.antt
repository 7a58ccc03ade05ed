-- Tokens that are looked at from the left.
use Rattle.std.proofs.Common.{ℕ, ◌≡◌, ◌+◌, ◌<◌, ◌≤◌, sym, ◌∙◌, ap, Bool, true, false, List, length, drop, get_or}
use Rattle.std.specs.Prelude.{Some, None, if◌then◌else◌}
use Rattle.std.proofs.lemmas.List.{drop_more}
use Rattle.std.proofs.Math.ListN.{drop_of_length-le}
use Rattle.lucene_lang.specs.Faults.{is_outside, ranged_behind}
use Rattle.lucene_lang.specs.Reading.{first_outside}
use Rattle.lucene_scan.specs.declared.token.Token.{Token}
use Rattle.query_tokens.specs.PlaceView.{place_view}
use Rattle.lucene_scan.specs.View.{sort_view, tokens_view}

-- what is left to look at decides as the whole
abbrev pub Decides : Bool → List Token → ℕ → Type 0
Decides ranged ts i = first_outside ranged (tokens_view (drop i ts)) ≡ first_outside false (tokens_view ts)

next_is : (ranged : Bool) (ts : List Token) (i : ℕ) (t : Token) → i < length ts → t ≡ get_or ts i t
    → first_outside ranged (tokens_view (drop i ts))
    ≡ (if is_outside ranged (sort_view t.sort) then Some (place_view t.place) else first_outside (ranged_behind ranged (sort_view t.sort)) (tokens_view (drop (i + 1) ts)))
next_is ranged ts i t within is =
    ap (λ (us : List Token). first_outside ranged (tokens_view us)) (drop_more ts i t within)
    ∙ ap (λ (u : Token). if is_outside ranged (sort_view u.sort) then Some (place_view u.place) else first_outside (ranged_behind ranged (sort_view u.sort)) (tokens_view (drop (i + 1) ts)))
    (sym is)

pub outside_here : (ranged b : Bool) (ts : List Token) (i : ℕ) (t : Token) → Decides ranged ts i → i < length ts → t ≡ get_or ts i t
    → b ≡ is_outside ranged (sort_view t.sort) → b ≡ true → Some (place_view t.place) ≡ first_outside false (tokens_view ts)
outside_here ranged b ts i t decides within is test so =
    let out : is_outside ranged (sort_view t.sort) ≡ true = sym test ∙ so in
    sym (sym decides ∙ (next_is ranged ts i t within is
    ∙ ap (λ (c : Bool). if c then Some (place_view t.place) else first_outside (ranged_behind ranged (sort_view t.sort)) (tokens_view (drop (i + 1) ts))) out))

pub outside_more : (ranged later b : Bool) (ts : List Token) (i : ℕ) (t : Token) → Decides ranged ts i → i < length ts → t ≡ get_or ts i t
    → b ≡ is_outside ranged (sort_view t.sort) → b ≡ false → later ≡ ranged_behind ranged (sort_view t.sort) → Decides later ts (i + 1)
outside_more ranged later b ts i t decides within is test so behind =
    let out : is_outside ranged (sort_view t.sort) ≡ false = sym test ∙ so in
    ap (λ (c : Bool). first_outside c (tokens_view (drop (i + 1) ts))) behind
    ∙ (sym (next_is ranged ts i t within is
    ∙ ap (λ (c : Bool). if c then Some (place_view t.place) else first_outside (ranged_behind ranged (sort_view t.sort)) (tokens_view (drop (i + 1) ts))) out)
    ∙ decides)

pub outside_end : (ranged : Bool) (ts : List Token) (i : ℕ) → Decides ranged ts i → length ts ≤ i → None ≡ first_outside false (tokens_view ts)
outside_end ranged ts i decides past =
    sym (ap (λ (us : List Token). first_outside ranged (tokens_view us)) (drop_of_length-le ts past)) ∙ decides
