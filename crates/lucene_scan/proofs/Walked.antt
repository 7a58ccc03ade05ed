-- Scanning character by character.
use Rattle.std.proofs.Common.{ℕ, ◌+◌, ◌≡◌, refl, sym, ◌∙◌, ap, List, [], ◌∷◌, ◌++◌, append_assoc, append-nil}
use Rattle.query_tokens.specs.Places.{At, after, origin}
use Rattle.lucene_lang.specs.Tokens.{Token, Mode, Outside, turn, scan, last, tokens}
use Rattle.lucene_scan.specs.declared.token.Token as declared
use Rattle.lucene_scan.specs.View.{token_view, tokens_view}

-- one token more
pub view_more : (ts : List declared.Token) (t : declared.Token) → tokens_view (ts ++ t ∷ []) ≡ tokens_view ts ++ token_view t ∷ []
view_more [] t = refl
view_more (u ∷ ts) t = ap (λ (us : List Token). token_view u ∷ us) (view_more ts t)

-- what was scanned, and what the mode makes of any rest
abbrev pub Scanned : List ℕ → List Token → Mode → At → Type 0
Scanned cs tokens mode place = (rest : List ℕ) → scan Outside origin (cs ++ rest) ≡ tokens ++ scan mode place rest

pub scan_turn : (cs : List ℕ) (c : ℕ) (tokens more : List Token) (mode next : Mode) (place later : At) → Scanned cs tokens mode place
    → more ≡ tokens ++ (turn mode place c).ended → next ≡ (turn mode place c).mode → later ≡ after place c → Scanned (cs ++ c ∷ []) more next later
unfolding scan
scan_turn cs c tokens more mode next place later before ended same here rest =
    ap (λ (ds : List ℕ). scan Outside origin ds) (append_assoc cs (c ∷ []) rest)
    ∙ (before (c ∷ rest)
    ∙ (sym (append_assoc tokens (turn mode place c).ended (scan (turn mode place c).mode (after place c) rest))
    ∙ (ap (λ (ts : List Token). ts ++ scan (turn mode place c).mode (after place c) rest) (sym ended)
    ∙ (ap (λ (m : Mode). more ++ scan m (after place c) rest) (sym same) ∙ ap (λ (p : At). more ++ scan next p rest) (sym here)))))

pub scan_end : (cs all : List ℕ) (tokens' more : List Token) (mode : Mode) (place : At) → Scanned cs tokens' mode place → cs ≡ all → more ≡ tokens' ++ last mode → more ≡ tokens all
unfolding scan tokens
scan_end cs all tokens' more mode place scanned same ended =
    ended ∙ (sym (scanned []) ∙ ap (λ (ds : List ℕ). scan Outside origin ds) (append-nil cs ∙ same))
