-- Scanning character by character.
use Rattle.std.proofs.Common.{ℕ, ◌+◌, ◌≡◌, sym, ◌∙◌, ap, List, [], ◌∷◌, ◌++◌, append_assoc, append-nil}
use Rattle.query_tokens.specs.Places.{At, after, origin}
use Rattle.sql_lang.specs.Tokens.{Token, Mode, Turn, Outside, turn, scan, last, tokens}
use Rattle.std.specs.Prelude.{Option}
use Rattle.sql_scan.specs.declared.mode.Turn.{Turn as ReadTurn}
use Rattle.sql_scan.specs.declared.token.Token.{Token as ReadToken}
use Rattle.sql_scan.specs.View.{ended_view, mode_view, turn_view}

-- what was scanned, and what the mode makes of any rest
abbrev pub Scanned : List ℕ → List Token → Mode → At → Type 0
Scanned cs tokens mode place = (rest : List ℕ) → scan Outside origin (cs ++ rest) ≡ tokens ++ scan mode place rest

scan_one : (cs : List ℕ) (c : ℕ) (tokens more : List Token) (mode next : Mode) (place later : At) → Scanned cs tokens mode place
    → more ≡ tokens ++ (turn mode place c).ended → next ≡ (turn mode place c).mode → later ≡ after place c → Scanned (cs ++ c ∷ []) more next later
unfolding scan
scan_one cs c tokens more mode next place later before ended same here rest =
    ap (λ (ds : List ℕ). scan Outside origin ds) (append_assoc cs (c ∷ []) rest)
    ∙ (before (c ∷ rest)
    ∙ (sym (append_assoc tokens (turn mode place c).ended (scan (turn mode place c).mode (after place c) rest))
    ∙ (ap (λ (ts : List Token). ts ++ scan (turn mode place c).mode (after place c) rest) (sym ended)
    ∙ (ap (λ (m : Mode). more ++ scan m (after place c) rest) (sym same) ∙ ap (λ (p : At). more ++ scan next p rest) (sym here)))))

pub scan_turn : (cs : List ℕ) (c : ℕ) (tokens more : List Token) (mode : Mode) (place later : At) (t : ReadTurn) → Scanned cs tokens mode place
    → turn_view t ≡ turn mode place c → more ≡ tokens ++ ended_view t.ended → later ≡ after place c → Scanned (cs ++ c ∷ []) more (mode_view t.mode) later
scan_turn cs c tokens more mode place later t before same ended here =
    scan_one cs c tokens more mode (mode_view t.mode) place later before (ended ∙ ap (λ (u : Turn). tokens ++ u.ended) same) (ap (λ (u : Turn). u.mode) same) here

pub scan_end : (cs all : List ℕ) (tokens' more : List Token) (mode : Mode) (place : At) → Scanned cs tokens' mode place → cs ≡ all → more ≡ tokens' ++ last mode → more ≡ tokens all
unfolding scan tokens
scan_end cs all tokens' more mode place scanned same ended =
    ended ∙ (sym (scanned []) ∙ ap (λ (ds : List ℕ). scan Outside origin ds) (append-nil cs ∙ same))

pub all_ended : (found : List Token) (ended : Option ReadToken) (mode : Mode) (more : List Token) → ended_view ended ≡ last mode → more ≡ found ++ ended_view ended
    → more ≡ found ++ last mode
all_ended found ended mode more is pushed = pushed ∙ ap (λ (ts : List Token). found ++ ts) is
