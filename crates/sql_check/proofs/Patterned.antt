-- Patterns, one character at a time.
use Rattle.std.proofs.Common.{ℕ, ◌≡◌, Bool, true, false, List, [], ◌∷◌, refl, sym, ap, ◌∙◌}
use Rattle.std.specs.Prelude.{◌||◌, ◌==◌, if◌then◌else◌, Some, None}
use Rattle.std.specs.Str.{chars}
use Rattle.std.proofs.lemmas.Str.{chars-nil}
use Rattle.sql_lang.specs.Faults.{is_bad_escape, is_bad_bracket}
use Rattle.sql_lang.specs.Meaning as meaning
use Rattle.sql_lang.specs.Expression.{escape_of}
use Rattle.sql_check.specs.declared.glob.Bracket.{Bracket}
use Rattle.sql_check.specs.declared.glob.Bracket.TheVariants.{Outside, Opened, Closing}
use Rattle.sql_check.specs.Turns.{is_bad_here, escapes, bracket_view, is_bad_bracket_here, bracket_after, is_inside}

-- ---- LIKE

escape_turn : (e : ℕ) (b : Bool) (c : ℕ) (cs : List ℕ) → is_bad_escape e b (c ∷ cs) ≡ (is_bad_here e b c || is_bad_escape e (escapes e b c) cs)
unfolding is_bad_escape
escape_turn e true c cs = refl
escape_turn e false c cs = refl

pub escape_bad : (e : ℕ) (b : Bool) (c : ℕ) (text cs : List ℕ) (whole bad : Bool) → is_bad_escape e b text ≡ whole → text ≡ c ∷ cs → bad ≡ is_bad_here e b c → bad ≡ true → true ≡ whole
escape_bad e b c text cs whole bad inv is here so =
    sym (sym inv ∙ (ap (is_bad_escape e b) is ∙ (escape_turn e b c cs ∙ ap (λ (x : Bool). x || is_bad_escape e (escapes e b c) cs) (sym here ∙ so))))

pub escape_more : (e : ℕ) (b next : Bool) (c : ℕ) (text cs : List ℕ) (whole bad : Bool) → is_bad_escape e b text ≡ whole → text ≡ c ∷ cs → bad ≡ is_bad_here e b c → bad ≡ false
    → next ≡ escapes e b c → is_bad_escape e next cs ≡ whole
escape_more e b next c text cs whole bad inv is here so after =
    ap (λ (x : Bool). is_bad_escape e x cs) after
    ∙ (sym (ap (is_bad_escape e b) is ∙ (escape_turn e b c cs ∙ ap (λ (x : Bool). x || is_bad_escape e (escapes e b c) cs) (sym here ∙ so))) ∙ inv)

pub escape_end : (e : ℕ) (b : Bool) (text : List ℕ) (whole : Bool) → is_bad_escape e b (chars text) ≡ whole → text ≡ [] → b ≡ whole
unfolding is_bad_escape
escape_end e b text whole inv is = sym (ap (is_bad_escape e b) (ap chars is ∙ chars-nil)) ∙ inv

-- ---- GLOB

same_closing : (d : ℕ) (cs : List ℕ) → is_bad_bracket (meaning.Closing d) cs ≡ is_bad_bracket (meaning.Closing 0) cs
unfolding is_bad_bracket
same_closing d [] = refl
same_closing d (c ∷ cs) = refl

bracket_turn : (b : Bracket) (c : ℕ) (cs : List ℕ) → is_bad_bracket (bracket_view b) (c ∷ cs) ≡ (is_bad_bracket_here b c || is_bad_bracket (bracket_view (bracket_after b c)) cs)
unfolding is_bad_bracket
bracket_turn Outside c cs = by (c == 91) where
  by : (b : Bool) → (if b then is_bad_bracket meaning.Opened cs else is_bad_bracket meaning.Outside cs) ≡ is_bad_bracket (bracket_view (if b then Opened else Outside)) cs
  by true = refl
  by false = refl
bracket_turn Opened c cs = ap (λ (b : Bool). is_bad_bracket_here Opened c || b) (same_closing c cs)
bracket_turn Closing c cs = refl

pub bracket_bad : (b : Bracket) (c : ℕ) (text cs : List ℕ) (whole bad : Bool) → is_bad_bracket (bracket_view b) text ≡ whole → text ≡ c ∷ cs → bad ≡ is_bad_bracket_here b c → bad ≡ true → true ≡ whole
bracket_bad b c text cs whole bad inv is here so =
    sym (sym inv ∙ (ap (is_bad_bracket (bracket_view b)) is
    ∙ (bracket_turn b c cs ∙ ap (λ (x : Bool). x || is_bad_bracket (bracket_view (bracket_after b c)) cs) (sym here ∙ so))))

pub bracket_more : (b next : Bracket) (c : ℕ) (text cs : List ℕ) (whole bad : Bool) → is_bad_bracket (bracket_view b) text ≡ whole → text ≡ c ∷ cs → bad ≡ is_bad_bracket_here b c → bad ≡ false
    → next ≡ bracket_after b c → is_bad_bracket (bracket_view next) cs ≡ whole
bracket_more b next c text cs whole bad inv is here so after =
    ap (λ (x : Bracket). is_bad_bracket (bracket_view x) cs) after
    ∙ (sym (ap (is_bad_bracket (bracket_view b)) is
    ∙ (bracket_turn b c cs ∙ ap (λ (x : Bool). x || is_bad_bracket (bracket_view (bracket_after b c)) cs) (sym here ∙ so))) ∙ inv)

inside_at_end : (b : Bracket) → is_bad_bracket (bracket_view b) [] ≡ is_inside b
unfolding is_bad_bracket
inside_at_end Outside = refl
inside_at_end Opened = refl
inside_at_end Closing = refl

pub bracket_end : (b : Bracket) (text : List ℕ) (whole last : Bool) → is_bad_bracket (bracket_view b) (chars text) ≡ whole → text ≡ [] → last ≡ is_inside b → last ≡ whole
bracket_end b text whole last inv is inside = inside ∙ (sym (inside_at_end b) ∙ (sym (ap (is_bad_bracket (bracket_view b)) (ap chars is ∙ chars-nil)) ∙ inv))

-- ---- the one character of a text

pub one_is : (text rest : List ℕ) (c : ℕ) → text ≡ c ∷ chars rest → rest ≡ [] → Some c ≡ escape_of (Some text)
one_is text rest c is end = sym (ap (λ (t : List ℕ). escape_of (Some t)) (is ∙ ap (λ (cs : List ℕ). c ∷ cs) (ap chars end ∙ chars-nil)))

pub two_are : (text rest more : List ℕ) (c d : ℕ) → text ≡ c ∷ rest → rest ≡ d ∷ more → None ≡ escape_of (Some text)
two_are text rest more c d is end = sym (ap (λ (t : List ℕ). escape_of (Some t)) (is ∙ ap (λ (cs : List ℕ). c ∷ cs) end))

pub none_is : (text bytes : List ℕ) → chars bytes ≡ text → bytes ≡ [] → None ≡ escape_of (Some text)
none_is text bytes is end = sym (ap (λ (t : List ℕ). escape_of (Some t)) (sym is ∙ (ap chars end ∙ chars-nil)))
