-- The tokens of a text stand one behind another.
use Rattle.std.proofs.Common.{ℕ, suc, ◌≡◌, refl, sym, ◌∙◌, Bool, true, false, ◌||◌, List, [], ◌∷◌, ◌++◌, arith, subst, ◌⊎◌, inl, inr}
use Rattle.std.specs.Prelude.{Option, Some, None, ◌==◌, if◌then◌else◌, ⊤}
use Rattle.event_schema.specs.Lists.{EachOf}
use Rattle.query_tokens.specs.Places.{At, origin, after}
use Rattle.query_tokens.specs.Tokens.{places}
use Rattle.sql_lang.specs.Tokens.{Op, Sort, Token, is_blank, is_run_char, begins_sign, long_sign, sign_of, sign_turn, run_sort, quoted_sort, Mode, Outside, Whole, InRun, InQuotes, AfterQuotes, InSign, start, Turn, goes_on, ends, turn, last, scan, tokens}
use Rattle.sql_lang.specs.Rising.{IsBefore, AreRising}

abbrev IsAtLeast : At → At → Type 0
IsAtLeast p q = (p ≡ q) ⊎ IsBefore p q

before_both : (p q r : At) → IsBefore p q → IsBefore q r → IsBefore p r
before_both p q r (inl a) (inl b) = inl (omega arith)
before_both p q r (inl a) (inr b) = let same = b.0 in inl (omega arith)
before_both p q r (inr a) (inl b) = let same = a.0 in inl (omega arith)
before_both p q r (inr a) (inr b) = let first = a.1 in let second = b.1 in inr (a.0 ∙ b.0, omega arith)

before_then : (p q r : At) → IsBefore p q → IsAtLeast q r → IsBefore p r
before_then p q r a (inl same) = subst (IsBefore p) same a
before_then p q r a (inr b) = before_both p q r a b

least_then : (p q r : At) → IsAtLeast p q → IsAtLeast q r → IsAtLeast p r
least_then p q r (inl same) b = subst (λ (o : At). IsAtLeast o r) (sym same) b
least_then p q r (inr a) b = inr (before_then p q r a b)

goes_behind : (p : At) (c : ℕ) → IsBefore p (after p c)
goes_behind p c = by (c == 10) where
  by : (b : Bool) → IsBefore p (if b then record { line = suc p.line; column = 1 } else record { line = p.line; column = suc p.column })
  by true = inl (omega arith)
  by false = inr (refl, omega arith)

-- ---- modes

-- where the next token begins at the earliest, if the next character stands at p
abbrev begun : Mode → At → At
begun Outside p = p
begun (Whole s q) p = q
begun (InRun w q) p = q
begun (InQuotes quote w q) p = q
begun (AfterQuotes quote w q) p = q
begun (InSign c q) p = q

abbrev Begins : Mode → At → Type 0
Begins Outside p = ⊤
Begins (Whole s q) p = IsBefore q p
Begins (InRun w q) p = IsBefore q p
Begins (InQuotes quote w q) p = IsBefore q p
Begins (AfterQuotes quote w q) p = IsBefore q p
Begins (InSign c q) p = IsBefore q p

abbrev Starts : At → At → Mode → Type 0
Starts p behind m = Begins m behind × IsAtLeast p (begun m behind)

starts : (p : At) (c : ℕ) → Starts p (after p c) (start p c)
starts p c = by (is_blank c) (c == 34 || c == 39) (is_run_char c || c == 45) (begins_sign c) where
  by : (a b d e : Bool) → Starts p (after p c) (if a then Outside else if b then InQuotes c [] p else if d then InRun (c ∷ []) p else if e then InSign c p else Whole (sign_of c) p)
  by true b d e = (tt, inr (goes_behind p c))
  by false true d e = (goes_behind p c, inl refl)
  by false false true e = (goes_behind p c, inl refl)
  by false false false true = (goes_behind p c, inl refl)
  by false false false false = (goes_behind p c, inl refl)

-- ---- turns

-- no token ends, or the one that began there
abbrev Ended : At → At → List Token → Type 0
Ended from upto [] = IsAtLeast from upto
Ended from upto (t ∷ ts) = (t.place ≡ from) × IsBefore from upto × (ts ≡ [])

abbrev Turned : At → At → Turn → Type 0
Turned from behind t = Begins t.mode behind × Ended from (begun t.mode behind) t.ended

goes_started : (p : At) (c : ℕ) → Turned p (after p c) (goes_on (start p c))
goes_started p c = starts p c

ends_started : (s : Sort) (q p : At) (c : ℕ) → IsBefore q p → Turned q (after p c) (ends s q (start p c))
ends_started s q p c h = let all = starts p c in (all.0, (refl, before_then q p (begun (start p c) (after p c)) h all.1, refl))

turned : (m : Mode) (p : At) (c : ℕ) → Begins m p → Turned (begun m p) (after p c) (turn m p c)
turned Outside p c h = goes_started p c
turned (Whole s q) p c h = ends_started s q p c h
turned (InRun w q) p c h = by (is_run_char c) where
  by : (b : Bool) → Turned q (after p c) (if b then goes_on (InRun (w ++ c ∷ []) q) else ends (run_sort w) q (start p c))
  by true = (before_both q p (after p c) h (goes_behind p c), inl refl)
  by false = ends_started (run_sort w) q p c h
turned (InQuotes quote w q) p c h = by (c == quote) where
  by : (b : Bool) → Turned q (after p c) (if b then goes_on (AfterQuotes quote w q) else goes_on (InQuotes quote (w ++ c ∷ []) q))
  by true = (before_both q p (after p c) h (goes_behind p c), inl refl)
  by false = (before_both q p (after p c) h (goes_behind p c), inl refl)
turned (AfterQuotes quote w q) p c h = by (c == quote) where
  by : (b : Bool) → Turned q (after p c) (if b then goes_on (InQuotes quote (w ++ quote ∷ []) q) else ends (quoted_sort quote w) q (start p c))
  by true = (before_both q p (after p c) h (goes_behind p c), inl refl)
  by false = ends_started (quoted_sort quote w) q p c h
turned (InSign s q) p c h = by (long_sign s c) where
  by : (o : Option Op) → Turned q (after p c) (sign_turn o s q (start p c))
  by (Some op) = (tt, (refl, before_both q p (after p c) h (goes_behind p c), refl))
  by None = ends_started (sign_of s) q p c h

-- ---- texts

abbrev From : At → List At → Type 0
From p ps = EachOf (IsAtLeast p) ps × AreRising ps

each_later : (p q : At) (ps : List At) → IsAtLeast p q → EachOf (IsAtLeast q) ps → EachOf (IsAtLeast p) ps
each_later p q [] h all = tt
each_later p q (r ∷ ps) h all = (least_then p q r h all.0, each_later p q ps h all.1)

each_behind : (p q : At) (ps : List At) → IsBefore p q → EachOf (IsAtLeast q) ps → EachOf (IsBefore p) ps
each_behind p q [] h all = tt
each_behind p q (r ∷ ps) h all = (before_then p q r h all.0, each_behind p q ps h all.1)

from_ended : (p q : At) (ts rest : List Token) → Ended p q ts → From q (places rest) → From p (places (ts ++ rest))
from_ended p q [] rest h all = (each_later p q (places rest) h all.0, all.1)
from_ended p q (t ∷ ts) rest h all =
    let P : List Token → Type 0 = λ us. From p (places (t ∷ (us ++ rest))) in
    let Q : At → Type 0 = λ o. EachOf (IsAtLeast p) (o ∷ places rest) × (EachOf (IsBefore o) (places rest) × AreRising (places rest)) in
    let alone : From p (places (t ∷ rest))
    = subst Q (sym h.0) ((inl refl, each_later p q (places rest) (inr h.1) all.0), (each_behind p q (places rest) h.1 all.0, all.1)) in
    subst P (sym h.2) alone

from_last : (m : Mode) (p : At) → From (begun m p) (places (last m))
from_last Outside p = (tt, tt)
from_last (Whole s q) p = ((inl refl, tt), (tt, tt))
from_last (InRun w q) p = ((inl refl, tt), (tt, tt))
from_last (InQuotes quote w q) p = ((inl refl, tt), (tt, tt))
from_last (AfterQuotes quote w q) p = ((inl refl, tt), (tt, tt))
from_last (InSign c q) p = ((inl refl, tt), (tt, tt))

from_scan : (m : Mode) (p : At) (cs : List ℕ) → Begins m p → From (begun m p) (places (scan m p cs))
unfolding scan
from_scan m p [] h = from_last m p
from_scan m p (c ∷ cs) h =
    let all = turned m p c h in
    from_ended (begun m p) (begun (turn m p c).mode (after p c)) (turn m p c).ended (scan (turn m p c).mode (after p c) cs) all.1
    (from_scan (turn m p c).mode (after p c) cs all.0)

pub places_rise_of : (cs : List ℕ) → AreRising (places (tokens cs))
unfolding tokens
places_rise_of cs = (from_scan Outside origin cs tt).1

pub not_before_itself : (p : At) → IsBefore p p → ⊥
not_before_itself p (inl h) = absurd (omega (arith, h))
not_before_itself p (inr h) = absurd (omega (arith, h.1))
