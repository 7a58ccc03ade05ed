-- The shapes of a clean word.
use Rattle.std.proofs.Common.{◌≡◌, ◌∙◌, ℕ, zero, suc, ◌==◌, Bool, true, false, List, [], ◌∷◌, ◌++◌, Option, Some, None, refl, sym, ap, subst, arith}
use Rattle.std.specs.List.{list_all, after_first}
use Rattle.std.specs.Str.{bytes_eq}
use Rattle.std.proofs.lemmas.Bool.Decides.{nat_tests}
use Rattle.clap.specs.Lexer.{long_of, name_and_value, strip_byte}
use Rattle.clap.proofs.CutLemmas.{Lacks, list_any-at, after_first-at}
use Rattle.clap.proofs.LexerLemmas.{name_and_value-at, name_and_value-without}
use Rattle.command_line.specs.Given.{Word, is_value, is_nonempty, dashed, joined}
use Rattle.command_line.specs.Clean.{behind_dashes, is_clean_option, clean_by, are_clean}
use Rattle.command_line.proofs.Turns.{IsPlainWord, plain_word_is}
use Rattle.command_line.proofs.Fresh.{and_left, and_right}

pub data View (w : Word) (ws : List Word) : Type 0 where
  plain : IsPlainWord w → is_value w ≡ true → are_clean ws ≡ true → View w ws
  ending : w ≡ dashed [] → list_all is_nonempty ws ≡ true → View w ws
  alone : (x : Word) → w ≡ dashed x → long_of w ≡ Some (x, None) → bytes_eq w (dashed []) ≡ false → are_clean ws ≡ true → View w ws
  both : (x v : Word) → w ≡ joined x v → long_of w ≡ Some (x, Some v) → bytes_eq w (dashed []) ≡ false → is_value v ≡ true → are_clean ws ≡ true → View w ws

strip_is : (c : ℕ) (w rest : Word) → strip_byte c w ≡ Some rest → w ≡ c ∷ rest
strip_is c [] rest e = cc
strip_is c (x ∷ xs) rest e = by (x == c) refl where
  by : (b : Bool) → (x == c) ≡ b → x ∷ xs ≡ c ∷ rest
  by true is =
      let same : x ≡ c = grind (arith, nat_tests) in
      let more : Some xs ≡ Some rest = rw is at e in
      cc
  by false is = let more : None ≡ Some rest = rw is at e in cc

pub dashes_are : (w rest : Word) → behind_dashes w ≡ Some rest → w ≡ 45 ∷ 45 ∷ rest
dashes_are w rest e = by (strip_byte 45 w) refl where
  by : (o : Option Word) → strip_byte 45 w ≡ o → w ≡ 45 ∷ 45 ∷ rest
  by None is = let bad : None ≡ Some rest = rw is at e in cc
  by (Some u) is =
      let inner : strip_byte 45 u ≡ Some rest = rw is at e in
      strip_is 45 w u is ∙ ap (λ (t : Word). 45 ∷ t) (strip_is 45 u rest inner)

-- cut at the first `=`
pub data Cut (text : Word) : Type 0 where
  uncut : Lacks 61 text → Cut text
  cut : (x v : Word) → text ≡ x ++ 61 ∷ v → Lacks 61 x → Cut text

lacks_nil : Lacks 61 []
lacks_nil = λ i lt. absurd (omega arith)

lacks_cons : (c : ℕ) (cs : Word) → (c == 61) ≡ false → Lacks 61 cs → Lacks 61 (c ∷ cs)
lacks_cons c cs e h zero lt = grind (arith, nat_tests)
lacks_cons c cs e h (suc i) lt = h i (omega arith)

pub cut_of : (text : Word) → Cut text
cut_of [] = uncut lacks_nil
cut_of (c ∷ cs) = by (c == 61) refl (cut_of cs) where
  by : (b : Bool) → (c == 61) ≡ b → Cut cs → Cut (c ∷ cs)
  by true e below = let is : c ≡ 61 = grind (arith, nat_tests) in cut [] cs (ap (λ (n : ℕ). n ∷ cs) is) lacks_nil
  by false e (uncut h) = uncut (lacks_cons c cs e h)
  by false e (cut x v is h) = cut (c ∷ x) v (ap (λ (t : Word). c ∷ t) is) (lacks_cons c x e h)

view_long : (c : ℕ) (cs : Word) (ws : List Word) → Cut (c ∷ cs) → is_clean_option (c ∷ cs) ≡ true → are_clean ws ≡ true → View (45 ∷ 45 ∷ c ∷ cs) ws
view_long c cs ws (uncut h) e below = alone (c ∷ cs) refl (ap Some (name_and_value-without (c ∷ cs) h)) refl below
view_long c cs ws (cut x v is h) e below =
    let clean : is_value v ≡ true = value_of_cut (subst (λ (t : Word). is_clean_option t ≡ true) is e) in
    let long : long_of (45 ∷ 45 ∷ c ∷ cs) ≡ Some (x, Some v) = ap Some (ap name_and_value is ∙ name_and_value-at x v h) in
    both x v (ap (λ (t : Word). 45 ∷ 45 ∷ t) is) long refl clean below
  where
    value_of_cut : is_clean_option (x ++ 61 ∷ v) ≡ true → is_value v ≡ true
    value_of_cut e = let p : is_value (after_first (λ y. y == 61) (x ++ 61 ∷ v)) ≡ true = rw (list_any-at 61 x v) at e in rw (sym (after_first-at 61 x v h)) p

pub view : (w : Word) (ws : List Word) → are_clean (w ∷ ws) ≡ true → View w ws
view w ws e = by (behind_dashes w) refl e where
  by : (o : Option Word) → behind_dashes w ≡ o → clean_by w o ws (are_clean ws) ≡ true → View w ws
  by None is e = plain (plain_word_is w (and_left (is_value w) _ e)) (and_left (is_value w) _ e) (and_right (is_value w) _ e)
  by (Some []) is e = ending (dashes_are w [] is) e
  by (Some (c ∷ cs)) is e =
      subst (λ (u : Word). View u ws) (sym (dashes_are w (c ∷ cs) is)) (view_long c cs ws (cut_of (c ∷ cs)) (and_left (is_clean_option (c ∷ cs)) _ e) (and_right (is_clean_option (c ∷ cs)) _ e))
