-- A text has the words that are scanned, and no others.
use Rattle.std.proofs.Common.{ℕ, ◌≡◌, ◌≤◌, Bool, true, false, List, [], ◌∷◌, ◌++◌, length, refl, ap, sym, ◌∙◌, subst, arith, append_assoc}
use Rattle.std.specs.Prelude.{◌&&◌, not, Some, None, if◌then◌else◌}
use Rattle.std.specs.declared.option.Option.{Option}
use Rattle.std.specs.Option.{is_some}
use Rattle.std.specs.List.{list_all, list_any}
use Rattle.std.proofs.lemmas.Bool.Decides.{nat_tests}
use Rattle.std.proofs.lemmas.Bool.{and_parts}
use Rattle.sig_conditions.specs.declared.word.Word.{Word}
use Rattle.sig_conditions.specs.declared.word.Sign.{Sign}
use Rattle.sig_conditions.specs.declared.word.Word.TheVariants.{Name, Pattern}
use Rattle.sig_conditions.specs.Words.{ended, is_blank, is_empty, is_identifier, is_run_character, is_star, keyword_in, keywords, name_unless, sign_of, word_of, words, words_from}
use Rattle.sig_conditions.specs.Spelling.{begins_run, AreWords, no_word, blank, sign, run}
use Rattle.sig_conditions.proofs.Scans.{run_goes, run_stops, run_ends, if_true, if_false}

append_nothing : (xs : List ℕ) → xs ++ [] ≡ xs
append_nothing [] = refl
append_nothing (x ∷ xs) = ap (λ (ys : List ℕ). x ∷ ys) (append_nothing xs)

-- a blank is no character of a run
blank_parts : (c : ℕ) → is_blank c ≡ true → is_run_character c ≡ false
blank_parts c h = grind (arith, nat_tests)

-- a run and what stands behind it
run_spelled : (front rest : List ℕ) (ws : List Word) → list_all is_run_character front ≡ true → begins_run rest ≡ false → AreWords rest ws → AreWords (front ++ rest) (ended front ws)
run_spelled [] rest ws a b h = h
run_spelled (c ∷ cs) rest ws a b h = run (c ∷ cs) rest refl (omega arith) a b h

behind_run : (c : ℕ) (cs : List ℕ) (b : Bool) → is_blank c ≡ b → is_run_character c ≡ false → AreWords cs (words_from [] cs)
    → AreWords (c ∷ cs) (if b then words_from [] cs else sign_of c ∷ words_from [] cs)
behind_run c cs true e r h = blank c cs refl e h
behind_run c cs false e r h = sign c cs refl e r h

all_push : (front : List ℕ) (c : ℕ) → list_all is_run_character front ≡ true → is_run_character c ≡ true → list_all is_run_character (front ++ c ∷ []) ≡ true
all_push [] c a r = rw r refl
all_push (d ∷ ds) c a r = both_true (is_run_character d) (list_all is_run_character ds) (list_all is_run_character (ds ++ c ∷ [])) a (all_push ds c) r where
  both_true : (x y z : Bool) → (x && y) ≡ true → (y ≡ true → is_run_character c ≡ true → z ≡ true) → is_run_character c ≡ true → (x && z) ≡ true
  both_true true y z h f g = f h g
  both_true false y z h f g = absurd cc

step_spelled : (front : List ℕ) (c : ℕ) (cs : List ℕ) (b : Bool) → is_run_character c ≡ b → list_all is_run_character front ≡ true
    → ((more : List ℕ) → list_all is_run_character more ≡ true → AreWords (more ++ cs) (words_from more cs)) → AreWords (front ++ c ∷ cs) (words_from front (c ∷ cs))
step_spelled front c cs true r a h =
    subst (λ (ws : List Word). AreWords (front ++ c ∷ cs) ws) (sym (run_goes front cs c r))
    (subst (λ (xs : List ℕ). AreWords xs (words_from (front ++ c ∷ []) cs)) (append_assoc front (c ∷ []) cs) (h (front ++ c ∷ []) (all_push front c a r)))
step_spelled front c cs false r a h =
    subst (λ (ws : List Word). AreWords (front ++ c ∷ cs) ws) (sym (run_stops front cs c r))
    (run_spelled front (c ∷ cs) (if is_blank c then words_from [] cs else sign_of c ∷ words_from [] cs) a r (behind_run c cs (is_blank c) refl r (h [] refl)))

spelled_from : (text front : List ℕ) → list_all is_run_character front ≡ true → AreWords (front ++ text) (words_from front text)
spelled_from [] front a = subst (λ (ws : List Word). AreWords (front ++ []) ws) (sym (run_ends front)) (run_spelled front [] [] a refl (no_word refl))
spelled_from (c ∷ cs) front a = step_spelled front c cs (is_run_character c) refl a (spelled_from cs)

-- a text has its words
pub spelled : (text : List ℕ) → AreWords text (words text)
spelled text = spelled_from text [] refl

-- a run is walked through
through : (front rest before : List ℕ) → list_all is_run_character front ≡ true → words_from before (front ++ rest) ≡ words_from (before ++ front) rest
through [] rest before a = ap (λ (xs : List ℕ). words_from xs rest) (sym (append_nothing before))
through (c ∷ cs) rest before a =
    let p = and_parts (is_run_character c) (list_all is_run_character cs) a in
    run_goes before (cs ++ rest) c p.0
    ∙ (through cs rest (before ++ c ∷ []) p.1 ∙ ap (λ (xs : List ℕ). words_from xs rest) (append_assoc before (c ∷ []) cs))

-- and ends where no character of a run follows
stops_there : (front rest : List ℕ) → begins_run rest ≡ false → words_from front rest ≡ ended front (words_from [] rest)
stops_there front [] b = run_ends front ∙ ap (ended front) (sym (run_ends []))
stops_there front (c ∷ cs) b = run_stops front cs c b ∙ ap (ended front) (sym (run_stops [] cs c b))

word_ended : (front : List ℕ) (ws : List Word) → 1 ≤ length front → ended front ws ≡ word_of front ∷ ws
word_ended [] ws h = absurd (omega (arith, h))
word_ended (c ∷ cs) ws h = refl

blank_skipped : (c : ℕ) (rest : List ℕ) → is_blank c ≡ true → words_from [] (c ∷ rest) ≡ words_from [] rest
blank_skipped c rest b = run_stops [] rest c (blank_parts c b) ∙ if_true (is_blank c) (words_from [] rest) (sign_of c ∷ words_from [] rest) b

sign_kept : (c : ℕ) (rest : List ℕ) → is_blank c ≡ false → is_run_character c ≡ false → words_from [] (c ∷ rest) ≡ sign_of c ∷ words_from [] rest
sign_kept c rest b r = run_stops [] rest c r ∙ if_false (is_blank c) (words_from [] rest) (sign_of c ∷ words_from [] rest) b

-- and no others
pub only_spelled : {text : List ℕ} {ws : List Word} → AreWords text ws → ws ≡ words text
only_spelled (no_word e) = sym (ap words e ∙ run_ends [])
only_spelled (blank c rest e b h) = only_spelled h ∙ (sym (blank_skipped c rest b) ∙ sym (ap words e))
only_spelled (sign c rest e b r h) = ap (λ (ws : List Word). sign_of c ∷ ws) (only_spelled h) ∙ (sym (sign_kept c rest b r) ∙ sym (ap words e))
only_spelled (run front rest e l a b h) =
    ap (λ (ws : List Word). word_of front ∷ ws) (only_spelled h)
    ∙ (sym (word_ended front (words_from [] rest) l)
    ∙ (sym (stops_there front rest b) ∙ (sym (through front rest [] a) ∙ sym (ap words e))))

-- a name alone is one word
named_word : (star : Bool) (found : Option Sign) (name : List ℕ) → not star ≡ true → not (is_some found) ≡ true
    → (if star then Pattern name else name_unless found name) ≡ Name name
named_word true found name a b = absurd cc
named_word false None name a b = refl
named_word false (Some w) name a b = absurd cc

one_word : (name : List ℕ) → list_all is_run_character name ≡ true → 1 ≤ length name → words name ≡ word_of name ∷ []
one_word name a l =
    ap (words_from []) (sym (append_nothing name))
    ∙ (through name [] [] a ∙ (run_ends name ∙ word_ended name [] l))

some_character : (name : List ℕ) → not (is_empty name) ≡ true → 1 ≤ length name
some_character [] h = absurd cc
some_character (c ∷ cs) h = omega arith

pub identifier_word : (name : List ℕ) → is_identifier name ≡ true → words name ≡ Name name ∷ []
identifier_word name h =
    let p = and_parts (not (is_empty name) && list_all is_run_character name && not (list_any is_star name)) (not (is_some (keyword_in keywords name))) h in
    let q = and_parts (not (is_empty name) && list_all is_run_character name) (not (list_any is_star name)) p.0 in
    let r = and_parts (not (is_empty name)) (list_all is_run_character name) q.0 in
    one_word name r.1 (some_character name r.0)
    ∙ ap (λ (w : Word). w ∷ []) (named_word (list_any is_star name) (keyword_in keywords name) name q.1 p.1)
