-- The function gives the one pattern that a text spells.
use Rattle.std.proofs.Common.{◌≡◌, ◌==◌, ◌||◌, ◌&&◌, ℕ, zero, suc, Bool, true, false, if◌then◌else◌, List, [], ◌∷◌, ◌++◌, length, refl, sym, ap, ◌∙◌, subst}
use Rattle.std.specs.Prelude.{Option, Some, None, drop}
use Rattle.std.specs.List.{list_all}
use Rattle.std.proofs.lemmas.Bool.{eqb-true, or_parts, and_parts, and_from}
use Rattle.sig_strings.specs.Spells.{Spells, SpellsFront, HasHole, is_special, is_word_char, is_name, begins_special, star, question, escaped, backslash, hole, other}
use Rattle.sig_strings.specs.declared.part.Part.{Part}
use Rattle.sig_strings.specs.declared.part.Part.TheVariants.{Char, One, Run, Hole}
use Rattle.modifier_values.specs.Parts.{with_first, word_to_percent, percent_front, backslash_front, front_of, parts_behind, parts_of}

-- ---- words before a percent sign

-- a percent sign is no character of a word
no_percent : (c : ℕ) → is_word_char c ≡ true → (c == 37) ≡ false
no_percent c word = by (c == 37) refl
  where
    by : (b : Bool) → (c == 37) ≡ b → b ≡ false
    by false is = refl
    by true is = let low : is_word_char 37 ≡ true = subst (λ (d : ℕ). is_word_char d ≡ true) (eqb-true c 37 is) word in absurd cc

word_found : (name rest : List ℕ) → list_all is_word_char name ≡ true → word_to_percent (name ++ 37 ∷ rest) ≡ Some name
word_found [] rest words = refl
word_found (c ∷ cs) rest words =
    let both = and_parts (is_word_char c) (list_all is_word_char cs) words in
    let here : word_to_percent (c ∷ (cs ++ 37 ∷ rest)) ≡ with_first c (word_to_percent (cs ++ 37 ∷ rest)) = rw (no_percent c both.0, both.0) refl in
    here ∙ ap (with_first c) (word_found cs rest both.1)

-- a word and a percent sign stand there
record IsWord (text word : List ℕ) : Type 0 where
  rest : List ℕ
  shape : text ≡ word ++ 37 ∷ rest
  words : list_all is_word_char word ≡ true

word_longer : (c : ℕ) (cs word : List ℕ) (o : Option (List ℕ)) → is_word_char c ≡ true → ((found : List ℕ) → o ≡ Some found → IsWord cs found)
    → with_first c o ≡ Some word → IsWord (c ∷ cs) word
word_longer c cs word None is behind h = absurd cc
word_longer c cs word (Some found) is behind h =
    let more : IsWord cs found = behind found refl in
    let same : c ∷ found ≡ word = cc in
    subst (IsWord (c ∷ cs)) same (record {
      rest = more.rest;
      shape = ap (λ (t : List ℕ). c ∷ t) more.shape;
      words = and_from (is_word_char c) (list_all is_word_char found) is more.words;
    })

word_there : (text word : List ℕ) → word_to_percent text ≡ Some word → IsWord text word
word_there [] word h = absurd cc
word_there (c ∷ cs) word h = by (λ found there. word_there cs found there) (c == 37) (is_word_char c) refl refl h
  where
    by : ((found : List ℕ) → word_to_percent cs ≡ Some found → IsWord cs found) → (p w : Bool) → (c == 37) ≡ p → is_word_char c ≡ w
        → (if p then Some [] else (if w then with_first c (word_to_percent cs) else None)) ≡ Some word → IsWord (c ∷ cs) word
    by more true w is isw k =
        let same : [] ≡ word = cc in
        subst (IsWord (c ∷ cs)) same (record { rest = cs; shape = ap (λ (d : ℕ). d ∷ cs) (eqb-true c 37 is); words = refl })
    by more false true is isw k = word_longer c cs word (word_to_percent cs) isw more k
    by more false false is isw k = absurd cc

-- ---- the first part

-- the part before this text and what it takes of it decide
first_part : (expand : Bool) (c n : ℕ) (cs : List ℕ) (p : Part) → front_of expand c cs ≡ (p, n) → parts_of expand (c ∷ cs) ≡ p ∷ parts_behind expand n cs
first_part expand c n cs p is = ap (λ (f : Part × ℕ). f.0 ∷ parts_behind expand f.1 cs) is

passed_over : (expand : Bool) (xs ys : List ℕ) → parts_behind expand (suc (length xs)) (xs ++ 37 ∷ ys) ≡ parts_of expand ys
passed_over expand [] [] = refl
passed_over expand [] (y ∷ ys) = refl
passed_over expand (x ∷ xs) ys = passed_over expand xs ys

percent_hole : (name rest : List ℕ) → is_name name ≡ true → percent_front (Some name) ≡ (Hole name, suc (length name))
percent_hole [] rest named = absurd cc
percent_hole (c ∷ cs) rest named = refl

name_words : (name : List ℕ) → is_name name ≡ true → list_all is_word_char name ≡ true
name_words [] named = refl
name_words (c ∷ cs) named = named

hole_first : (name rest : List ℕ) → is_name name ≡ true → parts_of true (37 ∷ (name ++ 37 ∷ rest)) ≡ Hole name ∷ parts_of true rest
hole_first name rest named =
    first_part true 37 (suc (length name)) (name ++ 37 ∷ rest) (Hole name)
    (ap percent_front (word_found name rest (name_words name named)) ∙ percent_hole name rest named)
    ∙ ap (λ (ps : List Part). Hole name ∷ ps) (passed_over true name rest)

-- where no placeholder begins
percent_plain : (c : ℕ) (cs : List ℕ) (o : Option (List ℕ)) → c ≡ 37 → word_to_percent cs ≡ o → ((name after : List ℕ) → HasHole (c ∷ cs) name after → ⊥)
    → percent_front o ≡ (Char c, 0)
percent_plain c cs None is found none = ap (λ (d : ℕ). (Char d, 0)) (sym is)
percent_plain c cs (Some []) is found none = ap (λ (d : ℕ). (Char d, 0)) (sym is)
percent_plain c cs (Some (x ∷ xs)) is found none =
    let there : IsWord cs (x ∷ xs) = word_there cs (x ∷ xs) found in
    absurd (none (x ∷ xs) there.rest (record {
      named = there.words;
      shape = ap (λ (d : ℕ). d ∷ cs) is ∙ ap (λ (t : List ℕ). 37 ∷ t) there.shape;
    }))

other_front : (expand : Bool) (c : ℕ) (cs : List ℕ) → is_special c ≡ false → (expand ≡ true → (name after : List ℕ) → HasHole (c ∷ cs) name after → ⊥)
    → front_of expand c cs ≡ (Char c, 0)
other_front expand c cs plain none =
    let first = or_parts (c == 42 || c == 63) (c == 92) plain in
    let second = or_parts (c == 42) (c == 63) first.0 in
    let here : front_of expand c cs ≡ (if expand && c == 37 then percent_front (word_to_percent cs) else (Char c, 0)) =
    rw (second.0, second.1, first.1) refl in
    here ∙ by expand (c == 37) refl none
  where
    by : (e p : Bool) → (c == 37) ≡ p → (e ≡ true → (name after : List ℕ) → HasHole (c ∷ cs) name after → ⊥)
        → (if e && p then percent_front (word_to_percent cs) else (Char c, 0)) ≡ (Char c, 0)
    by false p is none = refl
    by true false is none = refl
    by true true is none = percent_plain c cs (word_to_percent cs) (eqb-true c 37 is) refl (none refl)

bare_front : (expand : Bool) (rest : List ℕ) → begins_special rest ≡ false → front_of expand 92 rest ≡ (Char 92, 0)
bare_front expand [] h = refl
bare_front expand (c ∷ cs) h = rw h refl

escaped_front : (expand : Bool) (c : ℕ) (rest : List ℕ) → is_special c ≡ true → front_of expand 92 (c ∷ rest) ≡ (Char c, 1)
escaped_front expand c rest h = rw h refl

next_passed : (expand : Bool) (c : ℕ) (rest : List ℕ) → parts_behind expand 1 (c ∷ rest) ≡ parts_of expand rest
next_passed expand c rest = refl

-- the first part, and what the text spells behind it
step : (expand : Bool) (t rest : List ℕ) (p : Part) → SpellsFront expand t p rest → parts_of expand t ≡ p ∷ parts_of expand rest
step expand t rest p (star e q) = ap (parts_of expand) e ∙ ap (λ (x : Part). x ∷ parts_of expand rest) (sym q)
step expand t rest p (question e q) = ap (parts_of expand) e ∙ ap (λ (x : Part). x ∷ parts_of expand rest) (sym q)
step expand t rest p (escaped c e s q) =
    ap (parts_of expand) e ∙ first_part expand 92 1 (c ∷ rest) (Char c) (escaped_front expand c rest s)
    ∙ ap (λ (ps : List Part). Char c ∷ ps) (next_passed expand c rest) ∙ ap (λ (x : Part). x ∷ parts_of expand rest) (sym q)
step expand t rest p (backslash e b q) =
    ap (parts_of expand) e ∙ first_part expand 92 0 rest (Char 92) (bare_front expand rest b) ∙ ap (λ (x : Part). x ∷ parts_of expand rest) (sym q)
step expand t rest p (hole name e h q) =
    ap (λ (b : Bool). parts_of b t) e ∙ ap (parts_of true) h.shape ∙ hole_first name rest h.named
    ∙ ap (λ (x : Part). x ∷ parts_of true rest) (sym q) ∙ ap (λ (b : Bool). p ∷ parts_of b rest) (sym e)
step expand t rest p (other c e s n q) =
    let none : expand ≡ true → (name after : List ℕ) → HasHole (c ∷ rest) name after → ⊥ =
    λ is name after found. n is name after (subst (λ (u : List ℕ). HasHole u name after) (sym e) found) in
    ap (parts_of expand) e ∙ first_part expand c 0 rest (Char c) (other_front expand c rest s none) ∙ ap (λ (x : Part). x ∷ parts_of expand rest) (sym q)

pub spelled_is : (expand : Bool) (ps : List Part) (t : List ℕ) → Spells expand t ps → ps ≡ parts_of expand t
spelled_is expand [] t h = sym (ap (parts_of expand) h)
spelled_is expand (p ∷ ps) t h = ap (λ (qs : List Part). p ∷ qs) (spelled_is expand ps h.0 h.2) ∙ sym (step expand t h.0 p h.1)

-- ---- it spells the text

-- the part and what it takes stand at the front
abbrev IsFront : Bool → ℕ → List ℕ → Part × ℕ → Type 0
IsFront expand c cs front = SpellsFront expand (c ∷ cs) front.0 (drop front.1 cs)

behind_word : (xs ys : List ℕ) → drop (suc (length xs)) (xs ++ 37 ∷ ys) ≡ ys
behind_word [] ys = refl
behind_word (x ∷ xs) ys = behind_word xs ys

-- behind a percent sign a placeholder's word stands, where one begins there
hole_word : (cs name after : List ℕ) → HasHole (37 ∷ cs) name after → word_to_percent cs ≡ Some name
hole_word cs name after found =
    let whole : 37 ∷ cs ≡ 37 ∷ (name ++ 37 ∷ after) = found.shape in
    let behind : cs ≡ name ++ 37 ∷ after = cc in
    ap word_to_percent behind ∙ word_found name after (name_words name found.named)

none_named : (cs name after : List ℕ) → word_to_percent cs ≡ Some [] → HasHole (37 ∷ cs) name after → ⊥
none_named cs [] after is found = let named : false ≡ true = found.named in cc
none_named cs (x ∷ xs) after is found = let same : Some [] ≡ Some (x ∷ xs) = sym is ∙ hole_word cs (x ∷ xs) after found in cc

none_ended : (cs name after : List ℕ) → word_to_percent cs ≡ None → HasHole (37 ∷ cs) name after → ⊥
none_ended cs name after is found = let same : None ≡ Some name = sym is ∙ hole_word cs name after found in cc

percent_is_front : (cs : List ℕ) (o : Option (List ℕ)) → word_to_percent cs ≡ o → IsFront true 37 cs (percent_front o)
percent_is_front cs None found = other 37 refl refl (λ is name after. none_ended cs name after found) refl
percent_is_front cs (Some []) found = other 37 refl refl (λ is name after. none_named cs name after found) refl
percent_is_front cs (Some (x ∷ xs)) found =
    let there : IsWord cs (x ∷ xs) = word_there cs (x ∷ xs) found in
    let rest : drop (suc (length (x ∷ xs))) cs ≡ there.rest = ap (drop (suc (length (x ∷ xs)))) there.shape ∙ behind_word (x ∷ xs) there.rest in
    hole (x ∷ xs) refl (record {
      named = there.words;
      shape = ap (λ (t : List ℕ). 37 ∷ t) (there.shape ∙ ap (λ (t : List ℕ). (x ∷ xs) ++ 37 ∷ t) (sym rest));
    }) refl

slash_is_front : (expand : Bool) (cs : List ℕ) → IsFront expand 92 cs (backslash_front cs)
slash_is_front expand [] = backslash refl refl refl
slash_is_front expand (c ∷ cs) = by (is_special c) refl
  where
    by : (s : Bool) → is_special c ≡ s → IsFront expand 92 (c ∷ cs) (if s then (Char c, 1) else (Char 92, 0))
    by true is = escaped c refl is refl
    by false is = backslash refl is refl

no_sign : (c : ℕ) (cs name after : List ℕ) → (c == 37) ≡ false → HasHole (c ∷ cs) name after → ⊥
no_sign c cs name after is found =
    let whole : c ∷ cs ≡ 37 ∷ (name ++ 37 ∷ after) = found.shape in
    let sign : c ≡ 37 = cc in
    let tested : (37 == 37) ≡ false = subst (λ (d : ℕ). (d == 37) ≡ false) sign is in cc

plain_is_front : (expand : Bool) (c : ℕ) (cs : List ℕ) → is_special c ≡ false → (p : Bool) → (c == 37) ≡ p
    → IsFront expand c cs (if expand && p then percent_front (word_to_percent cs) else (Char c, 0))
plain_is_front false c cs plain p is = other c refl plain (λ e. absurd cc) refl
plain_is_front true c cs plain false is = other c refl plain (λ e name after. no_sign c cs name after is) refl
plain_is_front true c cs plain true is =
    subst (λ (d : ℕ). IsFront true d cs (percent_front (word_to_percent cs))) (sym (eqb-true c 37 is)) (percent_is_front cs (word_to_percent cs) refl)

by_signs : (expand : Bool) (c : ℕ) (cs : List ℕ) (s q b : Bool) → (c == 42) ≡ s → (c == 63) ≡ q → (c == 92) ≡ b
    → IsFront expand c cs (if s then (Run, 0) else (if q then (One, 0) else (if b then backslash_front cs
    else (if expand && c == 37 then percent_front (word_to_percent cs) else (Char c, 0)))))
by_signs expand c cs true q b es eq eb = star (ap (λ (d : ℕ). d ∷ cs) (eqb-true c 42 es)) refl
by_signs expand c cs false true b es eq eb = question (ap (λ (d : ℕ). d ∷ cs) (eqb-true c 63 eq)) refl
by_signs expand c cs false false true es eq eb =
    subst (λ (d : ℕ). IsFront expand d cs (backslash_front cs)) (sym (eqb-true c 92 eb)) (slash_is_front expand cs)
by_signs expand c cs false false false es eq eb =
    let plain : is_special c ≡ false = rw (es, eq, eb) refl in plain_is_front expand c cs plain (c == 37) refl

behind_spell : (expand : Bool) (n : ℕ) (t : List ℕ) → Spells expand (drop n t) (parts_behind expand n t)
behind_spell expand zero [] = refl
behind_spell expand (suc n) [] = refl
behind_spell expand (suc n) (c ∷ cs) = behind_spell expand n cs
behind_spell expand zero (c ∷ cs) =
    let front : Part × ℕ = front_of expand c cs in
    (drop front.1 cs, by_signs expand c cs (c == 42) (c == 63) (c == 92) refl refl refl, behind_spell expand front.1 cs)

pub parts_spell : (expand : Bool) (t : List ℕ) → Spells expand t (parts_of expand t)
parts_spell expand t = behind_spell expand 0 t
