-- Where a placeholder's name ends.
use Rattle.std.proofs.Common.{ℕ, ◌≡◌, ◌≢◌, Bool, true, false, cond, List, [], ◌∷◌, ◌++◌, refl, sym, ◌∙◌, ap, subst, append_assoc, append-nil}
use Rattle.std.specs.List.{list_all, take_while}
use Rattle.std.proofs.lemmas.List.Sums.{take_while-cons}
use Rattle.std.proofs.lemmas.Bool.{and_parts, and_from}
use Rattle.sig_strings.specs.Spells.{is_word_char, is_name, HasHole}

abbrev pub begins_word : List ℕ → Bool
begins_word [] = false
begins_word (c ∷ cs) = is_word_char c

abbrev pub is_filled : List ℕ → Bool
is_filled [] = false
is_filled (c ∷ cs) = true

word_and_end : (c : ℕ) (cs rest text : List ℕ) → text ≡ c ∷ rest → list_all is_word_char (c ∷ cs) ≡ true → begins_word text ≡ false → ⊥
word_and_end c cs rest text same words ends =
    let word : is_word_char c ≡ true = (and_parts (is_word_char c) (list_all is_word_char cs) words).0 in
    let no_word : is_word_char c ≡ false = subst (λ (t : List ℕ). begins_word t ≡ false) same ends in
    cc

-- where the word's characters at the front end is determined
pub words_same : (xs ys left right : List ℕ) → xs ++ left ≡ ys ++ right
    → list_all is_word_char xs ≡ true → list_all is_word_char ys ≡ true → begins_word left ≡ false → begins_word right ≡ false
    → (xs ≡ ys) × (left ≡ right)
words_same [] [] left right same _ _ _ _ = (refl, same)
words_same [] (y ∷ ys) left right same _ words ends _ = absurd (word_and_end y ys (ys ++ right) left same words ends)
words_same (x ∷ xs) [] left right same words _ _ ends = absurd (word_and_end x xs (xs ++ left) right (sym same) words ends)
words_same (x ∷ xs) (y ∷ ys) left right same words words' ends ends' =
    let whole : x ∷ (xs ++ left) ≡ y ∷ (ys ++ right) = same in
    let heads : x ≡ y = cc in
    let tails : xs ++ left ≡ ys ++ right = cc in
    let both : _ = words_same xs ys left right tails
    (and_parts (is_word_char x) (list_all is_word_char xs) words).1
    (and_parts (is_word_char y) (list_all is_word_char ys) words').1 ends ends' in
    let first : xs ≡ ys = both.0 in
    (cc, both.1)

-- they are the name
pub take_while-words : (name rest : List ℕ) → list_all is_word_char name ≡ true → begins_word rest ≡ false
    → take_while is_word_char (name ++ rest) ≡ name
take_while-words [] [] _ _ = refl
take_while-words [] (c ∷ cs) _ ends =
    take_while-cons is_word_char c cs ∙ ap (λ (b : Bool). cond b (c ∷ take_while is_word_char cs) []) ends
take_while-words (x ∷ xs) rest words ends =
    let parts : _ = and_parts (is_word_char x) (list_all is_word_char xs) words in
    take_while-cons is_word_char x (xs ++ rest)
    ∙ (ap (λ (b : Bool). cond b (x ∷ take_while is_word_char (xs ++ rest)) []) parts.0
    ∙ ap (λ (t : List ℕ). x ∷ t) (take_while-words xs rest parts.1 ends))

list_all-more : (xs : List ℕ) (c : ℕ) → list_all is_word_char xs ≡ true → is_word_char c ≡ true → list_all is_word_char (xs ++ c ∷ []) ≡ true
list_all-more [] c _ word = and_from (is_word_char c) true word refl
list_all-more (x ∷ xs) c words word =
    let parts : _ = and_parts (is_word_char x) (list_all is_word_char xs) words in
    and_from (is_word_char x) (list_all is_word_char (xs ++ c ∷ [])) parts.0 (list_all-more xs c parts.1 word)

is_filled-more : (xs : List ℕ) (c : ℕ) → true ≡ is_filled (xs ++ c ∷ [])
is_filled-more [] c = refl
is_filled-more (x ∷ xs) c = refl

is_name-from : (name : List ℕ) → true ≡ is_filled name → list_all is_word_char name ≡ true → is_name name ≡ true
is_name-from [] filled words = cc
is_name-from (c ∷ cs) filled words = words

pub is_name-words : (name : List ℕ) → is_name name ≡ true → list_all is_word_char name ≡ true
is_name-words [] named = refl
is_name-words (c ∷ cs) named = named

is_name-filled : (name : List ℕ) → is_name name ≡ true → false ≡ is_filled name → ⊥
is_name-filled [] named filled = let e : false ≡ true = named in cc
is_name-filled (c ∷ cs) named filled = let e : false ≡ true = filled in cc

-- what was read behind a `%`: only characters of a word, of which there are some where `named` says so
pub record NameSoFar (text left : List ℕ) (named : Bool) : Type 0 where
  pub name : List ℕ
  pub shape : text ≡ name ++ left
  pub words : list_all is_word_char name ≡ true
  pub filled : named ≡ is_filled name

pub NameSoFar-start : (text : List ℕ) → NameSoFar text text false
NameSoFar-start text = record { name = []; shape = refl; words = refl; filled = refl }

pub NameSoFar-next : (text left rest : List ℕ) (named : Bool) (c : ℕ) → NameSoFar text left named → left ≡ c ∷ rest → is_word_char c ≡ true
    → NameSoFar text rest true
NameSoFar-next text left rest named c so_far front word = record {
  name = so_far.name ++ c ∷ [];
  shape = so_far.shape ∙ (ap (λ (t : List ℕ). so_far.name ++ t) front ∙ sym (append_assoc so_far.name (c ∷ []) rest));
  words = list_all-more so_far.name c so_far.words word;
  filled = is_filled-more so_far.name c;
}

-- a placeholder that begins there has that name, and its `%` stands next
hole_here : (text left : List ℕ) (named : Bool) (name rest : List ℕ) → NameSoFar text left named → begins_word left ≡ false
    → HasHole (37 ∷ text) name rest → (so_far : List ℕ) × (named ≡ is_filled so_far) × (is_name so_far ≡ true) × (left ≡ 37 ∷ rest)
hole_here text left named name rest so_far ends found =
    let whole : 37 ∷ text ≡ 37 ∷ (name ++ 37 ∷ rest) = found.shape in
    let behind : text ≡ name ++ 37 ∷ rest = cc in
    let both : _ = words_same so_far.name name left (37 ∷ rest) (sym so_far.shape ∙ behind) so_far.words (is_name-words name found.named) ends refl in
    (so_far.name, so_far.filled, subst (λ (t : List ℕ). is_name t ≡ true) (sym both.0) found.named, both.1)

-- no placeholder begins there: the text ends ..
pub NameSoFar-ends : (text left : List ℕ) (named : Bool) → NameSoFar text left named → left ≡ []
    → (name rest : List ℕ) → HasHole (37 ∷ text) name rest → ⊥
NameSoFar-ends text left named so_far empty name rest found =
    let here : _ = hole_here text left named name rest so_far (ap begins_word empty) found in
    let next : left ≡ 37 ∷ rest = here.3 in
    cc

-- .. or another character stands there ..
pub NameSoFar-other : (text left after : List ℕ) (named : Bool) (c : ℕ) → NameSoFar text left named → left ≡ c ∷ after
    → is_word_char c ≡ false → c ≢ 37 → (name rest : List ℕ) → HasHole (37 ∷ text) name rest → ⊥
NameSoFar-other text left after named c so_far front no_word differs name rest found =
    let here : _ = hole_here text left named name rest so_far (ap begins_word front ∙ no_word) found in
    let next : left ≡ 37 ∷ rest = here.3 in
    differs (cc)

-- .. or the name is empty
pub NameSoFar-empty : (text left after : List ℕ) (named : Bool) (c : ℕ) → NameSoFar text left named → left ≡ c ∷ after → c ≡ 37
    → named ≡ false → (name rest : List ℕ) → HasHole (37 ∷ text) name rest → ⊥
NameSoFar-empty text left after named c so_far front percent unnamed name rest found =
    let no_word : begins_word left ≡ false = ap begins_word front ∙ ap is_word_char percent in
    let here : _ = hole_here text left named name rest so_far no_word found in
    is_name-filled here.0 here.2 (sym unnamed ∙ here.1)

-- the name has ended
pub NameSoFar-hole : (text left after : List ℕ) (named : Bool) (c : ℕ) → NameSoFar text left named → left ≡ c ∷ after → c ≡ 37
    → named ≡ true → HasHole (37 ∷ text) (take_while is_word_char text) after
NameSoFar-hole text left after named c so_far front percent is_named =
    let next : left ≡ 37 ∷ after = front ∙ ap (λ (d : ℕ). d ∷ after) percent in
    let behind : text ≡ so_far.name ++ 37 ∷ after = so_far.shape ∙ ap (λ (t : List ℕ). so_far.name ++ t) next in
    let word : take_while is_word_char text ≡ so_far.name =
    ap (λ (t : List ℕ). take_while is_word_char t) behind ∙ take_while-words so_far.name (37 ∷ after) so_far.words refl in
    record {
      named = subst (λ (t : List ℕ). is_name t ≡ true) (sym word) (is_name-from so_far.name (sym is_named ∙ so_far.filled) so_far.words);
      shape = ap (λ (t : List ℕ). 37 ∷ t) (behind ∙ ap (λ (t : List ℕ). t ++ 37 ∷ after) (sym word));
    }

-- the name is read where its characters end
pub name_ends : (name rest whole : List ℕ) → name ++ take_while is_word_char rest ≡ whole → begins_word rest ≡ false → name ≡ whole
name_ends name rest whole so_far ends =
    sym (append-nil name) ∙ (ap (λ (t : List ℕ). name ++ t) (sym (take_while-words [] rest refl ends)) ∙ so_far)
