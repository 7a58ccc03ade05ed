-- Each text spells some pattern.
use Rattle.std.proofs.Common.{ℕ, zero, suc, ◌≡◌, ◌≢◌, ◌<◌, ◌≤◌, Bool, true, false, List, [], ◌∷◌, ◌++◌, ◌⊎◌, inl, inr, length, refl, sym, ap, subst, nat_eq, arith, eq-eqb}
use Rattle.std.specs.List.{list_all, take_while}
use Rattle.std.proofs.lemmas.Bool.{and_from, eqb-true}
use Rattle.sig_strings.specs.Spells.{is_special, begins_special, is_word_char, HasHole, SpellsFront, Spells}
use Rattle.sig_strings.specs.Spells.SpellsFront.{star, question, escaped, backslash, hole, other}
use Rattle.sig_strings.specs.declared.part.Part.{Part}
use Rattle.sig_strings.specs.declared.part.Part.TheVariants.{Char, One, Run, Hole}
use Rattle.sig_strings.proofs.HoleLemmas.{begins_word, is_filled, NameSoFar, NameSoFar-ends, NameSoFar-other, NameSoFar-empty, NameSoFar-hole}
use Rattle.sig_strings.proofs.ReadingLemmas.{not_special, no_hole_there}
use Rattle.sig_strings.proofs.SpellsLemmas.{front_shorter}

-- the characters of a word at the front of a text, all of them
record Words (text : List ℕ) : Type 0 where
  name : List ℕ
  left : List ℕ
  shape : text ≡ name ++ left
  words : list_all is_word_char name ≡ true
  ends : begins_word left ≡ false

words_more : (c : ℕ) (cs : List ℕ) (b : Bool) → is_word_char c ≡ b → Words cs → Words (c ∷ cs)
words_more c cs true word behind = record {
  name = c ∷ behind.name;
  left = behind.left;
  shape = ap (λ (t : List ℕ). c ∷ t) behind.shape;
  words = and_from (is_word_char c) (list_all is_word_char behind.name) word behind.words;
  ends = behind.ends;
}
words_more c cs false no_word behind = record { name = []; left = c ∷ cs; shape = refl; words = refl; ends = no_word }

words_of : (text : List ℕ) → Words text
words_of [] = record { name = []; left = []; shape = refl; words = refl; ends = refl }
words_of (c ∷ cs) = words_more c cs (is_word_char c) refl (words_of cs)

-- behind a `%`, a placeholder goes on or doesn't
Decided : List ℕ → Type 0
Decided text = ((name : List ℕ) × (rest : List ℕ) × HasHole (37 ∷ text) name rest) ⊎ ((name rest : List ℕ) → HasHole (37 ∷ text) name rest → ⊥)

at_percent : (text left after : List ℕ) (named : Bool) (c : ℕ) → NameSoFar text left named → left ≡ c ∷ after → c ≡ 37 → (b : Bool) → named ≡ b → Decided text
unfolding Decided
at_percent text left after named c so_far front percent true is =
    inl (take_while is_word_char text, after, NameSoFar-hole text left after named c so_far front percent is)
at_percent text left after named c so_far front percent false is =
    inr (NameSoFar-empty text left after named c so_far front percent is)

at_character : (text left after : List ℕ) (named : Bool) (c : ℕ) → NameSoFar text left named → left ≡ c ∷ after → is_word_char c ≡ false
    → (b : Bool) → nat_eq c 37 ≡ b → Decided text
unfolding Decided
at_character text left after named c so_far front no_word true is =
    at_percent text left after named c so_far front (eqb-true c 37 is) named refl
at_character text left after named c so_far front no_word false is =
    inr (NameSoFar-other text left after named c so_far front no_word
    (λ percent. let tested : nat_eq c 37 ≡ true = eq-eqb c 37 percent in cc))

at_left : (text left : List ℕ) (named : Bool) → NameSoFar text left named → begins_word left ≡ false → Decided text
unfolding Decided
at_left text [] named so_far ends = inr (NameSoFar-ends text [] named so_far refl)
at_left text (c ∷ after) named so_far ends = at_character text (c ∷ after) after named c so_far refl ends (nat_eq c 37) refl

decided : (text : List ℕ) → Decided text
decided text =
    let words : Words text = words_of text in
    at_left text words.left (is_filled words.name)
    (record { name = words.name; shape = words.shape; words = words.words; filled = refl }) words.ends

-- some part stands at the front of a text that hasn't ended
SomeFront : Bool → List ℕ → Type 0
SomeFront expand text = (part : Part) × (rest : List ℕ) × SpellsFront expand text part rest

percent_front : (cs : List ℕ) → Decided cs → SomeFront true (37 ∷ cs)
unfolding SomeFront Decided
percent_front cs (inl found) = (Hole found.0, found.1, hole found.0 refl found.2 refl)
percent_front cs (inr none) = (Char 37, cs, other 37 refl refl (λ expands. none) refl)

plain_front : (expand : Bool) (c : ℕ) (cs : List ℕ) → is_special c ≡ false → (b : Bool) → nat_eq c 37 ≡ b → SomeFront expand (c ∷ cs)
unfolding SomeFront
plain_front false c cs plain b is = (Char c, cs, other c refl plain (λ expands. cc) refl)
plain_front true c cs plain true is = subst (λ (d : ℕ). SomeFront true (d ∷ cs)) (sym (eqb-true c 37 is)) (percent_front cs (decided cs))
plain_front true c cs plain false is = (
  Char c,
  cs,
  other c refl plain
      (λ expands. no_hole_there (c ∷ cs) cs c refl (λ percent. let tested : nat_eq c 37 ≡ true = eq-eqb c 37 percent in cc)) refl,
)

escape_front : (expand : Bool) (cs : List ℕ) → (b : Bool) → begins_special cs ≡ b → SomeFront expand (92 ∷ cs)
unfolding SomeFront
escape_front expand cs false is = (Char 92, cs, backslash refl is refl)
escape_front expand [] true is = absurd (cc)
escape_front expand (c ∷ cs) true is = (Char c, cs, escaped c refl is refl)

backslash_front : (expand : Bool) (c : ℕ) (cs : List ℕ) → c ≢ 42 → c ≢ 63 → (b : Bool) → nat_eq c 92 ≡ b → SomeFront expand (c ∷ cs)
backslash_front expand c cs no_star no_question true is =
    subst (λ (d : ℕ). SomeFront expand (d ∷ cs)) (sym (eqb-true c 92 is)) (escape_front expand cs (begins_special cs) refl)
backslash_front expand c cs no_star no_question false is =
    plain_front expand c cs (not_special c no_star no_question (λ same. let tested : nat_eq c 92 ≡ true = eq-eqb c 92 same in cc)) (nat_eq c 37) refl

question_front : (expand : Bool) (c : ℕ) (cs : List ℕ) → c ≢ 42 → (b : Bool) → nat_eq c 63 ≡ b → SomeFront expand (c ∷ cs)
unfolding SomeFront
question_front expand c cs no_star true is = (One, cs, question (ap (λ (d : ℕ). d ∷ cs) (eqb-true c 63 is)) refl)
question_front expand c cs no_star false is =
    backslash_front expand c cs no_star (λ same. let tested : nat_eq c 63 ≡ true = eq-eqb c 63 same in cc) (nat_eq c 92) refl

star_front : (expand : Bool) (c : ℕ) (cs : List ℕ) → (b : Bool) → nat_eq c 42 ≡ b → SomeFront expand (c ∷ cs)
unfolding SomeFront
star_front expand c cs true is = (Run, cs, star (ap (λ (d : ℕ). d ∷ cs) (eqb-true c 42 is)) refl)
star_front expand c cs false is =
    question_front expand c cs (λ same. let tested : nat_eq c 42 ≡ true = eq-eqb c 42 same in cc) (nat_eq c 63) refl

spelled_within : (n : ℕ) (expand : Bool) (text : List ℕ) → length text ≤ n → (parts : List Part) × Spells expand text parts
unfolding SomeFront
spelled_within n expand [] short = ([], refl)
spelled_within zero expand (c ∷ cs) short = absurd (omega (arith, short))
spelled_within (suc n) expand (c ∷ cs) short =
    let front : SomeFront expand (c ∷ cs) = star_front expand c cs (nat_eq c 42) refl in
    let less : length front.1 < length (c ∷ cs) = front_shorter expand (c ∷ cs) front.0 front.1 front.2 in
    let behind : (parts : List Part) × Spells expand front.1 parts = spelled_within n expand front.1 (omega (arith, less, short)) in
    (front.0 ∷ behind.0, (front.1, front.2, behind.1))

pub some_pattern : (expand : Bool) (text : List ℕ) → (parts : List Part) × Spells expand text parts
some_pattern expand text = spelled_within (length text) expand text (omega arith)
