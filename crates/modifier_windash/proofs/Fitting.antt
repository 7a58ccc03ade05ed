-- Choices of dashes.
use Rattle.std.proofs.Common.{◌≡◌, ◌⊎◌, ℕ, ◌+◌, ◌<◌, ◌≤◌, Bool, true, false, nat_le, ◌||◌, ◌==◌, List, [], ◌∷◌, ◌++◌, refl, sym, ap, ◌∙◌, arith, inl, inr, eq-eqb}
use Rattle.std.specs.List.{flat_map}
use Rattle.std.proofs.lemmas.Bool.{eqb-true, le-leb, lt-leb, cases_lt}
use Rattle.matching.specs.Suffixes.{SuffixHolds, CharThen}
use Rattle.matching.specs.Steps.{is_dash}
use Rattle.sig_base.specs.Folding.{fold}
use Rattle.sig_strings.specs.Fits.{Fits, same_char, SomeFits}
use Rattle.sig_strings.specs.declared.part.Part.{Part}
use Rattle.sig_strings.specs.declared.part.Part.TheVariants.{Char, One, Run, Dash, Hole}
use Rattle.modifier_windash.specs.Choices.{choices, before_each, dash_signs}

-- a character before each of some patterns
abbrev CharBefore : (ℕ → Bool) → List (List Part) → List ℕ → Bool → Type 0
CharBefore p all text cased = CharThen p (λ rest. SomeFits all rest cased) text

map_char : (p : ℕ → Bool) (P Q : List ℕ → Type 0) (text : List ℕ) → ((t : List ℕ) → P t → Q t) → CharThen p P text → CharThen p Q text
map_char p P Q text f h = record { first = h.first; rest = h.rest; shape = h.shape; passed = h.passed; holds_then = f h.rest h.holds_then }

map_suffix : (P Q : List ℕ → Type 0) (text : List ℕ) → ((t : List ℕ) → P t → Q t) → SuffixHolds P text → SuffixHolds Q text
map_suffix P Q text f h = record { before = h.before; suffix = h.suffix; shape = h.shape; holds_there = f h.suffix h.holds_there }

char_out : (c : ℕ) (all : List (List Part)) (text : List ℕ) (cased : Bool) → SomeFits (before_each (Char c) all) text cased → CharBefore (same_char cased c) all text cased
char_out c [] text cased h = absurd h
char_out c (parts ∷ all) text cased h = elim h [
  | inl here ↦ map_char (same_char cased c) (λ t. Fits parts t cased) (λ t. SomeFits (parts ∷ all) t cased) text (λ t f. inl f) here
  | inr later ↦ map_char (same_char cased c) (λ t. SomeFits all t cased) (λ t. SomeFits (parts ∷ all) t cased) text (λ t f. inr f) (char_out c all text cased later)
]

char_in : (c : ℕ) (all : List (List Part)) (text : List ℕ) (cased : Bool) → CharBefore (same_char cased c) all text cased → SomeFits (before_each (Char c) all) text cased
char_in c [] text cased h = absurd h.holds_then
char_in c (parts ∷ all) text cased h = elim h.holds_then [
  | inl here ↦ inl (record { first = h.first; rest = h.rest; shape = h.shape; passed = h.passed; holds_then = here })
  | inr later ↦ inr (char_in c all text cased (record { first = h.first; rest = h.rest; shape = h.shape; passed = h.passed; holds_then = later }))
]

one_out : (all : List (List Part)) (text : List ℕ) (cased : Bool) → SomeFits (before_each One all) text cased → CharBefore (λ d. true) all text cased
one_out [] text cased h = absurd h
one_out (parts ∷ all) text cased h = elim h [
  | inl here ↦ map_char (λ d. true) (λ t. Fits parts t cased) (λ t. SomeFits (parts ∷ all) t cased) text (λ t f. inl f) here
  | inr later ↦ map_char (λ d. true) (λ t. SomeFits all t cased) (λ t. SomeFits (parts ∷ all) t cased) text (λ t f. inr f) (one_out all text cased later)
]

one_in : (all : List (List Part)) (text : List ℕ) (cased : Bool) → CharBefore (λ d. true) all text cased → SomeFits (before_each One all) text cased
one_in [] text cased h = absurd h.holds_then
one_in (parts ∷ all) text cased h = elim h.holds_then [
  | inl here ↦ inl (record { first = h.first; rest = h.rest; shape = h.shape; passed = h.passed; holds_then = here })
  | inr later ↦ inr (one_in all text cased (record { first = h.first; rest = h.rest; shape = h.shape; passed = h.passed; holds_then = later }))
]

run_out : (all : List (List Part)) (text : List ℕ) (cased : Bool) → SomeFits (before_each Run all) text cased → SuffixHolds (λ t. SomeFits all t cased) text
run_out [] text cased h = absurd h
run_out (parts ∷ all) text cased h = elim h [
  | inl here ↦ map_suffix (λ t. Fits parts t cased) (λ t. SomeFits (parts ∷ all) t cased) text (λ t f. inl f) here
  | inr later ↦ map_suffix (λ t. SomeFits all t cased) (λ t. SomeFits (parts ∷ all) t cased) text (λ t f. inr f) (run_out all text cased later)
]

run_in : (all : List (List Part)) (text : List ℕ) (cased : Bool) → SuffixHolds (λ t. SomeFits all t cased) text → SomeFits (before_each Run all) text cased
run_in [] text cased h = absurd h.holds_there
run_in (parts ∷ all) text cased h = elim h.holds_there [
  | inl here ↦ inl (record { before = h.before; suffix = h.suffix; shape = h.shape; holds_there = here })
  | inr later ↦ inr (run_in all text cased (record { before = h.before; suffix = h.suffix; shape = h.shape; holds_there = later }))
]

hole_out : (name : List ℕ) (all : List (List Part)) (text : List ℕ) (cased : Bool) → SomeFits (before_each (Hole name) all) text cased → ⊥
hole_out name [] text cased h = h
hole_out name (parts ∷ all) text cased h = elim h [
  | inl here ↦ here
  | inr later ↦ hole_out name all text cased later
]

-- some of two lists
some_left : (xs ys : List (List Part)) (text : List ℕ) (cased : Bool) → SomeFits xs text cased → SomeFits (xs ++ ys) text cased
some_left [] ys text cased h = absurd h
some_left (x ∷ xs) ys text cased h = elim h [
  | inl here ↦ inl here
  | inr later ↦ inr (some_left xs ys text cased later)
]

some_right : (xs ys : List (List Part)) (text : List ℕ) (cased : Bool) → SomeFits ys text cased → SomeFits (xs ++ ys) text cased
some_right [] ys text cased h = h
some_right (x ∷ xs) ys text cased h = inr (some_right xs ys text cased h)

some_split : (xs ys : List (List Part)) (text : List ℕ) (cased : Bool) → SomeFits (xs ++ ys) text cased → SomeFits xs text cased ⊎ SomeFits ys text cased
some_split [] ys text cased h = inr h
some_split (x ∷ xs) ys text cased h = elim h [
  | inl here ↦ inl (inl here)
  | inr later ↦ elim (some_split xs ys text cased later) [
    | inl a ↦ inl (inr a)
    | inr b ↦ inr b
  ]
]

-- a sign that isn't a letter is taken for itself alone
no_letter : (c : ℕ) → (c < 65) ⊎ (123 ≤ c) → fold c ≡ c
no_letter c (inl l) = let e : nat_le 65 c ≡ false = lt-leb 65 c l in rw e refl
no_letter c (inr l) =
    let e : nat_le 65 c ≡ true = le-leb 65 c (omega arith) in
    let f : nat_le c 90 ≡ false = lt-leb c 90 (omega arith) in
    rw (e, f) refl

unfolded : (c d : ℕ) → (c < 65) ⊎ (123 ≤ c) → fold d ≡ c → d ≡ c
unfolded c d far e = elim (cases_lt d 65) [
  | inl l ↦ let f : nat_le 65 d ≡ false = lt-leb 65 d l in rw f at e
  | inr l ↦ elim (cases_lt 90 d) [
    | inl m ↦
        let f : nat_le 65 d ≡ true = le-leb 65 d l in
        let g : nat_le d 90 ≡ false = lt-leb d 90 m in
        rw (f, g) at e
    | inr m ↦
        let f : nat_le 65 d ≡ true = le-leb 65 d l in
        let g : nat_le d 90 ≡ true = le-leb d 90 m in
        let k : d + 32 ≡ c = rw (f, g) at e in
        elim far [
          | inl a ↦ absurd (omega arith)
          | inr a ↦ absurd (omega arith)
        ]
  ]
]

same_sign : (cased : Bool) (c d : ℕ) → (c < 65) ⊎ (123 ≤ c) → same_char cased c d ≡ true → d ≡ c
same_sign true c d far e = sym (eqb-true c d e)
same_sign false c d far e = unfolded c d far (sym (eqb-true (fold c) (fold d) e) ∙ no_letter c far)

own_sign : (cased : Bool) (c : ℕ) → same_char cased c c ≡ true
own_sign true c = eq-eqb c c refl
own_sign false c = eq-eqb (fold c) (fold c) refl

-- each of these is a dash, and no letter
abbrev AreSigns : List ℕ → Type 0
AreSigns [] = Unit {0}
AreSigns (c ∷ cs) = ((is_dash c ≡ true) × ((c < 65) ⊎ (123 ≤ c))) × AreSigns cs

abbrev IsOneOf : ℕ → List ℕ → Type 0
IsOneOf d [] = ⊥
IsOneOf d (c ∷ cs) = (d ≡ c) ⊎ IsOneOf d cs

signs_out : (signs : List ℕ) (all : List (List Part)) (text : List ℕ) (cased : Bool) → AreSigns signs
    → SomeFits (flat_map (λ sign. before_each (Char sign) all) signs) text cased → CharBefore is_dash all text cased
signs_out [] all text cased are h = absurd h
signs_out (c ∷ cs) all text cased are h =
    elim (some_split (before_each (Char c) all) (flat_map (λ sign. before_each (Char sign) all) cs) text cased h) [
      | inl here ↦
          let taken : CharBefore (same_char cased c) all text cased = char_out c all text cased here in
          let same : taken.first ≡ c = same_sign cased c taken.first are.0.1 taken.passed in
          record {
            first = taken.first;
            rest = taken.rest;
            shape = taken.shape;
            passed = ap (λ (d : ℕ). is_dash d) same ∙ are.0.0;
            holds_then = taken.holds_then;
          }
      | inr later ↦ signs_out cs all text cased are.1 later
    ]

signs_in : (signs : List ℕ) (all : List (List Part)) (text : List ℕ) (cased : Bool) (h : CharBefore is_dash all text cased) → IsOneOf h.first signs
    → SomeFits (flat_map (λ sign. before_each (Char sign) all) signs) text cased
signs_in [] all text cased h is = absurd is
signs_in (c ∷ cs) all text cased h is = elim is [
  | inl same ↦ some_left (before_each (Char c) all) (flat_map (λ sign. before_each (Char sign) all) cs) text cased
      (char_in c all text cased (record {
        first = h.first;
        rest = h.rest;
        shape = h.shape;
        passed = ap (λ (d : ℕ). same_char cased c d) same ∙ own_sign cased c;
        holds_then = h.holds_then;
      }))
  | inr later ↦ some_right (before_each (Char c) all) (flat_map (λ sign. before_each (Char sign) all) cs) text cased (signs_in cs all text cased h later)
]

all_signs : AreSigns dash_signs
all_signs = ((refl, inl (omega arith)), ((refl, inl (omega arith)), ((refl, inr (omega arith)), ((refl, inr (omega arith)), ((refl, inr (omega arith)), tt)))))

or_either : (x y : Bool) → (x || y) ≡ true → (x ≡ true) ⊎ (y ≡ true)
or_either true y h = inl refl
or_either false y h = inr h

dash_is : (d : ℕ) → is_dash d ≡ true → IsOneOf d dash_signs
dash_is d h = elim (or_either (d == 45 || d == 47 || d == 0x2013 || d == 0x2014) (d == 0x2015) h) [
  | inr e ↦ inr (inr (inr (inr (inl (eqb-true d 0x2015 e)))))
  | inl h3 ↦ elim (or_either (d == 45 || d == 47 || d == 0x2013) (d == 0x2014) h3) [
    | inr e ↦ inr (inr (inr (inl (eqb-true d 0x2014 e))))
    | inl h2 ↦ elim (or_either (d == 45 || d == 47) (d == 0x2013) h2) [
      | inr e ↦ inr (inr (inl (eqb-true d 0x2013 e)))
      | inl h1 ↦ elim (or_either (d == 45) (d == 47) h1) [
        | inr e ↦ inr (inl (eqb-true d 47 e))
        | inl e ↦ inl (eqb-true d 45 e)
      ]
    ]
  ]
]

pub choices_in : (parts : List Part) (text : List ℕ) (cased : Bool) → Fits parts text cased → SomeFits (choices parts) text cased
choices_in [] text cased h = inl h
choices_in (Char c ∷ parts) text cased h =
    char_in c (choices parts) text cased (map_char (same_char cased c) (λ t. Fits parts t cased) (λ t. SomeFits (choices parts) t cased) text (λ t f. choices_in parts t cased f) h)
choices_in (One ∷ parts) text cased h =
    one_in (choices parts) text cased (map_char (λ d. true) (λ t. Fits parts t cased) (λ t. SomeFits (choices parts) t cased) text (λ t f. choices_in parts t cased f) h)
choices_in (Run ∷ parts) text cased h =
    run_in (choices parts) text cased (map_suffix (λ t. Fits parts t cased) (λ t. SomeFits (choices parts) t cased) text (λ t f. choices_in parts t cased f) h)
choices_in (Dash ∷ parts) text cased h =
    let taken : CharBefore is_dash (choices parts) text cased =
    map_char is_dash (λ t. Fits parts t cased) (λ t. SomeFits (choices parts) t cased) text (λ t f. choices_in parts t cased f) h in
    signs_in dash_signs (choices parts) text cased taken (dash_is taken.first taken.passed)
choices_in (Hole name ∷ parts) text cased h = absurd h

pub choices_out : (parts : List Part) (text : List ℕ) (cased : Bool) → SomeFits (choices parts) text cased → Fits parts text cased
choices_out [] text cased h = elim h [
  | inl here ↦ here
  | inr later ↦ absurd later
]
choices_out (Char c ∷ parts) text cased h =
    map_char (same_char cased c) (λ t. SomeFits (choices parts) t cased) (λ t. Fits parts t cased) text (λ t f. choices_out parts t cased f) (char_out c (choices parts) text cased h)
choices_out (One ∷ parts) text cased h =
    map_char (λ d. true) (λ t. SomeFits (choices parts) t cased) (λ t. Fits parts t cased) text (λ t f. choices_out parts t cased f) (one_out (choices parts) text cased h)
choices_out (Run ∷ parts) text cased h =
    map_suffix (λ t. SomeFits (choices parts) t cased) (λ t. Fits parts t cased) text (λ t f. choices_out parts t cased f) (run_out (choices parts) text cased h)
choices_out (Dash ∷ parts) text cased h =
    map_char is_dash (λ t. SomeFits (choices parts) t cased) (λ t. Fits parts t cased) text (λ t f. choices_out parts t cased f)
    (signs_out dash_signs (choices parts) text cased all_signs h)
choices_out (Hole name ∷ parts) text cased h = hole_out name (choices parts) text cased h
