-- Each text spells one pattern; what is written spells the pattern that it was written for.
use Rattle.std.proofs.Common.{ℕ, ◌≡◌, ◌<◌, Bool, true, false, List, [], ◌∷◌, ◌++◌, length, length-append, refl, ap, subst, nat_eq, eq-eqb, arith, if◌then◌else◌}
use Rattle.std.proofs.lemmas.Bool.{and_parts, and_from}
use Rattle.sig_strings.specs.Spells.{is_special, begins_special, HasHole, SpellsFront, Spells}
use Rattle.sig_strings.specs.Spells.SpellsFront.{star, question, escaped, backslash, hole, other}
use Rattle.sig_strings.specs.Edits.{is_written, all_written, sigma_text, sigma_piece}
use Rattle.sig_strings.specs.declared.part.Part.{Part}
use Rattle.sig_strings.specs.declared.part.Part.TheVariants.{Char, One, Run, Dash, Hole}
use Rattle.sig_strings.proofs.HoleLemmas.{words_same, is_name-words}

leads_differ : (text xs ys : List ℕ) (m n : ℕ) → text ≡ m ∷ xs → text ≡ n ∷ ys → nat_eq m n ≡ false → ⊥
leads_differ text xs ys m n first second differ =
    let same : m ≡ n = cc in
    let tested : nat_eq m n ≡ true = eq-eqb m n same in
    cc

-- a plain character isn't one of those that begin another part
plain_differs : (text xs ys : List ℕ) (c n : ℕ) → text ≡ c ∷ xs → text ≡ n ∷ ys → is_special c ≡ false → is_special n ≡ true → ⊥
plain_differs text xs ys c n first second plain special =
    let same : c ≡ n = cc in
    let tests : is_special c ≡ is_special n = ap is_special same in
    cc

half_escaped : (text : List ℕ) (c : ℕ) (xs ys : List ℕ) → text ≡ 92 ∷ (c ∷ xs) → text ≡ 92 ∷ ys → is_special c ≡ true → begins_special ys ≡ false → ⊥
half_escaped text c xs ys first second special plain =
    let behind : ys ≡ c ∷ xs = cc in
    let tests : begins_special ys ≡ is_special c = ap begins_special behind in
    cc

hole_same : (text name name' r s : List ℕ) (p q : Part) → p ≡ Hole name → q ≡ Hole name' → HasHole text name r → HasHole text name' s → (p ≡ q) × (r ≡ s)
hole_same text name name' r s p q part part' found found' =
    let first : text ≡ 37 ∷ (name ++ 37 ∷ r) = found.shape in
    let second : text ≡ 37 ∷ (name' ++ 37 ∷ s) = found'.shape in
    let behind : name ++ 37 ∷ r ≡ name' ++ 37 ∷ s = cc in
    let both : _ = words_same name name' (37 ∷ r) (37 ∷ s) behind (is_name-words name found.named) (is_name-words name' found'.named) refl refl in
    let names : name ≡ name' = both.0 in
    let rests : 37 ∷ r ≡ 37 ∷ s = both.1 in
    (cc, cc)

-- one part stands at the front of a text
pub front_same : (expand : Bool) (text : List ℕ) (p q : Part) (r s : List ℕ) → SpellsFront expand text p r → SpellsFront expand text q s → (p ≡ q) × (r ≡ s)
front_same expand text p q r s (star shape part) (star shape' part') = (cc, cc)
front_same expand text p q r s (star shape part) (question shape' part') = absurd (leads_differ text _ _ 42 63 shape shape' refl)
front_same expand text p q r s (star shape part) (escaped c' shape' special' part') = absurd (leads_differ text _ _ 42 92 shape shape' refl)
front_same expand text p q r s (star shape part) (backslash shape' plain' part') = absurd (leads_differ text _ _ 42 92 shape shape' refl)
front_same expand text p q r s (star shape part) (hole name' expands' found' part') = absurd (leads_differ text _ _ 42 37 shape found'.shape refl)
front_same expand text p q r s (star shape part) (other c' shape' plain' no_hole' part') = absurd (plain_differs text _ _ c' 42 shape' shape plain' refl)
front_same expand text p q r s (question shape part) (star shape' part') = absurd (leads_differ text _ _ 63 42 shape shape' refl)
front_same expand text p q r s (question shape part) (question shape' part') = (cc, cc)
front_same expand text p q r s (question shape part) (escaped c' shape' special' part') = absurd (leads_differ text _ _ 63 92 shape shape' refl)
front_same expand text p q r s (question shape part) (backslash shape' plain' part') = absurd (leads_differ text _ _ 63 92 shape shape' refl)
front_same expand text p q r s (question shape part) (hole name' expands' found' part') = absurd (leads_differ text _ _ 63 37 shape found'.shape refl)
front_same expand text p q r s (question shape part) (other c' shape' plain' no_hole' part') = absurd (plain_differs text _ _ c' 63 shape' shape plain' refl)
front_same expand text p q r s (escaped c shape special part) (star shape' part') = absurd (leads_differ text _ _ 92 42 shape shape' refl)
front_same expand text p q r s (escaped c shape special part) (question shape' part') = absurd (leads_differ text _ _ 92 63 shape shape' refl)
front_same expand text p q r s (escaped c shape special part) (escaped c' shape' special' part') = (cc, cc)
front_same expand text p q r s (escaped c shape special part) (backslash shape' plain' part') = absurd (half_escaped text c r s shape shape' special plain')
front_same expand text p q r s (escaped c shape special part) (hole name' expands' found' part') = absurd (leads_differ text _ _ 92 37 shape found'.shape refl)
front_same expand text p q r s (escaped c shape special part) (other c' shape' plain' no_hole' part') = absurd (plain_differs text _ _ c' 92 shape' shape plain' refl)
front_same expand text p q r s (backslash shape plain part) (star shape' part') = absurd (leads_differ text _ _ 92 42 shape shape' refl)
front_same expand text p q r s (backslash shape plain part) (question shape' part') = absurd (leads_differ text _ _ 92 63 shape shape' refl)
front_same expand text p q r s (backslash shape plain part) (escaped c' shape' special' part') = absurd (half_escaped text c' s r shape' shape special' plain)
front_same expand text p q r s (backslash shape plain part) (backslash shape' plain' part') = (cc, cc)
front_same expand text p q r s (backslash shape plain part) (hole name' expands' found' part') = absurd (leads_differ text _ _ 92 37 shape found'.shape refl)
front_same expand text p q r s (backslash shape plain part) (other c' shape' plain' no_hole' part') = absurd (plain_differs text _ _ c' 92 shape' shape plain' refl)
front_same expand text p q r s (hole name expands found part) (star shape' part') = absurd (leads_differ text _ _ 37 42 found.shape shape' refl)
front_same expand text p q r s (hole name expands found part) (question shape' part') = absurd (leads_differ text _ _ 37 63 found.shape shape' refl)
front_same expand text p q r s (hole name expands found part) (escaped c' shape' special' part') = absurd (leads_differ text _ _ 37 92 found.shape shape' refl)
front_same expand text p q r s (hole name expands found part) (backslash shape' plain' part') = absurd (leads_differ text _ _ 37 92 found.shape shape' refl)
front_same expand text p q r s (hole name expands found part) (hole name' expands' found' part') = hole_same text name name' r s p q part part' found found'
front_same expand text p q r s (hole name expands found part) (other c' shape' plain' no_hole' part') = absurd (no_hole' expands name r found)
front_same expand text p q r s (other c shape plain no_hole part) (star shape' part') = absurd (plain_differs text _ _ c 42 shape shape' plain refl)
front_same expand text p q r s (other c shape plain no_hole part) (question shape' part') = absurd (plain_differs text _ _ c 63 shape shape' plain refl)
front_same expand text p q r s (other c shape plain no_hole part) (escaped c' shape' special' part') = absurd (plain_differs text _ _ c 92 shape shape' plain refl)
front_same expand text p q r s (other c shape plain no_hole part) (backslash shape' plain' part') = absurd (plain_differs text _ _ c 92 shape shape' plain refl)
front_same expand text p q r s (other c shape plain no_hole part) (hole name' expands' found' part') = absurd (no_hole expands' name' s found')
front_same expand text p q r s (other c shape plain no_hole part) (other c' shape' plain' no_hole' part') = (cc, cc)

-- none stands at the end
pub front_of_nothing : (expand : Bool) (text : List ℕ) (p : Part) (r : List ℕ) → text ≡ [] → SpellsFront expand text p r → ⊥
front_of_nothing expand text p r empty (star shape part) = cc
front_of_nothing expand text p r empty (question shape part) = cc
front_of_nothing expand text p r empty (escaped c shape special part) = cc
front_of_nothing expand text p r empty (backslash shape plain part) = cc
front_of_nothing expand text p r empty (hole name expands found part) = let shape : text ≡ 37 ∷ (name ++ 37 ∷ r) = found.shape in cc
front_of_nothing expand text p r empty (other c shape plain no_hole part) = cc

-- each part takes some of the text
pub front_shorter : (expand : Bool) (text : List ℕ) (p : Part) (r : List ℕ) → SpellsFront expand text p r → length r < length text
front_shorter expand text p r (star shape part) = omega (arith, ap length shape)
front_shorter expand text p r (question shape part) = omega (arith, ap length shape)
front_shorter expand text p r (escaped c shape special part) = omega (arith, ap length shape)
front_shorter expand text p r (backslash shape plain part) = omega (arith, ap length shape)
front_shorter expand text p r (hole name expands found part) =
    omega (arith, ap length found.shape, length-append name (37 ∷ r))
front_shorter expand text p r (other c shape plain no_hole part) = omega (arith, ap length shape)

-- a text spells one pattern
pub spells_same : (expand : Bool) (text : List ℕ) (parts others : List Part) → Spells expand text parts → Spells expand text others → parts ≡ others
spells_same expand text [] [] first second = refl
spells_same expand text [] (q ∷ qs) first second = absurd (front_of_nothing expand text q second.0 first second.1)
spells_same expand text (p ∷ ps) [] first second = absurd (front_of_nothing expand text p first.0 second first.1)
spells_same expand text (p ∷ ps) (q ∷ qs) first second =
    let fronts : _ = front_same expand text p q first.0 second.0 first.1 second.1 in
    let heads : p ≡ q = fronts.0 in
    let tails : ps ≡ qs = spells_same expand second.0 ps qs (subst (λ (t : List ℕ). Spells expand t ps) fronts.1 first.2) second.2 in
    cc

-- without `expand` no placeholder is spelled, and no dash ever is
front_written : (text : List ℕ) (p : Part) (r : List ℕ) → SpellsFront false text p r → is_written p ≡ true
front_written text p r (star shape part) = ap is_written part
front_written text p r (question shape part) = ap is_written part
front_written text p r (escaped c shape special part) = ap is_written part
front_written text p r (backslash shape plain part) = ap is_written part
front_written text p r (hole name expands found part) = cc
front_written text p r (other c shape plain no_hole part) = ap is_written part

pub spells_written : (text : List ℕ) (parts : List Part) → Spells false text parts → all_written parts ≡ true
spells_written text [] spelled = refl
spells_written text (p ∷ ps) spelled =
    and_from (is_written p) (all_written ps) (front_written text p spelled.0 spelled.1) (spells_written spelled.0 ps spelled.2)

char_front : (c : ℕ) (b : Bool) (rest : List ℕ) → is_special c ≡ b → SpellsFront false ((if b then 92 ∷ (c ∷ []) else c ∷ []) ++ rest) (Char c) rest
char_front c true rest special = escaped c refl special refl
char_front c false rest plain = other c refl plain (λ expands. cc) refl

-- the text of a part, and then any text
piece_front : (p : Part) (rest : List ℕ) → is_written p ≡ true → SpellsFront false (sigma_piece p ++ rest) p rest
piece_front (Char c) rest written = char_front c (is_special c) rest refl
piece_front One rest written = question refl refl
piece_front Run rest written = star refl refl
piece_front Dash rest written = cc
piece_front (Hole name) rest written = cc

-- what is written spells the pattern
pub spells_sigma_text : (parts : List Part) → all_written parts ≡ true → Spells false (sigma_text parts) parts
spells_sigma_text [] written = refl
spells_sigma_text (p ∷ ps) written =
    let both : _ = and_parts (is_written p) (all_written ps) written in
    (sigma_text ps, piece_front p (sigma_text ps) both.0, spells_sigma_text ps both.1)
