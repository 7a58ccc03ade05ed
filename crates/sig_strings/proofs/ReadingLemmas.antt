-- The steps of the reader.
use Rattle.std.proofs.Common.{ℕ, ◌≡◌, ◌≢◌, ◌<◌, ◌≤◌, Bool, false, List, [], ◌∷◌, ◌++◌, length, nat_lt, Option, Some, None, sym, ap, subst, append_assoc, append-nil, arith}
use Rattle.std.specs.Str.{IsUtf8, chars}
use Rattle.std.proofs.lemmas.Bool.{le-ltb}
use Rattle.std.proofs.lemmas.Str.{encodes-chars, length-le-encodes}
use Rattle.std.proofs.lemmas.Bool.Decides.{nat_tests}
use Rattle.sig_strings.specs.Spells.{is_special, SpellsFront, Spells, HasHole}
use Rattle.sig_strings.specs.Signs.{Begins}
use Rattle.sig_strings.specs.declared.part.Part.{Part}
use Rattle.sig_strings.proofs.SpellsLemmas.{front_shorter}

-- the text has ended: what was read is the pattern
pub reads_end : (expand : Bool) (text rest whole : List ℕ) (front got : Option Part) (items : List Part)
    → Begins expand text front rest → got ≡ front → got ≡ None
    → ((later : List Part) → Spells expand text later → Spells expand whole (items ++ later))
    → Spells expand whole items
reads_end expand text rest whole front got items begins same none read =
    let ends : front ≡ None = cc in
    let empty : text ≡ [] = subst (λ (o : Option Part). Begins expand text o rest) ends begins in
    subst (λ (parts : List Part). Spells expand whole parts) (append-nil items) (read [] empty)

-- a part was read: whatever the rest spells comes behind it
pub reads_more : (expand : Bool) (text rest whole : List ℕ) (front got : Option Part) (part : Part) (items : List Part)
    → Begins expand text front rest → got ≡ front → got ≡ Some part
    → ((later : List Part) → Spells expand text later → Spells expand whole (items ++ later))
    → (later : List Part) → Spells expand rest later → Spells expand whole ((items ++ part ∷ []) ++ later)
reads_more expand text rest whole front got part items begins same some read later spelled =
    let stands : front ≡ Some part = cc in
    let spells : SpellsFront expand text part rest = subst (λ (o : Option Part). Begins expand text o rest) stands begins in
    subst (λ (parts : List Part). Spells expand whole parts) (sym (append_assoc items (part ∷ []) later)) (read (part ∷ later) (rest, spells, spelled))

-- .. and less text is left
pub reads_less : (expand : Bool) (text rest : List ℕ) (front got : Option Part) (part : Part)
    → Begins expand text front rest → got ≡ front → got ≡ Some part → length rest < length text
reads_less expand text rest front got part begins same some =
    let stands : front ≡ Some part = cc in
    front_shorter expand text part rest (subst (λ (o : Option Part). Begins expand text o rest) stands begins)

-- a character that isn't one of the three is plain
pub not_special : (c : ℕ) → c ≢ 42 → c ≢ 63 → c ≢ 92 → is_special c ≡ false
not_special c star question backslash = grind (arith, nat_tests)

-- no placeholder begins at another character than `%`
pub no_hole_there : (text rest : List ℕ) (c : ℕ) → text ≡ c ∷ rest → c ≢ 37 → (name after : List ℕ) → HasHole text name after → ⊥
no_hole_there text rest c front differs name after found =
    let shape : text ≡ 37 ∷ (name ++ 37 ∷ after) = found.shape in
    differs (cc)

-- a text of at most so many bytes has at most so many characters
pub no_longer : (most : ℕ) (bytes : List ℕ) → IsUtf8 bytes → length bytes ≤ most → nat_lt most (length (chars bytes)) ≡ false
no_longer most bytes utf8 few = le-ltb _ _ (omega (arith, few, length-le-encodes (chars bytes), ap length (encodes-chars bytes utf8)))

-- a plain character was read: whatever the rest spells comes behind it
pub reads_plain : (expand : Bool) (text rest whole : List ℕ) (part : Part) (items : List Part)
    → SpellsFront expand text part rest
    → ((later : List Part) → Spells expand text later → Spells expand whole (items ++ later))
    → (later : List Part) → Spells expand rest later → Spells expand whole ((items ++ part ∷ []) ++ later)
reads_plain expand text rest whole part items front read later spelled =
    subst (λ (parts : List Part). Spells expand whole parts) (sym (append_assoc items (part ∷ []) later)) (read (part ∷ later) (rest, front, spelled))
