-- Texts that are read as patterns, one character after another.
use Rattle.std.proofs.Common.{ℕ, ◌≡◌, Bool, true, false, List, [], ◌∷◌, ◌++◌, append_assoc, append-nil, refl, sym, subst, ap, ◌∙◌}
use Rattle.std.specs.Prelude.{if◌then◌else◌, ◌==◌}
use Rattle.std.specs.Str.{chars}
use Rattle.std.proofs.lemmas.Str.{chars-nil}
use Rattle.sig_strings.specs.Spells.{is_special}
use Rattle.sig_strings.specs.declared.part.Part.{Part}
use Rattle.sig_strings.specs.declared.part.Part.TheVariants.{Char, One, Run}
use Rattle.modifier_values.specs.Parts.{parts_of, parts_behind, backslash_front}
use Rattle.pipeline_fill.specs.Read.{plain_part}

joined : (old new : List Part) (x : Part) (more all : List Part) → new ≡ old ++ x ∷ [] → all ≡ x ∷ more → new ++ more ≡ old ++ all
joined old new x more all made is =
    ap (λ (ps : List Part). ps ++ more) made ∙ (append_assoc old (x ∷ []) more ∙ ap (λ (ps : List Part). old ++ ps) (sym is))

last_is : (cs : List ℕ) → cs ≡ [] → parts_of false (92 ∷ cs) ≡ Char 92 ∷ parts_of false cs
last_is cs empty = subst (λ (ds : List ℕ). parts_of false (92 ∷ ds) ≡ Char 92 ∷ parts_of false ds) (sym empty) refl

abbrev behind : Bool → ℕ → List ℕ → List Part
behind b d ds = (if◌then◌else◌ {A = Part × ℕ} b (Char d, 1) (Char 92, 0)).0 ∷ parts_behind false (if◌then◌else◌ {A = Part × ℕ} b (Char d, 1) (Char 92, 0)).1 (d ∷ ds)

special_is : (cs ds : List ℕ) (d : ℕ) → cs ≡ d ∷ ds → is_special d ≡ true → parts_of false (92 ∷ cs) ≡ Char d ∷ parts_of false ds
special_is cs ds d is special = ap (λ (es : List ℕ). parts_of false (92 ∷ es)) is ∙ ap (λ (b : Bool). behind b d ds) special

other_is : (cs ds : List ℕ) (d : ℕ) → cs ≡ d ∷ ds → is_special d ≡ false → parts_of false (92 ∷ cs) ≡ Char 92 ∷ parts_of false cs
other_is cs ds d is special =
    ap (λ (es : List ℕ). parts_of false (92 ∷ es)) is ∙ (ap (λ (b : Bool). behind b d ds) special ∙ ap (λ (es : List ℕ). Char 92 ∷ parts_of false es) (sym is))

abbrev front_by : (a b c : Bool) → ℕ → List ℕ → Part × ℕ
front_by a b c d cs = if a then (Run, 0) else (if b then (One, 0) else (if c then backslash_front cs else (Char d, 0)))

plain_is : (c : ℕ) (cs : List ℕ) → (c == 92) ≡ false → parts_of false (c ∷ cs) ≡ plain_part c ∷ parts_of false cs
plain_is c cs other = by (c == 42) (c == 63) (c == 92) other
  where
    by : (x y z : Bool) → z ≡ false
        → (front_by x y z c cs).0 ∷ parts_behind false (front_by x y z c cs).1 cs ≡ (if x then Run else (if y then One else Char c)) ∷ parts_of false cs
    by true y z e = refl
    by false true z e = refl
    by false false false e = refl
    by false false true e = absurd cc

pub backslash_last : (old new : List Part) (rest : List ℕ) → rest ≡ [] → new ≡ old ++ Char 92 ∷ []
    → new ++ parts_of false (chars rest) ≡ old ++ parts_of false (92 ∷ chars rest)
backslash_last old new rest empty made =
    joined old new (Char 92) (parts_of false (chars rest)) (parts_of false (92 ∷ chars rest)) made (last_is (chars rest) (ap chars empty ∙ chars-nil))

pub backslash_plain : (old new : List Part) (cs ds : List ℕ) (d : ℕ) → cs ≡ d ∷ ds → is_special d ≡ true → new ≡ old ++ Char d ∷ []
    → new ++ parts_of false ds ≡ old ++ parts_of false (92 ∷ cs)
backslash_plain old new cs ds d is special made = joined old new (Char d) (parts_of false ds) (parts_of false (92 ∷ cs)) made (special_is cs ds d is special)

pub backslash_itself : (old new : List Part) (cs ds : List ℕ) (d : ℕ) → cs ≡ d ∷ ds → is_special d ≡ false → new ≡ old ++ Char 92 ∷ []
    → new ++ parts_of false cs ≡ old ++ parts_of false (92 ∷ cs)
backslash_itself old new cs ds d is special made = joined old new (Char 92) (parts_of false cs) (parts_of false (92 ∷ cs)) made (other_is cs ds d is special)

pub plain_first : (old new : List Part) (c : ℕ) (cs : List ℕ) → (c == 92) ≡ false → new ≡ old ++ plain_part c ∷ []
    → new ++ parts_of false cs ≡ old ++ parts_of false (c ∷ cs)
plain_first old new c cs other made = joined old new (plain_part c) (parts_of false cs) (parts_of false (c ∷ cs)) made (plain_is c cs other)

-- what is read and what is left are all
pub read_turn : (old new whole : List Part) (left rest more : List ℕ) (c : ℕ) → old ++ parts_of false (chars left) ≡ whole → chars left ≡ c ∷ chars rest
    → new ++ parts_of false (chars more) ≡ old ++ parts_of false (c ∷ chars rest) → new ++ parts_of false (chars more) ≡ whole
read_turn old new whole left rest more c same is made = made ∙ (ap (λ (cs : List ℕ). old ++ parts_of false cs) (sym is) ∙ same)

pub read_end : (parts whole : List Part) (left : List ℕ) → parts ++ parts_of false (chars left) ≡ whole → left ≡ [] → parts ≡ whole
read_end parts whole left same empty =
    sym (append-nil parts) ∙ (ap (λ (cs : List ℕ). parts ++ parts_of false cs) (sym (ap chars empty ∙ chars-nil)) ∙ same)
