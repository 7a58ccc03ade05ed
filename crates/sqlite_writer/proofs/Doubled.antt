-- Texts with each quote written twice, part by part.
use Rattle.std.proofs.Common.{ℕ, ◌+◌, ◌<◌, ◌≡◌, refl, sym, ◌∙◌, ap, subst, Bool, true, false, List, [], ◌∷◌, ◌++◌, length, drop, get_or, append_assoc, arith}
use Rattle.std.specs.Prelude.{encode_utf8, encode_utf8_all, if◌then◌else◌, ◌==◌}
use Rattle.std.specs.List.{list_any, flat_map}
use Rattle.std.specs.Str.{chars, IsUtf8}
use Rattle.std.proofs.lemmas.Bool.{eqb-true, or_parts}
use Rattle.std.proofs.lemmas.List.{drop_more}
use Rattle.std.proofs.lemmas.List.Folds.{list_any-append}
use Rattle.std.proofs.lemmas.Str.{encode_ascii, encodes-chars}
use Rattle.sig_strings.specs.declared.part.Part.{Part}
use Rattle.sql_layout.specs.Layout.{doubled, in_quotes}

doubled_first : (q x : ℕ) (more rest whole : List ℕ) (b : Bool) → whole ≡ more ++ rest
    → (if b then q ∷ q ∷ whole else x ∷ whole) ≡ (if b then q ∷ q ∷ more else x ∷ more) ++ rest
doubled_first q x more rest whole true e = ap (λ (t : List ℕ). q ∷ q ∷ t) e
doubled_first q x more rest whole false e = ap (λ (t : List ℕ). x ∷ t) e

pub doubled_append : (q : ℕ) (xs ys : List ℕ) → doubled q (xs ++ ys) ≡ doubled q xs ++ doubled q ys
doubled_append q [] ys = refl
doubled_append q (x ∷ xs) ys =
    doubled_first q x (doubled q xs) (doubled q ys) (doubled q (xs ++ ys)) (x == q) (doubled_append q xs ys)

-- one more character
pub one_doubled : (q c : ℕ) (cs old out new : List ℕ) → out ≡ old ++ doubled q cs → new ≡ out ++ doubled q (c ∷ []) → new ≡ old ++ doubled q (cs ++ c ∷ [])
one_doubled q c cs old out new before added =
    added
    ∙ (ap (λ (t : List ℕ). t ++ doubled q (c ∷ [])) before
    ∙ (append_assoc old (doubled q cs) (doubled q (c ∷ []))
    ∙ ap (λ (t : List ℕ). old ++ t) (sym (doubled_append q cs (c ∷ [])))))

-- a character whose bytes have no quote is none
not_the_quote : (c : ℕ) → list_any (λ b. b == 34) (encode_utf8 c) ≡ false → (c == 34) ≡ false
not_the_quote c none = by (c == 34) refl where
  by : (so : Bool) → (c == 34) ≡ so → (c == 34) ≡ false
  by false is = is
  by true is =
      let found : true ≡ false =
      sym (ap (list_any (λ b. b == 34)) (encode_ascii 34 (omega arith)))
      ∙ subst (λ (x : ℕ). list_any (λ b. b == 34) (encode_utf8 x) ≡ false) (eqb-true c 34 is) none in
      absurd cc

no_quotes : (cs : List ℕ) → list_any (λ b. b == 34) (encode_utf8_all cs) ≡ false → doubled 34 cs ≡ cs
no_quotes [] none = refl
no_quotes (c ∷ cs) none =
    let parts = or_parts (list_any (λ b. b == 34) (encode_utf8 c)) (list_any (λ b. b == 34) (encode_utf8_all cs))
    (sym (list_any-append (λ b. b == 34) (encode_utf8 c) (encode_utf8_all cs)) ∙ none) in
    let other = not_the_quote c parts.0 in
    rw other (ap (λ (t : List ℕ). c ∷ t) (no_quotes cs parts.1))

-- in bytes without a quote there is nothing to double
pub nothing_doubled : (bs : List ℕ) → IsUtf8 bs → list_any (λ b. b == 34) bs ≡ false → doubled 34 (chars bs) ≡ chars bs
nothing_doubled bs utf8 none = no_quotes (chars bs) (ap (list_any (λ b. b == 34)) (encodes-chars bs utf8) ∙ none)

-- the signs of one more part
pub next_doubled : (f : Part → List ℕ) (q : ℕ) (ps : List Part) (i : ℕ) (p : Part) (out new whole : List ℕ) → p ≡ get_or ps i p → i < length ps
    → new ≡ out ++ doubled q (f p) → out ++ doubled q (flat_map f (drop i ps)) ≡ whole → new ++ doubled q (flat_map f (drop (i + 1) ps)) ≡ whole
next_doubled f q ps i p out new whole is within added before =
    let rest = flat_map f (drop (i + 1) ps) in
    let left : drop i ps ≡ p ∷ drop (i + 1) ps = drop_more ps i p within ∙ ap (λ (x : Part). x ∷ drop (i + 1) ps) (sym is) in
    ap (λ (t : List ℕ). t ++ doubled q rest) added
    ∙ (append_assoc out (doubled q (f p)) (doubled q rest)
    ∙ (ap (λ (t : List ℕ). out ++ t) (sym (doubled_append q (f p) rest))
    ∙ (ap (λ (xs : List Part). out ++ doubled q (flat_map f xs)) (sym left)
    ∙ before)))

-- a name, a word, a text in quotes and what stands behind it
pub text_test : (old named worded said new name text word behind : List ℕ) → named ≡ old ++ in_quotes 34 name → worded ≡ named ++ (word ++ 39 ∷ [])
    → said ≡ worded ++ doubled 39 text → new ≡ said ++ 39 ∷ behind → new ≡ old ++ (in_quotes 34 name ++ (word ++ (in_quotes 39 text ++ behind)))
text_test old named worded said new name text word behind a b c d = rw (d, c, b, a) (simp append_assoc)

-- a name, a word and a number
pub number_test : (old named worded new name word number : List ℕ) → named ≡ old ++ in_quotes 34 name → worded ≡ named ++ word → new ≡ worded ++ number
    → new ≡ old ++ (in_quotes 34 name ++ (word ++ number))
number_test old named worded new name word number a b c = rw (c, b, a) (simp append_assoc)

-- a name, a sign between spaces, and a number
pub order_test : (old named worded new name sign number : List ℕ) → named ≡ old ++ in_quotes 34 name → worded ≡ named ++ (32 ∷ (sign ++ 32 ∷ [])) → new ≡ worded ++ number
    → new ≡ old ++ (in_quotes 34 name ++ (32 ∷ (sign ++ 32 ∷ number)))
order_test old named worded new name sign number a b c = rw (c, b, a) (simp append_assoc)

-- a name, a word, a name and what stands behind it
pub names_test : (old named worded second new name word other behind : List ℕ) → named ≡ old ++ in_quotes 34 name → worded ≡ named ++ word
    → second ≡ worded ++ in_quotes 34 other → new ≡ second ++ behind → new ≡ old ++ (in_quotes 34 name ++ (word ++ (in_quotes 34 other ++ behind)))
names_test old named worded second new name word other behind a b c d = rw (d, c, b, a) (simp append_assoc)
