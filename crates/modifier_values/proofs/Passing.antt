-- The characters of the patterns that a text stands for are those of the text or of base64.
use Rattle.std.proofs.Common.{ℕ, zero, suc, ◌≡◌, ◌<◌, ◌*◌, ◌+◌, arith, Bool, true, false, ◌==◌, if◌then◌else◌, List, [], ◌∷◌, ◌++◌, length, get_or, replicate, refl, sym, ap, subst, ◌∙◌, inl, inr}
use Rattle.std.specs.List.{list_all}
use Rattle.std.proofs.lemmas.Bool.{and_parts, and_from, cases_lt}
use Rattle.std.proofs.lemmas.List.Folds.{list_all-append}
use Rattle.modifier_words.specs.declared.modifier.Encoding.{Encoding}
use Rattle.modifier_words.specs.declared.modifier.Encoding.TheVariants.{Base64, Base64Offset}
use Rattle.sig_encode.specs.Base64.{alphabet, IsBase64}
use Rattle.sig_encode.specs.Pieces.{kept, lies_within}
use Rattle.sig_strings.specs.Edits.{plain_piece, plain_text}
use Rattle.sig_strings.specs.Spells.{Spells, SpellsFront, star, question, escaped, backslash, hole, other}
use Rattle.sig_strings.specs.declared.part.Part.{Part}
use Rattle.sig_strings.specs.declared.part.Part.TheVariants.{Char}
use Rattle.modifier_values.specs.Encoded.{AreTexts, as_pattern}

-- ---- lists

from_places : (p : ℕ → Bool) (xs : List ℕ) → ((i : ℕ) → i < length xs → p (get_or xs i 0) ≡ true) → list_all p xs ≡ true
from_places p [] at = refl
from_places p (x ∷ xs) at = and_from (p x) (list_all p xs) (at 0 (omega arith)) (from_places p xs (λ i lt. at (suc i) (omega (arith, lt))))

at_place : (p : ℕ → Bool) (xs : List ℕ) (i : ℕ) → i < length xs → list_all p xs ≡ true → p (get_or xs i 0) ≡ true
at_place p [] i lt all = absurd (omega (arith, lt))
at_place p (x ∷ xs) zero lt all = (and_parts (p x) (list_all p xs) all).0
at_place p (x ∷ xs) (suc i) lt all = at_place p xs i (omega (arith, lt)) (and_parts (p x) (list_all p xs) all).1

-- ---- a test that the characters of a text pass
module _ (p : ℕ → Bool) where
  behind_first : (c : ℕ) (t rest : List ℕ) → t ≡ c ∷ rest → list_all p t ≡ true → (p c ≡ true) × (list_all p rest ≡ true)
  behind_first c t rest is all = and_parts (p c) (list_all p rest) (ap (λ (u : List ℕ). list_all p u) (sym is) ∙ all)

  one_passes : (c : ℕ) (part : Part) → part ≡ Char c → p c ≡ true → list_all p (plain_piece part) ≡ true
  one_passes c part is one = ap (λ (x : Part). list_all p (plain_piece x)) is ∙ and_from (p c) true one refl

  -- the part at the front of the text, and what stands behind it
  front_passes : (expand : Bool) (t rest : List ℕ) (part : Part) → SpellsFront expand t part rest → list_all p t ≡ true
      → (list_all p (plain_piece part) ≡ true) × (list_all p rest ≡ true)
  front_passes expand t rest part (star e q) all = (ap (λ (x : Part). list_all p (plain_piece x)) q, (behind_first 42 t rest e all).1)
  front_passes expand t rest part (question e q) all = (ap (λ (x : Part). list_all p (plain_piece x)) q, (behind_first 63 t rest e all).1)
  front_passes expand t rest part (escaped c e s q) all =
      let both = behind_first c (c ∷ rest) rest refl (behind_first 92 t (c ∷ rest) e all).1 in (one_passes c part q both.0, both.1)
  front_passes expand t rest part (backslash e b q) all = let both = behind_first 92 t rest e all in (one_passes 92 part q both.0, both.1)
  front_passes expand t rest part (hole name e h q) all =
      let behind : list_all p (name ++ 37 ∷ rest) ≡ true = (behind_first 37 t (name ++ 37 ∷ rest) h.shape all).1 in
      let both = and_parts (list_all p name) (list_all p (37 ∷ rest)) (sym (list_all-append p name (37 ∷ rest)) ∙ behind) in
      (ap (λ (x : Part). list_all p (plain_piece x)) q, (behind_first 37 (37 ∷ rest) rest refl both.1).1)
  front_passes expand t rest part (other c e s n q) all = let both = behind_first c t rest e all in (one_passes c part q both.0, both.1)

  pub parts_pass : (expand : Bool) (parts : List Part) (t : List ℕ) → Spells expand t parts → list_all p t ≡ true → list_all p (plain_text parts) ≡ true
  parts_pass expand [] t h all = refl
  parts_pass expand (part ∷ parts) t h all =
      let both = front_passes expand t h.0 part h.1 all in
      list_all-append p (plain_piece part) (plain_text parts)
      ∙ and_from (list_all p (plain_piece part)) (list_all p (plain_text parts)) both.0 (parts_pass expand parts h.0 h.2 both.1)

module _ (p : ℕ → Bool) (symbols : list_all p alphabet ≡ true) (padding : p 61 ≡ true) where
  text_passes : (bytes text : List ℕ) → IsBase64 bytes text → list_all p text ≡ true
  text_passes bytes text is = from_places p text at
    where
      at : (k : ℕ) → k < length text → p (get_or text k 0) ≡ true
      at k lt = elim (cases_lt (6 * k) (8 * length bytes)) [
        | inl h ↦
            let stands = is.symbols k h in
            ap p stands.symbol ∙ at_place p alphabet stands.value stands.below symbols
        | inr h ↦ ap p (is.padding k h lt) ∙ padding
      ]

  kept_one : (c : ℕ) (cs : List ℕ) (b : Bool) → p c ≡ true → list_all p cs ≡ true → list_all p (if b then c ∷ cs else cs) ≡ true
  kept_one c cs true one rest = and_from (p c) (list_all p cs) one rest
  kept_one c cs false one rest = rest

  kept_pass : (passes : ℕ → Bool) (k : ℕ) (text : List ℕ) → list_all p text ≡ true → list_all p (kept passes k text) ≡ true
  kept_pass passes k [] all = refl
  kept_pass passes k (c ∷ cs) all =
      let both = and_parts (p c) (list_all p cs) all in
      kept_one c (kept passes (k + 1) cs) (passes k) both.0 (kept_pass passes (k + 1) cs both.1)

  -- each text of a list passes
  abbrev pub AllPassing : List (List ℕ) → Type 0
  AllPassing [] = Unit {0}
  AllPassing (text ∷ texts) = (list_all p text ≡ true) × AllPassing texts

  all_passing : (texts : List (List ℕ)) → ((i : ℕ) → i < length texts → list_all p (get_or texts i []) ≡ true) → AllPassing texts
  all_passing [] at = tt
  all_passing (text ∷ texts) at = (at 0 (omega arith), all_passing texts (λ i lt. at (suc i) (omega (arith, lt))))

  pub texts_pass : (e : Encoding) (bytes : List ℕ) (texts : List (List ℕ)) → AreTexts e bytes texts → AllPassing texts
  texts_pass Base64 bytes texts are =
      subst (λ (ts : List (List ℕ)). AllPassing ts) (sym are.2) (text_passes bytes are.0 are.1, tt)
  texts_pass Base64Offset bytes texts are = all_passing texts (λ i lt.
      let few : i < 3 = subst (λ (n : ℕ). i < n) are.three lt in
      let piece = are.each i few in
      ap (λ (t : List ℕ). list_all p t) piece.cut ∙ kept_pass (lies_within i (i + length bytes)) 0 piece.text (text_passes (replicate i 0 ++ bytes) piece.text piece.encoded))

-- a text's pattern has its characters alone
pub own_text : (text : List ℕ) → plain_text (as_pattern text) ≡ text
own_text [] = refl
own_text (c ∷ cs) = ap (λ (t : List ℕ). c ∷ t) (own_text cs)
