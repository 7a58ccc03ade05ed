-- Each text stands for one list of patterns.
use Rattle.std.proofs.Common.{ℕ, zero, suc, ◌≡◌, ◌+◌, ◌-◌, ◌*◌, ◌/◌, ◌%◌, ◌^◌, ◌<◌, arith, Bool, true, false, List, [], ◌∷◌, ◌++◌, length, map, replicate, get_or, slice_index, refl, sym, ap, subst, ◌∙◌}
use Rattle.std.specs.Prelude.{Option, Some, None, is_some}
use Rattle.std.specs.List.{list_any}
use Rattle.std.proofs.Math.ListN.{get_or-map}
use Rattle.std.proofs.lemmas.List.{length-map, map-append}
use Rattle.base64.specs.GeneralPurpose.{IsBytes}
use Rattle.modifier_words.specs.Kinds.{is_expand}
use Rattle.modifier_words.specs.Written.{Written}
use Rattle.modifier_words.specs.declared.modifier.Encoding.{Encoding}
use Rattle.modifier_words.specs.declared.modifier.Encoding.TheVariants.{Base64, Base64Offset}
use Rattle.sig_base.specs.declared.refusal.Place.{Place}
use Rattle.sig_base.specs.Judged.{first, must}
use Rattle.sig_encode.specs.Base64.{bit_of, StandsFor, IsBase64}
use Rattle.sig_encode.specs.Networks.{Net, IsNetwork}
use Rattle.sig_encode.specs.Pieces.{kept, lies_within, IsPiece, ArePieces}
use Rattle.sig_encode.specs.Written.{net_in}
use Rattle.sig_encode.specs.declared.utf16.Form.{Form}
use Rattle.sig_encode.proofs.Bits.{one_text}
use Rattle.sig_encode.proofs.Existing.{some_text, some_pieces, same_pieces}
use Rattle.sig_encode.proofs.WrittenLemmas.{network_read, network_written}
use Rattle.sig_strings.specs.Edits.{plain_text}
use Rattle.sig_strings.specs.declared.part.Part.{Part}
use Rattle.modifier_values.specs.Edited.{pattern_of}
use Rattle.modifier_values.specs.Encoded.{encoding_of, units_of, bytes_in, as_pattern, AreTexts, AreAlternatives}
use Rattle.modifier_values.specs.Uses.{network, use_refusal, parts_in, ArePatterns}
use Rattle.modifier_values.proofs.PartsLemmas.{parts_spell, spelled_is}

-- ---- only the last eight bits of a byte count

low : ℕ → ℕ
low b = b % 256

abbrev eighth : ℕ → ℕ → Type 0
eighth x j = x % 256 / 2 ^ (7 - j) % 2 ≡ x / 2 ^ (7 - j) % 2

eight : (x j : ℕ) → j < 8 → eighth x j
eight x zero h = omega arith
eight x (suc zero) h = omega arith
eight x (suc (suc zero)) h = omega arith
eight x (suc (suc (suc zero))) h = omega arith
eight x (suc (suc (suc (suc zero)))) h = omega arith
eight x (suc (suc (suc (suc (suc zero))))) h = omega arith
eight x (suc (suc (suc (suc (suc (suc zero)))))) h = omega arith
eight x (suc (suc (suc (suc (suc (suc (suc zero))))))) h = omega arith
eight x (suc (suc (suc (suc (suc (suc (suc (suc j)))))))) h = absurd (omega (arith, h))

abbrev lows : List ℕ → List ℕ
lows bytes = map (λ b. b % 256) bytes

low_at : (bytes : List ℕ) (i : ℕ) → slice_index (lows bytes) i ≡ slice_index bytes i % 256
low_at bytes i = get_or-map (λ b. b % 256) bytes i 0

low_bit : (bytes : List ℕ) (k : ℕ) → bit_of (lows bytes) k ≡ bit_of bytes k
low_bit bytes k =
    let few : k % 8 < 8 = omega arith in
    ap (λ x. x / 2 ^ (7 - k % 8) % 2) (low_at bytes (k / 8)) ∙ eight (slice_index bytes (k / 8)) (k % 8) few

are_lows : (bytes : List ℕ) → IsBytes (lows bytes)
are_lows bytes k = let e : slice_index (lows bytes) k ≡ slice_index bytes k % 256 = low_at bytes k in omega (arith, e)

low_stands : (bytes : List ℕ) (start c : ℕ) → StandsFor (lows bytes) start c → StandsFor bytes start c
low_stands bytes start c h = record {
  value = h.value;
  below = h.below;
  symbol = h.symbol;
  bits = λ j lt. h.bits j lt ∙ low_bit bytes (start + j);
}

low_text : (bytes text : List ℕ) → IsBase64 (lows bytes) text → IsBase64 bytes text
low_text bytes text h =
    let long : length (lows bytes) ≡ length bytes = length-map bytes (λ b. b % 256) in
    record {
      size = h.size ∙ ap (λ n. 4 * ((n + 2) / 3)) long;
      symbols = λ k lt. low_stands bytes (6 * k) (slice_index text k) (h.symbols k (omega (arith, lt, long)));
      padding = λ k le lt. h.padding k (omega (arith, le, long)) lt;
    }

low_zeros : (n : ℕ) → lows (replicate n 0) ≡ replicate n 0
low_zeros zero = refl
low_zeros (suc n) = ap (λ (xs : List ℕ). 0 ∷ xs) (low_zeros n)

low_piece : (offset : ℕ) (value piece : List ℕ) → IsPiece offset (lows value) piece → IsPiece offset value piece
low_piece offset value piece h =
    let long : length (lows value) ≡ length value = length-map value (λ b. b % 256) in
    let shifted : replicate offset 0 ++ lows value ≡ lows (replicate offset 0 ++ value) =
    ap (λ (xs : List ℕ). xs ++ lows value) (sym (low_zeros offset)) ∙ sym (map-append (λ b. b % 256) (replicate offset 0) value) in
    record {
      text = h.text;
      encoded = low_text (replicate offset 0 ++ value) h.text (subst (λ (bytes : List ℕ). IsBase64 bytes h.text) shifted h.encoded);
      cut = h.cut ∙ ap (λ n. kept (lies_within offset (offset + n)) 0 h.text) long;
    }

-- ---- there are texts, and no others

some_texts : (e : Encoding) (bytes : List ℕ) → (texts : List (List ℕ)) × AreTexts e bytes texts
some_texts Base64 bytes =
    let found : (text : List ℕ) × IsBase64 (lows bytes) text = some_text (lows bytes) (are_lows bytes) in
    (found.0 ∷ [], (found.0, low_text bytes found.0 found.1, refl))
some_texts Base64Offset bytes =
    let found : (pieces : List (List ℕ)) × ArePieces (lows bytes) pieces = some_pieces (lows bytes) (are_lows bytes) in
    (found.0, record { three = found.1.three; each = λ offset lt. low_piece offset bytes (get_or found.0 offset []) (found.1.each offset lt) })

same_texts : (e : Encoding) (bytes : List ℕ) (texts others : List (List ℕ)) → AreTexts e bytes texts → AreTexts e bytes others → texts ≡ others
same_texts Base64 bytes texts others a b = a.2 ∙ ap (λ (t : List ℕ). t ∷ []) (one_text bytes a.0 b.0 a.1 b.1) ∙ sym b.2
same_texts Base64Offset bytes texts others a b = same_pieces bytes texts others a b

-- ---- patterns

some_alternatives : (o : Option Encoding) (units : Option Form) (parts : List Part) → (all : List (List Part)) × AreAlternatives o units parts all
some_alternatives None units parts = (parts ∷ [], refl)
some_alternatives (Some e) units parts =
    let found = some_texts e (bytes_in units (plain_text parts)) in
    (map as_pattern found.0, (found.0, found.1, refl))

same_alternatives : (o : Option Encoding) (units : Option Form) (parts : List Part) (all others : List (List Part))
    → AreAlternatives o units parts all → AreAlternatives o units parts others → all ≡ others
same_alternatives None units parts all others a b = a ∙ sym b
same_alternatives (Some e) units parts all others a b =
    a.2 ∙ ap (λ (ts : List (List ℕ)). map as_pattern ts) (same_texts e (bytes_in units (plain_text parts)) a.0 b.0 a.1 b.1) ∙ sym b.2

pub some_patterns : (chain : Written) (t : List ℕ) → (all : List (List Part)) × ArePatterns chain t all
some_patterns chain t =
    let found : (all : List (List Part)) × AreAlternatives (encoding_of chain.modifiers) (units_of chain.modifiers) (parts_in chain t) all =
    some_alternatives (encoding_of chain.modifiers) (units_of chain.modifiers) (parts_in chain t) in (
      map (pattern_of chain) found.0,
      record {
        parts = parts_in chain t;
        spelled = parts_spell (list_any is_expand chain.modifiers) t;
        alternatives = found.0;
        are_alternatives = found.1;
        patterns_are = refl;
      },
    )

pub same_patterns : (chain : Written) (t : List ℕ) (all others : List (List Part)) → ArePatterns chain t all → ArePatterns chain t others → all ≡ others
same_patterns chain t all others a b =
    let expand : Bool = list_any is_expand chain.modifiers in
    let one : a.parts ≡ b.parts = spelled_is expand a.parts t a.spelled ∙ sym (spelled_is expand b.parts t b.spelled) in
    let o = encoding_of chain.modifiers in
    let units = units_of chain.modifiers in
    let moved : AreAlternatives o units b.parts a.alternatives = subst (λ (ps : List Part). AreAlternatives o units ps a.alternatives) one a.are_alternatives in
    a.patterns_are ∙ ap (λ (ps : List (List Part)). map (pattern_of chain) ps) (same_alternatives o units b.parts a.alternatives b.alternatives moved b.are_alternatives) ∙ sym b.patterns_are

-- ---- networks

pub same_networks : (t : List ℕ) (m n : Net) → IsNetwork t m → IsNetwork t n → m ≡ n
same_networks t m n a b = some_same (sym (network_read t m a) ∙ network_read t n b)
  where
    taken : Option Net → Net
    taken None = m
    taken (Some k) = k

    some_same : Some m ≡ Some n → m ≡ n
    some_same e = ap taken e

network_taken : (a b c d : Bool) (place : Place) → first (must 49 place a ∷ must 50 place b ∷ None ∷ None ∷ None ∷ must 44 place c ∷ None ∷ must 46 place d ∷ None ∷ None ∷ []) ≡ None → c ≡ true
network_taken true true true d place h = refl
network_taken true true false d place h = absurd cc
network_taken true false c d place h = absurd cc
network_taken false b c d place h = absurd cc

network_there : (t : List ℕ) (o : Option Net) → net_in t ≡ o → is_some o ≡ true → (n : Net) × IsNetwork t n
network_there t None is some = absurd cc
network_there t (Some n) is some = (n, network_written t n is)

pub some_network : (unbuilt : List Place) (most dashes : ℕ) (chain : Written) (place : Place) (t : List ℕ) → use_refusal unbuilt most dashes chain place (network t) ≡ None → (n : Net) × IsNetwork t n
some_network unbuilt most dashes chain place t h = network_there t (net_in t) refl (network_taken _ _ _ _ place h)
