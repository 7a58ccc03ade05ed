-- A set of names, seen as the list of them.
use Rattle.std.proofs.Common.{ℕ, ◌+◌, ◌<◌, ◌≡◌, Bool, true, false, cond, ◌||◌, List, [], ◌∷◌, ◌++◌, length, take, get_or, encode_utf8_all, refl, sym, subst, ap, ◌∙◌}
use Rattle.std.specs.Prelude.{String}
use Rattle.std.specs.BTreeSet.{BTreeSet, contains_text}
use Rattle.std.specs.Str.{bytes_eq}
use Rattle.std.proofs.lemmas.Bool.Decides.{same_from_decides, Decides-like}
use Rattle.std.proofs.lemmas.Slice.Eq.{bytes_eq-Decides}
use Rattle.std.proofs.lemmas.Str.{encodes_same}
use Rattle.std.proofs.lemmas.List.{take_more}
use Rattle.pipeline_model.specs.Concerned.{is_among}
use Rattle.pipeline_rename.specs.Known.{AreKnown}

-- names are equal where their bytes are
same_bytes : (a b : List ℕ) → bytes_eq (encode_utf8_all a) (encode_utf8_all b) ≡ bytes_eq a b
same_bytes a b =
    same_from_decides _ _
    (Decides-like _ (λ same. encodes_same a b same) (λ same. ap encode_utf8_all same) (bytes_eq-Decides (encode_utf8_all a) (encode_utf8_all b)))
    (bytes_eq-Decides a b)

or_swap : (a b c : Bool) → (a || (b || c)) ≡ (b || (a || c))
or_swap true true c = refl
or_swap true false c = refl
or_swap false b c = refl

pub among_more : (names : List (List ℕ)) (own name : List ℕ) → is_among (names ++ own ∷ []) name ≡ (bytes_eq own name || is_among names name)
among_more [] own name = refl
among_more (n ∷ ns) own name =
    ap (λ (b : Bool). bytes_eq n name || b) (among_more ns own name) ∙ or_swap (bytes_eq n name) (bytes_eq own name) (is_among ns name)

or_cond : (a b : Bool) → cond a true b ≡ (a || b)
or_cond true b = refl
or_cond false b = refl

-- one more name in both
pub known_more : {Y : Type 0} (names : List (List ℕ)) (own bytes : List ℕ) (old new : BTreeSet (String Y)) → AreKnown names old → bytes ≡ encode_utf8_all own
    → ((bs : List ℕ) → contains_text new bs ≡ cond (bytes_eq bytes bs) true (contains_text old bs)) → AreKnown (names ++ own ∷ []) new
known_more names own bytes old new known is more = λ name.
    more (encode_utf8_all name)
    ∙ (or_cond (bytes_eq bytes (encode_utf8_all name)) (contains_text old (encode_utf8_all name))
    ∙ (ap (λ (bs : List ℕ). bytes_eq bs (encode_utf8_all name) || contains_text old (encode_utf8_all name)) is
    ∙ (ap (λ (b : Bool). b || contains_text old (encode_utf8_all name)) (same_bytes own name)
    ∙ (ap (λ (b : Bool). bytes_eq own name || b) (known name) ∙ sym (among_more names own name)))))

-- a name more of a list
pub known_next : {Y : Type 0} (names : List (List ℕ)) (i : ℕ) (own : List ℕ) (known : BTreeSet (String Y)) → i < length names → own ≡ get_or names i own
    → AreKnown (take i names ++ own ∷ []) known → AreKnown (take (i + 1) names) known
known_next {Y = Y} names i own known inside is all =
    subst (λ (ns : List (List ℕ)). AreKnown {Y = Y} ns known) (sym (take_more names i own inside ∙ ap (λ (n : List ℕ). take i names ++ n ∷ []) (sym is))) all
