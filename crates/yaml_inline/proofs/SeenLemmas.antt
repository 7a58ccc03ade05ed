-- A set of keys, seen as the list of them.
use Rattle.std.proofs.Common.{◌≡◌, ℕ, Bool, true, false, not, ◌||◌, List, [], ◌∷◌, ◌++◌, encode_utf8_all, Ok, Err, refl, sym, ap, ◌∙◌}
use Rattle.std.specs.Prelude.{map as list_map}
use Rattle.std.specs.List.{list_all}
use Rattle.std.specs.Str.{chars, bytes_eq, all_scalars}
use Rattle.std.proofs.lemmas.Bool.Decides.{same_from_decides, Decides-like}
use Rattle.std.proofs.lemmas.Slice.Eq.{bytes_eq-Decides}
use Rattle.std.proofs.lemmas.Str.{chars-encodes}
use Rattle.std.proofs.lemmas.Bool.{and_parts}
use Rattle.yaml_inline.specs.File.{Line}
use Rattle.yaml_inline.specs.Line.{spot, refused}
use Rattle.yaml_inline.specs.Flow.{is_seen, flow_key, fresh_key}
use Rattle.yaml_inline.specs.declared.seen.Seen.{Seen}
use Rattle.yaml_inline.specs.SeenKeys.{has_bytes, Knows}

-- texts are equal where their bytes are
bytes_eq-encode : (xs ys : List ℕ) → all_scalars xs ≡ true → all_scalars ys ≡ true → bytes_eq (encode_utf8_all xs) (encode_utf8_all ys) ≡ bytes_eq xs ys
bytes_eq-encode xs ys first second =
    same_from_decides _ _
    (Decides-like _ (λ same. sym (chars-encodes xs first) ∙ (ap chars same ∙ chars-encodes ys second)) (λ same. ap encode_utf8_all same) (bytes_eq-Decides (encode_utf8_all xs) (encode_utf8_all ys)))
    (bytes_eq-Decides xs ys)

is_seen-encode : (k : List ℕ) (ks : List (List ℕ)) → all_scalars k ≡ true → list_all all_scalars ks ≡ true → is_seen (encode_utf8_all k) (list_map encode_utf8_all ks) ≡ is_seen k ks
is_seen-encode k [] one all = refl
is_seen-encode k (l ∷ ls) one all =
    let parts = and_parts (all_scalars l) (list_all all_scalars ls) all in
    ap (λ (b : Bool). b || is_seen (encode_utf8_all k) (list_map encode_utf8_all ls)) (bytes_eq-encode l k parts.0 one)
    ∙ ap (λ (b : Bool). bytes_eq l k || b) (is_seen-encode k ls one parts.1)

or_swap : (a b c : Bool) → (a || (b || c)) ≡ (b || (a || c))
or_swap true true c = refl
or_swap true false c = refl
or_swap false b c = refl

or_false : (a : Bool) → (a || false) ≡ a
or_false true = refl
or_false false = refl

is_seen-push : (b k : List ℕ) (ks : List (List ℕ)) → is_seen b (list_map encode_utf8_all (ks ++ k ∷ [])) ≡ (bytes_eq (encode_utf8_all k) b || is_seen b (list_map encode_utf8_all ks))
is_seen-push b k [] = refl
is_seen-push b k (l ∷ ls) =
    ap (λ (s : Bool). bytes_eq (encode_utf8_all l) b || s) (is_seen-push b k ls)
    ∙ or_swap (bytes_eq (encode_utf8_all l) b) (bytes_eq (encode_utf8_all k) b) _

all-push : (k : List ℕ) (ks : List (List ℕ)) → list_all all_scalars ks ≡ true → all_scalars k ≡ true → list_all all_scalars (ks ++ k ∷ []) ≡ true
all-push k [] all one = rw one refl
all-push k (l ∷ ls) all one = let parts = and_parts (all_scalars l) (list_all all_scalars ls) all in rw (parts.0, all-push k ls parts.1 one) refl

pub knows_none : (s : Seen) → ((bs : List ℕ) → has_bytes s bs ≡ false) → Knows s []
knows_none s none = record { texts = refl; same = none }

pub knows_fresh : (s : Seen) (ks : List (List ℕ)) (k : List ℕ) → Knows s ks → all_scalars k ≡ true → has_bytes s (encode_utf8_all k) ≡ is_seen k ks
knows_fresh s ks k known one = known.same (encode_utf8_all k) ∙ is_seen-encode k ks one known.texts

pub knows_more : (s n : Seen) (ks : List (List ℕ)) (k : List ℕ) → Knows s ks → all_scalars k ≡ true → ((bs : List ℕ) → has_bytes n bs ≡ (bytes_eq (encode_utf8_all k) bs || has_bytes s bs)) → Knows n (ks ++ k ∷ [])
knows_more s n ks k known one more =
    record {
      texts = all-push k ks known.texts one;
      same = λ bs. more bs ∙ (ap (λ (b : Bool). bytes_eq (encode_utf8_all k) bs || b) (known.same bs) ∙ sym (is_seen-push bs k ks));
    }

pub fresh_ok : (ks : List (List ℕ)) (l : Line) (cs k after : List ℕ) → flow_key l cs ≡ Ok (k, after) → is_seen k ks ≡ false → fresh_key ks l cs ≡ Ok (k, after)
unfolding fresh_key
fresh_ok ks l cs k after e fresh = rw (e, fresh) refl

pub fresh_seen : (ks : List (List ℕ)) (l : Line) (cs k after : List ℕ) → flow_key l cs ≡ Ok (k, after) → is_seen k ks ≡ true → fresh_key ks l cs ≡ Err (refused 5 (spot l cs))
unfolding fresh_key
fresh_seen ks l cs k after e seen = rw (e, seen) refl

pub unseen : (fresh b : Bool) → fresh ≡ not b → fresh ≡ true → b ≡ false
unseen fresh true e h = cc
unseen fresh false e h = refl

pub known_key : (fresh b : Bool) → fresh ≡ not b → fresh ≡ false → b ≡ true
known_key fresh true e h = refl
known_key fresh false e h = cc
