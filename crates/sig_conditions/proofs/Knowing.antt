-- What is known of words: what they take.
use Rattle.std.proofs.Common.{ℕ, ◌≡◌, ◌+◌, Bool, true, false, cond, List, [], ◌∷◌, refl, ap, sym, ◌∙◌, subst}
use Rattle.std.specs.Prelude.{Option, Some, IfSome, ◌||◌, ◌&&◌, not, if◌then◌else◌, encode_utf8_all, String}
use Rattle.std.specs.List.{position_from}
use Rattle.std.specs.BTreeMap.{BTreeMap, get_by_text}
use Rattle.std.specs.Str.{bytes_eq, all_scalars, chars, IsUtf8}
use Rattle.std.proofs.lemmas.Str.{encodes-chars, scalars-chars}
use Rattle.std.proofs.lemmas.Iterator.Adapters.{position_from-zero}
use Rattle.std.proofs.lemmas.Slice.Eq.{bytes_eq-Decides}
use Rattle.text_index.specs.Numbers.{first_number}
use Rattle.text_index.proofs.Indexing.{same_bytes}
use Rattle.sig_conditions.specs.Named.{AreKnown, selector_word}
use Rattle.sig_conditions.specs.Taken.{is_hidden, some_suffix, fits, takes, taken, taken_from, number_from, number_of}
use Rattle.sig_conditions.specs.declared.selector.Selector.{Selector}
use Rattle.sig_conditions.specs.declared.selector.Selector.TheVariants.{Them, Names}

-- the first number is the number of the name
number_is : (i : ℕ) (name : List ℕ) (names : List (List ℕ)) → position_from (λ (t : List ℕ). bytes_eq t name) i names ≡ number_from i name names
number_is i name [] = refl
number_is i name (n ∷ names) = ap (λ (o : Option ℕ). cond (bytes_eq n name) (Some i) o) (number_is (i + 1) name names)

pub first_is : (name : List ℕ) (names : List (List ℕ)) → first_number names name ≡ number_of name names
first_is name names = position_from-zero (λ (t : List ℕ). bytes_eq t name) names ∙ number_is 0 name names

-- a star takes what `them` does
any_suffix : (text : List ℕ) → some_suffix (fits []) text ≡ true
any_suffix [] = refl
any_suffix (c ∷ cs) = any_suffix cs

or_false : (a : Bool) → (a || false) ≡ a
or_false true = refl
or_false false = refl

star_takes : (name : List ℕ) → takes (Names (42 ∷ [])) name ≡ takes Them name
star_takes name =
    ap (λ (b : Bool). b && (not (is_hidden name) || false)) (any_suffix name) ∙ or_false (not (is_hidden name))

taken_alike : (s t : Selector) → ((name : List ℕ) → takes s name ≡ takes t name) → (i : ℕ) (names : List (List ℕ)) → taken_from i s names ≡ taken_from i t names
taken_alike s t e i [] = refl
taken_alike s t e i (n ∷ names) =
    ap (λ (b : Bool). if b then i ∷ taken_from (i + 1) s names else taken_from (i + 1) s names) (e n)
    ∙ ap (λ (ns : List ℕ). if takes t n then i ∷ ns else ns) (taken_alike s t e (i + 1) names)

-- a selector takes what its word does
pub word_takes : (s : Selector) (names : List (List ℕ)) → taken (Names (selector_word s)) names ≡ taken s names
word_takes Them names = taken_alike (Names (42 ∷ [])) Them star_takes 0 names
word_takes (Names word) names = refl

-- what is known after one more word
kept_at : (P : List ℕ → List ℕ → Type 0) (own word : List ℕ) (b : Bool) (numbers : List ℕ) (old : Option (List ℕ)) → (b ≡ true → own ≡ word) → P own numbers → IfSome old (P word)
    → IfSome (cond b (Some numbers) old) (P word)
kept_at P own word true numbers old same p o = subst (λ (w : List ℕ). P w numbers) (same refl) p
kept_at P own word false numbers old same p o = o

pub keeps : (names : List (List ℕ)) (s : Selector) (own word bytes numbers : List ℕ) (old new : Option (List ℕ)) → all_scalars own ≡ true → all_scalars word ≡ true
    → own ≡ selector_word s → bytes ≡ encode_utf8_all own → numbers ≡ taken s names
    → new ≡ (if bytes_eq bytes (encode_utf8_all word) then Some numbers else old)
    → IfSome old (λ ns. ns ≡ taken (Names word) names) → IfSome new (λ ns. ns ≡ taken (Names word) names)
keeps names s own word bytes numbers old new a b w f n is o =
    let takes_so : numbers ≡ taken (Names own) names = n ∙ (sym (word_takes s names) ∙ ap (λ (x : List ℕ). taken (Names x) names) (sym w)) in
    subst (λ (x : Option (List ℕ)). IfSome x (λ ns. ns ≡ taken (Names word) names))
    (sym (is ∙ (ap (λ (bs : List ℕ). if bytes_eq bs (encode_utf8_all word) then Some numbers else old) f
    ∙ ap (λ (t : Bool). if t then Some numbers else old) (same_bytes own word a b))))
    (kept_at (λ x ns. ns ≡ taken (Names x) names) own word (bytes_eq own word) numbers old (bytes_eq-Decides own word).0 takes_so o)

-- what is known of a selector's word is what the selector takes
pub is_known : {Y : Type 0} (names : List (List ℕ)) (known : BTreeMap (String Y) (List ℕ)) → AreKnown names known → (s : Selector) (bytes : List ℕ) → IsUtf8 bytes
    → chars bytes ≡ selector_word s → (found : List ℕ) → Some found ≡ get_by_text known bytes → found ≡ taken s names
is_known names known k s bytes utf8 w found e =
    let there : IfSome (get_by_text known bytes) (λ ns. ns ≡ taken (Names (chars bytes)) names) =
    subst (λ (bs : List ℕ). IfSome (get_by_text known bs) (λ ns. ns ≡ taken (Names (chars bytes)) names)) (encodes-chars bytes utf8) (k.takes (chars bytes) (scalars-chars bytes utf8)) in
    let is : found ≡ taken (Names (chars bytes)) names = subst (λ (o : Option (List ℕ)). IfSome o (λ ns. ns ≡ taken (Names (chars bytes)) names)) (sym e) there in
    is ∙ (ap (λ (x : List ℕ). taken (Names x) names) w ∙ word_takes s names)
