-- The places of tokens that are passed.
use Rattle.std.proofs.Common.{ℕ, zero, suc, ◌≡◌, ◌+◌, ◌<◌, ◌≤◌, Bool, List, [], ◌∷◌, ◌++◌, length, drop, map, get_or, refl, sym, ◌∙◌, ap, arith, length-append}
use Rattle.std.proofs.lemmas.List.{drop-drop}
use Rattle.sig_base.specs.declared.refusal.Place.{Place}
use Rattle.query_tokens.specs.Places.{At}
use Rattle.sql_lang.specs.Tokens.{Word, Opening, Closing, IN}
use Rattle.sql_lang.specs.Grammar.{Collate, Literal, Leaf, one_of, spell_not, spell_collate, spell_literal, spell_before, spell_test}
use Rattle.query_tokens.specs.PlaceView.{place_view}
use Rattle.sql_read.specs.Answers.{place_or}

before_length : (ls : List Literal) → length (spell_before ls) ≡ length ls + length ls
before_length [] = refl
before_length (l ∷ ls) = let h = before_length ls in omega arith

one_of_length : (n : List ℕ) (c : Collate) (b : Bool) (ls : List Literal) (l : Literal)
    → length (spell_test (one_of n c b ls l)) ≡ 5 + length (spell_collate c) + length (spell_not b) + (length ls + length ls)
one_of_length n c b ls l =
    let ending = spell_before ls ++ spell_literal l ∷ Closing ∷ [] in
    let first = length-append (spell_collate c) (spell_not b ++ Word IN ∷ Opening ∷ ending) in
    let second = length-append (spell_not b) (Word IN ∷ Opening ∷ ending) in
    let third = length-append (spell_before ls) (spell_literal l ∷ Closing ∷ []) in
    let fourth = before_length ls in
    omega arith

pub behind_list : (leaf : Leaf) (n : List ℕ) (c : Collate) (b : Bool) (ls : List Literal) (l : Literal) (x y k m : ℕ) (ps qs rs us : List At) → leaf ≡ one_of n c b ls l
    → x ≡ length (spell_collate c) → y ≡ length (spell_not b) → k ≡ length ls → m ≡ length ls
    → qs ≡ drop (5 + x + y) ps → rs ≡ drop k qs → us ≡ drop m rs → us ≡ drop (length (spell_test leaf)) ps
behind_list leaf n c b ls l x y k m ps qs rs us is collated negated many again first second third =
    let count : ((5 + x + y) + k) + m ≡ length (spell_test (one_of n c b ls l)) = let h = one_of_length n c b ls l in omega arith in
    third ∙ (ap (drop m) (second ∙ (ap (drop k) first ∙ drop-drop k (5 + x + y) ps)) ∙ (drop-drop m ((5 + x + y) + k) ps
    ∙ (ap (λ (j : ℕ). drop j ps) count ∙ ap (λ (t : Leaf). drop (length (spell_test t)) ps) (sym is))))

pub or_get : (ps : List Place) (k : ℕ) (p : Place) (end : At) → k < length ps → p ≡ get_or ps k p → place_view p ≡ place_or (map place_view ps) k end
or_get [] k p end h e = absurd (omega arith)
or_get (x ∷ xs) zero p end h e = ap place_view e
or_get (x ∷ xs) (suc k) p end h e = or_get xs k p end (omega arith) e

pub or_past : (ps : List Place) (k : ℕ) (end : At) → length ps ≤ k → end ≡ place_or (map place_view ps) k end
or_past [] k end h = refl
or_past (x ∷ xs) zero end h = absurd (omega arith)
or_past (x ∷ xs) (suc k) end h = or_past xs k end (omega arith)
