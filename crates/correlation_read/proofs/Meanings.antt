-- A rule that an index finds is the first that a text means.
use Rattle.std.proofs.Common.{ℕ, ◌≡◌, ◌+◌, Bool, true, false, ◌||◌, cond, List, [], ◌∷◌, ◌++◌, map, refl, sym, ap, ◌∙◌, arith}
use Rattle.std.specs.Prelude.{Option, Some, None, option_map, suc}
use Rattle.std.specs.Str.{bytes_eq}
use Rattle.rule_head.specs.declared.head.Head.{Head}
use Rattle.text_index.specs.Numbers.{first_number}
use Rattle.correlation_read.specs.Binding.{is_text, is_meant, names_of_head}
use Rattle.correlation_read.specs.Sources.{listed, texts_of, rules_from, rule_at, rule_beside, place_among}
use Rattle.correlation_read.proofs.Positions.{here, later}

-- the number beside a text of a longer list is that beside one at its front, or else one of the rest
later_beside : (n : ℕ) (rules : List ℕ) (o : Option ℕ) → option_map (rule_at (n ∷ rules)) (option_map (λ k. suc k) o) ≡ option_map (rule_at rules) o
later_beside n rules None = refl
later_beside n rules (Some k) = refl

one_beside : (n : ℕ) (named : Option (List ℕ)) (texts : List (List ℕ)) (rules : List ℕ) (text : List ℕ)
    → rule_beside (listed named ++ texts) (map (λ t. n) (listed named) ++ rules) text ≡ cond (is_text text named) (Some n) (rule_beside texts rules text)
one_beside n None texts rules text = refl
one_beside n (Some t) texts rules text = by (bytes_eq t text) refl where
  by : (b : Bool) → bytes_eq t text ≡ b → rule_beside (t ∷ texts) (n ∷ rules) text ≡ cond b (Some n) (rule_beside texts rules text)
  by true h = ap (option_map (rule_at (n ∷ rules))) (here (λ (x : List ℕ). bytes_eq x text) t texts h)
  by false h = ap (option_map (rule_at (n ∷ rules))) (later (λ (x : List ℕ). bytes_eq x text) t texts h) ∙ later_beside n rules (first_number texts text)

-- the same number from a later rule on
moved : (n : ℕ) (o : Option ℕ) → option_map (λ k. suc n + k) o ≡ option_map (λ k. n + k) (option_map (λ k. suc k) o)
moved n None = refl
moved n (Some k) = ap Some (omega arith)

either : (a b : Bool) (n : ℕ) (o : Option ℕ) → cond a (Some n) (cond b (Some n) o) ≡ cond (a || b) (Some n) o
either true b n o = refl
either false b n o = refl

beside_from : (n : ℕ) (heads : List Head) (text : List ℕ) → rule_beside (texts_of heads) (rules_from n heads) text ≡ option_map (λ k. n + k) (place_among heads text)
beside_from n [] text = refl
beside_from n (h ∷ hs) text =
    one_beside n h.name (listed h.id ++ texts_of hs) (map (λ t. n) (listed h.id) ++ rules_from (suc n) hs) text
    ∙ (ap (cond (is_text text h.name) (Some n)) (one_beside n h.id (texts_of hs) (rules_from (suc n) hs) text)
    ∙ (either (is_text text h.name) (is_text text h.id) n (rule_beside (texts_of hs) (rules_from (suc n) hs) text)
    ∙ by (beside_from (suc n) hs text) (is_meant text (names_of_head h)) refl))
  where
    meant : Head → Bool
    meant x = is_meant text (names_of_head x)

    by : rule_beside (texts_of hs) (rules_from (suc n) hs) text ≡ option_map (λ k. suc n + k) (place_among hs text) → (b : Bool) → meant h ≡ b
        → cond b (Some n) (rule_beside (texts_of hs) (rules_from (suc n) hs) text) ≡ option_map (λ k. n + k) (place_among (h ∷ hs) text)
    by rest true e = ap Some (omega arith) ∙ sym (ap (option_map (λ k. n + k)) (here meant h hs e))
    by rest false e = rest ∙ (moved n (place_among hs text) ∙ sym (ap (option_map (λ k. n + k)) (later meant h hs e)))

same_number : (o : Option ℕ) → option_map (λ k. 0 + k) o ≡ o
same_number None = refl
same_number (Some k) = ap Some (omega arith)

pub found_beside : (texts : List (List ℕ)) (rules : List ℕ) (heads : List Head) (text : List ℕ) → texts ≡ texts_of heads → rules ≡ rules_from 0 heads
    → rule_beside texts rules text ≡ place_among heads text
found_beside texts rules heads text of beside =
    ap (λ (ts : List (List ℕ)). rule_beside ts rules text) of
    ∙ (ap (λ (rs : List ℕ). rule_beside (texts_of heads) rs text) beside ∙ (beside_from 0 heads text ∙ same_number (place_among heads text)))
