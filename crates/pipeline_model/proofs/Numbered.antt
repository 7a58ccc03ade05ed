-- A step's identifier is the first of its text exactly where none of the steps before has it.
use Rattle.std.proofs.Common.{ℕ, suc, ◌≡◌, ◌<◌, ◌+◌, Bool, true, false, not, ◌&&◌, ◌||◌, ◌==◌, List, [], ◌∷◌, ◌++◌, length, get_or, take, drop, map, cond, refl, sym, ap, ◌∙◌, arith}
use Rattle.std.specs.Prelude.{Option, Some, None, if◌then◌else◌, codes}
use Rattle.std.specs.List.{list_any, position_from}
use Rattle.std.specs.Str.{bytes_eq}
use Rattle.std.proofs.lemmas.Bool.{eqb-true, eq-eqb, cond-true, cond-false}
use Rattle.std.proofs.lemmas.Iterator.Adapters.{position_from-zero}
use Rattle.std.proofs.lemmas.List.{take-append-drop, length-take-le, length-map, map-append, drop_more}
use Rattle.std.proofs.lemmas.Slice.Eq.{bytes_eq-Decides}
use Rattle.sig_base.specs.declared.refusal.Refusal.{Refusal}
use Rattle.sig_base.specs.Judged.{must}
use Rattle.sig_base.proofs.Firsts.{list_at, taken_at}
use Rattle.text_index.specs.Numbers.{first_number}
use Rattle.yaml_tree.specs.Tree.{Tree}
use Rattle.yaml_tree.specs.View.{node_view, nodes_view}
use Rattle.yaml_tree.specs.Nodes.{place_of, is_text, text_in, entries_in, value_in, refused_by}
use Rattle.yaml_tree.specs.declared.tree.Node.{Node}
use Rattle.pipeline_check.specs.Causes.{sooner, sooner_of}
use Rattle.pipeline_model.specs.Checks.{is_text_of, is_text_if, has_id, is_fresh, fresh_refusal, id_refusal, id_checks}
use Rattle.pipeline_model.specs.Ids.{id_key_in, id_key_if, id_key, is_at, is_first, numbered_refusal, id_by}

-- ---- the first of a text among texts

later : (n m : ℕ) → (n == n + (m + 1)) ≡ false
later n m = by (n == n + (m + 1)) refl
  where
    by : (b : Bool) → (n == n + (m + 1)) ≡ b → (n == n + (m + 1)) ≡ false
    by true is = absurd (omega (arith, eqb-true n (n + (m + 1)) is))
    by false is = is

from_here : (n : ℕ) (before rest : List (List ℕ)) (key : List ℕ)
    → is_at (n + length before) (position_from (λ (t : List ℕ). bytes_eq t key) n (before ++ key ∷ rest)) ≡ not (list_any (λ t. bytes_eq t key) before)
from_here n [] rest key =
    ap (is_at (n + 0)) (cond-true (bytes_eq key key) (Some n) (position_from (λ (t : List ℕ). bytes_eq t key) (n + 1) rest) ((bytes_eq-Decides key key).1 refl))
    ∙ eq-eqb n (n + 0) (omega arith)
from_here n (t ∷ ts) rest key = by (bytes_eq t key) refl (from_here (n + 1) ts rest key)
  where
    one_longer : (m : ℕ) → suc m ≡ m + 1
    one_longer m = omega arith

    shifted : (m : ℕ) → n + suc m ≡ (n + 1) + m
    shifted m = omega arith

    behind : Option ℕ
    behind = position_from (λ (t : List ℕ). bytes_eq t key) (n + 1) (ts ++ key ∷ rest)

    by : (b : Bool) → bytes_eq t key ≡ b
        → is_at ((n + 1) + length ts) behind ≡ not (list_any (λ t. bytes_eq t key) ts)
        → is_at (n + length (t ∷ ts)) (cond (bytes_eq t key) (Some n) behind) ≡ not (bytes_eq t key || list_any (λ t. bytes_eq t key) ts)
    by true is rest_is =
        ap (λ b. is_at (n + length (t ∷ ts)) (cond b (Some n) behind)) is
        ∙ (ap (λ (m : ℕ). n == n + m) (one_longer (length ts)) ∙ (later n (length ts)
        ∙ sym (ap (λ b. not (b || list_any (λ t. bytes_eq t key) ts)) is)))
    by false is rest_is =
        ap (λ b. is_at (n + length (t ∷ ts)) (cond b (Some n) behind)) is
        ∙ (ap (λ (m : ℕ). is_at m behind) (shifted (length ts)) ∙ (rest_is
        ∙ sym (ap (λ b. not (b || list_any (λ t. bytes_eq t key) ts)) is)))

-- ---- the texts that stand for identifiers

key_if : (word : List ℕ) (o : Option Tree) → bytes_eq (id_key_if o) (105 ∷ word) ≡ is_text_if word o
key_if word None = refl
key_if word (Some t) = by (is_text t)
  where
    by : (b : Bool) → bytes_eq (if b then 105 ∷ text_in t else []) (105 ∷ word) ≡ (b && bytes_eq (text_in t) word)
    by true = refl
    by false = refl

any_met : (word : List ℕ) (ts : List Tree) → list_any (λ (k : List ℕ). bytes_eq k (105 ∷ word)) (map id_key ts) ≡ list_any (has_id word) ts
any_met word [] = refl
any_met word (t ∷ ts) =
    ap (λ b. b || list_any (λ (k : List ℕ). bytes_eq k (105 ∷ word)) (map id_key ts)) (key_if word (value_in (codes "id") (entries_in t)))
    ∙ ap (λ b. has_id word t || b) (any_met word ts)

-- ---- one step

first_fresh : (n : ℕ) (before rest : List Tree) (t v : Tree) → n ≡ length before → value_in (codes "id") (entries_in t) ≡ Some v
    → is_first (map id_key (before ++ t ∷ rest)) n v ≡ is_fresh before v
first_fresh n before rest t v long there = by (is_text v) refl
  where
    zero_more : (m : ℕ) → m ≡ 0 + m
    zero_more m = omega arith

    word : List ℕ
    word = text_in v

    key : is_text v ≡ true → id_key t ≡ 105 ∷ word
    key is = ap id_key_if there ∙ ap (λ b. if b then 105 ∷ word else []) is

    parted : is_text v ≡ true → map id_key (before ++ t ∷ rest) ≡ map id_key before ++ (105 ∷ word) ∷ map id_key rest
    parted is = map-append id_key before (t ∷ rest) ∙ ap (λ (k : List ℕ). map id_key before ++ k ∷ map id_key rest) (key is)

    by : (b : Bool) → is_text v ≡ b
        → (not b || is_at n (first_number (map id_key (before ++ t ∷ rest)) (105 ∷ word))) ≡ not (b && list_any (has_id word) before)
    by false is = refl
    by true is =
        ap (λ (ks : List (List ℕ)). is_at n (first_number ks (105 ∷ word))) (parted is)
        ∙ (ap (is_at n) (position_from-zero (λ (k : List ℕ). bytes_eq k (105 ∷ word)) (map id_key before ++ (105 ∷ word) ∷ map id_key rest))
        ∙ (ap (λ m. is_at m (position_from (λ (k : List ℕ). bytes_eq k (105 ∷ word)) 0 (map id_key before ++ (105 ∷ word) ∷ map id_key rest)))
        (long ∙ (sym (length-map before id_key) ∙ zero_more (length (map id_key before))))
        ∙ (from_here 0 (map id_key before) (map id_key rest) (105 ∷ word)
        ∙ ap not (any_met word before))))

same_refusal : (n : ℕ) (before rest : List Tree) (t : Tree) → n ≡ length before → id_by (map id_key (before ++ t ∷ rest)) n t ≡ id_refusal before t
same_refusal n before rest t long = by (value_in (codes "id") (entries_in t)) refl
  where
    by : (o : Option Tree) → value_in (codes "id") (entries_in t) ≡ o
        → refused_by (numbered_refusal (map id_key (before ++ t ∷ rest)) n) o ≡ refused_by (fresh_refusal before) o
    by None there = refl
    by (Some v) there = ap (must 93 (place_of v)) (first_fresh n before rest t v long there)

-- ---- one step after the other

whole_at : (i : ℕ) (ns : List Node) (n : Node) → i < length ns → n ≡ get_or ns i n
    → nodes_view ns ≡ nodes_view (take i ns) ++ node_view n ∷ nodes_view (drop (i + 1) ns)
whole_at i ns n h is =
    ap nodes_view (sym (take-append-drop i ns))
    ∙ (map-append node_view (take i ns) (drop i ns)
    ∙ ap (λ (more : List Tree). nodes_view (take i ns) ++ more) (list_at node_view i ns n h is))

long_at : (i : ℕ) (ns : List Node) → i < length ns → i ≡ length (nodes_view (take i ns))
long_at i ns h = sym (length-map (take i ns) node_view ∙ length-take-le i ns (omega (arith, h)))

checks_at : (i : ℕ) (ns : List Node) (n : Node) → i < length ns → n ≡ get_or ns i n
    → id_checks (nodes_view (take i ns)) (nodes_view (drop i ns))
    ≡ id_refusal (nodes_view (take i ns)) (node_view n) ∷ id_checks (nodes_view (take (i + 1) ns)) (nodes_view (drop (i + 1) ns))
checks_at i ns n h is =
    ap (id_checks (nodes_view (take i ns))) (list_at node_view i ns n h is)
    ∙ ap (λ (before : List Tree). id_refusal (nodes_view (take i ns)) (node_view n) ∷ id_checks before (nodes_view (drop (i + 1) ns)))
    (sym (taken_at node_view i ns n h is))

pub next_id : (keys : List (List ℕ)) (i : ℕ) (ns : List Node) (n : Node) (found r : Option Refusal) → keys ≡ map id_key (nodes_view ns)
    → i < length ns → n ≡ get_or ns i n → r ≡ id_by keys i (node_view n)
    → sooner_of found (id_checks (nodes_view (take i ns)) (nodes_view (drop i ns)))
    ≡ sooner_of (sooner found r) (id_checks (nodes_view (take (i + 1) ns)) (nodes_view (drop (i + 1) ns)))
next_id keys i ns n found r are h is judged =
    ap (sooner_of found) (checks_at i ns n h is)
    ∙ ap (λ (o : Option Refusal). sooner_of (sooner found o) (id_checks (nodes_view (take (i + 1) ns)) (nodes_view (drop (i + 1) ns))))
    (sym (judged
    ∙ (ap (λ (ks : List (List ℕ)). id_by ks i (node_view n)) (are ∙ ap (map id_key) (whole_at i ns n h is))
    ∙ same_refusal i (nodes_view (take i ns)) (nodes_view (drop (i + 1) ns)) (node_view n) (long_at i ns h))))
