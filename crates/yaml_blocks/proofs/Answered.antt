-- Each document with content has exactly one answer.
use Rattle.std.proofs.Common.{◌≡◌, ℕ, Bool, true, false, List, [], ◌∷◌, ◌++◌, ◌⊎◌, inl, inr, Err, refl, sym, ap, ◌∙◌, subst, append_assoc, append-nil}
use Rattle.std.specs.List.{list_any, list_all}
use Rattle.std.proofs.lemmas.Bool.{and_parts, or_parts}
use Rattle.yaml_tree.specs.Tree.{At, tree, refusal}
use Rattle.yaml_inline.specs.File.{Line, is_marker, carries}
use Rattle.yaml_inline.specs.Line.{Stop}
use Rattle.yaml_blocks.specs.Reading.{block_in}
use Rattle.yaml_blocks.specs.Laws.{HasTree}
use Rattle.yaml_blocks.specs.Documents.{home, is_regular, has_content, Alive, IsRefusedAt, IsCode, code_at, EachAnswered, OneAnswer}
use Rattle.yaml_blocks.proofs.Complete.{reads_all}
use Rattle.yaml_blocks.proofs.Stopped.{stops_by_cases, cases_stop}
use Rattle.yaml_blocks.proofs.First.{one_tree, tree_or_stop, no_tree, documents_before}

none_before : (p : Line → Bool) (a b : List Line) → list_any p (a ++ b) ≡ false → list_any p a ≡ false
none_before p [] b e = refl
none_before p (l ∷ ls) b e = let h = or_parts (p l) _ e in rw h.0 (none_before p ls b h.1)

all_before : (p : Line → Bool) (a b : List Line) → list_all p (a ++ b) ≡ true → list_all p a ≡ true
all_before p [] b e = refl
all_before p (l ∷ ls) b e = let h = and_parts (p l) _ e in rw h.0 (all_before p ls b h.1)

pub alive_before : (depth : ℕ) (a b : List Line) → Alive depth (a ++ b) → Alive depth a
alive_before depth a b (inl h) = inl (none_before carries a b h)
alive_before depth a b (inr h) = inr (all_before is_regular a b h.0, documents_before depth home a b h.1)

pub alive_or_dead : (depth : ℕ) (ls : List Line) → Alive depth ls ⊎ (Alive depth ls → ⊥)
alive_or_dead depth ls = by (has_content ls) refl (list_all is_regular ls) refl (tree_or_stop depth home ls) where
  by : (c : Bool) → has_content ls ≡ c → (r : Bool) → list_all is_regular ls ≡ r → (HasTree depth home ls ⊎ ((s : Stop) × (block_in depth 0 home ls ≡ Err s))) → Alive depth ls ⊎ (Alive depth ls → ⊥)
  by false c_is r r_is t = inl (inl c_is)
  by true c_is false r_is t = inr (λ alive. elim alive [ inl h ↦ cc | inr h ↦ cc ])
  by true c_is true r_is (inl t) = inl (inr (r_is, t))
  by true c_is true r_is (inr s) = inr (λ alive. elim alive [ inl h ↦ cc | inr h ↦ no_tree depth home ls s.0 s.1 h.1 ])

-- a document's lines are alive, or one of them is the first that isn't
abbrev Refused : ℕ → List Line → Type 0
Refused depth ls = (front : List Line) × (line : Line) × (more : List Line) × IsRefusedAt depth ls front line more

refused_or_alive : (depth : ℕ) (front more : List Line) → Alive depth front → Alive depth (front ++ more) ⊎ Refused depth (front ++ more)
refused_or_alive depth front [] alive = inl (subst (Alive depth) (sym (append-nil front)) alive)
refused_or_alive depth front (l ∷ ls) alive =
    elim (alive_or_dead depth (front ++ l ∷ [])) [
      | inl h ↦ subst (λ (xs : List Line). Alive depth xs ⊎ Refused depth xs) (append_assoc front (l ∷ []) ls) (refused_or_alive depth (front ++ l ∷ []) ls h)
      | inr h ↦ inr (front, l, ls, record { lines = refl; before = λ a b is. alive_before depth a b (subst (Alive depth) is alive); dead = h })
    ]

-- ---- the code of a line is one

code_is : (depth : ℕ) (front : List Line) (l : Line) (later : List Line) (p : ℕ × At) → IsCode depth front l later p → p ≡ code_at depth front l later
code_is depth front l later p (inl h) = rw h.0 h.1
code_is depth front l later p (inr (inl h)) = rw (h.0, cases_stop depth home (front ++ l ∷ []) h.1 h.2) h.3
code_is depth front l later p (inr (inr h)) = rw (h.0, reads_all depth home (front ++ l ∷ []) h.1.0 h.1.1) h.2

is_code : (depth : ℕ) (front : List Line) (l : Line) (later : List Line) → IsCode depth front l later (code_at depth front l later)
is_code depth front l later = by (is_marker l) refl (tree_or_stop depth home (front ++ l ∷ [])) where
  by : (m : Bool) → is_marker l ≡ m → (HasTree depth home (front ++ l ∷ []) ⊎ ((s : Stop) × (block_in depth 0 home (front ++ l ∷ []) ≡ Err s))) → IsCode depth front l later (code_at depth front l later)
  by true m_is t = inl (m_is, rw m_is refl)
  by false m_is (inl t) = inr (inr (m_is, t, rw (m_is, reads_all depth home (front ++ l ∷ []) t.0 t.1) refl))
  by false m_is (inr s) = inr (inl (m_is, s.0, stops_by_cases depth home (front ++ l ∷ []) s.0 s.1, rw (m_is, s.1) refl))

pub each_answered : EachAnswered
each_answered depth ls content =
    elim (refused_or_alive depth [] ls (inl refl)) [
      | inl (inl h) ↦ cc
      | inl (inr h) ↦ (tree h.1.0, (h.0, h.1.1))
      | inr h ↦ (refusal (code_at depth h.0 h.1 h.2), (h.0, h.1, h.2, h.3, is_code depth h.0 h.1 h.2))
    ]

-- ---- there is one

-- two ways to part lines at a line are the same, or one line stands before the other
abbrev Parting : List Line → List Line → Line → Line → List Line → List Line → Type 0
Parting f g k l m n =
    ((f ≡ g) × (k ≡ l) × (m ≡ n))
    ⊎ (((b : List Line) × (g ≡ (f ++ k ∷ []) ++ b))
    ⊎ ((b : List Line) × (f ≡ (g ++ l ∷ []) ++ b)))

parting_behind : (x : Line) (f g : List Line) (k l : Line) (m n : List Line) → Parting f g k l m n → Parting (x ∷ f) (x ∷ g) k l m n
parting_behind x f g k l m n (inl h) = inl (ap (λ (xs : List Line). x ∷ xs) h.0, h.1, h.2)
parting_behind x f g k l m n (inr (inl h)) = inr (inl (h.0, ap (λ (xs : List Line). x ∷ xs) h.1))
parting_behind x f g k l m n (inr (inr h)) = inr (inr (h.0, ap (λ (xs : List Line). x ∷ xs) h.1))

parting : (f g : List Line) (k l : Line) (m n : List Line) → f ++ k ∷ m ≡ g ++ l ∷ n → Parting f g k l m n
parting [] [] k l m n e = inl (refl, cc, cc)
parting [] (y ∷ ys) k l m n e = inr (inl (ys, ap (λ (x : Line). x ∷ ys) cc))
parting (x ∷ xs) [] k l m n e = inr (inr (xs, ap (λ (x : Line). x ∷ xs) cc))
parting (x ∷ xs) (y ∷ ys) k l m n e =
    let same : x ≡ y = cc in
    let others : xs ++ k ∷ m ≡ ys ++ l ∷ n = cc in
    subst (λ (y : Line). Parting (x ∷ xs) (y ∷ ys) k l m n) same (parting_behind x xs ys k l m n (parting xs ys k l m n others))

-- a line that is refused has no tree behind it
no_tree_refused : (depth : ℕ) (ls front : List Line) (line : Line) (more : List Line) → IsRefusedAt depth ls front line more → Alive depth ls → ⊥
no_tree_refused depth ls front line more refused alive =
    refused.dead (alive_before depth (front ++ line ∷ []) more (subst (Alive depth) (refused.lines ∙ sym (append_assoc front (line ∷ []) more)) alive))

same_codes : (depth : ℕ) (ls f g : List Line) (k l : Line) (m n : List Line) (p q : ℕ × At)
    → IsRefusedAt depth ls f k m → IsCode depth f k m p → IsRefusedAt depth ls g l n → IsCode depth g l n q → p ≡ q
same_codes depth ls f g k l m n p q first code second other =
    elim (parting f g k l m n (sym first.lines ∙ second.lines)) [
      | inl h ↦ code_is depth f k m p code ∙ (rw (h.0, h.1, h.2) refl ∙ sym (code_is depth g l n q other))
      | inr (inl h) ↦ absurd (first.dead (second.before (f ++ k ∷ []) h.0 h.1))
      | inr (inr h) ↦ absurd (second.dead (first.before (g ++ l ∷ []) h.0 h.1))
    ]

pub one_answer : OneAnswer
one_answer depth ls (tree t) (tree u) first second = ap tree (one_tree depth home ls t u first.1 second.1)
one_answer depth ls (tree t) (refusal q) first (front, line, more, refused, code) = absurd (no_tree_refused depth ls front line more refused (inr (first.0, (t, first.1))))
one_answer depth ls (refusal p) (tree u) (front, line, more, refused, code) second = absurd (no_tree_refused depth ls front line more refused (inr (second.0, (u, second.1))))
one_answer depth ls (refusal p) (refusal q) (f, k, m, first, code) (g, l, n, second, other) = ap refusal (same_codes depth ls f g k l m n p q first code second other)
