-- The first line at which a document is refused, and its code.
use Rattle.std.proofs.Common.{◌≡◌, ℕ, ◌<◌, ◌≤◌, max, Bool, true, false, not, List, [], ◌∷◌, ◌++◌, ◌⊎◌, inl, inr, length, take, Ok, Err, refl, sym, ap, ◌∙◌, subst, append_assoc, arith, rules}
use Rattle.std.specs.List.{prefix_len, list_all}
use Rattle.std.proofs.lemmas.List.{length-append}
use Rattle.std.proofs.Math.Seq.{take-append_seam}
use Rattle.std.proofs.lemmas.Bool.{and_parts}
use Rattle.yaml_tree.specs.Tree.{Tree, tree, refusal}
use Rattle.yaml_inline.specs.File.{Line, is_marker}
use Rattle.yaml_inline.specs.Line.{Stop, is_comment}
use Rattle.yaml_blocks.specs.Reading.{block_in}
use Rattle.yaml_blocks.specs.Laws.{HasTree, StopsFirst}
use Rattle.yaml_blocks.specs.Documents.{home, is_regular, has_content, Alive, IsRefusedAt, IsCode, stop_code, code_at, IsAnswer}
use Rattle.yaml_blocks.proofs.Tools.{not_true}
use Rattle.yaml_blocks.proofs.Sound.{reads_trees}
use Rattle.yaml_blocks.proofs.Complete.{reads_all}
use Rattle.yaml_blocks.proofs.Stopped.{stops_by_cases}
use Rattle.yaml_blocks.proofs.First.{tree_or_stop}
use Rattle.yaml_blocks.proofs.Answered.{alive_before}
use Rattle.yaml_documents.proofs.Fronts.{all_before, all_behind, all_counted, not_all, comments_all, comments_not_all, skip_all}

is_code : (depth : ℕ) (front : List Line) (l : Line) (later : List Line) → IsCode depth front l later (code_at depth front l later)
is_code depth front l later = by (is_marker l) refl (tree_or_stop depth home (front ++ l ∷ [])) where
  by : (m : Bool) → is_marker l ≡ m → (HasTree depth home (front ++ l ∷ []) ⊎ ((s : Stop) × (block_in depth 0 home (front ++ l ∷ []) ≡ Err s))) → IsCode depth front l later (code_at depth front l later)
  by true m_is t = inl (m_is, rw m_is refl)
  by false m_is (inl t) = inr (inr (m_is, t, rw (m_is, reads_all depth home (front ++ l ∷ []) t.0 t.1) refl))
  by false m_is (inr s) = inr (inl (m_is, s.0, stops_by_cases depth home (front ++ l ∷ []) s.0 s.1, rw (m_is, s.1) refl))

-- ---- where the reading of regular lines stops

-- lines without content are read
no_stop : (depth : ℕ) (ls : List Line) (s : Stop) → has_content ls ≡ false → block_in depth 0 home ls ≡ Err s → ⊥
no_stop depth ls s none e = let comment = skip_all ls none in let read = rw comment at e in cc

-- the first line that has no tree up to it, among regular lines and before others
stop_refused : (depth : ℕ) (regular others : List Line) (s : Stop) (h : StopsFirst depth home regular s) → list_all is_regular regular ≡ true
    → IsRefusedAt depth (regular ++ others) h.front h.line (h.more ++ others)
stop_refused depth regular others s h all = record {
  lines = ap (λ (xs : List Line). xs ++ others) h.lines ∙ append_assoc h.front (h.line ∷ h.more) others;
  before = λ a b is. inr (
    all_before is_regular a b (ap (list_all is_regular) (sym is) ∙ all_before is_regular h.front (h.line ∷ h.more) (ap (list_all is_regular) (sym h.lines) ∙ all)),
    h.before a b is,
  );
  dead = λ alive. elim alive [
    | inl none ↦ no_stop depth (h.front ++ h.line ∷ []) s none h.here
    | inr laid ↦ h.dead laid.1
  ];
}

regular_unmarked : (l : Line) → is_regular l ≡ true → is_marker l ≡ false
regular_unmarked l e = not_true (is_marker l) (and_parts (not (is_marker l)) _ e).0

pub stop_given : (depth : ℕ) (regular others : List Line) (s : Stop) (h : StopsFirst depth home regular s) → list_all is_regular regular ≡ true
    → IsAnswer depth (regular ++ others) (refusal (stop_code h.line (h.more ++ others) s))
stop_given depth regular others s h all =
    let here = and_parts (is_regular h.line) (list_all is_regular h.more) (all_behind is_regular h.front (h.line ∷ h.more) (ap (list_all is_regular) (sym h.lines) ∙ all)) in (
      h.front,
      h.line,
      h.more ++ others,
      stop_refused depth regular others s h all,
      inr (inl (regular_unmarked h.line here.0, s, stops_by_cases depth home (h.front ++ h.line ∷ []) s h.here, refl)),
    )

-- ---- the first line that isn't regular, or the first with content behind it

behind_one : (front : List Line) (line : Line) (n : ℕ) → n ≤ length front → n < length (front ++ line ∷ [])
behind_one front line n h = omega (arith, length-append front (line ∷ []))

order : (m n : ℕ) → (m ≤ n) ⊎ (n < m)
order m n = search rules

alive_front : (depth : ℕ) (front rest : List Line) (t : Tree) → length front ≡ max (prefix_len is_regular (front ++ rest)) (prefix_len is_comment (front ++ rest))
    → block_in depth 0 home (take (prefix_len is_regular (front ++ rest)) (front ++ rest)) ≡ Ok t → Alive depth front
alive_front depth front rest t count read =
    elim (order (prefix_len is_comment (front ++ rest)) (prefix_len is_regular (front ++ rest))) [
      | inl fewer ↦
          let here : length front ≡ prefix_len is_regular (front ++ rest) = omega arith in
          let whole : take (prefix_len is_regular (front ++ rest)) (front ++ rest) ≡ front = ap (λ (n : ℕ). take n (front ++ rest)) (sym here) ∙ take-append_seam front rest in
          inr (all_counted is_regular front rest (omega arith), (t, reads_trees depth home front t (ap (block_in depth 0 home) (sym whole) ∙ read)))
      | inr more ↦ inl (comments_all front (all_counted is_comment front rest (omega arith)))
    ]

pub dead_given : (depth : ℕ) (front : List Line) (line : Line) (more : List Line) (t : Tree)
    → length front ≡ max (prefix_len is_regular (front ++ line ∷ more)) (prefix_len is_comment (front ++ line ∷ more))
    → block_in depth 0 home (take (prefix_len is_regular (front ++ line ∷ more)) (front ++ line ∷ more)) ≡ Ok t
    → IsAnswer depth (front ++ line ∷ more) (refusal (code_at depth front line more))
dead_given depth front line more t count read =
    let whole : (front ++ line ∷ []) ++ more ≡ front ++ line ∷ more = append_assoc front (line ∷ []) more in
    let irregular : list_all is_regular (front ++ line ∷ []) ≡ false =
    not_all is_regular (front ++ line ∷ []) more (behind_one front line _ (ap≤ (ap (prefix_len is_regular) whole) (omega arith))) in
    let content : has_content (front ++ line ∷ []) ≡ true =
    comments_not_all (front ++ line ∷ []) (not_all is_comment (front ++ line ∷ []) more (behind_one front line _ (ap≤ (ap (prefix_len is_comment) whole) (omega arith)))) in (
      front,
      line,
      more,
      record {
        lines = refl;
        before = λ a b is. alive_before depth a b (subst (Alive depth) is (alive_front depth front (line ∷ more) t count read));
        dead = λ alive. elim alive [ inl none ↦ cc | inr laid ↦ let all = laid.0 in cc ];
      },
      is_code depth front line more,
    ) where
      ap≤ : {a b n : ℕ} → a ≡ b → b ≤ n → a ≤ n
      ap≤ e h = omega arith

-- all lines are regular and have a tree
pub tree_given : (depth : ℕ) (ls : List Line) (t : Tree) → list_all is_regular ls ≡ true → block_in depth 0 home ls ≡ Ok t → IsAnswer depth ls (tree t)
tree_given depth ls t all read = (all, reads_trees depth home ls t read)
