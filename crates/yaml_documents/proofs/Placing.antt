-- A refusal's place lies on the line that a document is refused at.
use Rattle.std.proofs.Common.{◌≡◌, ℕ, Bool, true, false, cond, ◌&&◌, List, [], ◌∷◌, ◌++◌, inl, inr, Ok, refl, sym, subst, append-nil}
use Rattle.yaml_tree.specs.Tree.{At, Tree, null, scalar}
use Rattle.yaml_inline.specs.File.{Line}
use Rattle.yaml_inline.specs.Line.{Stop, refused, unclosed}
use Rattle.yaml_blocks.specs.Reading.{block_in}
use Rattle.yaml_blocks.specs.Documents.{home, Alive, is_before_forbidden, closes_later, first_open, stop_code}
use Rattle.yaml_blocks.proofs.Complete.{reads_all}
use Rattle.yaml_blocks.proofs.Stopped.{cases_stop}
use Rattle.yaml_documents.specs.Places.{IsOn, AreOn, StandsOn, RefusedOnTheLine}
use Rattle.yaml_documents.proofs.OneLine.{start_on}
use Rattle.yaml_documents.proofs.OneMore.{blocks_then, stands}
use Rattle.yaml_documents.proofs.Fronts.{skip_all}

code_if : (l : Line) (b : Bool) (p q : ℕ × At) → IsOn l p.1 → IsOn l q.1 → IsOn l (cond b p q).1
code_if l true p q h g = h
code_if l false p q h g = g

open_on : (l : Line) (opens : List (At × ℕ)) (later : List Line) → AreOn l opens → IsOn l (first_open l opens later).1
open_on l [] later h = start_on l
open_on l (x ∷ xs) later h = code_if l (is_before_forbidden l x.0 && closes_later x.1 later) (3, x.0) (first_open l xs later) h.0 (open_on l xs later h.1)

stop_on : (l : Line) (later : List Line) (s : Stop) → StandsOn l s → IsOn l (stop_code l later s).1
stop_on l later (refused c a) h = code_if l (is_before_forbidden l a) (c, a) (4, _) h (start_on l)
stop_on l later (unclosed n opens) h = open_on l opens later h.1

-- lines that are alive are read
alive_read : (depth : ℕ) (ls : List Line) → Alive depth ls → (t : Tree) × (block_in depth 0 home ls ≡ Ok t)
alive_read depth ls (inl none) = (scalar home null, rw (skip_all ls none) refl)
alive_read depth ls (inr h) = (h.1.0, reads_all depth home ls h.1.0 h.1.1)

pub refused_on_the_line : RefusedOnTheLine
refused_on_the_line depth ls front line more p dead (inl h) = subst (λ (q : ℕ × At). IsOn line q.1) (sym h.1) (start_on line)
refused_on_the_line depth ls front line more p dead (inr (inl (marker, s, stops, is))) =
    let read = alive_read depth front (dead.before front [] (sym (append-nil front))) in
    subst (λ (q : ℕ × At). IsOn line q.1) (sym is)
    (stop_on line more s
    (stands line (block_in depth 0 home front) (block_in depth 0 home (front ++ line ∷ [])) read.0 s (blocks_then depth 0 home front line) read.1 (cases_stop depth home (front ++ line ∷ []) s stops)))
refused_on_the_line depth ls front line more p dead (inr (inr h)) = subst (λ (q : ℕ × At). IsOn line q.1) (sym h.2) (start_on line)
