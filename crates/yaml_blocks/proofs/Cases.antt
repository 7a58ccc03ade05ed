-- What a node's reading is, by what begins there.
use Rattle.std.proofs.Common.{◌≡◌, ℕ, Bool, true, false, ◌⊎◌, inl, inr, List, [], ◌∷◌, Ok, Err, refl}
use Rattle.yaml_tree.specs.Tree.{Tree}
use Rattle.yaml_inline.specs.File.{Line, ends_line}
use Rattle.yaml_inline.specs.Line.{Stop, Read, is_dash}
use Rattle.yaml_inline.specs.Key.{Keyed, keyed, unkeyed, key_stop, key_at}
use Rattle.yaml_blocks.specs.Blocks.{skip_comments, nothing_from, nothing_in, alone}
use Rattle.yaml_blocks.specs.Reading.{scalar_or_flow_in, keyed_then, node_with, node_in, block_with, sequence_in, map_in}
use Rattle.yaml_blocks.specs.Lays.{IsAlone, IsNoCollection}
use Rattle.yaml_blocks.proofs.Tools.{choose, bind_ok}

-- the readers of collections whose nodes are at most d deep
abbrev pub lists : ℕ → Line → List ℕ → List Line → Read Tree
lists d = sequence_in (block_with (node_in d)) (node_in d)

abbrev pub maps : ℕ → Line → List ℕ → List Line → Read Tree
maps d = map_in (block_with (node_in d)) (node_in d)

-- a list, a map, a key that stops, or none of these begins there
abbrev pub NodeCases : (Line → List ℕ → List Line → Read Tree) → (Line → List ℕ → List Line → Read Tree) → ℕ → Bool → ℕ → Line → List ℕ → List Line → Read Tree → Type 0
NodeCases a_list a_map d may m l cs ls r =
    (IsNoCollection may l cs × (scalar_or_flow_in d m l cs ls ≡ r))
    ⊎ (((may ≡ true) × (is_dash cs ≡ true) × (a_list l cs ls ≡ r))
    ⊎ (((may ≡ true) × (is_dash cs ≡ false) × (k : List ℕ) × (rest : List ℕ) × (key_at l cs ≡ keyed k rest) × (a_map l cs ls ≡ r))
    ⊎ ((may ≡ true) × (is_dash cs ≡ false) × (s : Stop) × (key_at l cs ≡ key_stop s) × (Err s ≡ r))))

pub node_cases : (a_list a_map : Line → List ℕ → List Line → Read Tree) (d : ℕ) (may : Bool) (m : ℕ) (l : Line) (cs : List ℕ) (ls : List Line) (r : Read Tree)
    → node_with a_list a_map d may m l cs ls ≡ r → NodeCases a_list a_map d may m l cs ls r
node_cases a_list a_map d false m l cs ls r e = inl (inl refl, e)
node_cases a_list a_map d true m l cs ls r e =
    elim (choose (is_dash cs) _ _ _ e) [
      | inl h ↦ inr (inl (refl, h.0, h.1))
      | inr h ↦ by (key_at l cs) refl h.0 h.1
    ] where
      by : (k : Keyed) → key_at l cs ≡ k → is_dash cs ≡ false → keyed_then k (a_map l cs ls) (scalar_or_flow_in d m l cs ls) ≡ r → NodeCases a_list a_map d true m l cs ls r
      by (keyed k rest) at none e = inr (inr (inl (refl, none, k, rest, at, e)))
      by unkeyed at none e = inl (inr (none, at), e)
      by (key_stop s) at none e = inr (inr (inr (refl, none, s, at, e)))

from_ok : (ls : List Line) (u : Unit {0}) → nothing_from ls ≡ Ok u → ls ≡ []
from_ok [] u e = refl
from_ok (l ∷ ls) u e = cc

pub nothing_ok : (ls : List Line) (u : Unit {0}) → nothing_in ls ≡ Ok u → skip_comments ls ≡ []
unfolding nothing_in
nothing_ok ls u e = from_ok (skip_comments ls) u e

pub nothing_none : (ls : List Line) → skip_comments ls ≡ [] → nothing_in ls ≡ Ok tt
unfolding nothing_in
nothing_none ls e = rw e

pub alone_ok : {A : Type 0} (l : Line) (rest : List ℕ) (ls : List Line) (x y : A) → alone l rest ls x ≡ Ok y → IsAlone rest ls × (x ≡ y)
alone_ok l rest ls x y e =
    elim (choose (ends_line rest) _ _ _ e) [
      | inl h ↦ let (u, at, same) = bind_ok (nothing_in ls) _ _ h.1 in (record { line = h.0; block = nothing_ok ls u at }, cc)
      | inr h ↦ cc
    ]

pub alone_is : {A : Type 0} (l : Line) (rest : List ℕ) (ls : List Line) (x : A) → IsAlone rest ls → alone l rest ls x ≡ Ok x
alone_is l rest ls x h = rw (h.line, nothing_none ls h.block)
