-- Where a reading stops, by cases: what stands before is whole, and at the place a rule asks for something that doesn't stand there.
use Rattle.std.specs.Prelude.{◌≡◌, ℕ, zero, suc, Bool, true, false, ◌&&◌, ◌||◌, ◌==◌, ◌⊎◌, List, [], ◌∷◌, ◌++◌, drop, None, is_some, Ok}
use Rattle.yaml_tree.specs.Tree.{Tree}
use Rattle.yaml_inline.specs.File.{Line, begins, skip_blanks, carries_nothing}
use Rattle.yaml_inline.specs.Line.{spot, Stop, refused, syntax, body, bad_start, unexpected, starts_plain, is_dash, is_left_out}
use Rattle.yaml_inline.specs.Flow.{quoted, is_quote, is_bracket, flow_node, is_seen}
use Rattle.yaml_inline.specs.Key.{keyed, unkeyed, key_at}
use Rattle.yaml_blocks.specs.Blocks.{skip_comments}
use Rattle.yaml_blocks.specs.Reading.{Item, items_of, offset, is_level, after_spaces}
use Rattle.yaml_blocks.specs.Lays.{IsNoCollection, IsDashed, IsKeyed, LaysElement, LaysValue, LaysNode}
use Rattle.yaml_blocks.specs.LineStops.{StopsQuoted, StopsKey, StopsFlow}
use Rattle.yaml_blocks.specs.ScalarStops.{StopsAlone, StopsPlain, StopsBlockScalar}

-- A scalar or a flow collection is asked for, and then its line's and its block's end.
abbrev pub StopsScalarOrFlow : ℕ → ℕ → Line → List ℕ → List Line → Stop → Type 0
StopsScalarOrFlow d m l cs ls s =
    ((is_left_out cs || (begins 37 cs && offset l cs == 0) ≡ true) × (s ≡ refused 3 (spot l cs)))
    ⊎ ((is_quote cs ≡ true) × (StopsQuoted l cs s ⊎ ((q : List ℕ × List ℕ) × (quoted l cs ≡ Ok q) × StopsAlone l q.1 ls s)))
    ⊎ ((is_bracket cs ≡ true) × (StopsFlow d l cs s ⊎ ((q : Tree × List ℕ) × (flow_node d l cs ≡ Ok q) × StopsAlone l q.1 ls s)))
    ⊎ ((begins 124 cs || begins 62 cs ≡ true) × StopsBlockScalar m l cs ls s)
    ⊎ ((starts_plain cs ≡ true) × (is_left_out cs ≡ false) × StopsPlain m l cs ls s)
    ⊎ ((is_left_out cs || (begins 37 cs && offset l cs == 0) ≡ false) × (is_quote cs ≡ false) × (is_bracket cs ≡ false) × (begins 124 cs || begins 62 cs ≡ false)
    × (starts_plain cs ≡ false) × (s ≡ syntax l))

-- A node is asked for: no collection begins there, and the scalar or the flow collection stops; or the key stops.
abbrev pub StopsStart : ℕ → Bool → ℕ → Line → List ℕ → List Line → Stop → Type 0
StopsStart d may m l cs ls s =
    (IsNoCollection may l cs × StopsScalarOrFlow d m l cs ls s)
    ⊎ ((may ≡ true) × (is_dash cs ≡ false) × StopsKey l cs s)

-- a collection begins there
abbrev pub IsList : Bool → List ℕ → Type 0
IsList may cs = (may ≡ true) × (is_dash cs ≡ true)

abbrev pub IsMap : Bool → Line → List ℕ → Type 0
IsMap may l cs = (may ≡ true) × (is_dash cs ≡ false) × (k : List ℕ) × (rest : List ℕ) × (key_at l cs ≡ keyed k rest)

-- The nodes inside are d deep at most, and stop as N says.
module _ (d : ℕ) (N : Bool → ℕ → Line → List ℕ → List Line → Stop → Type 0) where
  -- A line's start and its indentation are asked for, and then a node.
  abbrev pub StopsBlock : ℕ → List Line → Stop → Type 0
  StopsBlock m ls s =
      (first : Line) × (more : List Line) × (skip_comments ls ≡ first ∷ more)
      × (((is_some (bad_start first) ≡ true) × (s ≡ unexpected first)) ⊎ ((bad_start first ≡ None) × N true m first (body first) more s))

  -- behind a dash
  abbrev pub StopsBehindDash : ℕ → Item → Stop → Type 0
  StopsBehindDash i x s =
      ((carries_nothing (drop 1 x.text) ≡ true) × StopsBlock (suc i) x.inner s)
      ⊎ ((carries_nothing (drop 1 x.text) ≡ false) × N (after_spaces (drop 1 x.text)) (suc i) x.line (skip_blanks (drop 1 x.text)) x.inner s)

  -- behind a key and its colon
  abbrev pub StopsBehindKey : ℕ → Item → List ℕ → Stop → Type 0
  StopsBehindKey i x rest s =
      ((carries_nothing rest ≡ true) × StopsBlock (suc i) x.inner s)
      ⊎ ((carries_nothing rest ≡ false) × N false (suc i) x.line (skip_blanks rest) x.inner s)

  -- A dash is asked for at this indentation.
  abbrev pub StopsElement : ℕ → Item → Stop → Type 0
  StopsElement i x s =
      ((is_some (bad_start x.line) ≡ true) × (s ≡ unexpected x.line))
      ⊎ ((bad_start x.line ≡ None) × (is_level i x && is_dash x.text ≡ false) × (s ≡ syntax x.line))
      ⊎ (IsDashed i x × StopsBehindDash i x s)

  -- A key is asked for at this indentation, which isn't one of those seen.
  abbrev pub StopsEntry : ℕ → List (List ℕ) → Item → Stop → Type 0
  StopsEntry i seen x s =
      ((is_some (bad_start x.line) ≡ true) × (s ≡ unexpected x.line))
      ⊎ ((bad_start x.line ≡ None) × (is_level i x ≡ false) × (s ≡ syntax x.line))
      ⊎ ((bad_start x.line ≡ None) × (is_level i x ≡ true) × StopsKey x.line x.text s)
      ⊎ ((bad_start x.line ≡ None) × (is_level i x ≡ true) × (key_at x.line x.text ≡ unkeyed) × (s ≡ syntax x.line))
      ⊎ ((bad_start x.line ≡ None) × (is_level i x ≡ true) × (k : List ℕ) × (rest : List ℕ) × (key_at x.line x.text ≡ keyed k rest) × (is_seen k seen ≡ true)
      × (s ≡ refused 5 (spot x.line x.text)))
      ⊎ ((k : List ℕ) × (rest : List ℕ) × IsKeyed i seen k rest (spot x.line x.text) x × StopsBehindKey i x rest s)

  -- The first items are whole, and the next one stops.
  abbrev pub StopsElements : ℕ → List Item → Stop → Type 0
  StopsElements i [] s = ⊥
  StopsElements i (x ∷ xs) s =
      StopsElement i x s
      ⊎ (IsDashed i x × (t : Tree) × LaysElement (λ may m l cs ls. LaysNode t d may m l cs ls) t i x × StopsElements i xs s)

  abbrev pub StopsEntries : ℕ → List (List ℕ) → List Item → Stop → Type 0
  StopsEntries i seen [] s = ⊥
  StopsEntries i seen (x ∷ xs) s =
      StopsEntry i seen x s
      ⊎ ((k : List ℕ) × (rest : List ℕ) × IsKeyed i seen k rest (spot x.line x.text) x × (t : Tree)
      × LaysValue (λ may m l cs ls. LaysNode t d may m l cs ls) t i x rest × StopsEntries i (seen ++ k ∷ []) xs s)

-- A node that begins there stops so: a collection past the depth, or what its items stop for.
abbrev pub StopsNode : ℕ → Bool → ℕ → Line → List ℕ → List Line → Stop → Type 0
StopsNode zero may m l cs ls s =
    StopsStart zero may m l cs ls s ⊎ ((IsList may cs ⊎ IsMap may l cs) × (s ≡ refused 6 (spot l cs)))
StopsNode (suc d) may m l cs ls s =
    StopsStart (suc d) may m l cs ls s
    ⊎ (IsList may cs × StopsElements d (StopsNode d) (offset l cs) (items_of false l cs ls) s)
    ⊎ (IsMap may l cs × StopsEntries d (StopsNode d) (offset l cs) [] (items_of true l cs ls) s)

-- where and why the reading of a document's lines stops
abbrev pub Stops : ℕ → List Line → Stop → Type 0
Stops depth ls s = StopsBlock depth (StopsNode depth) 0 ls s
