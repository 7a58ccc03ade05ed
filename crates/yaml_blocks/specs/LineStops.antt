-- Where and why a reading stops on one line, by cases: in quotes, at a key of a block map, in a flow collection.
use Rattle.std.specs.Prelude.{◌≡◌, ℕ, zero, suc, true, false, not, ◌&&◌, ◌||◌, if◌then◌else◌, ◌⊎◌, List, [], ◌∷◌, ◌++◌, drop, Ok}
use Rattle.std.specs.Str.{bytes_eq}
use Rattle.yaml_tree.specs.Tree.{Tree, Elements, no_elements, element, Members, no_members, member}
use Rattle.yaml_inline.specs.File.{Line, begins, skip_blanks, ends_line}
use Rattle.yaml_inline.specs.Line.{spot, Stop, refused, unclosed, syntax, starts_plain, plain_front, plain_rest, is_left_out}
use Rattle.yaml_inline.specs.Scalar.{Quoted, open_ended, bad_escape, single, double}
use Rattle.yaml_inline.specs.Flow.{Front, opened, is_quote, quoted, merge, flow_key, is_seen, fresh_key, is_bracket, flow_element, flow_value, flow_entry, flow_node}

-- ---- quotes

-- the quote that opens here, and what follows it
abbrev pub quote_of : List ℕ → ℕ
quote_of cs = if begins 39 cs then 39 else 34

abbrev pub behind_quote : List ℕ → Quoted
behind_quote cs = if begins 39 cs then single (drop 1 cs) else double 0 (drop 1 cs)

-- No quote closes the scalar on the line, or an escape is asked for and there is none such.
abbrev pub StopsQuoted : Line → List ℕ → Stop → Type 0
StopsQuoted l cs s =
    ((behind_quote cs ≡ open_ended) × (s ≡ unclosed l.number ((spot l cs, quote_of cs) ∷ [])))
    ⊎ ((n : ℕ) × (behind_quote cs ≡ bad_escape n) × (s ≡ refused 9 (spot l (drop (suc n) cs))))

-- ---- keys of block maps

-- A key is asked for, or something else: a form that is left out, quotes that stop, or the key `<<`.
abbrev pub StopsKey : Line → List ℕ → Stop → Type 0
StopsKey l cs s =
    ((is_left_out cs ≡ true) × (s ≡ refused 3 (spot l cs)))
    ⊎ ((is_quote cs ≡ true) × StopsQuoted l cs s)
    ⊎ ((is_left_out cs ≡ false) × (is_quote cs ≡ false) × (starts_plain cs && begins 58 (plain_rest false cs) ≡ true) × (bytes_eq (plain_front false cs) merge ≡ true)
    × (s ≡ refused 3 (spot l cs)))

-- ---- flow collections

-- What is asked for doesn't stand there. At the line's end the collections that are open don't close.
abbrev pub StopsWanting : Line → List ℕ → Stop → Type 0
StopsWanting l rest s =
    ((ends_line rest ≡ true) × (s ≡ unclosed l.number []))
    ⊎ ((ends_line rest ≡ false) × (s ≡ syntax l))

-- A colon is asked for.
abbrev pub StopsColon : Line → List ℕ → Stop → Type 0
StopsColon l rest s = (begins 58 (skip_blanks rest) ≡ false) × StopsWanting l rest s

-- A comma or the closing bracket is asked for.
abbrev pub StopsSeparator : ℕ → Line → List ℕ → Stop → Type 0
StopsSeparator close l rest s = (begins 44 (skip_blanks rest) || begins close (skip_blanks rest) ≡ false) × StopsWanting l rest s

-- A key and its colon are asked for.
abbrev pub StopsFlowKey : Line → List ℕ → Stop → Type 0
StopsFlowKey l cs s =
    ((is_left_out cs ≡ true) × (s ≡ refused 3 (spot l cs)))
    ⊎ ((is_quote cs ≡ true) × (StopsQuoted l cs s ⊎ ((q : List ℕ × List ℕ) × (quoted l cs ≡ Ok q) × StopsColon l q.1 s)))
    ⊎ ((is_left_out cs ≡ false) × (is_quote cs ≡ false) × (starts_plain cs ≡ false) × (s ≡ syntax l))
    ⊎ ((is_left_out cs ≡ false) × (is_quote cs ≡ false) × (starts_plain cs ≡ true) × (bytes_eq (plain_front true cs) merge && begins 58 (plain_rest true cs) ≡ true)
    × (s ≡ refused 3 (spot l cs)))
    ⊎ ((is_left_out cs ≡ false) × (is_quote cs ≡ false) × (starts_plain cs ≡ true) × (bytes_eq (plain_front true cs) merge && begins 58 (plain_rest true cs) ≡ false)
    × StopsColon l (plain_rest true cs) s)

-- A scalar is asked for.
abbrev pub StopsFlowScalar : Line → List ℕ → Stop → Type 0
StopsFlowScalar l cs s =
    ((is_left_out cs ≡ true) × (s ≡ refused 3 (spot l cs)))
    ⊎ ((is_quote cs ≡ true) × StopsQuoted l cs s)
    ⊎ ((is_left_out cs ≡ false) × (is_quote cs ≡ false) × (starts_plain cs ≡ false) × (s ≡ syntax l))

-- The nodes inside are what node reads, and stop as N says.
module _ (node : Line → List ℕ → Front Tree) (N : Line → List ℕ → Stop → Type 0) where
  -- An element is asked for, which is no pair, and what follows an element.
  abbrev pub StopsFlowElement : Line → List ℕ → Stop → Type 0
  StopsFlowElement l cs s =
      N l cs s
      ⊎ ((e : Tree × List ℕ) × (node l cs ≡ Ok e) × (begins 58 (skip_blanks e.1) && not (is_bracket cs) ≡ true) × (s ≡ refused 3 (spot l cs)))
      ⊎ ((e : Tree × List ℕ) × (node l cs ≡ Ok e) × (begins 58 (skip_blanks e.1) && not (is_bracket cs) ≡ false) × StopsSeparator 93 l e.1 s)

  -- These elements are whole, and behind them the line ends or the next one stops.
  abbrev pub StopsFlowElements : Elements → Line → List ℕ → Stop → Type 0
  StopsFlowElements no_elements l rest s =
      ((ends_line rest ≡ true) × (s ≡ unclosed l.number []))
      ⊎ ((ends_line rest ≡ false) × (begins 93 (skip_blanks rest) ≡ false) × StopsFlowElement l (skip_blanks rest) s)
  StopsFlowElements (element t ts) l rest s =
      (ends_line rest ≡ false) × (begins 93 (skip_blanks rest) ≡ false) × (more : List ℕ) × (flow_element node l (skip_blanks rest) ≡ Ok (t, more)) × StopsFlowElements ts l more s

  -- A value is asked for, where it isn't empty.
  abbrev pub StopsFlowValue : Line → List ℕ → Stop → Type 0
  StopsFlowValue l rest s =
      ((ends_line rest ≡ true) × (s ≡ unclosed l.number []))
      ⊎ ((ends_line rest ≡ false) × (begins 44 (skip_blanks rest) || begins 125 (skip_blanks rest) ≡ false) × N l (skip_blanks rest) s)

  -- A key is asked for, which isn't one of those seen, then its value, and what follows a value.
  abbrev pub StopsFlowEntry : List (List ℕ) → Line → List ℕ → Stop → Type 0
  StopsFlowEntry seen l cs s =
      StopsFlowKey l cs s
      ⊎ ((k : List ℕ × List ℕ) × (flow_key l cs ≡ Ok k) × (is_seen k.0 seen ≡ true) × (s ≡ refused 5 (spot l cs)))
      ⊎ ((k : List ℕ × List ℕ) × (fresh_key seen l cs ≡ Ok k) × StopsFlowValue l k.1 s)
      ⊎ ((k : List ℕ × List ℕ) × (fresh_key seen l cs ≡ Ok k) × (v : Tree × List ℕ) × (flow_value node l (spot l cs) k.1 ≡ Ok v) × StopsSeparator 125 l v.1 s)

  -- These entries are whole, and behind them the line ends or the next one stops.
  abbrev pub StopsFlowEntries : Members → List (List ℕ) → Line → List ℕ → Stop → Type 0
  StopsFlowEntries no_members seen l rest s =
      ((ends_line rest ≡ true) × (s ≡ unclosed l.number []))
      ⊎ ((ends_line rest ≡ false) × (begins 125 (skip_blanks rest) ≡ false) × StopsFlowEntry seen l (skip_blanks rest) s)
  StopsFlowEntries (member k a t ms) seen l rest s =
      (ends_line rest ≡ false) × (begins 125 (skip_blanks rest) ≡ false) × (more : List ℕ)
      × (flow_entry node seen l (skip_blanks rest) ≡ Ok (record { key = k; place = a; value = t }, more)) × StopsFlowEntries ms (seen ++ k ∷ []) l more s

-- A node inside a flow collection, or a flow collection, is asked for, with collections at most this deep.
abbrev pub StopsFlow : ℕ → Line → List ℕ → Stop → Type 0
StopsFlow zero l cs s =
    ((is_bracket cs ≡ true) × (s ≡ refused 6 (spot l cs)))
    ⊎ ((is_bracket cs ≡ false) × StopsFlowScalar l cs s)
StopsFlow (suc d) l cs s =
    ((begins 91 cs ≡ true) × (es : Elements) × (t : Stop) × StopsFlowElements (flow_node d) (StopsFlow d) es l (drop 1 cs) t × (s ≡ opened (spot l cs) 93 t))
    ⊎ ((begins 123 cs ≡ true) × (ms : Members) × (t : Stop) × StopsFlowEntries (flow_node d) (StopsFlow d) ms [] l (drop 1 cs) t × (s ≡ opened (spot l cs) 125 t))
    ⊎ ((is_bracket cs ≡ false) × StopsFlowScalar l cs s)
