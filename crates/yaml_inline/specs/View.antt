-- A line, and why a reading stops, as plain data; and how a result stands to what a definition gives.
use Rattle.std.specs.Prelude.{◌≡◌, ℕ, List, map as list_map, Option, Some, None, IfSome, Result, Ok, Err}
use Rattle.yaml_tree.specs.Tree.{At, Tree, Elements, Members, Member}
use Rattle.std.specs.Borrow.{Bor}
use Rattle.std.specs.declared.vec.Vec.{Vec}
use Rattle.std.specs.declared.alloc.Global.{Global}
use Rattle.yaml_tree.specs.View.{place_view, node_view, entry_view, nodes_view, entries_view, elements_of, members_of}
use Rattle.yaml_tree.specs.declared.tree.Node.{Node}
use Rattle.yaml_tree.specs.declared.tree.Entry.{Entry}
use Rattle.yaml_inline.specs.declared.line.Line as code
use Rattle.yaml_inline.specs.declared.halt.Opening.{Opening}
use Rattle.yaml_inline.specs.declared.halt.Halt.{Halt}
use Rattle.yaml_inline.specs.declared.halt.Halt.TheVariants.{Memory, Refused, Unclosed}
use Rattle.yaml_inline.specs.declared.quote.Quoted as code_quoted
use Rattle.yaml_inline.specs.declared.quote.Quoted.TheVariants.{Closed, Open, BadEscape}
use Rattle.yaml_inline.specs.Scalar.{Quoted, closed, open_ended, bad_escape}
use Rattle.yaml_inline.specs.File.{Line}
use Rattle.yaml_inline.specs.Line.{Stop, refused, unclosed, Read}

abbrev pub line_view : code.Line → Line
line_view l = record { number = l.number; text = l.text.now }

abbrev pub opening_view : Opening → At × ℕ
opening_view o = (place_view o.place, o.closing)

abbrev pub openings_view : List Opening → List (At × ℕ)
openings_view os = list_map opening_view os

-- why the reading stops; nothing where memory ran out
abbrev pub halt_view : Halt → Option Stop
halt_view Memory = None
halt_view (Refused c p) = Some (refused c (place_view p))
halt_view (Unclosed n os) = Some (unclosed n (openings_view os.items))

-- the stop is this one, unless memory ran out
abbrev pub Reports : Halt → Stop → Type 0
Reports h s = IfSome (halt_view h) (λ t. t ≡ s)

-- the reading stops so, unless memory ran out
abbrev pub Fails : {A : Type 0} → Halt → Read A → Type 0
Fails h read = IfSome (halt_view h) (λ s. read ≡ Err s)

-- the result is what the reading gives, seen through view, unless memory ran out
abbrev pub Gives : {X A : Type 0} → (X → A) → Result X Halt → Read A → Type 0
Gives view (Ok x) read = read ≡ Ok (view x)
Gives view (Err e) read = Fails e read

-- what was read in quotes
abbrev pub quoted_view : code_quoted.Quoted → Quoted
quoted_view (Closed t rest) = closed t rest.now
quoted_view Open = open_ended
quoted_view (BadEscape n) = bad_escape n

-- what was read at the front of a text, and what is left
abbrev pub text_front : List ℕ × Bor (List ℕ) → List ℕ × List ℕ
text_front p = (p.0, p.1.now)

abbrev pub rest_view : Bor (List ℕ) → List ℕ
rest_view r = r.now

abbrev pub node_front : Node × Bor (List ℕ) → Tree × List ℕ
node_front p = (node_view p.0, p.1.now)

abbrev pub entry_front : Entry × Bor (List ℕ) → Member × List ℕ
entry_front p = (entry_view p.0, p.1.now)

abbrev pub elements_front : Vec Node Global × Bor (List ℕ) → Elements × List ℕ
elements_front p = (elements_of (nodes_view p.0.items), p.1.now)

abbrev pub entries_front : Vec Entry Global × Bor (List ℕ) → Members × List ℕ
entries_front p = (members_of (entries_view p.0.items), p.1.now)
