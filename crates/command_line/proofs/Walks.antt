-- Words that give items are words that clap's walk goes through, and it holds the items' rows.
use Rattle.std.proofs.Common.{◌≡◌, ◌∙◌, Bool, true, false, ◌&&◌, List, [], ◌∷◌, map, refl}
use Rattle.std.specs.List.{list_all}
use Rattle.clap.specs.Walk.{Held, Rule, Row, Waiting, idle, option, positional, settled_rows, has_row}
use Rattle.clap.specs.Faults.{settle_fault, walk_fault}
use Rattle.command_line.proofs.Back.{fault_file, fault_ended, fault_value, fault_end, clear_both, clear_alone}
use Rattle.clap.specs.Takes.{settle_passes, walk_passes}
use Rattle.command_line.specs.Given.{Word, Item, named, file, dashed, joined, is_among, is_nonempty, less, Reads, nothing, apart, together, placed, ended}
use Rattle.command_line.proofs.Shapes.{IsOption, HasFiles, Serves, rows_from, row_step, at, IsFree, is_idle, is_positional}
use Rattle.command_line.proofs.Turns.{Goes, step, held_file, held_both, held_waiting, held_value, plain_word_is, walked_file, turn_file, walked_ended, turn_ended, walked_end, turn_end, walked_both, turn_both, walked_alone, turn_alone, walked_value, turn_value}
use Rattle.command_line.proofs.Fresh.{and_left, and_right, no_row_option, no_row_file, still_among}

-- what is held, settled, has these rows, and settling it passes
pub record Holds (rules : List Rule) (h : Held) (rows : List Row) : Type 0 where
  pub rows_are : settled_rows rules h.pending h.rows ≡ rows
  pub settles : settle_passes rules false h ≡ true
  pub clear : settle_fault rules false h ≡ []

abbrev pub AreFresh : List Word → List Row → Type 0
AreFresh still rows = (y : Word) → is_among y still ≡ true → has_row y rows ≡ false

holds_file : (rules : List Rule) (h : Held) (rows : List Row) (w : Word) → HasFiles rules → Holds rules h rows → Holds rules (held_file rules w h) (row_step rows (file w))
holds_file rules h rows w has holds = record {
  rows_are = rw (has.by_id, holds.rows_are) refl;
  settles = rw has.by_id refl;
  clear = rw has.by_id refl;
}

holds_both : (rules : List Rule) (h : Held) (rows : List Row) (x v : Word) (q : Bool) → Holds rules h rows → Holds rules (held_both rules x q v h) (row_step rows (named x v))
holds_both rules h rows x v q holds = record {
  rows_are = rw holds.rows_are refl;
  settles = refl;
  clear = refl;
}

holds_value : (rules : List Rule) (h : Held) (rows : List Row) (x v : Word) → IsOption rules x → has_row x rows ≡ false → Holds rules h rows
    → Holds rules (held_value rules x v h) (row_step rows (named x v))
holds_value rules h rows x v o fresh holds = record {
  rows_are = rw (o.by_id, holds.rows_are) refl;
  settles = rw (o.by_id, holds.rows_are, fresh) refl;
  clear = rw (o.by_id, holds.rows_are, fresh) refl;
}

pub serves_less : (rules : List Rule) (x : Word) (options : List Word) (takes : Bool) → Serves rules options takes → Serves rules (less x options) takes
serves_less rules x options takes s = record {
  option = λ y e. s.option y (still_among x y options e).0;
  files = s.files;
}

pub fresh_less : (x v : Word) (still : List Word) (rows : List Row) → AreFresh still rows → AreFresh (less x still) (row_step rows (named x v))
fresh_less x v still rows fresh = λ y e. no_row_option y x v false rows (still_among x y still e).1 (fresh y (still_among x y still e).0)

pub fresh_file : (rules : List Rule) (takes : Bool) (w : Word) (still : List Word) (rows : List Row) → Serves rules still takes → AreFresh still rows → AreFresh still (row_step rows (file w))
fresh_file rules takes w still rows s fresh = λ y e. no_row_file y w rows (s.option y e).name.other (fresh y e)

goes_nowhere : (name : Word) (rules : List Rule) (h : Held) (waiting : Waiting) (trailing : Bool) (rows : List Row) → Holds rules h rows → Goes name rules (at h waiting trailing) [] rows
unfolding walk_passes walk_fault
goes_nowhere name rules h waiting trailing rows holds = record {
  passes = refl;
  rows_are = holds.rows_are;
  settles = holds.settles;
  stopped = refl;
  no_fault = refl;
  clear = holds.clear;
}

goes_ended : (name : Word) (rules : List Rule) (takes : Bool) (words : List Word) → list_all (λ w. takes && is_nonempty w) words ≡ true → (takes ≡ true → HasFiles rules)
    → (h : Held) (waiting : Waiting) (rows : List Row) → Holds rules h rows → Goes name rules (at h waiting true) words (rows_from rows (map file words))
goes_ended name rules takes [] all files h waiting rows holds = goes_nowhere name rules h waiting true rows holds
goes_ended name rules takes (w ∷ ws) all files h waiting rows holds =
    let has : HasFiles rules = files (and_left takes (is_nonempty w) (and_left (takes && is_nonempty w) _ all)) in
    step name rules (at h waiting true) _ w ws _ (turn_ended name rules h waiting has w holds.settles) (fault_ended name rules h waiting has w ∙ holds.clear) (walked_ended rules h waiting has w)
    (goes_ended name rules takes ws (and_right (takes && is_nonempty w) _ all) files (held_file rules w h) positional (row_step rows (file w)) (holds_file rules h rows w has holds))

pub goes : (name : Word) (rules : List Rule) (still : List Word) (takes : Bool) (words : List Word) (items : List Item) → Reads still takes words items → Serves rules still takes
    → (h : Held) (waiting : Waiting) (rows : List Row) → IsFree waiting → Holds rules h rows → AreFresh still rows
    → Goes name rules (at h waiting false) words (rows_from rows items)
goes name rules still takes words items nothing serves h waiting rows free holds fresh = goes_nowhere name rules h waiting false rows holds
goes name rules still takes words items (apart {words = rest} {items = more} x v among value reads) serves h waiting rows free holds fresh =
    let o = serves.option x among in
    let new = fresh x among in
    step name rules (at h waiting false) _ (dashed x) (v ∷ rest) _ (turn_alone name rules h waiting free x o holds.settles) (clear_alone name rules h waiting x o holds.clear) (walked_alone rules h waiting free x o)
    (step name rules (at (held_waiting rules x h) (option x) false) _ v rest _ (turn_value name rules h x v o (plain_word_is v value)) (fault_value name rules h x v (plain_word_is v value)) (walked_value rules h x v o (plain_word_is v value))
    (goes name rules (less x still) takes rest more reads (serves_less rules x still takes serves) (held_value rules x v h) idle (row_step rows (named x v)) is_idle
    (holds_value rules h rows x v o new holds) (fresh_less x v still rows fresh)))
goes name rules still takes words items (together {words = rest} {items = more} x v among value reads) serves h waiting rows free holds fresh =
    let o = serves.option x among in
    let new : has_row x (settled_rows rules h.pending h.rows) ≡ false = rw holds.rows_are (fresh x among) in
    step name rules (at h waiting false) _ (joined x v) rest _ (turn_both name rules h waiting free x v o holds.settles new) (clear_both name rules h waiting x v o holds.clear new) (walked_both rules h waiting free x v o)
    (goes name rules (less x still) takes rest more reads (serves_less rules x still takes serves) (held_both rules x o.required v h) idle (row_step rows (named x v)) is_idle
    (holds_both rules h rows x v o.required holds) (fresh_less x v still rows fresh))
goes name rules still takes words items (placed {words = rest} {items = more} w takes_files value reads) serves h waiting rows free holds fresh =
    let has = serves.files takes_files in
    step name rules (at h waiting false) _ w rest _ (turn_file name rules h waiting free has w (plain_word_is w value) holds.settles) (fault_file name rules h waiting free has w (plain_word_is w value) ∙ holds.clear) (walked_file rules h waiting free has w (plain_word_is w value))
    (goes name rules still takes rest more reads serves (held_file rules w h) positional (row_step rows (file w)) is_positional
    (holds_file rules h rows w has holds) (fresh_file rules takes w still rows serves fresh))
goes name rules still takes words items (ended rest all) serves h waiting rows free holds fresh =
    step name rules (at h waiting false) _ (dashed []) rest _ (turn_end name rules h waiting free) (fault_end name rules h waiting free) (walked_end rules h waiting free)
    (goes_ended name rules takes rest all serves.files h waiting rows holds)
