-- Faults of clap's turns.
use Rattle.std.proofs.Common.{◌≡◌, ◌∙◌, true, false, List, [], ◌∷◌, Option, Some, None, refl, subst}
use Rattle.std.specs.Prelude.{fold}
use Rattle.std.specs.Str.{bytes_eq}
use Rattle.clap.specs.Lexer.{long_of}
use Rattle.clap.specs.Walk.{Held, Rule, Waiting, idle, option, positional, Walk, arg_by_index, arg_by_long, is_pending, settled_rows, walked, has_row}
use Rattle.clap.specs.Kinds.{Kinds, or_else}
use Rattle.clap.specs.Faults.{settle_fault, turn_fault, use_fault, walk_fault}
use Rattle.clap.specs.declared.error.kind.ErrorKind.TheVariants.{UnknownArgument}
use Rattle.command_line.specs.Given.{Word, dashed, joined}
use Rattle.command_line.proofs.Shapes.{option_rule, file_rule, shape_with, IsOption, HasFiles, at, IsFree}
use Rattle.command_line.proofs.Turns.{IsPlainWord, held_waiting, either_way}

pub none_both : (a b : Kinds) → or_else a b ≡ [] → (a ≡ []) × (b ≡ [])
none_both [] b e = (refl, e)
none_both (k ∷ ks) b e = cc

pub record Back (name : Word) (rules : List Rule) (w : Walk) (words : List Word) : Type 0 where
  pub none : walk_fault (shape_with name rules) [] w words ≡ []
  pub last : settle_fault rules false (fold (walked rules []) w words).held ≡ []

pub next : (name : Word) (rules : List Rule) (w after : Walk) (word : Word) (words : List Word) → walked rules [] w word ≡ after → Back name rules w (word ∷ words)
    → (turn_fault (shape_with name rules) [] w word ≡ []) × Back name rules after words
unfolding walk_fault
next name rules w after word words is b =
    let p = none_both (turn_fault (shape_with name rules) [] w word) (walk_fault (shape_with name rules) [] (walked rules [] w word) words) b.none in
    (p.0, subst (λ (u : Walk). Back name rules u words) is (record { none = p.1; last = b.last }))

pub fault_unknown : (name : Word) (rules : List Rule) (h : Held) (waiting : Waiting) (w x : Word) (v : Option Word) → bytes_eq w (dashed []) ≡ false → long_of w ≡ Some (x, v)
    → arg_by_long rules x ≡ None → turn_fault (shape_with name rules) [] (at h waiting false) w ≡ UnknownArgument ∷ []
fault_unknown name rules h idle w x v no_end long none = rw (no_end, long, none) refl
fault_unknown name rules h positional w x v no_end long none = rw (no_end, long, none) refl
fault_unknown name rules h (option y) w x v no_end long none = rw (no_end, long, none) refl

pub fault_both : (name : Word) (rules : List Rule) (h : Held) (waiting : Waiting) (x v : Word) (o : IsOption rules x)
    → turn_fault (shape_with name rules) [] (at h waiting false) (joined x v)
    ≡ or_else (or_else (settle_fault rules false h) (use_fault false (option_rule x o.required) (v ∷ []) (settled_rows rules h.pending h.rows))) []
fault_both name rules h idle x v o = rw (o.name.no_end_both v, o.name.both v, o.by_long) refl
fault_both name rules h positional x v o = rw (o.name.no_end_both v, o.name.both v, o.by_long) refl
fault_both name rules h (option y) x v o = rw (o.name.no_end_both v, o.name.both v, o.by_long) refl

pub fault_alone : (name : Word) (rules : List Rule) (h : Held) (waiting : Waiting) (x : Word) (o : IsOption rules x)
    → turn_fault (shape_with name rules) [] (at h waiting false) (dashed x) ≡ or_else (settle_fault rules false h) []
fault_alone name rules h idle x o = rw (o.name.no_end, o.name.alone, o.by_long) refl
fault_alone name rules h positional x o = rw (o.name.no_end, o.name.alone, o.by_long) refl
fault_alone name rules h (option y) x o = rw (o.name.no_end, o.name.alone, o.by_long) refl

pub fault_file : (name : Word) (rules : List Rule) (h : Held) (waiting : Waiting) → IsFree waiting → HasFiles rules → (word : Word) → IsPlainWord word
    → turn_fault (shape_with name rules) [] (at h waiting false) word ≡ settle_fault rules false h
fault_file name rules h idle free has word p = rw (p.no_end, p.no_long, p.no_short, has.by_index) (either_way (is_pending file_rule h.pending) [] (settle_fault rules false h))
fault_file name rules h positional free has word p = rw (p.no_end, p.no_long, p.no_short, has.by_index) (either_way (is_pending file_rule h.pending) [] (settle_fault rules false h))
fault_file name rules h (option x) free has word p = elim free [ ]

pub fault_stray : (name : Word) (rules : List Rule) (h : Held) (waiting : Waiting) → IsFree waiting → arg_by_index rules 1 ≡ None → (word : Word) → IsPlainWord word
    → turn_fault (shape_with name rules) [] (at h waiting false) word ≡ UnknownArgument ∷ []
fault_stray name rules h idle free none word p = rw (p.no_end, p.no_long, p.no_short, none) refl
fault_stray name rules h positional free none word p = rw (p.no_end, p.no_long, p.no_short, none) refl
fault_stray name rules h (option x) free none word p = elim free [ ]

pub fault_ended : (name : Word) (rules : List Rule) (h : Held) (waiting : Waiting) → HasFiles rules → (word : Word)
    → turn_fault (shape_with name rules) [] (at h waiting true) word ≡ settle_fault rules false h
fault_ended name rules h waiting has word = rw has.by_index (either_way (is_pending file_rule h.pending) [] (settle_fault rules false h))

pub fault_ended_stray : (name : Word) (rules : List Rule) (h : Held) (waiting : Waiting) → arg_by_index rules 1 ≡ None → (word : Word)
    → turn_fault (shape_with name rules) [] (at h waiting true) word ≡ UnknownArgument ∷ []
fault_ended_stray name rules h waiting none word = rw none refl

pub fault_value : (name : Word) (rules : List Rule) (h : Held) (x v : Word) → IsPlainWord v
    → turn_fault (shape_with name rules) [] (at (held_waiting rules x h) (option x) false) v ≡ []
fault_value name rules h x v p = rw (p.no_end, p.no_long, p.no_short) refl

pub fault_end : (name : Word) (rules : List Rule) (h : Held) (waiting : Waiting) → IsFree waiting → turn_fault (shape_with name rules) [] (at h waiting false) (dashed []) ≡ []
fault_end name rules h idle free = refl
fault_end name rules h positional free = refl
fault_end name rules h (option x) free = elim free [ ]

pub clear_both : (name : Word) (rules : List Rule) (h : Held) (waiting : Waiting) (x v : Word) (o : IsOption rules x) → settle_fault rules false h ≡ []
    → has_row x (settled_rows rules h.pending h.rows) ≡ false → turn_fault (shape_with name rules) [] (at h waiting false) (joined x v) ≡ []
clear_both name rules h waiting x v o clear fresh = fault_both name rules h waiting x v o ∙ rw (clear, fresh) refl

pub clear_alone : (name : Word) (rules : List Rule) (h : Held) (waiting : Waiting) (x : Word) (o : IsOption rules x) → settle_fault rules false h ≡ []
    → turn_fault (shape_with name rules) [] (at h waiting false) (dashed x) ≡ []
clear_alone name rules h waiting x o clear = fault_alone name rules h waiting x o ∙ rw clear refl
