-- One turn of clap's walk for each shape of a word.
use Rattle.std.proofs.Common.{◌≡◌, ◌==◌, Bool, true, false, not, ◌&&◌, ◌||◌, List, [], ◌∷◌, Some, None, cond, refl, ap, subst}
use Rattle.std.specs.Prelude.{fold}
use Rattle.std.specs.Str.{bytes_eq}
use Rattle.clap.specs.Lexer.{long_of, short_of}
use Rattle.clap.specs.Walk.{Held, Rule, Row, Waiting, idle, option, positional, Walk, used, settled, settled_rows, walked, has_row, pushed, is_pending}
use Rattle.clap.specs.Takes.{settle_passes, turn_passes, walk_passes}
use Rattle.clap.specs.Faults.{settle_fault, turn_fault, walk_fault}
use Rattle.command_line.specs.Given.{Word, dashed, joined, is_value}
use Rattle.command_line.proofs.Shapes.{file_id, option_rule, file_rule, shape_with, IsOption, HasFiles, at, IsFree}

-- the walk from here goes through, and what is held at its end, settled, has these rows
pub record Goes (name : Word) (rules : List Rule) (w : Walk) (words : List Word) (rows : List Row) : Type 0 where
  pub passes : walk_passes (shape_with name rules) [] w words ≡ true
  pub rows_are : settled_rows rules (fold (walked rules []) w words).held.pending (fold (walked rules []) w words).held.rows ≡ rows
  pub settles : settle_passes rules false (fold (walked rules []) w words).held ≡ true
  pub stopped : (fold (walked rules []) w words).stopped ≡ None
  pub no_fault : walk_fault (shape_with name rules) [] w words ≡ []
  pub clear : settle_fault rules false (fold (walked rules []) w words).held ≡ []

-- one turn before it
pub step : (name : Word) (rules : List Rule) (w after : Walk) (word : Word) (words : List Word) (rows : List Row)
    → turn_passes (shape_with name rules) [] w word ≡ true → turn_fault (shape_with name rules) [] w word ≡ [] → walked rules [] w word ≡ after
    → Goes name rules after words rows → Goes name rules w (word ∷ words) rows
unfolding walk_passes walk_fault
step name rules w after word words rows turn fault is rest =
    subst (λ (u : Walk). Goes name rules u words rows → Goes name rules w (word ∷ words) rows) is (λ r. record {
      passes = rw turn r.passes;
      rows_are = r.rows_are;
      settles = r.settles;
      stopped = r.stopped;
      no_fault = rw fault r.no_fault;
      clear = r.clear;
    }) rest

-- what is held behind a name
abbrev pub held_file : List Rule → Word → Held → Held
held_file rules w h = record { rows = settled_rows rules h.pending h.rows; pending = Some (file_id, w ∷ []); skip = h.skip }

pub either_way : {X : Type 0} (b : Bool) (x y : X) → cond (b && false) x y ≡ y
either_way true x y = refl
either_way false x y = refl

or_false : (b c : Bool) → c ≡ true → ((b && false) || c) ≡ true
or_false true c e = e
or_false false c e = e

-- the word is no flag
pub record IsPlainWord (word : Word) : Type 0 where
  pub no_end : bytes_eq word (45 ∷ 45 ∷ []) ≡ false
  pub no_long : long_of word ≡ None
  pub no_short : short_of word ≡ None

pub plain_word_is : (word : Word) → is_value word ≡ true → IsPlainWord word
plain_word_is [] v = cc
plain_word_is (c ∷ cs) v = by (c == 45) refl v where
  by : (b : Bool) → (c == 45) ≡ b → not b ≡ true → IsPlainWord (c ∷ cs)
  by true e v = cc
  by false e v = record { no_end = rw e refl; no_long = rw e refl; no_short = rw e refl }

-- a name before `--`
pub walked_file : (rules : List Rule) (h : Held) (waiting : Waiting) → IsFree waiting → HasFiles rules → (word : Word) → IsPlainWord word
    → walked rules [] (at h waiting false) word ≡ at (held_file rules word h) positional false
unfolding walked
walked_file rules h idle free has word p = rw (p.no_end, p.no_long, p.no_short, has.by_index) (ap (λ (k : Held). at (pushed file_id word k) positional false) (either_way (is_pending file_rule h.pending) h (settled rules h)))
walked_file rules h positional free has word p = rw (p.no_end, p.no_long, p.no_short, has.by_index) (ap (λ (k : Held). at (pushed file_id word k) positional false) (either_way (is_pending file_rule h.pending) h (settled rules h)))
walked_file rules h (option x) free has word p = elim free [ ]

pub turn_file : (name : Word) (rules : List Rule) (h : Held) (waiting : Waiting) → IsFree waiting → HasFiles rules → (word : Word) → IsPlainWord word
    → settle_passes rules false h ≡ true
    → turn_passes (shape_with name rules) [] (at h waiting false) word ≡ true
turn_file name rules h idle free has word p settles = rw (p.no_end, p.no_long, p.no_short, has.by_index) (or_false (is_pending file_rule h.pending) _ settles)
turn_file name rules h positional free has word p settles = rw (p.no_end, p.no_long, p.no_short, has.by_index) (or_false (is_pending file_rule h.pending) _ settles)
turn_file name rules h (option x) free has word p settles = elim free [ ]

-- a word behind `--`
pub walked_ended : (rules : List Rule) (h : Held) (waiting : Waiting) → HasFiles rules → (word : Word)
    → walked rules [] (at h waiting true) word ≡ at (held_file rules word h) positional true
unfolding walked
walked_ended rules h waiting has word = rw has.by_index (ap (λ (k : Held). at (pushed file_id word k) positional true) (either_way (is_pending file_rule h.pending) h (settled rules h)))

pub turn_ended : (name : Word) (rules : List Rule) (h : Held) (waiting : Waiting) → HasFiles rules → (word : Word) → settle_passes rules false h ≡ true
    → turn_passes (shape_with name rules) [] (at h waiting true) word ≡ true
turn_ended name rules h waiting has word settles = rw has.by_index (or_false (is_pending file_rule h.pending) _ settles)

-- `--`
pub walked_end : (rules : List Rule) (h : Held) (waiting : Waiting) → IsFree waiting
    → walked rules [] (at h waiting false) (dashed []) ≡ at h waiting true
unfolding walked
walked_end rules h idle free = refl
walked_end rules h positional free = refl
walked_end rules h (option x) free = elim free [ ]

pub turn_end : (name : Word) (rules : List Rule) (h : Held) (waiting : Waiting) → IsFree waiting
    → turn_passes (shape_with name rules) [] (at h waiting false) (dashed []) ≡ true
turn_end name rules h idle free = refl
turn_end name rules h positional free = refl
turn_end name rules h (option x) free = elim free [ ]

-- `--x=v`
abbrev pub held_both : List Rule → Word → Bool → Word → Held → Held
held_both rules x required v h = record { rows = used (option_rule x required) (v ∷ []) (settled_rows rules h.pending h.rows); pending = None; skip = h.skip }

pub walked_both : (rules : List Rule) (h : Held) (waiting : Waiting) → IsFree waiting → (x v : Word) → (o : IsOption rules x)
    → walked rules [] (at h waiting false) (joined x v) ≡ at (held_both rules x o.required v h) idle false
unfolding walked
walked_both rules h idle free x v o = rw (o.name.no_end_both v, o.name.both v, o.by_long) refl
walked_both rules h positional free x v o = rw (o.name.no_end_both v, o.name.both v, o.by_long) refl
walked_both rules h (option y) free x v o = elim free [ ]

pub turn_both : (name : Word) (rules : List Rule) (h : Held) (waiting : Waiting) → IsFree waiting → (x v : Word) → (o : IsOption rules x)
    → settle_passes rules false h ≡ true → has_row x (settled_rows rules h.pending h.rows) ≡ false
    → turn_passes (shape_with name rules) [] (at h waiting false) (joined x v) ≡ true
turn_both name rules h idle free x v o settles fresh = rw (o.name.no_end_both v, o.name.both v, o.by_long) (rw (settles, fresh) refl)
turn_both name rules h positional free x v o settles fresh = rw (o.name.no_end_both v, o.name.both v, o.by_long) (rw (settles, fresh) refl)
turn_both name rules h (option y) free x v o settles fresh = elim free [ ]

-- `--x` with its value in the next word
abbrev pub held_waiting : List Rule → Word → Held → Held
held_waiting rules x h = record { rows = settled_rows rules h.pending h.rows; pending = Some (x, []); skip = h.skip }

abbrev pub held_value : List Rule → Word → Word → Held → Held
held_value rules x v h = record { rows = settled_rows rules h.pending h.rows; pending = Some (x, v ∷ []); skip = h.skip }

pub walked_alone : (rules : List Rule) (h : Held) (waiting : Waiting) → IsFree waiting → (x : Word) → (o : IsOption rules x)
    → walked rules [] (at h waiting false) (dashed x) ≡ at (held_waiting rules x h) (option x) false
unfolding walked
walked_alone rules h idle free x o = rw (o.name.no_end, o.name.alone, o.by_long) refl
walked_alone rules h positional free x o = rw (o.name.no_end, o.name.alone, o.by_long) refl
walked_alone rules h (option y) free x o = elim free [ ]

pub turn_alone : (name : Word) (rules : List Rule) (h : Held) (waiting : Waiting) → IsFree waiting → (x : Word) → (o : IsOption rules x)
    → settle_passes rules false h ≡ true
    → turn_passes (shape_with name rules) [] (at h waiting false) (dashed x) ≡ true
turn_alone name rules h idle free x o settles = rw (o.name.no_end, o.name.alone, o.by_long) (rw settles refl)
turn_alone name rules h positional free x o settles = rw (o.name.no_end, o.name.alone, o.by_long) (rw settles refl)
turn_alone name rules h (option y) free x o settles = elim free [ ]

pub walked_value : (rules : List Rule) (h : Held) (x v : Word) → (o : IsOption rules x) → IsPlainWord v
    → walked rules [] (at (held_waiting rules x h) (option x) false) v ≡ at (held_value rules x v h) idle false
unfolding walked
walked_value rules h x v o p = rw (p.no_end, p.no_long, p.no_short, o.by_id) (rw o.name.same refl)

pub turn_value : (name : Word) (rules : List Rule) (h : Held) (x v : Word) → (o : IsOption rules x) → IsPlainWord v
    → turn_passes (shape_with name rules) [] (at (held_waiting rules x h) (option x) false) v ≡ true
turn_value name rules h x v o p = rw (p.no_end, p.no_long, p.no_short) refl
