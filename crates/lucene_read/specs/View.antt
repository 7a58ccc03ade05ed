-- What was read of a query as the reader's own steps have it.
use Rattle.std.specs.Prelude.{List, [], ◌∷◌, ◌++◌, Option, Some, None}
use Rattle.sig_base.specs.declared.refusal.Place.{Place}
use Rattle.query_tokens.specs.Places.{CodeAt, code_at}
use Rattle.lucene_lang.specs.View.{atom_view, parts_view}
use Rattle.lucene_read.specs.declared.partial.Name.{Name}
use Rattle.lucene_read.specs.declared.partial.Partial.{Partial}
use Rattle.lucene_read.specs.declared.partial.Partial.TheVariants as partials
use Rattle.lucene_read.specs.declared.partial.Ill.{Ill}
use Rattle.lucene_read.specs.declared.partial.Leaf.{Leaf}
use Rattle.lucene_read.specs.declared.partial.Next.{Next}
use Rattle.lucene_read.specs.declared.partial.Next.TheVariants as nexts
use Rattle.lucene_read.specs.declared.partial.Now.{Now}
use Rattle.lucene_read.specs.declared.partial.Now.TheVariants as nows
use Rattle.lucene_read.specs.declared.partial.Level.{Level}
use Rattle.lucene_read.specs.declared.partial.Wrong.{Wrong}
use Rattle.lucene_read.specs.declared.partial.State.{State}
use Rattle.lucene_read.specs.Known as known
use Rattle.lucene_read.specs.Steps as steps
pub use Rattle.query_tokens.specs.PlaceView.{place_view, place_if}
pub use Rattle.lucene_scan.specs.View.{sort_view, token_view, tokens_view}

abbrev pub name_view : Name → known.Name
name_view n = known.name_at n.known (place_view n.place)

abbrev pub partial_view : Partial → steps.Partial
partial_view partials.Start = steps.Start
partial_view partials.Starred = steps.Starred
partial_view partials.StarColon = steps.StarColon
partial_view (partials.Named n) = steps.Named (name_view n)
partial_view (partials.Seeking n) = steps.Seeking (name_view n)
partial_view (partials.Ranging n b) = steps.Ranging (name_view n) b
partial_view (partials.Low n b e) = steps.Low (name_view n) b e
partial_view (partials.Upto n b e) = steps.Upto (name_view n) b e
partial_view (partials.High n b e f) = steps.High (name_view n) b e f

abbrev pub partial_if : Option Partial → Option steps.Partial
partial_if None = None
partial_if (Some p) = Some (partial_view p)

abbrev pub ill_view : Ill → CodeAt
ill_view i = code_at i.code (place_view i.place)

abbrev pub ill_if : Option Ill → Option CodeAt
ill_if None = None
ill_if (Some i) = Some (ill_view i)

abbrev pub leaf_view : Leaf → known.Leafed
leaf_view l = record { atom = atom_view l.atom; ill = ill_if l.ill }

abbrev pub next_view : Next → steps.Next
next_view (nexts.Partial p) = steps.partial (partial_view p)
next_view (nexts.Leaf l) = steps.leaf (leaf_view l)

abbrev pub next_if : Option Next → Option steps.Next
next_if None = None
next_if (Some n) = Some (next_view n)

abbrev pub now_view : Now → steps.Now
now_view (nows.Reading p) = steps.Reading (partial_view p)
now_view (nows.Whole a) = steps.Whole (atom_view a)

abbrev pub level_view : Level → steps.Level
level_view l = steps.level (parts_view l.clauses.items) l.word l.negated

-- the nearest level is the last in code
abbrev pub levels_view : List Level → List steps.Level
levels_view [] = []
levels_view (l ∷ ls) = levels_view ls ++ level_view l ∷ []

abbrev pub mixed_if : Option Place → Option CodeAt
mixed_if None = None
mixed_if (Some p) = Some (code_at 134 (place_view p))

abbrev pub wrong_view : Wrong → steps.Wrong
wrong_view w = steps.wrong (mixed_if w.mixed) (ill_if w.ill)

abbrev pub state_view : State → steps.State
state_view s = steps.state (now_view s.now) (level_view s.level) (levels_view s.outer.items) (wrong_view s.wrong)

abbrev pub state_if : Option State → Option steps.State
state_if None = None
state_if (Some s) = Some (state_view s)
