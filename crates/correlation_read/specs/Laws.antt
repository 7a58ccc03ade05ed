-- Laws of correlations: one of each document that isn't refused, and one bound of each that isn't refused there.
use Rattle.std.specs.Prelude.{◌≡◌, ◌≤◌, ◌⊎◌, List, length, Some, None}
use Rattle.sig_base.specs.declared.refusal.Refusal.{Refusal}
use Rattle.yaml_tree.specs.Tree.{Tree}
use Rattle.event_schema.specs.declared.schema.Field.{Field}
use Rattle.correlation_windows.specs.declared.bound.Bound.{Bound}
use Rattle.correlation_read.specs.Checks.{correlation_refusal}
use Rattle.correlation_read.specs.Correlations.{PlainCorrelation, IsCorrelation, IsSpan}
use Rattle.correlation_read.specs.Binding.{Names, bind_refusal, IsBound, IsWithin}

-- ---- documents

-- a document that isn't refused, and the correlation that it is
abbrev pub Reads : Tree → PlainCorrelation → Type 0
Reads t c = (correlation_refusal t ≡ None) × IsCorrelation t c

-- each document is a correlation, or is refused
abbrev pub EachRead : Type 0
EachRead = (t : Tree) → ((c : PlainCorrelation) × Reads t c) ⊎ ((r : Refusal) × (correlation_refusal t ≡ Some r))

-- and never both
abbrev pub NeverBoth : Type 0
NeverBoth = (t : Tree) (c : PlainCorrelation) (r : Refusal) → Reads t c → correlation_refusal t ≡ Some r → ⊥

-- a document is one correlation
abbrev pub OneRead : Type 0
OneRead = (t : Tree) (a b : PlainCorrelation) → IsCorrelation t a → IsCorrelation t b → a ≡ b

-- of at most 64 rules, with a timespan from 1 to 2^100 nanoseconds
abbrev pub ReadWithin : Type 0
ReadWithin = (t : Tree) (c : PlainCorrelation) → Reads t c → (length c.rules ≤ 64) × IsSpan c.span

-- ---- bounds

-- a correlation that isn't refused, and what it is bound to
abbrev pub Binds : List Names → List Field → PlainCorrelation → Bound → Type 0
Binds all fields c b = (bind_refusal all fields c ≡ None) × IsBound all fields c b

-- each correlation is bound to rules and fields, or is refused
abbrev pub EachBound : Type 0
EachBound = (all : List Names) (fields : List Field) (c : PlainCorrelation) → ((b : Bound) × Binds all fields c b) ⊎ ((r : Refusal) × (bind_refusal all fields c ≡ Some r))

-- and never both
abbrev pub NeverBound : Type 0
NeverBound = (all : List Names) (fields : List Field) (c : PlainCorrelation) (b : Bound) (r : Refusal) → Binds all fields c b → bind_refusal all fields c ≡ Some r → ⊥

-- it has one bound
abbrev pub OneBound : Type 0
OneBound = (all : List Names) (fields : List Field) (c : PlainCorrelation) (a b : Bound) → IsBound all fields c a → IsBound all fields c b → a ≡ b

-- what is bound has as many rules as the correlation, and its timespan
abbrev pub BoundWithin : Type 0
BoundWithin = (all : List Names) (fields : List Field) (c : PlainCorrelation) (b : Bound) → length c.rules ≤ 64 → IsSpan c.span → IsBound all fields c b → (length b.rules ≤ 64) × IsSpan b.span

-- its rules and fields are there
abbrev pub BoundThere : Type 0
BoundThere = (all : List Names) (fields : List Field) (c : PlainCorrelation) (b : Bound) → Binds all fields c b → IsWithin (length all) (length fields) b
