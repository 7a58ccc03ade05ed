use Rattle.std.proofs.Common.{refl}
use Rattle.std.specs.Prelude.{codes}
use Rattle.sig_base.proofs.TextLemmas.{ascii_chars}
use Rattle.backend_core.proofs.lack.Lack.name.Goals as goal

pub returns-in-Many : goal.returns-in-Many
returns-in-Many c = rw c.in-Many.is (ascii_chars (codes "Many") refl)

pub returns-in-Regex : goal.returns-in-Regex
returns-in-Regex c = rw c.in-Regex.is (ascii_chars (codes "Regex") refl)

pub returns-in-FieldRef : goal.returns-in-FieldRef
returns-in-FieldRef c = rw c.in-FieldRef.is (ascii_chars (codes "FieldRef") refl)

pub returns-in-Cased : goal.returns-in-Cased
returns-in-Cased c = rw c.in-Cased.is (ascii_chars (codes "Cased") refl)

pub returns-in-EmptyText : goal.returns-in-EmptyText
returns-in-EmptyText c = rw c.in-EmptyText.is (ascii_chars (codes "EmptyText") refl)

pub returns-in-WholePattern : goal.returns-in-WholePattern
returns-in-WholePattern c = rw c.in-WholePattern.is (ascii_chars (codes "WholePattern") refl)
