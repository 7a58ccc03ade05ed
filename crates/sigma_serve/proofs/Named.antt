-- The laws of queries that are asked, by the names of the backends that write them.
use Rattle.query_read.specs.Laws as asking
use Rattle.rule_convert.specs.NamedQueries.{Query, is_query, is_within, picks}
use Rattle.rule_convert.specs.declared.backend_name.BackendName.{BackendName}
use Rattle.rule_convert.specs.declared.backend_name.BackendName.TheVariants.{Sqlite, Lucene}
use Rattle.answer_writer.specs.Selected.{IsDecided}
use Rattle.sigma_serve.proofs.Queried.{each_queried, one_queried}
use Rattle.sigma_serve.specs.Languages.{patterns, refuses}
use Rattle.sigma_serve.specs.Laws.{EachQueried, OneQueried}

-- what holds of each backend
pub by_name : (P : BackendName → Type 0) → P Sqlite → P Lucene → (backend : BackendName) → P backend
by_name P first second Sqlite = first
by_name P first second Lucene = second

-- in the language of a backend
abbrev pub EachAsked : BackendName → Type 0
EachAsked backend = asking.EachAsked (is_query backend) (is_within backend) (refuses backend)

abbrev pub AreDecided : BackendName → Type 0
AreDecided backend = (q : Query backend) → IsDecided (picks backend q)

abbrev pub NeverBoth : BackendName → Type 0
NeverBoth backend = asking.NeverBoth (is_query backend) (is_within backend) (refuses backend)

abbrev pub OneQuery : BackendName → Type 0
OneQuery backend = asking.OneQuery (is_query backend) (is_within backend) (refuses backend)

abbrev pub OneCause : BackendName → Type 0
OneCause backend = asking.OneCause (is_query backend) (is_within backend) (refuses backend)

pub each_named : asking.SomePlaces → ((backend : BackendName) → EachAsked backend) → ((backend : BackendName) → AreDecided backend) → EachQueried
each_named places each decided backend limits file before after gained follows =
    each_queried (is_query backend) (is_within backend) (picks backend) (patterns backend) (refuses backend) places (each backend) (decided backend) limits file before after gained follows

pub one_named : ((backend : BackendName) → NeverBoth backend) → ((backend : BackendName) → OneQuery backend) → ((backend : BackendName) → OneCause backend) → OneQueried
one_named never one cause backend limits file places =
    one_queried (is_query backend) (is_within backend) (picks backend) (patterns backend) (refuses backend) (never backend) (one backend) (cause backend) limits file places
