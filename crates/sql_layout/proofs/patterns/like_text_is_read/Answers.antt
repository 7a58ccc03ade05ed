use Rattle.sql_layout.proofs.Written.{like_reads, like_is_good, like_plain}
use Rattle.sql_layout.proofs.patterns.like_text_is_read.Goals as goal

pub returns : goal.returns
returns c = record { parts = like_reads; good = like_is_good; plain = like_plain }
