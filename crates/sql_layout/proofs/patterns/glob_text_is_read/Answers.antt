use Rattle.sql_layout.proofs.Written.{glob_reads, glob_is_good, glob_plain}
use Rattle.sql_layout.proofs.patterns.glob_text_is_read.Goals as goal

pub returns : goal.returns
returns c = record { parts = glob_reads; good = glob_is_good; plain = glob_plain }
