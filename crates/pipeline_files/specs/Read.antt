-- What reading a file of pipelines answers.
use Rattle.std.specs.Prelude.{⊤, Bool, true, false, List, Result, Ok, Err}
use Rattle.sig_base.specs.declared.refusal.Refusal.{Refusal}
use Rattle.pipeline_model.specs.declared.pipeline.Pipeline.{Pipeline}
use Rattle.pipeline_files.specs.declared.files.FileFault.{FileFault}
use Rattle.pipeline_files.specs.declared.files.FileFault.TheVariants.{Memory, Refused}

-- its pipelines, or the causes for which it's refused; want of memory is free
abbrev pub Answers : (List Pipeline → Type 0) → (List Refusal → Type 0) → Result (List Pipeline) FileFault → Type 0
Answers AreRead AreRefused (Ok ps) = AreRead ps
Answers AreRead AreRefused (Err (Refused causes)) = AreRefused causes
Answers AreRead AreRefused (Err Memory) = ⊤

-- memory wasn't missing
abbrev pub is_answered : Result (List Pipeline) FileFault → Bool
is_answered (Ok ps) = true
is_answered (Err (Refused causes)) = true
is_answered (Err Memory) = false
