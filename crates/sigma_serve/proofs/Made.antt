-- What writing the line of what is generated leaves.
use Rattle.std.proofs.Common.{◌≡◌, ℕ, Bool, false, List, [], ◌∷◌, ap, None, Result, Err}
use Rattle.answer_writer.proofs.Ending.{ends_written, ends_memory}
use Rattle.answer_writer.specs.Input.{Needs}
use Rattle.answer_writer.specs.Lines.{ended}
use Rattle.answer_writer.specs.Parts.{Share, text_share}
use Rattle.answer_writer.specs.Stands.{Ends, Writes}
use Rattle.answer_writer.specs.State.{State}
use Rattle.answer_writer.specs.declared.stop.Stop.{Stop}
use Rattle.answer_writer.specs.declared.stop.Stop.TheVariants.{Memory}
use Rattle.generate_run.specs.Lines.{IsGenerated}
use Rattle.sigma_serve.proofs.RequestLaws.{each_made}
use Rattle.sigma_serve.proofs.Lifted.{IsMadeLine}
use Rattle.sigma_serve.specs.Laws.{EachGenerated}

abbrev nothing_read : Needs
nothing_read = record { names = []; events = false }

pub made_put : (seed events : ℕ) (line : List ℕ) (result : Result Bool Stop) (old new : State) → IsGenerated seed events line
    → Writes (λ share. share ≡ text_share (ended line)) result old new → Ends nothing_read (IsMadeLine seed events) result old new
made_put seed events line result old new is wrote =
    ends_written nothing_read (IsMadeLine seed events) (λ share. share ≡ text_share (ended line)) None result old new
    (λ w told share so. record { line = line; is = is; all = ap (λ (s : Share). record { input = None; share = s } ∷ []) so }) wrote

pub made_nothing : EachGenerated → (seed events : ℕ) (s : State) → Ends nothing_read (IsMadeLine seed events) (Err Memory) s s
made_nothing each seed events s = ends_memory nothing_read (IsMadeLine seed events) s (λ w. each_made each seed events)
