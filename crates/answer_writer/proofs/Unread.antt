-- What stands where a file can't be read.
use Rattle.std.proofs.Common.{◌≡◌, ℕ, List, [], ◌∷◌, refl, sym, subst, append-nil, Option, None, Some, Err}
use Rattle.std.specs.Io.KnownBytes.{Appends}
use Rattle.sig_base.proofs.Puts.{Appends-nothing, front_nothing}
use Rattle.answer_writer.proofs.Ending.{Kind}
use Rattle.answer_writer.proofs.Shares.{no_diagnostics}
use Rattle.answer_writer.specs.Input.{Input, File, World, Needs, IsNeeded, unread_diagnostic}
use Rattle.answer_writer.specs.Lines.{ended}
use Rattle.answer_writer.specs.Parts.{Part, share_of}
use Rattle.answer_writer.specs.Stands.{Cause, Stands, Ends, StopsBefore}
use Rattle.answer_writer.specs.State.{State}
use Rattle.answer_writer.specs.declared.stop.Stop.{Stop}
use Rattle.answer_writer.specs.declared.stop.Stop.TheVariants.{Unread, Unwritten, Memory}

-- parts of which the first is one for which this file is read
abbrev pub Begins : List ℕ → List Part → Type 0
Begins name parts = (part : Part) × (others : List Part) × (parts ≡ part ∷ others) × (part.input ≡ Some (File name))

same_appends : (a b c : Option (List ℕ)) → c ≡ b → Appends a b [] → Appends a c []
same_appends a b c is grown = subst (λ (l : Option (List ℕ)). Appends a l []) (sym is) grown

abbrev unread_at : List ℕ → Stop → Option Input
unread_at name Unread = Some (File name)
unread_at name Unwritten = Some (File name)
unread_at name Memory = None

module _ (needs : Needs) (P : Kind) (name : List ℕ) (old new : State) (there : IsNeeded needs (File name)) where
  unread_cause : (stop : Stop) → StopsBefore name stop old new → Cause needs (Err stop) (unread_at name stop) old new
  unread_cause Unread s = (there, (s.told.0, (s.left, s.faults)), s.told.2)
  unread_cause Unwritten s = (there, (s.told.0, (s.left, s.faults)), s.told.2)
  unread_cause Memory s = refl

  nothing_out : (stop : Stop) → StopsBefore name stop old new → Appends old.streams.out new.streams.out []
  nothing_out stop s = same_appends old.streams.out old.streams.out new.streams.out s.out (Appends-nothing old.streams.out)

  unread_stands : (stop : Stop) (world : World) (ps : List Part) → Begins name ps → StopsBefore name stop old new → Stands P world (Err stop) (unread_at name stop) ps old new
  unread_stands Unread world ps begins s = record {
    before = [];
    behind = ps;
    divide = refl;
    here = begins;
    out = nothing_out Unread s;
    err = subst (λ (l : List ℕ). Appends old.streams.err new.streams.err l) (sym (append-nil (ended (unread_diagnostic (File name))))) s.told.1;
  }
  unread_stands Unwritten world ps begins s = record {
    before = [];
    behind = ps;
    divide = refl;
    here = begins;
    out = nothing_out Unwritten s;
    err = record { begun = s.told.1.front; rest = s.told.1.rest; divide = s.told.1.parts; grown = s.told.1.grown };
  }
  unread_stands Memory world ps begins s = (
    front_nothing old.streams.out new.streams.out (share_of ps).output (nothing_out Memory s),
    no_diagnostics (share_of ps).diagnostics old.streams.err new.streams.err
        (same_appends old.streams.err old.streams.err new.streams.err s.told (Appends-nothing old.streams.err)),
  )

  pub ends_unread : (stop : Stop) → ((w : World) → (ps : List Part) × P w ps × Begins name ps) → StopsBefore name stop old new → Ends needs P (Err stop) old new
  ends_unread stop each s = record {
    unread = unread_at name stop;
    cause = unread_cause stop s;
    stands = λ world told. let a = each world in (a.0, a.1, unread_stands stop world a.0 a.2 s, λ _. (s.left, s.faults));
    files = s.files;
    apart = λ _. (s.left, s.faults);
    kept = s.kept;
  }
