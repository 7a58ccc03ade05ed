-- What writing shares leaves, one behind the other.
use Rattle.std.proofs.Common.{◌≡◌, ℕ, Bool, false, List, [], refl, ap, sym, ◌∙◌, subst, append-nil, inl, inr, true, Option, Result, Ok, Err}
use Rattle.std.specs.Prelude.{◌||◌, ◌⊎◌}
use Rattle.std.specs.Io.KnownBytes.{Appends}
use Rattle.sig_base.proofs.Puts.{Appends-nothing, front_nothing}
use Rattle.answer_writer.specs.Lines.{ended}
use Rattle.sig_base.specs.Causes.{Rose, AppendsFront}
use Rattle.answer_writer.proofs.Shares.{gains_nothing, gains_then, cut_longer, cut_then, cut_nothing, no_diagnostics, diagnostic_front}
use Rattle.answer_writer.specs.Parts.{Share, no_share, text_share, diagnostic_share, join}
use Rattle.answer_writer.specs.Stands.{Outcome, Writes}
use Rattle.answer_writer.specs.State.{State, Streams, NoWriteFailed, SomeWriteFailed}
use Rattle.answer_writer.specs.declared.stop.Stop.{Stop}
use Rattle.answer_writer.specs.declared.stop.Stop.TheVariants.{Unread, Unwritten, Memory}

-- a count that rose since it was the same as before rose since before
pub badly_since : (old mid new : Streams) → NoWriteFailed old mid → SomeWriteFailed mid new → SomeWriteFailed old new
badly_since old mid new (first, second) rose =
    subst (λ (n : ℕ). Rose n new.out_faults ⊎ Rose old.err_faults new.err_faults) first
    (subst (λ (n : ℕ). Rose mid.out_faults new.out_faults ⊎ Rose n new.err_faults) second rose)

pub well_then : (old mid new : Streams) → NoWriteFailed old mid → NoWriteFailed mid new → NoWriteFailed old new
well_then old mid new first second = (second.0 ∙ first.0, second.1 ∙ first.1)

-- what is the same grew by nothing
pub stays : (a b : Option (List ℕ)) → b ≡ a → Appends a b []
stays a b is = subst (λ (l : Option (List ℕ)). Appends a l []) (sym is) (Appends-nothing a)

-- a share of another kind
pub writes_as : (P Q : Share → Type 0) (result : Result Bool Stop) (old new : State) → ((s : Share) → P s → Q s) → Writes P result old new → Writes Q result old new
writes_as P Q result old new f w = record { share = w.share; is = f w.share w.is; outcome = w.outcome; inputs = w.inputs; kept = w.kept }

-- two shares of these kinds
abbrev pub Both : (Share → Type 0) → (Share → Type 0) → Share → Type 0
Both P Q share = (a : Share) × (b : Share) × P a × Q b × (share ≡ join a b)

outcome_both : (a b : Share) (first second : Bool) (old mid new : Streams) → Outcome a (Ok first) old mid → Outcome b (Ok second) mid new → Outcome (join a b) (Ok (first || second)) old new
outcome_both a b first second old mid new one two =
    (ap (λ (f : Bool). f || second) one.0 ∙ ap (λ (f : Bool). a.refused || f) two.0, gains_then a b old mid new one.1 two.1, well_then old mid new one.2 two.2)

outcome_stop : (a b : Share) (first : Bool) (stop : Stop) (old mid new : Streams) → Outcome a (Ok first) old mid → Outcome b (Err stop) mid new → Outcome (join a b) (Err stop) old new
outcome_stop a b first Unread old mid new one two = two
outcome_stop a b first Unwritten old mid new one two = (cut_then a b old mid new one.1 two.0, badly_since old mid new one.2 two.1)
outcome_stop a b first Memory old mid new one two = cut_then a b old mid new one.1 two

outcome_longer : (a b : Share) (stop : Stop) (old new : Streams) → Outcome a (Err stop) old new → Outcome (join a b) (Err stop) old new
outcome_longer a b Unread old new one = one
outcome_longer a b Unwritten old new one = (cut_longer a b old new one.0, one.1)
outcome_longer a b Memory old new one = cut_longer a b old new one

-- both whole
pub writes_both : (P Q : Share → Type 0) (first second : Bool) (old mid new : State)
    → Writes P (Ok first) old mid → Writes Q (Ok second) mid new → Writes (Both P Q) (Ok (first || second)) old new
writes_both P Q first second old mid new a b = record {
  share = join a.share b.share;
  is = (a.share, b.share, a.is, b.is, refl);
  outcome = outcome_both a.share b.share first second old.streams mid.streams new.streams a.outcome b.outcome;
  inputs = b.inputs ∙ a.inputs;
  kept = b.kept ∙ a.kept;
}

-- the second one is cut off
pub writes_stop : (P Q : Share → Type 0) (first : Bool) (stop : Stop) (old mid new : State)
    → Writes P (Ok first) old mid → Writes Q (Err stop) mid new → Writes (Both P Q) (Err stop) old new
writes_stop P Q first stop old mid new a b = record {
  share = join a.share b.share;
  is = (a.share, b.share, a.is, b.is, refl);
  outcome = outcome_stop a.share b.share first stop old.streams mid.streams new.streams a.outcome b.outcome;
  inputs = b.inputs ∙ a.inputs;
  kept = b.kept ∙ a.kept;
}

-- the first one is cut off, and there is some second one
pub writes_less : (P Q : Share → Type 0) (stop : Stop) (old new : State) → (share : Share) × Q share → Writes P (Err stop) old new → Writes (Both P Q) (Err stop) old new
writes_less P Q stop old new (share, is) a = record {
  share = join a.share share;
  is = (a.share, share, a.is, is, refl);
  outcome = outcome_longer a.share share stop old.streams new.streams a.outcome;
  inputs = a.inputs;
  kept = a.kept;
}

pub writes_nothing : (s : State) → Writes (λ share. share ≡ no_share) (Ok false) s s
writes_nothing s = record { share = no_share; is = refl; outcome = (refl, gains_nothing s.streams, (refl, refl)); inputs = refl; kept = refl }

-- ---- what one write leaves

pub put_whole : (text : List ℕ) (old new : State) → Appends old.streams.out new.streams.out text → new.streams.err ≡ old.streams.err → new.streams.out_faults ≡ old.streams.out_faults
    → new.streams.err_faults ≡ old.streams.err_faults → new.inputs ≡ old.inputs → new.references ≡ old.references
    → Writes (λ share. share ≡ text_share text) (Ok false) old new
put_whole text old new out err faults faults_too inputs kept = record {
  share = text_share text;
  is = refl;
  outcome = (refl, (out, stays old.streams.err new.streams.err err), (faults, faults_too));
  inputs = inputs;
  kept = kept;
}

pub put_cut : (text : List ℕ) (old new : State) → AppendsFront old.streams.out new.streams.out text → new.streams.err ≡ old.streams.err → Rose old.streams.out_faults new.streams.out_faults
    → new.inputs ≡ old.inputs → new.references ≡ old.references
    → Writes (λ share. share ≡ text_share text) (Err Unwritten) old new
put_cut text old new out err rose inputs kept = record {
  share = text_share text;
  is = refl;
  outcome = ((out, no_diagnostics [] old.streams.err new.streams.err (stays old.streams.err new.streams.err err)), inl rose);
  inputs = inputs;
  kept = kept;
}

pub tell_whole : (text line : List ℕ) (old new : State) → text ≡ ended line → Appends old.streams.err new.streams.err text → new.streams.out ≡ old.streams.out
    → new.streams.err_faults ≡ old.streams.err_faults → new.streams.out_faults ≡ old.streams.out_faults → new.inputs ≡ old.inputs → new.references ≡ old.references
    → Writes (λ share. share ≡ diagnostic_share line) (Ok true) old new
tell_whole text line old new is err out faults faults_too inputs kept = record {
  share = diagnostic_share line;
  is = refl;
  outcome = (
    refl,
    (stays old.streams.out new.streams.out out, subst (λ (l : List ℕ). Appends old.streams.err new.streams.err l) (is ∙ sym (append-nil (ended line))) err),
    (faults_too, faults),
  );
  inputs = inputs;
  kept = kept;
}

pub tell_cut : (text line : List ℕ) (old new : State) → text ≡ ended line → AppendsFront old.streams.err new.streams.err text → new.streams.out ≡ old.streams.out
    → Rose old.streams.err_faults new.streams.err_faults → new.inputs ≡ old.inputs → new.references ≡ old.references
    → Writes (λ share. share ≡ diagnostic_share line) (Err Unwritten) old new
tell_cut text line old new is err out rose inputs kept = record {
  share = diagnostic_share line;
  is = refl;
  outcome = (
    (front_nothing old.streams.out new.streams.out [] (stays old.streams.out new.streams.out out), diagnostic_front line text old.streams.err new.streams.err is err),
    inr rose,
  );
  inputs = inputs;
  kept = kept;
}

-- want of memory before anything was written
pub writes_memory : (P : Share → Type 0) (s : State) → (share : Share) × P share → Writes P (Err Memory) s s
writes_memory P s (share, is) = record { share = share; is = is; outcome = cut_nothing share s.streams; inputs = refl; kept = refl }
