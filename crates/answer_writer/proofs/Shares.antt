-- Shares, one behind the other, and how far they are written.
use Rattle.std.proofs.Common.{◌≡◌, ℕ, Bool, true, false, List, [], ◌∷◌, ◌++◌, refl, ap, sym, ◌∙◌, subst, append_assoc, append-nil, Option}
use Rattle.std.specs.Prelude.{◌||◌}
use Rattle.std.specs.Io.KnownBytes.{Appends}
use Rattle.std.proofs.Math.Bool.{or-false}
use Rattle.std.proofs.lemmas.Grind.{flat_map-append}
use Rattle.sig_base.proofs.Puts.{Appends-nothing, Appends-then, front_longer, front_nothing, front_then}
use Rattle.sig_base.specs.Causes.{AppendsFront}
use Rattle.answer_writer.specs.Cut.{IsBegun, nothing, of_next, DiagnosticsCut, Cut}
use Rattle.answer_writer.specs.Lines.{ended, diagnostics_text}
use Rattle.answer_writer.specs.Parts.{Share, Part, no_share, join, joined, share_of, Gains}
use Rattle.answer_writer.specs.State.{Streams}

pub share_is : (c : Share) (output : List ℕ) (diagnostics : List (List ℕ)) (refused : Bool) → c.output ≡ output → c.diagnostics ≡ diagnostics → c.refused ≡ refused
    → c ≡ record { output = output; diagnostics = diagnostics; refused = refused }
share_is c output diagnostics refused first second third =
    let with_output : List ℕ → Share = λ o. record { output = o; diagnostics = c.diagnostics; refused = c.refused } in
    let with_diagnostics : List (List ℕ) → Share = λ d. record { output = output; diagnostics = d; refused = c.refused } in
    let with_refused : Bool → Share = λ f. record { output = output; diagnostics = diagnostics; refused = f } in
    ap with_output first ∙ (ap with_diagnostics second ∙ ap with_refused third)

pub or_assoc : (a b c : Bool) → ((a || b) || c) ≡ (a || (b || c))
or_assoc true b c = refl
or_assoc false b c = refl

pub join_assoc : (a b c : Share) → join (join a b) c ≡ join a (join b c)
join_assoc a b c =
    share_is (join (join a b) c) (a.output ++ (b.output ++ c.output)) (a.diagnostics ++ (b.diagnostics ++ c.diagnostics)) (a.refused || (b.refused || c.refused))
    (append_assoc a.output b.output c.output) (append_assoc a.diagnostics b.diagnostics c.diagnostics) (or_assoc a.refused b.refused c.refused)

pub join_nothing : (a : Share) → join a no_share ≡ a
join_nothing a = share_is (join a no_share) a.output a.diagnostics a.refused (append-nil a.output) (append-nil a.diagnostics) (or-false a.refused)

pub joined_append : (xs ys : List Share) → joined (xs ++ ys) ≡ join (joined xs) (joined ys)
joined_append [] ys = refl
joined_append (x ∷ xs) ys = ap (λ (s : Share). join x s) (joined_append xs ys) ∙ sym (join_assoc x (joined xs) (joined ys))

pub share_append : (xs ys : List Part) → share_of (xs ++ ys) ≡ join (share_of xs) (share_of ys)
share_append [] ys = refl
share_append (x ∷ xs) ys = ap (λ (s : Share). join x.share s) (share_append xs ys) ∙ sym (join_assoc x.share (share_of xs) (share_of ys))

-- ---- diagnostics

diagnostics_longer : (lines more : List (List ℕ)) (eo en : Option (List ℕ)) → DiagnosticsCut eo en lines → DiagnosticsCut eo en (lines ++ more)
diagnostics_longer lines more eo en c = record {
  whole = c.whole;
  later = c.later ++ more;
  begun = c.begun;
  divide = ap (λ (l : List (List ℕ)). l ++ more) c.divide ∙ append_assoc c.whole c.later more;
  is_begun = begun_longer c.begun c.later c.is_begun;
  grown = c.grown;
}
  where
    begun_longer : (begun : List ℕ) (later : List (List ℕ)) → IsBegun begun later → IsBegun begun (later ++ more)
    begun_longer begun later (nothing is) = nothing is
    begun_longer begun later (of_next line rest others is parts) = of_next line rest (others ++ more) (ap (λ (l : List (List ℕ)). l ++ more) is) parts

diagnostics_then : (first lines : List (List ℕ)) (eo em en : Option (List ℕ)) → Appends eo em (diagnostics_text first) → DiagnosticsCut em en lines → DiagnosticsCut eo en (first ++ lines)
diagnostics_then first lines eo em en before c = record {
  whole = first ++ c.whole;
  later = c.later;
  begun = c.begun;
  divide = ap (λ (l : List (List ℕ)). first ++ l) c.divide ∙ sym (append_assoc first c.whole c.later);
  is_begun = c.is_begun;
  grown = subst (λ (l : List ℕ). Appends eo en l)
      (sym (append_assoc (diagnostics_text first) (diagnostics_text c.whole) c.begun) ∙ ap (λ (l : List ℕ). l ++ c.begun) (sym (flat_map-append ended first c.whole)))
      (Appends-then eo em en (diagnostics_text first) (diagnostics_text c.whole ++ c.begun) before c.grown);
}

-- no diagnostic yet
pub no_diagnostics : (lines : List (List ℕ)) (eo en : Option (List ℕ)) → Appends eo en [] → DiagnosticsCut eo en lines
no_diagnostics lines eo en still = record { whole = []; later = lines; begun = []; divide = refl; is_begun = nothing refl; grown = still }

-- a front of the one diagnostic
pub diagnostic_front : (line bytes : List ℕ) (eo en : Option (List ℕ)) → bytes ≡ ended line → AppendsFront eo en bytes → DiagnosticsCut eo en (line ∷ [])
diagnostic_front line bytes eo en is f = record {
  whole = [];
  later = line ∷ [];
  begun = f.front;
  divide = refl;
  is_begun = of_next line f.rest [] refl (sym is ∙ f.parts);
  grown = f.grown;
}

-- ---- shares

pub gains_nothing : (s : Streams) → Gains no_share s s
gains_nothing s = (Appends-nothing s.out, Appends-nothing s.err)

pub gains_then : (a b : Share) (old mid new : Streams) → Gains a old mid → Gains b mid new → Gains (join a b) old new
gains_then a b old mid new first second = (
  Appends-then old.out mid.out new.out a.output b.output first.0 second.0,
  subst (λ (l : List ℕ). Appends old.err new.err l) (sym (flat_map-append ended a.diagnostics b.diagnostics))
      (Appends-then old.err mid.err new.err (diagnostics_text a.diagnostics) (diagnostics_text b.diagnostics) first.1 second.1),
)

-- nothing is written yet
pub cut_nothing : (share : Share) (s : Streams) → Cut share s s
cut_nothing share s = (front_nothing s.out s.out share.output (Appends-nothing s.out), no_diagnostics share.diagnostics s.err s.err (Appends-nothing s.err))

-- what is cut off is cut off too where more would follow
pub cut_longer : (a b : Share) (old new : Streams) → Cut a old new → Cut (join a b) old new
cut_longer a b old new cut = (front_longer old.out new.out a.output b.output cut.0, diagnostics_longer a.diagnostics b.diagnostics old.err new.err cut.1)

-- a whole share, and then one that is cut off
pub cut_then : (a b : Share) (old mid new : Streams) → Gains a old mid → Cut b mid new → Cut (join a b) old new
cut_then a b old mid new first cut =
    (front_then old.out mid.out new.out a.output b.output first.0 cut.0, diagnostics_then a.diagnostics b.diagnostics old.err mid.err new.err first.1 cut.1)
