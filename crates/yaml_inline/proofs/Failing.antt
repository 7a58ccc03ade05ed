-- How a halt is handed on.
use Rattle.std.proofs.Common.{◌≡◌, ℕ, Option, Some, None, IfSome, IsNone, Result, Ok, Err, refl, sym, ap, ◌∙◌, subst}
use Rattle.std.specs.Result.{IsErrAnd}
use Rattle.yaml_tree.specs.Tree.{At}
use Rattle.yaml_inline.specs.declared.halt.Halt.{Halt}
use Rattle.yaml_inline.specs.Line.{Stop, Read}
use Rattle.yaml_inline.specs.Flow.{opened}
use Rattle.yaml_inline.specs.View.{halt_view, Reports, Fails, Gives}

pub fails_as : {A : Type 0} (h : Halt) (s : Stop) (read : Read A) → halt_view h ≡ Some s → read ≡ Err s → Fails h read
fails_as {A = A} h s read is e = by (halt_view h) is where
  by : (o : Option Stop) → o ≡ Some s → IfSome o (λ t. read ≡ Err t)
  by None is = cc
  by (Some t) is = e ∙ ap Err (sym cc)

fails_by : {A B : Type 0} (o : Option Stop) (first : Read A) (read : Read B) → IfSome o (λ s. first ≡ Err s) → ((s : Stop) → first ≡ Err s → read ≡ Err s) → IfSome o (λ s. read ≡ Err s)
fails_by None first read h step = tt
fails_by (Some s) first read h step = step s h

pub fails_more : {A B : Type 0} (h : Halt) (first : Read A) (read : Read B) → Fails h first → ((s : Stop) → first ≡ Err s → read ≡ Err s) → Fails h read
fails_more h first read e step = fails_by (halt_view h) first read e step

fails_in : {A B : Type 0} (a : At) (c : ℕ) (o p : Option Stop) (first : Read A) (read : Read B) → IfSome o (λ s. first ≡ Err s) → IfSome o (λ s. IfSome p (λ t. t ≡ opened a c s)) → (IsNone o → IsNone p)
    → ((s : Stop) → first ≡ Err s → read ≡ Err (opened a c s)) → IfSome p (λ t. read ≡ Err t)
fails_in a c None None first read e stop memory step = tt
fails_in a c None (Some t) first read e stop memory step = let h = memory refl in cc
fails_in a c (Some s) None first read e stop memory step = tt
fails_in a c (Some s) (Some t) first read e stop memory step = step s e ∙ ap Err (sym stop)

-- the halt inside what is open, and what is read there
pub fails_open : {A B : Type 0} (a : At) (c : ℕ) (h k : Halt) (first : Read A) (read : Read B) → Fails h first → IfSome (halt_view h) (λ s. Reports k (opened a c s)) → (IsNone (halt_view h) → IsNone (halt_view k))
    → ((s : Stop) → first ≡ Err s → read ≡ Err (opened a c s)) → Fails k read
fails_open a c h k first read e stop memory step = fails_in a c (halt_view h) (halt_view k) first read e stop memory step

-- a halt that a `?` passes on
pub gives_err : {X A : Type 0} (view : X → A) (r : Result X Halt) (read : Read A) (e : Halt) (Q : Halt → Type 0) → IsErrAnd r Q → ((y : Halt) → Q y → y ≡ e) → Fails e read → Gives view r read
gives_err view (Ok x) read e Q h same fails = absurd h
gives_err view (Err y) read e Q h same fails = subst (λ (k : Halt). Fails k read) (sym (same y h)) fails
