-- Levels and clauses, one more or one less.
use Rattle.std.proofs.Common.{ℕ, ◌≡◌, ◌==◌, subst, refl, sym, ◌∙◌, ap, Bool, true, false, List, [], ◌∷◌, ◌++◌, length}
use Rattle.lucene_lang.specs.declared.query.Clause.{Clause}
use Rattle.lucene_lang.specs.View.{Part, clause_view, parts_view}
use Rattle.lucene_read.specs.declared.partial.Level.{Level}
use Rattle.std.specs.Prelude.{Some, Result, Err}
use Rattle.sig_base.specs.declared.refusal.Place.{Place}
use Rattle.sig_base.specs.declared.refusal.Fault.{Fault}
use Rattle.sig_base.specs.declared.refusal.Fault.TheVariants.{Refused}
use Rattle.sig_base.specs.Judged.{refusal}
use Rattle.query_tokens.specs.Places.{At, CodeAt, code_at}
use Rattle.lucene_lang.specs.Query.{Group, Atom, OfGroup}
use Rattle.lucene_read.specs.Steps as steps
use Rattle.lucene_read.specs.View.{place_view, level_view, levels_view}
use Rattle.lucene_read.specs.Answers.{Answers}

pub parts_more : (cs : List Clause) (c : Clause) → parts_view (cs ++ c ∷ []) ≡ parts_view cs ++ clause_view c ∷ []
parts_more [] c = refl
parts_more (d ∷ cs) c = ap (λ (ps : List Part). clause_view d ∷ ps) (parts_more cs c)

pub levels_more : (ls : List Level) (l : Level) → levels_view (ls ++ l ∷ []) ≡ level_view l ∷ levels_view ls
levels_more [] l = refl
levels_more (m ∷ ls) l = ap (λ (ms : List steps.Level). ms ++ level_view m ∷ []) (levels_more ls l)

pub closed : (g : Group) (a : Atom) (all ls : List Level) (l : Level) (w : steps.Wrong) → a ≡ OfGroup g → all ≡ ls ++ l ∷ []
    → Some (steps.state (steps.Whole a) (level_view l) (levels_view ls) w) ≡ steps.close g (levels_view all) w
closed g a all ls l w same is =
    ap (λ (b : Atom). Some (steps.state (steps.Whole b) (level_view l) (levels_view ls) w)) same
    ∙ sym (ap (λ (ms : List steps.Level). steps.close g ms w) (ap levels_view is ∙ levels_more ls l))

open_level : (a : Atom) (l : steps.Level) (ls : List steps.Level) (m : steps.Level) (w : steps.Wrong) (end : At) → steps.ends (steps.Whole a) l (ls ++ m ∷ []) w end ≡ Err (code_at 130 end)
open_level a l [] m w end = refl
open_level a l (k ∷ ls) m w end = refl

pub not_ended : (a : Atom) (l : steps.Level) (all : List Level) (n : ℕ) (b : Bool) (w : steps.Wrong) (end : At) → n ≡ length all → b ≡ (n == 0) → b ≡ false
    → steps.ends (steps.Whole a) l (levels_view all) w end ≡ Err (code_at 130 end)
not_ended a l [] n b w end long is some =
    let bad : true ≡ false = ap (λ (k : ℕ). k == 0) (sym long) ∙ (sym is ∙ some) in
    absurd cc
not_ended a l (m ∷ ls) n b w end long is some = open_level a l (levels_view ls) (level_view m) w end

pub refused_as : (x : Fault) (code : ℕ) (p : Place) (v : Result Group CodeAt) → x ≡ Refused (refusal code p) → v ≡ Err (code_at code (place_view p)) → Answers (Err x) v
refused_as x code p v is told = subst (λ (y : Fault). Answers (Err y) v) (sym is) (told, refl)
