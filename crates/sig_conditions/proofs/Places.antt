-- What the code's readers answer, from what stands at their place.
use Rattle.std.proofs.Common.{ℕ, zero, suc, ◌≡◌, ◌<◌, ◌+◌, true, false, List, [], ◌∷◌, length, drop, refl, ap, sym, ◌∙◌, subst, arith, length-drop}
use Rattle.std.specs.Prelude.{None, Ok, Err}
use Rattle.std.specs.Result.{IsErrAnd}
use Rattle.std.specs.declared.option.Option.{Option}
use Rattle.std.specs.declared.result.Result.{Result}
use Rattle.sig_conditions.specs.declared.condition.Condition.{Condition}
use Rattle.sig_conditions.specs.declared.stop.Stop.{Stop}
use Rattle.sig_conditions.specs.declared.stop.Stop.TheVariants.{Memory, Unread}
use Rattle.sig_conditions.specs.declared.word.Word.{Word}
use Rattle.sig_conditions.specs.declared.word.Word.TheVariants.{Fixed}
use Rattle.sig_conditions.specs.declared.word.Sign.TheVariants.{Open, Close, Not}
use Rattle.sig_conditions.specs.Conditions.{Cond, CNot}
use Rattle.sig_conditions.specs.Outcome.{Fails, Reads, Gives}
use Rattle.sig_conditions.specs.Words.{begins, is_sign}
use Rattle.sig_conditions.specs.Reader.{◌>>=◌, read, read_map, not_in, or_in, atom_in, atom_of, not_at, no_more, closed, alone, condition_in}
use Rattle.sig_conditions.proofs.WordTests.{sign_word}
use Rattle.sig_conditions.proofs.Turns.{front_of}

-- a fault that a `?` hands on
pub fails_read : (words : List Word) (r : Result (Condition × ℕ) Stop) (e : Stop) (Q : Stop → Type 0) (o : Option (Cond × List Word))
    → IsErrAnd r Q → ((y : Stop) → Q y → y ≡ e) → Fails e o → Reads words r o
fails_read words (Ok p) e Q o h q f = absurd h
fails_read words (Err y) e Q o h q f = subst (λ (z : Stop). Fails z o) (sym (q y h)) f

pub fails_give : {X A : Type 0} (view : X → A) (r : Result X Stop) (e : Stop) (Q : Stop → Type 0) (o : Option A)
    → IsErrAnd r Q → ((y : Stop) → Q y → y ≡ e) → Fails e o → Gives view r o
fails_give view (Ok p) e Q o h q f = absurd h
fails_give view (Err y) e Q o h q f = subst (λ (z : Stop). Fails z o) (sym (q y h)) f

-- where the part isn't read, the whole isn't
pub fails_map : {A B : Type 0} (e : Stop) (o : Option A) (p : Option B) → (o ≡ None → p ≡ None) → Fails e o → Fails e p
fails_map Memory o p f h = tt
fails_map Unread o p f h = f h

stands : (w v : Word) (words : List Word) (at : ℕ) → drop at words ≡ w ∷ drop (at + 1) words → w ≡ v → drop at words ≡ v ∷ drop (at + 1) words
stands w v words at e f = e ∙ ap (λ (x : Word). x ∷ drop (at + 1) words) f

pub not_stands : (words : List Word) (at : ℕ) → begins (is_sign Not) (drop at words) ≡ true → drop at words ≡ Fixed Not ∷ drop (at + 1) words
not_stands words at b = let f = front_of (is_sign Not) words at b in stands f.word (Fixed Not) words at f.shape (sign_word Not f.word f.passes)

pub close_stands : (words : List Word) (at : ℕ) → begins (is_sign Close) (drop at words) ≡ true → drop at words ≡ Fixed Close ∷ drop (at + 1) words
close_stands words at b = let f = front_of (is_sign Close) words at b in stands f.word (Fixed Close) words at f.shape (sign_word Close f.word f.passes)

not_at_plain : (n o : List Word → Option (Cond × List Word)) (ws : List Word) → begins (is_sign Not) ws ≡ false → not_at n o ws ≡ atom_of o ws
not_at_plain n o [] b = refl
not_at_plain n o (w ∷ ws) b = rw b refl

pub not_plain : (d : ℕ) (ws : List Word) → begins (is_sign Not) ws ≡ false → not_in d ws ≡ atom_in d ws
unfolding not_in
not_plain zero ws b = not_at_plain no_more no_more ws b
not_plain (suc d) ws b = not_at_plain (not_in d) (or_in d) ws b

pub not_none : (d : ℕ) (words : List Word) (at : ℕ) → d ≡ 0 → begins (is_sign Not) (drop at words) ≡ true → not_in d (drop at words) ≡ None
unfolding not_in
not_none d words at z b = ap (λ (n : ℕ). not_in n (drop at words)) z ∙ ap (not_in 0) (not_stands words at b)

pub not_step : (d k : ℕ) (words : List Word) (at : ℕ) → d ≡ suc k → begins (is_sign Not) (drop at words) ≡ true
    → not_in d (drop at words) ≡ read_map CNot (not_in k (drop (at + 1) words))
unfolding not_in
not_step d k words at z b = ap (λ (n : ℕ). not_in n (drop at words)) z ∙ ap (not_in (suc k)) (not_stands words at b)

-- a condition in parentheses
pub paren_step : (d k : ℕ) (words : List Word) (at end : ℕ) (w : Word) (c : Cond) → d ≡ suc k → drop at words ≡ w ∷ drop (at + 1) words → w ≡ Fixed Open
    → or_in k (drop (at + 1) words) ≡ read c (drop end words) → begins (is_sign Close) (drop end words) ≡ true
    → atom_in d (drop at words) ≡ read c (drop (end + 1) words)
paren_step d k words at end w c z e f r b =
    ap (λ (n : ℕ). atom_in n (drop at words)) z
    ∙ (ap (atom_in (suc k)) (stands w (Fixed Open) words at e f)
    ∙ (ap (λ (o : Option (Cond × List Word)). o >>= (λ r. closed r.0 r.1)) r ∙ ap (closed c) (close_stands words end b)))

alone_none : (c : Cond) (ws : List Word) → 0 < length ws → alone (c, ws) ≡ None
alone_none c [] h = absurd (omega (arith, h))
alone_none c (w ∷ ws) h = refl

-- words are left over
pub words_left : (d : ℕ) (words : List Word) (end : ℕ) (c : Cond) → or_in d (drop 0 words) ≡ read c (drop end words) → end < length words
    → condition_in d words ≡ None
words_left d words end c r l =
    ap (λ (o : Option (Cond × List Word)). o >>= alone) r ∙ alone_none c (drop end words) (omega (arith, length-drop end words))
