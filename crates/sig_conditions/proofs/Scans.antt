-- One more character: what the words so far and the run before the rest make.
use Rattle.std.proofs.Common.{ℕ, ◌≡◌, Bool, true, false, List, [], ◌∷◌, ◌++◌, refl, ap, sym, ◌∙◌, append_assoc}
use Rattle.std.specs.Prelude.{if◌then◌else◌}
use Rattle.sig_conditions.specs.declared.word.Word.{Word}
use Rattle.sig_conditions.specs.Words.{ended, is_blank, is_run_character, sign_of, words_from}

pub run_goes : (run rest : List ℕ) (c : ℕ) → is_run_character c ≡ true → words_from run (c ∷ rest) ≡ words_from (run ++ c ∷ []) rest
unfolding words_from
run_goes run rest c e = rw e refl

pub run_stops : (run rest : List ℕ) (c : ℕ) → is_run_character c ≡ false
    → words_from run (c ∷ rest) ≡ ended run (if is_blank c then words_from [] rest else sign_of c ∷ words_from [] rest)
unfolding words_from
run_stops run rest c e = rw e refl

pub run_ends : (run : List ℕ) → words_from run [] ≡ ended run []
unfolding words_from
run_ends run = refl

ended-append : (run : List ℕ) (ws : List Word) → ended run [] ++ ws ≡ ended run ws
ended-append [] ws = refl
ended-append (c ∷ cs) ws = refl

pub if_true : {A : Type 0} (b : Bool) (x y : A) → b ≡ true → (if b then x else y) ≡ x
if_true b x y e = rw e refl

pub if_false : {A : Type 0} (b : Bool) (x y : A) → b ≡ false → (if b then x else y) ≡ y
if_false b x y e = rw e refl

-- a character that goes on with the run
pub run_taken : (old now : List Word) (run after rest : List ℕ) (c : ℕ) → now ≡ old → is_run_character c ≡ true → after ≡ run ++ c ∷ []
    → now ++ words_from after rest ≡ old ++ words_from run (c ∷ rest)
run_taken old now run after rest c e r f =
    ap (λ (ws : List Word). ws ++ words_from after rest) e
    ∙ ap (λ (ws : List Word). old ++ ws) (ap (λ (cs : List ℕ). words_from cs rest) f ∙ sym (run_goes run rest c r))

-- a blank
pub blank_taken : (old now : List Word) (run after rest : List ℕ) (c : ℕ) → now ≡ old ++ ended run [] → after ≡ [] → is_run_character c ≡ false → is_blank c ≡ true
    → now ++ words_from after rest ≡ old ++ words_from run (c ∷ rest)
blank_taken old now run after rest c e f r b =
    ap (λ (ws : List Word). ws ++ words_from after rest) e
    ∙ (ap (λ (cs : List ℕ). (old ++ ended run []) ++ words_from cs rest) f
    ∙ (append_assoc old (ended run []) (words_from [] rest)
    ∙ ap (λ (ws : List Word). old ++ ws)
    (ended-append run (words_from [] rest)
    ∙ (ap (ended run) (sym (if_true (is_blank c) (words_from [] rest) (sign_of c ∷ words_from [] rest) b)) ∙ sym (run_stops run rest c r)))))

-- a character that is a word by itself
pub sign_taken : (old between now : List Word) (run after rest : List ℕ) (c : ℕ) (w : Word) → between ≡ old ++ ended run [] → after ≡ [] → now ≡ between ++ w ∷ [] → w ≡ sign_of c
    → is_run_character c ≡ false → is_blank c ≡ false → now ++ words_from after rest ≡ old ++ words_from run (c ∷ rest)
sign_taken old between now run after rest c w e f g s r b =
    ap (λ (ws : List Word). ws ++ words_from after rest) (g ∙ ap (λ (v : Word). between ++ v ∷ []) s)
    ∙ (ap (λ (cs : List ℕ). (between ++ sign_of c ∷ []) ++ words_from cs rest) f
    ∙ (append_assoc between (sign_of c ∷ []) (words_from [] rest)
    ∙ (ap (λ (ws : List Word). ws ++ (sign_of c ∷ words_from [] rest)) e
    ∙ (append_assoc old (ended run []) (sign_of c ∷ words_from [] rest)
    ∙ ap (λ (ws : List Word). old ++ ws)
    (ended-append run (sign_of c ∷ words_from [] rest)
    ∙ (ap (ended run) (sym (if_false (is_blank c) (words_from [] rest) (sign_of c ∷ words_from [] rest) b)) ∙ sym (run_stops run rest c r)))))))
