use Rattle.std.proofs.Common.{◌≡◌, ℕ, ◌+◌, ◌<◌, List, [], ◌∷◌, ◌++◌, length, get_or, drop, sym, ap, ◌∙◌}
use Rattle.std.proofs.lemmas.Iterator.{YieldsList-from_chars}
use Rattle.std.proofs.lemmas.List.{drop_more, length_push}
use Rattle.std.proofs.lemmas.Iterator.Consumers.{YieldsList-turn, YieldsList-end}
use Rattle.std.proofs.Math.Seq.{drop-length}
use Rattle.std.specs.Str.{chars}
use Rattle.sig_conditions.specs.declared.word.Word.{Word}
use Rattle.sig_conditions.specs.Words.{words_from}
use Rattle.sig_conditions.proofs.Scans.{run_ends}
use Rattle.sig_conditions.proofs.scan.scan.Goals as goal

-- the next character of those that are left
next_left : (cs ys : List ℕ) (c : ℕ) → (length ys < length cs) × (c ≡ get_or cs (length ys) c) → drop (length ys) cs ≡ c ∷ drop (length (ys ++ c ∷ [])) cs
next_left cs ys c h =
    drop_more cs (length ys) c h.0
    ∙ (ap (λ (x : ℕ). x ∷ drop (length ys + 1) cs) (sym h.1) ∙ ap (λ (n : ℕ). c ∷ drop n cs) (sym (length_push ys c)))

step : (old now : List Word) (run after cs ys : List ℕ) (c : ℕ) (whole : List Word) → (length ys < length cs) × (c ≡ get_or cs (length ys) c)
    → old ++ words_from run (drop (length ys) cs) ≡ whole → ((rest : List ℕ) → now ++ words_from after rest ≡ old ++ words_from run (c ∷ rest))
    → now ++ words_from after (drop (length (ys ++ c ∷ [])) cs) ≡ whole
step old now run after cs ys c whole h i f =
    f (drop (length (ys ++ c ∷ [])) cs) ∙ (ap (λ (xs : List ℕ). old ++ words_from run xs) (sym (next_left cs ys c h)) ∙ i)

-- no character is left
none_left : (cs ys : List ℕ) → length ys ≡ length cs → drop (length ys) cs ≡ []
none_left cs ys e = ap (λ (n : ℕ). drop n cs) e ∙ drop-length cs

pub loop-c-preserved : goal.loop-c-preserved
loop-c-preserved c =
    let t = YieldsList-turn (YieldsList-from_chars c.args.text.now c.utf8.text cc) c.loop-c.yielded _ c.loop-c.yielded_by _ _ c.in-Some.c c.in-Some.is c.next.ensures.steps in
    step c.loop-c.scanner.words.items c.take.new.self.words.items c.loop-c.scanner.run c.take.new.self.run (chars c.args.text.now) c.loop-c.yielded c.in-Some.c _ t
    c.loop-c.invariant c.in_ok-take.ensures

pub returns : goal.returns
returns c =
    let t = YieldsList-end (YieldsList-from_chars c.args.text.now c.utf8.text cc) c.loop-c.yielded _ c.loop-c.yielded_by _ _ c.in-None.is c.next.ensures.steps in
    c.in_ok-end_run.ensures.words
    ∙ (ap (λ (ws : List Word). c.loop-c.scanner.words.items ++ ws) (sym (run_ends c.loop-c.scanner.run))
    ∙ (ap (λ (xs : List ℕ). c.loop-c.scanner.words.items ++ words_from c.loop-c.scanner.run xs) (sym (none_left (chars c.args.text.now) c.loop-c.yielded t.1))
    ∙ c.loop-c.invariant))
