use Rattle.std.proofs.Common.{◌≡◌, ◌++◌, drop, map, encode_utf8_all}
use Rattle.sigma_serve.proofs.words.lent.Given as goal

abbrev pub invariant-loop-word : goal.invariant-loop-word
invariant-loop-word l =
    map (λ s. s.now) l.all.items ++ map encode_utf8_all (drop l.word-index l.words) ≡ map encode_utf8_all l.words
