use Rattle.std.proofs.Common.{List, ℕ, ◌≡◌, ◌+◌, length, sym, ◌∙◌, ap, subst, Bool}
use Rattle.std.specs.Prelude.{IfOk, encode_utf8_all}
use Rattle.sig_base.proofs.TextLemmas.{ascii_encodes}
use Rattle.sqlite_writer.specs.Pieces.{piece_if}
use Rattle.sqlite_writer.proofs.sizes.with_piece_if.Goals as goal

pub returns-then-so-clause-ok : goal.returns-then-so-clause-ok
returns-then-so-clause-ok c =
    let piece = c.args.piece.now in
    let is : piece ≡ encode_utf8_all (piece_if c.args.so piece)
    = sym (ascii_encodes piece c.requires) ∙ sym (ap (λ (so : Bool). encode_utf8_all (piece_if so piece)) c.if-so.true) in
    subst (λ (bytes : List ℕ). IfOk c.add.result (λ n. n ≡ c.args.size + length bytes)) is c.add.ensures.ok
