-- What the reader of keys gives.
use Rattle.std.specs.Prelude.{◌≡◌, ℕ, List, Option, Some, None, IfSome, Result, Ok, Err}
use Rattle.std.specs.Borrow.{Bor}
use Rattle.yaml_inline.specs.declared.halt.Halt.{Halt}
use Rattle.yaml_inline.specs.Key.{Keyed, keyed, unkeyed, key_stop}
use Rattle.yaml_inline.specs.View.{halt_view}

abbrev pub key_view : Option (List ℕ × Bor (List ℕ)) → Keyed
key_view None = unkeyed
key_view (Some p) = keyed p.0 p.1.now

-- the result is what stands there, unless memory ran out
abbrev pub KeyIs : Result (Option (List ℕ × Bor (List ℕ))) Halt → Keyed → Type 0
KeyIs (Ok o) found = found ≡ key_view o
KeyIs (Err h) found = IfSome (halt_view h) (λ s. found ≡ key_stop s)

-- a key by its text, where something is left behind its colon
abbrev pub keyed_by : List ℕ → Option (Bor (List ℕ)) → Keyed
keyed_by k None = unkeyed
keyed_by k (Some r) = keyed k r.now

abbrev pub parts_view : Option (Bor (List ℕ) × Bor (List ℕ)) → Keyed
parts_view None = unkeyed
parts_view (Some p) = keyed p.0.now p.1.now

-- the same of a key that is lent
abbrev pub PartsAre : Result (Option (Bor (List ℕ) × Bor (List ℕ))) Halt → Keyed → Type 0
PartsAre (Ok o) found = found ≡ parts_view o
PartsAre (Err h) found = IfSome (halt_view h) (λ s. found ≡ key_stop s)
