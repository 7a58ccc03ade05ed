-- What a reader of the code answers beside what the words read as.
use Rattle.std.specs.Prelude.{ℕ, ◌≡◌, ◌+◌, List, Some, None, Ok, Err, drop}
use Rattle.std.specs.declared.option.Option.{Option}
use Rattle.std.specs.declared.result.Result.{Result}
use Rattle.sig_conditions.specs.declared.selector.Selector.{Selector}
use Rattle.sig_conditions.specs.declared.condition.Condition.{Condition}
use Rattle.sig_conditions.specs.declared.stop.Stop.{Stop}
use Rattle.sig_conditions.specs.declared.stop.Stop.TheVariants.{Memory, Unread}
use Rattle.sig_conditions.specs.declared.word.Word.{Word}
use Rattle.sig_conditions.specs.Conditions.{Cond, cond_view}
use Rattle.sig_conditions.specs.Reader.{selected}

-- there is no reading, unless memory ran out
abbrev pub Fails : {A : Type 0} → Stop → Option A → Type 0
Fails Memory read = Unit {0}
Fails Unread read = read ≡ None

-- the condition at the front and the number of words up to its end
abbrev pub Reads : List Word → Result (Condition × ℕ) Stop → Option (Cond × List Word) → Type 0
Reads words (Ok p) read = read ≡ Some (cond_view p.0, drop p.1 words)
Reads words (Err e) read = Fails e read

abbrev pub Gives : {X A : Type 0} → (X → A) → Result X Stop → Option A → Type 0
Gives view (Ok x) read = read ≡ Some (view x)
Gives view (Err e) read = Fails e read

-- `of` and a selector stand at the place
abbrev pub Selects : List Word → ℕ → Result Selector Stop → Type 0
Selects words at (Ok s) = (make : Selector → Cond) → selected make (drop at words) ≡ Some (make s, drop (at + 2) words)
Selects words at (Err Memory) = Unit {0}
Selects words at (Err Unread) = (make : Selector → Cond) → selected make (drop at words) ≡ None
