-- One turn of the reader's loop.
use Rattle.std.proofs.Common.{◌≡◌, ℕ, zero, suc, ◌+◌, ◌<◌, ◌≤◌, ◌&&◌, arith, Bool, true, false, cond, List, [], ◌∷◌, ◌++◌, length, drop, map, refl, sym, ◌∙◌, ap, subst}
use Rattle.std.specs.Prelude.{Result, Ok, Err, Option, Some, None, if◌then◌else◌}
use Rattle.sql_lang.specs.Tokens.{Sort, Word, AND, OR, NOT, SELECT, FROM, WHERE, Opening, Closing, Semicolon, Star, Name}
use Rattle.sql_lang.specs.Grammar.{Nots, Ors}
use Rattle.sql_lang.specs.Machine.{State, Begun, Selected, Starred, FromWord, Tabled, Inside, Ended, Partial, Start, Level, level, step, on_step, run, head_on, on_table, inside, at_start, started, within, behind, behind_if, close, ends, first, go_on, whole, is_whole, is_joint}
use Rattle.sql_parse.specs.View.{all_nots, nots_of}

pub run_turn : (s u : State) (t : Sort) (ts : List Sort) → step s t ≡ Some u → run s (t ∷ ts) ≡ run u ts
run_turn s u t ts e = rw e refl

pub turn_ran : {A : Type 0} (view : A → Sort) (s u : State) (t : A) (ts us : List A) (all : Result State (List Sort)) → us ≡ t ∷ ts → Some u ≡ step s (view t) → run s (map view us) ≡ all → run u (map view ts) ≡ all
turn_ran {A} view s u t ts us all e h r =
    sym (run_turn s u (view t) (map view ts) (sym h)) ∙ (ap (λ (xs : List A). run s (map view xs)) (sym e) ∙ r)

drop_next : {A : Type 0} (n : ℕ) (xs ys : List A) (y : A) → y ∷ ys ≡ drop n xs → ys ≡ drop (n + 1) xs
drop_next zero [] ys y e = absurd cc
drop_next zero (x ∷ xs) ys y e = cc
drop_next (suc n) [] ys y e = absurd cc
drop_next {A} (suc n) (x ∷ xs) ys y e = drop_next n xs ys y e ∙ ap (λ (k : ℕ). drop k (x ∷ xs)) (let q : suc (n + 1) ≡ suc n + 1 = omega arith in q)

pub turn_left : {A : Type 0} (view : A → Sort) (n : ℕ) (t : A) (ts us : List A) (all : List Sort) → us ≡ t ∷ ts → map view us ≡ drop n all → map view ts ≡ drop (n + 1) all
turn_left view n t ts us all e h = drop_next n all (map view ts) (view t) (ap (map view) (sym e) ∙ h)

-- ---- the words NOT on all levels grow by one at most

abbrev AtMost : ℕ → Option State → Type 0
AtMost n None = Unit {0}
AtMost n (Some s) = all_nots s ≤ n

within_nots : (table : List ℕ) (l : Level) (ls : List Level) (o : Option Partial) → AtMost (l.nots + nots_of ls + 1) (within table l ls o)
within_nots table l ls None = tt
within_nots table l ls (Some p) = omega arith

start_nots : (table : List ℕ) (l : Level) (ls : List Level) (t : Sort) → AtMost (l.nots + nots_of ls + 1) (at_start table l ls t)
start_nots table l ls (Word NOT) = omega arith
start_nots table l ls Opening = omega arith
start_nots table l ls t = within_nots table l ls (first t)

behind_nots : (table : List ℕ) (v : Nots) (l : Level) (ls : List Level) (t : Sort) → AtMost (l.nots + nots_of ls + 1) (behind table v l ls t)
behind_nots table v l ls (Word AND) = omega arith
behind_nots table v l ls (Word OR) = omega arith
behind_nots table v l [] Closing = tt
behind_nots table v l (m ∷ ls) Closing = omega arith
behind_nots table v l [] Semicolon = omega arith
behind_nots table v l (m ∷ ls) Semicolon = tt
behind_nots table v l ls t = tt

behind_if_nots : (table : List ℕ) (o : Option Nots) (l : Level) (ls : List Level) (t : Sort) → AtMost (l.nots + nots_of ls + 1) (behind_if table o l ls t)
behind_if_nots table None l ls t = tt
behind_if_nots table (Some v) l ls t = behind_nots table v l ls t

started_nots : (table : List ℕ) (p : Partial) (l : Level) (ls : List Level) (t : Sort) → AtMost (l.nots + nots_of ls + 1) (started table p l ls t)
started_nots table p l ls t =
    elim (is_joint t && is_whole p) as (λ b. AtMost (l.nots + nots_of ls + 1) (if b then behind_if table (whole p) l ls t else within table l ls (go_on p t))) [
      | true ↦ behind_if_nots table (whole p) l ls t
      | false ↦ within_nots table l ls (go_on p t)
    ]

inside_nots : (table : List ℕ) (p : Partial) (l : Level) (ls : List Level) (t : Sort) → AtMost (l.nots + nots_of ls + 1) (inside table p l ls t)
inside_nots table Start l ls t = start_nots table l ls t
inside_nots table p l ls t = started_nots table p l ls t

head_nots : (w t : Sort) (s : State) (n : ℕ) → all_nots s ≤ n → AtMost n (head_on w t s)
head_nots (Word SELECT) (Word SELECT) s n h = h
head_nots (Word FROM) (Word FROM) s n h = h
head_nots (Word WHERE) (Word WHERE) s n h = h
head_nots Star Star s n h = h
head_nots w t s n h = tt

table_nots : (t : Sort) (n : ℕ) → AtMost n (on_table t)
table_nots (Name w) n = omega arith
table_nots t n = tt

step_nots : (s : State) (t : Sort) → AtMost (all_nots s + 1) (step s t)
unfolding step
step_nots Begun t = head_nots (Word SELECT) t Selected 1 (omega arith)
step_nots Selected t = head_nots Star t Starred 1 (omega arith)
step_nots Starred t = head_nots (Word FROM) t FromWord 1 (omega arith)
step_nots FromWord t = table_nots t 1
step_nots (Tabled n) t = head_nots (Word WHERE) t (Inside n Start (level [] [] 0) []) 1 (omega arith)
step_nots (Inside table p l ls) t = inside_nots table p l ls t
step_nots (Ended table o) t = tt

pub nots_turn : (s u : State) (t : Sort) → Some u ≡ step s t → all_nots u ≤ all_nots s + 1
nots_turn s u t is = subst (AtMost (all_nots s + 1)) (sym is) (step_nots s t)
