-- Clean words at which clap has no fault give items.
use Rattle.std.proofs.Common.{◌≡◌, ◌∙◌, Bool, true, false, not, ◌&&◌, ◌||◌, List, [], ◌∷◌, ◌++◌, map, Option, Some, None, cond, refl, sym, subst}
use Rattle.std.specs.List.{list_all}
use Rattle.std.specs.Str.{bytes_eq}
use Rattle.std.proofs.lemmas.Slice.Eq.{bytes_eq-Decides}
use Rattle.clap.specs.Lexer.{long_of}
use Rattle.clap.specs.Walk.{Held, Rule, Row, Waiting, idle, option, positional, arg_by_index, arg_by_long, settled_rows, walked, has_row}
use Rattle.clap.specs.Faults.{settle_fault, turn_fault, use_fault}
use Rattle.command_line.specs.Given.{Word, Item, named, file, dashed, joined, is_among, is_value, is_nonempty, less, Reads, nothing, apart, together, placed, ended}
use Rattle.command_line.specs.Clean.{are_clean}
use Rattle.command_line.proofs.Shapes.{file_id, option_rule, shape_with, IsOption, Serves, row_step, at, IsFree, is_idle, is_positional}
use Rattle.command_line.proofs.Turns.{IsPlainWord, plain_word_is, walked_alone, held_file, held_both, held_waiting, held_value, walked_file, walked_both, walked_value}
use Rattle.command_line.proofs.Fresh.{or_left, or_right, or_both, new_row}
use Rattle.command_line.proofs.Found.{named_last}
use Rattle.command_line.proofs.Views.{View, view, plain, ending, alone, both}
use Rattle.command_line.proofs.Back.{Back, next, none_both, fault_unknown, fault_both, fault_alone, fault_file, fault_stray, fault_ended, fault_ended_stray}

-- the rules serve for these options and for names, and for nothing else
pub record Only (rules : List Rule) (options : List Word) (takes : Bool) : Type 0 where
  pub serves : Serves rules options takes
  pub unknown : (x : Word) → is_among x options ≡ false → arg_by_long rules x ≡ None
  pub no_files : takes ≡ false → arg_by_index rules 1 ≡ None

-- an option with a row is used once more, which is a fault
fresh_of : (x v : Word) (q : Bool) (rows : List Row) → use_fault false (option_rule x q) (v ∷ []) rows ≡ [] → has_row x rows ≡ false
fresh_of x v q rows e = by (has_row x rows) refl where
  by : (b : Bool) → has_row x rows ≡ b → has_row x rows ≡ false
  by true is = let bad = rw is at e in cc
  by false is = is

-- rows that are added stay
row_named : (x v y : Word) (rows : List Row) → has_row x rows ≡ false → has_row y (row_step rows (named x v)) ≡ false → (has_row y rows ≡ false) × (bytes_eq x y ≡ false)
row_named x v y rows fresh e = apart_of rows (subst (λ (l : List Row). has_row y l ≡ false) (named_last x v rows fresh) e) where
  apart_of : (rows : List Row) → has_row y (rows ++ new_row x v ∷ []) ≡ false → (has_row y rows ≡ false) × (bytes_eq x y ≡ false)
  apart_of [] e = (refl, or_left (bytes_eq x y) false e)
  apart_of (r ∷ rs) e =
      let p = apart_of rs (or_right (bytes_eq r.id y) _ e) in
      (or_both (bytes_eq r.id y) (has_row y rs) (or_left (bytes_eq r.id y) _ e) p.0, p.1)

row_file : (w y : Word) (rows : List Row) → has_row y (row_step rows (file w)) ≡ false → has_row y rows ≡ false
row_file w y [] e = refl
row_file w y (r ∷ rs) e = by (bytes_eq r.id file_id) refl (row_file w y rs) where
  by : (b : Bool) → bytes_eq r.id file_id ≡ b → (has_row y (row_step rs (file w)) ≡ false → has_row y rs ≡ false) → has_row y (r ∷ rs) ≡ false
  by true is below = let h : (bytes_eq r.id y || has_row y rs) ≡ false = rw is at e in h
  by false is below =
      let h : (bytes_eq r.id y || has_row y (row_step rs (file w))) ≡ false = rw is at e in
      or_both (bytes_eq r.id y) (has_row y rs) (or_left (bytes_eq r.id y) _ h) (below (or_right (bytes_eq r.id y) _ h))

among_less : (x y : Word) (still : List Word) → is_among y still ≡ true → bytes_eq x y ≡ false → is_among y (less x still) ≡ true
among_less x y [] e other = cc
among_less x y (z ∷ zs) e other = by (bytes_eq x z) refl (bytes_eq z y) refl (among_less x y zs) where
  by : (b : Bool) → bytes_eq x z ≡ b → (c : Bool) → bytes_eq z y ≡ c → (is_among y zs ≡ true → bytes_eq x y ≡ false → is_among y (less x zs) ≡ true)
      → is_among y (cond (not b) (z ∷ less x zs) (less x zs)) ≡ true
  by false is true eq below = rw eq refl
  by false is false eq below = let h : is_among y zs ≡ true = rw eq at e in rw eq (below h other)
  by true is true eq below =
      let same : z ≡ y = (bytes_eq-Decides z y).0 eq in
      let bad : bytes_eq x y ≡ true = subst (λ (u : Word). bytes_eq x u ≡ true) same is in
      cc
  by true is false eq below = let h : is_among y zs ≡ true = rw eq at e in below h other

ends : (rules : List Rule) (h : Held) (u : Waiting) → walked rules [] (at h u false) (dashed []) ≡ at h u true
unfolding walked
ends rules h idle = refl
ends rules h positional = refl
ends rules h (option x) = refl

flag_no_value : {X : Type 0} (w u : Word) → w ≡ 45 ∷ u → is_value w ≡ true → X
flag_no_value w u is value = let bad : false ≡ true = subst (λ (t : Word). is_value t ≡ true) is value in cc

module _ (name : Word) (rules : List Rule) (options : List Word) (takes : Bool) (only : Only rules options takes) where
  known : (h : Held) (waiting : Waiting) (w x : Word) (v : Option Word) → bytes_eq w (dashed []) ≡ false → long_of w ≡ Some (x, v)
      → turn_fault (shape_with name rules) [] (at h waiting false) w ≡ [] → is_among x options ≡ true
  known h waiting w x v no_end long e = by (is_among x options) refl where
    by : (b : Bool) → is_among x options ≡ b → is_among x options ≡ true
    by true is = is
    by false is = let bad = sym (fault_unknown name rules h waiting w x v no_end long (only.unknown x is)) ∙ e in cc

  -- where names aren't taken, none stands behind `--`
  settled_trailing : (h : Held) (waiting : Waiting) (words : List Word) → Back name rules (at h waiting true) words → settle_fault rules false h ≡ []
  settled_trailing h waiting [] b = b.last
  settled_trailing h waiting (w ∷ ws) b = by takes refl (next name rules (at h waiting true) _ w ws refl b).0 where
    by : (t : Bool) → takes ≡ t → turn_fault (shape_with name rules) [] (at h waiting true) w ≡ [] → settle_fault rules false h ≡ []
    by true is e = sym (fault_ended name rules h waiting (only.serves.files is) w) ∙ e
    by false is e = let bad = sym (fault_ended_stray name rules h waiting (only.no_files is) w) ∙ e in cc

  settled_end : (h : Held) (waiting : Waiting) (words : List Word) → Back name rules (at h waiting false) (dashed [] ∷ words) → Back name rules (at h waiting true) words
  settled_end h waiting words b = (next name rules (at h waiting false) (at h waiting true) (dashed []) words (ends rules h waiting) b).1

  -- a flag settles what is pending
  settled_alone : (h : Held) (waiting : Waiting) (x : Word) → is_among x options ≡ true → turn_fault (shape_with name rules) [] (at h waiting false) (dashed x) ≡ [] → settle_fault rules false h ≡ []
  settled_alone h waiting x among e = (none_both _ _ (sym (fault_alone name rules h waiting x (only.serves.option x among)) ∙ e)).0

  settled_both : (h : Held) (waiting : Waiting) (x v : Word) (among : is_among x options ≡ true) → turn_fault (shape_with name rules) [] (at h waiting false) (joined x v) ≡ []
      → (settle_fault rules false h ≡ []) × (has_row x (settled_rows rules h.pending h.rows) ≡ false)
  settled_both h waiting x v among e =
      let o = only.serves.option x among in
      let first = (none_both _ _ (sym (fault_both name rules h waiting x v o) ∙ e)).0 in
      let p = none_both _ _ first in
      (p.0, fresh_of x v o.required _ p.1)

  settled_flag : (h : Held) (waiting : Waiting) (w : Word) (ws : List Word) → View w ws → (is_value w ≡ true → settle_fault rules false h ≡ [])
      → Back name rules (at h waiting false) (w ∷ ws) → settle_fault rules false h ≡ []
  settled_flag h waiting w ws (plain p value clean) free b = free value
  settled_flag h waiting w ws (ending is all) free b =
      settled_trailing h waiting ws (settled_end h waiting ws (subst (λ (u : Word). Back name rules (at h waiting false) (u ∷ ws)) is b))
  settled_flag h waiting w ws (alone x is long no_end clean) free b =
      let e = (next name rules (at h waiting false) _ w ws refl b).0 in
      settled_alone h waiting x (known h waiting w x None no_end long e) (subst (λ (u : Word). turn_fault (shape_with name rules) [] (at h waiting false) u ≡ []) is e)
  settled_flag h waiting w ws (both x v is long no_end value clean) free b =
      let e = (next name rules (at h waiting false) _ w ws refl b).0 in
      (settled_both h waiting x v (known h waiting w x (Some v) no_end long e) (subst (λ (u : Word). turn_fault (shape_with name rules) [] (at h waiting false) u ≡ []) is e)).0

  settled_free : (h : Held) (waiting : Waiting) → IsFree waiting → (words : List Word) → are_clean words ≡ true → Back name rules (at h waiting false) words → settle_fault rules false h ≡ []
  settled_free h waiting free [] clean b = b.last
  settled_free h waiting free (w ∷ ws) clean b = settled_flag h waiting w ws (view w ws clean) (λ value. by takes refl (plain_word_is w value)) b where
    by : (t : Bool) → takes ≡ t → IsPlainWord w → settle_fault rules false h ≡ []
    by true is p = sym (fault_file name rules h waiting free (only.serves.files is) w p) ∙ (next name rules (at h waiting false) _ w ws refl b).0
    by false is p = let bad = sym (fault_stray name rules h waiting free (only.no_files is) w p) ∙ (next name rules (at h waiting false) _ w ws refl b).0 in cc

  -- an option without a row may still be given
  StillAll : List Word → List Row → Type 0
  StillAll still rows = (y : Word) → is_among y options ≡ true → has_row y rows ≡ false → is_among y still ≡ true

  all_named : (x v : Word) (still : List Word) (rows : List Row) → has_row x rows ≡ false → StillAll still rows → StillAll (less x still) (row_step rows (named x v))
  unfolding StillAll
  all_named x v still rows fresh all = λ y among none. let p = row_named x v y rows fresh none in among_less x y still (all y among p.0) p.1

  all_file : (w : Word) (still : List Word) (rows : List Row) → StillAll still rows → StillAll still (row_step rows (file w))
  unfolding StillAll
  all_file w still rows all = λ y among none. all y among (row_file w y rows none)

  abbrev Answer : List Word → List Word → Type 0
  Answer still words = (items : List Item) × Reads still takes words items

  abbrev BackFor : List Word → Type 0
  BackFor words = are_clean words ≡ true → (still : List Word) (h : Held) (waiting : Waiting) (rows : List Row) → IsFree waiting → settled_rows rules h.pending h.rows ≡ rows
      → StillAll still rows → Back name rules (at h waiting false) words → Answer still words

  abbrev BackTail : List Word → Type 0
  BackTail [] = Unit {0}
  BackTail (w ∷ ws) = BackFor ws

  back_file : (w : Word) (ws : List Word) → BackFor ws → is_value w ≡ true → are_clean ws ≡ true → (still : List Word) (h : Held) (waiting : Waiting) (rows : List Row) → IsFree waiting
      → settled_rows rules h.pending h.rows ≡ rows → StillAll still rows → Back name rules (at h waiting false) (w ∷ ws) → Answer still (w ∷ ws)
  back_file w ws rec value clean still h waiting rows free are all b = by takes refl where
    by : (t : Bool) → takes ≡ t → Answer still (w ∷ ws)
    by true is =
        let has = only.serves.files is in
        let rest = (next name rules (at h waiting false) _ w ws (walked_file rules h waiting free has w (plain_word_is w value)) b).1 in
        let new_rows : settled_rows rules (held_file rules w h).pending (held_file rules w h).rows ≡ row_step rows (file w) = rw (has.by_id, are) refl in
        let r = rec clean still (held_file rules w h) positional (row_step rows (file w)) is_positional new_rows (all_file w still rows all) rest in
        (file w ∷ r.0, placed w is value r.1)
    by false is = let bad = sym (fault_stray name rules h waiting free (only.no_files is) w (plain_word_is w value)) ∙ (next name rules (at h waiting false) _ w ws refl b).0 in cc

  ended_all : (h : Held) (waiting : Waiting) (ws : List Word) → Back name rules (at h waiting true) ws → list_all is_nonempty ws ≡ true → list_all (λ w. takes && is_nonempty w) ws ≡ true
  ended_all h waiting [] b all = refl
  ended_all h waiting (w ∷ ws) b all = by takes refl where
    by : (t : Bool) → takes ≡ t → list_all (λ w. takes && is_nonempty w) (w ∷ ws) ≡ true
    by true is = subst (λ (u : Bool). list_all (λ y. u && is_nonempty y) (w ∷ ws) ≡ true) (sym is) all
    by false is = let bad = sym (fault_ended_stray name rules h waiting (only.no_files is) w) ∙ (next name rules (at h waiting true) _ w ws refl b).0 in cc

  back_both : (x v : Word) (ws : List Word) → BackFor ws → long_of (joined x v) ≡ Some (x, Some v) → bytes_eq (joined x v) (dashed []) ≡ false → is_value v ≡ true → are_clean ws ≡ true
      → (still : List Word) (h : Held) (waiting : Waiting) (rows : List Row) → IsFree waiting
      → settled_rows rules h.pending h.rows ≡ rows → StillAll still rows → Back name rules (at h waiting false) (joined x v ∷ ws) → Answer still (joined x v ∷ ws)
  unfolding StillAll
  back_both x v ws rec long no_end value clean still h waiting rows free are all b =
      let e = (next name rules (at h waiting false) _ (joined x v) ws refl b).0 in
      let among = known h waiting (joined x v) x (Some v) no_end long e in
      let o = only.serves.option x among in
      let fresh : has_row x rows ≡ false = rw (sym are) (settled_both h waiting x v among e).1 in
      let rest = (next name rules (at h waiting false) _ (joined x v) ws (walked_both rules h waiting free x v o) b).1 in
      let new_rows : settled_rows rules (held_both rules x o.required v h).pending (held_both rules x o.required v h).rows ≡ row_step rows (named x v) = rw are refl in
      let r = rec clean (less x still) (held_both rules x o.required v h) idle (row_step rows (named x v)) is_idle new_rows (all_named x v still rows fresh all) rest in
      (named x v ∷ r.0, together x v (all x among fresh) value r.1)

  -- an option that waits for a value has one
  no_value : (h : Held) (x : Word) (o : IsOption rules x) → settle_fault rules false (held_waiting rules x h) ≡ [] → ⊥
  no_value h x o e = let bad = rw o.by_id at e in cc

  back_alone : (x : Word) (ws : List Word) → BackTail ws → long_of (dashed x) ≡ Some (x, None) → bytes_eq (dashed x) (dashed []) ≡ false → are_clean ws ≡ true
      → (still : List Word) (h : Held) (waiting : Waiting) (rows : List Row) → IsFree waiting
      → settled_rows rules h.pending h.rows ≡ rows → StillAll still rows → Back name rules (at h waiting false) (dashed x ∷ ws) → Answer still (dashed x ∷ ws)
  unfolding StillAll
  back_alone x [] rec long no_end clean still h waiting rows free are all b =
      let e = (next name rules (at h waiting false) _ (dashed x) [] refl b).0 in
      let o = only.serves.option x (known h waiting (dashed x) x None no_end long e) in
      let rest = (next name rules (at h waiting false) _ (dashed x) [] (walked_alone rules h waiting free x o) b).1 in
      absurd (no_value h x o rest.last)
  back_alone x (v ∷ ws) rec long no_end clean still h waiting rows free are all b = by (view v ws clean) where
    e : turn_fault (shape_with name rules) [] (at h waiting false) (dashed x) ≡ []
    e = (next name rules (at h waiting false) _ (dashed x) (v ∷ ws) refl b).0

    among : is_among x options ≡ true
    among = known h waiting (dashed x) x None no_end long e

    o : IsOption rules x
    o = only.serves.option x among

    rest : Back name rules (at (held_waiting rules x h) (option x) false) (v ∷ ws)
    rest = (next name rules (at h waiting false) _ (dashed x) (v ∷ ws) (walked_alone rules h waiting free x o) b).1

    not_flag : settle_fault rules false (held_waiting rules x h) ≡ [] → Answer still (dashed x ∷ v ∷ ws)
    not_flag s = absurd (no_value h x o s)

    with_value : is_value v ≡ true → are_clean ws ≡ true → Answer still (dashed x ∷ v ∷ ws)
    with_value value clean_rest =
        let last = (next name rules (at (held_waiting rules x h) (option x) false) _ v ws (walked_value rules h x v o (plain_word_is v value)) rest).1 in
        let settles = settled_free (held_value rules x v h) idle is_idle ws clean_rest last in
        let used_once : use_fault false (option_rule x o.required) (v ∷ []) (settled_rows rules h.pending h.rows) ≡ [] = rw o.by_id at settles in
        let fresh : has_row x rows ≡ false = rw (sym are) (fresh_of x v o.required _ used_once) in
        let new_rows : settled_rows rules (held_value rules x v h).pending (held_value rules x v h).rows ≡ row_step rows (named x v) = rw (o.by_id, are) refl in
        let r = rec clean_rest (less x still) (held_value rules x v h) idle (row_step rows (named x v)) is_idle new_rows (all_named x v still rows fresh all) last in
        (named x v ∷ r.0, apart x v (all x among fresh) value r.1)

    by : View v ws → Answer still (dashed x ∷ v ∷ ws)
    by (plain p value clean_rest) = with_value value clean_rest
    by (ending is each) = not_flag (settled_flag (held_waiting rules x h) (option x) v ws (ending is each) (λ value. flag_no_value v _ is value) rest)
    by (alone y is l n c) = not_flag (settled_flag (held_waiting rules x h) (option x) v ws (alone y is l n c) (λ value. flag_no_value v _ is value) rest)
    by (both y u is l n val c) = not_flag (settled_flag (held_waiting rules x h) (option x) v ws (both y u is l n val c) (λ value. flag_no_value v _ is value) rest)

  back_step : (w : Word) (ws : List Word) → BackFor ws → BackTail ws → BackFor (w ∷ ws)
  back_step w ws rec tail clean still h waiting rows free are all b = by (view w ws clean) where
    by : View w ws → Answer still (w ∷ ws)
    by (plain p value c) = back_file w ws rec value c still h waiting rows free are all b
    by (ending is each) =
        let b2 = subst (λ (u : Word). Back name rules (at h waiting false) (u ∷ ws)) is b in
        subst (λ (u : Word). Answer still (u ∷ ws)) (sym is) (map file ws, ended ws (ended_all h waiting ws (settled_end h waiting ws b2) each))
    by (alone x is long no_end c) =
        subst (λ (u : Word). Answer still (u ∷ ws)) (sym is) (back_alone x ws tail (subst (λ (u : Word). long_of u ≡ Some (x, None)) is long)
        (subst (λ (u : Word). bytes_eq u (dashed []) ≡ false) is no_end) c still h waiting rows free are all (subst (λ (u : Word). Back name rules (at h waiting false) (u ∷ ws)) is b))
    by (both x v is long no_end value c) =
        subst (λ (u : Word). Answer still (u ∷ ws)) (sym is) (back_both x v ws rec (subst (λ (u : Word). long_of u ≡ Some (x, Some v)) is long)
        (subst (λ (u : Word). bytes_eq u (dashed []) ≡ false) is no_end) value c still h waiting rows free are all (subst (λ (u : Word). Back name rules (at h waiting false) (u ∷ ws)) is b))

  back_all : (words : List Word) → BackFor words × BackTail words
  back_all [] = ((λ clean still h waiting rows free are all b. ([], nothing)), tt)
  back_all (w ∷ ws) = let p = back_all ws in (back_step w ws p.0 p.1, p.0)

  pub back : (words : List Word) → are_clean words ≡ true → (still : List Word) (h : Held) (waiting : Waiting) (rows : List Row) → IsFree waiting → settled_rows rules h.pending h.rows ≡ rows
      → ((y : Word) → is_among y options ≡ true → has_row y rows ≡ false → is_among y still ≡ true) → Back name rules (at h waiting false) words → (items : List Item) × Reads still takes words items
  unfolding StillAll
  back words = (back_all words).0
