-- Loops that answer one thing after the other.
use Rattle.std.proofs.Common.{◌≡◌, ℕ, suc, ◌+◌, ◌<◌, Bool, false, List, [], ◌∷◌, ◌++◌, length, take, drop, get_or, refl, ap, sym, ◌∙◌, subst, arith, Ok, Err}
use Rattle.std.specs.Prelude.{◌||◌, map}
use Rattle.std.proofs.Math.Seq.{take-suc, drop-cons}
use Rattle.std.proofs.lemmas.List.{take-append-drop}
use Rattle.answer_writer.proofs.Ending.{files_of, Then, EventsAside, EachHas, ends_as, ends_both, ends_less, ends_later, ends_nothing}
use Rattle.answer_writer.proofs.Shares.{joined_append, join_nothing}
use Rattle.answer_writer.proofs.Wrote.{Both, writes_as, writes_both, writes_stop, writes_less, writes_nothing}
use Rattle.answer_writer.specs.Each.{EachPart, EachShare, AllShares}
use Rattle.answer_writer.specs.Input.{World, Needs}
use Rattle.answer_writer.specs.Parts.{Share, Part, no_share, join, joined}
use Rattle.answer_writer.specs.Stands.{Writes, Ends}
use Rattle.answer_writer.specs.State.{State}
use Rattle.answer_writer.specs.declared.stop.Stop.{Stop}

-- the list around an element
pub around : {A : Type 0} (xs : List A) (i : ℕ) (x : A) → i < length xs → x ≡ get_or xs i x → xs ≡ take i xs ++ x ∷ drop (suc i) xs
around {A} xs i x below is =
    sym (take-append-drop i xs) ∙ ap (λ (l : List A). take i xs ++ l) (drop-cons xs i x below ∙ ap (λ (n : A). n ∷ drop (suc i) xs) (sym is))

pub before_and : {A : Type 0} (xs : List A) (i : ℕ) (x : A) → i < length xs → x ≡ get_or xs i x → take (i + 1) xs ≡ take i xs ++ x ∷ []
before_and {A} xs i x below is =
    let one : i + 1 ≡ suc i = omega arith in
    ap (λ (n : ℕ). take n xs) one ∙ (take-suc xs i x below ∙ ap (λ (n : A). take i xs ++ n ∷ []) (sym is))

module _ {X : Type 0} (gives : X → Share → Type 0) where
  shares_append : (xs ys : List X) (a b : List Share) → EachShare gives xs a → EachShare gives ys b → EachShare gives (xs ++ ys) (a ++ b)
  shares_append [] ys [] b first second = second
  shares_append [] ys (s ∷ a) b first second = absurd first
  shares_append (x ∷ xs) ys [] b first second = absurd first
  shares_append (x ∷ xs) ys (s ∷ a) b first second = (first.0, shares_append xs ys a b first.1 second)

  all_append : (xs ys : List X) (share : Share) → Both (AllShares gives xs) (AllShares gives ys) share → AllShares gives (xs ++ ys) share
  all_append xs ys share (a, b, (ss, first, is), (ts, second, is_too), both) =
      (ss ++ ts, shares_append xs ys ss ts first second, both ∙ (ap (λ (s : Share). join s b) is ∙ (ap (λ (s : Share). join (joined ss) s) is_too ∙ sym (joined_append ss ts))))

  pub each_all : ((x : X) → (share : Share) × gives x share) → (xs : List X) → (share : Share) × AllShares gives xs share
  each_all each [] = (no_share, ([], tt, refl))
  each_all each (x ∷ xs) =
      let one = each x in
      let more = each_all each xs in
      (join one.0 more.0, (one.0 ∷ more.1.0, (one.1, more.1.1), ap (λ (s : Share). join one.0 s) more.1.2))

  shares_one : ((x : X) (a b : Share) → gives x a → gives x b → a ≡ b) → (xs : List X) (a b : List Share) → EachShare gives xs a → EachShare gives xs b → a ≡ b
  shares_one one [] [] [] first second = refl
  shares_one one [] [] (t ∷ b) first second = absurd second
  shares_one one [] (s ∷ a) b first second = absurd first
  shares_one one (x ∷ xs) [] b first second = absurd first
  shares_one one (x ∷ xs) (s ∷ a) [] first second = absurd second
  shares_one one (x ∷ xs) (s ∷ a) (t ∷ b) first second =
      ap (λ (h : Share). h ∷ a) (one x s t first.0 second.0) ∙ ap (λ (l : List Share). t ∷ l) (shares_one one xs a b first.1 second.1)

  -- where each thing has one share, all have one
  pub all_one : ((x : X) (a b : Share) → gives x a → gives x b → a ≡ b) → (xs : List X) (a b : Share) → AllShares gives xs a → AllShares gives xs b → a ≡ b
  all_one one xs a b (ss, first, is) (ts, second, is_too) = is ∙ (ap joined (shares_one one xs ss ts first second) ∙ sym is_too)

  pub one_share : (x : X) (share : Share) → gives x share → AllShares gives (x ∷ []) share
  one_share x share is = (share ∷ [], (is, tt), sym (join_nothing share))

  pub writes_none : (s : State) → Writes (AllShares gives []) (Ok false) s s
  writes_none s = writes_as (λ (share : Share). share ≡ no_share) (AllShares gives []) (Ok false) s s (λ share is. ([], tt, is)) (writes_nothing s)

  -- a turn of a loop over such things
  pub writes_next : (xs : List X) (i : ℕ) (x : X) (first second both : Bool) (old mid new : State) → i < length xs → x ≡ get_or xs i x → both ≡ (first || second)
      → Writes (AllShares gives (take i xs)) (Ok first) old mid → Writes (gives x) (Ok second) mid new → Writes (AllShares gives (take (i + 1) xs)) (Ok both) old new
  writes_next xs i x first second both old mid new below is found a b =
      subst (λ (l : List X). Writes (AllShares gives l) (Ok both) old new) (sym (before_and xs i x below is))
      (subst (λ (f : Bool). Writes (AllShares gives (take i xs ++ x ∷ [])) (Ok f) old new) (sym found)
      (writes_as (Both (AllShares gives (take i xs)) (AllShares gives (x ∷ []))) (AllShares gives (take i xs ++ x ∷ [])) (Ok (first || second)) old new (all_append (take i xs) (x ∷ []))
      (writes_both (AllShares gives (take i xs)) (AllShares gives (x ∷ [])) first second old mid new a
      (writes_as (gives x) (AllShares gives (x ∷ [])) (Ok second) mid new (one_share x) b))))

  -- the turn in which it stops
  pub writes_stops : ((x : X) → (share : Share) × gives x share) → (xs : List X) (i : ℕ) (x : X) (first : Bool) (stop : Stop) (old mid new : State) → i < length xs → x ≡ get_or xs i x
      → Writes (AllShares gives (take i xs)) (Ok first) old mid → Writes (gives x) (Err stop) mid new → Writes (AllShares gives xs) (Err stop) old new
  writes_stops each xs i x first stop old mid new below is a b =
      subst (λ (l : List X). Writes (AllShares gives l) (Err stop) old new) (sym (around xs i x below is))
      (writes_as (Both (AllShares gives (take i xs)) (AllShares gives (x ∷ drop (suc i) xs))) (AllShares gives (take i xs ++ x ∷ drop (suc i) xs)) (Err stop) old new (all_append (take i xs) (x ∷ drop (suc i) xs))
      (writes_stop (AllShares gives (take i xs)) (AllShares gives (x ∷ drop (suc i) xs)) first stop old mid new a
      (writes_as (Both (AllShares gives (x ∷ [])) (AllShares gives (drop (suc i) xs))) (AllShares gives (x ∷ drop (suc i) xs)) (Err stop) mid new (all_append (x ∷ []) (drop (suc i) xs))
      (writes_less (AllShares gives (x ∷ [])) (AllShares gives (drop (suc i) xs)) stop mid new (each_all each (drop (suc i) xs))
      (writes_as (gives x) (AllShares gives (x ∷ [])) (Err stop) mid new (one_share x) b)))))

module _ {X : Type 0} (gives : X → World → Part → Type 0) where
  pub parts_append : (xs ys : List X) (world : World) (a b : List Part) → EachPart gives xs world a → EachPart gives ys world b → EachPart gives (xs ++ ys) world (a ++ b)
  parts_append [] ys world [] b first second = second
  parts_append [] ys world (s ∷ a) b first second = absurd first
  parts_append (x ∷ xs) ys world [] b first second = absurd first
  parts_append (x ∷ xs) ys world (s ∷ a) b first second = (first.0, parts_append xs ys world a b first.1 second)

  then_append : (xs ys : List X) (world : World) (ps : List Part) → Then (EachPart gives xs) (EachPart gives ys) world ps → EachPart gives (xs ++ ys) world ps
  then_append xs ys world ps (a, b, first, second, is) = subst (λ (l : List Part). EachPart gives (xs ++ ys) world l) (sym is) (parts_append xs ys world a b first second)

  pub each_parts : ((x : X) (w : World) → (part : Part) × gives x w part) → (xs : List X) → EachHas (EachPart gives xs)
  each_parts each [] w = ([], tt)
  each_parts each (x ∷ xs) w =
      let one = each x w in
      let more = each_parts each xs w in
      (one.0 ∷ more.0, (one.1, more.1))

  -- where each thing has one part, all have one list of them
  pub parts_one : ((x : X) (w : World) (p q : Part) → gives x w p → gives x w q → p ≡ q) → (xs : List X) (w : World) (a b : List Part) → EachPart gives xs w a → EachPart gives xs w b → a ≡ b
  parts_one one [] w [] [] first second = refl
  parts_one one [] w [] (q ∷ b) first second = absurd second
  parts_one one [] w (p ∷ a) b first second = absurd first
  parts_one one (x ∷ xs) w [] b first second = absurd first
  parts_one one (x ∷ xs) w (p ∷ a) [] first second = absurd second
  parts_one one (x ∷ xs) w (p ∷ a) (q ∷ b) first second =
      ap (λ (h : Part). h ∷ a) (one x w p q first.0 second.0) ∙ ap (λ (l : List Part). q ∷ l) (parts_one one xs w a b first.1 second.1)

  pub parts_aside : ((x : X) (w : World) (events : List ℕ) (part : Part) → gives x w part → gives x (record { files = w.files; events = events }) part)
      → (xs : List X) → EventsAside (EachPart gives xs)
  parts_aside aside [] w events [] each = tt
  parts_aside aside [] w events (p ∷ ps) each = absurd each
  parts_aside aside (x ∷ xs) w events [] each = absurd each
  parts_aside aside (x ∷ xs) w events (p ∷ ps) each = (aside x w events p each.0, parts_aside aside xs w events ps each.1)

  pub ends_none : (needs : Needs) (s : State) → Ends needs (EachPart gives []) (Ok false) s s
  ends_none needs s = ends_nothing needs (EachPart gives []) s (λ w. tt)

  -- a turn of a loop over such things
  pub ends_next : (needs : Needs) (xs : List X) (i : ℕ) (x : X) (first second both : Bool) (old mid new : State) → i < length xs → x ≡ get_or xs i x → both ≡ (first || second)
      → Ends (files_of needs) (EachPart gives (take i xs)) (Ok first) old mid → Ends (files_of needs) (EachPart gives (x ∷ [])) (Ok second) mid new
      → Ends (files_of needs) (EachPart gives (take (i + 1) xs)) (Ok both) old new
  ends_next needs xs i x first second both old mid new below is found a b =
      subst (λ (l : List X). Ends (files_of needs) (EachPart gives l) (Ok both) old new) (sym (before_and xs i x below is))
      (subst (λ (f : Bool). Ends (files_of needs) (EachPart gives (take i xs ++ x ∷ [])) (Ok f) old new) (sym found)
      (ends_as (files_of needs) (Then (EachPart gives (take i xs)) (EachPart gives (x ∷ []))) (EachPart gives (take i xs ++ x ∷ [])) (Ok (first || second)) old new (then_append (take i xs) (x ∷ []))
      (ends_both (files_of needs) (EachPart gives (take i xs)) (EachPart gives (x ∷ [])) first second old mid new a b)))

  -- the turn in which it stops
  pub ends_stops : ((x : X) (w : World) → (part : Part) × gives x w part) → ((x : X) (w : World) (events : List ℕ) (part : Part) → gives x w part → gives x (record { files = w.files; events = events }) part)
      → (needs : Needs) (xs : List X) (i : ℕ) (x : X) (first : Bool) (stop : Stop) (old mid new : State) → i < length xs → x ≡ get_or xs i x
      → Ends (files_of needs) (EachPart gives (take i xs)) (Ok first) old mid → Ends (files_of needs) (EachPart gives (x ∷ [])) (Err stop) mid new
      → Ends (files_of needs) (EachPart gives xs) (Err stop) old new
  ends_stops each aside needs xs i x first stop old mid new below is a b =
      subst (λ (l : List X). Ends (files_of needs) (EachPart gives l) (Err stop) old new) (sym (around xs i x below is))
      (ends_as (files_of needs) (Then (EachPart gives (take i xs)) (EachPart gives (x ∷ drop (suc i) xs))) (EachPart gives (take i xs ++ x ∷ drop (suc i) xs)) (Err stop) old new (then_append (take i xs) (x ∷ drop (suc i) xs))
      (ends_later (files_of needs) (EachPart gives (take i xs)) (EachPart gives (x ∷ drop (suc i) xs)) first stop old mid new (parts_aside aside (take i xs)) a
      (ends_as (files_of needs) (Then (EachPart gives (x ∷ [])) (EachPart gives (drop (suc i) xs))) (EachPart gives (x ∷ drop (suc i) xs)) (Err stop) mid new (then_append (x ∷ []) (drop (suc i) xs))
      (ends_less (files_of needs) (EachPart gives (x ∷ [])) (EachPart gives (drop (suc i) xs)) stop mid new (each_parts each (drop (suc i) xs)) b))))

-- shares of what is made of things
pub shares_of : {X Y : Type 0} (f : X → Y) (gives : Y → Share → Type 0) (xs : List X) (share : Share) → AllShares (λ x. gives (f x)) xs share → AllShares gives (map f xs) share
shares_of {X} {Y} f gives xs share (shares, each, is) = (shares, by xs shares each, is)
  where
    by : (ys : List X) (ss : List Share) → EachShare (λ x. gives (f x)) ys ss → EachShare gives (map f ys) ss
    by [] [] each_one = tt
    by [] (s ∷ ss) each_one = absurd each_one
    by (y ∷ ys) [] each_one = absurd each_one
    by (y ∷ ys) (s ∷ ss) each_one = (each_one.0, by ys ss each_one.1)
