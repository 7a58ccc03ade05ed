-- Known bytes that grow piece by piece.
use Rattle.std.proofs.Common.{◌≡◌, ℕ, List, [], ◌++◌, take, drop, refl, ap, sym, ◌∙◌, append_assoc, append-nil, Option, Some, None, subst, Result, Ok, Err, OnErr}
use Rattle.std.proofs.lemmas.List.{take-append-drop}
use Rattle.std.specs.Io.KnownBytes.{Appends}
use Rattle.sig_base.specs.Causes.{AppendsFront}

-- what grew by nothing is as it was
pub Appends-nothing : (a : Option (List ℕ)) → Appends a a []
Appends-nothing None = tt
Appends-nothing (Some xs) = sym (append-nil xs)

-- two growths are one
pub Appends-then : (a b c : Option (List ℕ)) (xs ys : List ℕ) → Appends a b xs → Appends b c ys → Appends a c (xs ++ ys)
Appends-then None b c xs ys first second = tt
Appends-then (Some before) None c xs ys first second = absurd first
Appends-then (Some before) (Some bs) None xs ys first second = absurd second
Appends-then (Some before) (Some bs) (Some cs) xs ys first second =
    second ∙ (ap (λ (l : List ℕ). l ++ ys) first ∙ append_assoc before xs ys)

-- all of the bytes are a front of them
pub front_whole : (a b : Option (List ℕ)) (xs : List ℕ) → Appends a b xs → AppendsFront a b xs
front_whole a b xs grown = record { front = xs; rest = []; parts = sym (append-nil xs); grown = grown }

-- nothing is a front of any bytes
pub front_nothing : (a b : Option (List ℕ)) (xs : List ℕ) → Appends a b [] → AppendsFront a b xs
front_nothing a b xs grown = record { front = []; rest = xs; parts = refl; grown = grown }

-- a front of some bytes is one of more bytes
pub front_longer : (a b : Option (List ℕ)) (xs ys : List ℕ) → AppendsFront a b xs → AppendsFront a b (xs ++ ys)
front_longer a b xs ys f = record {
  front = f.front;
  rest = f.rest ++ ys;
  parts = ap (λ (l : List ℕ). l ++ ys) f.parts ∙ append_assoc f.front f.rest ys;
  grown = f.grown;
}

-- whole bytes, and then a front of more
pub front_then : (a b c : Option (List ℕ)) (xs ys : List ℕ) → Appends a b xs → AppendsFront b c ys → AppendsFront a c (xs ++ ys)
front_then a b c xs ys first f = record {
  front = xs ++ f.front;
  rest = f.rest;
  parts = ap (λ (l : List ℕ). xs ++ l) f.parts ∙ sym (append_assoc xs f.front f.rest);
  grown = Appends-then a b c xs f.front first f.grown;
}

-- what holds anyway holds of an error
pub on_err : {T E : Type 0} (r : Result T E) (P : Type 0) → P → OnErr r P
on_err (Ok x) P p = tt
on_err (Err e) P p = p

-- all but a rest of the bytes has been taken
pub record Putting (old now : Option (List ℕ)) (bytes rest : List ℕ) : Type 0 where
  pub front : List ℕ
  pub parts : bytes ≡ front ++ rest
  pub grown : Appends old now front

pub Putting-start : (a : Option (List ℕ)) (bytes : List ℕ) → Putting a a bytes bytes
Putting-start a bytes = record { front = []; parts = refl; grown = Appends-nothing a }

pub Putting-step : (a b c : Option (List ℕ)) (bytes rest : List ℕ) (n : ℕ) → Putting a b bytes rest → Appends b c (take n rest) → Putting a c bytes (drop n rest)
Putting-step a b c bytes rest n p grown = record {
  front = p.front ++ take n rest;
  parts = p.parts ∙ (ap (λ (l : List ℕ). p.front ++ l) (sym (take-append-drop n rest)) ∙ sym (append_assoc p.front (take n rest) (drop n rest)));
  grown = Appends-then a b c p.front (take n rest) p.grown grown;
}

pub Putting-end : (a b : Option (List ℕ)) (bytes rest : List ℕ) → Putting a b bytes rest → rest ≡ [] → Appends a b bytes
Putting-end a b bytes rest p empty =
    let whole : bytes ≡ p.front = p.parts ∙ (ap (λ (l : List ℕ). p.front ++ l) empty ∙ append-nil p.front) in
    subst (λ (l : List ℕ). Appends a b l) (sym whole) p.grown

pub Putting-front : (a b c : Option (List ℕ)) (bytes rest : List ℕ) → Putting a b bytes rest → Appends b c [] → AppendsFront a c bytes
Putting-front a b c bytes rest p still = record {
  front = p.front;
  rest = rest;
  parts = p.parts;
  grown = subst (λ (l : List ℕ). Appends a c l) (append-nil p.front) (Appends-then a b c p.front [] p.grown still);
}
