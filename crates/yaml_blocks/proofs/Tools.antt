-- What a reading that is an `if` or a chain gives.
use Rattle.std.proofs.Common.{◌≡◌, ℕ, Bool, true, false, not, cond, ◌⊎◌, inl, inr, Option, Some, None, is_some, Ok, Err, refl}
use Rattle.yaml_tree.specs.Tree.{At}
use Rattle.yaml_inline.specs.Line.{Stop, refused, unclosed, Read, ◌>>=◌}
use Rattle.yaml_inline.specs.Flow.{inside_open}

pub choose : {A : Type 0} (b : Bool) (x y z : A) → cond b x y ≡ z → ((b ≡ true) × (x ≡ z)) ⊎ ((b ≡ false) × (y ≡ z))
choose true x y z e = inl (refl, e)
choose false x y z e = inr (refl, e)

-- a value behind a stop, or a stop behind a value
pub allowed : {A : Type 0} (b : Bool) (s : Stop) (r : Read A) (x : A) → cond b (Err s) r ≡ Ok x → (b ≡ false) × (r ≡ Ok x)
allowed true s r x e = cc
allowed false s r x e = (refl, e)

pub bind_ok : {A B : Type 0} (r : Read A) (f : A → Read B) (y : B) → (r >>= f) ≡ Ok y → (x : A) × (r ≡ Ok x) × (f x ≡ Ok y)
bind_ok (Ok x) f y e = (x, refl, e)
bind_ok (Err s) f y e = cc

pub bind_err : {A B : Type 0} (r : Read A) (f : A → Read B) (s : Stop) → (r >>= f) ≡ Err s → (r ≡ Err s) ⊎ ((x : A) × (r ≡ Ok x) × (f x ≡ Err s))
bind_err (Ok x) f s e = inr (x, refl, e)
bind_err (Err t) f s e = inl (cc)

-- inside something that opened, what is read is read
pub inside_ok : {A : Type 0} (a : At) (c : ℕ) (r : Read A) (x : A) → inside_open a c r ≡ Ok x → r ≡ Ok x
inside_ok a c (Ok y) x e = e
inside_ok a c (Err (refused code place)) x e = cc
inside_ok a c (Err (unclosed n opens)) x e = cc

pub ok_same : {A : Type 0} (x y : A) → ((let r : Read A = Ok x in r) ≡ Ok y) → x ≡ y
ok_same x y e = cc

pub none_of : {A : Type 0} (o : Option A) → is_some o ≡ false → o ≡ None
none_of None e = refl
none_of (Some x) e = cc

pub some_not_none : {A : Type 0} (o : Option A) → is_some o ≡ true → o ≡ None → ⊥
some_not_none None e h = cc
some_not_none (Some x) e h = cc

pub none_is : {A : Type 0} (o : Option A) → o ≡ None → is_some o ≡ false
none_is None e = refl
none_is (Some x) e = cc

pub not_false : (b : Bool) → not b ≡ false → b ≡ true
not_false true e = refl
not_false false e = cc

pub not_true : (b : Bool) → not b ≡ true → b ≡ false
not_true true e = cc
not_true false e = refl
