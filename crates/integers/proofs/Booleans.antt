-- Laws of tests: joined by && and ||, and as the choice between two values. Assumes nothing.
use mathlib.Core.Path.{◌≡◌, refl, sym, ap, ◌∙◌}
use mathlib.Core.Bool.{Bool, true, false, ◌&&◌, ◌||◌, cond}
use Rattle.std.specs.Prelude.{Some, None}
use Rattle.std.specs.Bool.{then_some}
use Prim.Native.Nat.{ℕ}
use native.Mathlib.Omega.{arith}

pub and-true : (a b : Bool) → a && b ≡ true → (a ≡ true) × (b ≡ true)
and-true true b e = (refl, e)
and-true false b e = let z : ◌≡◌ {A = ℕ} 0 1 = cc in absurd (omega arith)

pub and-false : (a : Bool) → a && false ≡ false
and-false true = refl
and-false false = refl

-- two tests, each of which holds where the other does
pub same-test : (a b : Bool) → (a ≡ true → b ≡ true) → (b ≡ true → a ≡ true) → a ≡ b
same-test true b f g = sym (f refl)
same-test false true f g = g refl
same-test false false f g = refl

pub and-true-right : (a : Bool) → a && true ≡ a
and-true-right true = refl
and-true-right false = refl

pub and-assoc : (a b c : Bool) → (a && b) && c ≡ a && (b && c)
and-assoc true b c = refl
and-assoc false b c = refl

-- a test that holds leaves the other; one that fails, nothing
pub and-skip : {a : Bool} (b : Bool) → a ≡ true → a && b ≡ b
and-skip b t = ap (λ (x : Bool). x && b) t

pub and-stop : {a : Bool} (b : Bool) → a ≡ false → a && b ≡ false
and-stop b f = ap (λ (x : Bool). x && b) f

pub or-true : (a : Bool) → a || true ≡ true
or-true true = refl
or-true false = refl

pub or-false : (a b : Bool) → a || b ≡ true → a ≡ false → b ≡ true
or-false a b t f = sym (ap (λ (x : Bool). x || b) f) ∙ t

-- the number of an answer that is one of two
pub number-cond : {A : Type 0} (number : A → ℕ) (t : Bool) (x y : A) → number (cond t x y) ≡ cond t (number x) (number y)
number-cond number true x y = refl
number-cond number false x y = refl

-- `then_some`, as the choice between two values
pub then_some-cond : {A : Type 0} (t : Bool) (a : A) → then_some t a ≡ cond t (Some a) None
then_some-cond true a = refl
then_some-cond false a = refl
