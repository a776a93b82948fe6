-- A whole number as a difference of two naturals, and with it the one way by which goals over ℤ are closed here.
-- In order: the two parts and their laws; quoted expressions; `le!` and `eq!`, which prove an order or an equation of two
-- expressions from one of naturals, for `omega`; `le?` and `eq?`, which hand a fact over ℤ to `omega`; `abs!`, `abs?`,
-- `near!`, `near?`, `halves!`, `halves?` and `apart?`, the same for a magnitude and a distance.
-- Assumes nothing.
use mathlib.Core.Path.{◌≡◌, refl, ap}
use mathlib.Core.Logic.{◌⊎◌, inl, inr, ⊎_elim}
use mathlib.Core.Bool.{Bool, true, false, not, cond}
use Prim.Native.Nat.{ℕ, zero, suc, ◌+◌, ◌*◌, ◌-◌, ◌≤◌, ◌<◌}
use native.Mathlib.Omega.{arith}
use lib.Dec.{T, ltb, ltb→lt, nltb→le, leb→le, le→leb}
use lib.IntN.{ℤ, pos, negsuc, neg_ℤ, sub_ℕ, nat_abs, ◌+ℤ◌, ◌-ℤ◌, ◌*ℤ◌}
use Rattle.integers.specs.Whole.{◌⩽◌, Near, NearHalves}

-- ---- the positive and the negative part

abbrev pub pp : ℤ → ℕ
pp (pos n) = n
pp (negsuc n) = 0

abbrev pub nn : ℤ → ℕ
nn (pos n) = 0
nn (negsuc n) = suc n

split-test : (c : Bool) (P : Bool → Type 0) → (T c → P true) → (T (not c) → P false) → P c
split-test true P f g = f tt
split-test false P f g = g tt

abbrev PartsAre : ℤ → ℕ → ℕ → Type 0
PartsAre z a b = pp z + b ≡ a + nn z

parts-sub_ℕ : (a b : ℕ) → PartsAre (sub_ℕ a b) a b
parts-sub_ℕ a b = split-test (ltb a b) (λ c. PartsAre (cond c (negsuc (b - suc a)) (pos (a - b))) a b) (λ t. less (ltb→lt a b t)) (λ t. more (nltb→le a b t))
  where
    less : a < b → 0 + b ≡ a + suc (b - suc a)
    less h = omega arith

    more : b ≤ a → (a - b) + b ≡ a + 0
    more h = omega arith

parts-neg : (z : ℤ) → PartsAre (neg_ℤ z) (nn z) (pp z)
parts-neg (pos zero) = refl
parts-neg (pos (suc n)) = omega arith
parts-neg (negsuc n) = omega arith

parts_add : (x y : ℤ) → PartsAre (x +ℤ y) (pp x + pp y) (nn x + nn y)
parts_add (pos a) (pos b) = omega arith
parts_add (pos a) (negsuc b) = omega (arith, parts-sub_ℕ a (suc b))
parts_add (negsuc a) (pos b) = omega (arith, parts-sub_ℕ b (suc a))
parts_add (negsuc a) (negsuc b) = omega arith

parts-mul : (x y : ℤ) → PartsAre (x *ℤ y) (pp x * pp y + nn x * nn y) (pp x * nn y + nn x * pp y)
parts-mul (pos a) (pos b) = omega arith
parts-mul (pos a) (negsuc b) = omega (arith, parts-neg (pos (a * suc b)))
parts-mul (negsuc a) (pos b) = omega (arith, parts-neg (pos (suc a * b)))
parts-mul (negsuc a) (negsuc b) = omega arith

-- ---- quoted expressions: `v` a number, `#` a natural number

infixl 6 ◌⊕◌ ◌⊖◌
infixl 7 ◌⊗◌
pub data Expr : Type 0 where
  v : ℤ → Expr
  # : ℕ → Expr
  neg : Expr → Expr
  ◌⊕◌ : Expr → Expr → Expr
  ◌⊖◌ : Expr → Expr → Expr
  ◌⊗◌ : Expr → Expr → Expr

abbrev pub val : Expr → ℤ
val (v z) = z
val (# n) = pos n
val (neg a) = neg_ℤ (val a)
val (a ⊕ b) = val a +ℤ val b
val (a ⊖ b) = val a -ℤ val b
val (a ⊗ b) = val a *ℤ val b

abbrev mutual
  pub up : Expr → ℕ
  up (v z) = pp z
  up (# n) = n
  up (neg a) = dn a
  up (a ⊕ b) = up a + up b
  up (a ⊖ b) = up a + dn b
  up (a ⊗ b) = up a * up b + dn a * dn b

  pub dn : Expr → ℕ
  dn (v z) = nn z
  dn (# n) = 0
  dn (neg a) = up a
  dn (a ⊕ b) = dn a + dn b
  dn (a ⊖ b) = dn a + up b
  dn (a ⊗ b) = up a * dn b + dn a * up b

parts-mul-of : (x y : ℤ) (u d w e : ℕ) → PartsAre x u d → PartsAre y w e → PartsAre (x *ℤ y) (u * w + d * e) (u * e + d * w)
parts-mul-of x y u d w e hx hy =
    omega (
      arith,
      parts-mul x y,
      ap (λ (k : ℕ). k * pp y) hx,
      ap (λ (k : ℕ). k * nn y) hx,
      ap (λ (k : ℕ). u * k) hy,
      ap (λ (k : ℕ). d * k) hy,
    )

parts : (a : Expr) → PartsAre (val a) (up a) (dn a)
parts (v z) = omega arith
parts (# n) = omega arith
parts (neg a) = omega (arith, parts-neg (val a), parts a)
parts (a ⊕ b) = omega (arith, parts_add (val a) (val b), parts a, parts b)
parts (a ⊖ b) = omega (arith, parts_add (val a) (neg_ℤ (val b)), parts-neg (val b), parts a, parts b)
parts (a ⊗ b) = parts-mul-of (val a) (val b) (up a) (dn a) (up b) (dn b) (parts a) (parts b)

-- ---- orders and equations

le-of-parts : (x y : ℤ) → pp x + nn y ≤ pp y + nn x → x ⩽ y
le-of-parts (pos a) (pos b) h = record { le = le→leb a b (omega arith) }
le-of-parts (pos a) (negsuc b) h = absurd (omega arith)
le-of-parts (negsuc a) (pos b) h = record { le = tt }
le-of-parts (negsuc a) (negsuc b) h = record { le = le→leb b a (omega arith) }

pub parts-of-le : (x y : ℤ) → x ⩽ y → pp x + nn y ≤ pp y + nn x
parts-of-le (pos a) (pos b) h = omega (arith, leb→le a b h.le)
parts-of-le (pos a) (negsuc b) h = absurd h.le
parts-of-le (negsuc a) (pos b) h = omega arith
parts-of-le (negsuc a) (negsuc b) h = omega (arith, leb→le b a h.le)

eq-of-parts : (x y : ℤ) → pp x + nn y ≡ pp y + nn x → x ≡ y
eq-of-parts (pos a) (pos b) h = ap pos (omega arith)
eq-of-parts (pos a) (negsuc b) h = absurd (omega arith)
eq-of-parts (negsuc a) (pos b) h = absurd (omega arith)
eq-of-parts (negsuc a) (negsuc b) h = ap negsuc (omega arith)

pub le! : (a b : Expr) → up a + dn b ≤ up b + dn a → val a ⩽ val b
le! a b h = le-of-parts (val a) (val b) (omega (arith, parts a, parts b))

pub eq! : (a b : Expr) → up a + dn b ≡ up b + dn a → val a ≡ val b
eq! a b h = eq-of-parts (val a) (val b) (omega (arith, parts a, parts b))

pub le? : (a b : Expr) → val a ⩽ val b → up a + dn b ≤ up b + dn a
le? a b h = omega (arith, parts-of-le (val a) (val b) h, parts a, parts b)

pub eq? : (a b : Expr) → val a ≡ val b → up a + dn b ≡ up b + dn a
eq? a b h = omega (arith, ap pp h, ap nn h, parts a, parts b)

-- ---- magnitude and distance

pub nat_abs-parts : (z : ℤ) → nat_abs z ≡ pp z + nn z
nat_abs-parts (pos n) = omega arith
nat_abs-parts (negsuc n) = omega arith

-- one of the two parts is 0
parts-apart : (z : ℤ) → (pp z ≡ 0) ⊎ (nn z ≡ 0)
parts-apart (pos n) = inr refl
parts-apart (negsuc n) = inl refl

pub abs! : (a : Expr) (e : ℕ) → up a ≤ dn a + e → dn a ≤ up a + e → nat_abs (val a) ≤ e
abs! a e h k =
    let p = parts a in
    let m = nat_abs-parts (val a) in
    ⊎_elim (λ z. omega arith) (λ z. omega arith) (parts-apart (val a))

pub abs? : (a : Expr) (e : ℕ) → nat_abs (val a) ≤ e → (up a ≤ dn a + e) × (dn a ≤ up a + e)
abs? a e h = omega (arith, parts a, nat_abs-parts (val a))

pub near! : (a b : Expr) (e : ℕ) → up a + dn b ≤ up b + dn a + e → up b + dn a ≤ up a + dn b + e → Near (val a) (val b) e
near! a b e h k = record { within = abs! (a ⊖ b) e (omega arith) (omega arith) }

pub near? : (a b : Expr) (e : ℕ) → Near (val a) (val b) e → (up a + dn b ≤ up b + dn a + e) × (up b + dn a ≤ up a + dn b + e)
near? a b e h = omega (arith, abs? (a ⊖ b) e h.within)

-- the same in half units
pub halves! : (a b : Expr) (e : ℕ) → 2 * (up a + dn b) ≤ 2 * (up b + dn a) + e → 2 * (up b + dn a) ≤ 2 * (up a + dn b) + e → NearHalves (val a) (val b) e
halves! a b e h k =
    let p = parts (a ⊖ b) in
    let m = nat_abs-parts (val (a ⊖ b)) in
    record { within = ⊎_elim (λ z. omega arith) (λ z. omega arith) (parts-apart (val (a ⊖ b))) }

pub halves? : (a b : Expr) (e : ℕ) → NearHalves (val a) (val b) e → (2 * (up a + dn b) ≤ 2 * (up b + dn a) + e) × (2 * (up b + dn a) ≤ 2 * (up a + dn b) + e)
halves? a b e h = omega (arith, parts (a ⊖ b), nat_abs-parts (val (a ⊖ b)), h.within)

-- a distance that is told exactly is one of two differences
pub apart? : (a b : Expr) (e : ℕ) → nat_abs (val a -ℤ val b) ≡ e → (up b + dn a ≡ up a + dn b + e) ⊎ (up a + dn b ≡ up b + dn a + e)
apart? a b e h =
    let p = parts (a ⊖ b) in
    let m = nat_abs-parts (val (a ⊖ b)) in
    ⊎_elim (λ z. inl (omega arith)) (λ z. inr (omega arith)) (parts-apart (val (a ⊖ b)))
