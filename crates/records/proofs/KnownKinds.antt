-- Laws of the table of kinds. In order: what a kind gives, by what the code answers of it; whether it is known; what every row passes
-- holds of a known kind; every kind is a byte other than 0, and no body is longer than 49 bytes; what every row and the layout of an
-- unknown kind pass holds of any layout; a kind is known where its part may have a record. Assumes nothing.
use mathlib.Core.Path.{◌≡◌, refl, sym, ap, ◌∙◌}
use mathlib.Core.Bool.{Bool, true, false, cond, ◌&&◌}
use mathlib.Core.List.{List, [], ◌∷◌}
use Prim.Native.Nat.{ℕ, ◌≤◌, ◌<◌}
use native.Mathlib.Omega.{arith}
use borrow.Author.Tests.{eqb-true, ne_eqb, leb-true}
use lib.Dec.{eqb, leb}
use Rattle.integers.proofs.Booleans.{and-true}
use Rattle.std.specs.Prelude.{Option, Some, None, unwrap_or}
use Rattle.records.specs.declared.kinds.Layout.{Layout}
use Rattle.records.specs.Kinds.{BodyLength, body_bytes, body_unknown, kinds, told, body_length, no_layout, kind_layout, layout_of}

-- ---- by what the code answers

abbrev by_layout : {A : Type 0} → (Layout → A) → A → Option Layout → A
by_layout value none (Some l) = value l
by_layout value none None = none

told-by_layout : {A : Type 0} (value : Layout → A) (none : A) (kind : ℕ) (rows : List (ℕ × Layout)) → told value none kind rows ≡ by_layout value none (told Some None kind rows)
told-by_layout value none kind [] = refl
told-by_layout value none kind (row ∷ rows) = split (eqb row.0 kind) (told-by_layout value none kind rows)
  where
    split : (b : Bool) → told value none kind rows ≡ by_layout value none (told Some None kind rows) → cond b (value row.1) (told value none kind rows) ≡ by_layout value none (cond b (Some row.1) (told Some None kind rows))
    split true go = refl
    split false go = go

abbrev length_if_known : Option Layout → BodyLength
length_if_known = by_layout (λ l. body_bytes l.length) body_unknown

module _ (kind : ℕ) where
  -- the layout for every kind is that of the code, and `no_layout` where the code has none
  pub layout_of-is : layout_of kind ≡ unwrap_or (kind_layout kind) no_layout
  unfolding layout_of kind_layout
  layout_of-is = told-by_layout (λ l. l) no_layout kind kinds ∙ same (told Some None kind kinds)
    where
      same : (o : Option Layout) → by_layout (λ l. l) no_layout o ≡ unwrap_or o no_layout
      same (Some l) = refl
      same None = refl

  body_length-is : body_length kind ≡ length_if_known (kind_layout kind)
  unfolding body_length kind_layout
  body_length-is = told-by_layout (λ l. body_bytes l.length) body_unknown kind kinds

  pub body_length-none : kind_layout kind ≡ None → body_length kind ≡ body_unknown
  body_length-none e = body_length-is ∙ ap length_if_known e

  pub body_length-some : {l : Layout} → kind_layout kind ≡ Some l → body_length kind ≡ body_bytes l.length
  body_length-some e = body_length-is ∙ ap length_if_known e

  -- ---- known or unknown

  pub kind_layout-unknown : body_length kind ≡ body_unknown → kind_layout kind ≡ None
  kind_layout-unknown e = only (kind_layout kind) (sym body_length-is ∙ e)
    where
      only : (o : Option Layout) → length_if_known o ≡ body_unknown → o ≡ None
      only (Some l) f = let z : ◌≡◌ {A = ℕ} 0 1 = cc in absurd (omega arith)
      only None f = refl

  module _ (n : ℕ) (known : body_length kind ≡ body_bytes n) where
    pub kind_layout-known : kind_layout kind ≡ Some (layout_of kind)
    kind_layout-known = only (kind_layout kind) (sym body_length-is ∙ known) ∙ ap Some (sym layout_of-is)
      where
        only : (o : Option Layout) → length_if_known o ≡ body_bytes n → o ≡ Some (unwrap_or o no_layout)
        only (Some l) f = refl
        only None f = let z : ◌≡◌ {A = ℕ} 0 1 = cc in absurd (omega arith)

    pub known-length : (layout_of kind).length ≡ n
    known-length = let e : body_bytes (layout_of kind).length ≡ body_bytes n = sym (body_length-some kind_layout-known) ∙ known in cc

-- ---- what every row passes

-- A test of a kind and what it is, of every row.
abbrev pub every_row : (ℕ → Layout → Bool) → List (ℕ × Layout) → Bool
every_row p [] = true
every_row p (row ∷ rows) = p row.0 row.1 && every_row p rows

row-at : (p : ℕ → Layout → Bool) (kind : ℕ) (l : Layout) (rows : List (ℕ × Layout)) → every_row p rows ≡ true → told Some None kind rows ≡ Some l → p kind l ≡ true
row-at p kind l [] t e = let z : ◌≡◌ {A = ℕ} 0 1 = cc in absurd (omega arith)
row-at p kind l (row ∷ rows) t e = split (eqb row.0 kind) refl e (row-at p kind l rows both.1)
  where
    both : (p row.0 row.1 ≡ true) × (every_row p rows ≡ true)
    both = and-true (p row.0 row.1) (every_row p rows) t

    split : (b : Bool) → eqb row.0 kind ≡ b → cond b (Some row.1) (told Some None kind rows) ≡ Some l → (told Some None kind rows ≡ Some l → p kind l ≡ true) → p kind l ≡ true
    split true is e go = let same : row.1 ≡ l = cc in ap (λ (k : ℕ). p k l) (sym (eqb-true row.0 kind is)) ∙ ap (p row.0) (sym same) ∙ both.0
    split false is e go = go e

-- The row of a kind with a body length: its test, and its length.
record RowOf (p : ℕ → Layout → Bool) (kind n : ℕ) (l : Layout) : Type 0 where
  passes : p kind l ≡ true
  length-is : l.length ≡ n

row_of : (p : ℕ → Layout → Bool) (kind n : ℕ) (rows : List (ℕ × Layout)) → every_row p rows ≡ true → told (λ l. body_bytes l.length) body_unknown kind rows ≡ body_bytes n → RowOf p kind n (told (λ l. l) no_layout kind rows)
row_of p kind n [] t e = let z : ◌≡◌ {A = ℕ} 0 1 = cc in absurd (omega arith)
row_of p kind n (row ∷ rows) t e = split (eqb row.0 kind) refl e (row_of p kind n rows both.1)
  where
    both : (p row.0 row.1 ≡ true) × (every_row p rows ≡ true)
    both = and-true (p row.0 row.1) (every_row p rows) t

    split : (b : Bool) → eqb row.0 kind ≡ b → cond b (body_bytes row.1.length) (told (λ l. body_bytes l.length) body_unknown kind rows) ≡ body_bytes n → (told (λ l. body_bytes l.length) body_unknown kind rows ≡ body_bytes n → RowOf p kind n (told (λ l. l) no_layout kind rows)) → RowOf p kind n (cond b row.1 (told (λ l. l) no_layout kind rows))
    split true is e go = record { passes = ap (λ (k : ℕ). p k row.1) (sym (eqb-true row.0 kind is)) ∙ both.0; length-is = cc }
    split false is e go = go e

module _ (kind n : ℕ) (known : body_length kind ≡ body_bytes n) where
  -- of a known kind: `known_at p refl`
  pub known_at : (p : ℕ → Layout → Bool) → every_row p kinds ≡ true → p kind (layout_of kind) ≡ true
  unfolding kind_layout
  known_at p t = row-at p kind (layout_of kind) kinds t (kind_layout-known kind n known)

  pub kind-above-zero : 0 < kind
  kind-above-zero = leb-true 1 kind (known_at (λ k l. leb 1 k) refl)

  pub body_length-le : n ≤ 49
  body_length-le = omega (arith, known-length kind n known, leb-true (layout_of kind).length 49 (known_at (λ k l. leb l.length 49) refl))

-- of any kind
told_at : (p : Layout → Bool) (kind : ℕ) (rows : List (ℕ × Layout)) → p no_layout ≡ true → every_row (λ k. p) rows ≡ true → p (told (λ l. l) no_layout kind rows) ≡ true
told_at p kind [] none t = none
told_at p kind (row ∷ rows) none t = split (eqb row.0 kind) (told_at p kind rows none both.1)
  where
    both : (p row.1 ≡ true) × (every_row (λ k. p) rows ≡ true)
    both = and-true (p row.1) (every_row (λ k. p) rows) t

    split : (b : Bool) → p (told (λ l. l) no_layout kind rows) ≡ true → p (cond b row.1 (told (λ l. l) no_layout kind rows)) ≡ true
    split true go = both.0
    split false go = go

pub layout-at : (p : Layout → Bool) → p no_layout ≡ true → every_row (λ k. p) kinds ≡ true → (kind : ℕ) → p (layout_of kind) ≡ true
unfolding kind_layout
layout-at p none t kind = ap p (layout_of-is kind) ∙ by-case (kind_layout kind) refl
  where
    by-case : (o : Option Layout) → kind_layout kind ≡ o → p (unwrap_or o no_layout) ≡ true
    by-case (Some l) e = row-at (λ k. p) kind l kinds t e
    by-case None e = none

-- no part has more than 16
pub most-le : (kind : ℕ) → (layout_of kind).most ≤ 16
most-le kind = leb-true (layout_of kind).most 16 (layout-at (λ l. leb l.most 16) refl refl kind)

-- ---- known or unknown, by the most records of its part

abbrev length_in : Layout → BodyLength
length_in l = cond (eqb l.most 0) body_unknown (body_bytes l.length)

length_in-told : (kind : ℕ) (rows : List (ℕ × Layout)) → every_row (λ k l. leb 1 l.most) rows ≡ true → told (λ l. body_bytes l.length) body_unknown kind rows ≡ length_in (told (λ l. l) no_layout kind rows)
length_in-told kind [] t = refl
length_in-told kind (row ∷ rows) t = split (eqb row.0 kind) (length_in-told kind rows both.1)
  where
    both : (leb 1 row.1.most ≡ true) × (every_row (λ k l. leb 1 l.most) rows ≡ true)
    both = and-true (leb 1 row.1.most) (every_row (λ k l. leb 1 l.most) rows) t

    some : row.1.most ≡ 0 → ⊥
    some e = omega (arith, leb-true 1 row.1.most both.0)

    split : (b : Bool) → told (λ l. body_bytes l.length) body_unknown kind rows ≡ length_in (told (λ l. l) no_layout kind rows) → cond b (body_bytes row.1.length) (told (λ l. body_bytes l.length) body_unknown kind rows) ≡ length_in (cond b row.1 (told (λ l. l) no_layout kind rows))
    split true go = sym (ap (λ (b : Bool). cond b body_unknown (body_bytes row.1.length)) (ne_eqb row.1.most 0 some))
    split false go = go

module _ (kind : ℕ) where
  length_in-is : body_length kind ≡ length_in (layout_of kind)
  unfolding body_length layout_of
  length_in-is = length_in-told kind kinds refl

  layout-is : (o : Option Layout) → kind_layout kind ≡ o → layout_of kind ≡ unwrap_or o no_layout
  layout-is o e = layout_of-is kind ∙ ap (λ (x : Option Layout). unwrap_or x no_layout) e

  -- a known kind may have a record
  some-most : (l : Layout) → kind_layout kind ≡ Some l → 1 ≤ (layout_of kind).most
  unfolding kind_layout
  some-most l e =
      let is = ap (λ (x : Layout). x.most) (layout-is (Some l) e) in
      omega (arith, is, leb-true 1 l.most (row-at (λ k x. leb 1 x.most) kind l kinds refl e))

  pub body_length-unknown : (layout_of kind).most ≡ 0 → body_length kind ≡ body_unknown
  body_length-unknown z = by-case (kind_layout kind) refl
    where
      by-case : (o : Option Layout) → kind_layout kind ≡ o → body_length kind ≡ body_unknown
      by-case (Some l) e = absurd (omega (arith, z, some-most l e))
      by-case None e = body_length-none kind e

  pub body_length-known : ((layout_of kind).most ≡ 0 → ⊥) → body_length kind ≡ body_bytes (layout_of kind).length
  body_length-known ne = by-case (kind_layout kind) refl
    where
      by-case : (o : Option Layout) → kind_layout kind ≡ o → body_length kind ≡ body_bytes (layout_of kind).length
      by-case (Some l) e = body_length-some kind e ∙ sym (ap (λ (x : Layout). body_bytes x.length) (layout-is (Some l) e))
      by-case None e = absurd (ne (ap (λ (x : Layout). x.most) (layout-is None e)))
