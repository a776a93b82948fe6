-- The names that nearly every function's proof brings, passed on. For proofs alone. Assumes nothing.
pub use mathlib.Core.Path.{◌≡◌, refl, sym, ap, ap₂, subst, ◌∙◌}
pub use mathlib.Core.Bool.{Bool, true, false}
pub use Prim.Native.Nat.{ℕ, suc, ◌+◌, ◌*◌, ◌-◌, ◌≤◌, ◌<◌}
pub use native.Mathlib.Omega.{arith}
pub use native.Mathlib.Numerals.{add-one}
pub use borrow.Author.Rules.{rules}
pub use lib.ListN.{length, get_or, set}
pub use lib.IntN.{ℤ, pos, negsuc, nat_abs, ◌+ℤ◌, ◌-ℤ◌, ◌*ℤ◌}
pub use mir.Syntax.{w8, w16, w32, w64}
pub use mir.Val.{Fits, SFits, to_z, of_z}
pub use mir.Facts.{to_z-of_z}
