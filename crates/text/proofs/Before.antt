-- `fit` and `fit_signed` mean what they meant when nothing was called too large (RULES 12.7). So every definition that takes the plain
-- answer is unchanged: those of ISO and relative dates, of the lines of `whenread`, and of a book of stamps. The definitions as
-- they were are in this file alone.
-- Assumes nothing.
use Rattle.std.specs.Prelude.{None, Option, Some, ℤ}
use mathlib.Core.Path.{◌≡◌, refl}
use mathlib.Core.Bool.{cond, ◌&&◌}
use Prim.Native.Nat.{ℕ}
use lib.Dec.{leb}
use lib.IntN.{pos, neg_ℤ}
use lib.Signed.{le_z, lt_z}
use Rattle.text.specs.Number.{fit, fit_signed}
use Rattle.text.proofs.Lists.{by_test}

abbrev fit_was : ℕ → Option ℕ → Option ℕ
fit_was limit (Some n) = cond (leb n limit) (Some n) None
fit_was limit None = None

abbrev fit_signed_was : ℕ → Option ℤ → Option ℤ
fit_signed_was half (Some z) = cond (le_z (neg_ℤ (pos half)) z && lt_z z (pos half)) (Some z) None
fit_signed_was half None = None

pub fit_as_before : (limit : ℕ) (x : Option ℕ) → fit limit x ≡ fit_was limit x
unfolding fit
fit_as_before limit (Some n) = by_test (leb n limit) (λ e. rw e) (λ e. rw e)
fit_as_before limit None = refl

pub fit_signed_as_before : (half : ℕ) (x : Option ℤ) → fit_signed half x ≡ fit_signed_was half x
unfolding fit_signed
fit_signed_as_before half (Some z) = by_test (le_z (neg_ℤ (pos half)) z && lt_z z (pos half)) (λ e. rw e) (λ e. rw e)
fit_signed_as_before half None = refl
