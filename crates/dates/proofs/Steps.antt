-- "Any" as its steps in turn, for any limits of raw dates. In order: what the number step answers for a text with a byte of 128 or more;
-- the forms that need no calendar, by the first byte; that the steps need no test for such a byte in front of them, because a step
-- that looks at the whole text answers 1 by itself.
-- Assumes nothing.
use Rattle.std.specs.Prelude.{Err, None, Option, Result, Some}
use mathlib.Core.Path.{◌≡◌, refl, sym, ◌∙◌}
use mathlib.Core.Bool.{false, false≢true}
use mathlib.Core.List.{List, [], ◌∷◌}
use Prim.Native.Nat.{ℕ, ◌^◌}
use Prim.Native.Char.{code}
use borrow.Author.Tests.{eqb-true, ne_eqb}
use lib.Dec.{eqb}
use lib.IntN.{ℤ}
use lib.Signed.{le_z}
use Rattle.text.specs.Bytes.{is_digit, ascii}
use Rattle.text.specs.Number.{read_from, digits_of, unsigned_of, signed_of, fit_signed}
use Rattle.text.proofs.Lists.{by_test}
use Rattle.text.proofs.Texts.{signed_of-not-ascii}
use Rattle.time.specs.declared.Refusal.TheVariants.{NotAscii, Form}
use Rattle.header.specs.Raw.{Limits, raw_of}
use Rattle.iso.specs.Iso.{iso_of}
use Rattle.relative.specs.Relative.{relative_of}
use Rattle.dates.specs.Any.{is_settled, or_else, numbered, least64, least_plain, number_from, marked_of, at_of, plain_of, any_of}
use Rattle.time.specs.declared.Refusal.{Refusal}
use Rattle.time.specs.declared.Time.{Time}

-- ---- a byte of 128 or more
number_from-not-ascii : (least : ℤ) (s : List ℕ) → ascii s ≡ false → number_from least s ≡ Err Form
unfolding number_from fit_signed
number_from-not-ascii least s h = rw (signed_of-not-ascii s h)

ascii_of_cons : (b : ℕ) (s : List ℕ) → b ≡ code "@" → ascii (b ∷ s) ≡ false → ascii s ≡ false
unfolding ascii
ascii_of_cons b s e h = rw e at h

-- ---- the forms that need no calendar
-- what the number step answers is a time or 2, and then so is what it answers for a raw date that was refused by 2 or 11
number_from-or-Form : (least : ℤ) (s : List ℕ) → or_else (number_from least s) (Err Form) ≡ number_from least s
unfolding number_from
number_from-or-Form least s = go (fit_signed (2 ^ 63) (signed_of s))
  where
    go : (x : Option ℤ) → or_else (numbered least x) (Err Form) ≡ numbered least x
    go (Some z) = by_test (le_z least z) (λ e. rw e) (λ e. rw e)
    go None = refl

marked_of-or-Form : (l : Limits) (s : List ℕ) → or_else (marked_of l s) (Err Form) ≡ marked_of l s
unfolding marked_of
marked_of-or-Form l s = by_test (is_settled (raw_of l s)) (λ e. rw (e, e)) (λ e. rw e (number_from-or-Form least64 s))

pub plain_of-nil : (l : Limits) → plain_of l [] ≡ Err Form
unfolding plain_of at_of number_from signed_of fit_signed
plain_of-nil l = refl

-- a text that starts with `@` is not a number
pub plain_of_of_at : (l : Limits) (b : ℕ) (s : List ℕ) → b ≡ code "@" → plain_of l (b ∷ s) ≡ marked_of l s
unfolding plain_of at_of number_from signed_of unsigned_of digits_of read_from is_digit fit_signed
plain_of_of_at l b s e = rw e (marked_of-or-Form l s)

pub plain_of_of_other : (l : Limits) (b : ℕ) (s : List ℕ) → (b ≡ code "@" → ⊥) → plain_of l (b ∷ s) ≡ number_from least_plain (b ∷ s)
unfolding plain_of at_of
plain_of_of_other l b s n = rw (ne_eqb b (code "@") n)

-- after `@` the raw reader answers 1; without it no form here ends the search
plain_of-not-ascii : (l : Limits) (s : List ℕ) → ascii s ≡ false → or_else (plain_of l s) (Err NotAscii) ≡ Err NotAscii
unfolding plain_of at_of marked_of raw_of ascii
plain_of-not-ascii l [] h = absurd (false≢true (sym h))
plain_of-not-ascii l (b ∷ s) h =
    by_test (eqb b (code "@"))
    (λ e. rw (e, ascii_of_cons b s (eqb-true b (code "@") e) h))
    (λ e. rw (e, number_from-not-ascii least_plain (b ∷ s) h))

-- ---- the steps: no test for 1 is needed in front of them
or_else-or_else : (a b c : Result Time Refusal) → or_else (or_else a b) c ≡ or_else a (or_else b c)
or_else-or_else a b c = by_test (is_settled a) (λ e. rw (e, e)) (λ e. rw e)

pub any_of_in_turn : (bound : ℕ) (l : Limits) (s : List ℕ) (now : Option Time)
    → any_of bound l s now ≡ or_else (at_of l s) (or_else (number_from least_plain s) (or_else (iso_of s) (or_else (relative_of bound s now) (raw_of l s))))
unfolding any_of plain_of iso_of
any_of_in_turn bound l s now =
    by_test (ascii s) (λ e. rw e (or_else-or_else (at_of l s) (number_from least_plain s) _))
    (λ e. rw e (sym (plain_of-not-ascii l s e) ∙ or_else-or_else (at_of l s) (number_from least_plain s) _))

-- the same with the plain number as it is read
pub any_of_steps : (bound : ℕ) (l : Limits) (s : List ℕ) (now : Option Time)
    → any_of bound l s now
    ≡ or_else (at_of l s) (or_else (numbered least_plain (fit_signed (2 ^ 63) (signed_of s))) (or_else (iso_of s) (or_else (relative_of bound s now) (raw_of l s))))
unfolding number_from
any_of_steps = any_of_in_turn
