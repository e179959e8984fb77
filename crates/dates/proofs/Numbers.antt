-- The numbers that the forms of "any" give, but for a relative date: an ISO date 0, 1, 2 or 6 (`iso_number`), a raw date or a plain number
-- 0, 1, 2 or 11 (`raw_number`, `plain_number_lem`).
-- Assumes nothing.
use Rattle.std.specs.Prelude.{None, Option, Result, Some}
use mathlib.Core.Path.{◌≡◌, refl}
use mathlib.Core.Bool.{true, ◌||◌}
use mathlib.Core.List.{List, [], ◌∷◌}
use Prim.Native.Char.{code}
use Prim.Native.Nat.{ℕ, ◌+◌, ◌*◌, ◌^◌}
use lib.Dec.{eqb}
use lib.IntN.{ℤ, ◌-ℤ◌}
use lib.Signed.{le_z}
use Rattle.text.specs.Bytes.{ascii}
use Rattle.text.specs.Trim.{trim}
use Rattle.text.specs.Number.{signed_of, fit_signed}
use Rattle.text.proofs.Lists.{by_test}
use Rattle.time.specs.Answers.{answer_number}
use Rattle.time.specs.Range.{seconds_in_range, since1970}
use Rattle.header.specs.Raw.{Limits, raw_of}
use Rattle.header.proofs.RawDates.{raw_cases, raw-not-ascii}
use Rattle.iso.specs.Forms.{form_of}
use Rattle.iso.specs.Iso.{day_of, moment_of, zoned, iso_of}
use Rattle.dates.specs.Any.{is_settled, or_else, numbered, least64, least_plain, number_from, marked_of, at_of, plain_of}
use Rattle.iso.specs.declared.forms.Local.{Local}
use Rattle.time.specs.declared.Refusal.{Refusal}
use Rattle.time.specs.declared.Time.{Time}

-- ---- ISO dates
abbrev IsIsoNumber : Result Time Refusal → Type 0
IsIsoNumber x = let n : ℕ = answer_number x in (eqb n 0 || (eqb n 1 || (eqb n 2 || eqb n 6))) ≡ true

moment_of-number : (d : Option ℕ) (c : ℕ) (o : ℤ) → IsIsoNumber (moment_of d c o)
unfolding moment_of
moment_of-number (Some d) c o = by_test (seconds_in_range (since1970 (d * 86400 + c) -ℤ o)) (λ k. rw k refl) (λ k. rw k refl)
moment_of-number None c o = refl

zoned_number : (f : Option Local) → IsIsoNumber (zoned f)
unfolding zoned
zoned_number (Some f) = moment_of-number (day_of f.year f.month f.day) f.second f.offset
zoned_number None = refl

pub iso_number : (s : List ℕ) → IsIsoNumber (iso_of s)
unfolding iso_of
iso_number s = by_test (ascii s) (λ a. rw a (zoned_number (form_of (trim s)))) (λ a. rw a refl)

-- ---- raw dates and plain numbers
abbrev IsRawNumber : Result Time Refusal → Type 0
IsRawNumber x = let n : ℕ = answer_number x in (eqb n 0 || (eqb n 1 || (eqb n 2 || eqb n 11))) ≡ true

pub raw_number : (l : Limits) (s : List ℕ) → IsRawNumber (raw_of l s)
raw_number l s = by_test (ascii s) (λ a. raw_cases l s a (λ t e. rw e refl) (λ e. rw e refl) (λ e. rw e refl)) (λ a. rw (raw-not-ascii l s a) refl)

or_else-number : (a b : Result Time Refusal) → IsRawNumber a → IsRawNumber b → IsRawNumber (or_else a b)
or_else-number a b h k = by_test (is_settled a) (λ e. rw e h) (λ e. rw e k)

number_from-number : (least : ℤ) (s : List ℕ) → IsRawNumber (number_from least s)
unfolding number_from
number_from-number least s = go (fit_signed (2 ^ 63) (signed_of s))
  where
    go : (x : Option ℤ) → IsRawNumber (numbered least x)
    go (Some z) = by_test (le_z least z) (λ e. rw e refl) (λ e. rw e refl)
    go None = refl

at_of-number : (l : Limits) (s : List ℕ) → IsRawNumber (at_of l s)
unfolding at_of marked_of
at_of-number l [] = refl
at_of-number l (b ∷ s) =
    by_test (eqb b (code "@")) (λ e. rw e (or_else-number (raw_of l s) (number_from least64 s) (raw_number l s) (number_from-number least64 s))) (λ e. rw e refl)

pub plain_number_lem : (l : Limits) (s : List ℕ) → IsRawNumber (plain_of l s)
unfolding plain_of
plain_number_lem l s = or_else-number (at_of l s) (number_from least_plain s) (at_of-number l s) (number_from-number least_plain s)
