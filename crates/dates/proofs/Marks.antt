-- The mark of `-0000` in "any" (RULES 5.10). The ISO reader and a number never set it (`iso_clear`). "Any" sets it only where the raw
-- reader read the text, or what follows `@`, as that very time (`any_mark_from_raw`); and what raw reads behind `@` is the answer, with its
-- mark (`any_at_raw`).
-- Assumes nothing.
use Rattle.std.specs.Prelude.{None, Ok, Option, Result, Some}
use mathlib.Core.Path.{◌≡◌, refl, sym, ◌∙◌}
use mathlib.Core.Bool.{true, false, false≢true}
use mathlib.Core.List.{List, [], ◌∷◌}
use mathlib.Core.Logic.{◌⊎◌, inl, inr, ⊎_elim}
use Prim.Native.Nat.{ℕ, ◌+◌, ◌*◌, ◌^◌}
use Prim.Native.Char.{code}
use native.Mathlib.Omega.{arith}
use borrow.Author.Tests.{eqb-true}
use lib.Dec.{eqb}
use lib.IntN.{ℤ, ◌-ℤ◌}
use lib.Signed.{le_z}
use Rattle.text.specs.Bytes.{ascii}
use Rattle.text.specs.Trim.{trim}
use Rattle.text.specs.Number.{signed_of, fit_signed}
use Rattle.text.proofs.Lists.{by_test}
use Rattle.time.specs.Range.{seconds_in_range, since1970}
use Rattle.time.specs.declared.Time.{Time}
use Rattle.header.specs.Raw.{Limits, raw_of}
use Rattle.iso.specs.Forms.{form_of}
use Rattle.iso.specs.Iso.{day_of, moment_of, zoned, iso_of}
use Rattle.relative.specs.Relative.{relative_of}
use Rattle.relative.proofs.Texts.{Clear}
use Rattle.relative.proofs.Unmarked.{relative_clear}
use Rattle.dates.specs.Any.{is_settled, or_else, numbered, number_from, least64, least_plain, marked_of, at_of, any_of}
use Rattle.dates.specs.Theorems.{ReadAsRaw}
use Rattle.dates.proofs.Steps.{any_of_in_turn}
use Rattle.iso.specs.declared.forms.Local.{Local}
use Rattle.time.specs.declared.Refusal.{Refusal}

mark_of_Clear : (a : Result Time Refusal) (t : Time) → Clear a → a ≡ Ok t → t.mark ≡ false
mark_of_Clear a t c e = rw e at c

-- ---- ISO dates
moment_of-clear : (d : Option ℕ) (c : ℕ) (o : ℤ) → Clear (moment_of d c o)
unfolding moment_of
moment_of-clear (Some d) c o = by_test (seconds_in_range (since1970 (d * 86400 + c) -ℤ o)) (λ k. rw k refl) (λ k. rw k tt)
moment_of-clear None c o = tt

zoned_clear : (f : Option Local) → Clear (zoned f)
unfolding zoned
zoned_clear (Some f) = moment_of-clear (day_of f.year f.month f.day) f.second f.offset
zoned_clear None = tt

iso_of-clear : (s : List ℕ) → Clear (iso_of s)
unfolding iso_of
iso_of-clear s = by_test (ascii s) (λ a. rw a (zoned_clear (form_of (trim s)))) (λ a. rw a tt)

pub iso_clear : (s : List ℕ) (t : Time) → iso_of s ≡ Ok t → t.mark ≡ false
iso_clear s t e = mark_of_Clear (iso_of s) t (iso_of-clear s) e

-- ---- a number
number_from-clear : (least : ℤ) (s : List ℕ) → Clear (number_from least s)
unfolding number_from
number_from-clear least s = go (fit_signed (2 ^ 63) (signed_of s))
  where
    go : (x : Option ℤ) → Clear (numbered least x)
    go (Some z) = by_test (le_z least z) (λ e. rw e refl) (λ e. rw e tt)
    go None = tt

-- ---- "any"
-- a time comes from the first of two steps or from the second
time_of_or_else : (a b : Result Time Refusal) (t : Time) → or_else a b ≡ Ok t → (a ≡ Ok t) ⊎ (b ≡ Ok t)
time_of_or_else a b t e = by_test (is_settled a) (λ k. inl (rw k at e)) (λ k. inr (rw k at e))

module _ (t : Time) (m : t.mark ≡ true) where
  -- not from one without the mark
  from_second : (a b : Result Time Refusal) → ((u : Time) → a ≡ Ok u → u.mark ≡ false) → or_else a b ≡ Ok t → b ≡ Ok t
  from_second a b clear e = ⊎_elim (λ k. absurd (false≢true (sym (clear t k) ∙ m))) (λ k. k) (time_of_or_else a b t e)

  not-number : (least : ℤ) (s : List ℕ) → number_from least s ≡ Ok t → ⊥
  not-number least s e = false≢true (sym (mark_of_Clear (number_from least s) t (number_from-clear least s) e) ∙ m)

  module _ (l : Limits) where
    at_mark_from_raw : (s : List ℕ) → at_of l s ≡ Ok t → ReadAsRaw l s t
    unfolding at_of marked_of
    at_mark_from_raw [] e = absurd (let q : ◌≡◌ {A = ℕ} 0 1 = cc in omega arith)
    at_mark_from_raw (b ∷ s) e =
        by_test (eqb b (code "@"))
        (λ k. inr (eqb-true b (code "@") k, ⊎_elim (λ r. r) (λ n. absurd (not-number least64 s n)) (time_of_or_else (raw_of l s) (number_from least64 s) t (rw k at e))))
        (λ k. let n = rw k at e in absurd (let q : ◌≡◌ {A = ℕ} 0 1 = cc in omega arith))

    pub any_mark_from_raw : (bound : ℕ) (s : List ℕ) (now : Option Time) → any_of bound l s now ≡ Ok t → ReadAsRaw l s t
    any_mark_from_raw bound s now e =
        ⊎_elim (at_mark_from_raw s)
        (λ k.
        let iso = from_second (number_from least_plain s) _ (λ u n. mark_of_Clear (number_from least_plain s) u (number_from-clear least_plain s) n) k in
        let relative = from_second (iso_of s) _ (iso_clear s) iso in
        inl (from_second (relative_of bound s now) (raw_of l s) (relative_clear bound s now) relative))
        (time_of_or_else (at_of l s) _ t (sym (any_of_in_turn bound l s now) ∙ e))

-- what raw reads behind `@` is the answer
pub any_at_raw : (bound : ℕ) (l : Limits) (s : List ℕ) (now : Option Time) (t : Time) → raw_of l s ≡ Ok t → any_of bound l (code "@" ∷ s) now ≡ Ok t
unfolding at_of marked_of
any_at_raw bound l s now t e = any_of_in_turn bound l (code "@" ∷ s) now ∙ rw e
