-- `since` lines as they are read, field by field, from a place of the text on. In order: a line with these numbers, which fit
-- their widths if the line is good; a line from its text on, from its current seconds on.
-- Assumes nothing.
use Rattle.std.specs.Prelude.{Err, None, Ok, Option, Result, Some}
use mathlib.Core.Path.{◌≡◌, refl, sym, ap, ◌∙◌}
use mathlib.Core.Bool.{true, false, ◌&&◌, false≢true}
use mathlib.Core.List.{List, []}
use Prim.Native.Nat.{ℕ, ◌+◌, ◌-◌, ◌^◌, ◌≤◌, ◌<◌}
use native.Mathlib.Omega.{arith}
use borrow.Author.Tests.{ltb-true, ltb-false}
use lib.Dec.{ltb}
use lib.IntN.{ℤ, pos, neg_ℤ}
use lib.ListN.{length, take, drop}
use lib.Signed.{le_z, lt_z, ◌≤ℤ◌, ◌<ℤ◌}
use Rattle.ints.specs.Range.{In, is_in}
use Rattle.ints.proofs.Parts.{up, dn, le_parts, parts-le, parts-lt, up_neg, dn-neg}
use Rattle.ints.proofs.Machine.{le_z-true, lt_z-true, In_of_is_in}
use Rattle.text.specs.Number.{signed_of, fit_signed, numeral}
use Rattle.text.specs.Places.{past, first_place, opens_with}
use Rattle.text.specs.Lines.{tab, newline, field, rest}
use Rattle.text.proofs.Lists.{by_test, both}
use Rattle.text.proofs.Numbers.{signed_of_of_numeral-lt}
use Rattle.time.specs.Answers.{time_at}
use Rattle.time.specs.Range.{least_seconds, most_seconds, seconds_in_range, least_offset, most_offset, offset_in_range, time_in_range}
use Rattle.time.specs.declared.Time.{Time}
use Rattle.relative.specs.Relative.{from, relative_of}
use Rattle.relative.specs.declared.pair.Pair.{Pair}
use Rattle.relative.proofs.Texts.{relative_of-keeps}
use Rattle.stamps.specs.Stamps.{printed}
use Rattle.stamps.specs.Writing.{is_read}
use Rattle.stamps.specs.Lines.{since_at, since_with, since_of}
use Rattle.stamps.specs.Held.{is_text_byte, OpensPrinted, ends_here, part_from, left_at, since_left, current_left, first_at, first_from}
use Rattle.stamps.specs.declared.stamp.PrintedNumber.{PrintedNumber}
use Rattle.stamps.specs.declared.line.Line.{Line}
use Rattle.stamps.proofs.Fields.{field-nil, FieldEnds, field_ends_past, rest-nil_of_every, every_field, field_ends_numeral, rest-nil_of_numeral, first_place_of_numeral, numeral-last}
use Rattle.time.specs.declared.Refusal.{Refusal}

-- ---- a line with these numbers
-- no text is read at a current time out of range
not-read_from : (c : Time) (ps : List Pair) → time_in_range c ≡ false → is_read (from (Some c) ps) ≡ false
unfolding from
not-read_from c ps e = rw e

pub not-read_of_not-time_in_range : (bound : ℕ) (s : List ℕ) (c : Time) → time_in_range c ≡ false → is_read (relative_of bound s (Some c)) ≡ false
not-read_of_not-time_in_range bound s c e = relative_of-keeps (λ (a : Result Time Refusal). is_read a ≡ false) bound s (Some c) refl refl refl (λ ps. not-read_from c ps e)

since_at_of_not-read : (text : List ℕ) (c : Time) (a : Result Time Refusal) → is_read a ≡ false → since_at text c a ≡ None
since_at_of_not-read text c (Ok t) e = absurd (false≢true (sym e))
since_at_of_not-read text c (Err r) e = refl

-- so the numbers of a `since` line that is good fit their widths
fit_signed_of_In : (half : ℕ) {lo hi z : ℤ} → In lo hi z → dn lo ≤ half → up hi < half → fit_signed half (Some z) ≡ Some z
unfolding fit_signed
fit_signed_of_In half {lo} {hi} {z} r l h =
    let low : neg_ℤ (pos half) ≤ℤ z = parts-le _ _ (omega (arith, up_neg (pos half), dn-neg (pos half), le_parts r.low)) in
    let high : z <ℤ pos half = parts-lt _ _ (omega (arith, le_parts r.high)) in
    rw (le_z-true low, lt_z-true high)

fit_signed_of_either : (half : ℕ) (z : ℤ) (P : Option ℤ → Type 0) → P (Some z) → P None → P (fit_signed half (Some z))
unfolding fit_signed
fit_signed_of_either half z P y n = by_test (le_z (neg_ℤ (pos half)) z && lt_z z (pos half)) (λ e. rw e y) (λ e. rw e n)

fits_of_time_in_range : (z o : ℤ) → time_in_range (time_at z o) ≡ true → (fit_signed (2 ^ 63) (Some z) ≡ Some z) × (fit_signed (2 ^ 31) (Some o) ≡ Some o)
unfolding time_in_range seconds_in_range offset_in_range
fits_of_time_in_range z o e =
    let p = both (is_in least_seconds most_seconds z) (is_in least_offset most_offset o) e in (
      fit_signed_of_In (2 ^ 63) (In_of_is_in least_seconds most_seconds z p.0) (omega arith) (omega arith),
      fit_signed_of_In (2 ^ 31) (In_of_is_in least_offset most_offset o p.1) (omega arith) (omega arith),
    )

fit_signed-Nothing : (half : ℕ) → fit_signed half None ≡ None
unfolding fit_signed
fit_signed-Nothing half = refl

module _ (bound : ℕ) (text : List ℕ) where
  pub since_with_no_offset : (x : Option ℤ) → since_with bound text x None ≡ None
  since_with_no_offset (Some z) = refl
  since_with_no_offset None = refl

  since_with-fit : (x y : Option ℤ) → since_with bound text (fit_signed (2 ^ 63) x) (fit_signed (2 ^ 31) y) ≡ since_with bound text x y
  since_with-fit (Some z) (Some o) =
      by_test (time_in_range (time_at z o)) (λ e. let f = fits_of_time_in_range z o e in λ i. since_with bound text (f.0 i) (f.1 i))
      (λ e.
      let b : since_with bound text (Some z) (Some o) ≡ None = since_at_of_not-read text (time_at z o) (relative_of bound text (Some (time_at z o))) (not-read_of_not-time_in_range bound text (time_at z o) e) in
      fit_signed_of_either (2 ^ 63) z (λ x. since_with bound text x (fit_signed (2 ^ 31) (Some o)) ≡ None)
      (fit_signed_of_either (2 ^ 31) o (λ y. since_with bound text (Some z) y ≡ None) b refl)
      refl
      ∙ sym b)
  since_with-fit (Some z) None = ap (since_with bound text (fit_signed (2 ^ 63) (Some z))) (fit_signed-Nothing (2 ^ 31)) ∙ since_with_no_offset (fit_signed (2 ^ 63) (Some z))
  since_with-fit None y = ap (λ (x : Option ℤ). since_with bound text x (fit_signed (2 ^ 31) y)) (fit_signed-Nothing (2 ^ 63))

  -- the line with these numbers, of which this is the current time
  pub since_at_is : (x y : Option ℤ) (z o : ℤ) (c : Time) (a : Result Time Refusal) → x ≡ Some z → y ≡ Some o → c ≡ time_at z o → a ≡ relative_of bound text (Some c) → since_at text c a ≡ since_with bound text x y
  since_at_is x y z o c a ex ey ec ea =
      ap (since_at text c) ea ∙ ap (λ (t : Time). since_at text t (relative_of bound text (Some t))) ec ∙ sym (λ i. since_with bound text (ex i) (ey i))

-- what was fitted to a width fits it
pub fit_signed-fit_signed : (half : ℕ) (x : Option ℤ) → fit_signed half (fit_signed half x) ≡ fit_signed half x
unfolding fit_signed
fit_signed-fit_signed half (Some z) = by_test (le_z (neg_ℤ (pos half)) z && lt_z z (pos half)) (λ e. rw (e, e)) (λ e. rw e)
fit_signed-fit_signed half None = refl

-- ---- a line by its fields
pub printed-nil : printed [] ≡ None
unfolding printed signed_of
printed-nil = refl

printed_of_numeral-lt : (s : List ℕ) → numeral s < length s → printed s ≡ None
unfolding printed
printed_of_numeral-lt s h = rw (signed_of_of_numeral-lt s h)

module _ (bound : ℕ) (text : List ℕ) where
  pub since_of_no_seconds : (seconds offset : List ℕ) → printed seconds ≡ None → since_of bound text seconds offset ≡ None
  unfolding since_of
  since_of_no_seconds seconds offset e = ap (λ (x : Option ℤ). since_with bound text x (printed offset)) e

  since_of_no_offset : (seconds offset : List ℕ) → printed offset ≡ None → since_of bound text seconds offset ≡ None
  unfolding since_of
  since_of_no_offset seconds offset e = ap (since_with bound text (printed seconds)) e ∙ since_with_no_offset bound text (printed seconds)

-- from its text on, which ends at e
module _ (s : List ℕ) (e : ℕ) (ee : e ≡ past is_text_byte s 6) where
  pub since_no_tab : (bound : ℕ) → opens_with tab (drop e s) ≡ false → since_left bound (left_at s 6) ≡ None
  since_no_tab bound o =
      let n : rest (left_at s 6) ≡ [] = rest-nil_of_every s 6 is_text_byte (λ b h. h) (every_field s 6) (rw ee at o) in
      since_of_no_seconds bound _ _ _ (ap (λ (v : List ℕ). printed (field v)) n ∙ ap printed field-nil ∙ printed-nil)

  module _ (o : opens_with tab (drop e s) ≡ true) where
    pub text_ends : FieldEnds s 6 e
    text_ends = rw ee (field_ends_past s 6 is_text_byte (λ b h. h) (rw ee at o))

    pub since_dated : (bound : ℕ) → since_left bound (left_at s 6) ≡ current_left bound (part_from s 6 e) (left_at s (e + 1))
    since_dated bound = λ i. current_left bound (text_ends.field_is i) (text_ends.rest_is i)

-- from its current seconds on, which begin at a
module _ (bound : ℕ) (text s : List ℕ) (a : ℕ) (z : PrintedNumber) (oz : OpensPrinted (2 ^ 63) (drop a s) a z) where
  pub seconds_no_tab : opens_with tab (drop z.end s) ≡ false → current_left bound text (left_at s a) ≡ None
  seconds_no_tab o =
      let m = left_at s a in
      by_test (ltb (numeral (field m)) (length (field m)))
      (λ y. since_of_no_seconds bound text _ _ (printed_of_numeral-lt (field m) (ltb-true _ _ y)))
      (λ y.
      let n : rest m ≡ [] = rest-nil_of_numeral s a (rw oz.end_is at o) (ltb-false _ _ y) in
      since_of_no_offset bound text _ _ (ap printed n ∙ printed-nil))

  module _ (t : opens_with tab (drop z.end s) ≡ true) where
    seconds_ends : FieldEnds s a z.end
    seconds_ends = rw oz.end_is (field_ends_numeral s a (rw oz.end_is at t))

    -- and its current offset
    module _ (o : PrintedNumber) (oo : OpensPrinted (2 ^ 31) (drop (z.end + 1) s) (z.end + 1) o) where
      pub offset-not-last : ends_here (drop o.end s) ≡ false → current_left bound text (left_at s a) ≡ None
      offset-not-last e =
          since_of_no_offset bound text _ _
          (ap printed seconds_ends.rest_is ∙ printed_of_numeral-lt (left_at s (z.end + 1)) (numeral-last s (z.end + 1) (rw oo.end_is at e)))

      module _ (e : ends_here (drop o.end s) ≡ true) where
        last_is : first_place newline (drop (z.end + 1) s) ≡ numeral (drop (z.end + 1) s)
        last_is = first_place_of_numeral s (z.end + 1) (rw oo.end_is at e)

        since_numbers : current_left bound text (left_at s a) ≡ since_with bound text z.number o.number
        unfolding since_of
        since_numbers =
            let k : z.end - a ≡ numeral (drop a s) = omega (arith, oz.end_is) in
            let f : field (left_at s a) ≡ take (numeral (drop a s)) (drop a s) = seconds_ends.field_is ∙ ap (λ (n : ℕ). take n (drop a s)) k in
            let r : rest (left_at s a) ≡ take (numeral (drop (z.end + 1) s)) (drop (z.end + 1) s) = seconds_ends.rest_is ∙ ap (λ (n : ℕ). take n (drop (z.end + 1) s)) last_is in
            (λ i. since_with bound text (printed (f i)) (printed (r i))) ∙ sym (since_with-fit bound text _ _)
            ∙ sym (λ i. since_with bound text (oz.number_is i) (oo.number_is i))

        -- the line that has them, or none
        pub since_ends : (line : Option Line) → line ≡ since_with bound text z.number o.number → first_at o.end line ≡ first_from s a (current_left bound text (left_at s a))
        since_ends line l =
            let ends : o.end ≡ a + first_place newline (drop a s) = omega (arith, oo.end_is, last_is, seconds_ends.line_is) in
            λ i. first_at (ends i) ((l ∙ sym since_numbers) i)
