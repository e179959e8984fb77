-- What the ISO writer of `time` writes is read back. In order: the bytes of the line; its fields; its instant; its day; the line of a
-- time as it is, at an offset of whole minutes; the line that is written, at any offset (`iso_read_back`, `iso_read_back_in_room`); the
-- case of whole minutes; two times of one line (`same_line_same_instant`).
-- Assumes nothing.
use Rattle.std.specs.Prelude.{Ok, Result, Some}
use mathlib.Core.Path.{◌≡◌, refl, sym, ap, ◌∙◌}
use mathlib.Core.Bool.{true, false}
use mathlib.Core.List.{List, [], ◌∷◌}
use Prim.Native.Nat.{ℕ, ◌+◌, ◌-◌, ◌*◌, ◌/◌, ◌%◌, ◌≤◌, ◌<◌}
use native.Mathlib.Omega.{arith}
use lib.Dec.{eqb}
use lib.IntN.{ℤ, pos, negsuc, neg_ℤ, nat_abs, ◌+ℤ◌, ◌-ℤ◌}
use lib.ListN.{take}
use Rattle.ints.specs.Range.{In}
use Rattle.ints.proofs.Parts.{add_parts, up_neg, dn-neg, parts-eq, eq-parts, parts-le}
use Rattle.text.specs.Bytes.{is_space, ascii}
use Rattle.text.specs.Decimal.{two_before}
use Rattle.text.specs.Room.{room_after}
use Rattle.text.specs.Trim.{trim}
use Rattle.calendar.specs.Calendar.{IsDate}
use Rattle.calendar.specs.Civil.{year_count}
use Rattle.calendar.specs.Dates.{date_of, day_number}
use Rattle.calendar.proofs.Dates.{IsDate_of_date_of, IsDate-day-lt}
use Rattle.time.specs.Answers.{time_at, unmarked, answer_time, is_written}
use Rattle.time.specs.Clock.{local_of, clock_of}
use Rattle.time.specs.Header.{sign_byte, whole_minutes, cut_to_minutes}
use Rattle.time.specs.Iso.{offset_before, line_bytes, shown, iso_bytes, iso_written}
use Rattle.time.specs.Range.{seconds_in_range, since1970, instant_of}
use Rattle.time.specs.declared.Time.{Time}
use Rattle.time.specs.declared.range.Instant.{Instant}
use Rattle.iso.specs.Forms.{all_fields, read_fields, is_separator, flexible}
use Rattle.iso.specs.Iso.{day_of, zoned, iso_of}
use Rattle.text.proofs.Digits.{is_space_of_digit, tens, ones}
use Rattle.text.proofs.Trimming.{trim_of_ends}
use Rattle.iso.proofs.Digits.{int32-two, int32_four, ascii_of_Narrow}
use Rattle.iso.proofs.Lines.{iso_time-clock_text, trim_tail, time_text-tail, offset_text-tail, iso_offset-line, day_number_of_IsDate}
use Rattle.iso.proofs.Instants.{day_of-value, moment_of_in}
use Rattle.iso.proofs.Theorems.{iso_of_flexible}
use Rattle.time.proofs.Isos.{time_in_range_of_narrow, WasWritten, was_written}
use Rattle.time.proofs.Minutes.{nat_abs-cut, cut_of_whole}
use Rattle.time.proofs.Ranges.{local_of-instant_of}
use Rattle.time.proofs.Theorems.{line_in_room, is_sign-sign_byte}
use Rattle.time.specs.declared.Refusal.{Refusal}

-- ---- the line of a date, a clock and an offset
module _ (y mo d h m s : ℕ) (o : ℤ) (yl : y < 10000) (ml : mo < 100) (dl : d < 100) (hl : h ≤ 23) (nl : m ≤ 59) (sl : s ≤ 59) (ol : nat_abs o < 86400) (whole : nat_abs o % 60 ≡ 0) where
  abbrev a : ℕ
  a = whole_minutes o / 60

  abbrev c : ℕ
  c = whole_minutes o % 60

  abbrev tail : List ℕ
  tail = two_before h (58 ∷ two_before m (58 ∷ two_before s (offset_before o [])))

  abbrev line : List ℕ
  line = two_before (y / 100) (two_before (y % 100) (45 ∷ two_before mo (45 ∷ two_before d (84 ∷ tail))))

  a< : a < 100
  unfolding whole_minutes
  a< = omega arith

  c< : c < 100
  unfolding whole_minutes
  c< = omega arith

  is_space-sign_byte : (z : ℤ) → is_space (sign_byte z) ≡ false
  unfolding is_space sign_byte
  is_space-sign_byte (pos n) = refl
  is_space-sign_byte (negsuc n) = refl

  eqb-sign_byte : (z : ℤ) → eqb (sign_byte z) 32 ≡ false
  unfolding sign_byte
  eqb-sign_byte (pos n) = refl
  eqb-sign_byte (negsuc n) = refl

  sign_byte-lt : (z : ℤ) → sign_byte z < 128
  unfolding sign_byte
  sign_byte-lt (pos n) = omega arith
  sign_byte-lt (negsuc n) = omega arith

  trim_line : trim line ≡ line
  trim_line =
      trim_of_ends (48 + y / 100 / 10)
      ((48 + y / 100 % 10) ∷ two_before (y % 100) (45 ∷ two_before mo (45 ∷ two_before d (84 ∷ two_before h (58 ∷ two_before m (58 ∷ two_before s (sign_byte o ∷ two_before a (58 ∷ (48 + c / 10) ∷ []))))))))
      (48 + c % 10) (is_space_of_digit (48 + y / 100 / 10) (tens (y / 100) (omega arith))) (is_space_of_digit (48 + c % 10) (ones c))

  fields_line : flexible line ≡ Some (record { year = pos y; month = pos mo; day = pos d; second = h * 3600 + m * 60 + s; offset = o })
  unfolding flexible is_separator read_fields all_fields
  fields_line =
      let sign = is_sign-sign_byte o in
      let space = is_space-sign_byte o in
      let other = eqb-sign_byte o in
      rw (
        int32_four y yl,
        int32-two mo ml,
        int32-two d dl,
        trim_tail h m s hl nl sl (sign_byte o) a c sign space other a< c<,
        time_text-tail h m s hl nl sl (sign_byte o) a c sign space other a< c<,
        iso_time-clock_text h m s hl nl sl,
        offset_text-tail h m s hl nl sl (sign_byte o) a c sign space other a< c<,
        iso_offset-line o ol whole,
      )

  ascii_line : ascii line ≡ true
  ascii_line =
      ascii_of_Narrow line
      (omega arith, (omega arith, (omega arith, (omega arith, (omega arith, (omega arith, (omega arith, (omega arith, (omega arith, (omega arith, (omega arith, (omega arith, (omega arith, (omega arith, (omega arith, (omega arith, (omega arith, (omega arith, (omega arith, (sign_byte-lt o, (omega (arith, a<), (omega arith, (omega arith, (omega (arith, c<), (omega arith, tt)))))))))))))))))))))))))

-- ---- the clock's second, from its hour, minute and second
clock_sum : (x : ℕ) → x / 3600 * 3600 + x / 60 % 60 * 60 + x % 60 ≡ x
clock_sum x = omega arith

module _ (t : Time) {n : ℕ} (w : WasWritten t n) where
  abbrev i : Instant
  i = instant_of t

  -- the instant: local seconds, less the offset
  instant_back : since1970 (local_of i) -ℤ t.offset ≡ t.seconds
  instant_back =
      let local = eq-parts (local_of-instant_of t (time_in_range_of_narrow t w.narrow ∙ w.seconds)) in
      parts-eq _ _ (omega (
        arith,
        local,
        add_parts t.seconds t.offset,
        add_parts (t.seconds +ℤ t.offset) (pos 377736739200),
        add_parts (pos (local_of i)) (neg_ℤ (pos 377736739200)),
        add_parts (since1970 (local_of i)) (neg_ℤ t.offset),
        up_neg t.offset,
        dn-neg t.offset,
      ))

  -- the day that the line's date names
  abbrev day : ℕ
  day = local_of i / 86400

  abbrev month : ℕ
  month = (date_of day).month

  is_date : IsDate day month (date_of day).day
  is_date = IsDate_of_date_of {x = date_of day} refl

  year_low : 120000 ≤ month
  unfolding clock_of
  year_low = w.year_low

  year_high : month < 240000
  unfolding clock_of
  year_high = w.year_high

  day_line : day_of (pos (month / 12 - 10000)) (pos (month % 12 + 1)) (pos ((date_of day).day + 1)) ≡ Some day
  day_line =
      let y : ℕ = month / 12 - 10000 in
      let l = year_low in
      let h = year_high in
      let e : year_count (pos y) ≡ month / 12 = omega arith in
      let years : In (negsuc 9998) (pos 9999) (pos y) = record { low = record { le = tt }; high = parts-le _ _ (omega arith) } in
      sym (day_of-value (pos y) (month % 12 + 1) ((date_of day).day + 1) years)
      ∙ ap (λ (v : ℕ). day_number v (month % 12 + 1) ((date_of day).day + 1)) e
      ∙ day_number_of_IsDate is_date year_high

  module _ (whole : nat_abs t.offset % 60 ≡ 0) where
    abbrev second : ℕ
    second = local_of i % 86400

    flexible_line : flexible (line_bytes t) ≡ Some (record { year = pos (month / 12 - 10000); month = pos (month % 12 + 1); day = pos ((date_of day).day + 1); second = second / 3600 * 3600 + second / 60 % 60 * 60 + second % 60; offset = t.offset })
    unfolding line_bytes clock_of
    flexible_line =
        let l = year_low in
        let h = year_high in
        let d = IsDate-day-lt is_date in
        fields_line (month / 12 - 10000) (month % 12 + 1) ((date_of day).day + 1) (second / 3600) (second / 60 % 60) (second % 60) t.offset (omega arith) (omega arith) (omega arith) (omega arith) (omega arith) (omega arith) w.narrow whole

    trim_written : trim (line_bytes t) ≡ line_bytes t
    unfolding line_bytes clock_of
    trim_written =
        let l = year_low in
        let h = year_high in
        let d = IsDate-day-lt is_date in
        trim_line (month / 12 - 10000) (month % 12 + 1) ((date_of day).day + 1) (second / 3600) (second / 60 % 60) (second % 60) t.offset (omega arith) (omega arith) (omega arith) (omega arith) (omega arith) (omega arith) w.narrow whole

    ascii_written : ascii (line_bytes t) ≡ true
    unfolding line_bytes clock_of
    ascii_written =
        let l = year_low in
        let h = year_high in
        let d = IsDate-day-lt is_date in
        ascii_line (month / 12 - 10000) (month % 12 + 1) ((date_of day).day + 1) (second / 3600) (second / 60 % 60) (second % 60) t.offset (omega arith) (omega arith) (omega arith) (omega arith) (omega arith) (omega arith) w.narrow whole

    -- as the same time, without the mark
    zoned_line : zoned (flexible (line_bytes t)) ≡ Ok (unmarked t)
    unfolding zoned
    zoned_line =
        let n : day * 86400 + second ≡ local_of i = omega arith in
        let e : since1970 (day * 86400 + second) -ℤ t.offset ≡ t.seconds = ap (λ (x : ℕ). since1970 x -ℤ t.offset) n ∙ instant_back in
        let r : seconds_in_range (since1970 (day * 86400 + second) -ℤ t.offset) ≡ true = ap seconds_in_range e ∙ w.seconds in
        rw (flexible_line, clock_sum second, day_line) (sym (moment_of_in {f = Some day} second t.offset refl r) ∙ (λ j. Ok (time_at (e j) t.offset)))

    -- it is read back, by the flexible form
    line_read_back : (zoned (flexible (line_bytes t)) ≡ Ok (unmarked t)) × (iso_of (line_bytes t) ≡ Ok (unmarked t))
    line_read_back = (zoned_line, iso_of_flexible (line_bytes t) ascii_written (rw trim_written zoned_line))

-- every time that the ISO writer writes is read back, by the flexible form, with its seconds and its offset cut toward zero to whole
-- minutes
pub iso_read_back : (t : Time) (room : List ℕ) (n : ℕ) → iso_written t room ≡ Ok n
    → (zoned (flexible (iso_bytes t)) ≡ Ok (time_at t.seconds (cut_to_minutes t.offset))) × (iso_of (iso_bytes t) ≡ Ok (time_at t.seconds (cut_to_minutes t.offset)))
unfolding shown iso_bytes iso_written
iso_read_back t room n e = line_read_back (shown t) (was_written (shown t) room n e) (omega (arith, nat_abs-cut t.offset))

-- and so are the bytes that the writer leaves at the front of the room
pub iso_read_back_in_room : (t : Time) (room : List ℕ) (n : ℕ) → iso_written t room ≡ Ok n
    → iso_of (take n (room_after (is_written (iso_written t room)) (iso_bytes t) room)) ≡ Ok (time_at t.seconds (cut_to_minutes t.offset))
iso_read_back_in_room t room n e = ap iso_of (line_in_room t room n e) ∙ (iso_read_back t room n e).1

-- at an offset of whole minutes, that is the same time, without the mark
pub iso_read_back_whole : (t : Time) (room : List ℕ) (n : ℕ) → iso_written t room ≡ Ok n → nat_abs t.offset % 60 ≡ 0
    → (zoned (flexible (iso_bytes t)) ≡ Ok (unmarked t)) × (iso_of (iso_bytes t) ≡ Ok (unmarked t))
iso_read_back_whole t room n e whole = rw (cut_of_whole t.offset whole) at (iso_read_back t room n e)

-- two times of one line have one instant
pub same_line_same_instant : (t u : Time) (room more : List ℕ) (n k : ℕ) → iso_written t room ≡ Ok n → iso_written u more ≡ Ok k → iso_bytes t ≡ iso_bytes u
    → t.seconds ≡ u.seconds
same_line_same_instant t u room more n k e f same =
    ap (λ (a : Result Time Refusal). (answer_time a).seconds) (sym (iso_read_back t room n e).1 ∙ ap iso_of same ∙ (iso_read_back u more k f).1)
