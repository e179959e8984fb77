-- What a caller of the writers may rely on, proved of their definitions. In order: the length of a header that is written is `size` and
-- that of its bytes; `size` is at most 26, which `Time::MIN` takes; a header is written wherever it fits, so always to a buffer of
-- 26 bytes; the front of the room then holds its bytes; the mark changes the sign of offset 0 and nothing else; `Time::MIN` and `Time::MAX` are the smallest and the largest time that a header
-- can carry; an ISO line is 25 bytes of one shape, and the front of the room holds them once it is written; its offset is never `-00:00`; the
-- line of the time that it shows is the same line.
-- Assumes nothing.
use Rattle.std.specs.Prelude.{Err, Ok, Result}
use mathlib.Core.Path.{◌≡◌, refl, sym, ap, ◌∙◌}
use mathlib.Core.Bool.{true, false, and-false}
use mathlib.Core.List.{List}
use Prim.Native.Nat.{ℕ, ◌+◌, ◌-◌, ◌/◌, ◌%◌, ◌^◌, ◌≤◌, ◌<◌}
use native.Mathlib.Omega.{arith}
use borrow.Author.Tests.{lt-leb, le-ltb}
use lib.Dec.{leb, ltb}
use lib.IntN.{ℤ, pos, negsuc, nat_abs}
use lib.ListN.{length, get_or, take, drop}
use lib.Seq.{take-append_seam}
use lib.Signed.{◌≤ℤ◌}
use mir.Syntax.{w64}
use mir.Val.{SFits}
use Rattle.ints.proofs.Machine.{param, nat_abs-le_of_SFits, In_of_nat_abs}
use Rattle.ints.specs.Equal.{eq_z}
use Rattle.calendar.proofs.Dates.{IsDate_of_date_of, IsDate-day-lt}
use Rattle.calendar.specs.Dates.{date_of}
use Rattle.text.proofs.Signed.{length_signed_le}
use Rattle.text.proofs.Lists.{by_test}
use Rattle.text.proofs.Digits.{tens, ones}
use Rattle.text.specs.Bytes.{is_sign}
use Rattle.text.specs.Decimal.{digits_up_to, decimal, signed, signed_before}
use Rattle.text.specs.Quote.{bytes}
use Rattle.text.specs.Room.{room_after}
use Rattle.time.specs.Answers.{time_at, time_marked, unmarked, is_written}
use Rattle.time.specs.Clock.{clock_of, local_of}
use Rattle.time.specs.Header.{size_of, header_bytes, header_sign, header_written, sign_byte, whole_minutes, smallest_time, largest_time, cut_to_minutes}
use Rattle.time.specs.Range.{instant_of}
use Rattle.time.specs.Iso.{line_clock, clock_year, line_bytes, shown, iso_bytes, iso_written}
use Rattle.time.specs.Theorems.{HasHeader, is_like}
use Rattle.time.specs.declared.Time.{Time}
use Rattle.time.specs.declared.Refusal.{Refusal}
use Rattle.time.specs.declared.Refusal.TheVariants.{Offset, Room}
use Rattle.time.specs.declared.range.Instant.{Instant}
use Rattle.time.proofs.Headers.{length-header_bytes}
use Rattle.time.proofs.Isos.{WasWritten, was_written}
use Rattle.time.proofs.Minutes.{nat_abs-cut, cut_of_whole}

-- ---- the header
-- wherever a header is written, its length is `size` and that of the bytes
pub size_is_the_bytes_written : (t : Time) (room : List ℕ) (n : ℕ) → header_written t room ≡ Ok n → (n ≡ size_of t.seconds) × (n ≡ length (header_bytes t))
unfolding header_written
size_is_the_bytes_written t room n e = (size, size ∙ sym (length-header_bytes t))
  where
    same : ◌≡◌ {A = Result ℕ Refusal} (Ok (size_of t.seconds)) (Ok n) → n ≡ size_of t.seconds
    same p = cc

    clash : (r : Refusal) → Err r ≡ Ok n → n ≡ size_of t.seconds
    clash r p = let z : ◌≡◌ {A = ℕ} 0 1 = cc in absurd (omega arith)

    size : n ≡ size_of t.seconds
    size =
        by_test (leb 360000 (nat_abs t.offset)) (λ y. clash Offset (rw y at e))
        (λ m. by_test (ltb (length room) (size_of t.seconds)) (λ y. clash Room (rw (m, y) at e)) (λ k. same (rw (m, k) at e)))

-- no header of 64-bit seconds takes more than 26 bytes
pub size_at_most_26 : (z : ℤ) → SFits w64 z → size_of z ≤ 26
unfolding size_of
size_at_most_26 z f = omega (arith, length_signed_le z (nat_abs-le_of_SFits z f))

-- and the least of them takes 26
pub size_of_the_least : size_of (negsuc (2 ^ 63 - 1)) ≡ 26
unfolding size_of signed decimal digits_up_to
size_of_the_least = refl

-- a room of `size` bytes is enough: what is refused there is an offset too wide
pub header_written_if_it_fits : (t : Time) (room : List ℕ) → nat_abs t.offset < 360000 → size_of t.seconds ≤ length room → header_written t room ≡ Ok (size_of t.seconds)
unfolding header_written
header_written_if_it_fits t room h k = rw (lt-leb 360000 (nat_abs t.offset) h, le-ltb (length room) (size_of t.seconds) k)

-- so 26 bytes are enough for every header
pub room_for_every_header : (t : Time) (room : List ℕ) → SFits w64 t.seconds → length room ≡ 26 → nat_abs t.offset < 360000 → header_written t room ≡ Ok (size_of t.seconds)
room_for_every_header t room f l h = header_written_if_it_fits t room h (omega (arith, size_at_most_26 t.seconds f))

-- what a writer leaves at the front of a room: the bytes that it had to write
take_of_written : (w : Result ℕ Refusal) (n : ℕ) (b room : List ℕ) → w ≡ Ok n → n ≡ length b → take n (room_after (is_written w) b room) ≡ b
take_of_written w n b room e l = rw (e, l) (take-append_seam b (drop (length b) room))

pub header_in_room : (t : Time) (room : List ℕ) (n : ℕ) → header_written t room ≡ Ok n
    → take n (room_after (is_written (header_written t room)) (header_bytes t) room) ≡ header_bytes t
header_in_room t room n e = take_of_written (header_written t room) n (header_bytes t) room e (size_is_the_bytes_written t room n e).1

-- ---- the mark
-- offset 0 with the mark is written `-0000`
pub minus-zero-written : (z : ℤ) → header_bytes (time_marked z (pos 0) true) ≡ signed_before z (bytes " -0000")
unfolding header_bytes header_sign whole_minutes
minus-zero-written z = refl

-- beside any other offset the mark is ignored
pub mark_ignored : (t : Time) → eq_z t.offset (pos 0) ≡ false → header_bytes t ≡ header_bytes (unmarked t)
unfolding header_bytes header_sign
mark_ignored t e = rw (e, and-false t.mark)

-- answer and length do not depend on it, nor does the ISO line
pub mark_leaves_the_answer : (t : Time) (room : List ℕ) → header_written t room ≡ header_written (unmarked t) room
unfolding header_written
mark_leaves_the_answer t room = refl

pub iso_ignores_the_mark : (t : Time) (room : List ℕ) → (iso_bytes t ≡ iso_bytes (unmarked t)) × (iso_written t room ≡ iso_written (unmarked t) room)
unfolding iso_bytes iso_written shown
iso_ignores_the_mark t room = (refl, refl)

-- ---- `Time::MIN` and `Time::MAX`
-- no time that a header can carry has smaller seconds or a smaller offset than `Time::MIN`, which is one itself
pub MIN_is_least : HasHeader smallest_time × ((t : Time) → HasHeader t → (smallest_time.seconds ≤ℤ t.seconds) × (smallest_time.offset ≤ℤ t.offset))
MIN_is_least = (
  record { seconds = record { sfits = omega arith }; offset = omega arith },
  (λ t h. ((param w64 h.seconds).within.low, (In_of_nat_abs 359999 t.offset (omega (arith, h.offset))).low)),
)

-- nor larger ones than `Time::MAX`
pub MAX_is_most : HasHeader largest_time × ((t : Time) → HasHeader t → (t.seconds ≤ℤ largest_time.seconds) × (t.offset ≤ℤ largest_time.offset))
MAX_is_most = (
  record { seconds = record { sfits = omega arith }; offset = omega arith },
  (λ t h. ((param w64 h.seconds).within.high, (In_of_nat_abs 359999 t.offset (omega (arith, h.offset))).high)),
)

-- ---- the ISO line
pub iso_line_is_25_bytes : (t : Time) → length (iso_bytes t) ≡ 25
unfolding iso_bytes line_bytes
iso_line_is_25_bytes t = refl

-- and what the writer leaves at the front of a room is the line
pub line_in_room : (t : Time) (room : List ℕ) (n : ℕ) → iso_written t room ≡ Ok n
    → take n (room_after (is_written (iso_written t room)) (iso_bytes t) room) ≡ iso_bytes t
unfolding iso_written
line_in_room t room n e = take_of_written (iso_written t room) n (iso_bytes t) room e ((was_written (shown t) room n e).length ∙ sym (iso_line_is_25_bytes t))

pub is_sign-sign_byte : (z : ℤ) → is_sign (sign_byte z) ≡ true
unfolding is_sign sign_byte
is_sign-sign_byte (pos n) = refl
is_sign-sign_byte (negsuc n) = refl

-- every clock shows a day of a month and a second of a day
clock_day : (i : Instant) → (clock_of i).date.day < 31
unfolding clock_of
clock_day i = IsDate-day-lt (IsDate_of_date_of {x = date_of (local_of i / 86400)} refl)

clock_second : (i : Instant) → (clock_of i).second < 86400
unfolding clock_of
clock_second i = omega arith

line_has_its_shape : (t : Time) {n : ℕ} → WasWritten t n → is_like (bytes "0000-00-00T00:00:00+00:00") (line_bytes t) ≡ true
unfolding line_bytes whole_minutes
line_has_its_shape t w =
    let c = line_clock t in
    let y = clock_year c - 10000 in
    let m = nat_abs t.offset / 60 in
    let o : m / 60 < 100 = omega (arith, w.narrow) in
    let h : c.second / 3600 < 100 = omega (arith, clock_second (instant_of t)) in
    let d : c.date.day + 1 < 100 = omega (arith, clock_day (instant_of t)) in
    let yy : y / 100 < 100 = omega (arith, w.year_high) in
    rw (
      tens (y / 100) yy,
      ones (y / 100),
      tens (y % 100) (omega arith),
      ones (y % 100),
      tens (c.date.month % 12 + 1) (omega arith),
      ones (c.date.month % 12 + 1),
      tens (c.date.day + 1) d,
      ones (c.date.day + 1),
      tens (c.second / 3600) h,
      ones (c.second / 3600),
      tens (c.second / 60 % 60) (omega arith),
      ones (c.second / 60 % 60),
      tens (c.second % 60) (omega arith),
      ones (c.second % 60),
      is_sign-sign_byte t.offset,
      tens (m / 60) o,
      ones (m / 60),
      tens (m % 60) (omega arith),
      ones (m % 60),
    )

pub iso_line_has_its_shape : (t : Time) (room : List ℕ) (n : ℕ) → iso_written t room ≡ Ok n → is_like (bytes "0000-00-00T00:00:00+00:00") (iso_bytes t) ≡ true
unfolding iso_bytes iso_written
iso_line_has_its_shape t room n e = line_has_its_shape (shown t) (was_written (shown t) room n e)

-- its offset is never `-00:00`, whatever the time
pub iso_line_never_minus-zero : (t : Time) → drop 19 (iso_bytes t) ≡ bytes "-00:00" → ⊥
unfolding iso_bytes line_bytes shown whole_minutes sign_byte
iso_line_never_minus-zero t e =
    let o : ℤ = cut_to_minutes t.offset in
    let byte : (k : ℕ) → get_or (drop 19 (iso_bytes t)) k 0 ≡ get_or (bytes "-00:00") k 0 = λ k. ap (λ (l : List ℕ). get_or l k 0) e in
    let zero : nat_abs o ≡ 0 = omega (arith, nat_abs-cut t.offset, byte 1, byte 2, byte 4, byte 5) in
    omega (arith, byte 0, plus o zero)
  where
    plus : (o : ℤ) → nat_abs o ≡ 0 → sign_byte o ≡ 43
    plus (pos n) h = refl
    plus (negsuc n) h = absurd (omega arith)

-- and the line of the time that it shows is the same line
pub iso_line_again : (t : Time) → iso_bytes (time_at t.seconds (cut_to_minutes t.offset)) ≡ iso_bytes t
unfolding iso_bytes shown
iso_line_again t = ap (λ (o : ℤ). line_bytes (time_at t.seconds o)) (cut_of_whole (cut_to_minutes t.offset) (omega (arith, nat_abs-cut t.offset)))
