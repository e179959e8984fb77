-- What the writer writes, the header reader reads back (RULES 12.2): the seconds, the offset cut toward zero to whole
-- minutes, and the mark, from the bytes of a header (`header_read_back`) and from the room that a call has written to
-- (`header_read_back_in_room`). So does the raw reader, within limits that allow the hours and minutes written
-- (`raw_read_back`), as those of rule 2 do at every offset under 24 hours (`rule_2_read_back`). In order: the seconds' word; an
-- offset's word of digits; any header of such words; hours and minutes behind a sign; what the writer writes; the raw reader.
-- Assumes nothing.
use Rattle.std.specs.Prelude.{Ok, Some}
use mathlib.Core.Path.{◌≡◌, refl, sym, ap, ◌∙◌}
use mathlib.Core.Bool.{Bool, true, false, cond, and-false}
use mathlib.Core.List.{List, [], ◌∷◌}
use Prim.Native.Char.{code}
use Prim.Native.Nat.{ℕ, zero, suc, ◌+◌, ◌*◌, ◌/◌, ◌%◌, ◌≤◌, ◌<◌}
use native.Mathlib.Omega.{arith}
use borrow.Author.Tests.{leb-true, leb-false, le-leb, lt-ltb, eqb-true, eq-eqb, ne_eqb}
use lib.Dec.{eqb, leb, eqb-suc-zero}
use lib.IntN.{ℤ, pos, negsuc, neg_ℤ, nat_abs}
use lib.ListN.{length, take}
use Rattle.ints.specs.Equal.{eq_z}
use Rattle.text.specs.Bytes.{is_space, is_sign, ascii}
use Rattle.text.specs.Words.{words}
use Rattle.text.specs.Decimal.{signed, signed_before, two_before}
use Rattle.text.specs.Room.{room_after}
use Rattle.text.proofs.Lists.{by_test}
use Rattle.text.proofs.Numbers.{is_digit_of_le}
use Rattle.text.proofs.Digits.{fit-two}
use Rattle.text.proofs.Decimals.{Between, two_before-between}
use Rattle.text.proofs.Signed.{signed_before-append, length-signed-pos, signed_before-between, signed_between, fitted_signed-signed}
use Rattle.text.proofs.Taking.{words_append, words_of_whole}
use Rattle.time.specs.Answers.{time_marked, is_written}
use Rattle.time.specs.Header.{header_bytes, header_sign, header_written, is_minus_zero, sign_byte, whole_minutes, cut_to_minutes, space}
use Rattle.time.specs.declared.Time.{Time}
use Rattle.time.proofs.Theorems.{header_in_room, is_sign-sign_byte}
use Rattle.header.specs.Offset.{five_or_seven, field_of, last_field, fields_of, offset_of, has_mark, read_time, Field, Signed, Byte}
use Rattle.header.specs.Header.{header_of, header_of_words, header_time, seconds_of, header_offset}
use Rattle.header.specs.Raw.{Limits, rule2, allows, raw_of_words, raw_of}
use Rattle.header.specs.Theorems.{Seconds64, read_back}
use Rattle.header.specs.declared.offset.Fields.{Fields}
use Rattle.text.proofs.Texts.{ascii_of_between, no_colon_of_between, whole_of_between, Between-le, signed_of-two}

-- ---- the seconds' word
seconds_of-signed : (z : ℤ) → Seconds64 z → seconds_of (signed z) ≡ Ok z
unfolding seconds_of
seconds_of-signed z r = rw (fitted_signed-signed z r)

-- ---- an offset's word of digits
abbrev pub fields_are : Bool → ℕ → ℕ → ℕ → Fields
fields_are minus h m x = record { minus = minus; hours = pos h; minutes = pos m; seconds = pos x }

pub offset_of-fields_are : (minus : Bool) (h m x n : ℕ) → h * 3600 + m * 60 + x ≡ n → offset_of (fields_are minus h m x) ≡ cond minus (neg_ℤ (pos n)) (pos n)
unfolding offset_of
offset_of-fields_are minus h m x n e = ap (λ (v : ℕ). cond minus (neg_ℤ (pos v)) (pos v)) e

module _ (b h m : ℕ) (e : is_sign b ≡ true) (k : h < 100) (l : m < 100) where
  -- with hours and minutes, by fields of either kind
  fields_of-five : (by : Field) → fields_of by (b ∷ two_before h (two_before m [])) ≡ Some (fields_are (eqb b 45) h m 0)
  unfolding fields_of field_of last_field five_or_seven
  fields_of-five Signed = rw (e, signed_of-two h k, signed_of-two m l)
  fields_of-five Byte = rw (e, fit-two h 255 k (omega arith), fit-two m 255 l (omega arith))

  header_offset-five : header_offset (b ∷ two_before h (two_before m [])) ≡ Some (fields_are (eqb b 45) h m 0)
  unfolding header_offset
  header_offset-five = rw (is_digit_of_le (48 + h / 10) (omega arith) (omega arith)) (fields_of-five Signed)

  -- and with seconds
  pub header_offset-seven : (x : ℕ) → x < 100 → header_offset (b ∷ two_before h (two_before m (two_before x []))) ≡ Some (fields_are (eqb b 45) h m x)
  unfolding header_offset fields_of field_of last_field five_or_seven
  header_offset-seven x j = rw (e, is_digit_of_le (48 + h / 10) (omega arith) (omega arith), signed_of-two h k, signed_of-two m l, signed_of-two x j)

-- ---- a header: seconds, a space, and a word of digits and signs
words_header : (z : ℤ) (w : List ℕ) → 0 < length w → Between 33 57 w → words is_space (signed_before z (32 ∷ w)) ≡ signed z ∷ w ∷ []
unfolding is_space
words_header z w h b =
    rw (
      signed_before-append z (32 ∷ w),
      words_append is_space (signed z) w 32 refl,
      words_of_whole is_space (signed z) (length-signed-pos z) (whole_of_between 57 (signed z) (signed_between 33 57 (omega arith) (omega arith) z)),
      words_of_whole is_space w h (whole_of_between 57 w b),
    )

-- and all its bytes
header_between : (z : ℤ) (w : List ℕ) → Between 33 57 w → Between 32 57 (signed_before z (32 ∷ w))
header_between z w b = signed_before-between 32 57 (omega arith) (omega arith) z (32 ∷ w) (omega arith, omega arith, Between-le 33 32 57 (omega arith) w b)

ascii_header : (z : ℤ) (w : List ℕ) → Between 33 57 w → ascii (signed_before z (32 ∷ w)) ≡ true
ascii_header z w b = ascii_of_between 32 57 (omega arith) _ (header_between z w b)

pub header_of-signed_before : (z : ℤ) (w : List ℕ) → Seconds64 z → 0 < length w → Between 33 57 w
    → header_of (signed_before z (32 ∷ w)) ≡ header_time (Ok z) (header_offset w)
unfolding header_of header_of_words
header_of-signed_before z w r h b =
    rw (ascii_header z w b, no_colon_of_between 32 _ (header_between z w b), words_header z w h b, seconds_of-signed z r)

-- ---- an offset's word: a sign, two digits of hours and two of minutes
pub sign_between : (b : ℕ) → is_sign b ≡ true → (33 ≤ b) × (b ≤ 57)
unfolding is_sign
sign_between b e =
    by_test (eqb b (code "+")) (λ k. let q = eqb-true b (code "+") k in (omega (arith, q), omega (arith, q)))
    (λ k. let q = eqb-true b (code "-") (rw k at e) in (omega (arith, q), omega (arith, q)))

pub sign_byte-between : (o : ℤ) → (33 ≤ sign_byte o) × (sign_byte o ≤ 57)
sign_byte-between o = sign_between (sign_byte o) (is_sign-sign_byte o)

pub two-between : (h : ℕ) (t : List ℕ) → h < 100 → Between 33 57 t → Between 33 57 (two_before h t)
two-between h t = two_before-between 33 57 (omega arith) (omega arith) h t

module _ (b h m : ℕ) (e : is_sign b ≡ true) (k : h < 100) (l : m < 100) where
  abbrev word : List ℕ
  word = b ∷ two_before h (two_before m [])

  word_between : Between 33 57 word
  word_between = let s = sign_between b e in (s.0, s.1, two-between h (two_before m []) k (two-between m [] l tt))

  -- a header of such a word, by the header reader and by the raw reader
  pub header_of-word : (z : ℤ) → Seconds64 z → header_of (signed_before z (space ∷ word)) ≡ Ok (read_time z (fields_are (eqb b 45) h m 0))
  header_of-word z r = header_of-signed_before z word r (omega arith) word_between ∙ rw (header_offset-five b h m e k l)

  pub raw_of-word : (i : Limits) (z : ℤ) → Seconds64 z → i.hours (pos h) ≡ true → i.minutes (pos m) ≡ true
      → raw_of i (signed_before z (space ∷ word)) ≡ Ok (read_time z (fields_are (eqb b 45) h m 0))
  unfolding raw_of raw_of_words allows
  raw_of-word i z r hours minutes =
      rw (
        ascii_header z word word_between,
        words_header z word (omega arith) word_between,
        fitted_signed-signed z r,
        fields_of-five b h m e k l Byte,
        hours,
        minutes,
      )

-- ---- what the writer writes
pub header_sign-sign : (t : Time) → is_sign (header_sign t) ≡ true
unfolding header_sign is_sign
header_sign-sign t = by_test (is_minus_zero t) (λ e. rw e) (λ e. rw e (is_sign-sign_byte t.offset))

abbrev fields_written : Time → Fields
fields_written t = fields_are (eqb (header_sign t) 45) (whole_minutes t.offset / 60) (whole_minutes t.offset % 60) 0

-- the offset of these fields, and their mark
offset_of-written : (z o : ℤ) (m : Bool) → offset_of (fields_written (time_marked z o m)) ≡ cut_to_minutes o
unfolding header_sign sign_byte cut_to_minutes whole_minutes
offset_of-written z (pos zero) true = offset_of-fields_are true 0 0 0 0 refl
offset_of-written z (pos zero) false = offset_of-fields_are false 0 0 0 0 refl
offset_of-written z (pos (suc n)) m = rw (eqb-suc-zero, and-false m) (offset_of-fields_are false (suc n / 60 / 60) (suc n / 60 % 60) 0 (suc n / 60 * 60) (omega arith))
offset_of-written z (negsuc n) m = rw (and-false m) (offset_of-fields_are true (suc n / 60 / 60) (suc n / 60 % 60) 0 (suc n / 60 * 60) (omega arith))

eq_z-neg : (n : ℕ) → eq_z (neg_ℤ (pos n)) (pos 0) ≡ eqb n 0
eq_z-neg zero = refl
eq_z-neg (suc n) = sym (eqb-suc-zero n)

mark_written : (z o : ℤ) (m : Bool) → has_mark (fields_written (time_marked z o m)) ≡ (read_back (time_marked z o m)).mark
unfolding header_sign sign_byte whole_minutes
mark_written z (pos zero) true = rw (offset_of-fields_are true 0 0 0 0 refl)
mark_written z (pos zero) false = refl
mark_written z (pos (suc n)) m = rw (eqb-suc-zero, and-false m)
mark_written z (negsuc n) m =
    let k : ℕ = suc n / 60 * 60 in
    rw (and-false m, offset_of-fields_are true (suc n / 60 / 60) (suc n / 60 % 60) 0 k (omega arith), eq_z-neg k)
    (by_test (leb n 58)
    (λ e. rw (e, le-leb 0 n (omega arith), eq-eqb k 0 (omega (arith, leb-true n 58 e))))
    (λ e. rw (e, ne_eqb k 0 (λ q. omega (arith, leb-false n 58 e)))))

read_time-written : (t : Time) → read_time t.seconds (fields_written t) ≡ read_back t
read_time-written t = λ i. time_marked t.seconds (offset_of-written t.seconds t.offset t.mark i) (mark_written t.seconds t.offset t.mark i)

-- the bytes of a header with an offset under 100 hours read back with the same seconds, the offset cut to whole minutes, and the mark
-- for offset 0 so marked and for offsets -59 to -1
pub header_read_back : (t : Time) → Seconds64 t.seconds → nat_abs t.offset < 360000 → header_of (header_bytes t) ≡ Ok (read_back t)
unfolding header_bytes whole_minutes
header_read_back t r h =
    header_of-word (header_sign t) (whole_minutes t.offset / 60) (whole_minutes t.offset % 60) (header_sign-sign t) (omega arith) (omega arith) t.seconds r
    ∙ ap Ok (read_time-written t)

-- a header is written only at an offset under 100 hours
offset-lt_of_written : (t : Time) (room : List ℕ) (n : ℕ) → header_written t room ≡ Ok n → nat_abs t.offset < 360000
unfolding header_written
offset-lt_of_written t room n e =
    by_test (leb 360000 (nat_abs t.offset)) (λ y. let k = rw y at e in let q : ◌≡◌ {A = ℕ} 0 1 = cc in absurd (omega arith))
    (λ y. omega (arith, leb-false 360000 (nat_abs t.offset) y))

-- and so does what a call that wrote n bytes has left in the first n bytes of the room
pub header_read_back_in_room : (t : Time) (room : List ℕ) (n : ℕ) → Seconds64 t.seconds → header_written t room ≡ Ok n
    → header_of (take n (room_after (is_written (header_written t room)) (header_bytes t) room)) ≡ Ok (read_back t)
header_read_back_in_room t room n r e = rw (header_in_room t room n e) (header_read_back t r (offset-lt_of_written t room n e))

-- ---- and by the raw reader, within limits that allow the hours and the minutes written
pub raw_read_back : (l : Limits) (t : Time) → Seconds64 t.seconds → nat_abs t.offset < 360000
    → l.hours (pos (whole_minutes t.offset / 60)) ≡ true → l.minutes (pos (whole_minutes t.offset % 60)) ≡ true
    → raw_of l (header_bytes t) ≡ Ok (read_back t)
unfolding header_bytes whole_minutes
raw_read_back l t r h hours minutes =
    raw_of-word (header_sign t) (whole_minutes t.offset / 60) (whole_minutes t.offset % 60) (header_sign-sign t) (omega arith) (omega arith) l t.seconds r hours minutes
    ∙ ap Ok (read_time-written t)

-- by rule 2, at every offset under 24 hours
pub rule_2_read_back : (t : Time) → Seconds64 t.seconds → nat_abs t.offset < 86400 → raw_of rule2 (header_bytes t) ≡ Ok (read_back t)
unfolding whole_minutes
rule_2_read_back t r h =
    let n = whole_minutes t.offset in
    raw_read_back rule2 t r (omega arith) (lt-ltb (n / 60) 24 (omega arith)) (lt-ltb (n % 60) 60 (omega arith))
