-- What follows the date of an ISO line, `HH:MM:SS+HH:MM`, as it is read. In order: the cut, the time, the offset; then the day of the
-- line's date and the instant of its clock.
-- Assumes nothing.
use Rattle.std.specs.Prelude.{Some}
use mathlib.Core.Path.{◌≡◌, refl, sym, ap, ◌∙◌}
use mathlib.Core.Bool.{true, false}
use mathlib.Core.List.{List, [], ◌∷◌}
use Prim.Native.Nat.{ℕ, suc, ◌+◌, ◌-◌, ◌*◌, ◌/◌, ◌%◌, ◌≤◌, ◌<◌}
use native.Mathlib.Omega.{arith}
use borrow.Author.Tests.{le-leb, lt-ltb}
use lib.Dec.{eqb}
use lib.IntN.{ℤ, pos, negsuc, neg_ℤ, nat_abs}
use lib.ListN.{length, drop}
use Rattle.text.specs.Bytes.{is_digit, is_space, is_sign}
use Rattle.text.specs.Decimal.{two_before}
use Rattle.text.specs.Number.{fit, unsigned_of}
use Rattle.text.specs.Places.{run, first_place, has, last_where, last_place}
use Rattle.text.specs.Trim.{trim_start, trim_end, trim}
use Rattle.text.specs.Words.{pieces}
use Rattle.text.proofs.Runs.{last_where-none, last_where-here, last_where-drop}
use Rattle.calendar.specs.Calendar.{IsDate, first_day, month_length}
use Rattle.calendar.specs.Dates.{exists, day_number}
use Rattle.time.specs.Header.{sign_byte, whole_minutes}
use Rattle.time.specs.Iso.{offset_before}
use Rattle.iso.specs.Parts.{without}
use Rattle.iso.specs.Cut.{ends_with_z, is_signed, is_offset, splits_at_space, sign_place, cut, time_text, offset_text}
use Rattle.iso.specs.Clock.{colon_time, iso_time}
use Rattle.iso.specs.Offset.{up_to, offset_seconds, hours_minutes, negated, iso_offset}
use Rattle.iso.proofs.Times.{clock_value}
use Rattle.text.proofs.Digits.{no_space, no_dot, no_colon, no_Z, is_sign_of_digit, is_space_of_digit, tens, ones, unsigned_of-two}
use Rattle.text.proofs.FirstPlaces.{first_place_of_Free, last_place_of_Free}
use Rattle.text.proofs.Trimming.{trim_of_ends}
use Rattle.iso.proofs.Digits.{int32-two}

-- `HH:MM:SS`, and `HH:MM` behind a sign
abbrev clock_text : ℕ → ℕ → ℕ → List ℕ → List ℕ
clock_text h m s t = two_before h (58 ∷ two_before m (58 ∷ two_before s t))

abbrev signed_text : ℕ → ℕ → ℕ → List ℕ
signed_text b a c = b ∷ two_before a (58 ∷ two_before c [])

-- ---- the time
module _ (h m s : ℕ) (p : h ≤ 23) (q : m ≤ 59) (r : s ≤ 59) where
  h< : h < 100
  h< = omega arith

  m< : m < 100
  m< = omega arith

  s< : s < 100
  s< = omega arith

  fit-two : (n limit : ℕ) → n < 100 → n ≤ limit → fit limit (unsigned_of (two_before n [])) ≡ Some n
  unfolding fit
  fit-two n limit k l = ap (fit limit) (unsigned_of-two n k) ∙ rw (le-leb n limit l)

  pub iso_time-clock_text : iso_time (clock_text h m s []) ≡ Some (h * 3600 + m * 60 + s)
  unfolding iso_time has first_place run pieces colon_time
  iso_time-clock_text =
      rw (no_colon (48 + h / 10) (tens h h<), no_colon (48 + h % 10) (ones h), no_colon (48 + m / 10) (tens m m<), no_colon (48 + m % 10) (ones m), no_colon (48 + s / 10) (tens s s<), no_colon (48 + s % 10) (ones s))
      (sym (clock_value (two_before h []) (two_before m []) (two_before s []) (fit-two h 23 h< p) (fit-two m 59 m< q) (fit-two s 59 s< r)))

  -- ---- the cut, of a time with an offset behind it
  module _ (b a c : ℕ) (sign : is_sign b ≡ true) (space : is_space b ≡ false) (other : eqb b 32 ≡ false) (k : a < 100) (l : c < 100) where
    abbrev tail : List ℕ
    tail = clock_text h m s (signed_text b a c)

    pub trim_tail : trim tail ≡ tail
    trim_tail =
        trim_of_ends (48 + h / 10)
        ((48 + h % 10) ∷ 58 ∷ two_before m (58 ∷ two_before s (b ∷ two_before a (58 ∷ (48 + c / 10) ∷ []))))
        (48 + c % 10) (is_space_of_digit (48 + h / 10) (tens h h<)) (is_space_of_digit (48 + c % 10) (ones c))

    no_space_in : last_place 32 tail ≡ 14
    no_space_in =
        last_place_of_Free 32 tail
        (no_space (48 + h / 10) (tens h h<), (no_space (48 + h % 10) (ones h), (refl, (no_space (48 + m / 10) (tens m m<), (no_space (48 + m % 10) (ones m), (refl, (no_space (48 + s / 10) (tens s s<), (no_space (48 + s % 10) (ones s), (other, (no_space (48 + a / 10) (tens a k), (no_space (48 + a % 10) (ones a), (refl, (no_space (48 + c / 10) (tens c l), (no_space (48 + c % 10) (ones c), tt))))))))))))))

    -- there is no other sign behind it
    digit_opens : (x : ℕ) (t : List ℕ) → is_digit x ≡ true → is_offset (x ∷ t) ≡ false
    unfolding is_offset
    digit_opens x [] e = refl
    digit_opens x (d ∷ t) e = rw (is_sign_of_digit x e)

    colon_opens : (t : List ℕ) → is_offset (58 ∷ t) ≡ false
    unfolding is_offset is_sign
    colon_opens [] = refl
    colon_opens (d ∷ t) = refl

    sign_opens : is_offset (signed_text b a c) ≡ true
    unfolding is_offset
    sign_opens = rw (sign, tens a k)

    none_behind : last_where is_offset (two_before a (58 ∷ two_before c [])) ≡ 5
    unfolding last_where
    none_behind =
        let t1 : List ℕ = (48 + c % 10) ∷ [] in
        let t2 : List ℕ = (48 + c / 10) ∷ t1 in
        let t3 : List ℕ = 58 ∷ t2 in
        let t4 : List ℕ = (48 + a % 10) ∷ t3 in
        let n1 = last_where-none is_offset (48 + c % 10) [] refl (digit_opens (48 + c % 10) [] (ones c)) in
        let n2 = last_where-none is_offset (48 + c / 10) t1 n1 (digit_opens (48 + c / 10) t1 (tens c l)) in
        let n3 = last_where-none is_offset 58 t2 n2 (colon_opens t2) in
        let n4 = last_where-none is_offset (48 + a % 10) t3 n3 (digit_opens (48 + a % 10) t3 (ones a)) in
        last_where-none is_offset (48 + a / 10) t4 n4 (digit_opens (48 + a / 10) t4 (tens a k))

    sign_at : last_where is_offset tail ≡ 8
    sign_at =
        let here : last_where is_offset (drop 8 tail) ≡ 0 = last_where-here is_offset b (two_before a (58 ∷ two_before c [])) none_behind sign_opens in
        let less : last_where is_offset (drop 8 tail) < length (drop 8 tail) = omega arith in
        omega (arith, last_where-drop is_offset tail 8 less)

    cut_tail : cut tail ≡ 8
    unfolding cut ends_with_z splits_at_space sign_place is_signed trim trim_start trim_end
    cut_tail = rw (no_Z (48 + c % 10) (ones c), no_space_in, sign_at)

    pub time_text-tail : time_text tail ≡ clock_text h m s []
    unfolding time_text
    time_text-tail =
        rw (
          cut_tail,
          first_place_of_Free 46 (clock_text h m s [])
              (no_dot (48 + h / 10) (tens h h<), (no_dot (48 + h % 10) (ones h), (refl, (no_dot (48 + m / 10) (tens m m<), (no_dot (48 + m % 10) (ones m), (refl, (no_dot (48 + s / 10) (tens s s<), (no_dot (48 + s % 10) (ones s), tt)))))))),
        )
        (trim_of_ends (48 + h / 10) ((48 + h % 10) ∷ 58 ∷ two_before m (58 ∷ (48 + s / 10) ∷ [])) (48 + s % 10) (is_space_of_digit (48 + h / 10) (tens h h<)) (is_space_of_digit (48 + s % 10) (ones s)))

    pub offset_text-tail : offset_text tail ≡ signed_text b a c
    unfolding offset_text
    offset_text-tail = rw cut_tail (trim_of_ends b (two_before a (58 ∷ (48 + c / 10) ∷ [])) (48 + c % 10) space (is_space_of_digit (48 + c % 10) (ones c)))

-- ---- the offset
module _ (a c : ℕ) (p : a ≤ 23) (q : c ≤ 59) where
  hours_minutes_without : hours_minutes (without 58 (two_before a (58 ∷ two_before c []))) ≡ Some (pos (a * 3600 + c * 60))
  unfolding hours_minutes without offset_seconds up_to
  hours_minutes_without =
      let k : a < 100 = omega arith in
      let l : c < 100 = omega arith in
      rw (no_colon (48 + a / 10) (tens a k), no_colon (48 + a % 10) (ones a), no_colon (48 + c / 10) (tens c l), no_colon (48 + c % 10) (ones c), int32-two a k, int32-two c l, le-leb a 23 p, le-leb c 59 q)

pub iso_offset-line : (o : ℤ) → nat_abs o < 86400 → nat_abs o % 60 ≡ 0 → iso_offset (offset_before o []) ≡ Some o
unfolding iso_offset sign_byte whole_minutes negated
iso_offset-line (pos n) h e =
    let k : n / 60 / 60 * 3600 + n / 60 % 60 * 60 ≡ n = omega arith in
    hours_minutes_without (n / 60 / 60) (n / 60 % 60) (omega arith) (omega arith) ∙ ap (λ (x : ℕ). Some (pos x)) k
iso_offset-line (negsuc n) h e =
    let k : suc n / 60 / 60 * 3600 + suc n / 60 % 60 * 60 ≡ suc n = omega arith in
    ap negated (hours_minutes_without (suc n / 60 / 60) (suc n / 60 % 60) (omega arith) (omega arith)) ∙ ap (λ (x : ℕ). Some (neg_ℤ (pos x))) k

-- ---- the day of a date, as it is written
pub day_number_of_IsDate : {d m k : ℕ} → IsDate d m k → m < 240000 → day_number (m / 12) (m % 12 + 1) (k + 1) ≡ Some d
unfolding day_number exists
day_number_of_IsDate {d} {m} {k} p h =
    let y : m / 12 < 20000 = omega arith in
    let e : m / 12 * 12 + (m % 12 + 1 - 1) ≡ m = omega arith in
    let l : k + 1 ≤ month_length m = omega (arith, p.within) in
    let o : 1 ≤ m % 12 + 1 = omega arith in
    let n : m % 12 + 1 ≤ 12 = omega arith in
    let q : 1 ≤ k + 1 = omega arith in
    let s : first_day m + (k + 1 - 1) ≡ d = omega (arith, p.sum) in
    rw (e, lt-ltb (m / 12) 20000 y, le-leb 1 (m % 12 + 1) o, le-leb (m % 12 + 1) 12 n, le-leb 1 (k + 1) q, le-leb (k + 1) (month_length m) l) (ap Some s)
