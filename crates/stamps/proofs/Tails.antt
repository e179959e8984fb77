-- The tail of a stamp, which is what follows its seconds (RULES 13.5). In order: its tests at a place of a text; a text that is
-- too short; the tail that is written for a time has its offset, and its mark if that counts; a tail with an offset and a mark is the one
-- that is written for them.
-- Assumes nothing.
use mathlib.Core.Path.{◌≡◌, refl, sym, ap, ◌∙◌}
use Rattle.std.specs.Prelude.{None, Some}
use mathlib.Core.Bool.{Bool, true, false, cond, ◌&&◌, and-false, or-false}
use mathlib.Core.List.{List, [], ◌∷◌, ◌++◌}
use Prim.Native.Char.{code}
use Prim.Native.Nat.{ℕ, zero, suc, ◌+◌, ◌*◌, ◌/◌, ◌%◌, ◌<◌}
use native.Mathlib.Omega.{arith}
use borrow.Author.Tests.{eqb-true, eq-eqb, lt-ltb, ltb-true}
use lib.Dec.{ltb, eqb, eqb-suc-zero}
use lib.IntN.{ℤ, pos, negsuc, neg_ℤ, nat_abs}
use lib.ListN.{length, drop, get_or}
use lib.Seq.{drop-drop}
use Rattle.text.specs.Bytes.{is_digit, is_sign}
use Rattle.text.specs.Decimal.{two_before}
use Rattle.text.proofs.Lists.{by_test, both, get_or_of_length-le}
use Rattle.text.proofs.Numbers.{digit_range, is_digit_of_le}
use Rattle.time.specs.Answers.{time_marked}
use Rattle.time.specs.Header.{offset_bytes, header_sign, is_minus_zero, sign_byte, whole_minutes, space}
use Rattle.time.specs.declared.Time.{Time}
use Rattle.header.specs.Held.{two_digits}
use Rattle.stamps.specs.Stamps.{is_whole_minutes}
use Rattle.stamps.specs.Held.{clock_size, tail_with, four_digits, ends_here, is_tail, tail_of}
use Rattle.stamps.specs.declared.stamp.Tail.{Tail}

-- the tail with these two fields
abbrev pub tail_at : ℤ → Bool → Tail
tail_at o m = record { offset = o; mark = m }

all_five : (a b c d e : Bool) → (a && b && c && d && e) ≡ true → (a ≡ true) × (b ≡ true) × (c ≡ true) × (d ≡ true) × (e ≡ true)
all_five a b c d e k =
    let four = both (a && b && c && d) e k in
    let three = both (a && b && c) d four.0 in
    let two = both (a && b) c three.0 in
    let one = both a b two.0 in
    (one.0, one.1, two.1, three.1, four.1)

-- ---- its tests
pub tail_of_of_tests : (s : List ℕ) → is_tail s ≡ true
    → tail_of s ≡ Some (tail_with (eqb (get_or s 1 0) (code "-")) (clock_size (get_or s 2 0) (get_or s 3 0) (get_or s 4 0) (get_or s 5 0)))
unfolding tail_of
tail_of_of_tests s e = rw e

pub tail_of_of_no_test : (s : List ℕ) → is_tail s ≡ false → tail_of s ≡ None
unfolding tail_of
tail_of_of_no_test s e = rw e

-- the end of the line behind a tail that begins at a place
pub ends_behind_tail : (s d : List ℕ) (at : ℕ) → d ≡ drop at s → ends_here (drop (at + 6) s) ≡ ends_here (drop 6 d)
ends_behind_tail s d at e = ap ends_here (sym (drop-drop 6 at s) ∙ ap (drop 6) (sym e))

-- ---- a text that is too short
pub tail_of_of_length : (s : List ℕ) → length s < 6 → tail_of s ≡ None
unfolding tail_of is_tail is_digit
tail_of_of_length s h =
    rw (
      get_or_of_length-le s 5 (omega arith),
      and-false (is_digit (get_or s 4 0)),
      and-false (is_digit (get_or s 2 0) && is_digit (get_or s 3 0)),
      and-false (eqb (get_or s 0 0) (code " ") && is_sign (get_or s 1 0)),
    )

-- ---- the tail that is written for a time
abbrev pub tail_bytes : Time → List ℕ
tail_bytes t = space ∷ offset_bytes (header_sign t) (whole_minutes t.offset)

-- whole minutes are their digits' hours and minutes
module _ (n : ℕ) (h : n < 360000) (w : n % 60 ≡ 0) where
  abbrev hours : ℕ
  hours = n / 60 / 60

  abbrev minutes : ℕ
  minutes = n / 60 % 60

  clock_size-digits : clock_size (48 + hours / 10) (48 + hours % 10) (48 + minutes / 10) (48 + minutes % 10) ≡ n
  clock_size-digits = omega arith

  four_digits-digits : four_digits (48 + hours / 10) (48 + hours % 10) (48 + minutes / 10) (48 + minutes % 10) ≡ true
  four_digits-digits =
      rw (
        is_digit_of_le (48 + hours / 10) (omega arith) (omega arith),
        is_digit_of_le (48 + hours % 10) (omega arith) (omega arith),
        is_digit_of_le (48 + minutes / 10) (omega arith) (omega arith),
        is_digit_of_le (48 + minutes % 10) (omega arith) (omega arith),
      )

  minutes_lt : ltb (48 + minutes / 10) (code "6") ≡ true
  minutes_lt = lt-ltb (48 + minutes / 10) (code "6") (omega arith)

pub tail_of-tail_bytes : (z o : ℤ) (m : Bool) (t : List ℕ) → nat_abs o < 360000 → is_whole_minutes o ≡ true → ends_here t ≡ true
    → tail_of (tail_bytes (time_marked z o m) ++ t) ≡ Some (tail_at o (is_minus_zero (time_marked z o m)))
unfolding tail_of is_tail tail_with is_sign is_digit header_sign sign_byte whole_minutes is_whole_minutes
tail_of-tail_bytes z (pos zero) true t h w e = rw e
tail_of-tail_bytes z (pos zero) false t h w e = rw e
tail_of-tail_bytes z (pos (suc n)) m t h w e =
    let k = eqb-true (suc n % 60) 0 w in
    rw (eqb-suc-zero, and-false m, four_digits-digits (suc n) h k, minutes_lt (suc n) h k, e, clock_size-digits (suc n) h k)
tail_of-tail_bytes z (negsuc n) m t h w e =
    let k = eqb-true (suc n % 60) 0 w in
    rw (and-false m, four_digits-digits (suc n) h k, minutes_lt (suc n) h k, e, clock_size-digits (suc n) h k, eqb-suc-zero)

-- ---- a tail with an offset and a mark
-- the size and the sign of the offset, and the mark, which is set only beside 0
plus_of_is_sign : (b : ℕ) → is_sign b ≡ true → eqb b (code "-") ≡ false → b ≡ code "+"
unfolding is_sign
plus_of_is_sign b e m = eqb-true b (code "+") (rw (m, or-false) at e)

record WithSign (b n : ℕ) (t : Time) : Type 0 where
  size_is : nat_abs t.offset ≡ n
  sign_is : header_sign t ≡ b
  settled_is : t.mark ≡ is_minus_zero t

with_sign : (b n : ℕ) (z : ℤ) → is_sign b ≡ true → WithSign b n (time_marked z (cond (eqb b (code "-")) (neg_ℤ (pos n)) (pos n)) (eqb b (code "-") && eqb n 0))
unfolding header_sign sign_byte
with_sign b zero z e =
    by_test (eqb b (code "-")) (λ m. rw m (record { size_is = refl; sign_is = sym (eqb-true b (code "-") m); settled_is = refl }))
    (λ m. rw m (record { size_is = refl; sign_is = sym (plus_of_is_sign b e m); settled_is = refl }))
with_sign b (suc n) z e =
    by_test (eqb b (code "-")) (λ m. rw (m, eqb-suc-zero) (record { size_is = refl; sign_is = sym (eqb-true b (code "-") m); settled_is = refl }))
    (λ m. rw m (record { size_is = refl; sign_is = sym (plus_of_is_sign b e m); settled_is = refl }))

with_sign_of_tail_with : (b n : ℕ) (z o : ℤ) (m : Bool) → is_sign b ≡ true → tail_with (eqb b (code "-")) n ≡ tail_at o m → WithSign b n (time_marked z o m)
unfolding tail_with
with_sign_of_tail_with b n z o m e k =
    let size : cond (eqb b (code "-")) (neg_ℤ (pos n)) (pos n) ≡ o = ap (λ (t : Tail). t.offset) k in
    let mark : (eqb b (code "-") && eqb n 0) ≡ m = ap (λ (t : Tail). t.mark) k in
    rw (← size, ← mark) (with_sign b n z e)

-- its digits
module _ (h m : ℕ) (l : m < 60) where
  hours_of_size : (h * 3600 + m * 60) / 60 / 60 ≡ h
  hours_of_size = omega arith

  minutes_of_size : (h * 3600 + m * 60) / 60 % 60 ≡ m
  minutes_of_size = omega arith

two_before-two_digits : (a b : ℕ) (t : List ℕ) → is_digit a ≡ true → is_digit b ≡ true → two_before (two_digits a b) t ≡ a ∷ b ∷ t
two_before-two_digits a b t d e =
    let k = digit_range a d in
    let m = digit_range b e in
    let p : 48 + two_digits a b / 10 ≡ a = omega arith in
    let q : 48 + two_digits a b % 10 ≡ b = omega arith in
    λ i. p i ∷ q i ∷ t

-- the tail of a time at the front of a text
pub record HasTail (s : List ℕ) (t : Time) : Type 0 where
  pub bytes_are : s ≡ tail_bytes t ++ drop 6 s
  pub ends : ends_here (drop 6 s) ≡ true
  pub whole : is_whole_minutes t.offset ≡ true
  pub small : nat_abs t.offset < 360000
  pub settled_is : t.mark ≡ is_minus_zero t

module _ (a b h hh m mm : ℕ) (t : List ℕ) (z o : ℤ) (mark : Bool) where
  abbrev time : Time
  time = time_marked z o mark

  abbrev text : List ℕ
  text = a ∷ b ∷ h ∷ hh ∷ m ∷ mm ∷ t

  module _ (u : (is_digit h ≡ true) × (is_digit hh ≡ true)) (v : (is_digit m ≡ true) × (is_digit mm ≡ true)) (l : two_digits m mm < 60) (size : nat_abs o ≡ clock_size h hh m mm) where
    hours_are : nat_abs o / 60 / 60 ≡ two_digits h hh
    hours_are = ap (λ (n : ℕ). n / 60 / 60) size ∙ hours_of_size (two_digits h hh) (two_digits m mm) l

    minutes_are : nat_abs o / 60 % 60 ≡ two_digits m mm
    minutes_are = ap (λ (n : ℕ). n / 60 % 60) size ∙ minutes_of_size (two_digits h hh) (two_digits m mm) l

    tail_bytes_of_digits : a ≡ code " " → header_sign time ≡ b → text ≡ tail_bytes time ++ t
    unfolding whole_minutes
    tail_bytes_of_digits e k =
        sym ((λ i. sym e i ∷ k i ∷ two_before (hours_are i) (two_before (minutes_are i) t))
        ∙ ap (λ (w : List ℕ). a ∷ b ∷ w) (two_before-two_digits h hh (two_before (two_digits m mm) t) u.0 u.1)
        ∙ ap (λ (w : List ℕ). a ∷ b ∷ h ∷ hh ∷ w) (two_before-two_digits m mm t v.0 v.1))

  HasTail_of_digits : a ≡ code " " → is_sign b ≡ true → four_digits h hh m mm ≡ true → m < code "6" → ends_here t ≡ true → tail_with (eqb b (code "-")) (clock_size h hh m mm) ≡ tail_at o mark → HasTail text time
  unfolding is_whole_minutes
  HasTail_of_digits x e d l n k =
      let p = both (is_digit h && is_digit hh) (is_digit m && is_digit mm) d in
      let u = both (is_digit h) (is_digit hh) p.0 in
      let v = both (is_digit m) (is_digit mm) p.1 in
      let tens = digit_range h u.0 in
      let ones = digit_range hh u.1 in
      let last = digit_range mm v.1 in
      let q = with_sign_of_tail_with b (clock_size h hh m mm) z o mark e k in
      record {
        bytes_are = tail_bytes_of_digits u v (omega arith) q.size_is x q.sign_is;
        ends = n;
        whole = eq-eqb (nat_abs o % 60) 0 (omega (arith, q.size_is));
        small = omega (arith, q.size_is);
        settled_is = q.settled_is;
      }

  HasTail_of_tests : is_tail text ≡ true → tail_of text ≡ Some (tail_at o mark) → HasTail text time
  unfolding is_tail tail_of
  HasTail_of_tests k e =
      let p = all_five (eqb a (code " ")) (is_sign b) (four_digits h hh m mm) (ltb m (code "6")) (ends_here t) k in
      let found = rw k at e in
      let tail_is : tail_with (eqb b (code "-")) (clock_size h hh m mm) ≡ tail_at o mark = cc in
      HasTail_of_digits (eqb-true a (code " ") p.0) p.1 p.2 (ltb-true m (code "6") p.3) p.4 tail_is

all_tests : (s : List ℕ) (o : ℤ) (mark : Bool) → tail_of s ≡ Some (tail_at o mark) → is_tail s ≡ true
unfolding tail_of
all_tests s o mark e = by_test (is_tail s) (λ k. k) (λ k. let q = rw k at e in let z : ◌≡◌ {A = ℕ} 0 1 = cc in absurd (omega arith))

no_tail : (s : List ℕ) (z o : ℤ) (mark : Bool) → length s < 6 → tail_of s ≡ Some (tail_at o mark) → HasTail s (time_marked z o mark)
no_tail s z o mark h e = let q = rw (tail_of_of_length s h) at e in let z : ◌≡◌ {A = ℕ} 0 1 = cc in absurd (omega arith)

pub HasTail_of_tail_of : (s : List ℕ) (z o : ℤ) (mark : Bool) → tail_of s ≡ Some (tail_at o mark) → HasTail s (time_marked z o mark)
HasTail_of_tail_of (a ∷ b ∷ h ∷ hh ∷ m ∷ mm ∷ t) z o mark e =
    HasTail_of_tests a b h hh m mm t z o mark (all_tests (a ∷ b ∷ h ∷ hh ∷ m ∷ mm ∷ t) o mark e) e
HasTail_of_tail_of [] z o mark e = no_tail [] z o mark (omega arith) e
HasTail_of_tail_of (a ∷ []) z o mark e = no_tail (a ∷ []) z o mark (omega arith) e
HasTail_of_tail_of (a ∷ b ∷ []) z o mark e = no_tail (a ∷ b ∷ []) z o mark (omega arith) e
HasTail_of_tail_of (a ∷ b ∷ h ∷ []) z o mark e = no_tail (a ∷ b ∷ h ∷ []) z o mark (omega arith) e
HasTail_of_tail_of (a ∷ b ∷ h ∷ hh ∷ []) z o mark e = no_tail (a ∷ b ∷ h ∷ hh ∷ []) z o mark (omega arith) e
HasTail_of_tail_of (a ∷ b ∷ h ∷ hh ∷ m ∷ []) z o mark e = no_tail (a ∷ b ∷ h ∷ hh ∷ m ∷ []) z o mark (omega arith) e
