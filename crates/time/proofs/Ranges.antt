-- The range, in signed numbers and in numbers from 0. In order: seconds from 0 are in range exactly between two numbers; an instant as
-- an answer; the move to numbers from 0; a time in range moved so and back is itself, but for its mark; its local clock.
-- Assumes nothing.
use Rattle.std.specs.Prelude.{Err, None, Ok, Some}
use mathlib.Core.Path.{◌≡◌, sym, ap, ◌∙◌}
use mathlib.Core.Bool.{Bool, true, false, ◌&&◌}
use Prim.Native.Nat.{ℕ, ◌-◌, ◌≤◌}
use native.Mathlib.Omega.{arith}
use borrow.Author.Tests.{le-leb, leb-true}
use lib.Dec.{leb}
use lib.IntN.{pos, negsuc, neg_ℤ, ◌+ℤ◌, ◌-ℤ◌}
use lib.Signed.{◌≤ℤ◌}
use Rattle.ints.specs.Range.{In}
use Rattle.ints.proofs.Parts.{add_parts, up_neg, dn-neg, parts-eq, eq-parts, le_parts, parts-le, nat_abs-add-sub}
use Rattle.ints.proofs.Machine.{le_z-sub-sub, In_of_is_in}
use Rattle.text.proofs.Lists.{both}
use Rattle.time.specs.Answers.{unmarked}
use Rattle.time.specs.Clock.{local_of}
use Rattle.time.specs.Range.{least_seconds, most_seconds, seconds_in_range, least_offset, most_offset, offset_in_range, time_in_range, since1970, time_of, instant_of, moved_of, answer_at, InRange}
use Rattle.time.specs.declared.Time.{Time}
use Rattle.time.specs.declared.Refusal.TheVariants.{Range}
use Rattle.time.specs.declared.range.Instant.{Instant}

-- seconds from 0 are in range from 31715999 to 631138946400
pub seconds_in_range-since1970 : (n : ℕ) → seconds_in_range (since1970 n) ≡ (leb 31715999 n && leb n 631138946400)
unfolding seconds_in_range
seconds_in_range-since1970 n = rw (le_z-sub-sub 31715999 n 377736739200, le_z-sub-sub n 631138946400 377736739200)

pub range_of_seconds_in_range : (n : ℕ) → seconds_in_range (since1970 n) ≡ true → (31715999 ≤ n) × (n ≤ 631138946400)
range_of_seconds_in_range n e =
    let p = both (leb 31715999 n) (leb n 631138946400) (rw (seconds_in_range-since1970 n) at e) in
    (leb-true 31715999 n p.0, leb-true n 631138946400 p.1)

-- and offsets from 1 to 187199
offset_in_range-sub : (n : ℕ) → offset_in_range (pos n -ℤ pos 93600) ≡ (leb 1 n && leb n 187199)
unfolding offset_in_range
offset_in_range-sub n = rw (le_z-sub-sub 1 n 93600, le_z-sub-sub n 187199 93600)

offset_range : (o : ℕ) → offset_in_range (pos o -ℤ pos 93600) ≡ true → (1 ≤ o) × (o ≤ 187199)
offset_range o e =
    let p = both (leb 1 o) (leb o 187199) (rw (offset_in_range-sub o) at e) in
    (leb-true 1 o p.0, leb-true o 187199 p.1)

-- n seconds earlier
pub since1970-sub : (t n : ℕ) → n ≤ t → since1970 (t - n) ≡ since1970 t -ℤ pos n
since1970-sub t n h =
    parts-eq _ _ (omega (
      arith,
      add_parts (since1970 t) (neg_ℤ (pos n)),
      add_parts (pos t) (negsuc 377736739199),
      add_parts (pos (t - n)) (negsuc 377736739199),
      up_neg (pos n),
      dn-neg (pos n),
    ))

-- ---- an instant as an answer
module _ (i : Instant) where
  -- the test of the code: p is the answer for the seconds
  pub time_in_range-time_of : {p : Bool} → p ≡ seconds_in_range (since1970 i.seconds) → (p && (leb 1 i.offset && leb i.offset 187199)) ≡ time_in_range (time_of i)
  unfolding time_in_range
  time_in_range-time_of e = rw (e, offset_in_range-sub i.offset)

  pub answer_at_of_in : time_in_range (time_of i) ≡ true → answer_at i ≡ Ok (time_of i)
  unfolding answer_at
  answer_at_of_in e = rw e

  pub answer_at_of_out : time_in_range (time_of i) ≡ false → answer_at i ≡ Err Range
  unfolding answer_at
  answer_at_of_out e = rw e

  pub answer_at_of_InRange : InRange i → answer_at i ≡ Ok (time_of i)
  answer_at_of_InRange p =
      answer_at_of_in
      (sym (time_in_range-time_of (sym (seconds_in_range-since1970 i.seconds)))
      ∙ rw (le-leb 31715999 i.seconds p.early, le-leb i.seconds 631138946400 p.late, le-leb 1 i.offset p.west, le-leb i.offset 187199 p.east))

  pub InRange_of_time_of : time_in_range (time_of i) ≡ true → InRange i
  unfolding time_in_range
  InRange_of_time_of e =
      let p = both (seconds_in_range (since1970 i.seconds)) (offset_in_range (pos i.offset -ℤ pos 93600)) e in
      let s = range_of_seconds_in_range i.seconds p.0 in
      let o = offset_range i.offset p.1 in
      record { early = s.0; late = s.1; west = o.0; east = o.1 }

-- ---- what is moved
-- the test of the code: p is the answer for the seconds, q that for the offset
module _ (t : Time) {p q : Bool} (e : p ≡ seconds_in_range t.seconds) (f : q ≡ offset_in_range t.offset) where
  pub seconds_of_test : (p && q) ≡ true → In least_seconds most_seconds t.seconds
  unfolding seconds_in_range
  seconds_of_test h = In_of_is_in least_seconds most_seconds t.seconds (sym e ∙ (both p q h).0)

  pub offset_of_test : (p && q) ≡ true → In least_offset most_offset t.offset
  unfolding offset_in_range
  offset_of_test h = In_of_is_in least_offset most_offset t.offset (sym f ∙ (both p q h).1)

  pub moved_of_in : (p && q) ≡ true → moved_of t ≡ Some (instant_of t)
  unfolding moved_of time_in_range
  moved_of_in h = rw (← e, ← f, h)

  pub moved_of-out : (p && q) ≡ false → moved_of t ≡ None
  unfolding moved_of time_in_range
  moved_of-out h = rw (← e, ← f, h)

-- ---- a time in range, as numbers from 0 and back: its mark is lost
pub time_of-instant_of : (t : Time) → time_in_range t ≡ true → time_of (instant_of t) ≡ unmarked t
unfolding time_in_range seconds_in_range offset_in_range
time_of-instant_of t e =
    let p = both (seconds_in_range t.seconds) (offset_in_range t.offset) e in
    let s = In_of_is_in least_seconds most_seconds t.seconds p.0 in
    let o = In_of_is_in least_offset most_offset t.offset p.1 in
    let a : pos 0 ≤ℤ (t.seconds +ℤ pos 377736739200) = parts-le _ _ (omega (arith, le_parts s.low, add_parts t.seconds (pos 377736739200))) in
    let b : pos 0 ≤ℤ (t.offset +ℤ pos 93600) = parts-le _ _ (omega (arith, le_parts o.low, add_parts t.offset (pos 93600))) in
    λ i. record { seconds = nat_abs-add-sub t.seconds 377736739200 a i; offset = nat_abs-add-sub t.offset 93600 b i; mark = false }

-- the seconds that its local clock shows, as a signed number
pub local_of-instant_of : (t : Time) → time_in_range t ≡ true → pos (local_of (instant_of t)) ≡ t.seconds +ℤ t.offset +ℤ pos 377736739200
unfolding time_in_range
local_of-instant_of t e =
    let i : Instant = instant_of t in
    let b = time_of-instant_of t e in
    let r = InRange_of_time_of i (ap time_in_range b ∙ e) in
    parts-eq _ _ (omega (
      arith,
      r.early,
      eq-parts (ap (λ (x : Time). x.seconds) b),
      eq-parts (ap (λ (x : Time). x.offset) b),
      add_parts (pos i.seconds) (negsuc 377736739199),
      add_parts (pos i.offset) (negsuc 93599),
      add_parts t.seconds t.offset,
      add_parts (t.seconds +ℤ t.offset) (pos 377736739200),
    ))
