-- The time. In order: a part that is fitted to 32 bits and then to its limit; the clock by its three parts; its range; with
-- colons and without.
-- Assumes nothing.
use Rattle.std.specs.Prelude.{None, Option, Some}
use mathlib.Core.Path.{◌≡◌}
use mathlib.Core.List.{List, ◌∷◌}
use Prim.Native.Nat.{ℕ, ◌+◌, ◌-◌, ◌*◌, ◌^◌, ◌≤◌, ◌<◌}
use native.Mathlib.Omega.{arith}
use borrow.Author.Tests.{leb-true, leb-false, lt-ltb, le-ltb}
use lib.Dec.{leb}
use lib.ListN.{length, take, drop}
use lib.Seq.{take_all}
use Rattle.text.specs.Number.{fit, unsigned_of}
use Rattle.text.specs.Places.{first_place, before, has}
use Rattle.text.specs.Quote.{bytes}
use Rattle.text.specs.Words.{pieces}
use Rattle.text.proofs.Lists.{by_test, take-length-sub-drop}
use Rattle.text.proofs.Numbers.{fit_fit}
use Rattle.iso.specs.Clock.{time_part, second_of, clock, is_colon, colon_time, plain_time, iso_time}
use Rattle.text.proofs.FirstPlaces.{pieces_of_lt, pieces_of_le}

-- ---- a part
-- what fits the smaller limit fits the larger one too, so no part is lost by reading it up to its limit at once
time_part-fit : (limit : ℕ) (s : List ℕ) → limit ≤ 2 ^ 32 - 1 → time_part limit s ≡ fit limit (unsigned_of s)
unfolding time_part
time_part-fit limit s h = fit_fit limit (2 ^ 32 - 1) (unsigned_of s) h

-- ---- the clock
module _ (h m s : List ℕ) where
  clock_fit : clock h m s ≡ second_of (fit 23 (unsigned_of h)) (fit 59 (unsigned_of m)) (fit 59 (unsigned_of s))
  unfolding clock
  clock_fit = rw (time_part-fit 23 h (omega arith), time_part-fit 59 m (omega arith), time_part-fit 59 s (omega arith))

  pub clock_value : {x y z : ℕ} → fit 23 (unsigned_of h) ≡ Some x → fit 59 (unsigned_of m) ≡ Some y → fit 59 (unsigned_of s) ≡ Some z
      → Some (x * 3600 + y * 60 + z) ≡ clock h m s
  unfolding second_of
  clock_value a b c = rw (clock_fit, a, b, c)

  pub clock-not-hour : fit 23 (unsigned_of h) ≡ None → None ≡ clock h m s
  unfolding second_of
  clock-not-hour a = rw (clock_fit, a)

  pub clock-not-minute : {x : ℕ} → fit 23 (unsigned_of h) ≡ Some x → fit 59 (unsigned_of m) ≡ None → None ≡ clock h m s
  unfolding second_of
  clock-not-minute a b = rw (clock_fit, a, b)

  pub clock-not-second : {x y : ℕ} → fit 23 (unsigned_of h) ≡ Some x → fit 59 (unsigned_of m) ≡ Some y → fit 59 (unsigned_of s) ≡ None → None ≡ clock h m s
  unfolding second_of
  clock-not-second a b c = rw (clock_fit, a, b, c)

-- ---- with colons
module _ (h s : List ℕ) (i : ℕ) (q : i ≡ first_place 58 s) where
  -- a third part, and perhaps more of them
  pub colon_time-third : (w : List ℕ) → i < length s → w ≡ before 58 (take (length s - (i + 1)) (drop (i + 1) s)) → clock h (take i s) w ≡ colon_time (h ∷ pieces is_colon s)
  unfolding colon_time
  colon_time-third w l e =
      let k : first_place 58 s < length s = omega arith in
      let r = drop (first_place 58 s + 1) s in
      rw (pieces_of_lt 58 s k, e, take-length-sub-drop s (i + 1), q)
      (by_test (leb (length r) (first_place 58 r))
      (λ y. let n : length r ≤ first_place 58 r = leb-true _ _ y in rw (pieces_of_le 58 r n, take_all (first_place 58 r) r n))
      (λ y. let n : first_place 58 r < length r = leb-false _ _ y in rw (pieces_of_lt 58 r n)))

  pub colon_time-second : length s ≤ i → clock h s (bytes "0") ≡ colon_time (h ∷ pieces is_colon s)
  unfolding colon_time
  colon_time-second l = let k : length s ≤ first_place 58 s = omega arith in rw (pieces_of_le 58 s k)

module _ (t : List ℕ) (i : ℕ) (q : i ≡ first_place 58 t) where
  pub iso_time-colon : (x : Option ℕ) → i < length t → x ≡ colon_time (take i t ∷ pieces is_colon (take (length t - (i + 1)) (drop (i + 1) t))) → x ≡ iso_time t
  unfolding iso_time has
  iso_time-colon x l e =
      let k : first_place 58 t < length t = omega arith in
      rw (lt-ltb (first_place 58 t) (length t) k, pieces_of_lt 58 t k, e, take-length-sub-drop t (i + 1), q)

  pub iso_time-plain : length t ≤ i → plain_time t ≡ iso_time t
  unfolding iso_time has
  iso_time-plain l = let k : length t ≤ first_place 58 t = omega arith in rw (le-ltb (first_place 58 t) (length t) k)
