-- A stamp at the front of a longer text. In order: how many bytes are its seconds; the bytes of a header; a stamp that is read
-- there in two steps, seconds and tail, is the stamp of the line.
-- Assumes nothing.
use Rattle.std.specs.Prelude.{None, Option, Some}
use mathlib.Core.Path.{◌≡◌, refl, sym, ap, ◌∙◌}
use mathlib.Core.Bool.{Bool, false}
use mathlib.Core.List.{List, [], ◌∷◌, ◌++◌, append_assoc}
use Prim.Native.Char.{code}
use Prim.Native.Nat.{ℕ, suc, ◌/◌, ◌%◌, ◌^◌, ◌<◌}
use native.Mathlib.Omega.{arith}
use lib.IntN.{ℤ, pos, negsuc, nat_abs}
use lib.ListN.{length, take, drop, take-append-drop}
use lib.Seq.{drop-drop, take-append_seam, drop-append_seam}
use Rattle.text.specs.Bytes.{is_digit, is_sign}
use Rattle.text.specs.Places.{run, first_place, before}
use Rattle.text.specs.Lines.{newline}
use Rattle.text.specs.Decimal.{decimal, signed, two_before}
use Rattle.text.specs.Number.{fit_signed, numeral}
use Rattle.text.proofs.Numbers.{is_digit_of_le, numeral_of_digits, fit_signed-value}
use Rattle.text.proofs.Digits.{is_sign_of_digit}
use Rattle.text.proofs.Decimals.{Between, decimal_digits, length-decimal-pos, two_before-between}
use Rattle.text.proofs.Signed.{signed_before-append, signed_before-between}
use Rattle.time.specs.Answers.{time_marked}
use Rattle.time.specs.Header.{header_bytes, header_sign, whole_minutes}
use Rattle.time.specs.declared.Time.{Time}
use Rattle.header.proofs.ReadBack.{sign_between, header_sign-sign}
use Rattle.stamps.specs.Stamps.{printed, stamp_of}
use Rattle.stamps.specs.Held.{OpensPrinted, tail_of}
use Rattle.stamps.specs.declared.stamp.PrintedNumber.{PrintedNumber}
use Rattle.stamps.specs.declared.stamp.Tail.{Tail}
use Rattle.stamps.proofs.Scans.{ends_here-first_place, before_of_ends_here, Free_of_between}
use Rattle.stamps.proofs.Printed.{printed_bytes, fit_signed-printed_signed}
use Rattle.stamps.proofs.Tails.{tail_at, tail_bytes, tail_of-tail_bytes, HasTail, HasTail_of_tail_of}
use Rattle.stamps.proofs.Stamps.{stamp_of-bytes, stamp_of-good, stamp_of-settled, stamp_of-header_bytes, In_of_fit_signed}

-- ---- the seconds are as many bytes as their plain decimal has
run_digits : (w : List ℕ) (b : ℕ) (t : List ℕ) → Between 48 57 w → is_digit b ≡ false → run is_digit (w ++ b ∷ t) ≡ length w
unfolding run
run_digits [] b t d e = rw e
run_digits (x ∷ w) b t d e = rw (is_digit_of_le x d.0 d.1) (ap suc (run_digits w b t d.2 e))

numeral_digits : (w : List ℕ) (b : ℕ) (t : List ℕ) → 0 < length w → Between 48 57 w → is_digit b ≡ false → numeral (w ++ b ∷ t) ≡ length w
numeral_digits [] b t h d e = absurd (omega arith)
numeral_digits (x ∷ w) b t h d e =
    numeral_of_digits (x ∷ w ++ b ∷ t) (is_sign_of_digit x (is_digit_of_le x d.0 d.1)) ∙ run_digits (x ∷ w) b t d e

pub numeral_signed : (z : ℤ) (b : ℕ) (t : List ℕ) → is_digit b ≡ false → numeral (signed z ++ b ∷ t) ≡ length (signed z)
unfolding signed numeral is_sign
numeral_signed (pos n) b t e = numeral_digits (decimal n) b t (length-decimal-pos n) (decimal_digits n).0 e
numeral_signed (negsuc n) b t e = ap suc (run_digits (decimal (suc n)) b t (decimal_digits (suc n)).0 e)

-- ---- the bytes of a header: the seconds, and the tail
header_bytes-append : (t : Time) (u : List ℕ) → header_bytes t ++ u ≡ signed t.seconds ++ (tail_bytes t ++ u)
unfolding header_bytes
header_bytes-append t u =
    ap (λ (w : List ℕ). w ++ u) (signed_before-append t.seconds (tail_bytes t)) ∙ append_assoc (signed t.seconds) (tail_bytes t) u

pub header_bytes-between : (t : Time) → nat_abs t.offset < 360000 → Between 32 57 (header_bytes t)
unfolding header_bytes whole_minutes
header_bytes-between t h =
    let sign = sign_between (header_sign t) (header_sign-sign t) in
    let n = nat_abs t.offset / 60 in
    let two : (k : ℕ) (w : List ℕ) → k < 100 → Between 32 57 w → Between 32 57 (two_before k w) = two_before-between 32 57 (omega arith) (omega arith) in
    signed_before-between 32 57 (omega arith) (omega arith) t.seconds (tail_bytes t) (
      omega arith,
      omega arith,
      (omega (arith, sign.0), sign.1, two (n / 60) (two_before (n % 60) []) (omega arith) (two (n % 60) [] (omega arith) tt)),
    )

-- ---- a stamp in two steps
-- the stamp of these seconds and this tail, if both are there
abbrev pub stamp_with : Option ℤ → Option Tail → Option Time
stamp_with (Some z) (Some t) = Some (time_marked z t.offset t.mark)
stamp_with (Some z) None = None
stamp_with None x = None

module _ (d : List ℕ) where
  abbrev seconds : Option ℤ
  seconds = fit_signed (2 ^ 63) (printed (take (numeral d) d))

  abbrev tail : Option Tail
  tail = tail_of (drop (numeral d) d)

  -- if both are there, the line is their header
  module _ (z o : ℤ) (m : Bool) (e : seconds ≡ Some z) (k : tail ≡ Some (tail_at o m)) where
    abbrev time : Time
    time = time_marked z o m

    has_tail : HasTail (drop (numeral d) d) time
    has_tail = HasTail_of_tail_of (drop (numeral d) d) z o m k

    before_is : before newline d ≡ header_bytes time
    before_is =
        let u = drop 6 (drop (numeral d) d) in
        let w : take (numeral d) d ≡ signed z = printed_bytes (take (numeral d) d) z (fit_signed-value (2 ^ 63) (printed (take (numeral d) d)) z e) in
        let whole : d ≡ header_bytes time ++ u =
        sym (take-append-drop (numeral d) d) ∙ (λ i. w i ++ has_tail.bytes_are i) ∙ sym (header_bytes-append time u) in
        ap (before newline) whole
        ∙ before_of_ends_here (header_bytes time) u (Free_of_between newline 32 57 (omega arith) (header_bytes time) (header_bytes-between time has_tail.small)) has_tail.ends

    stamp_of_of_both : stamp_of (before newline d) ≡ Some time
    stamp_of_of_both =
        ap stamp_of before_is
        ∙ stamp_of-header_bytes time (In_of_fit_signed (2 ^ 63) (printed (take (numeral d) d)) z e) has_tail.small has_tail.whole
        ∙ (λ i. Some (time_marked z o (sym has_tail.settled_is i)))

  -- if the line is a stamp, both are there
  module _ (t : Time) (e : stamp_of (before newline d) ≡ Some t) where
    abbrev behind : List ℕ
    behind = drop (first_place newline d) d

    whole_is : d ≡ signed t.seconds ++ (tail_bytes t ++ behind)
    whole_is = sym (take-append-drop (first_place newline d) d) ∙ ap (λ (w : List ℕ). w ++ behind) (stamp_of-bytes (before newline d) t e) ∙ header_bytes-append t behind

    numeral_is : numeral d ≡ length (signed t.seconds)
    unfolding is_digit
    numeral_is = ap numeral whole_is ∙ numeral_signed t.seconds (code " ") _ refl

    seconds_are : seconds ≡ Some t.seconds
    seconds_are =
        ap (λ (w : List ℕ). fit_signed (2 ^ 63) (printed w)) ((λ i. take (numeral_is i) (whole_is i)) ∙ take-append_seam (signed t.seconds) (tail_bytes t ++ behind))
        ∙ fit_signed-printed_signed t.seconds (stamp_of-good (before newline d) t e).2

    tail_is : tail ≡ Some (tail_at t.offset t.mark)
    tail_is =
        let good = stamp_of-good (before newline d) t e in
        ap tail_of ((λ i. drop (numeral_is i) (whole_is i)) ∙ drop-append_seam (signed t.seconds) (tail_bytes t ++ behind))
        ∙ tail_of-tail_bytes t.seconds t.offset t.mark behind good.1 good.0 (ends_here-first_place d)
        ∙ ap (λ (m : Bool). Some (tail_at t.offset m)) (sym (stamp_of-settled (before newline d) t e))

  pub stamp_of-before : stamp_of (before newline d) ≡ stamp_with seconds tail
  stamp_of-before = go (stamp_of (before newline d)) refl
    where
      neither : (x : Option ℤ) (y : Option Tail) → seconds ≡ x → tail ≡ y → stamp_of (before newline d) ≡ None → None ≡ stamp_with x y
      neither (Some z) (Some w) e k n = let both-there = stamp_of_of_both z w.offset w.mark e k in let q : ◌≡◌ {A = ℕ} 0 1 = cc in absurd (omega arith)
      neither (Some z) None e k n = refl
      neither None y e k n = refl

      go : (x : Option Time) → stamp_of (before newline d) ≡ x → x ≡ stamp_with seconds tail
      go (Some t) e = sym (λ i. stamp_with (seconds_are t e i) (tail_is t e i))
      go None e = neither seconds tail refl refl e

-- the same at a place of a text, where the seconds are read first
module _ (s : List ℕ) (at : ℕ) (r : PrintedNumber) (p : OpensPrinted (2 ^ 63) (drop at s) at r) where
  stamp_of_with : stamp_of (before newline (drop at s)) ≡ stamp_with r.number (tail_of (drop r.end s))
  stamp_of_with =
      let d = drop at s in
      let e : drop r.end s ≡ drop (numeral d) d = ap (λ (i : ℕ). drop i s) p.end_is ∙ sym (drop-drop (numeral d) at s) in
      stamp_of-before d ∙ sym (λ i. stamp_with (p.number_is i) (tail_of (e i)))

  pub stamp_of_no_seconds : r.number ≡ None → None ≡ stamp_of (before newline (drop at s))
  stamp_of_no_seconds e = sym (stamp_of_with ∙ ap (λ (x : Option ℤ). stamp_with x (tail_of (drop r.end s))) e)

  module _ (z : ℤ) (e : r.number ≡ Some z) (y : Option Tail) (k : y ≡ tail_of (drop r.end s)) where
    pub stamp_of_no_tail : y ≡ None → None ≡ stamp_of (before newline (drop at s))
    stamp_of_no_tail n = sym (stamp_of_with ∙ λ i. stamp_with (e i) ((sym k ∙ n) i))

    pub stamp_of-seconds_tail : (t : Tail) → y ≡ Some t → Some (time_marked z t.offset t.mark) ≡ stamp_of (before newline (drop at s))
    stamp_of-seconds_tail t n = sym (stamp_of_with ∙ λ i. stamp_with (e i) ((sym k ∙ n) i))
