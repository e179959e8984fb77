-- Stamps (RULES 13.5). In order: what a stamp says about its text; the seconds and the offset of a stamp; what the header writer
-- writes at an offset of whole minutes is a stamp; so the stamps are exactly those texts (`stamp_is_what_the_writer_writes`).
-- Assumes nothing.
use Rattle.std.specs.Prelude.{Err, None, Ok, Option, Result, Some}
use mathlib.Core.Path.{◌≡◌, refl, sym, ap, ◌∙◌}
use mathlib.Core.Bool.{Bool, true, false, ◌&&◌, ◌||◌, false≢true, or-true, or-false}
use mathlib.Core.List.{List, [], ◌∷◌, ◌++◌}
use mathlib.Core.Logic.{◌↔◌}
use Prim.Native.Char.{code}
use Prim.Native.Nat.{ℕ, suc, ◌+◌, ◌/◌, ◌%◌, ◌^◌, ◌≤◌, ◌<◌}
use native.Mathlib.Omega.{arith}
use borrow.Author.Tests.{eqb-true, leb-true, leb-false, lt-leb}
use lib.Dec.{leb}
use lib.IntN.{ℤ, pos, negsuc, neg_ℤ, pred_ℤ, nat_abs}
use lib.Signed.{le_z, lt_z}
use Rattle.ints.specs.Equal.{eq_z}
use Rattle.ints.specs.Range.{In, is_in}
use Rattle.ints.proofs.Parts.{le_parts, nat_abs-parts, one_up, one-dn}
use Rattle.text.specs.Bytes.{is_space, is_digit, ascii, same}
use Rattle.text.specs.Places.{has, leading}
use Rattle.text.specs.Words.{words}
use Rattle.text.specs.Decimal.{signed}
use Rattle.text.specs.Number.{signed_of, fit_signed}
use Rattle.std.specs.Result.{result_ok}
use Rattle.text.proofs.Lists.{by_test, both}
use Rattle.text.proofs.Runs.{has_cons}
use Rattle.text.proofs.Signed.{signed_before-append, In_of_tests}
use Rattle.time.specs.Answers.{time_marked}
use Rattle.time.specs.Header.{header_bytes, header_sign, is_minus_zero, whole_minutes, cut_to_minutes}
use Rattle.time.specs.declared.Time.{Time as TimeValue}
use Rattle.time.proofs.Minutes.{cut_of_whole}
use Rattle.header.specs.Header.{number64, number_or, seconds_of, header_time, header_of_words, header_offset, header_of}
use Rattle.header.specs.Offset.{only_word}
use Rattle.header.specs.Theorems.{Seconds64, read_back}
use Rattle.header.proofs.ReadBack.{header_read_back}
use Rattle.header.proofs.Reach.{header_offset_in}
use Rattle.stamps.specs.Stamps.{stamp_of, stamp_as, is_whole_minutes}
use Rattle.stamps.specs.Theorems.{settled}
use Rattle.stamps.proofs.Printed.{same_self, eq_of_same}
use Rattle.text.specs.declared.number.NumberError.TheVariants.{TooLarge, NoNumber}
use Rattle.header.specs.declared.offset.Fields.{Fields}
use Rattle.text.specs.declared.number.NumberError.{NumberError}
use Rattle.time.specs.declared.Refusal.{Refusal}
use Rattle.time.specs.declared.Time.{Time}

-- ---- what a stamp says about its text
-- it is read as that time, at whole minutes, and it is what is written for that time
time_of_stamp_as : (a : Result Time Refusal) (s : List ℕ) (t : TimeValue) → stamp_as a s ≡ Some t → (a ≡ Ok t) × (is_whole_minutes t.offset ≡ true) × (s ≡ header_bytes t)
time_of_stamp_as (Ok u) s t e =
    by_test (is_whole_minutes u.offset && same s (header_bytes u))
    (λ k.
    let q : u ≡ t = cc (rw k at e) in
    let p = both (is_whole_minutes u.offset) (same s (header_bytes u)) k in
    (ap Ok q, ap (λ (v : TimeValue). is_whole_minutes v.offset) (sym q) ∙ p.0, eq_of_same s (header_bytes u) p.1 ∙ ap header_bytes q))
    (λ k. let m = rw k at e in let q : ◌≡◌ {A = ℕ} 0 1 = cc in absurd (omega arith))
time_of_stamp_as (Err r) s t e = let q : ◌≡◌ {A = ℕ} 0 1 = cc in absurd (omega arith)

module _ (s : List ℕ) (t : TimeValue) (e : stamp_of s ≡ Some t) where
  pub stamp_of-read : header_of s ≡ Ok t
  unfolding stamp_of
  stamp_of-read = (time_of_stamp_as (header_of s) s t e).0

  pub stamp_of-whole : is_whole_minutes t.offset ≡ true
  unfolding stamp_of
  stamp_of-whole = (time_of_stamp_as (header_of s) s t e).1

  pub stamp_of-bytes : s ≡ header_bytes t
  unfolding stamp_of
  stamp_of-bytes = (time_of_stamp_as (header_of s) s t e).2

-- ---- its seconds
pub In_of_fit_signed : (half : ℕ) (x : Option ℤ) (z : ℤ) → fit_signed half x ≡ Some z → In (neg_ℤ (pos half)) (pred_ℤ (pos half)) z
unfolding fit_signed
In_of_fit_signed half (Some y) z e =
    by_test (le_z (neg_ℤ (pos half)) y && lt_z y (pos half))
    (λ k. let q : y ≡ z = cc (rw k at e) in rw (← q) (In_of_tests half y k))
    (λ k. let m = rw k at e in let q : ◌≡◌ {A = ℕ} 0 1 = cc in absurd (omega arith))
In_of_fit_signed half None z e = let q : ◌≡◌ {A = ℕ} 0 1 = cc in absurd (omega arith)

number64_in : (w : List ℕ) (z : ℤ) → number64 w ≡ Ok z → Seconds64 z
unfolding fit_signed
number64_in w z e = In_of_fit_signed (2 ^ 63) (signed_of w) z (ap result_ok e)

seconds_of_in : (w : List ℕ) (z : ℤ) → seconds_of w ≡ Ok z → Seconds64 z
unfolding seconds_of
seconds_of_in w z e = go (number64 w) refl e
  where
    go : (x : Result ℤ NumberError) → number64 w ≡ x → number_or x (number64 (leading is_digit w)) ≡ Ok z → Seconds64 z
    go (Ok y) k m = number64_in w z (k ∙ m)
    go (Err TooLarge) k m = let q : ◌≡◌ {A = ℕ} 0 1 = cc in absurd (omega arith)
    go (Err NoNumber) k m = number64_in (leading is_digit w) z m

header_time_in : (x : Result ℤ NumberError) (p : Option Fields) (t : TimeValue) → header_time x p ≡ Ok t → x ≡ Ok t.seconds
header_time_in (Ok z) (Some f) t e = cc
header_time_in (Ok z) None t e = cc
header_time_in (Err TooLarge) p t e = let q : ◌≡◌ {A = ℕ} 0 1 = cc in absurd (omega arith)
header_time_in (Err NoNumber) p t e = let q : ◌≡◌ {A = ℕ} 0 1 = cc in absurd (omega arith)

header_of_words_in : (ws : List (List ℕ)) (t : TimeValue) → header_of_words ws ≡ Ok t → Seconds64 t.seconds
unfolding header_of_words
header_of_words_in [] t e = let q : ◌≡◌ {A = ℕ} 0 1 = cc in absurd (omega arith)
header_of_words_in (w ∷ ws) t e = seconds_of_in w t.seconds (header_time_in (seconds_of w) (header_offset (only_word ws)) t e)

-- the seconds that a header is read as fit 64 bits, and it holds no `:`
seconds_no_colon_of_header_of : (s : List ℕ) (t : TimeValue) → header_of s ≡ Ok t → Seconds64 t.seconds × (has (code ":") s ≡ false)
unfolding header_of
seconds_no_colon_of_header_of s t e =
    by_test (ascii s)
    (λ a.
    by_test (has (code ":") s) (λ h. let m = rw (a, h) at e in let q : ◌≡◌ {A = ℕ} 0 1 = cc in absurd (omega arith))
    (λ h. (header_of_words_in (words is_space s) t (rw (a, h) at e), h)))
    (λ a. let m = rw a at e in let q : ◌≡◌ {A = ℕ} 0 1 = cc in absurd (omega arith))

-- ---- its offset
has_append : (c : ℕ) (s t : List ℕ) → has c t ≡ true → has c (s ++ t) ≡ true
has_append c [] t h = h
has_append c (b ∷ s) t h = rw (has_cons c b (s ++ t), has_append c s t h, or-true)

-- at 100 hours and more a `:` would be written for the tens of the hours
colon_in_header : (t : TimeValue) → 360000 ≤ nat_abs t.offset → nat_abs t.offset ≤ 362439 → has (code ":") (header_bytes t) ≡ true
unfolding header_bytes header_sign whole_minutes
colon_in_header t h k =
    let n : ℕ = nat_abs t.offset in
    let q : 48 + n / 60 / 60 / 10 ≡ code ":" = omega arith in
    rw (signed_before-append t.seconds _) (has_append (code ":") (signed t.seconds) _ (rw (has_cons, has_cons, has_cons, q, or-true)))

pub stamp_of-good : (s : List ℕ) (t : TimeValue) → stamp_of s ≡ Some t → (is_whole_minutes t.offset ≡ true) × (nat_abs t.offset < 360000) × Seconds64 t.seconds
stamp_of-good s t e =
    let header = seconds_no_colon_of_header_of s t (stamp_of-read s t e) in
    let r = header_offset_in s t (stamp_of-read s t e) in
    let n : nat_abs t.offset ≤ 362439 = omega (arith, le_parts r.low, le_parts r.high, nat_abs-parts t.offset, one_up t.offset, one-dn t.offset) in (
      stamp_of-whole s t e,
      by_test (leb 360000 (nat_abs t.offset))
          (λ k. absurd (false≢true (sym header.1 ∙ ap (has (code ":")) (stamp_of-bytes s t e) ∙ colon_in_header t (leb-true 360000 (nat_abs t.offset) k) n)))
          (λ k. leb-false 360000 (nat_abs t.offset) k),
      header.0,
    )

-- ---- what is written at an offset of whole minutes
cut_to_minutes-whole : (o : ℤ) → is_whole_minutes o ≡ true → cut_to_minutes o ≡ o
unfolding is_whole_minutes
cut_to_minutes-whole o e = cut_of_whole o (eqb-true (nat_abs o % 60) 0 e)

-- no offset from -59 to -1 is whole minutes
not-under_a_minute : (o : ℤ) → is_whole_minutes o ≡ true → is_in (negsuc 58) (negsuc 0) o ≡ false
unfolding is_whole_minutes
not-under_a_minute (pos n) e = refl
not-under_a_minute (negsuc n) e =
    let k : suc n % 60 ≡ 0 = eqb-true (suc n % 60) 0 e in
    rw (lt-leb n 58 (omega arith))

read_back-whole : (t : TimeValue) → is_whole_minutes t.offset ≡ true → read_back t ≡ settled t
read_back-whole t w =
    let m : (is_minus_zero t || is_in (negsuc 58) (negsuc 0) t.offset) ≡ is_minus_zero t = rw (not-under_a_minute t.offset w, or-false) in
    λ i. time_marked t.seconds (cut_to_minutes-whole t.offset w i) (m i)

-- a mark that means nothing is not written
and_again : (a b : Bool) → ((a && b) && b) ≡ (a && b)
and_again true true = refl
and_again true false = refl
and_again false b = refl

header_bytes-settled : (t : TimeValue) → header_bytes (settled t) ≡ header_bytes t
unfolding header_bytes header_sign
header_bytes-settled t = rw (and_again t.mark (eq_z t.offset (pos 0)))

-- it is a stamp of that time, without a mark that means nothing
pub stamp_of-header_bytes : (t : TimeValue) → Seconds64 t.seconds → nat_abs t.offset < 360000 → is_whole_minutes t.offset ≡ true → stamp_of (header_bytes t) ≡ Some (settled t)
unfolding stamp_of
stamp_of-header_bytes t r h w =
    ap (λ (a : Result Time Refusal). stamp_as a (header_bytes t)) (header_read_back t r h ∙ ap Ok (read_back-whole t w))
    ∙ rw (w, header_bytes-settled t, same_self (header_bytes t))

pub stamp_of-settled : (s : List ℕ) (t : TimeValue) → stamp_of s ≡ Some t → t.mark ≡ is_minus_zero t
stamp_of-settled s t e =
    let good = stamp_of-good s t e in
    let k : Some t ≡ Some (settled t) = sym e ∙ ap stamp_of (stamp_of-bytes s t e) ∙ stamp_of-header_bytes t good.2 good.1 good.0 in
    let same : t ≡ settled t = cc in
    ap (λ (u : TimeValue). u.mark) same

-- so the stamps are exactly what the header writer writes for times of 64-bit seconds at offsets of whole minutes under 100 hours, whose
-- mark is set only beside offset 0. With a mark beside another offset the same bytes are written (`stamp_of-header_bytes`)
pub stamp_is_what_the_writer_writes : (s : List ℕ) (t : TimeValue)
    → (stamp_of s ≡ Some t) ↔ ((s ≡ header_bytes t) × (is_whole_minutes t.offset ≡ true) × (nat_abs t.offset < 360000) × Seconds64 t.seconds × (t.mark ≡ is_minus_zero t))
stamp_is_what_the_writer_writes s t = (
  λ e. let good = stamp_of-good s t e in (stamp_of-bytes s t e, good.0, good.1, good.2, stamp_of-settled s t e),
  λ w. ap stamp_of w.0 ∙ stamp_of-header_bytes t w.3 w.2 w.1 ∙ (λ i. Some (time_marked t.seconds t.offset (sym w.4 i))),
)
