-- The offsets that a header can give: every one from -362439 to 362439, and no other. In order: there is no other
-- (`header_offset_in`); each of them is reached, with any seconds (`header_offset_reached`), by a text whose fields are digits
-- alone. So signs inside the fields add nothing.
-- Assumes nothing.
use Rattle.std.specs.Prelude.{Err, None, Ok, Option, Result, Some}
use mathlib.Core.Path.{◌≡◌, refl, ◌∙◌}
use mathlib.Core.Bool.{true, false}
use mathlib.Core.List.{List, [], ◌∷◌}
use Prim.Native.Nat.{ℕ, suc, ◌+◌, ◌*◌, ◌≤◌, ◌<◌}
use native.Mathlib.Omega.{arith}
use lib.IntN.{ℤ, pos, negsuc, nat_abs}
use Rattle.ints.proofs.Parts.{le_parts, parts-le, nat_abs-parts, one_up, one-dn}
use Rattle.ints.proofs.Machine.{in_add, in_mul, in_neg}
use Rattle.text.specs.Bytes.{is_space, is_sign, ascii}
use Rattle.text.specs.Places.{has}
use Rattle.text.specs.Words.{words}
use Rattle.text.specs.Decimal.{two_before}
use Rattle.text.proofs.Lists.{by_test}
use Rattle.text.proofs.Decimals.{Between}
use Rattle.time.specs.Answers.{time_at}
use Rattle.time.specs.Header.{sign_byte}
use Rattle.time.specs.declared.Time.{Time}
use Rattle.header.specs.Offset.{only_word, offset_of}
use Rattle.header.specs.Held.{Small, AllSmall}
use Rattle.header.specs.Header.{header_of, header_of_words, header_time, header_offset, seconds_of}
use Rattle.header.specs.Theorems.{Seconds64, HeaderOffset, hours_in, minutes_in, seconds_in, seven_bytes, header_with}
use Rattle.header.specs.declared.offset.Fields.{Fields}
use Rattle.header.proofs.Offsets.{header_offset-all_small}
use Rattle.header.proofs.ReadBack.{sign_byte-between, two-between, offset_of-fields_are, header_offset-seven, header_of-signed_before}
use Rattle.text.specs.declared.number.NumberError.TheVariants.{TooLarge, NoNumber}
use Rattle.text.specs.declared.number.NumberError.{NumberError}
use Rattle.time.specs.declared.Refusal.{Refusal}

-- ---- no other
zero_in : HeaderOffset (pos 0)
zero_in = record { low = parts-le _ _ (omega arith); high = parts-le _ _ (omega arith) }

offset_of_in : (f : Fields) → Small f → HeaderOffset (offset_of f)
unfolding offset_of
offset_of_in f p =
    let sum = in_add (in_add (in_mul 3600 p.hours_in_range) (in_mul 60 p.minutes_in_range)) p.seconds_in_range in
    by_test f.minus (λ e. rw e (in_neg sum)) (λ e. rw e sum)

abbrev Within : Result Time Refusal → Type 0
Within (Ok t) = HeaderOffset t.offset
Within (Err r) = Unit {0}

header_time-within : (i : Result ℤ NumberError) (p : Option Fields) → AllSmall p → Within (header_time i p)
header_time-within (Ok z) (Some f) h = offset_of_in f h
header_time-within (Ok z) None h = zero_in
header_time-within (Err TooLarge) p h = tt
header_time-within (Err NoNumber) p h = tt

header_of_words-within : (ws : List (List ℕ)) → Within (header_of_words ws)
unfolding header_of_words
header_of_words-within [] = tt
header_of_words-within (w ∷ ws) = header_time-within (seconds_of w) (header_offset (only_word ws)) (header_offset-all_small (only_word ws))

header_of-within : (s : List ℕ) → Within (header_of s)
unfolding header_of
header_of-within s =
    by_test (ascii s)
    (λ e. by_test (has 58 s) (λ d. rw (e, d) tt) (λ d. rw (e, d) (header_of_words-within (words is_space s))))
    (λ e. rw e tt)

-- whatever a header's offset is, it lies from -362439 to 362439
pub header_offset_in : (s : List ℕ) (t : Time) → header_of s ≡ Ok t → HeaderOffset t.offset
header_offset_in s t e = rw e at (header_of-within s)

-- ---- each is reached
module _ (n : ℕ) (h : n ≤ 362439) where
  seconds-lt : seconds_in n < 100
  seconds-lt = omega arith

  clock_is : hours_in n * 3600 + minutes_in n * 60 + seconds_in n ≡ n
  clock_is = omega arith

seven_bytes-between : (o : ℤ) → nat_abs o ≤ 362439 → Between 33 57 (seven_bytes o)
seven_bytes-between o h =
    let b = sign_byte-between o in
    let n = nat_abs o in (
      b.0,
      b.1,
      two-between (hours_in n) (two_before (minutes_in n) (two_before (seconds_in n) [])) (omega arith)
          (two-between (minutes_in n) (two_before (seconds_in n) []) (omega arith) (two-between (seconds_in n) [] (seconds-lt n h) tt)),
    )

read-seven_bytes : (z o : ℤ) → nat_abs o ≤ 362439 → header_time (Ok z) (header_offset (seven_bytes o)) ≡ Ok (time_at z o)
unfolding sign_byte is_sign
read-seven_bytes z (pos n) h =
    rw (header_offset-seven 43 (hours_in n) (minutes_in n) refl (omega arith) (omega arith) (seconds_in n) (seconds-lt n h), offset_of-fields_are false (hours_in n) (minutes_in n) (seconds_in n) n (clock_is n h))
read-seven_bytes z (negsuc n) h =
    rw (header_offset-seven 45 (hours_in (suc n)) (minutes_in (suc n)) refl (omega arith) (omega arith) (seconds_in (suc n)) (seconds-lt (suc n) h), offset_of-fields_are true (hours_in (suc n)) (minutes_in (suc n)) (seconds_in (suc n)) (suc n) (clock_is (suc n) h))

-- every offset from -362439 to 362439 is that of a header, with any seconds of 64 bits
pub header_offset_reached : (z o : ℤ) → Seconds64 z → HeaderOffset o → header_of (header_with z o) ≡ Ok (time_at z o)
header_offset_reached z o r p =
    let h : nat_abs o ≤ 362439 = omega (arith, le_parts p.low, le_parts p.high, nat_abs-parts o, one_up o, one-dn o) in
    header_of-signed_before z (seven_bytes o) r (omega arith) (seven_bytes-between o h) ∙ read-seven_bytes z o h
