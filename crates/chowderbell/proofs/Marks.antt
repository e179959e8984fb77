-- The mark of `-0000` as a byte (RULES 5.10). Passed on as it was stored, it is the same mark (`is_set-mark_byte`). So what an entry stores
-- for a header of the commit's own form, written again with its mark, gives the same bytes (`own_form_again_through-C`). A header with a
-- mark is the header of another offset without one (`header_bytes_of_mark`), and is refused as that is (`header_written_of_mark`).
-- Assumes nothing.
use Rattle.std.specs.Prelude.{Result}
use mathlib.Core.Path.{◌≡◌, refl, ap, ◌∙◌}
use mathlib.Core.Bool.{Bool, true, false, cond, ◌&&◌}
use mathlib.Core.List.{List}
use Prim.Native.Nat.{ℕ, zero, suc, ◌<◌}
use lib.Dec.{eqb-suc-zero}
use lib.IntN.{ℤ, pos, negsuc}
use native.Mathlib.Omega.{arith}
use Rattle.ints.specs.Equal.{eq_z}
use Rattle.time.specs.Answers.{time_at, time_marked, answer_time}
use Rattle.time.specs.Header.{header_bytes, header_sign, header_written, sign_byte, whole_minutes}
use Rattle.header.specs.Header.{header_of}
use Rattle.header.specs.Theorems.{OwnForm}
use Rattle.header.proofs.OwnForm.{time, own_form_read, own_form_again}
use Rattle.chowderbell.specs.Entries.{mark_byte, is_set, HandedMarked}
use Rattle.time.specs.declared.Refusal.{Refusal}
use Rattle.time.specs.declared.Time.{Time}

pub is_set-mark_byte : (m : Bool) → is_set (mark_byte m) ≡ m
is_set-mark_byte true = refl
is_set-mark_byte false = refl

pub own_form_again_through-C : (s : List ℕ) → OwnForm s → {number mark : ℕ} {seconds offset : ℤ} → HandedMarked (header_of s) number seconds offset mark
    → header_bytes (time_marked seconds offset (is_set mark)) ≡ s
own_form_again_through-C s o {mark = mark} h =
    let e = own_form_read s o in
    let z = h.handed_out.seconds_is ∙ ap (λ (a : Result Time Refusal). (answer_time a).seconds) e in
    let f = h.handed_out.offset_is ∙ ap (λ (a : Result Time Refusal). (answer_time a).offset) e in
    let m = ap is_set h.mark_is ∙ is_set-mark_byte (answer_time (header_of s)).mark ∙ ap (λ (a : Result Time Refusal). (answer_time a).mark) e in
    (λ i. header_bytes (time_marked (z i) (f i) (m i))) ∙ (own_form_again s o (time s o) e).1

mark_byte-small : (m : Bool) → mark_byte m < 256
mark_byte-small true = omega arith
mark_byte-small false = omega arith

pub mark_small : {a : Result Time Refusal} {number mark : ℕ} {seconds offset : ℤ} → HandedMarked a number seconds offset mark → mark < 256
mark_small {a = a} h = rw h.mark_is (mark_byte-small (answer_time a).mark)

-- the offset without a mark that has the same header
abbrev pub shown : ℤ → Bool → ℤ
shown o m = cond (m && eq_z o (pos 0)) (negsuc 0) o

pub header_bytes_of_mark : (z o : ℤ) (m : Bool) → header_bytes (time_marked z o m) ≡ header_bytes (time_at z (shown o m))
unfolding header_bytes header_sign sign_byte whole_minutes
header_bytes_of_mark z o false = refl
header_bytes_of_mark z (pos zero) true = refl
header_bytes_of_mark z (pos (suc n)) true = rw eqb-suc-zero
header_bytes_of_mark z (negsuc n) true = refl

pub header_written_of_mark : (z o : ℤ) (m : Bool) (room : List ℕ) → header_written (time_marked z o m) room ≡ header_written (time_at z (shown o m)) room
unfolding header_written
header_written_of_mark z o false room = refl
header_written_of_mark z (pos zero) true room = refl
header_written_of_mark z (pos (suc n)) true room = rw eqb-suc-zero
header_written_of_mark z (negsuc n) true room = refl
