-- Bytes put into a room from a place on: a header, which the part of a room from there on holds; a number, put in front of its end.
-- Assumes nothing.
use Rattle.std.specs.Prelude.{Ok}
use mathlib.Core.Path.{◌≡◌, sym, ap, ◌∙◌}
use mathlib.Core.List.{List, ◌++◌, append_assoc}
use Prim.Native.Nat.{ℕ, ◌+◌, ◌-◌, ◌≤◌, ◌<◌}
use native.Mathlib.Omega.{arith}
use lib.IntN.{ℤ, nat_abs}
use lib.ListN.{length, take, drop, length-drop}
use lib.Seq.{length-take-le}
use Rattle.text.specs.Decimal.{signed, signed_before}
use Rattle.text.proofs.Signed.{signed_before-append}
use Rattle.time.specs.Header.{header_bytes, header_written}
use Rattle.time.specs.declared.Time.{Time}
use Rattle.time.proofs.Headers.{length-header_bytes}
use Rattle.time.proofs.Theorems.{header_written_if_it_fits}
use Rattle.text.specs.Room.{put_at}

-- a header is written to the part of a room from `at` on, if it fits there
pub written_from : (t : Time) (l : List ℕ) (at : ℕ) → nat_abs t.offset < 360000 → at + length (header_bytes t) ≤ length l
    → header_written t (take (length l - at) (drop at l)) ≡ Ok (length (header_bytes t))
written_from t l at h k =
    let d : length (drop at l) ≡ length l - at = length-drop at l in
    let n : length (take (length l - at) (drop at l)) ≡ length l - at = length-take-le (length l - at) (drop at l) (omega arith) in
    header_written_if_it_fits t (take (length l - at) (drop at l)) h (omega (arith, length-header_bytes t)) ∙ ap Ok (sym (length-header_bytes t))

-- a number, written in front of its end
pub put_at-signed : (z : ℤ) (l r : List ℕ) (at end : ℕ) → end ≡ at + length (signed z) → r ≡ take (end - length (signed z)) l ++ signed_before z (drop end l)
    → r ≡ put_at (signed z) at l
put_at-signed z l r at end p e =
    let q : end - length (signed z) ≡ at = omega arith in
    e ∙ (λ i. take (q i) l ++ signed_before z (drop (p i) l)) ∙ ap (λ (v : List ℕ). take at l ++ v) (signed_before-append z (drop (at + length (signed z)) l))
    ∙ sym (append_assoc (take at l) (signed z) (drop (at + length (signed z)) l))
