-- `header::parse_offset` meets its contract: a word of fewer than two bytes has no digit in its second place.
use Rattle.std.specs.Prelude.{None}
use mathlib.Core.Path.{◌≡◌, refl, sym}
use mathlib.Core.List.{List, [], ◌∷◌}
use Prim.Native.Nat.{ℕ, ◌<◌}
use native.Mathlib.Omega.{arith}
use lib.ListN.{length}
use Rattle.text.specs.Bytes.{is_digit}
use Rattle.header.specs.Header.{header_offset}
use Rattle.header.proofs.parse_offset.Goals as goal

header_offset_of_length : (w : List ℕ) → length w < 2 → header_offset w ≡ None
unfolding header_offset is_digit
header_offset_of_length [] h = refl
header_offset_of_length (a ∷ []) h = refl
header_offset_of_length (a ∷ b ∷ w) h = absurd (omega arith)

pub returns-in_default : goal.returns-in_default
returns-in_default c = sym (header_offset_of_length _ (omega (arith, c.in_default.len_below)))
