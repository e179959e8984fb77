-- The words of a message, put one behind the other. In order: how long they are; three texts that are put one behind the other.
-- Assumes nothing.
use mathlib.Core.Path.{◌≡◌, sym, ap, ◌∙◌}
use mathlib.Core.Bool.{Bool, true, false, cond}
use mathlib.Core.List.{List, ◌++◌}
use Prim.Native.Nat.{ℕ, ◌+◌, ◌≤◌}
use native.Mathlib.Omega.{arith}
use native.Mathlib.Nat.{min-le_left}
use lib.ListN.{length, take, length-append, length-take, length-drop}
use Rattle.text.specs.Bytes.{same}
use Rattle.text.specs.Lines.{tab, field, rest}
use Rattle.text.specs.Places.{first_place}
use Rattle.text.specs.Quote.{bytes}
use Rattle.text.specs.Room.{put_at}
use Rattle.text.proofs.Behind.{put_at-behind}
use Rattle.stampsalvage.specs.Messages.{place_words, dropped_words, size_words, message_of}

-- ---- lengths
pub length-place_words : (number : List ℕ) → length (place_words number) ≡ length number + 3
length-place_words number = omega (arith, length-append (bytes ":" ++ number) (bytes ": "), length-append (bytes ":") number)

length-cond-le : (b : Bool) → length (cond b (bytes " byte dropped\n") (bytes " bytes dropped\n")) ≤ 15
length-cond-le true = omega arith
length-cond-le false = omega arith

pub length-size_words-le : (size : List ℕ) → length (size_words size) ≤ length size + 15
length-size_words-le size = omega (arith, length-append size (dropped_words size), length-cond-le (same size (bytes "1")))

-- one byte, or several
pub size_words-one : (size : List ℕ) (b : Bool) → b ≡ same size (bytes "1") → b ≡ true → size_words size ≡ size ++ bytes " byte dropped\n"
size_words-one size b e t = rw (← e, t)

pub size_words-more : (size : List ℕ) (b : Bool) → b ≡ same size (bytes "1") → b ≡ false → size_words size ≡ size ++ bytes " bytes dropped\n"
size_words-more size b e t = rw (← e, t)

-- a name that was cut, and the numbers of a row
pub length-name-le : (s : List ℕ) → length (take 4096 s) ≤ 4096
length-name-le s = omega (arith, length-take 4096 s, min-le_left 4096 (length s))

length-field-le : (row : List ℕ) → length (field row) ≤ length row
length-field-le row = omega (arith, length-take (first_place tab row) row)

length-rest-le : (row : List ℕ) → length (rest row) ≤ length row
length-rest-le row = omega (arith, length-drop (first_place tab row + 1) row)

-- the words on a row, behind the name
pub length-words-le : (row : List ℕ) → length row ≤ 32 → length (place_words (field row) ++ size_words (rest row)) ≤ 82
length-words-le row h =
    omega (arith, length-append (place_words (field row)) (size_words (rest row)), length-place_words (field row), length-size_words-le (rest row), length-field-le row, length-rest-le row)

pub length-message_of : (name row : List ℕ) → length (message_of name row) ≡ length (take 4096 name) + length (place_words (field row) ++ size_words (rest row))
unfolding message_of
length-message_of name row = length-append (take 4096 name) (place_words (field row) ++ size_words (rest row))

-- ---- three puts, each right behind the one before it, are one
pub three_put : (x y z l r₁ r₂ r₃ : List ℕ) (at i j : ℕ) → at ≤ length l → i ≡ at + length x → r₁ ≡ put_at x at l → j ≡ i + length y → r₂ ≡ put_at y i r₁ → r₃ ≡ put_at z j r₂
    → r₃ ≡ put_at (x ++ y ++ z) at l
three_put x y z l r₁ r₂ r₃ at i j h p e q f g =
    put_at-behind (x ++ y) z l r₂ r₃ at j h (omega (arith, length-append x y)) (put_at-behind x y l r₁ r₂ at i h p e f) g

-- the length of a line, and the words behind it
pub size_put : (size words l r₁ r₂ : List ℕ) (at i k : ℕ) → at ≤ length l → size_words size ≡ size ++ words → i ≡ at + length size → r₁ ≡ put_at size at l → k ≡ i + length words → r₂ ≡ put_at words i r₁
    → (k ≡ at + length (size_words size)) × (r₂ ≡ put_at (size_words size) at l)
size_put size words l r₁ r₂ at i k h w p e q f = (
  omega (arith, ap length w, length-append size words),
  put_at-behind size words l r₁ r₂ at i h p e f ∙ ap (λ (s : List ℕ). put_at s at l) (sym w),
)

-- the name, and the words behind it
pub message_put : (name row number size l r₁ r₂ : List ℕ) (at i : ℕ) → at ≤ length l → number ≡ field row → size ≡ rest row → i ≡ at + length (take 4096 name) → r₁ ≡ put_at (take 4096 name) at l
    → r₂ ≡ put_at (place_words number ++ size_words size) i r₁ → r₂ ≡ put_at (message_of name row) at l
unfolding message_of
message_put name row number size l r₁ r₂ at i h m n p e f =
    put_at-behind (take 4096 name) (place_words (field row) ++ size_words (rest row)) l r₁ r₂ at i h p e (f ∙ (λ j. put_at (place_words (m j) ++ size_words (n j)) i r₁))
