-- Bytes: which are white space (RULES 4.1), digits, signs and letters; and whole texts, tested and compared. A text is a list of
-- bytes, and a byte is a number from 0 to 255.
-- Assumes nothing.
use Rattle.std.specs.Prelude.{ℕ, ◌+◌, Bool, true, false, cond, not, ◌&&◌, ◌||◌, List, [], ◌∷◌, leb, ltb, eqb}
use Prim.Native.Char.{code}

-- from lo to hi, both included
abbrev pub between : ℕ → ℕ → ℕ → Bool
between lo hi b = leb lo b && leb b hi

-- white space: bytes 9 to 13 and 32
unfoldable pub is_space : ℕ → Bool
is_space b = between 9 13 b || eqb b 32

unfoldable pub is_digit : ℕ → Bool
is_digit b = between (code "0") (code "9") b

unfoldable pub is_sign : ℕ → Bool
is_sign b = eqb b (code "+") || eqb b (code "-")

-- ASCII letters and digits
unfoldable pub is_alphanumeric : ℕ → Bool
is_alphanumeric b = between (code "0") (code "9") b || (between (code "A") (code "Z") b || between (code "a") (code "z") b)

-- a plain byte of a word: no white space, no `:`, and below 128
unfoldable pub is_plain : ℕ → Bool
is_plain b = not (is_space b) && not (eqb b (code ":")) && ltb b 128

-- the small letter of a capital letter; any other byte as it is
unfoldable pub lower_of : ℕ → ℕ
lower_of b = cond (between (code "A") (code "Z") b) (b + 32) b

-- every byte is below 128
unfoldable pub ascii : List ℕ → Bool
ascii [] = true
ascii (b ∷ s) = ltb b 128 && ascii s

-- the same bytes
unfoldable pub same : List ℕ → List ℕ → Bool
same [] [] = true
same [] (y ∷ t) = false
same (x ∷ s) [] = false
same (x ∷ s) (y ∷ t) = eqb x y && same s t

-- the same in any letter case
unfoldable pub same_letters : List ℕ → List ℕ → Bool
same_letters [] [] = true
same_letters [] (y ∷ t) = false
same_letters (x ∷ s) [] = false
same_letters (x ∷ s) (y ∷ t) = eqb (lower_of x) (lower_of y) && same_letters s t
