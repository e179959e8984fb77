-- RULES 7.2, 7.3, 7.5: words, and what a single word means: a count or a unit. A word is the list of its bytes.
-- Assumes nothing.
use Rattle.std.specs.Prelude.{ℕ, ◌-◌, ◌^◌, Bool, cond, List, [], ◌∷◌, eqb, length, get_or, take, None, Option, Some}
use Prim.Native.Char.{code}
use Prim.Native.String.{String}
use Rattle.text.specs.Bytes.{lower_of, same_letters}
use Rattle.text.specs.Quote.{bytes}
use Rattle.text.specs.Words.{words}
use Rattle.text.specs.Number.{digits_of, fit}
use Rattle.text.specs.Bytes.{is_alphanumeric}
use Rattle.text.specs.Places.{no}
use Rattle.relative.specs.declared.pair.Unit.{Unit}
use Rattle.relative.specs.declared.pair.Unit.TheVariants.{Seconds, Months, Unknown}

-- words: runs of ASCII letters and digits
unfoldable pub words_of : List ℕ → List (List ℕ)
words_of s = words (no is_alphanumeric) s

-- a word, compared in any letter case
abbrev pub is : List ℕ → String → Bool
is w name = same_letters w (bytes name)

-- the value of the first name that the word is
abbrev pub value_among : {T : Type 0} → List (List ℕ × T) → List ℕ → Option T
value_among [] w = None
value_among (n ∷ ns) w = cond (same_letters w n.0) (Some n.1) (value_among ns w)

-- `one` to `ten`, or `last`, which is 1; otherwise the other number
unfoldable pub spelled : List ℕ → Option ℕ → Option ℕ
spelled w other =
    cond (is w "one") (Some 1) (cond (is w "two") (Some 2) (cond (is w "three") (Some 3) (cond (is w "four") (Some 4)
    (cond (is w "five") (Some 5) (cond (is w "six") (Some 6) (cond (is w "seven") (Some 7) (cond (is w "eight") (Some 8)
    (cond (is w "nine") (Some 9) (cond (is w "ten") (Some 10) (cond (is w "last") (Some 1) other))))))))))

-- a count: one of these names, or digits that fit 64 signed bits
unfoldable pub count_of : List ℕ → Option ℕ
count_of w = spelled w (fit (2 ^ 63 - 1) (digits_of w))

-- a unit loses one final `s` or `S`
unfoldable pub singular : List ℕ → List ℕ
singular w = let n : ℕ = length w - 1 in cond (eqb (lower_of (get_or w n 0)) (code "s")) (take n w) w

-- the units second, minute, hour, day, week, month, year, with the seconds or the months of each
abbrev pub unit_names : List (String × Unit)
unit_names =
    ("second", Seconds 1) ∷ ("minute", Seconds 60) ∷ ("hour", Seconds 3600) ∷ ("day", Seconds 86400) ∷ ("week", Seconds 604800) ∷
    ("month", Months 1) ∷ ("year", Months 12) ∷ []

-- the first unit that has the name w
abbrev pub unit_among : List (String × Unit) → List ℕ → Unit
unit_among [] w = Unknown
unit_among (n ∷ ns) w = cond (is w n.0) n.1 (unit_among ns w)

unfoldable pub unit_named : List ℕ → Unit
unit_named w = unit_among unit_names w

unfoldable pub unit_of : List ℕ → Unit
unit_of w = unit_named (singular w)
