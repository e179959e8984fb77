-- RULES 12.11: one count of months or years, read at two current times: how it is typed, and what is asked of the two times. No
-- contract cites these.
-- Assumes nothing.
use Rattle.std.specs.Prelude.{ℕ, ◌-◌, ◌≡◌, Bool, true, false, List, [], ◌∷◌, pos, ◌-ℤ◌, ◌≤ℤ◌, Ok, Some}
use Rattle.text.specs.Bytes.{ascii}
use Rattle.time.specs.declared.Time.{Time}
use Rattle.relative.specs.Words.{words_of, is, count_of, unit_of}
use Rattle.relative.specs.Relative.{relative_of}
use Rattle.relative.specs.Months.{date_at, month_at, month_days}
use Rattle.relative.specs.declared.pair.Unit.TheVariants.{Months}

-- no word, or `ago` alone
abbrev pub may_be_ago : List (List ℕ) → Bool
may_be_ago [] = true
may_be_ago (w ∷ []) = is w "ago"
may_be_ago (w ∷ v ∷ ws) = false

-- an ASCII text whose words are a count, a unit of k months, and perhaps `ago`; a unit of 1 month is a month, one of 12 a year
pub record TypedCount (s : List ℕ) (n k : ℕ) : Type 0 where
  pub plain : ascii s ≡ true
  pub word : List ℕ
  pub unit : List ℕ
  pub end : List (List ℕ)
  pub words : words_of s ≡ word ∷ unit ∷ end
  pub count : count_of word ≡ Some n
  pub months : unit_of unit ≡ Months k
  pub ago : may_be_ago end ≡ true

-- two current times at the same offset, the first not after the second; at x the text s answers a, and at y it answers b
pub record ReadTwice (bound : ℕ) (s : List ℕ) (x y a b : Time) : Type 0 where
  pub same_offset : x.offset ≡ y.offset
  pub in_order : x.seconds ≤ℤ y.seconds
  pub first : relative_of bound s (Some x) ≡ Ok a
  pub second : relative_of bound s (Some y) ≡ Ok b

-- two times in the same local month
pub record SameMonth (x y : Time) : Type 0 where
  pub year : (date_at x).year ≡ (date_at y).year
  pub month : (date_at x).month ≡ (date_at y).month

-- the days that run on where a time goes back n months: by so many days its local day is beyond the end of that month
abbrev pub surplus : Time → ℕ → ℕ
surplus x n = (date_at x).day - month_days (month_at (date_at x) -ℤ pos n)
