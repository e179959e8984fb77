-- RULES 7.1, 7.6, 7.7, 2.2, 2.3: what the reader of relative dates answers, with the bound on the number of pairs as a parameter.
-- Refusals are tested in the order 1, 2, 5, 3, 4, 6. The current time is looked at only once a text is known to be relative.
-- Assumes nothing.
use Rattle.std.specs.Prelude.{ℕ, Bool, cond, not, ◌&&◌, ◌||◌, List, [], ◌∷◌, leb, ltb, length, Err, None, Ok, Option, Result, Some}
use Rattle.text.specs.Bytes.{ascii}
use Rattle.text.specs.Trim.{trim}
use Rattle.time.specs.Answers.{unmarked}
use Rattle.time.specs.Range.{time_in_range}
use Rattle.time.specs.declared.Refusal.TheVariants.{NotAscii, Form, Missing as NoCurrent, Current, Pairs}
use Rattle.relative.specs.Words.{is}
use Rattle.relative.specs.Pairs.{pairs_of, ago_in, known}
use Rattle.relative.specs.Steps.{steps}
use Rattle.relative.specs.declared.pair.Unit.TheVariants.{Seconds}
use Rattle.relative.specs.declared.pair.Pair.{Pair}
use Rattle.time.specs.declared.Refusal.{Refusal}
use Rattle.time.specs.declared.Time.{Time}

-- RULES 1.3: the bound of 256 pairs
abbrev pub max_pairs : ℕ
max_pairs = 256

-- the pairs applied from the current time, whose mark is not looked at: 3 if it is missing, 4 if it is out of range
unfoldable pub from : Option Time → List Pair → Result Time Refusal
from None ps = Err NoCurrent
from (Some x) ps = cond (time_in_range x) (steps ps (Ok (unmarked x))) (Err Current)

-- `now`, `today` or `yesterday`, trimmed and in any letter case: how many seconds before the current time
unfoldable pub named_of : List ℕ → Option ℕ
named_of s =
    let t = trim s in
    cond (is t "now" || is t "today") (Some 0) (cond (is t "yesterday") (Some 86400) None)

-- the answer a of n pairs: but 2 without a pair, 2 for units that are not allowed, then 5 for too many pairs
abbrev pub verdict : ℕ → ℕ → Bool → Result Time Refusal → Result Time Refusal
verdict bound n allowed a = cond (not (ltb 0 n && allowed)) (Err Form) (cond (not (leb n bound)) (Err Pairs) a)

-- any other text goes by its pairs; an unknown unit is allowed with the mark
unfoldable pub by_pairs : ℕ → List ℕ → Option Time → Result Time Refusal
by_pairs bound s current = let ps = pairs_of s in verdict bound (length ps) (known ps || ago_in s) (from current ps)

abbrev pub answer_by_name : Option ℕ → ℕ → List ℕ → Option Time → Result Time Refusal
answer_by_name (Some k) bound s current = from current (record { count = k; unit = Seconds 1 } ∷ [])
answer_by_name None bound s current = by_pairs bound s current

unfoldable pub relative_of : ℕ → List ℕ → Option Time → Result Time Refusal
relative_of bound s current = cond (ascii s) (answer_by_name (named_of s) bound s current) (Err NotAscii)
