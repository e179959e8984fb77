-- The mark of `-0000` and relative dates (RULES 1.5 and 5.10): every answer is without it (`relative_clear`), and the mark of a current time
-- is not looked at (`current_mark_ignored`).
-- Assumes nothing.
use Rattle.std.specs.Prelude.{None, Ok, Option, Some}
use mathlib.Core.Path.{◌≡◌, refl}
use mathlib.Core.Bool.{false}
use mathlib.Core.List.{List}
use Prim.Native.Nat.{ℕ}
use Rattle.text.proofs.Lists.{by_test}
use Rattle.time.specs.Answers.{unmarked}
use Rattle.time.specs.Range.{time_in_range}
use Rattle.time.specs.declared.Time.{Time}
use Rattle.relative.specs.Relative.{from, named_of, by_pairs, answer_by_name, relative_of}
use Rattle.relative.specs.declared.pair.Pair.{Pair}
use Rattle.relative.proofs.Texts.{Clear, steps_clear, relative_of-keeps}

-- ---- every answer is without the mark
from_clear : (current : Option Time) (ps : List Pair) → Clear (from current ps)
unfolding from
from_clear None ps = tt
from_clear (Some x) ps = by_test (time_in_range x) (λ e. rw e (steps_clear ps (Ok (unmarked x)) refl)) (λ e. rw e tt)

pub relative_clear : (bound : ℕ) (s : List ℕ) (current : Option Time) (t : Time) → relative_of bound s current ≡ Ok t → t.mark ≡ false
relative_clear bound s current t e = rw e at (relative_of-keeps Clear bound s current tt tt tt (from_clear current))

-- ---- the mark of a current time is not looked at
by_name-unmarked : (name : Option ℕ) (bound : ℕ) (s : List ℕ) (x : Time) → answer_by_name name bound s (Some x) ≡ answer_by_name name bound s (Some (unmarked x))
unfolding by_pairs from time_in_range
by_name-unmarked (Some k) bound s x = refl
by_name-unmarked None bound s x = refl

pub current_mark_ignored : (bound : ℕ) (s : List ℕ) (x : Time) → relative_of bound s (Some x) ≡ relative_of bound s (Some (unmarked x))
unfolding relative_of
current_mark_ignored bound s x = rw (by_name-unmarked (named_of s) bound s x)
