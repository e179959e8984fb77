-- `text::words::Words::take` meets its contract: a word starts before the end of the text, or there is none.
use Rattle.std.specs.Prelude.{None, Some}
use mathlib.Core.Path.{◌≡◌}
use mathlib.Core.Bool.{Bool}
use mathlib.Core.List.{List}
use Prim.Native.Nat.{ℕ, ◌≤◌, ◌<◌}
use borrow.Author.Tests.{lt-ltb, le-ltb}
use lib.ListN.{length}
use Rattle.text.specs.Places.{no, past}
use Rattle.text.specs.Words.{take_word}
use Rattle.text.proofs.words.Words.take.Goals as goal

module _ (p : ℕ → Bool) (s : List ℕ) (at start : ℕ) (e : start ≡ past p s at) where
  take_word_of_lt : (end : ℕ) → start < length s → end ≡ past (no p) s start → Some (record { start = start; end = end }, record { at = end }) ≡ take_word p s at
  unfolding take_word
  take_word_of_lt end h f = rw (← e, lt-ltb _ _ h, ← f)

  take_word_of_le : length s ≤ start → None ≡ take_word p s at
  unfolding take_word
  take_word_of_le h = rw (← e, le-ltb _ _ h)

pub returns-then-start-s : goal.returns-then-start-s
returns-then-start-s g c = take_word_of_lt _ _ _ _ c.past-start.ensures _ c.if-start-s.true c.past-end.ensures

pub returns-else-start-s : goal.returns-else-start-s
returns-else-start-s g c = take_word_of_le _ _ _ _ c.past-start.ensures c.if-start-s.false
