-- RULES 12.8: the second reader answers as the first on each text of at most 4,096 bytes. RULES 7.12: a longer text is 2, after 1. The
-- contract of `parse` carries this to the code.
-- Assumes nothing.
use Rattle.std.specs.Prelude.{Err, Option}
use mathlib.Core.Path.{◌≡◌, sym, ◌∙◌}
use mathlib.Core.Bool.{true, false, and-false}
use mathlib.Core.List.{List}
use Prim.Native.Nat.{ℕ, ◌≤◌, ◌<◌}
use borrow.Author.Tests.{lt-ltb, le-ltb}
use lib.ListN.{length}
use Rattle.text.specs.Bytes.{ascii}
use Rattle.time.specs.declared.Refusal.TheVariants.{NotAscii, Form}
use Rattle.relative.specs.Relative.{relative_of}
use Rattle.turns.specs.Turns.{max_length, turns_of, AnswerAlike}
use Rattle.time.specs.declared.Time.{Time}
use Rattle.relative.proofs.parse.Reads as relative-parse
use Rattle.turns.proofs.parse.Reads as turns-parse

module _ (bound : ℕ) (s : List ℕ) (current : Option Time) where
  pub turns_as_relative : length s ≤ max_length → turns_of bound s current ≡ relative_of bound s current
  unfolding turns_of
  turns_as_relative h = rw (le-ltb max_length (length s) h, and-false)

  pub turns_too_long : ascii s ≡ true → max_length < length s → turns_of bound s current ≡ Err Form
  unfolding turns_of
  turns_too_long a h = rw (a, lt-ltb max_length (length s) h)

  pub turns-not-ascii : ascii s ≡ false → turns_of bound s current ≡ Err NotAscii
  unfolding turns_of relative_of
  turns-not-ascii a = rw a

-- the same of the two calls, by their contracts
pub readers_answer_alike : AnswerAlike (λ κ a. length a.0.now ≤ max_length) relative-parse.Post turns-parse.Post
readers_answer_alike κ a r s e f h p q = p ∙ sym (q ∙ turns_as_relative _ _ _ h)
