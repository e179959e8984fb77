-- RULES 12.10: two bounds on the number of pairs, for the second reader. A text of more than 4,096 bytes is refused by either bound; to any
-- other the second reader answers as the first.
-- Assumes nothing.
use Rattle.std.specs.Prelude.{Err, Ok, Option}
use mathlib.Core.Path.{◌≡◌, refl, ap, ◌∙◌}
use mathlib.Core.Logic.{◌↔◌, inl}
use mathlib.Core.Bool.{◌&&◌}
use mathlib.Core.List.{List}
use Prim.Native.Nat.{ℕ, ◌≤◌, ◌<◌}
use native.Mathlib.Omega.{arith}
use borrow.Author.Tests.{ltb-false}
use lib.Dec.{ltb}
use lib.ListN.{length}
use Rattle.text.specs.Bytes.{ascii}
use Rattle.text.proofs.Lists.{by_test}
use Rattle.time.specs.Answers.{answer_number}
use Rattle.time.specs.declared.Time.{Time as TimeValue}
use Rattle.time.specs.declared.Refusal.TheVariants.{Pairs}
use Rattle.relative.specs.Pairs.{pairs_of}
use Rattle.relative.specs.Bounds.{AlikeBut5, BeyondBound}
use Rattle.relative.proofs.Bounds.{larger_bound_answers_alike, refused_by_bound_iff, longer_text_is_5}
use Rattle.turns.specs.Turns.{max_length, turns_of}
use Rattle.turns.proofs.Alike.{turns_as_relative}
use Rattle.time.specs.declared.Time.{Time}

pub turns_larger_bound_answers_alike : (a b : ℕ) (s : List ℕ) (current : Option Time) → a ≤ b → AlikeBut5 (turns_of a s current) (turns_of b s current)
unfolding turns_of
turns_larger_bound_answers_alike a b s current h = by_test (ascii s && ltb max_length (length s)) (λ e. rw e (inl refl)) (λ e. rw e (larger_bound_answers_alike a b s current h))

-- 5 exactly to a text of at most 4,096 bytes that is beyond the bound
pub turns_refused_by_bound_iff : (bound : ℕ) (s : List ℕ) (current : Option Time) → (turns_of bound s current ≡ Err Pairs) ↔ ((length s ≤ max_length) × BeyondBound bound s)
unfolding turns_of
turns_refused_by_bound_iff bound s current = (
  λ e.
      by_test (ascii s && ltb max_length (length s)) (λ l. absurd (omega (arith, ap answer_number (rw l at e))))
      (λ l.
      let beyond = (refused_by_bound_iff bound s current).0 (rw l at e) in
      (ltb-false max_length (length s) (rw beyond.plain at l), beyond)),
  λ h. turns_as_relative bound s current h.0 ∙ (refused_by_bound_iff bound s current).1 h.1,
)

pub turns_longer_text_is_5 : (a b : ℕ) (s : List ℕ) (current : Option Time) (t : TimeValue) → a < length (pairs_of s) → turns_of b s current ≡ Ok t → turns_of a s current ≡ Err Pairs
unfolding turns_of
turns_longer_text_is_5 a b s current t h e =
    by_test (ascii s && ltb max_length (length s)) (λ l. absurd (omega (arith, ap answer_number (rw l at e)))) (λ l. rw l (longer_text_is_5 a b s current t h (rw l at e)))
