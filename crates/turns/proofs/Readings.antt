-- What a reading answers in the end, along its way: at the start, past a word that is no count, past a pair, and with nothing left.
-- In order: pairs subtracted one by one; the laws of a reading.
-- Assumes nothing.
use Rattle.std.specs.Prelude.{Err, None, Ok, Option, Result, Some}
use Rattle.std.specs.Option.{ok_or}
use mathlib.Core.Path.{◌≡◌, refl, sym, ◌∙◌}
use mathlib.Core.Bool.{Bool, true, false, ◌&&◌, ◌||◌, and_assoc, and-true, or-false, or_assoc}
use mathlib.Core.List.{List, [], ◌∷◌}
use Prim.Native.Nat.{ℕ, ◌+◌, ◌≤◌, ◌<◌}
use native.Mathlib.Nat.{zero-add, add-zero}
use native.Mathlib.Omega.{arith}
use borrow.Author.Tests.{lt-ltb, lt-leb}
use lib.ListN.{length}
use Rattle.text.proofs.Lists.{by_test}
use Rattle.time.specs.Answers.{time_marked, unmarked}
use Rattle.time.specs.Range.{time_in_range}
use Rattle.time.specs.declared.Refusal.{Refusal}
use Rattle.time.specs.declared.Refusal.TheVariants.{Missing, Current}
use Rattle.relative.specs.Pairs.{known, is_known}
use Rattle.relative.specs.Steps.{step, steps}
use Rattle.relative.specs.Relative.{from, verdict}
use Rattle.relative.specs.declared.pair.Pair.{Pair}
use Rattle.relative.proofs.Texts.{steps_refused, Good, steps_good, Clear, steps_clear}
use Rattle.turns.specs.Reading.{subtracted, read_on, AnswersBy}
use Rattle.turns.specs.declared.reading.Reading.{Reading}
use Rattle.time.specs.declared.Time.{Time}

-- ---- pairs one by one
subtracted_refused : (ps : List Pair) (r : Refusal) → subtracted ps (Err r) ≡ Err r
unfolding subtracted
subtracted_refused [] r = refl
subtracted_refused (p ∷ ps) r = refl

subtracted-cons : (p : Pair) (ps : List Pair) (a : Result Time Refusal) → subtracted ps (subtracted (p ∷ []) a) ≡ subtracted (p ∷ ps) a
unfolding subtracted
subtracted-cons p ps (Ok x) = refl
subtracted-cons p ps (Err r) = subtracted_refused ps r

-- from a time in range without the mark they are the steps of the first reader
subtracted_steps : (ps : List Pair) (a : Result Time Refusal) → Good a → Clear a → subtracted ps a ≡ steps ps a
unfolding subtracted from steps time_in_range
subtracted_steps [] a g c = refl
subtracted_steps (p ∷ ps) (Ok x) g c =
    let y : Result Time Refusal = Ok (unmarked x) in
    rw g (subtracted_steps ps (step p y) (steps_good (p ∷ []) y g) (steps_clear (p ∷ []) y refl))
    ∙ (λ i. steps ps (step p (Ok (time_marked x.seconds x.offset (sym c i)))))
subtracted_steps (p ∷ ps) (Err r) g c = sym (steps_refused (p ∷ ps) r)

-- from a current time
subtracted-ok_or : (current : Option Time) (p : Pair) (ps : List Pair) → subtracted (p ∷ ps) (ok_or current Missing) ≡ from current (p ∷ ps)
unfolding subtracted from time_in_range
subtracted-ok_or None p ps = refl
subtracted-ok_or (Some x) p ps =
    by_test (time_in_range x)
    (λ e. subtracted_steps (p ∷ ps) (Ok (unmarked x)) e refl ∙ rw e)
    (λ e. rw e (subtracted_refused ps Current))

module _ (bound : ℕ) where
  -- ---- nothing is read yet
  pub read_on-start : (current : Option Time) → AnswersBy bound (record { pairs = 0; known = true; ago = false; answer = ok_or current Missing }) (λ ps ago. verdict bound (length ps) (known ps || ago) (from current ps))
  unfolding read_on
  read_on-start current [] ago = refl
  read_on-start current (p ∷ ps) ago = rw (zero-add, subtracted-ok_or current p ps)

  module _ (r : Reading) where
    -- ---- a word passed over, which may set the mark
    pub read_on-past : (mark : Bool) → AnswersBy bound (record { pairs = r.pairs; known = r.known; ago = r.ago || mark; answer = r.answer }) (λ ps ago. read_on bound r ps (mark || ago))
    unfolding read_on
    read_on-past mark ps ago = rw or_assoc

    -- ---- a pair: it is counted and subtracted
    module _ (p : Pair) where
      pub read_on-pair : AnswersBy bound (record { pairs = r.pairs + 1; known = r.known && is_known p.unit; ago = r.ago; answer = subtracted (p ∷ []) r.answer }) (λ ps ago. read_on bound r (p ∷ ps) ago)
      unfolding read_on known
      read_on-pair ps ago =
          let n : r.pairs + 1 + length ps ≡ r.pairs + length (p ∷ ps) = omega arith in
          rw (n, and_assoc, subtracted-cons p ps r.answer)

      -- or it is one too many, and the answer is 5, or 2 if its units are not allowed
      pub read_on-beyond : (a : Result Time Refusal) (k : ℕ) → bound ≤ r.pairs → bound < k → AnswersBy bound (record { pairs = k; known = r.known && is_known p.unit; ago = r.ago; answer = a }) (λ ps ago. read_on bound r (p ∷ ps) ago)
      unfolding read_on known
      read_on-beyond a k h j ps ago =
          let n : ℕ = k + length ps in
          let m : ℕ = r.pairs + length (p ∷ ps) in
          rw (lt-ltb 0 n (omega arith), lt-ltb 0 m (omega arith), lt-leb n bound (omega arith), lt-leb m bound (omega arith), and_assoc)

    -- ---- nothing is left
    pub read_on-end : read_on bound r [] false ≡ verdict bound r.pairs (r.known || r.ago) r.answer
    unfolding read_on known subtracted
    read_on-end = rw (add-zero, and-true, or-false)
