-- RULES 12.10: two bounds on the number of pairs. The larger one answers as the smaller one does, unless that is 5
-- (`larger_bound_answers_alike`), so a time by the smaller one is the answer by the larger one too (`read_by_larger_bound`). A bound
-- answers 5 exactly to the texts that are beyond it (`refused_by_bound_iff`). A text that a larger bound reads and that has more pairs than
-- a smaller one is 5 by the smaller (`longer_text_is_5`): its first pairs are never used.
-- Assumes nothing.
use Rattle.std.specs.Prelude.{Err, None, Ok, Option, Result, Some}
use mathlib.Core.Path.{◌≡◌, refl, sym, ap, ◌∙◌}
use mathlib.Core.Logic.{◌↔◌, inl, inr, ⊎_elim}
use mathlib.Core.Bool.{true, not, ◌&&◌, ◌||◌, false≢true}
use mathlib.Core.List.{List, [], ◌∷◌}
use Prim.Native.Nat.{ℕ, ◌≤◌, ◌<◌}
use native.Mathlib.Omega.{arith}
use borrow.Author.Tests.{leb-true, leb-false, le-leb, lt-leb, lt-ltb}
use lib.Dec.{leb, ltb}
use lib.ListN.{length}
use Rattle.text.specs.Bytes.{ascii}
use Rattle.text.proofs.Lists.{by_test, both}
use Rattle.time.specs.Answers.{answer_number}
use Rattle.time.specs.declared.Time.{Time as TimeValue}
use Rattle.time.specs.declared.Refusal.TheVariants.{Pairs}
use Rattle.relative.specs.Pairs.{pairs_of, ago_in, known}
use Rattle.relative.specs.Relative.{named_of, by_pairs, answer_by_name, relative_of}
use Rattle.relative.specs.declared.pair.Unit.TheVariants.{Seconds}
use Rattle.relative.specs.declared.pair.Pair.{Pair}
use Rattle.relative.specs.Bounds.{AlikeBut5, BeyondBound}
use Rattle.relative.proofs.Texts.{from_number}
use Rattle.relative.proofs.Named.{named_of_of_pair}
use Rattle.time.specs.declared.Refusal.{Refusal}
use Rattle.time.specs.declared.Time.{Time}

-- ---- answers that are alike
pub read_by_larger_bound : (smaller larger : Result Time Refusal) (t : TimeValue) → AlikeBut5 smaller larger → smaller ≡ Ok t → larger ≡ Ok t
read_by_larger_bound smaller larger t h e = ⊎_elim (λ same. same ∙ e) (λ five. absurd (omega (arith, ap answer_number (sym five ∙ e)))) h

-- ---- two bounds
by_pairs-bounds : (a b : ℕ) (s : List ℕ) (current : Option Time) → a ≤ b → AlikeBut5 (by_pairs a s current) (by_pairs b s current)
unfolding by_pairs
by_pairs-bounds a b s current h =
    let ps = pairs_of s in
    by_test (not (ltb 0 (length ps) && (known ps || ago_in s))) (λ e. inl (rw e))
    (λ e. by_test (leb (length ps) a)
    (λ l. let m : length ps ≤ a = leb-true (length ps) a l in inl (rw (e, l, le-leb (length ps) b (omega arith))))
    (λ l. inr (rw (e, l))))

by_name-bounds : (x : Option ℕ) (a b : ℕ) (s : List ℕ) (current : Option Time) → a ≤ b → AlikeBut5 (answer_by_name x a s current) (answer_by_name x b s current)
by_name-bounds (Some k) a b s current h = inl refl
by_name-bounds None a b s current h = by_pairs-bounds a b s current h

pub larger_bound_answers_alike : (a b : ℕ) (s : List ℕ) (current : Option Time) → a ≤ b → AlikeBut5 (relative_of a s current) (relative_of b s current)
unfolding relative_of
larger_bound_answers_alike a b s current h = by_test (ascii s) (λ e. rw e (by_name-bounds (named_of s) a b s current h)) (λ e. inl (rw e))

-- ---- 5
module _ (bound : ℕ) (s : List ℕ) (current : Option Time) where
  -- the pairs applied are never 5, so it is the bound that refuses
  beyond_of_by_name : (x : Option ℕ) → ascii s ≡ true → answer_by_name x bound s current ≡ Err Pairs → BeyondBound bound s
  unfolding by_pairs
  beyond_of_by_name (Some k) a e = let named : List Pair = record { count = k; unit = Seconds 1 } ∷ [] in absurd (false≢true (rw e at (from_number current named)))
  beyond_of_by_name None a e =
      let ps = pairs_of s in
      by_test (ltb 0 (length ps) && (known ps || ago_in s))
      (λ h.
      by_test (leb (length ps) bound) (λ l. absurd (false≢true (rw (rw (h, l) at e) at (from_number current ps))))
      (λ l. record { plain = a; more = leb-false (length ps) bound l; allowed = (both (ltb 0 (length ps)) (known ps || ago_in s) h).1 }))
      (λ h. absurd (omega (arith, ap answer_number (rw h at e))))

  pub refused_by_bound_iff : (relative_of bound s current ≡ Err Pairs) ↔ BeyondBound bound s
  unfolding relative_of by_pairs
  refused_by_bound_iff = (
    λ e. by_test (ascii s) (λ a. beyond_of_by_name (named_of s) a (rw a at e)) (λ a. absurd (omega (arith, ap answer_number (rw a at e)))),
    λ h.
        let n : ℕ = length (pairs_of s) in
        let some : 0 < n = omega (arith, h.more) in
        rw (h.plain, named_of_of_pair s some, lt-ltb 0 n some, h.allowed, lt-leb n bound h.more),
  )

-- a text that a larger bound reads has the units that are allowed
pub longer_text_is_5 : (a b : ℕ) (s : List ℕ) (current : Option Time) (t : TimeValue) → a < length (pairs_of s) → relative_of b s current ≡ Ok t → relative_of a s current ≡ Err Pairs
unfolding relative_of by_pairs
longer_text_is_5 a b s current t h e =
    let n : ℕ = length (pairs_of s) in
    let ok = known (pairs_of s) || ago_in s in
    let some : 0 < n = omega (arith, h) in
    by_test (ascii s)
    (λ x.
    by_test ok (λ y. (refused_by_bound_iff a s current).1 (record { plain = x; more = h; allowed = y }))
    (λ y. absurd (omega (arith, ap answer_number (rw (x, named_of_of_pair s some, lt-ltb 0 n some, y) at e)))))
    (λ x. absurd (omega (arith, ap answer_number (rw x at e))))
