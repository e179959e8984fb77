-- RULES 12.10: two bounds on the number of pairs, for "any". The larger one answers as the smaller one does, unless that is 5
-- (`any_larger_bound_answers_alike`). A bound answers 5 exactly to a text that comes to the relative reader and is beyond the bound
-- (`any_refused_by_bound_iff`), and so to one that a larger bound reads there (`any_longer_text_is_5`).
-- Assumes nothing.
use Rattle.std.specs.Prelude.{Err, Ok, Option, Result}
use mathlib.Core.Path.{◌≡◌, refl, ap}
use mathlib.Core.Logic.{◌↔◌, inl, inr, ⊎_elim}
use mathlib.Core.Bool.{false, false≢true}
use mathlib.Core.List.{List}
use Prim.Native.Nat.{ℕ, ◌≤◌, ◌<◌}
use native.Mathlib.Omega.{arith}
use lib.ListN.{length}
use Rattle.text.specs.Bytes.{ascii}
use Rattle.text.proofs.Lists.{by_test}
use Rattle.time.specs.Answers.{answer_number}
use Rattle.time.specs.declared.Time.{Time as TimeValue}
use Rattle.time.specs.declared.Refusal.TheVariants.{Pairs}
use Rattle.header.specs.Raw.{Limits, raw_of}
use Rattle.iso.specs.Iso.{iso_of}
use Rattle.relative.specs.Pairs.{pairs_of}
use Rattle.relative.specs.Relative.{relative_of}
use Rattle.relative.specs.Bounds.{AlikeBut5}
use Rattle.relative.proofs.Bounds.{larger_bound_answers_alike, refused_by_bound_iff, longer_text_is_5}
use Rattle.dates.specs.Any.{is_settled, or_else, plain_of, any_of}
use Rattle.dates.specs.Theorems.{AnyBeyondBound}
use Rattle.dates.proofs.Numbers.{iso_number, raw_number, plain_number_lem}
use Rattle.dates.proofs.TooLarge.{neither_settled}
use Rattle.time.specs.declared.Refusal.{Refusal}
use Rattle.time.specs.declared.Time.{Time}

-- ---- two bounds
or_else-alike : (x a b : Result Time Refusal) → AlikeBut5 a b → AlikeBut5 (or_else x a) (or_else x b)
or_else-alike x a b h = by_test (is_settled x) (λ e. rw e (inl refl)) (λ e. rw e h)

-- 5 ends the search
alike-or_else : (a b x : Result Time Refusal) → AlikeBut5 a b → AlikeBut5 (or_else a x) (or_else b x)
alike-or_else a b x h = ⊎_elim (λ same. inl (ap (λ (y : Result Time Refusal). or_else y x) same)) (λ five. inr (rw five)) h

pub any_larger_bound_answers_alike : (a b : ℕ) (l : Limits) (s : List ℕ) (now : Option Time) → a ≤ b → AlikeBut5 (any_of a l s now) (any_of b l s now)
unfolding any_of
any_larger_bound_answers_alike a b l s now h =
    by_test (ascii s)
    (λ e.
    rw e
    (or_else-alike (plain_of l s) _ _ (or_else-alike (iso_of s) _ _ (alike-or_else (relative_of a s now) (relative_of b s now) (raw_of l s) (larger_bound_answers_alike a b s now h)))))
    (λ e. rw e (inl refl))

-- ---- 5
-- a step that is not 5 leaves it to the next
five_of_or_else : (a b : Result Time Refusal) → (a ≡ Err Pairs → ⊥) → or_else a b ≡ Err Pairs → (is_settled a ≡ false) × (b ≡ Err Pairs)
five_of_or_else a b n e = by_test (is_settled a) (λ k. absurd (n (rw k at e))) (λ k. (k, rw k at e))

pub any_refused_by_bound_iff : (bound : ℕ) (l : Limits) (s : List ℕ) (now : Option Time) → (any_of bound l s now ≡ Err Pairs) ↔ AnyBeyondBound bound l s
unfolding any_of
any_refused_by_bound_iff bound l s now = (
  λ e.
      by_test (ascii s)
      (λ a.
      let p = five_of_or_else (plain_of l s) _ (λ k. false≢true (rw k at (plain_number_lem l s))) (rw a at e) in
      let i = five_of_or_else (iso_of s) _ (λ k. false≢true (rw k at (iso_number s))) p.1 in
      by_test (is_settled (relative_of bound s now))
      (λ k. record { reached = (neither_settled (plain_of l s) (iso_of s)).1 (p.0, i.0); beyond = (refused_by_bound_iff bound s now).0 (rw k at i.1) })
      (λ k. let r : raw_of l s ≡ Err Pairs = rw k at i.1 in absurd (false≢true (rw r at (raw_number l s)))))
      (λ a. absurd (omega (arith, ap answer_number (rw a at e)))),
  λ h.
      let p = (neither_settled (plain_of l s) (iso_of s)).0 h.reached in
      rw (h.beyond.plain, p.0, p.1, (refused_by_bound_iff bound s now).1 h.beyond),
)

pub any_longer_text_is_5 : (a b : ℕ) (l : Limits) (s : List ℕ) (now : Option Time) (t : TimeValue)
    → is_settled (or_else (plain_of l s) (iso_of s)) ≡ false → a < length (pairs_of s) → relative_of b s now ≡ Ok t → any_of a l s now ≡ Err Pairs
any_longer_text_is_5 a b l s now t reached h e =
    (any_refused_by_bound_iff a l s now).1 (record { reached = reached; beyond = (refused_by_bound_iff a s now).0 (longer_text_is_5 a b s now t h e) })
