-- The lines of a list, checked one by one. In order: the first line of what is left is at fault, or steps back, or is passed; the state of the
-- check from the start, by one line more, and at its end; both lists.
-- Assumes nothing.
use Rattle.std.specs.Prelude.{None, Option, Some, Ok, Result}
use mathlib.Core.Path.{◌≡◌, refl, sym, ap, ◌∙◌}
use mathlib.Core.Bool.{true, false}
use mathlib.Core.List.{List, [], ◌∷◌}
use Prim.Native.Nat.{ℕ, suc, ◌+◌, ◌≤◌, ◌<◌}
use native.Mathlib.Omega.{arith}
use borrow.Author.Tests.{le-leb, lt-leb}
use lib.IntN.{ℤ}
use lib.ListN.{length, drop, length-drop, drop_of_length-le}
use lib.Seq.{drop-drop}
use Rattle.text.specs.Places.{first_place, before, has}
use Rattle.text.specs.Lines.{newline}
use Rattle.text.proofs.Lists.{by_test}
use Rattle.stamps.specs.Lines.{line_of}
use Rattle.stamps.specs.Book.{last_piece, lines_in}
use Rattle.stamps.specs.Listing.{is_at_or_after}
use Rattle.stamps.specs.declared.line.Line.{Line}
use Rattle.stamps.specs.declared.line.Line.TheVariants.{Hull, Since}
use Rattle.stamps.proofs.Books.{behind, first_place-lt, lines_in-first, lines_in-open, ended_lines-open, ended_lines-nil}
use Rattle.merge.specs.Lists.{max_list, line_fault, lines_fault, lists_of, or_else, faulty}
use Rattle.merge.specs.Held.{hull_next, next_is, next_of}
use Rattle.merge.specs.declared.lists.Machine.{Machine}
use Rattle.merge.specs.declared.lists.Machine.TheVariants.{First, Second}
use Rattle.merge.specs.declared.lists.Fault.TheVariants.{TooLong, BadLine, StepBack}
use Rattle.merge.specs.declared.lists.ListError.{ListError}
use Rattle.merge.proofs.FrontLines.{NextParts, next_parts}

-- ---- the first line of what is left
module _ (bound : ℕ) (m : Machine) (n : ℕ) (above : Option ℤ) (s : List ℕ) where
  -- it is no `hull` line, or it has no newline
  fault_bad : 0 < length s → next_of bound s ≡ None → line_fault m n above (lines_in bound s) ≡ faulty m (BadLine n)
  unfolding next_of line_fault
  fault_bad some e =
      by_test (has newline s) (λ y. ap (line_fault m n above) (lines_in-first s y bound) ∙ by_line (line_of bound (before newline s)) (rw y at e))
      (λ y. ap (line_fault m n above) (lines_in-open bound s (ended_lines-open s y)) ∙ last-piece s some)
    where
      by_line : (x : Option Line) → next_is x (first_place newline s + 1) ≡ None → line_fault m n above (x ∷ lines_in bound (behind s)) ≡ faulty m (BadLine n)
      by_line (Some (Hull h)) q = cc
      by_line (Some (Since x)) q = refl
      by_line None q = refl

      last-piece : (t : List ℕ) → 0 < length t → line_fault m n above (last_piece t) ≡ faulty m (BadLine n)
      last-piece [] h = absurd (omega arith)
      last-piece (b ∷ t) h = refl

  module _ (z : ℤ) (size : ℕ) (p : NextParts bound s z size) where
    lines_are : lines_in bound s ≡ Some (Hull p.hull) ∷ lines_in bound (behind s)
    lines_are = lines_in-first s p.ended bound ∙ ap (λ (x : Option Line). x ∷ lines_in bound (behind s)) p.line_is

    fault-step : is_at_or_after above z ≡ false → line_fault m n above (lines_in bound s) ≡ faulty m (StepBack n)
    unfolding line_fault
    fault-step e = ap (line_fault m n above) lines_are ∙ rw (p.seconds_are, e)

    fault_passed : is_at_or_after above z ≡ true → line_fault m n above (lines_in bound s) ≡ line_fault m (suc n) (Some z) (lines_in bound (behind s))
    unfolding line_fault
    fault_passed e = ap (line_fault m n above) lines_are ∙ rw (p.seconds_are, e)

-- ---- the state of the check: n lines, which end at the place `at`, are passed, and the last of them has these seconds
pub record Checking (bound : ℕ) (m : Machine) (list : List ℕ) (at n : ℕ) (above : Option ℤ) : Type 0 where
  pub within : at ≤ length list
  pub fewer : n ≤ at
  pub fault_is : lines_fault bound m list ≡ line_fault m (n + 1) above (lines_in bound (drop at list))

pub checking_start : (bound : ℕ) (m : Machine) (list : List ℕ) → Checking bound m list 0 0 None
unfolding lines_fault
checking_start bound m list = record { within = omega arith; fewer = omega arith; fault_is = refl }

module _ {bound : ℕ} {m : Machine} {list : List ℕ} {at n : ℕ} {above : Option ℤ} (j : Checking bound m list at n above) where
  pub checking_end : length list ≤ at → Ok tt ≡ lines_fault bound m list
  unfolding line_fault
  checking_end h =
      let d : drop at list ≡ [] = drop_of_length-le list h in
      sym (j.fault_is ∙ ap (λ (s : List ℕ). line_fault m (n + 1) above (lines_in bound s)) d ∙ ap (line_fault m (n + 1) above) (lines_in-open bound [] ended_lines-nil))

  module _ (s : List ℕ) (is : s ≡ drop at list) where
    fault_here : lines_fault bound m list ≡ line_fault m (n + 1) above (lines_in bound s)
    fault_here = j.fault_is ∙ ap (λ (t : List ℕ). line_fault m (n + 1) above (lines_in bound t)) (sym is)

    pub checking_bad : at < length list → next_of bound s ≡ None → faulty m (BadLine (n + 1)) ≡ lines_fault bound m list
    checking_bad some e = sym (fault_here ∙ fault_bad bound m (n + 1) above s (omega (arith, ap length is, length-drop at list)) e)

    module _ (z : ℤ) (size : ℕ) (e : next_of bound s ≡ hull_next z size) where
      abbrev p : NextParts bound s z size
      p = next_parts bound s z size e

      pub checking-step-back : is_at_or_after above z ≡ false → faulty m (StepBack (n + 1)) ≡ lines_fault bound m list
      checking-step-back f = sym (fault_here ∙ fault-step bound m (n + 1) above s z size p f)

      pub size-pos : 0 < size
      size-pos = omega (arith, p.size_is)

      pub size_within : at + size ≤ length list
      size_within = omega (arith, p.size_is, first_place-lt s p.ended, ap length is, length-drop at list, j.within)

      pub checking_again : is_at_or_after above z ≡ true → Checking bound m list (at + size) (n + 1) (Some z)
      checking_again f =
          let d : behind s ≡ drop (at + size) list = (λ i. drop (sym p.size_is i) (is i)) ∙ drop-drop size at list in
          let k : suc (n + 1) ≡ n + 1 + 1 = omega arith in
          record {
            within = size_within;
            fewer = omega (arith, j.fewer, size-pos);
            fault_is = fault_here ∙ fault_passed bound m (n + 1) above s z size p f ∙ (λ i. line_fault m (k i) (Some z) (lines_in bound (d i)));
          }

-- ---- both lists
module _ (bound : ℕ) (first second : List ℕ) where
  pub first_too_long : max_list < length first → faulty First TooLong ≡ lists_of bound first second
  unfolding lists_of
  first_too_long h = rw (lt-leb (length first) max_list h)

  module _ (h : length first ≤ max_list) where
    pub second_too_long : max_list < length second → faulty Second TooLong ≡ lists_of bound first second
    unfolding lists_of
    second_too_long k = rw (le-leb (length first) max_list h, lt-leb (length second) max_list k)

    pub lists_by_lines : length second ≤ max_list → (v : Result (Unit {0}) ListError) → v ≡ lines_fault bound First first → or_else v (lines_fault bound Second second) ≡ lists_of bound first second
    unfolding lists_of
    lists_by_lines k v e = rw (le-leb (length first) max_list h, le-leb (length second) max_list k, e)
