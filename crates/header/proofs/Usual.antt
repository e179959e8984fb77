-- The usual tail of a date, from the place where its number ends: a space, a sign, four digits, and nothing more. In order: its
-- bytes, and the cases of `usual_of`; its fields, which are numbers of either kind.
-- Assumes nothing.
use Rattle.std.specs.Prelude.{None, Some}
use mathlib.Core.Path.{◌≡◌, sym, ap, ◌∙◌}
use mathlib.Core.Bool.{Bool, true, false, ◌&&◌}
use mathlib.Core.List.{List}
use Prim.Native.Nat.{ℕ, ◌+◌}
use native.Mathlib.Omega.{arith}
use borrow.Author.Tests.{eqb-true, eq-eqb, ne_eqb}
use lib.Dec.{eqb}
use lib.IntN.{pos}
use lib.ListN.{length, drop, get_or, length-drop}
use lib.Seq.{get_or-drop}
use Rattle.text.specs.Bytes.{is_digit, is_sign}
use Rattle.text.proofs.Lists.{by_test, both}
use Rattle.header.specs.Offset.{five_or_seven, last_field, fields_of, Field, Signed, Byte}
use Rattle.header.specs.Header.{header_offset}
use Rattle.header.specs.Held.{two_digits, is_usual, usual_of}
use Rattle.header.specs.declared.offset.Fields.{Fields}
use Rattle.header.proofs.Offsets.{field_of_of_digits, fields_of_of_tests}

-- ---- its bytes
pub record Usual (s : List ℕ) (at : ℕ) : Type 0 where
  pub length_is : length s ≡ at + 6
  pub space : get_or s at 0 ≡ 32
  pub sign : is_sign (get_or s (at + 1) 0) ≡ true
  pub hours : (is_digit (get_or s (at + 2) 0) ≡ true) × (is_digit (get_or s (at + 3) 0) ≡ true)
  pub minutes : (is_digit (get_or s (at + 4) 0) ≡ true) × (is_digit (get_or s (at + 5) 0) ≡ true)

module _ (s : List ℕ) (at : ℕ) where
  abbrev pub tests : Bool
  tests = eqb (get_or s at 0) 32 && is_sign (get_or s (at + 1) 0) && (is_digit (get_or s (at + 2) 0) && is_digit (get_or s (at + 3) 0)) && (is_digit (get_or s (at + 4) 0) && is_digit (get_or s (at + 5) 0))

  pub Usual_of_tests : length s ≡ at + 6 → tests ≡ true → Usual s at
  Usual_of_tests n e =
      let p = both _ _ e in
      let q = both _ _ p.0 in
      let o = both _ _ q.0 in
      record {
        length_is = n;
        space = eqb-true (get_or s at 0) 32 o.0;
        sign = o.1;
        hours = both _ _ q.1;
        minutes = both _ _ p.1;
      }

  pub usual_of_of_tests : length s ≡ at + 6 → tests ≡ true → usual_of s at ≡ fields_of Byte (drop (at + 1) s)
  unfolding usual_of is_usual
  usual_of_of_tests n e = rw (eq-eqb (length s) (at + 6) n, e)

  pub usual_of_of_no_test : tests ≡ false → usual_of s at ≡ None
  unfolding usual_of is_usual
  usual_of_of_no_test e = by_test (eqb (length s) (at + 6)) (λ n. rw (n, e)) (λ n. rw n)

  pub usual_of_of_length : (length s ≡ at + 6 → ⊥) → usual_of s at ≡ None
  unfolding usual_of is_usual
  usual_of_of_length n = rw (ne_eqb (length s) (at + 6) n)

  -- so if there are fields, the tail is the usual one
  pub Usual_of_usual_of : (f : Fields) → usual_of s at ≡ Some f → Usual s at × (fields_of Byte (drop (at + 1) s) ≡ Some f)
  unfolding usual_of is_usual
  Usual_of_usual_of f e =
      by_test (is_usual s at)
      (λ u. let p = both (eqb (length s) (at + 6)) tests u in (Usual_of_tests (eqb-true (length s) (at + 6) p.0) p.1, rw u at e))
      (λ u. let k = rw u at e in let q : ◌≡◌ {A = ℕ} 0 1 = cc in absurd (omega arith))

-- ---- its fields
module _ (s : List ℕ) (at : ℕ) (u : Usual s at) where
  abbrev pub word : List ℕ
  word = drop (at + 1) s

  pub length-word : length word ≡ 5
  length-word = omega (arith, length-drop (at + 1) s, u.length_is)

  byte : (i j : ℕ) → at + 1 + i ≡ at + j → get_or word i 0 ≡ get_or s (at + j) 0
  byte i j e = get_or-drop (at + 1) s i 0 ∙ ap (λ (k : ℕ). get_or s k 0) e

  abbrev fields : Fields
  fields =
      record {
        minus = eqb (get_or s (at + 1) 0) 45;
        hours = pos (two_digits (get_or s (at + 2) 0) (get_or s (at + 3) 0));
        minutes = pos (two_digits (get_or s (at + 4) 0) (get_or s (at + 5) 0));
        seconds = pos 0;
      }

  pub fields_of_of_usual : (by : Field) → fields_of by word ≡ Some fields
  unfolding five_or_seven last_field
  fields_of_of_usual by =
      fields_of_of_tests by word (rw length-word) (ap is_sign (byte 0 1 (omega arith)) ∙ u.sign)
      ∙ rw (
        field_of_of_digits word 1 (omega (arith, length-word)) (ap is_digit (byte 1 2 (omega arith)) ∙ u.hours.0) (ap is_digit (byte 2 3 (omega arith)) ∙ u.hours.1) by,
        field_of_of_digits word 3 (omega (arith, length-word)) (ap is_digit (byte 3 4 (omega arith)) ∙ u.minutes.0) (ap is_digit (byte 4 5 (omega arith)) ∙ u.minutes.1) by,
        length-word,
        byte 0 1 (omega arith),
        byte 1 2 (omega arith),
        byte 2 3 (omega arith),
        byte 3 4 (omega arith),
        byte 4 5 (omega arith),
      )

  pub header_offset_of_usual : header_offset word ≡ fields_of Byte word
  unfolding header_offset
  header_offset_of_usual = rw (ap is_digit (byte 1 2 (omega arith)) ∙ u.hours.0) (fields_of_of_usual Signed ∙ sym (fields_of_of_usual Byte))
