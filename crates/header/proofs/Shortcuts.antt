-- What the readers answer as soon as the number ends: to a date in the usual form (`header_of_of_usual`, `raw_of_of_usual`) and to
-- a number alone (`header_of_of_alone`, `raw_of_of_alone`). A pass over such a text finds the number, and at most one word after
-- it.
-- Assumes nothing.
use Rattle.std.specs.Prelude.{None, Option, Some}
use mathlib.Core.Path.{◌≡◌, refl, ap, ◌∙◌}
use mathlib.Core.Bool.{Bool, true, false, cond}
use mathlib.Core.List.{List, []}
use Prim.Native.Nat.{ℕ, ◌+◌, ◌-◌, ◌≤◌}
use native.Mathlib.Omega.{arith}
use borrow.Author.Tests.{le-ltb, not-true}
use lib.ListN.{length, drop, get_or, length-drop, drop_of_length-le}
use lib.Seq.{take_all, take-nil}
use Rattle.text.specs.Bytes.{is_space, is_plain, ascii}
use Rattle.text.specs.Places.{past, has, part}
use Rattle.text.specs.declared.number.LeadingInteger.{LeadingInteger}
use Rattle.text.specs.declared.words.Span.{Span}
use Rattle.text.proofs.Runs.{run-le-length, past-le-length, past_of-true, past_of-false, past_of-length-le, le-past, has_drop-nil}
use Rattle.text.proofs.Numbers.{numeral-le-run}
use Rattle.text.proofs.Plain.{is_plain_of_is_sign, is_plain_of_is_digit, no_space_of_is_sign, ascii-drop-nil}
use Rattle.header.specs.Offset.{fields_of, Byte}
use Rattle.header.specs.Header.{header_time, header_of}
use Rattle.header.specs.Raw.{Limits, raw_time, raw_of}
use Rattle.header.specs.Held.{Small, LeadsWithNumber, is_number, usual_of, ends_at, bounds_of, WordsRead}
use Rattle.header.specs.declared.offset.Fields.{Fields}
use Rattle.header.specs.declared.walk.First.{First}
use Rattle.header.proofs.FirstWord.{ends_at_of_lt, ends_at_of_le}
use Rattle.header.proofs.Pass.{first_end, second, second_end, third, ascii_kept, has_kept, FirstWords_of_pass}
use Rattle.header.proofs.Readers.{fields_of-nil, header_offset-nil, header_of_of_words, raw_of_of_words}
use Rattle.header.proofs.Offsets.{fields_of-small}
use Rattle.header.proofs.Usual.{Usual, Usual_of_usual_of, word, length-word, header_offset_of_usual}

-- ---- where the scans stop in the usual form
module _ (s : List ℕ) (at : ℕ) (u : Usual s at) where
  first_end_is : past is_plain s at ≡ at
  unfolding is_plain is_space
  first_end_is = past_of-false is_plain s at (omega (arith, u.length_is)) (ap is_plain u.space)

  second_is : past is_space s at ≡ at + 1
  unfolding is_space
  second_is =
      past_of-true is_space s at (omega (arith, u.length_is)) (ap is_space u.space)
      ∙ past_of-false is_space s (at + 1) (omega (arith, u.length_is)) (not-true _ (no_space_of_is_sign _ u.sign))

  second_end_is : past is_plain s (at + 1) ≡ at + 6
  second_end_is =
      on 1 2 (omega arith) (omega arith) (is_plain_of_is_sign _ u.sign) ∙ on 2 3 (omega arith) (omega arith) (is_plain_of_is_digit _ u.hours.0)
      ∙ on 3 4 (omega arith) (omega arith) (is_plain_of_is_digit _ u.hours.1)
      ∙ on 4 5 (omega arith) (omega arith) (is_plain_of_is_digit _ u.minutes.0)
      ∙ on 5 6 (omega arith) (omega arith) (is_plain_of_is_digit _ u.minutes.1)
      ∙ past_of-length-le is_plain s (at + 6) (omega (arith, u.length_is))
    where
      on : (i j : ℕ) → at + i + 1 ≡ at + j → j ≤ 6 → is_plain (get_or s (at + i) 0) ≡ true → past is_plain s (at + i) ≡ past is_plain s (at + j)
      on i j n h e = past_of-true is_plain s (at + i) (omega (arith, u.length_is)) e ∙ ap (past is_plain s) n

  third_is : third s at ≡ at + 6
  third_is = rw (first_end_is, second_is, second_end_is) (past_of-length-le is_space s (at + 6) (omega (arith, u.length_is)))

  word_is : part s (bounds_of (second s at) (second_end s at)) ≡ word s at u
  word_is = rw (first_end_is, second_is, second_end_is) (take_all (at + 6 - (at + 1)) (word s at u) (omega (arith, length-word s at u)))

  ends : ends_at s at ≡ true
  unfolding is_space
  ends = ends_at_of_lt s at (omega (arith, u.length_is)) ∙ ap is_space u.space

offset_of_cond : (b : Bool) (p : Option Fields) (f : Fields) → cond b p None ≡ Some f → p ≡ Some f
offset_of_cond true p f e = e
offset_of_cond false p f e = let q : ◌≡◌ {A = ℕ} 0 1 = cc in absurd (omega arith)

module _ (s : List ℕ) (r : LeadingInteger) (l : LeadsWithNumber s r) where
  pub end-le-length : r.end ≤ length s
  end-le-length =
      let first = past is_space s 0 in
      let n = numeral-le-run is_plain is_plain_of_is_sign is_plain_of_is_digit (drop first s) in
      omega (arith, l.end_is, n, run-le-length is_plain (drop first s), length-drop first s, past-le-length is_space s 0 (omega arith))

  -- ---- what a pass finds, if the number is the first word and there are at most two
  abbrev word_bounds : Span
  word_bounds = bounds_of (second s r.end) (second_end s r.end)

  abbrev found : First
  found = record { number = r.number; whole = true; offset_word = word_bounds; colon = false }

  words_read : ends_at s r.end ≡ true → length s ≤ third s r.end → WordsRead s (Some found)
  words_read e n = (ascii_is, rw (e, le-ltb (third s r.end) (length s) n, has_is) at (FirstWords_of_pass s r l ascii_is))
    where
      ascii_is : ascii s ≡ true
      ascii_is = ascii_kept s r l ∙ ascii-drop-nil s (third s r.end) n

      has_is : has 58 s ≡ false
      has_is = has_kept s r l ∙ has_drop-nil 58 s (third s r.end) n

  -- ---- the usual form
  module _ (f : Fields) (e : cond (is_number r.number) (usual_of s r.end) None ≡ Some f) where
    usual : Usual s r.end × (fields_of Byte (drop (r.end + 1) s) ≡ Some f)
    usual = Usual_of_usual_of s r.end f (offset_of_cond (is_number r.number) (usual_of s r.end) f e)

    pub usual_small : Small f
    usual_small = fields_of-small Byte (drop (r.end + 1) s) f usual.1

    usual_read : WordsRead s (Some found)
    usual_read = words_read (ends s r.end usual.0) (omega (arith, third_is s r.end usual.0, usual.0.length_is))

    pub header_of_of_usual : header_of s ≡ header_time r.number (Some f)
    header_of_of_usual = header_of_of_words s _ usual_read refl ∙ rw (word_is s r.end usual.0, header_offset_of_usual s r.end usual.0, usual.1)

    pub raw_of_of_usual : (limits : Limits) → raw_of limits s ≡ raw_time limits r.number (Some f)
    raw_of_of_usual limits = raw_of_of_words s _ usual_read limits ∙ rw (word_is s r.end usual.0, usual.1)

  -- ---- a number alone: there is no second word
  module _ (e : r.end ≡ length s) where
    second-le : length s ≤ second s r.end
    second-le = omega (arith, le-past is_plain s r.end, le-past is_space s (first_end s r.end))

    alone_read : WordsRead s (Some found)
    alone_read =
        words_read (ends_at_of_le s r.end (omega arith))
        (omega (arith, second-le, le-past is_plain s (second s r.end), le-past is_space s (second_end s r.end)))

    no_second : part s word_bounds ≡ []
    no_second = rw (drop_of_length-le s {i = second s r.end} second-le) (take-nil (second_end s r.end - second s r.end))

    pub header_of_of_alone : header_of s ≡ header_time r.number None
    header_of_of_alone = header_of_of_words s _ alone_read refl ∙ rw (no_second, header_offset-nil)

    pub raw_of_of_alone : (limits : Limits) → raw_of limits s ≡ raw_time limits r.number None
    raw_of_of_alone limits = raw_of_of_words s _ alone_read limits ∙ rw (no_second, fields_of-nil)
