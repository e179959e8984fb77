-- One pass over a text: the places where its scans stop, and what they say about the text. In order: the bytes that were passed
-- are ASCII and no `:`; in a text without a byte that ends a scan, the places bound its words; all that the pass finds
-- (`FirstWords_of_pass`).
-- Assumes nothing.
use Rattle.std.specs.Prelude.{Err, Result, ℤ}
use mathlib.Core.Path.{◌≡◌, refl, sym, ap, ◌∙◌}
use mathlib.Core.Bool.{Bool, true, false, cond, not, ◌||◌, false≢true}
use mathlib.Core.List.{List, [], ◌∷◌}
use Prim.Native.Nat.{ℕ, suc}
use native.Mathlib.Omega.{arith}
use borrow.Author.Tests.{lt-ltb, ltb-false}
use lib.Dec.{ltb}
use lib.ListN.{length, drop, get_or}
use Rattle.text.specs.Bytes.{is_space, is_plain, ascii}
use Rattle.text.specs.Places.{no, past, has, part}
use Rattle.text.specs.Words.{words}
use Rattle.text.specs.Number.{numeral}
use Rattle.text.specs.declared.number.LeadingInteger.{LeadingInteger}
use Rattle.text.proofs.Lists.{by_test}
use Rattle.text.proofs.Runs.{past-add, same-drop-past, has_drop-nil}
use Rattle.text.proofs.Taking.{ltb-zero-length-words, get_or-words-zero, drop-one-words}
use Rattle.text.proofs.Numbers.{numeral-le-run}
use Rattle.text.proofs.Plain.{plain, is_plain_of_is_sign, is_plain_of_is_digit, ascii_cons, ascii_space, has_cons_of_ne, has_space, past-is_plain}
use Rattle.header.specs.Offset.{only_word, second_word_of}
use Rattle.header.specs.Held.{ends_at, bounds_of, nowhere, LeadsWithNumber, FirstWords}
use Rattle.header.proofs.FirstWord.{number64-first_word, seconds_of-first_word}
use Rattle.text.specs.declared.number.NumberError.TheVariants.{NoNumber}
use Rattle.text.specs.declared.number.NumberError.{NumberError}

-- ---- the places, from the end of the number on
module _ (s : List ℕ) (at : ℕ) where
  abbrev pub first_end : ℕ
  first_end = past is_plain s at

  abbrev pub second : ℕ
  second = past is_space s first_end

  abbrev pub second_end : ℕ
  second_end = past is_plain s second

  abbrev pub third : ℕ
  third = past is_space s second_end

only_word_is : (ws : List (List ℕ)) → only_word ws ≡ cond (ltb 0 (length (drop 1 ws))) [] (get_or ws 0 [])
only_word_is [] = refl
only_word_is (w ∷ []) = refl
only_word_is (w ∷ v ∷ ws) = rw (lt-ltb 0 (suc (length ws)) (omega arith))

whole_seconds : (whole other : Bool) (x : Result ℤ NumberError) → cond whole (cond (whole || other) x (Err NoNumber)) (Err NoNumber) ≡ cond whole x (Err NoNumber)
whole_seconds true other x = refl
whole_seconds false other x = refl

module _ (s : List ℕ) (r : LeadingInteger) (l : LeadsWithNumber s r) where
  abbrev first : ℕ
  first = past is_space s 0

  -- the number is within the first word
  first_end_is : first_end s r.end ≡ past is_plain s first
  first_end_is =
      ap (past is_plain s) l.end_is
      ∙ past-add is_plain s first (numeral (drop first s)) (numeral-le-run is_plain is_plain_of_is_sign is_plain_of_is_digit (drop first s))

  -- ---- what was passed
  kept : (f : List ℕ → Bool) → ((b : ℕ) (t : List ℕ) → is_space b ≡ true → f (b ∷ t) ≡ f t) → ((b : ℕ) (t : List ℕ) → is_plain b ≡ true → f (b ∷ t) ≡ f t)
      → f s ≡ f (drop (third s r.end) s)
  kept f space word =
      same-drop-past f is_space space s 0 ∙ same-drop-past f is_plain word s first
      ∙ ap (λ (i : ℕ). f (drop i s)) (sym first_end_is)
      ∙ same-drop-past f is_space space s (first_end s r.end)
      ∙ same-drop-past f is_plain word s (second s r.end)
      ∙ same-drop-past f is_space space s (second_end s r.end)

  pub ascii_kept : ascii s ≡ ascii (drop (third s r.end) s)
  ascii_kept = kept ascii ascii_space (λ b t e. ascii_cons b t (plain b e).low)

  pub has_kept : has 58 s ≡ has 58 (drop (third s r.end) s)
  has_kept = kept (has 58) (has_space 58 (omega arith)) (λ b t e. has_cons_of_ne 58 b t (plain b e).no_colon)

  -- ---- the second word
  abbrev bounds : Bool → List ℕ
  bounds more = part s (cond more nowhere (bounds_of (second s r.end) (second_end s r.end)))

  module _ (a : ascii s ≡ true) where
    second_word_is : has 58 s ≡ false → second_word_of s ≡ bounds (ltb (third s r.end) (length s))
    second_word_is h =
        ap only_word rest ∙ only_word_is (words is_space (drop (first_end s r.end) s))
        ∙ rw (second_word, third_words, ltb-zero-length-words is_space s (second_end s r.end))
        (by_test (ltb (third s r.end) (length s)) (λ e. rw e) (λ e. rw e))
      where
        first_end-past : first_end s r.end ≡ past (no is_space) s first
        first_end-past = first_end_is ∙ past-is_plain s a h first

        rest : drop 1 (words is_space s) ≡ words is_space (drop (first_end s r.end) s)
        rest = rw first_end-past (drop-one-words is_space s 0)

        second_word : get_or (words is_space (drop (first_end s r.end) s)) 0 [] ≡ part s (bounds_of (second s r.end) (second_end s r.end))
        second_word = rw (past-is_plain s a h (second s r.end)) (get_or-words-zero is_space s (first_end s r.end))

        third_words : drop 1 (words is_space (drop (first_end s r.end) s)) ≡ words is_space (drop (second_end s r.end) s)
        third_words = rw (past-is_plain s a h (second s r.end)) (drop-one-words is_space s (first_end s r.end))

    -- with a `:` something is left, since it ends every scan
    more_of_colon : has 58 s ≡ true → ltb (third s r.end) (length s) ≡ true
    more_of_colon h =
        by_test (ltb (third s r.end) (length s)) (λ e. e)
        (λ e. absurd (false≢true (sym (has_kept ∙ has_drop-nil 58 s (third s r.end) (ltb-false _ _ e)) ∙ h)))

    offset_is : bounds (ltb (third s r.end) (length s)) ≡ cond (has 58 s) [] (second_word_of s)
    offset_is = by_test (has 58 s) (λ h. rw (h, more_of_colon h)) (λ h. rw h (sym (second_word_is h)))

    -- ---- all that the pass finds
    pub FirstWords_of_pass : FirstWords s
        (record {
          number = cond (ends_at s r.end || not r.signed) r.number (Err NoNumber);
          whole = ends_at s r.end;
          offset_word = cond (ltb (third s r.end) (length s)) nowhere (bounds_of (second s r.end) (second_end s r.end));
          colon = has 58 s;
        })
    FirstWords_of_pass =
        record {
          number_is = sym (seconds_of-first_word s r l);
          whole_is = whole_seconds (ends_at s r.end) (not r.signed) r.number ∙ sym (number64-first_word s r l);
          colon_is = refl;
          offset_is = offset_is;
        }
