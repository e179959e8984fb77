-- RULES 7.1, 7.2: letter case does not matter. A text answers as it does in small letters. In order: names and words; counts and
-- units; pairs; the reader; the theorem, for any two texts that are the same in any letter case.
-- Assumes nothing.
use Rattle.std.specs.Prelude.{None, Option, Some}
use mathlib.Core.Path.{◌≡◌, refl, sym, ap, ◌∙◌}
use mathlib.Core.Bool.{true}
use mathlib.Core.List.{List, [], ◌∷◌}
use Prim.Native.Nat.{ℕ, ◌-◌}
use Prim.Native.Char.{code}
use lib.Dec.{eqb}
use lib.ListN.{length, get_or}
use Rattle.text.specs.Bytes.{is_digit, lower_of, same_letters}
use Rattle.text.specs.Quote.{bytes}
use Rattle.text.specs.Number.{fit, digits_of, read_from}
use Rattle.text.proofs.Lists.{by_test}
use Rattle.text.proofs.LowerCase.{lower_of-lower_of, lowers, ascii_lowers, same_letters-lowers, lowers_of_same, trim_lowers, length-lowers, get_or-lowers, take-lowers, all_lowers, words_lowers, digits_of-lowers}
use Rattle.relative.specs.Words.{words_of, is, spelled, count_of, singular, unit_named, unit_of}
use Rattle.relative.specs.Pairs.{next, pairs_from, ago_from}
use Rattle.relative.specs.Relative.{named_of, by_pairs, answer_by_name, relative_of}
use Rattle.time.specs.declared.Time.{Time}

named_of-lowers : (s : List ℕ) → named_of (lowers s) ≡ named_of s
unfolding named_of
named_of-lowers s = rw (trim_lowers s) (simp same_letters-lowers)

words_of-lowers : (s : List ℕ) → words_of (lowers s) ≡ all_lowers (words_of s)
unfolding words_of
words_of-lowers s = words_lowers s

-- ---- counts and units
count_of-lowers : (w : List ℕ) → count_of (lowers w) ≡ count_of w
unfolding count_of spelled
count_of-lowers w = rw (digits_of-lowers w) (simp same_letters-lowers)

singular_lowers : (w : List ℕ) → singular (lowers w) ≡ lowers (singular w)
unfolding singular
singular_lowers w =
    let n : ℕ = length w - 1 in
    rw (length-lowers w, get_or-lowers w n, lower_of-lower_of (get_or w n 0), take-lowers n w)
    (by_test (eqb (lower_of (get_or w n 0)) (code "s")) (λ e. rw e) (λ e. rw e))

unit_of-lowers : (w : List ℕ) → unit_of (lowers w) ≡ unit_of w
unfolding unit_of unit_named
unit_of-lowers w = rw (singular_lowers w) (simp same_letters-lowers)

-- ---- pairs
pairs_from-lowers : (c : Option ℕ) (ws : List (List ℕ)) → pairs_from c (all_lowers ws) ≡ pairs_from c ws
unfolding pairs_from
pairs_from-lowers c [] = refl
pairs_from-lowers (Some n) (w ∷ ws) = rw (unit_of-lowers w, pairs_from-lowers None ws)
pairs_from-lowers None (w ∷ ws) = rw (same_letters-lowers w (bytes "ago"), count_of-lowers w) (pairs_from-lowers (next None w) ws)

ago_from-lowers : (c : Option ℕ) (ws : List (List ℕ)) → ago_from c (all_lowers ws) ≡ ago_from c ws
unfolding ago_from
ago_from-lowers c [] = refl
ago_from-lowers (Some n) (w ∷ ws) = ago_from-lowers None ws
ago_from-lowers None (w ∷ ws) = rw (same_letters-lowers w (bytes "ago"), count_of-lowers w, ago_from-lowers (next None w) ws)

-- ---- the reader
by_pairs-lowers : (bound : ℕ) (s : List ℕ) (current : Option Time) → by_pairs bound (lowers s) current ≡ by_pairs bound s current
unfolding by_pairs
by_pairs-lowers bound s current = rw (words_of-lowers s, pairs_from-lowers None (words_of s), ago_from-lowers None (words_of s))

by_name-lowers : (x : Option ℕ) (bound : ℕ) (s : List ℕ) (current : Option Time) → answer_by_name x bound (lowers s) current ≡ answer_by_name x bound s current
by_name-lowers (Some k) bound s current = refl
by_name-lowers None bound s current = by_pairs-lowers bound s current

relative_of-lowers : (bound : ℕ) (s : List ℕ) (current : Option Time) → relative_of bound (lowers s) current ≡ relative_of bound s current
unfolding relative_of
relative_of-lowers bound s current = rw (ascii_lowers s, named_of-lowers s, by_name-lowers (named_of s) bound s current)

-- ---- `ago` is no count, so that either may be looked for first
pub ago_is_no_count : (w : List ℕ) → is w "ago" ≡ true → count_of w ≡ None
unfolding count_of spelled same_letters lower_of fit digits_of read_from is_digit
ago_is_no_count w e = sym (count_of-lowers w) ∙ ap count_of (lowers_of_same w (bytes "ago") e)

-- ---- the theorem
pub letter_case_does-not-matter : (bound : ℕ) (s t : List ℕ) (current : Option Time) → same_letters s t ≡ true → relative_of bound s current ≡ relative_of bound t current
letter_case_does-not-matter bound s t current e =
    sym (relative_of-lowers bound s current) ∙ ap (λ (u : List ℕ). relative_of bound u current) (lowers_of_same s t e) ∙ relative_of-lowers bound t current
