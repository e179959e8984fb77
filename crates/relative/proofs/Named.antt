-- A text with a pair is not `now`, `today` or `yesterday`, because those are one word. In order: letters and digits alone are one
-- word, in any letter case; the answer of a text with a pair.
-- Assumes nothing.
use Rattle.std.specs.Prelude.{None, Option}
use mathlib.Core.Path.{◌≡◌, refl, sym, ap, ◌∙◌}
use mathlib.Core.Bool.{Bool, true, false, ◌&&◌, ◌||◌, false≢true}
use mathlib.Core.List.{List, [], ◌∷◌}
use Prim.Native.Nat.{ℕ, ◌≤◌, ◌<◌}
use native.Mathlib.Nat.{not-suc-le-zero}
use borrow.Author.Tests.{le-leb, lt-ltb, eqb-true}
use lib.Dec.{eqb}
use lib.ListN.{length}
use Rattle.text.specs.Bytes.{is_alphanumeric, lower_of, ascii, same_letters}
use Rattle.text.specs.Quote.{bytes}
use Rattle.text.specs.Trim.{trim}
use Rattle.text.specs.Words.{pieces, full, words}
use Rattle.text.specs.Places.{no}
use Rattle.text.proofs.Lists.{by_test, both}
use Rattle.text.proofs.LowerCase.{is_alphanumeric-lower_of}
use Rattle.text.proofs.Trimming.{words_trim_by_marks}
use Rattle.relative.specs.Words.{words_of}
use Rattle.relative.specs.Pairs.{pairs_from, pairs_of, known, ago_in}
use Rattle.relative.specs.Relative.{from, named_of, by_pairs, relative_of}
use Rattle.time.specs.declared.Time.{Time}

-- ---- letters and digits alone are one word, so that no count has a unit
abbrev one : List ℕ → Bool
one [] = true
one (b ∷ s) = is_alphanumeric b && one s

one_piece : (s : List ℕ) → one s ≡ true → pieces (no is_alphanumeric) s ≡ s ∷ []
unfolding pieces
one_piece [] h = refl
one_piece (b ∷ s) h = let k = both (is_alphanumeric b) (one s) h in rw (k.0, one_piece s k.1)

no_pair : (s : List ℕ) → one s ≡ true → pairs_from None (words (no is_alphanumeric) s) ≡ []
unfolding words full pairs_from
no_pair [] h = rw (one_piece [] h)
no_pair (b ∷ s) h = rw (one_piece (b ∷ s) h)

-- in any letter case
same-one : (s t : List ℕ) → same_letters s t ≡ true → one t ≡ true → one s ≡ true
unfolding same_letters
same-one [] t e h = refl
same-one (x ∷ s) [] e h = absurd (false≢true e)
same-one (x ∷ s) (y ∷ t) e h =
    let k = both (eqb (lower_of x) (lower_of y)) (same_letters s t) e in
    let j = both (is_alphanumeric y) (one t) h in
    let w : is_alphanumeric x ≡ true = sym (is_alphanumeric-lower_of x) ∙ ap is_alphanumeric (eqb-true _ _ k.0) ∙ is_alphanumeric-lower_of y ∙ j.0 in
    rw w (same-one s t k.1 j.1)

not-same_of_pair : (s t : List ℕ) → one t ≡ true → 0 < length (pairs_of s) → same_letters (trim s) t ≡ false
unfolding words_of
not-same_of_pair s t o h =
    by_test (same_letters (trim s) t)
    (λ e. absurd (not-suc-le-zero (rw (← words_trim_by_marks s, no_pair (trim s) (same-one (trim s) t e o)) at h)))
    (λ e. e)

pub named_of_of_pair : (s : List ℕ) → 0 < length (pairs_of s) → named_of s ≡ None
unfolding named_of is_alphanumeric
named_of_of_pair s h =
    rw (not-same_of_pair s (bytes "now") refl h, not-same_of_pair s (bytes "today") refl h, not-same_of_pair s (bytes "yesterday") refl h)

-- ---- what a text with pairs answers
pub relative_of_of_pairs : (bound : ℕ) (s : List ℕ) (current : Option Time) → ascii s ≡ true → 0 < length (pairs_of s) → (known (pairs_of s) || ago_in s) ≡ true → length (pairs_of s) ≤ bound → relative_of bound s current ≡ from current (pairs_of s)
unfolding relative_of by_pairs
relative_of_of_pairs bound s current a h k l = rw (a, named_of_of_pair s h, lt-ltb 0 (length (pairs_of s)) h, k, le-leb (length (pairs_of s)) bound l)
