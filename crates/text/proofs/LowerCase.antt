-- Letter case. In order: tests that give the same result for a capital letter and for its small letter; a text and the text in
-- small letters, which has the same words and the same numbers.
-- Assumes nothing.
use mathlib.Core.Path.{◌≡◌, refl, sym, ap, ◌∙◌}
use mathlib.Core.Bool.{true, false≢true}
use mathlib.Core.List.{List, [], ◌∷◌, ◌++◌, reverse, reverse-cons}
use Prim.Native.Nat.{ℕ, zero, suc, ◌+◌, ◌-◌, ◌*◌, ◌≤◌, ◌<◌}
use native.Mathlib.Omega.{arith}
use borrow.Author.Tests.{leb-true, le-leb, lt-leb, lt-ltb, ne_eqb, eqb-true}
use lib.Dec.{leb, ltb, eqb}
use lib.ListN.{length, get_or, take}
use Rattle.text.specs.Bytes.{between, is_space, is_digit, is_alphanumeric, lower_of, ascii, same_letters}
use Rattle.text.specs.Places.{no}
use Rattle.text.specs.Trim.{trim, trim_start, trim_end}
use Rattle.text.specs.Words.{onto, pieces, full, words}
use Rattle.text.specs.Number.{digits_of, read_from}
use Rattle.text.proofs.Lists.{by_test, both}
use Rattle.text.proofs.Numbers.{digit_range}

-- ---- bytes
-- a test that gives the same result for a capital letter and for its small letter
of_lower_of : {A : Type 0} (f : ℕ → A) → ((b : ℕ) → 65 ≤ b → b ≤ 90 → f (b + 32) ≡ f b) → (b : ℕ) → f (lower_of b) ≡ f b
unfolding lower_of
of_lower_of f h b =
    by_test (between 65 90 b)
    (λ e. let k = both (leb 65 b) (leb b 90) e in rw e (h b (leb-true 65 b k.0) (leb-true b 90 k.1)))
    (λ e. rw e)

pub lower_of-lower_of : (b : ℕ) → lower_of (lower_of b) ≡ lower_of b
unfolding lower_of
lower_of-lower_of = of_lower_of lower_of (λ b h k. rw (le-leb 65 (b + 32) (omega arith), lt-leb (b + 32) 90 (omega arith), le-leb 65 b h, le-leb b 90 k))

ascii-lower_of : (b : ℕ) → ltb (lower_of b) 128 ≡ ltb b 128
ascii-lower_of = of_lower_of (λ b. ltb b 128) (λ b h k. rw (lt-ltb (b + 32) 128 (omega arith), lt-ltb b 128 (omega arith)))

is_space-lower_of : (b : ℕ) → is_space (lower_of b) ≡ is_space b
unfolding is_space
is_space-lower_of = of_lower_of is_space (λ b h k. rw (le-leb 9 (b + 32) (omega arith), lt-leb (b + 32) 13 (omega arith), ne_eqb (b + 32) 32 (λ e. omega arith), le-leb 9 b (omega arith), lt-leb b 13 (omega arith), ne_eqb b 32 (λ e. omega arith)))

is_digit-lower_of : (b : ℕ) → is_digit (lower_of b) ≡ is_digit b
unfolding is_digit
is_digit-lower_of = of_lower_of is_digit (λ b h k. rw (le-leb 48 (b + 32) (omega arith), lt-leb (b + 32) 57 (omega arith), le-leb 48 b (omega arith), lt-leb b 57 (omega arith)))

pub is_alphanumeric-lower_of : (b : ℕ) → is_alphanumeric (lower_of b) ≡ is_alphanumeric b
unfolding is_alphanumeric
is_alphanumeric-lower_of =
    of_lower_of is_alphanumeric
    (λ b h k. rw (le-leb 48 b (omega arith), lt-leb b 57 (omega arith), le-leb 48 (b + 32) (omega arith), lt-leb (b + 32) 57 (omega arith), le-leb 65 b h, le-leb b 90 k, le-leb 65 (b + 32) (omega arith), lt-leb (b + 32) 90 (omega arith), le-leb 97 (b + 32) (omega arith), le-leb (b + 32) 122 (omega arith)))

-- a digit has one case
pub lower_of-digit : (b : ℕ) → is_digit b ≡ true → lower_of b ≡ b
unfolding lower_of
lower_of-digit b d = let h : b < 65 = omega (arith, digit_range b d) in rw (lt-leb 65 b h)

-- ---- texts
abbrev pub lowers : List ℕ → List ℕ
lowers [] = []
lowers (b ∷ s) = lower_of b ∷ lowers s

pub ascii_lowers : (s : List ℕ) → ascii (lowers s) ≡ ascii s
unfolding ascii
ascii_lowers [] = refl
ascii_lowers (b ∷ s) = rw (ascii-lower_of b, ascii_lowers s)

pub same_letters-lowers : (s t : List ℕ) → same_letters (lowers s) t ≡ same_letters s t
unfolding same_letters
same_letters-lowers [] [] = refl
same_letters-lowers [] (y ∷ t) = refl
same_letters-lowers (x ∷ s) [] = refl
same_letters-lowers (x ∷ s) (y ∷ t) = rw (lower_of-lower_of x, same_letters-lowers s t)

pub lowers_of_same : (s t : List ℕ) → same_letters s t ≡ true → lowers s ≡ lowers t
unfolding same_letters
lowers_of_same [] [] e = refl
lowers_of_same [] (y ∷ t) e = absurd (false≢true e)
lowers_of_same (x ∷ s) [] e = absurd (false≢true e)
lowers_of_same (x ∷ s) (y ∷ t) e =
    let k = both (eqb (lower_of x) (lower_of y)) (same_letters s t) e in
    rw (eqb-true (lower_of x) (lower_of y) k.0, lowers_of_same s t k.1)

lowers-append : (s t : List ℕ) → lowers (s ++ t) ≡ lowers s ++ lowers t
lowers-append [] t = refl
lowers-append (b ∷ s) t = rw (lowers-append s t)

lowers-reverse : (s : List ℕ) → lowers (reverse s) ≡ reverse (lowers s)
lowers-reverse [] = refl
lowers-reverse (b ∷ s) = ap lowers (reverse-cons b s) ∙ lowers-append (reverse s) (b ∷ []) ∙ ap (λ (t : List ℕ). t ++ (lower_of b ∷ [])) (lowers-reverse s) ∙ sym (reverse-cons (lower_of b) (lowers s))

trim_start-lowers : (s : List ℕ) → trim_start (lowers s) ≡ lowers (trim_start s)
unfolding trim_start
trim_start-lowers [] = refl
trim_start-lowers (b ∷ s) = by_test (is_space b) (λ e. rw (is_space-lower_of b, e) (trim_start-lowers s)) (λ e. rw (is_space-lower_of b, e))

pub trim_lowers : (s : List ℕ) → trim (lowers s) ≡ lowers (trim s)
unfolding trim trim_end
trim_lowers s =
    ap (λ (t : List ℕ). reverse (trim_start (reverse t))) (trim_start-lowers s)
    ∙ ap (λ (t : List ℕ). reverse (trim_start t)) (sym (lowers-reverse (trim_start s)))
    ∙ ap reverse (trim_start-lowers (reverse (trim_start s)))
    ∙ sym (lowers-reverse (trim_start (reverse (trim_start s))))

pub length-lowers : (w : List ℕ) → length (lowers w) ≡ length w
length-lowers [] = refl
length-lowers (b ∷ w) = ap suc (length-lowers w)

pub get_or-lowers : (w : List ℕ) (n : ℕ) → get_or (lowers w) n 0 ≡ lower_of (get_or w n 0)
unfolding lower_of
get_or-lowers [] n = refl
get_or-lowers (b ∷ w) zero = refl
get_or-lowers (b ∷ w) (suc n) = get_or-lowers w n

pub take-lowers : (n : ℕ) (w : List ℕ) → take n (lowers w) ≡ lowers (take n w)
take-lowers zero w = refl
take-lowers (suc n) [] = refl
take-lowers (suc n) (b ∷ w) = rw (take-lowers n w)

-- ---- words
abbrev pub all_lowers : List (List ℕ) → List (List ℕ)
all_lowers [] = []
all_lowers (w ∷ ws) = lowers w ∷ all_lowers ws

onto_lowers : (b : ℕ) (ws : List (List ℕ)) → onto (lower_of b) (all_lowers ws) ≡ all_lowers (onto b ws)
onto_lowers b [] = refl
onto_lowers b (w ∷ ws) = refl

pieces_lowers : (s : List ℕ) → pieces (no is_alphanumeric) (lowers s) ≡ all_lowers (pieces (no is_alphanumeric) s)
unfolding pieces
pieces_lowers [] = refl
pieces_lowers (b ∷ s) =
    by_test (is_alphanumeric b)
    (λ e. rw (is_alphanumeric-lower_of b, e, pieces_lowers s) (onto_lowers b (pieces (no is_alphanumeric) s)))
    (λ e. rw (is_alphanumeric-lower_of b, e, pieces_lowers s))

full_lowers : (ws : List (List ℕ)) → full (all_lowers ws) ≡ all_lowers (full ws)
unfolding full
full_lowers [] = refl
full_lowers ([] ∷ ws) = full_lowers ws
full_lowers ((b ∷ w) ∷ ws) = rw (full_lowers ws)

pub words_lowers : (s : List ℕ) → words (no is_alphanumeric) (lowers s) ≡ all_lowers (words (no is_alphanumeric) s)
unfolding words
words_lowers s = ap full (pieces_lowers s) ∙ full_lowers (pieces (no is_alphanumeric) s)

-- ---- numbers
read_from-lowers : (v : ℕ) (s : List ℕ) → read_from v (lowers s) ≡ read_from v s
unfolding read_from
read_from-lowers v [] = refl
read_from-lowers v (b ∷ s) =
    by_test (is_digit b)
    (λ e. rw (is_digit-lower_of b, e, lower_of-digit b e) (read_from-lowers (10 * v + (b - 48)) s))
    (λ e. rw (is_digit-lower_of b, e))

pub digits_of-lowers : (w : List ℕ) → digits_of (lowers w) ≡ digits_of w
unfolding digits_of
digits_of-lowers [] = refl
digits_of-lowers (b ∷ w) = read_from-lowers 0 (b ∷ w)
