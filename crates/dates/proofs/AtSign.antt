-- What the steps of "any" answer to a text that begins with `@`. The raw reader, whatever its limits, and the ISO reader refuse
-- it by 2 (`raw_of_of_at`, `iso_of_of_at`). So does the relative reader if no byte after the `@` is above `9`: then every word is
-- digits, and digits are neither a unit nor the mark `ago` (`relative_of_of_at`).
-- Assumes nothing.
use Rattle.std.specs.Prelude.{Err, None, Option, Some}
use mathlib.Core.Path.{◌≡◌, refl}
use mathlib.Core.Bool.{Bool, true, false, cond, ◌&&◌, false≢true, and-false, or-false}
use mathlib.Core.List.{List, [], ◌∷◌, ◌++◌, reverse, reverse-cons, reverse-append}
use Prim.Native.Nat.{ℕ, ◌-◌, ◌≤◌}
use Prim.Native.Char.{code}
use native.Mathlib.Omega.{arith}
use borrow.Author.Tests.{ne_eqb, lt-leb, ltb-true}
use lib.Dec.{eqb, ltb}
use lib.ListN.{length, get_or, take}
use Rattle.text.specs.Bytes.{is_space, is_digit, is_alphanumeric, lower_of, ascii, same_letters}
use Rattle.text.specs.Quote.{bytes}
use Rattle.text.specs.Trim.{trim_start, trim_end, trim}
use Rattle.text.specs.Words.{onto, pieces, full, words}
use Rattle.text.specs.Number.{read_from, digits_of, unsigned_of, signed_of, fit_signed}
use Rattle.text.specs.Bytes.{is_alphanumeric}
use Rattle.text.specs.Places.{no}
use Rattle.text.proofs.Lists.{by_test}
use Rattle.text.proofs.Taking.{words-cons-separator}
use Rattle.time.specs.declared.Refusal.TheVariants.{Form}
use Rattle.header.specs.Raw.{Limits, raw_of_words, raw_of}
use Rattle.iso.specs.Parts.{int32}
use Rattle.iso.specs.Forms.{all_fields, read_fields, flexible, compact, dash_of, dashes, dotted, first_of, form_of}
use Rattle.iso.specs.Iso.{zoned, iso_of}
use Rattle.relative.specs.Words.{words_of, singular, unit_named, unit_of}
use Rattle.relative.specs.Pairs.{next, pairs_from, ago_from, known}
use Rattle.relative.specs.Relative.{named_of, by_pairs, relative_of}
use Rattle.relative.specs.declared.pair.Unit.TheVariants.{Unknown}
use Rattle.dates.proofs.LowBytes.{Low, AllLow, low_words, low-take}
use Rattle.time.specs.declared.Time.{Time}

-- ---- the raw reader: the first word begins with `@`, so it is no number
pub raw_of_of_at : (l : Limits) (s : List ℕ) → ascii s ≡ true → raw_of l (code "@" ∷ s) ≡ Err Form
unfolding raw_of ascii words pieces full is_space raw_of_words signed_of unsigned_of digits_of read_from is_digit
raw_of_of_at l s a = rw a (go (pieces is_space s))
  where
    go : (ws : List (List ℕ)) → raw_of_words l (full (onto (code "@") ws)) ≡ Err Form
    go [] = refl
    go (w ∷ ws) = refl

-- ---- trimming keeps the `@`
trim_start-snoc : (b : ℕ) (s : List ℕ) → is_space b ≡ false → trim_start (s ++ (b ∷ [])) ≡ trim_start s ++ (b ∷ [])
unfolding trim_start
trim_start-snoc b [] h = rw h
trim_start-snoc b (x ∷ s) h = by_test (is_space x) (λ e. rw e (trim_start-snoc b s h)) (λ e. rw e)

trim-cons : (b : ℕ) (s : List ℕ) → is_space b ≡ false → trim (b ∷ s) ≡ b ∷ trim_end s
unfolding trim trim_end trim_start
trim-cons b s h = rw (h, reverse-cons b s, trim_start-snoc b (reverse s) h, reverse-append (trim_start (reverse s)) (b ∷ []))

trim_of_at : (s : List ℕ) → trim (code "@" ∷ s) ≡ code "@" ∷ trim_end s
unfolding is_space
trim_of_at s = trim-cons (code "@") s refl

-- ---- the ISO reader: each form reads a year from the first four bytes, and they begin with `@`
cond-None : {A : Type 0} (t : Bool) → cond {A = Option A} t None None ≡ None
cond-None true = refl
cond-None false = refl

module _ (s : List ℕ) where
  flexible_of_at : flexible (code "@" ∷ s) ≡ None
  unfolding flexible read_fields all_fields int32 signed_of unsigned_of digits_of read_from is_digit fit_signed
  flexible_of_at = rw cond-None

  compact_of_at : compact (code "@" ∷ s) ≡ None
  unfolding compact read_fields all_fields int32 signed_of unsigned_of digits_of read_from is_digit fit_signed
  compact_of_at = rw cond-None

dotted_of_at : (s : List ℕ) → dotted (code "@" ∷ s) ≡ None
unfolding dotted dashes dash_of
dotted_of_at s = rw (flexible_of_at, cond-None)

pub iso_of_of_at : (s : List ℕ) → ascii s ≡ true → iso_of (code "@" ∷ s) ≡ Err Form
unfolding iso_of ascii zoned form_of first_of
iso_of_of_at s a = rw (a, trim_of_at s, dotted_of_at, compact_of_at, flexible_of_at)

-- ---- the relative reader
-- the text is not `now`, `today` or `yesterday`
named_of_of_at : (s : List ℕ) → named_of (code "@" ∷ s) ≡ None
unfolding named_of same_letters lower_of
named_of_of_at s = rw (trim_of_at s)

-- a low word is not a name that begins with a letter
not_named : (w : List ℕ) → Low w → (name : List ℕ) → ltb 57 (lower_of (get_or name 0 0)) ≡ true → same_letters w name ≡ false
unfolding same_letters lower_of
not_named w h [] k = absurd (false≢true k)
not_named [] h (c ∷ name) k = refl
not_named (b ∷ w) h (c ∷ name) k =
    let l : b ≤ 57 = h.1 in
    rw (lt-leb 65 b (omega arith), ne_eqb b (lower_of c) (λ e. omega (arith, ltb-true 57 (lower_of c) k)))

-- so it is no unit
unit_named_of_low : (w : List ℕ) → Low w → unit_named w ≡ Unknown
unfolding unit_named lower_of
unit_named_of_low w h =
    rw (
      not_named w h (bytes "second") refl,
      not_named w h (bytes "minute") refl,
      not_named w h (bytes "hour") refl,
      not_named w h (bytes "day") refl,
      not_named w h (bytes "week") refl,
      not_named w h (bytes "month") refl,
      not_named w h (bytes "year") refl,
    )

unit_of_of_low : (w : List ℕ) → Low w → unit_of w ≡ Unknown
unfolding unit_of singular
unit_of_of_low w h =
    let n : ℕ = length w - 1 in
    by_test (eqb (lower_of (get_or w n 0)) (code "s"))
    (λ e. rw e (unit_named_of_low (take n w) (low-take n w h)))
    (λ e. rw e (unit_named_of_low w h))

-- low words have no mark, and if they have a pair, its unit is unknown
ago_from_of_low : (c : Option ℕ) (ws : List (List ℕ)) → AllLow ws → ago_from c ws ≡ false
unfolding ago_from lower_of
ago_from_of_low c [] h = refl
ago_from_of_low (Some n) (w ∷ ws) h = ago_from_of_low None ws h.1
ago_from_of_low None (w ∷ ws) h = rw (not_named w h.0 (bytes "ago") refl) (ago_from_of_low _ ws h.1)

no_known_pair : (c : Option ℕ) (ws : List (List ℕ)) → AllLow ws → (ltb 0 (length (pairs_from c ws)) && known (pairs_from c ws)) ≡ false
unfolding pairs_from known
no_known_pair c [] h = refl
no_known_pair (Some n) (w ∷ ws) h = rw (unit_of_of_low w h.0, and-false)
no_known_pair None (w ∷ ws) h = no_known_pair (next None w) ws h.1

-- the `@` separates words, so the words are those of the text after it
low-words_of_at : (s : List ℕ) → Low s → AllLow (words_of (code "@" ∷ s))
unfolding words_of is_alphanumeric
low-words_of_at s h = rw (words-cons-separator (no is_alphanumeric) (code "@") s refl) (low_words (no is_alphanumeric) s h)

pub relative_of_of_at : (bound : ℕ) (s : List ℕ) (now : Option Time) → ascii s ≡ true → Low s → relative_of bound (code "@" ∷ s) now ≡ Err Form
unfolding relative_of ascii by_pairs
relative_of_of_at bound s now a h =
    let ws : List (List ℕ) = words_of (code "@" ∷ s) in
    let k : AllLow ws = low-words_of_at s h in
    rw (a, named_of_of_at s, ago_from_of_low None ws k, or-false, no_known_pair None ws k)
