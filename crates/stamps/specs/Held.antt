-- What the code holds on the way to an answer. Nothing here is needed to read what the public calls ensure. In order: the classes
-- of bytes that a scan passes; a number, and the tail of a stamp, at the front of a longer text; the first line of a text, and what a
-- pass over a book finds; a line from one of its places on; the marks of the lines that are listed.
-- Assumes nothing.
use Rattle.std.specs.Prelude.{ℕ, ◌+◌, ◌*◌, ◌≡◌, Bool, true, cond, not, ◌&&◌, List, [], ◌∷◌, ltb, eqb, pos, neg_ℤ, length, take, drop, get_or, None, Option, Some, Result, Ok, Err, ℤ}
use Prim.Native.Char.{code}
use Rattle.text.specs.Bytes.{is_digit, is_sign}
use Rattle.text.specs.Number.{fit_signed, numeral}
use Rattle.text.specs.Decimal.{signed}
use Rattle.text.specs.Places.{before, first_place, has, part}
use Rattle.text.specs.Lines.{tab, newline, field, rest, ended_lines, taken_by}
use Rattle.header.specs.Held.{two_digits}
use Rattle.stamps.specs.Stamps.{printed}
use Rattle.stamps.specs.Lines.{hull_of, since_of, line_of, is_good}
use Rattle.stamps.specs.Book.{lines_in, first_bad, good_front}
use Rattle.stamps.specs.Listing.{is_listed, cut_off_in, cut_off_below, listing}
use Rattle.stamps.specs.declared.stamp.PrintedNumber.{PrintedNumber}
use Rattle.stamps.specs.declared.stamp.Tail.{Tail}
use Rattle.stamps.specs.declared.line.Line.{Line}
use Rattle.stamps.specs.declared.line.Line.TheVariants.{Hull, Since}
use Rattle.stamps.specs.declared.line.First.{First}
use Rattle.stamps.specs.declared.book.Next.{Next}
use Rattle.stamps.specs.declared.book.BadLine.{BadLine}

-- ---- the classes of bytes
-- a byte of the text in a `since` line: any but tab and newline
unfoldable pub is_text_byte : ℕ → Bool
is_text_byte b = not (eqb b tab) && not (eqb b newline)

-- ---- at the front of a longer text
-- the number that is printed at the front of s, which begins at the place `at` of a text: a sign, if there is one, and digits
pub record OpensPrinted (half : ℕ) (s : List ℕ) (at : ℕ) (r : PrintedNumber) : Type 0 where
  pub number_is : r.number ≡ fit_signed half (printed (take (numeral s) s))
  pub end_is : r.end ≡ at + numeral s

-- the number, if its plain decimal takes w bytes
abbrev pub if_width : Option ℤ → ℕ → Option ℤ
if_width (Some z) w = cond (eqb (length (signed z)) w) (Some z) None
if_width None w = None

-- whether a line ends in front of s: a newline follows, or nothing
unfoldable pub ends_here : List ℕ → Bool
ends_here [] = true
ends_here (b ∷ s) = eqb b newline

-- two digits of hours and two of minutes, in seconds
abbrev pub clock_size : ℕ → ℕ → ℕ → ℕ → ℕ
clock_size h hh m mm = two_digits h hh * 3600 + two_digits m mm * 60

-- the tail with an offset of this size. Behind `-`, offset 0 has the mark
unfoldable pub tail_with : Bool → ℕ → Tail
tail_with minus size = record { offset = cond minus (neg_ℤ (pos size)) (pos size); mark = minus && eqb size 0 }

-- four digits
abbrev pub four_digits : ℕ → ℕ → ℕ → ℕ → Bool
four_digits h hh m mm = (is_digit h && is_digit hh) && (is_digit m && is_digit mm)

-- the tail of a stamp: a space, a sign, two digits of hours and two of minutes, which are below 60, and the end of the line
unfoldable pub is_tail : List ℕ → Bool
is_tail s =
    eqb (get_or s 0 0) (code " ") && is_sign (get_or s 1 0) && four_digits (get_or s 2 0) (get_or s 3 0) (get_or s 4 0) (get_or s 5 0)
    && ltb (get_or s 4 0) (code "6") && ends_here (drop 6 s)

-- its offset and its mark
unfoldable pub tail_of : List ℕ → Option Tail
tail_of s =
    cond (is_tail s) (Some (tail_with (eqb (get_or s 1 0) (code "-")) (clock_size (get_or s 2 0) (get_or s 3 0) (get_or s 4 0) (get_or s 5 0)))) None

-- ---- the first line of a text
-- a line of n bytes before its newline, if it is good
abbrev pub first_at : ℕ → Option Line → Option First
first_at n (Some l) = Some (record { line = l; length = n })
first_at n None = None

-- the line in front of the first newline of s, and how many bytes it has
abbrev pub first_of : ℕ → List ℕ → Option First
first_of bound s = first_at (first_place newline s) (line_of bound (before newline s))

-- the same where only a `hull` line is good
abbrev pub hull_only : Option Line → Option Line
hull_only (Some (Hull h)) = Some (Hull h)
hull_only (Some (Since x)) = None
hull_only None = None

abbrev pub first_hull_of : ℕ → List ℕ → Option First
first_hull_of bound s = first_at (first_place newline s) (hull_only (line_of bound (before newline s)))

-- the first line of s in a book, under the cut-off c, if it is good and has its newline: how many bytes it has with it; whether it is
-- listed; the cut-off that it gives
abbrev pub next_at : ℕ → Option ℤ → Option Line → Next
next_at size c l = record { size = size; listed = is_listed c l; cut_off = cut_off_in l }

abbrev pub next_of : ℕ → List ℕ → Option ℤ → Option Next
next_of bound s c =
    let l = line_of bound (before newline s) in
    cond (is_good l && has newline s) (Some (next_at (first_place newline s + 1) c l)) None

-- what a pass over a book finds: the first bad line and where it begins, or, if there is none, how many bytes the listing has
abbrev pub survey_at : Option ℕ → ℕ → ℕ → Result ℕ BadLine
survey_at (Some n) start length = Err (record { number = n; start = start })
survey_at None start length = Ok length

abbrev pub survey_of : ℕ → List ℕ → Result ℕ BadLine
survey_of bound book = survey_at (first_bad 1 (lines_in bound book)) (taken_by (good_front bound (ended_lines book))) (length (listing bound book))

-- ---- a line from one of its places on
-- the bytes of s from one place to another
abbrev pub part_from : List ℕ → ℕ → ℕ → List ℕ
part_from s start end = part s (record { start = start; end = end })

-- what is left at the place `at` of the line that goes on there
abbrev pub left_at : List ℕ → ℕ → List ℕ
left_at s at = before newline (drop at s)

-- the line of `hull` that is left with these fields: path, key, time; key, time
abbrev pub hull_left : List ℕ → Option Line
hull_left m = hull_of (field m) (field (rest m)) (rest (rest m))

abbrev pub key_left : List ℕ → List ℕ → Option Line
key_left path m = hull_of path (field m) (rest m)

-- the line of `since` that is left with these fields: text, current seconds, current offset; current seconds, current offset
abbrev pub since_left : ℕ → List ℕ → Option Line
since_left bound m = since_of bound (field m) (field (rest m)) (rest (rest m))

abbrev pub current_left : ℕ → List ℕ → List ℕ → Option Line
current_left bound text m = since_of bound text (field m) (rest m)

-- a line that is read from the place `at` of s on, and the place where it ends
abbrev pub first_from : List ℕ → ℕ → Option Line → Option First
first_from s at line = first_at (at + first_place newline (drop at s)) line

-- ---- the marks of lines
-- 1 for a line that is listed, 0 for any other
abbrev pub mark_of : Bool → ℕ
mark_of b = cond b 1 0

unfoldable pub marks_of : ℕ → Option ℤ → List (List ℕ) → List ℕ
marks_of bound c [] = []
marks_of bound c (l ∷ ls) = mark_of (is_listed c (line_of bound l)) ∷ marks_of bound (cut_off_below c (line_of bound l)) ls

-- the lines whose mark is 1
unfoldable pub picked : List ℕ → List (List ℕ) → List (List ℕ)
picked [] ls = []
picked (m ∷ ms) [] = []
picked (m ∷ ms) (l ∷ ls) = let below = picked ms ls in cond (eqb m 1) (l ∷ below) below
