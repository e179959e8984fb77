-- What the code holds on the way to an answer. Nothing here is needed to read what the public calls ensure. In order: the path of the line
-- at the front of a text; the bucket of a path; the lines that are kept, the chains that link them, and all of them as a table.
-- Assumes nothing.
use Rattle.std.specs.Prelude.{ℕ, zero, suc, ◌+◌, ◌*◌, ◌%◌, ◌/◌, ◌≤◌, ◌<◌, ◌≡◌, Bool, false, cond, List, [], ◌∷◌, ltb, eqb, length, drop, get_or}
use Prim.Native.Char.{code}
use Rattle.text.specs.Bytes.{same}
use Rattle.text.specs.Places.{before}
use Rattle.text.specs.Lines.{tab, newline, ended_lines}
use Rattle.compact.specs.Compact.{holds_path, kept}

-- whether the good line at the front of s is one of `hull`: its first byte tells
unfoldable pub opens_hull : List ℕ → Bool
opens_hull [] = false
opens_hull (b ∷ s) = eqb b (code "h")

-- its path; that of a `since` line is empty
unfoldable pub path_at : List ℕ → List ℕ
path_at s = cond (opens_hull s) (before tab (drop 5 s)) []

-- ---- buckets
-- the bytes of a path, mixed into a number of 32 bits
unfoldable pub mixed : ℕ → List ℕ → ℕ
mixed h [] = h
mixed h (b ∷ s) = mixed ((h + b) * 2654435761 % 4294967296) s

-- the bucket of a path: 0 to 2047. Lines without a path have one of their own
unfoldable pub bucket_of : List ℕ → ℕ
bucket_of [] = 2048
bucket_of (b ∷ s) = mixed 0 (b ∷ s) / 2097152

-- ---- the lines that are kept, counted from 1 in the order in which they are found, from the last to the first. `places` says where each
-- one begins, and `links` which one is next in its chain, 0 at its end
-- the line that begins at a place
abbrev pub line_at : List ℕ → ℕ → List ℕ
line_at book at = before newline (drop at book)

-- these lines, from number k down to number 1
unfoldable pub lines_down : List ℕ → List ℕ → ℕ → List (List ℕ)
lines_down book places zero = []
lines_down book places (suc k) = line_at book (get_or places k 0) ∷ lines_down book places k

-- the number of the first line with the path p in the chain that begins with number k, or 0. A chain goes down, so it has at most k lines
unfoldable pub number_in : List ℕ → List ℕ → List ℕ → List ℕ → ℕ → ℕ → ℕ
number_in book links places p zero k = 0
number_in book links places p (suc most) zero = 0
number_in book links places p (suc most) (suc k) =
    let below = number_in book links places p most (get_or links k 0) in
    cond (same (path_at (drop (get_or places k 0) book)) p) (suc k) below

-- the same from the bucket of the path
abbrev pub found_number : List ℕ → List ℕ → List ℕ → List ℕ → List ℕ → ℕ
found_number book heads links places p = number_in book links places p (get_or heads (bucket_of p) 0) (get_or heads (bucket_of p) 0)

-- whether a line with the path p is overtaken by one of the chain. A line without a path never is
unfoldable pub is_overtaken : List ℕ → List ℕ → List ℕ → List ℕ → ℕ → Bool
is_overtaken book links places [] first = false
is_overtaken book links places (b ∷ p) first = ltb 0 (number_in book links places (b ∷ p) first first)

-- the kept lines of a book, in buckets: a path that a line has is found from its bucket
pub record IsTable (bound : ℕ) (book heads links places : List ℕ) (count : ℕ) : Type 0 where
  pub lines_are : lines_down book places count ≡ kept bound (ended_lines book)
  pub heads_le : (b : ℕ) → get_or heads b 0 ≤ count
  pub down : (k : ℕ) → k < count → get_or links k 0 ≤ k
  pub known : (p : List ℕ) → 0 < length p → ltb 0 (found_number book heads links places p) ≡ holds_path bound p (ended_lines book)
  pub few : count ≤ length places
  pub head_places : length heads ≡ 2049
  pub link_places : length links ≡ 5957
  pub place_places : length places ≡ 5957
