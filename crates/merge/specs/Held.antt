-- What the code holds on the way to an answer. Nothing here is needed to read what the public calls ensure. In order: the first line of a text;
-- whose line was taken; the key of a line; the rows that wait to be put into the report.
-- Assumes nothing.
use Rattle.std.specs.Prelude.{ℕ, ◌+◌, ◌-◌, ◌≤◌, ◌<◌, ◌≡◌, Bool, true, false, cond, ◌||◌, List, [], ◌∷◌, ◌++◌, eqb, length, take, drop, get_or, set, None, Option, Some, ℤ}
use Rattle.text.specs.Bytes.{same}
use Rattle.text.specs.Places.{first_place, before, has}
use Rattle.text.specs.Lines.{tab, newline, ended_lines}
use Rattle.stamps.specs.Lines.{line_of}
use Rattle.stamps.specs.declared.line.Line.{Line}
use Rattle.stamps.specs.declared.line.Line.TheVariants.{Hull, Since}
use Rattle.compact.specs.Held.{path_at, found_number}
use Rattle.merge.specs.Merge.{last_key, is_differing}
use Rattle.merge.specs.declared.lists.NextHull.{NextHull}
use Rattle.merge.specs.declared.lists.Machine.{Machine}
use Rattle.merge.specs.declared.lists.Machine.TheVariants.{First, Second}

-- ---- the first line of a text, if it is a `hull` line with its newline: its seconds, and how many bytes it has
abbrev pub hull_next : ℤ → ℕ → Option NextHull
hull_next z size = Some (record { seconds = z; size = size })

abbrev pub next_is : Option Line → ℕ → Option NextHull
next_is (Some (Hull h)) size = hull_next h.time.seconds size
next_is (Some (Since x)) size = None
next_is None size = None

unfoldable pub next_of : ℕ → List ℕ → Option NextHull
next_of bound s = cond (has newline s) (next_is (line_of bound (before newline s)) (first_place newline s + 1)) None

-- ---- the front line of what is left of a list from a place on, with its newline
abbrev pub front_from : List ℕ → ℕ → List ℕ
front_from list at = let s = drop at list in take (first_place newline s + 1) s

-- ---- whose line was taken: the first machine's if it is the same as that one's front line
unfoldable pub whose_of : List ℕ → List ℕ → Option Machine
whose_of line first = cond (eqb (length line) 0) None (cond (same line first) (Some First) (Some Second))

-- ---- the key of the `hull` line at the front of s: 16 bytes behind the tab that follows the path
unfoldable pub key_at : List ℕ → List ℕ
key_at s = take 16 (drop (5 + (length (path_at s) + 1)) s)

-- ---- the report
-- a row: path, tab, key, tab, key, newline
abbrev pub row_with : List ℕ → List ℕ → List ℕ → List ℕ
row_with p a b = p ++ tab ∷ a ++ tab ∷ b ++ newline ∷ []

-- the number of the second list's line that is reported with the line at the front of s: 0 if no line has its path, or if the keys are the same
unfoldable pub other_of : List ℕ → List ℕ → List ℕ → List ℕ → List ℕ → ℕ
other_of s second heads links places =
    let n = found_number second heads links places (path_at s) in
    cond (eqb n 0 || same (key_at s) (key_at (drop (get_or places (n - 1) 0) second))) 0 n

-- what is stored for a path: if its row waits, the number of the second list's last line with the path, and else 0
abbrev pub Stored : ℕ → List ℕ → List ℕ → List ℕ → Bool → ℕ → Type 0
Stored bound second others p true n = (0 < n) × (n ≤ length others) × (key_at (drop (get_or others (n - 1) 0) second) ≡ last_key bound p (ended_lines second))
Stored bound second others p false n = n ≡ 0

-- what is stored at the start for the lines that are kept of the first list, which begin at `places`: the rows of all paths whose keys differ wait
pub record AllWait (bound : ℕ) (first places second others : List ℕ) (count : ℕ) (waiting : List ℕ) : Type 0 where
  pub few : count ≤ length waiting
  pub stored : (k : ℕ) → k < count
      → let p = path_at (drop (get_or places k 0) first) in
      Stored bound second others p (is_differing bound (ended_lines first) (ended_lines second) p) (get_or waiting k 0)

-- the row of a line's path, which is that of the kept line with number k, if it waits
abbrev pub row_for : List ℕ → List ℕ → List ℕ → List ℕ → List ℕ → ℕ → ℕ → List ℕ
row_for line first places second others k n =
    cond (eqb n 0) [] (row_with (path_at line) (key_at (drop (get_or places (k - 1) 0) first)) (key_at (drop (get_or others (n - 1) 0) second)))

-- the number that is stored for the kept line with number k; for number 0, which is none, nothing waits
abbrev pub stored_for : List ℕ → ℕ → ℕ
stored_for waiting k = cond (eqb k 0) 0 (get_or waiting (k - 1) 0)

-- the same without it
abbrev pub without : List ℕ → ℕ → List ℕ
without waiting k = cond (eqb k 0) waiting (set waiting (k - 1) 0)
