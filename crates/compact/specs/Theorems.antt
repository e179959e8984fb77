-- What the theorems about compacting speak of (docs/PROMISES.md). No contract cites these.
-- Assumes nothing.
use Rattle.std.specs.Prelude.{ℕ, suc, ◌≡◌, Bool, true, false, cond, ◌&&◌, ◌||◌, List, [], ◌∷◌, ◌++◌, None, Option, Some, ℤ}
use Rattle.text.specs.Bytes.{same}
use Rattle.text.specs.Places.{part}
use Rattle.stamps.specs.Lines.{line_of}
use Rattle.stamps.specs.Listing.{is_listed, cut_off_below}
use Rattle.stamps.specs.Theorems.{is_since_line}
use Rattle.stamps.specs.Held.{mark_of}
use Rattle.stamps.specs.declared.line.Line.{Line}
use Rattle.stamps.specs.declared.line.Line.TheVariants.{Hull, Since}
use Rattle.compact.specs.Compact.{has_path, holds_path, is_kept}

-- the mark of each line: 1 if it is kept, 0 if it goes
unfoldable pub kept_marks : ℕ → List (List ℕ) → List ℕ
kept_marks bound [] = []
kept_marks bound (l ∷ ls) = mark_of (is_kept bound l (line_of bound l) ls) ∷ kept_marks bound ls

-- ---- different paths
-- the path of a line, if it is one of `hull`, in front of others
abbrev pub with_path : List ℕ → Option Line → List (List ℕ) → List (List ℕ)
with_path l (Some (Hull h)) ps = part l h.path ∷ ps
with_path l (Some (Since x)) ps = ps
with_path l None ps = ps

-- the paths of the `hull` lines, in their order
unfoldable pub paths_in : ℕ → List (List ℕ) → List (List ℕ)
paths_in bound [] = []
paths_in bound (l ∷ ls) = with_path l (line_of bound l) (paths_in bound ls)

-- whether p is one of these, and how often
unfoldable pub is_in : List ℕ → List (List ℕ) → Bool
is_in p [] = false
is_in p (q ∷ qs) = same q p || is_in p qs

unfoldable pub times_in : List ℕ → List (List ℕ) → ℕ
times_in p [] = 0
times_in p (q ∷ qs) = let n = times_in p qs in cond (same q p) (suc n) n

-- the different ones among these, each where it is last
unfoldable pub different : List (List ℕ) → List (List ℕ)
different [] = []
different (p ∷ ps) = let below = different ps in cond (is_in p ps) below (p ∷ below)

-- ---- a new line: its path is not in these lines. A line of `since` always is one
abbrev pub IsNew : ℕ → List ℕ → List (List ℕ) → Type 0
IsNew bound l ls = (p : List ℕ) → has_path p l (line_of bound l) ≡ true → holds_path bound p ls ≡ false

-- ---- the lines above a line
-- the lines of `above` that are kept if `below` follows them
unfoldable pub kept_above : ℕ → List (List ℕ) → List (List ℕ) → List (List ℕ)
kept_above bound [] below = []
kept_above bound (l ∷ above) below = let ls = kept_above bound above below in cond (is_kept bound l (line_of bound l) (above ++ below)) (l ∷ ls) ls

-- the `since` lines among these
unfoldable pub sinces_of : ℕ → List (List ℕ) → List (List ℕ)
sinces_of bound [] = []
sinces_of bound (l ∷ ls) = let below = sinces_of bound ls in cond (is_since_line (line_of bound l)) (l ∷ below) below

-- ---- listings
-- the lines that are listed, under a cut-off, without those that go
unfoldable pub listed_of_kept : ℕ → Option ℤ → List (List ℕ) → List (List ℕ)
listed_of_kept bound c [] = []
listed_of_kept bound c (l ∷ ls) =
    let below = listed_of_kept bound (cut_off_below c (line_of bound l)) ls in
    cond (is_listed c (line_of bound l) && is_kept bound l (line_of bound l) ls) (l ∷ below) below
