-- The merged book (RULES 15.4), the report on paths whose keys differ (RULES 15.5), and what a call returns that writes both (RULES 15.6).
-- Assumes nothing.
use Rattle.std.specs.Prelude.{ℕ, Bool, true, false, cond, not, ◌&&◌, List, [], ◌∷◌, ◌++◌, length, None, Option, Some, ℤ, Ok, Result, Err}
use Rattle.text.specs.Bytes.{same}
use Rattle.text.specs.Places.{part}
use Rattle.text.specs.Lines.{tab, ended_lines}
use Rattle.text.specs.Room.{fit_both}
use Rattle.time.specs.Answers.{number_of}
use Rattle.time.specs.declared.Refusal.TheVariants.{Room, Lists}
use Rattle.stamps.specs.Lines.{line_of}
use Rattle.stamps.specs.Copies.{joined}
use Rattle.stamps.specs.Listing.{is_at_or_after}
use Rattle.stamps.specs.declared.line.Line.{Line}
use Rattle.stamps.specs.declared.line.Line.TheVariants.{Hull, Since}
use Rattle.compact.specs.Compact.{has_path, holds_path}
use Rattle.merge.specs.Lists.{lists_of, machine_number, fault_line}
use Rattle.merge.specs.declared.lists.ListError.{ListError}
use Rattle.merge.specs.declared.Lengths.{Lengths}
use Rattle.merge.specs.declared.MergeError.{MergeError}
use Rattle.merge.specs.declared.MergeError.TheVariants.{Lists as NotGood, NoRoom}

-- ---- the merged book
-- the seconds of a `hull` line
abbrev pub seconds_in : Option Line → Option ℤ
seconds_in (Some (Hull h)) = Some h.time.seconds
seconds_in (Some (Since x)) = None
seconds_in None = None

-- whether the second line is not before the first
abbrev pub is_in_order : Option ℤ → Option ℤ → Bool
is_in_order a (Some z) = is_at_or_after a z
is_in_order a None = true

-- the lines of both lists: of the two that are next the earlier, the first machine's on a tie
unfoldable pub merged_lines : ℕ → List (List ℕ) → List (List ℕ) → List (List ℕ)
merged_lines bound [] ms = ms
merged_lines bound (l ∷ ls) [] = l ∷ ls
merged_lines bound (l ∷ ls) (m ∷ ms) =
    cond (is_in_order (seconds_in (line_of bound l)) (seconds_in (line_of bound m))) (l ∷ merged_lines bound ls (m ∷ ms)) (m ∷ merged_lines bound (l ∷ ls) ms)

unfoldable pub merged : ℕ → List ℕ → List ℕ → List ℕ
merged bound first second = joined (merged_lines bound (ended_lines first) (ended_lines second))

-- ---- the paths whose keys differ
-- the path and the key of a `hull` line
abbrev pub path_in : List ℕ → Option Line → List ℕ
path_in l (Some (Hull h)) = part l h.path
path_in l (Some (Since x)) = []
path_in l None = []

abbrev pub key_in : List ℕ → Option Line → List ℕ
key_in l (Some (Hull h)) = part l h.key
key_in l (Some (Since x)) = []
key_in l None = []

-- the key in the last of these lines that has the path p; empty if none has it
unfoldable pub last_key : ℕ → List ℕ → List (List ℕ) → List ℕ
last_key bound p [] = []
last_key bound p (l ∷ ls) = cond (holds_path bound p ls) (last_key bound p ls) (cond (has_path p l (line_of bound l)) (key_in l (line_of bound l)) [])

-- whether the path p is in both lists and its last keys there differ
unfoldable pub is_differing : ℕ → List (List ℕ) → List (List ℕ) → List ℕ → Bool
is_differing bound ls ms p = holds_path bound p ls && holds_path bound p ms && not (same (last_key bound p ls) (last_key bound p ms))

-- such paths in these lines, each where it is first, unless a line above has it
unfoldable pub reported : ℕ → List (List ℕ) → List (List ℕ) → List (List ℕ) → List (List ℕ) → List (List ℕ)
reported bound ls ms above [] = []
reported bound ls ms above (k ∷ ks) =
    let p = path_in k (line_of bound k) in
    let below = reported bound ls ms (k ∷ above) ks in
    cond (is_differing bound ls ms p && not (holds_path bound p above)) (p ∷ below) below

-- a path's line of the report: path, first machine's key, second's
unfoldable pub row_of : ℕ → List (List ℕ) → List (List ℕ) → List ℕ → List ℕ
row_of bound ls ms p = p ++ tab ∷ last_key bound p ls ++ tab ∷ last_key bound p ms

unfoldable pub rows_of : ℕ → List (List ℕ) → List (List ℕ) → List (List ℕ) → List (List ℕ)
rows_of bound ls ms [] = []
rows_of bound ls ms (p ∷ ps) = row_of bound ls ms p ∷ rows_of bound ls ms ps

unfoldable pub report : ℕ → List ℕ → List ℕ → List ℕ
report bound first second =
    let ls = ended_lines first in
    let ms = ended_lines second in
    joined (rows_of bound ls ms (reported bound ls ms [] (merged_lines bound ls ms)))

-- ---- what the call returns: refused as the check of both lists is, then by 8 if either room is too short
abbrev pub merged_at : Result (Unit {0}) ListError → List ℕ → List ℕ → List ℕ → List ℕ → Result Lengths MergeError
merged_at (Ok tt) bytes room more other = cond (fit_both bytes room more other) (Ok (record { book = length bytes; report = length more })) (Err NoRoom)
merged_at (Err e) bytes room more other = Err (NotGood e)

abbrev pub merge_of : ℕ → List ℕ → List ℕ → List ℕ → List ℕ → Result Lengths MergeError
merge_of bound first second room other = merged_at (lists_of bound first second) (merged bound first second) room (report bound first second) other

-- whether it wrote both
abbrev pub is_written : Result Lengths MergeError → Bool
is_written (Ok n) = true
is_written (Err e) = false

-- the number that it returns, how many bytes it wrote to each room, the machine and the line: 0 where there is none
abbrev pub merged_number : Result Lengths MergeError → ℕ
merged_number (Ok n) = 0
merged_number (Err (NotGood e)) = number_of Lists
merged_number (Err NoRoom) = number_of Room

abbrev pub book_length : Result Lengths MergeError → ℕ
book_length (Ok n) = n.book
book_length (Err e) = 0

abbrev pub report_length : Result Lengths MergeError → ℕ
report_length (Ok n) = n.report
report_length (Err e) = 0

abbrev pub merged_machine : Result Lengths MergeError → ℕ
merged_machine (Ok n) = 0
merged_machine (Err (NotGood e)) = machine_number (Some e.machine)
merged_machine (Err NoRoom) = 0

abbrev pub merged_line : Result Lengths MergeError → ℕ
merged_line (Ok n) = 0
merged_line (Err (NotGood e)) = fault_line e.fault
merged_line (Err NoRoom) = 0
