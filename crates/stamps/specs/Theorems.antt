-- What the theorems about books speak of (docs/PROMISES.md). No contract cites these.
-- Assumes nothing.
use Rattle.std.specs.Prelude.{ℕ, ◌≡◌, Bool, true, false, cond, ◌&&◌, ◌||◌, List, [], ◌∷◌, ◌++◌, length, None, Option, Some, ℤ}
use Rattle.text.specs.Places.{part}
use Rattle.text.specs.Lines.{ended_lines}
use Rattle.time.specs.Answers.{time_marked}
use Rattle.time.specs.Header.{is_minus_zero}
use Rattle.time.specs.declared.Time.{Time}
use Rattle.relative.specs.Bounds.{BeyondBound}
use Rattle.stamps.specs.Lines.{line_of, is_good}
use Rattle.stamps.specs.Book.{judged}
use Rattle.stamps.specs.Writing.{hull_line, since_line, is_hull, is_since}
use Rattle.stamps.specs.Listing.{cut_off_in, or_above}
use Rattle.stamps.specs.declared.line.Since.{Since as SinceValue}
use Rattle.stamps.specs.declared.line.Line.{Line}
use Rattle.stamps.specs.declared.line.Line.TheVariants.{Hull, Since}

-- a time without a mark that means nothing: beside offset 0 the mark stays, beside any other offset it is dropped
abbrev pub settled : Time → Time
settled t = time_marked t.seconds t.offset (is_minus_zero t)

-- whether all of these lines are good
unfoldable pub are_good : List (Option Line) → Bool
are_good [] = true
are_good (l ∷ ls) = is_good l && are_good ls

-- whether a line is one of `hull`, or one of `since`
abbrev pub is_hull_line : Option Line → Bool
is_hull_line (Some (Hull h)) = true
is_hull_line (Some (Since x)) = false
is_hull_line None = false

abbrev pub is_since_line : Option Line → Bool
is_since_line (Some (Hull h)) = false
is_since_line (Some (Since x)) = true
is_since_line None = false

-- the `hull` lines among these
unfoldable pub hulls_of : ℕ → List (List ℕ) → List (List ℕ)
hulls_of bound [] = []
hulls_of bound (l ∷ ls) = let below = hulls_of bound ls in cond (is_hull_line (line_of bound l)) (l ∷ below) below

-- whether one of these is a `since` line
unfoldable pub has_since : ℕ → List (List ℕ) → Bool
has_since bound [] = false
has_since bound (l ∷ ls) = is_since_line (line_of bound l) || has_since bound ls

-- the cut-off of the last `since` line among these
unfoldable pub last_cut_off : ℕ → List (List ℕ) → Option ℤ
last_cut_off bound [] = None
last_cut_off bound (l ∷ ls) = or_above (last_cut_off bound ls) (cut_off_in (line_of bound l))

-- the line that is written from the values that were read from a line; nothing if the writer refuses them. A bad line has no
-- values and gives nothing
abbrev pub rewritten : ℕ → List ℕ → Option Line → List ℕ
rewritten bound l (Some (Hull h)) = cond (is_hull (part l h.path) (part l h.key) h.time) (hull_line (part l h.path) (part l h.key) h.time) []
rewritten bound l (Some (Since x)) = cond (is_since bound (part l x.text) x.current) (since_line (part l x.text) x.current) []
rewritten bound l None = []

-- these lines, each read and written again
unfoldable pub rewritten_lines : ℕ → List (List ℕ) → List (List ℕ)
rewritten_lines bound [] = []
rewritten_lines bound (l ∷ ls) = rewritten bound l (line_of bound l) ∷ rewritten_lines bound ls

-- n lines of a book are good by the bound a on pairs, and the next one is a `since` line, good by the bound b, whose text is beyond a
pub record LongLineBehind (a b n : ℕ) (book : List ℕ) : Type 0 where
  pub above : List (List ℕ)
  pub line : List ℕ
  pub below : List (List ℕ)
  pub since : SinceValue
  pub lines_are : ended_lines book ≡ above ++ line ∷ below
  pub number_is : length above ≡ n
  pub above_are_good : are_good (judged a above) ≡ true
  pub line_is : line_of b line ≡ Some (Since since)
  pub beyond : BeyondBound a (part line since.text)
