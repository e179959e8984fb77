-- The answer of a line, in its two cases: a line that asks for a text to be read, and one that has the wrong layout.
-- Assumes nothing.
use Rattle.std.specs.Prelude.{None, Option, Result, Some}
use mathlib.Core.Path.{◌≡◌, sym, ap, ◌∙◌}
use mathlib.Core.List.{List}
use Prim.Native.Nat.{ℕ}
use lib.IntN.{pos}
use lib.ListN.{drop}
use Rattle.lines.specs.Layout.{line_of, text_of}
use Rattle.lines.specs.Answers.{answer_by, row_at, wrong_layout, row_by, row_of}
use Rattle.lines.specs.declared.layout.Request.{Request}
use Rattle.lines.specs.declared.print.Row.{Row}
use Rattle.lines.proofs.Layouts.{line_of-asks}
use Rattle.time.specs.declared.Refusal.{Refusal}
use Rattle.time.specs.declared.Time.{Time}

-- a line that asks: the row of what the form's reader answers for its text
pub row_asked : (s t : List ℕ) (q : Request) (a : Result Time Refusal) (r : Row) → line_of s ≡ Some q → t ≡ drop q.at s → a ≡ answer_by q.form t q.current → r ≡ row_at a → r ≡ row_of s
unfolding row_of
row_asked s t q a r e et ea er =
    er ∙ ap row_at (ea ∙ ap (λ (v : List ℕ). answer_by q.form v q.current) (et ∙ line_of-asks s q e)) ∙ sym (ap (λ (l : Option Request). row_by l (text_of s)) e)

-- a line of the wrong layout, or too long
pub row_wrong : (s : List ℕ) → line_of s ≡ None → record { number = wrong_layout; seconds = pos 0; offset = pos 0 } ≡ row_of s
unfolding row_of
row_wrong s e = sym (ap (λ (l : Option Request). row_by l (text_of s)) e)
