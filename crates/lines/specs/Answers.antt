-- The answer of a line (RULES 10.4). Its number is 9 if the line has the wrong layout or is too long, which is tested first (RULES 2.2);
-- otherwise it is the number that the form's reader returns.
-- Assumes nothing.
use Rattle.std.specs.Prelude.{ℕ, List, pos, None, Option, Result, Some}
use Rattle.time.specs.Answers.{answer_number, answer_time}
use Rattle.header.specs.Header.{header_of}
use Rattle.header.specs.Raw.{rule1, raw_of}
use Rattle.iso.specs.Iso.{iso_of}
use Rattle.relative.specs.Relative.{max_pairs, relative_of}
use Rattle.dates.specs.Any.{any_of}
use Rattle.lines.specs.Layout.{text_of, line_of}
use Rattle.lines.specs.Rows.{row_bytes}
use Rattle.lines.specs.declared.layout.Form.{Form}
use Rattle.lines.specs.declared.layout.Form.TheVariants.{Header, Raw, Iso, Relative, Any}
use Rattle.lines.specs.declared.layout.Request.{Request}
use Rattle.lines.specs.declared.print.Row.{Row}
use Rattle.time.specs.declared.Refusal.{Refusal}
use Rattle.time.specs.declared.Time.{Time}

-- what the form's reader answers for text t at current time n
abbrev pub answer_by : Form → List ℕ → Option Time → Result Time Refusal
answer_by Header t n = header_of t
answer_by Raw t n = raw_of rule1 t
answer_by Iso t n = iso_of t
answer_by Relative t n = relative_of max_pairs t n
answer_by Any t n = any_of max_pairs rule1 t n

-- the three numbers of an answer; a refusal has its number, seconds 0 and offset 0 (RULES 2.1)
abbrev pub row_at : Result Time Refusal → Row
row_at a = record { number = answer_number a; seconds = (answer_time a).seconds; offset = (answer_time a).offset }

-- RULES 2.1: the number of a line of the wrong layout, or too long
abbrev pub wrong_layout : ℕ
wrong_layout = 9

-- the row of a line that asks for text t to be read
abbrev pub row_by : Option Request → List ℕ → Row
row_by (Some q) t = row_at (answer_by q.form t q.current)
row_by None t = record { number = wrong_layout; seconds = pos 0; offset = pos 0 }

-- the row of a line
unfoldable pub row_of : List ℕ → Row
row_of s = row_by (line_of s) (text_of s)

-- the answer line of a line
unfoldable pub answer_line : List ℕ → List ℕ
answer_line s = row_bytes (row_of s)
