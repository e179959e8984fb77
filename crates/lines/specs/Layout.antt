-- The layout of a line (RULES 10.1 to 10.3): form, current seconds, current offset, text, with tabs between. Places are counted from 0:
-- in `any`, tab, `-`, tab, `-`, tab, `now` the text begins at place 8.
-- Assumes nothing.
use Rattle.std.specs.Prelude.{ℕ, ◌+◌, ◌^◌, cond, ◌&&◌, List, leb, length, None, Option, Some, ℤ}
use Rattle.text.specs.Bytes.{same}
use Rattle.text.specs.Quote.{bytes}
use Rattle.text.specs.Places.{first_place, has}
use Rattle.text.specs.Lines.{tab, field, rest}
use Rattle.text.specs.Number.{signed_of, fit_signed}
use Rattle.time.specs.Answers.{time_at}
use Rattle.lines.specs.declared.layout.Form.TheVariants.{Header, Raw, Iso, Relative, Any}
use Rattle.lines.specs.declared.layout.Request.{Request}
use Rattle.lines.specs.declared.layout.Form.{Form}
use Rattle.time.specs.declared.Time.{Time}

-- RULES 10.1: the most bytes that a line has before its end
abbrev pub max_line : ℕ
max_line = 4096

-- RULES 10.2: the form is `header`, `raw`, `iso`, `relative` or `any`
unfoldable pub form_named : List ℕ → Option Form
form_named s =
    cond (same s (bytes "header")) (Some Header)
    (cond (same s (bytes "raw")) (Some Raw)
    (cond (same s (bytes "iso")) (Some Iso)
    (cond (same s (bytes "relative")) (Some Relative)
    (cond (same s (bytes "any")) (Some Any) None))))

-- RULES 10.3: the current seconds and offset, if both fields are numbers
abbrev pub current_at : Option ℤ → Option ℤ → Option (Option Time)
current_at (Some z) (Some o) = Some (Some (time_at z o))
current_at (Some z) None = None
current_at None o = None

-- signed numbers of 64 and 32 bits; or both fields are `-`, and the current time is missing
unfoldable pub current_of : List ℕ → List ℕ → Option (Option Time)
current_of s o =
    cond (same s (bytes "-") && same o (bytes "-")) (Some None)
    (current_at (fit_signed (2 ^ 63) (signed_of s)) (fit_signed (2 ^ 31) (signed_of o)))

-- RULES 10.2: the text, which keeps further tabs, and the place where it begins
abbrev pub text_of : List ℕ → List ℕ
text_of s = rest (rest (rest s))

abbrev pub text_place : List ℕ → ℕ
text_place s = first_place tab s + 1 + (first_place tab (rest s) + 1) + (first_place tab (rest (rest s)) + 1)

-- what a line of these fields asks for
abbrev pub asks : Option Form → Option (Option Time) → ℕ → Option Request
asks (Some f) (Some n) at = Some (record { form = f; current = n; at = at })
asks (Some f) None at = None
asks None c at = None

-- a line that is not too long, has at least three tabs, and whose first three fields are as the rules say
unfoldable pub line_of : List ℕ → Option Request
line_of s =
    cond (leb (length s) max_line && (has tab s && (has tab (rest s) && has tab (rest (rest s)))))
    (asks (form_named (field s)) (current_of (field (rest s)) (field (rest (rest s)))) (text_place s))
    None
