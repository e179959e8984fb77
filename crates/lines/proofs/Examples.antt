-- Examples of RULES 10, computed: each is under the words that it shows. In order: what lines ask for; a text that keeps its tabs; answer
-- lines. Which lines an input has is shown in `text`.
-- Assumes nothing.
use Rattle.std.specs.Prelude.{None, Option, Some}
use Prim.Native.Nat.{ℕ}
use Prim.Native.String.{String}
use mathlib.Core.Path.{◌≡◌, refl}
use mathlib.Core.List.{List, [], ◌∷◌, ◌++◌}
use lib.IntN.{pos, negsuc}
use Rattle.text.specs.Bytes.{is_digit, same}
use Rattle.text.specs.Quote.{bytes}
use Rattle.text.specs.Decimal.{digits_up_to, decimal, signed}
use Rattle.text.specs.Lines.{tab, newline}
use Rattle.text.specs.Number.{signed_of, fit_signed, unsigned_of, digits_of, read_from}
use Rattle.text.specs.Places.{first_place, has, run}
use Rattle.time.specs.Answers.{time_at}
use Rattle.time.specs.declared.Time.{Time}
use Rattle.lines.specs.Layout.{form_named, current_of, text_of, line_of}
use Rattle.lines.specs.Rows.{row_bytes}
use Rattle.lines.specs.declared.layout.Form.TheVariants.{Header, Raw, Iso, Relative, Any}
use Rattle.lines.specs.declared.layout.Form.{Form}
use Rattle.lines.specs.declared.layout.Request.{Request}

-- four fields with tabs between
abbrev line : String → String → String → String → List ℕ
line form seconds offset text = bytes form ++ tab ∷ bytes seconds ++ tab ∷ bytes offset ++ tab ∷ bytes text

abbrev asks_for : Form → Option Time → ℕ → Option Request
asks_for f n at = Some (record { form = f; current = n; at = at })

-- a line, and what it asks for
data Example : Type 0 where
  reads : List ℕ → Option Request → Example

abbrev AllRight : List Example → Type 0
AllRight [] = Unit {0}
AllRight (reads s x ∷ es) = (line_of s ≡ x) × AllRight es

abbrev layouts : List Example
layouts =
    -- the lines of RULES 11.11: `header`, `relative` and `any`; the text of the last begins at place 8
    reads (line "header" "-" "-" "1745582210 +0200") (asks_for Header None 11)
    ∷ reads (line "relative" "1698400800" "0" "2 minutes ago") (asks_for Relative (Some (time_at (pos 1698400800) (pos 0))) 22)
    ∷ reads (line "any" "-" "-" "now") (asks_for Any None 8)
    -- RULES 10.3, "signed numbers": a `+` and leading zeros are allowed (RULES 4.2, 4.4)
    ∷ reads (line "any" "+0" "007" "now") (asks_for Any (Some (time_at (pos 0) (pos 7))) 11)
    -- the least number of each width
    ∷ reads (line "iso" "-9223372036854775808" "-2147483648" "") (asks_for Iso (Some (time_at (negsuc 9223372036854775807) (negsuc 2147483647))) 37)
    -- not a 64-bit number; not a 32-bit number
    ∷ reads (line "header" "9999999999999999999" "0" "5") None
    ∷ reads (line "header" "0" "2147483648" "5") None
    -- RULES 10.3, "or both fields are `-`": also for a form that uses no current time
    ∷ reads (line "header" "-" "0" "5") None
    -- the fourth field may be empty; an empty line has no fields
    ∷ reads (line "raw" "-" "-" "") (asks_for Raw None 8)
    ∷ reads [] None
    -- the form is one of five names, in small letters
    ∷ reads (line "Header" "-" "-" "5") None
    -- RULES 2.2, "`whenread` tests 9 first": a byte of 128 in the form is 9 and not 1
    ∷ reads (128 ∷ line "raw" "-" "-" "5") None
    ∷ []

layout_examples : AllRight layouts
unfolding line_of form_named current_of same has first_place run signed_of fit_signed unsigned_of digits_of read_from is_digit
layout_examples = (refl, (refl, (refl, (refl, (refl, (refl, (refl, (refl, (refl, (refl, (refl, (refl, tt))))))))))))

-- RULES 10.2, "the text keeps further tabs"
further_tabs : text_of (line "raw" "-" "-" "5" ++ tab ∷ bytes "+0100") ≡ bytes "5" ++ tab ∷ bytes "+0100"
unfolding first_place run
further_tabs = refl

-- RULES 10.4 and 11.11: number, seconds, offset, of the first answer there and of the least numbers
first_answer : row_bytes (record { number = 0; seconds = pos 1745582210; offset = pos 7200 }) ≡ bytes "0" ++ tab ∷ bytes "1745582210" ++ tab ∷ bytes "7200" ++ newline ∷ []
unfolding row_bytes decimal digits_up_to signed
first_answer = refl

least_answer : row_bytes (record { number = 0; seconds = negsuc 9223372036854775807; offset = negsuc 2147483647 })
    ≡ bytes "0" ++ tab ∷ bytes "-9223372036854775808" ++ tab ∷ bytes "-2147483648" ++ newline ∷ []
unfolding row_bytes decimal digits_up_to signed
least_answer = refl
