-- Examples of lines that are written (RULES 13.12), worked out by hand and computed: each is under the words that it shows. In order: lines
-- of hulls; lines of cut-offs.
-- Assumes nothing.
use Rattle.std.specs.Prelude.{Err, Ok, Result}
use Prim.Native.Nat.{ℕ}
use mathlib.Core.Path.{◌≡◌, refl}
use mathlib.Core.Bool.{true}
use mathlib.Core.List.{List, [], ◌∷◌, ◌++◌}
use lib.IntN.{ℤ, pos, negsuc}
use Rattle.text.specs.Bytes.{is_space, is_digit, is_alphanumeric, lower_of, ascii, same_letters}
use Rattle.text.specs.Trim.{trim, trim_end, trim_start}
use Rattle.text.specs.Words.{words, pieces, full}
use Rattle.text.specs.Quote.{bytes}
use Rattle.text.specs.Decimal.{digits_up_to, decimal, signed, signed_before}
use Rattle.text.specs.Places.{run, first_place, has}
use Rattle.text.specs.Number.{read_from, digits_of, fit}
use Rattle.text.specs.Lines.{tab, newline}
use Rattle.time.specs.Answers.{time_at, time_marked}
use Rattle.time.specs.Header.{header_bytes, header_sign, sign_byte, whole_minutes}
use Rattle.time.specs.Range.{seconds_in_range, offset_in_range, time_in_range}
use Rattle.time.specs.declared.Refusal.TheVariants.{Room, Book}
use Rattle.relative.specs.Words.{words_of, spelled, count_of, singular, unit_named, unit_of}
use Rattle.relative.specs.Pairs.{pairs_from, ago_from, known}
use Rattle.relative.specs.Steps.{landing, landed, step, steps}
use Rattle.relative.specs.Relative.{max_pairs, from, named_of, by_pairs, relative_of}
use Rattle.stamps.specs.Stamps.{is_whole_minutes}
use Rattle.stamps.specs.Lines.{every, is_path_byte, is_path, is_hex_digit, is_key}
use Rattle.stamps.specs.Writing.{hull_line, since_line, is_hull, is_since, hull_written, since_written}
use Rattle.time.specs.declared.Refusal.{Refusal}

-- a room of 32 bytes, and one of 31
abbrev room : List ℕ
room = bytes "--------------------------------"

abbrev shorter : List ℕ
shorter = bytes "-------------------------------"

-- ---- lines of hulls
abbrev key : List ℕ
key = bytes "0123456789abcdef"

abbrev hull : List ℕ → List ℕ → ℤ → List ℕ → Result ℕ Refusal
hull path key offset room = hull_written path key (time_at (pos 5) offset) room

hull_bytes : hull_line (bytes "a b") key (time_at (negsuc 4) (pos 5400)) ≡ bytes "hull" ++ tab ∷ bytes "a b" ++ tab ∷ key ++ tab ∷ bytes "-5 +0130"
unfolding hull_line header_bytes header_sign sign_byte whole_minutes signed_before signed decimal digits_up_to
hull_bytes = refl

-- offset 0 with the mark
minus-zero-bytes : hull_line (bytes "a") key (time_marked (pos 5) (pos 0) true) ≡ bytes "hull" ++ tab ∷ bytes "a" ++ tab ∷ key ++ tab ∷ bytes "5 -0000"
unfolding hull_line header_bytes header_sign whole_minutes signed_before signed decimal digits_up_to
minus-zero-bytes = refl

hull_examples :  -- the newline is counted: the line has 32 bytes with it
    (hull (bytes "a") key (pos 5400) room ≡ Ok 32) × (hull (bytes "a") key (pos 5400) shorter ≡ Err Room)
    -- a path has at least one byte, none of them a tab or of 127 on
    × (hull [] key (pos 5400) room ≡ Err Book) × (hull (tab ∷ []) key (pos 5400) room ≡ Err Book) × (hull (127 ∷ []) key (pos 5400) room ≡ Err Book)
    -- a key has 16 digits, in lower case
    × (hull (bytes "a") (bytes "0123456789abcde") (pos 5400) room ≡ Err Book) × (hull (bytes "a") (bytes "0123456789abcdeF") (pos 5400) room ≡ Err Book)
    -- an offset is whole minutes, and the header writer must take it
    × (hull (bytes "a") key (negsuc 29) room ≡ Err Book) × (hull (bytes "a") key (pos 359940) room ≡ Ok 32) × (hull (bytes "a") key (pos 360000) room ≡ Err Book)
    -- the values are tested before the room
    × (hull [] key (pos 5400) [] ≡ Err Book)
unfolding hull_written is_hull is_key is_hex_digit is_path is_path_byte every is_whole_minutes hull_line header_bytes header_sign sign_byte whole_minutes signed_before signed decimal digits_up_to is_digit
hull_examples = (refl, refl, refl, refl, refl, refl, refl, refl, refl, refl, refl)

-- ---- lines of cut-offs
abbrev since : List ℕ → ℤ → List ℕ → Result ℕ Refusal
since text seconds room = since_written max_pairs text (time_at seconds (negsuc 59)) room

since_bytes : since_line (bytes "7 days ago") (time_at (pos 5) (negsuc 59)) ≡ bytes "since" ++ tab ∷ bytes "7 days ago" ++ tab ∷ bytes "5" ++ tab ∷ bytes "-60"
unfolding since_line signed decimal digits_up_to
since_bytes = refl

since_examples : (since (bytes "7 days ago") (pos 5) room ≡ Ok 23) × (since (bytes "7 days ago") (pos 5) [] ≡ Err Room)
    -- a relative date may have white space around it, but neither a tab nor a newline
    × (since (bytes " now ") (pos 5) room ≡ Ok 18) × (since (bytes "now" ++ newline ∷ []) (pos 5) room ≡ Err Book) × (since (tab ∷ bytes "now") (pos 5) room ≡ Err Book)
    -- the text must be a relative date, and be read at that current time: the last one is out of range
    × (since (bytes "tomorrow") (pos 5) room ≡ Err Book) × (since (bytes "now") (pos 253402207201) room ≡ Err Book)
    -- the values are tested before the room
    × (since (bytes "tomorrow") (pos 5) [] ≡ Err Book)
unfolding since_written is_since since_line has first_place run relative_of by_pairs named_of from steps step landed landing pairs_from ago_from known unit_of unit_named singular count_of spelled words_of time_in_range seconds_in_range offset_in_range fit digits_of read_from signed decimal digits_up_to full pieces words trim_start trim_end trim same_letters ascii lower_of is_alphanumeric is_digit is_space
since_examples = (refl, refl, refl, refl, refl, refl, refl, refl)
