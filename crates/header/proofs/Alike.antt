-- What the header reader answers to a text that the raw reader accepts (`header_of_raw`): the same time if
-- the byte after the offset's sign is a digit, and otherwise its seconds at offset 0, without the mark. So the two agree exactly if that
-- byte is a digit, or the offset is 0 without the mark (`raw_header_alike`, `raw_header_alike_only`), which is not so for `5 ++5+0` and
-- `5 -+0+0`. This holds for any limits.
-- Assumes nothing.
use Rattle.std.specs.Prelude.{None, Ok, Some}
use mathlib.Core.Path.{◌≡◌, refl, sym, ap, ◌∙◌}
use mathlib.Core.Bool.{Bool, true, false, cond}
use mathlib.Core.List.{List}
use mathlib.Core.Logic.{inl, inr, ⊎_elim}
use Prim.Native.Nat.{ℕ}
use lib.IntN.{ℤ, pos}
use lib.ListN.{get_or}
use Rattle.text.specs.Bytes.{is_space, is_digit}
use Rattle.text.specs.Words.{words}
use Rattle.text.proofs.Lists.{by_test}
use Rattle.time.specs.Answers.{time_at, time_marked}
use Rattle.time.specs.declared.Time.{Time}
use Rattle.header.specs.Offset.{second_word_of, fields_of, read_time, Byte}
use Rattle.header.specs.Header.{number64, seconds_of, header_offset, header_time, header_of}
use Rattle.header.specs.Raw.{Limits, rule2, raw_of}
use Rattle.header.specs.Held.{first_word}
use Rattle.header.specs.Theorems.{RawDate, Alike}
use Rattle.header.specs.declared.offset.Fields.{Fields}
use Rattle.header.proofs.Unsigned.{fields_of-signed}
use Rattle.header.proofs.Readers.{header_of_words_is, no_colon_of_raw}
use Rattle.header.proofs.RawDates.{raw_accepts_only}

-- the time that the header reader gives where raw gives t: t if a digit follows the sign, else its seconds at offset 0
abbrev kept : List ℕ → Time → Time
kept v t = cond (is_digit (get_or v 1 0)) t (time_at t.seconds (pos 0))

header_time-cond : (z : ℤ) (d : Bool) (f : Fields) → header_time (Ok z) (cond d (Some f) None) ≡ Ok (cond d (read_time z f) (time_at z (pos 0)))
header_time-cond z true f = refl
header_time-cond z false f = refl

-- the words of a raw date
module _ {l : Limits} {s : List ℕ} {t : Time} (d : RawDate l s t) where
  number_first : number64 (first_word s) ≡ Ok t.seconds
  number_first = rw d.words_are d.number_is

  fields_second : fields_of Byte (second_word_of s) ≡ Some d.fields
  fields_second = rw d.words_are d.fields_are

-- what the header reader answers to a text that the raw reader accepts, for any limits
header_of_raw : (l : Limits) (s : List ℕ) (t : Time) → raw_of l s ≡ Ok t → header_of s ≡ Ok (kept (second_word_of s) t)
unfolding header_of seconds_of header_offset
header_of_raw l s t e =
    let d = raw_accepts_only l s t e in
    rw (
      d.ascii_is,
      no_colon_of_raw s t.seconds d.fields (number_first d) (fields_second d),
      header_of_words_is (words is_space s),
      number_first d,
      fields_of-signed (second_word_of s) d.fields (fields_second d),
      header_time-cond t.seconds (is_digit (get_or (second_word_of s) 1 0)) d.fields,
    )
    (λ i. Ok (cond (is_digit (get_or (second_word_of s) 1 0)) (time_marked t.seconds (d.offset_is i) (d.mark_is i)) (time_at t.seconds (pos 0))))

-- they agree if the byte after the offset's sign is a digit, or the offset is 0 without the mark
pub raw_header_alike : (l : Limits) (s : List ℕ) (t : Time) → raw_of l s ≡ Ok t → Alike s t → header_of s ≡ raw_of l s
raw_header_alike l s t e alike = header_of_raw l s t e ∙ ap Ok same ∙ sym e
  where
    same : kept (second_word_of s) t ≡ t
    same =
        ⊎_elim (λ d. rw d)
        (λ o. by_test (is_digit (get_or (second_word_of s) 1 0)) (λ d. rw d) (λ d. rw d (sym o)))
        alike

-- and only then
pub raw_header_alike_only : (l : Limits) (s : List ℕ) (t : Time) → raw_of l s ≡ Ok t → header_of s ≡ raw_of l s → Alike s t
raw_header_alike_only l s t e same =
    by_test (is_digit (get_or (second_word_of s) 1 0)) (λ a. inl a)
    (λ a.
    let k : Ok (time_at t.seconds (pos 0)) ≡ Ok t = sym (rw a at (header_of_raw l s t e)) ∙ same ∙ e in
    let z : time_at t.seconds (pos 0) ≡ t = cc in
    inr (sym z))

-- so what rule 2 accepts, beyond rule 1 too, the header reader answers alike where a digit follows the sign
pub rule_2_as_header : (s : List ℕ) (t : Time) → raw_of rule2 s ≡ Ok t → is_digit (get_or (second_word_of s) 1 0) ≡ true → header_of s ≡ Ok t
rule_2_as_header s t e digit = raw_header_alike rule2 s t e (inl digit) ∙ e
