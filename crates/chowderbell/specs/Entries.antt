-- RULES 2.1, 5.8 and 5.10 for C: what the entries read as the current time, as the rule of raw dates and as a mark, and what they return
-- and store for the answer of a reader, with its mark or without, of a writer, of a check of a book, of its listing and of a salvage, of a
-- check of two lists and of their merge.
-- Assumes nothing.
use Rattle.std.specs.Prelude.{ℕ, ◌≡◌, Bool, cond, not, List, eqb, ℤ, Err, None, Option, Result, Some}
use Rattle.text.specs.Bytes.{ascii}
use Rattle.time.specs.Answers.{time_at, answer_number, answer_time, written_number, written_length}
use Rattle.time.specs.declared.Refusal.TheVariants.{NotAscii, Form}
use Rattle.header.specs.Raw.{Limits, limits_of}
use Rattle.header.specs.declared.raw.Rule.TheVariants.{One, Two}
use Rattle.stamps.specs.Book.{checked_number, checked_line}
use Rattle.stamps.specs.Copies.{copied_number, copied_length, copied_line}
use Rattle.merge.specs.Lists.{verdict_number, verdict_machine, verdict_line}
use Rattle.merge.specs.Merge.{merged_number, book_length, report_length, merged_machine, merged_line}
use Rattle.merge.specs.declared.lists.ListError.{ListError}
use Rattle.merge.specs.declared.Lengths.{Lengths}
use Rattle.merge.specs.declared.MergeError.{MergeError}
use Rattle.salvage.specs.Salvage.{salvaged_number, book_length as salvaged_length, report_length as salvage_report_length, last_bad}
use Rattle.salvage.specs.declared.Salvaged.{Salvaged}
use Rattle.time.specs.declared.Refusal.{Refusal}
use Rattle.header.specs.declared.raw.Rule.{Rule}
use Rattle.time.specs.declared.Time.{Time}
use Rattle.stamps.specs.declared.book.BookError.{BookError}

-- the current time: missing if the byte is 0, and otherwise the two numbers
abbrev pub now_of : ℕ → ℤ → ℤ → Option Time
now_of has_now seconds offset = cond (eqb has_now 0) None (Some (time_at seconds offset))

-- the rule that a number names
abbrev pub rule_of : ℕ → Option Rule
rule_of n = cond (eqb n 1) (Some One) (cond (eqb n 2) (Some Two) None)

-- without a rule every text is refused by 2, after 1
abbrev pub no_rule : List ℕ → Result Time Refusal
no_rule s = cond (ascii s) (Err Form) (Err NotAscii)

-- the answer to s if the caller names a rule; `by` gives the answer within limits
abbrev pub ruled : Option Rule → (Limits → Result Time Refusal) → List ℕ → Result Time Refusal
ruled (Some r) by s = by (limits_of r)
ruled None by s = no_rule s

-- a reader returns the number of its answer and stores the time, which is 0 at offset 0 for a refusal
pub record HandedOut (a : Result Time Refusal) (number : ℕ) (seconds offset : ℤ) : Type 0 where
  pub number_is : number ≡ answer_number a
  pub seconds_is : seconds ≡ (answer_time a).seconds
  pub offset_is : offset ≡ (answer_time a).offset

-- a mark is a byte: 0 if it is clear, 1 if it is set
abbrev pub mark_byte : Bool → ℕ
mark_byte m = cond m 1 0

-- from a caller, any byte but 0 sets it
abbrev pub is_set : ℕ → Bool
is_set b = not (eqb b 0)

-- a reader that gives the mark stores it too; it is clear for a refusal
pub record HandedMarked (a : Result Time Refusal) (number : ℕ) (seconds offset : ℤ) (mark : ℕ) : Type 0 where
  pub handed_out : HandedOut a number seconds offset
  pub mark_is : mark ≡ mark_byte (answer_time a).mark

-- a writer returns the number of its answer and stores the length, which is 0 for a refusal
pub record HandedLength (w : Result ℕ Refusal) (number length : ℕ) : Type 0 where
  pub number_is : number ≡ written_number w
  pub length_is : length ≡ written_length w

-- a check of a book returns the number of its answer and stores the line, which is 0 for a good book and for one that is too long
pub record HandedCheck (c : Result (Unit {0}) BookError) (number line : ℕ) : Type 0 where
  pub number_is : number ≡ checked_number c
  pub line_is : line ≡ checked_line c

-- a call that copies lines of a book returns the number of its answer and stores how many bytes it wrote, which is 0 for a refusal, and the
-- line, as a check does
pub record HandedCopy (l : Result ℕ BookError) (number length line : ℕ) : Type 0 where
  pub number_is : number ≡ copied_number l
  pub length_is : length ≡ copied_length l
  pub line_is : line ≡ copied_line l

-- a salvage returns the number of its answer and stores how many bytes it wrote to each room and the number of the last bad line: 0 where there
-- is none, and all 0 for a refusal
pub record HandedSalvage (s : Result Salvaged Refusal) (number book report last : ℕ) : Type 0 where
  pub number_is : number ≡ salvaged_number s
  pub book_is : book ≡ salvaged_length s
  pub report_is : report ≡ salvage_report_length s
  pub last_is : last ≡ last_bad s

-- a check of two lists, or of two front lines, returns the number of its answer and stores the machine and the line: 0 where there is none
pub record HandedVerdict (v : Result (Unit {0}) ListError) (number machine line : ℕ) : Type 0 where
  pub number_is : number ≡ verdict_number v
  pub machine_is : machine ≡ verdict_machine v
  pub line_is : line ≡ verdict_line v

-- a merge returns the number of its answer and stores how many bytes it wrote to each room, the machine and the line: 0 where there is none
pub record HandedMerge (m : Result Lengths MergeError) (number book report machine line : ℕ) : Type 0 where
  pub number_is : number ≡ merged_number m
  pub book_is : book ≡ book_length m
  pub report_is : report ≡ report_length m
  pub machine_is : machine ≡ merged_machine m
  pub line_is : line ≡ merged_line m
