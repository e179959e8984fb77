-- Two lists, and what is wrong with them (RULES 15.1 and 15.6). Lines are counted from 1.
-- Assumes nothing.
use Rattle.std.specs.Prelude.{ℕ, suc, cond, List, [], ◌∷◌, leb, length, None, Option, Some, ℤ, Ok, Result, Err}
use Rattle.time.specs.Answers.{number_of}
use Rattle.time.specs.declared.Refusal.TheVariants.{Lists}
use Rattle.stamps.specs.Book.{lines_in}
use Rattle.stamps.specs.Listing.{is_at_or_after}
use Rattle.stamps.specs.declared.line.Line.{Line}
use Rattle.stamps.specs.declared.line.Line.TheVariants.{Hull, Since}
use Rattle.merge.specs.declared.lists.Machine.{Machine}
use Rattle.merge.specs.declared.lists.Machine.TheVariants.{First, Second}
use Rattle.merge.specs.declared.lists.Fault.{Fault}
use Rattle.merge.specs.declared.lists.Fault.TheVariants.{TooLong, BadLine, StepBack}
use Rattle.merge.specs.declared.lists.ListError.{ListError}

-- RULES 15.1: the most bytes that a list has
abbrev pub max_list : ℕ
max_list = 32768

-- refused: the list of this machine has this fault
abbrev pub faulty : {V : Type 0} → Machine → Fault → Result V ListError
faulty m f = Err (record { machine = m; fault = f })

abbrev pub length_fault : Machine → List ℕ → Result (Unit {0}) ListError
length_fault m list = cond (leb (length list) max_list) (Ok tt) (faulty m TooLong)

-- the first line at fault, where the first of these lines has number n and the line above it has these seconds: one that is no good `hull`
-- line, or one whose seconds are below those of the line above it
unfoldable pub line_fault : Machine → ℕ → Option ℤ → List (Option Line) → Result (Unit {0}) ListError
line_fault m n above [] = Ok tt
line_fault m n above (Some (Hull h) ∷ ls) =
    let z = h.time.seconds in
    cond (is_at_or_after above z) (line_fault m (suc n) (Some z) ls) (faulty m (StepBack n))
line_fault m n above (Some (Since x) ∷ ls) = faulty m (BadLine n)
line_fault m n above (None ∷ ls) = faulty m (BadLine n)

unfoldable pub lines_fault : ℕ → Machine → List ℕ → Result (Unit {0}) ListError
lines_fault bound m list = line_fault m 1 None (lines_in bound list)

-- one fault goes before another
abbrev pub or_else : Result (Unit {0}) ListError → Result (Unit {0}) ListError → Result (Unit {0}) ListError
or_else (Ok tt) v = v
or_else (Err e) v = Err e

-- both lengths first, then the lines of the first machine, then those of the second
unfoldable pub lists_of : ℕ → List ℕ → List ℕ → Result (Unit {0}) ListError
lists_of bound first second =
    or_else (length_fault First first) (or_else (length_fault Second second) (or_else (lines_fault bound First first) (lines_fault bound Second second)))

-- the number that a check returns, the machine and the line: 0 where there is none
abbrev pub machine_number : Option Machine → ℕ
machine_number None = 0
machine_number (Some First) = 1
machine_number (Some Second) = 2

abbrev pub fault_line : Fault → ℕ
fault_line TooLong = 0
fault_line (BadLine n) = n
fault_line (StepBack n) = n

abbrev pub verdict_number : Result (Unit {0}) ListError → ℕ
verdict_number (Ok tt) = 0
verdict_number (Err e) = number_of Lists

abbrev pub verdict_machine : Result (Unit {0}) ListError → ℕ
verdict_machine (Ok tt) = 0
verdict_machine (Err e) = machine_number (Some e.machine)

abbrev pub verdict_line : Result (Unit {0}) ListError → ℕ
verdict_line (Ok tt) = 0
verdict_line (Err e) = fault_line e.fault
