-- Two front lines (RULES 15.2 and 15.3): whose is the earlier, and which one is bad.
-- Assumes nothing.
use Rattle.std.specs.Prelude.{ℕ, ◌+◌, cond, List, [], ◌∷◌, eqb, length, None, Option, Some, Ok, Result}
use Rattle.std.specs.Int.Signed.{le_z}
use Rattle.text.specs.Places.{first_place, before}
use Rattle.text.specs.Lines.{newline}
use Rattle.stamps.specs.Lines.{line_of}
use Rattle.stamps.specs.declared.line.Line.{Line}
use Rattle.stamps.specs.declared.line.Line.TheVariants.{Hull, Since}
use Rattle.merge.specs.Lists.{or_else, faulty}
use Rattle.merge.specs.declared.fronts.Front.{Front}
use Rattle.merge.specs.declared.fronts.Front.TheVariants.{Empty, At, Bad}
use Rattle.merge.specs.declared.lists.Machine.{Machine}
use Rattle.merge.specs.declared.lists.Machine.TheVariants.{First, Second}
use Rattle.merge.specs.declared.lists.Fault.TheVariants.{BadLine}
use Rattle.merge.specs.declared.lists.ListError.{ListError}

-- the seconds of a `hull` line; any other line is bad here
abbrev pub front_at_line : Option Line → Front
front_at_line (Some (Hull h)) = At h.time.seconds
front_at_line (Some (Since x)) = Bad
front_at_line None = Bad

-- a front line is empty, or a `hull` line with its newline: the first newline is the last byte. Any other text is bad
unfoldable pub front_of : ℕ → List ℕ → Front
front_of bound [] = Empty
front_of bound (b ∷ s) =
    let l = b ∷ s in
    cond (eqb (first_place newline l + 1) (length l)) (front_at_line (line_of bound (before newline l))) Bad

-- whose line is the earlier one: the first machine's on a tie. An empty one loses, and beside a bad one there is none
abbrev pub earlier_of : Front → Front → Option Machine
earlier_of (At z) (At w) = cond (le_z z w) (Some First) (Some Second)
earlier_of (At z) Empty = Some First
earlier_of (At z) Bad = None
earlier_of Empty (At w) = Some Second
earlier_of Empty Empty = None
earlier_of Empty Bad = None
earlier_of Bad y = None

unfoldable pub earlier_machine : ℕ → List ℕ → List ℕ → Option Machine
earlier_machine bound first second = earlier_of (front_of bound first) (front_of bound second)

-- the line of a machine
abbrev pub line_from : Option Machine → List ℕ → List ℕ → List ℕ
line_from (Some First) first second = first
line_from (Some Second) first second = second
line_from None first second = []

abbrev pub earlier_line : ℕ → List ℕ → List ℕ → List ℕ
earlier_line bound first second = line_from (earlier_machine bound first second) first second

-- a bad front line is at fault, as line 1
abbrev pub front_fault : Machine → Front → Result (Unit {0}) ListError
front_fault m Bad = faulty m (BadLine 1)
front_fault m (At z) = Ok tt
front_fault m Empty = Ok tt

-- the first machine's before the second's
unfoldable pub fronts_of : ℕ → List ℕ → List ℕ → Result (Unit {0}) ListError
fronts_of bound first second = or_else (front_fault First (front_of bound first)) (front_fault Second (front_of bound second))
