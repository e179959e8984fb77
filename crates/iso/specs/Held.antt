-- What the private contracts of the reader speak of: ranges of offsets and of fields. Nothing here is needed to read what
-- `parse_git_date_format` ensures.
-- Assumes nothing.
use Rattle.std.specs.Prelude.{ℕ, ◌≤◌, pos, neg_ℤ, None, Option, Some, ℤ}
use Rattle.ints.specs.Range.{In}
use Rattle.iso.specs.declared.forms.Local.{Local}

-- from -k to k, if it is a number
abbrev pub Within : ℕ → Option ℤ → Type 0
Within k (Some z) = In (neg_ℤ (pos k)) (pos k) z
Within k None = Unit {0}

-- a second of the day, and an offset far within its width
abbrev pub FieldsIn : Option Local → Type 0
FieldsIn (Some f) = (f.second ≤ 86399) × In (neg_ℤ (pos 362340)) (pos 362340) f.offset
FieldsIn None = Unit {0}
