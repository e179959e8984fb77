-- What the theorems about ISO dates speak of (docs/PROMISES.md). No contract cites these.
-- Assumes nothing.
use Rattle.std.specs.Prelude.{Bool, true, false, Err, None, Ok, Option, Result, Some}
use Rattle.iso.specs.declared.forms.Local.{Local}
use Rattle.time.specs.declared.Refusal.{Refusal}
use Rattle.time.specs.declared.Time.{Time}

-- whether a form has its fields in a text
abbrev pub is_there : Option Local → Bool
is_there (Some f) = true
is_there None = false

-- whether an answer is a time
abbrev pub accepts : Result Time Refusal → Bool
accepts (Ok t) = true
accepts (Err r) = false
