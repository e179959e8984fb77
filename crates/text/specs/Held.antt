-- What the code holds on the way to an answer. Nothing here is needed to read what the public functions ensure.
-- Assumes nothing.
use Rattle.std.specs.Prelude.{ℕ, Bool, cond, Err, Ok, Result, Some, ℤ}
use Rattle.text.specs.Number.{plus, minus, fitted_signed}
use Rattle.text.specs.declared.number.NumberError.{NumberError}

-- digits with their sign, which were read up to half: half itself fits only with a minus sign
abbrev pub signed_by : ℕ → Bool → Result ℕ NumberError → Result ℤ NumberError
signed_by half negative (Ok n) = fitted_signed half (cond negative (minus (Some n)) (plus (Some n)))
signed_by half negative (Err e) = Err e
