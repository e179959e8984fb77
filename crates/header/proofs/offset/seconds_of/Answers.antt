-- `header::offset::seconds_of` meets its contract: the sum of fields of two bytes fits 32 bits, and so does its negation.
use lib.Dec.{T}
use lib.IntN.{ℤ, pos, negsuc, ◌+ℤ◌, ◌-ℤ◌, ◌*ℤ◌, +ℤ_assoc}
use mir.Syntax.{w32, w64}
use mir.Val.{SFits, to_z, of_z}
use Rattle.ints.proofs.Machine.{At, holds, known, lit, add, sub, times, read, fits, negated}
use Rattle.header.specs.Offset.{offset_of}
use Rattle.header.specs.Held.{Small}
use Rattle.header.specs.declared.offset.Fields.{Fields}
use Rattle.header.proofs.offset.seconds_of.Goals as goal

abbrev rd : ℤ → ℤ
rd z = to_z w64 (of_z w64 z)

-- the locals
module _ {f : Fields} (p : Small f) where
  hours : At (negsuc 356399) (pos 356400) (f.hours *ℤ pos 3600) (rd (rd f.hours *ℤ pos 3600))
  hours = read w64 tt (times 3600 (known w64 tt p.hours_in_range))

  minutes : At (negsuc 5939) (pos 5940) (f.minutes *ℤ pos 60) (rd (rd f.minutes *ℤ pos 60))
  minutes = read w64 tt (times 60 (known w64 tt p.minutes_in_range))

  rest : At (negsuc 6038) (pos 6039) (f.minutes *ℤ pos 60 +ℤ f.seconds) (rd (rd (rd f.minutes *ℤ pos 60) +ℤ rd f.seconds))
  rest = read w64 tt (add minutes (known w64 tt p.seconds_in_range))

  sum : At (negsuc 362438) (pos 362439) (f.hours *ℤ pos 3600 +ℤ f.minutes *ℤ pos 60 +ℤ f.seconds) (rd (rd (rd f.hours *ℤ pos 3600) +ℤ rd (rd (rd f.minutes *ℤ pos 60) +ℤ rd f.seconds)))
  sum = rw (+ℤ_assoc (f.hours *ℤ pos 3600) (f.minutes *ℤ pos 60) f.seconds) (read w64 tt (add hours rest))

-- the difference of any two of them fits, so the answer alone shows which two they are
module _ {l h a m l' h' b n : ℤ} (p : At l h a m) (q : At l' h' b n) (t : T (holds w64 (l -ℤ h') (h -ℤ l'))) where
  fits-64 : SFits w64 (m -ℤ n)
  fits-64 = fits w64 t (sub p q)

  fits-32 : T (holds w32 (l -ℤ h') (h -ℤ l')) → SFits w32 (rd (m -ℤ n))
  fits-32 u = fits w32 u (read w64 t (sub p q))

pub overflow_mul-hours : goal.overflow_mul-hours
overflow_mul-hours c = fits w64 tt (times 3600 (known w64 tt c.requires.hours_in_range))

pub overflow_mul-rest : goal.overflow_mul-rest
overflow_mul-rest c = fits w64 tt (times 60 (known w64 tt c.requires.minutes_in_range))

pub overflow_add-rest : goal.overflow_add-rest
overflow_add-rest c = let p = c.requires in fits w64 tt (add (minutes p) (known w64 tt p.seconds_in_range))

pub overflow_add-sum : goal.overflow_add-sum
overflow_add-sum c = let p = c.requires in fits w64 tt (add (hours p) (rest p))

pub overflow_sub-result : goal.overflow_sub-result
overflow_sub-result c =
    let p = c.requires in
    let z = lit (pos 0) in
    let h = hours p in
    let r = rest p in
    let s = sum p in
    search fits-64

pub overflow_cast-result : goal.overflow_cast-result
overflow_cast-result c =
    let p = c.requires in
    let z = lit (pos 0) in
    let h = hours p in
    let r = rest p in
    let s = sum p in
    search fits-32

pub returns-then-f : goal.returns-then-f
unfolding offset_of
returns-then-f c = rw c.if-f.true (read w32 tt (read w64 tt (negated (sum c.requires)))).is

pub overflow_cast-result-else-f : goal.overflow_cast-result-else-f
overflow_cast-result-else-f c = fits w32 tt (sum c.requires)

pub returns-else-f : goal.returns-else-f
unfolding offset_of
returns-else-f c = rw c.if-f.false (read w32 tt (sum c.requires)).is
