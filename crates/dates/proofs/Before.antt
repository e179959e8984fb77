-- "Any" answers as it did before there was an 11, but that some texts that were 2 are 11 (RULES 12.7): `any_as_before`. So the same texts
-- are read, as the same times (`any_reads_as_before`). "Any" as it was is in this file alone; `or_else` is that of today, since no reader
-- answered 11, and it judges all other answers as it did.
-- Assumes nothing.
use Rattle.std.specs.Prelude.{Err, Ok, Option, Result}
use mathlib.Core.Path.{◌≡◌, refl}
use mathlib.Core.Bool.{cond}
use mathlib.Core.List.{List, [], ◌∷◌}
use mathlib.Core.Logic.{◌↔◌, inl, ⊎_elim}
use Prim.Native.Char.{code}
use Prim.Native.Nat.{ℕ}
use lib.Dec.{eqb}
use Rattle.text.specs.Bytes.{ascii}
use Rattle.text.proofs.Lists.{by_test}
use Rattle.time.specs.Theorems.{AsBefore}
use Rattle.time.specs.declared.Time.{Time as TimeValue}
use Rattle.time.specs.declared.Refusal.TheVariants.{NotAscii, Form}
use Rattle.time.proofs.Before.{read_as_before}
use Rattle.header.specs.Raw.{Limits}
use Rattle.header.proofs.Before.{raw_was, raw_as_before}
use Rattle.iso.specs.Iso.{iso_of}
use Rattle.relative.specs.Relative.{relative_of}
use Rattle.dates.specs.Any.{is_settled, or_else, least64, least_plain, number_from, marked_of, at_of, plain_of, any_of}
use Rattle.time.specs.declared.Refusal.{Refusal}
use Rattle.time.specs.declared.Time.{Time}

-- ---- "any" as it was
abbrev marked_was : Limits → List ℕ → Result Time Refusal
marked_was l s = or_else (raw_was l s) (number_from least64 s)

abbrev at_was : Limits → List ℕ → Result Time Refusal
at_was l [] = Err Form
at_was l (b ∷ s) = cond (eqb b (code "@")) (marked_was l s) (Err Form)

abbrev plain_was : Limits → List ℕ → Result Time Refusal
plain_was l s = or_else (at_was l s) (number_from least_plain s)

pub any_was : ℕ → Limits → List ℕ → Option Time → Result Time Refusal
any_was bound l s now =
    cond (ascii s)
    (or_else (plain_was l s) (or_else (iso_of s) (or_else (relative_of bound s now) (raw_was l s))))
    (Err NotAscii)

-- ---- behind `@` nothing is different: a raw date that is refused by 2 or 11 is followed by the number
marked_was_is : (l : Limits) (s : List ℕ) → marked_was l s ≡ marked_of l s
unfolding marked_of
marked_was_is l s = ⊎_elim (λ same. rw same) (λ new. rw (new.0, new.1)) (raw_as_before l s)

plain_was_is : (l : Limits) (s : List ℕ) → plain_was l s ≡ plain_of l s
unfolding plain_of at_of
plain_was_is l [] = refl
plain_was_is l (b ∷ s) = rw (marked_was_is l s)

-- ---- the last step
or_else_as_before : (x was now : Result Time Refusal) → AsBefore was now → AsBefore (or_else x was) (or_else x now)
or_else_as_before x was now b = by_test (is_settled x) (λ e. rw e (inl refl)) (λ e. rw e b)

pub any_as_before : (bound : ℕ) (l : Limits) (s : List ℕ) (now : Option Time) → AsBefore (any_was bound l s now) (any_of bound l s now)
unfolding any_was any_of
any_as_before bound l s now =
    by_test (ascii s)
    (λ a.
    rw (a, plain_was_is l s)
    (or_else_as_before (plain_of l s) _ _ (or_else_as_before (iso_of s) _ _ (or_else_as_before (relative_of bound s now) _ _ (raw_as_before l s)))))
    (λ a. rw a (inl refl))

pub any_reads_as_before : (bound : ℕ) (l : Limits) (s : List ℕ) (now : Option Time) (t : TimeValue) → (any_of bound l s now ≡ Ok t) ↔ (any_was bound l s now ≡ Ok t)
any_reads_as_before bound l s now t = read_as_before (any_was bound l s now) (any_of bound l s now) (any_as_before bound l s now) t
