-- Refusal 11 (RULES 5.9 and 8.2): "any" answers it exactly if its last step is reached and raw answers it there (`any_too_large`).
-- The ISO and the relative reader never do (`iso_never_too_large`, `relative_never_too_large`), nor does a text that begins with `@`
-- (`at_never_too_large`).
-- Assumes nothing.
use Rattle.std.specs.Prelude.{Err, Option, Result}
use mathlib.Core.Path.{◌≡◌, sym, ap, ◌∙◌}
use mathlib.Core.Bool.{false, false≢true}
use mathlib.Core.List.{List, ◌∷◌}
use mathlib.Core.Logic.{◌↔◌}
use Prim.Native.Char.{code}
use Prim.Native.Nat.{ℕ}
use native.Mathlib.Omega.{arith}
use Rattle.text.specs.Bytes.{ascii}
use Rattle.text.proofs.Lists.{by_test}
use Rattle.time.specs.Answers.{answer_number}
use Rattle.time.specs.declared.Refusal.TheVariants.{TooLarge}
use Rattle.header.specs.Raw.{Limits}
use Rattle.header.proofs.RawDates.{raw_too_large}
use Rattle.iso.specs.Iso.{iso_of}
use Rattle.relative.specs.Relative.{relative_of}
use Rattle.relative.proofs.Texts.{from_number, relative_of-keeps}
use Rattle.dates.specs.Any.{is_settled, or_else, plain_of, any_of}
use Rattle.dates.specs.Theorems.{AnyTooLarge}
use Rattle.dates.proofs.AtSign.{raw_of_of_at}
use Rattle.dates.proofs.Numbers.{iso_number}
use Rattle.time.specs.declared.Refusal.{Refusal}
use Rattle.time.specs.declared.Time.{Time}

-- ---- ISO and relative dates
pub iso_never_too_large : (s : List ℕ) → iso_of s ≡ Err TooLarge → ⊥
iso_never_too_large s e = false≢true (rw e at (iso_number s))

pub relative_never_too_large : (bound : ℕ) (s : List ℕ) (now : Option Time) → relative_of bound s now ≡ Err TooLarge → ⊥
relative_never_too_large bound s now =
    relative_of-keeps (λ (a : Result Time Refusal). a ≡ Err TooLarge → ⊥) bound s now (λ e. omega (arith, ap answer_number e)) (λ e. omega (arith, ap answer_number e)) (λ e. omega (arith, ap answer_number e))
    (λ ps e. false≢true (rw e at (from_number now ps)))

-- ---- "any"
-- 11 does not end the search, so it comes from the second of two steps
or_else-too_large : (a b : Result Time Refusal) → or_else a b ≡ Err TooLarge → (is_settled a ≡ false) × (b ≡ Err TooLarge)
or_else-too_large a b e = by_test (is_settled a) (λ k. let m : a ≡ Err TooLarge = rw k at e in absurd (false≢true (rw m at k))) (λ k. (k, rw k at e))

pub neither_settled : (a b : Result Time Refusal) → (is_settled (or_else a b) ≡ false) ↔ ((is_settled a ≡ false) × (is_settled b ≡ false))
neither_settled a b = (
  λ e. by_test (is_settled a) (λ k. absurd (false≢true (sym (rw k at e) ∙ k))) (λ k. (k, rw k at e)),
  λ p. rw (p.0, p.1),
)

pub any_too_large : (bound : ℕ) (l : Limits) (s : List ℕ) (now : Option Time) → (any_of bound l s now ≡ Err TooLarge) ↔ AnyTooLarge bound l s now
unfolding any_of
any_too_large bound l s now = (only, given)
  where
    only : any_of bound l s now ≡ Err TooLarge → AnyTooLarge bound l s now
    only e =
        by_test (ascii s)
        (λ a.
        let p = or_else-too_large (plain_of l s) _ (rw a at e) in
        let i = or_else-too_large (iso_of s) _ p.1 in
        let r = or_else-too_large (relative_of bound s now) _ i.1 in
        record {
          reached = (neither_settled (plain_of l s) _).1 (p.0, (neither_settled (iso_of s) (relative_of bound s now)).1 (i.0, r.0));
          last = (raw_too_large l s).0 r.1;
        })
        (λ a. absurd (omega (arith, ap answer_number (rw a at e))))

    given : AnyTooLarge bound l s now → any_of bound l s now ≡ Err TooLarge
    given t =
        let p = (neither_settled (plain_of l s) _).0 t.reached in
        let i = (neither_settled (iso_of s) (relative_of bound s now)).0 p.1 in
        rw (t.last.ascii_is, p.0, i.0, i.1) ((raw_too_large l s).1 t.last)

pub at_never_too_large : (bound : ℕ) (l : Limits) (s : List ℕ) (now : Option Time) → any_of bound l (code "@" ∷ s) now ≡ Err TooLarge → ⊥
unfolding ascii
at_never_too_large bound l s now e =
    let last = ((any_too_large bound l (code "@" ∷ s) now).0 e).last in
    omega (arith, ap answer_number (sym ((raw_too_large l (code "@" ∷ s)).1 last) ∙ raw_of_of_at l s last.ascii_is))
