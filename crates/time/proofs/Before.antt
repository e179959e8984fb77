-- An answer beside the one before there was an 11 (RULES 12.7): a time is read exactly if it was (`read_as_before`), a refusal other than 2
-- is given exactly if it was (`refused_as_before`), and what was 2 is 2 or 11 (`form-or-too_large`).
-- Assumes nothing.
use Rattle.std.specs.Prelude.{Err, Ok, Result}
use mathlib.Core.Path.{◌≡◌, sym, ap, ◌∙◌}
use mathlib.Core.Logic.{◌↔◌, ◌⊎◌, inl, inr, ⊎_elim}
use native.Mathlib.Omega.{arith}
use Rattle.time.specs.Answers.{answer_number}
use Rattle.time.specs.Theorems.{AsBefore}
use Rattle.time.specs.declared.Time.{Time}
use Rattle.time.specs.declared.Refusal.{Refusal}
use Rattle.time.specs.declared.Refusal.TheVariants.{Form, TooLarge}

module _ (was now : Result Time Refusal) (b : AsBefore was now) where
  pub read_as_before : (t : Time) → (now ≡ Ok t) ↔ (was ≡ Ok t)
  read_as_before t = (
    λ e. ⊎_elim (λ same. sym same ∙ e) (λ new. absurd (omega (arith, ap answer_number (sym new.1 ∙ e)))) b,
    λ e. ⊎_elim (λ same. same ∙ e) (λ new. absurd (omega (arith, ap answer_number (sym new.0 ∙ e)))) b,
  )

  pub refused_as_before : (r : Refusal) → (r ≡ Form → ⊥) → was ≡ Err r → now ≡ Err r
  refused_as_before r n e = ⊎_elim (λ same. same ∙ e) (λ new. absurd (n (let k : Err Form ≡ Err r = sym new.0 ∙ e in cc))) b

  pub form-or-too_large : was ≡ Err Form → (now ≡ Err Form) ⊎ (now ≡ Err TooLarge)
  form-or-too_large e = ⊎_elim (λ same. inl (same ∙ e)) (λ new. inr new.1) b
