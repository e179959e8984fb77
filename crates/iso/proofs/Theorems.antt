-- What a caller can say of ISO dates. In order: at most one of the three forms has its fields in a text (`one-form_has_fields`), so
-- that at most one accepts it (`one-iso_form`); the answer is that of the form that accepts (`iso_of_dotted`, `iso_of_compact`,
-- `iso_of_flexible`); `dotted_is_flexible_with_dashes`. That a written line is read back: ReadBack.
-- Assumes nothing.
use Rattle.std.specs.Prelude.{None, Ok, Option, Some}
use mathlib.Core.Path.{◌≡◌, refl, sym, ap, ◌∙◌}
use mathlib.Core.Bool.{Bool, true, false, cond, ◌&&◌, false≢true, and-false}
use mathlib.Core.List.{List, [], ◌∷◌, ◌++◌}
use Prim.Native.Nat.{ℕ, ◌+◌, ◌≤◌, ◌<◌}
use native.Mathlib.Omega.{arith}
use borrow.Author.Tests.{eq-eqb, eqb-true, ltb-true, ltb-false}
use lib.Dec.{eqb, ltb}
use lib.ListN.{length, get_or, take, drop}
use Rattle.text.specs.Bytes.{is_digit, ascii}
use Rattle.text.specs.Number.{read_from, digits_of, unsigned_of, signed_of, fit_signed}
use Rattle.text.specs.Places.{first_place}
use Rattle.text.specs.Trim.{trim}
use Rattle.text.proofs.Lists.{by_test, both, take-two-drop}
use Rattle.time.specs.Answers.{answer_number}
use Rattle.time.specs.declared.Time.{Time}
use Rattle.iso.specs.Parts.{two, int32}
use Rattle.iso.specs.Forms.{read_fields, is_separator, flexible, first_at, compact, dashes, is_dotted, dotted, first_of, form_of}
use Rattle.iso.specs.Iso.{zoned, iso_of}
use Rattle.iso.specs.Theorems.{is_there, accepts}
use Rattle.text.proofs.FirstPlaces.{get_or-first_place}
use Rattle.iso.proofs.FormFields.{all_fields_of_month, all_fields_of_day, flexible_short, flexible_four, dotted_four}
use Rattle.iso.specs.declared.forms.Local.{Local}

-- ---- at most one form
-- a field that opens with a dot or a `T` is no number
int32_dot : (x : ℕ) → int32 (46 ∷ x ∷ []) ≡ None
unfolding int32 signed_of unsigned_of digits_of read_from is_digit fit_signed
int32_dot x = refl

int32-T : (x : ℕ) → int32 (84 ∷ x ∷ []) ≡ None
unfolding int32 signed_of unsigned_of digits_of read_from is_digit fit_signed
int32-T x = refl

-- so a text with a dot at place 4 is not compact: it would open the month
compact_of_dot : (s : List ℕ) → get_or s 4 0 ≡ 46 → compact s ≡ None
unfolding compact first_at read_fields
compact_of_dot s p =
    by_test (eqb (first_place 84 s) 8)
    (λ e. by_test (ltb 8 (length s))
    (λ f.
    let h : 4 + 2 ≤ length s = omega (arith, ltb-true 8 (length s) f) in
    let m : int32 (two 4 s) ≡ None = ap int32 (take-two-drop s 4 h) ∙ ap (λ (b : ℕ). int32 (b ∷ get_or s 5 0 ∷ [])) p ∙ int32_dot (get_or s 5 0) in
    rw (e, f, m) (all_fields_of_month _ _ _ _))
    (λ f. rw (e, f)))
    (λ e. rw e)

-- and one with its first `T` at place 8 is not flexible: it would open the day
flexible_of_T : (s : List ℕ) → first_at 84 8 s ≡ true → flexible s ≡ None
unfolding first_at flexible read_fields
flexible_of_T s e =
    let q = both (eqb (first_place 84 s) 8) (ltb 8 (length s)) e in
    let i : first_place 84 s ≡ 8 = eqb-true _ _ q.0 in
    let l : first_place 84 s < length s = omega (arith, ltb-true 8 (length s) q.1) in
    let b : get_or s 8 0 ≡ 84 = sym (ap (λ (k : ℕ). get_or s k 0) i) ∙ get_or-first_place 84 s l in
    by_test (ltb (length s) 11) (λ f. sym (flexible_short s (ltb-true _ _ f)))
    (λ f.
    let h : 8 + 2 ≤ length s = omega (arith, ltb-false (length s) 11 f) in
    let d : int32 (two 8 s) ≡ None = ap int32 (take-two-drop s 8 h) ∙ ap (λ (x : ℕ). int32 (x ∷ get_or s 9 0 ∷ [])) b ∙ int32-T (get_or s 9 0) in
    rw (d, all_fields_of_day) (same (eqb (get_or s 4 0) 45 && (eqb (get_or s 7 0) 45 && is_separator (get_or s 10 0)))))
  where
    same : (t : Bool) → cond {A = Option Local} t None None ≡ None
    same true = refl
    same false = refl

ne_of_eqb : (a b : ℕ) → eqb a b ≡ false → a ≡ b → ⊥
ne_of_eqb a b h e = false≢true (sym h ∙ eq-eqb a b e)

-- of any two forms one is missing
module _ (s : List ℕ) {A : Type 0} where
  dotted-or-compact : (dotted s ≡ None → A) → (compact s ≡ None → A) → A
  dotted-or-compact f g =
      by_test (eqb (get_or s 4 0) 46) (λ e. g (compact_of_dot s (eqb-true (get_or s 4 0) 46 e)))
      (λ e. f (sym (dotted_four s (ne_of_eqb (get_or s 4 0) 46 e))))

  dotted-or-flexible : (dotted s ≡ None → A) → (flexible s ≡ None → A) → A
  dotted-or-flexible f g =
      by_test (eqb (get_or s 4 0) 46) (λ e. g (sym (flexible_four s (λ x. absurd (omega (arith, x, eqb-true (get_or s 4 0) 46 e))))))
      (λ e. f (sym (dotted_four s (ne_of_eqb (get_or s 4 0) 46 e))))

  compact-or-flexible : (compact s ≡ None → A) → (flexible s ≡ None → A) → A
  unfolding compact
  compact-or-flexible f g = by_test (first_at 84 8 s) (λ e. g (flexible_of_T s e)) (λ e. f (rw e))

-- of two tests that are not both true
first-false : (x y : Bool) → x ≡ false → (x && y) ≡ false
first-false x y e = rw e

second-false : (x y : Bool) → y ≡ false → (x && y) ≡ false
second-false x y e = rw e (and-false x)

there_missing : {f : Option Local} → f ≡ None → is_there f ≡ false
there_missing e = rw e

-- no text has the fields of two of the three forms
pub one-form_has_fields : (s : List ℕ)
    → ((is_there (dotted s) && is_there (compact s)) ≡ false)
    × (((is_there (dotted s) && is_there (flexible s)) ≡ false)
    × ((is_there (compact s) && is_there (flexible s)) ≡ false))
one-form_has_fields s =
    let a = is_there (dotted s) in
    let b = is_there (compact s) in
    let d = is_there (flexible s) in (
      dotted-or-compact s (λ e. first-false a b (there_missing e)) (λ e. second-false a b (there_missing e)),
      (
        dotted-or-flexible s (λ e. first-false a d (there_missing e)) (λ e. second-false a d (there_missing e)),
        compact-or-flexible s (λ e. first-false b d (there_missing e)) (λ e. second-false b d (there_missing e)),
      ),
    )

zoned_missing : {f : Option Local} → f ≡ None → accepts (zoned f) ≡ false
unfolding zoned
zoned_missing e = rw e

-- so no text is accepted by two of them
pub one-iso_form : (s : List ℕ)
    → ((accepts (zoned (dotted s)) && accepts (zoned (compact s))) ≡ false)
    × (((accepts (zoned (dotted s)) && accepts (zoned (flexible s))) ≡ false)
    × ((accepts (zoned (compact s)) && accepts (zoned (flexible s))) ≡ false))
one-iso_form s =
    let a = accepts (zoned (dotted s)) in
    let b = accepts (zoned (compact s)) in
    let d = accepts (zoned (flexible s)) in (
      dotted-or-compact s (λ e. first-false a b (zoned_missing e)) (λ e. second-false a b (zoned_missing e)),
      (
        dotted-or-flexible s (λ e. first-false a d (zoned_missing e)) (λ e. second-false a d (zoned_missing e)),
        compact-or-flexible s (λ e. first-false b d (zoned_missing e)) (λ e. second-false b d (zoned_missing e)),
      ),
    )

-- ---- the form that accepts gives the answer
not-missing : {f : Option Local} {t : Time} → zoned f ≡ Ok t → f ≡ None → ⊥
unfolding zoned
not-missing e m = omega (arith, ap answer_number (rw m at e))

module _ (s : List ℕ) (a : ascii s ≡ true) {t : Time} where
  pub iso_of_dotted : zoned (dotted (trim s)) ≡ Ok t → iso_of s ≡ Ok t
  unfolding iso_of form_of first_of
  iso_of_dotted h = rw a (go (dotted (trim s)) h)
    where
      go : (f : Option Local) → zoned f ≡ Ok t → zoned (first_of f (first_of (compact (trim s)) (flexible (trim s)))) ≡ Ok t
      go (Some f) e = e
      go None e = absurd (not-missing e refl)

  pub iso_of_compact : zoned (compact (trim s)) ≡ Ok t → iso_of s ≡ Ok t
  unfolding iso_of form_of first_of
  iso_of_compact h =
      dotted-or-compact (trim s) (λ m. rw (a, m) (go (compact (trim s)) h)) (λ m. absurd (not-missing h m))
    where
      go : (f : Option Local) → zoned f ≡ Ok t → zoned (first_of f (flexible (trim s))) ≡ Ok t
      go (Some f) e = e
      go None e = absurd (not-missing e refl)

  pub iso_of_flexible : zoned (flexible (trim s)) ≡ Ok t → iso_of s ≡ Ok t
  unfolding iso_of form_of first_of
  iso_of_flexible h =
      dotted-or-flexible (trim s)
      (λ m. compact-or-flexible (trim s) (λ n. rw (a, m, n) h) (λ n. absurd (not-missing h n)))
      (λ m. absurd (not-missing h m))

-- ---- a dotted text is read as the flexible one that has dashes for the dots of its date
pub dotted_is_flexible_with_dashes : (s : List ℕ) → is_dotted s ≡ true → dotted s ≡ flexible (dashes (take 10 s) ++ drop 10 s)
unfolding dotted
dotted_is_flexible_with_dashes s e = rw e
