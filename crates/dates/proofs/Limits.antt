-- "Any" within two limits l and m, of which m allows all that l allows: every answer within l other than 2 is also the answer
-- within m (`any_within`). Rule 1 and rule 2 are such limits (`any_by_rule_2_answers_alike`).
--
-- The limits matter in two places: "any" reads a raw date after `@`, and as its last step. At the last step, all steps before it
-- have answered the same; a raw date by l is the same raw date by m, and a number that is too large is so by both. After `@` there
-- may be a raw date by m that is none by l. Then every further step refuses the text by 2, so the answer by l is 2, and the theorem
-- says nothing of it.
-- Assumes nothing.
use Rattle.std.specs.Prelude.{Err, None, Ok, Option, Result, Some}
use mathlib.Core.Path.{◌≡◌, refl, sym, ap, ◌∙◌}
use mathlib.Core.Bool.{true, false≢true}
use mathlib.Core.List.{List, [], ◌∷◌}
use Prim.Native.Nat.{ℕ, ◌^◌}
use Prim.Native.Char.{code}
use native.Mathlib.Omega.{arith}
use borrow.Author.Tests.{eqb-true, eqb-false}
use lib.Dec.{eqb}
use lib.IntN.{ℤ}
use lib.ListN.{length}
use Rattle.text.specs.Bytes.{is_space, ascii}
use Rattle.text.specs.Words.{pieces, full, words}
use Rattle.text.specs.Number.{signed_of, fit_signed}
use Rattle.text.proofs.Lists.{by_test}
use Rattle.text.proofs.Numbers.{fit_signed-value}
use Rattle.text.proofs.Taking.{Whole, words_of_whole}
use Rattle.text.proofs.Texts.{whole_of_between, Between-le, between_of_signed_of}
use Rattle.time.specs.declared.Time.{Time}
use Rattle.time.specs.declared.Refusal.TheVariants.{Form}
use Rattle.header.specs.Raw.{Limits, rule1, rule2, raw_of}
use Rattle.header.specs.Theorems.{RawDate, Within}
use Rattle.header.proofs.RawDates.{raw_accepts_only, raw_cases, raw-not-ascii, raw_too_large, raw_within}
use Rattle.header.proofs.Rules.{rule_1_within_rule_2}
use Rattle.iso.specs.Iso.{iso_of}
use Rattle.relative.specs.Relative.{relative_of}
use Rattle.dates.specs.Any.{is_settled, or_else, least64, numbered, number_from, marked_of, plain_of, any_of}
use Rattle.dates.proofs.Steps.{plain_of-nil, plain_of_of_at, plain_of_of_other}
use Rattle.dates.proofs.LowBytes.{low_of_raw}
use Rattle.dates.proofs.AtSign.{raw_of_of_at, iso_of_of_at, relative_of_of_at}
use Rattle.time.specs.declared.Refusal.{Refusal}

-- ---- a raw date is no number: it is two words, and a number is one
module _ {l : Limits} {s : List ℕ} {t : Time} (d : RawDate l s t) where
  not-number : (z : ℤ) → signed_of s ≡ Some z → ⊥
  unfolding words pieces full
  not-number z e = go s d.words_are (whole_of_between 57 s (Between-le 43 33 57 (omega arith) s (between_of_signed_of s z e)))
    where
      go : (s : List ℕ) → words is_space s ≡ d.first ∷ d.second ∷ [] → Whole is_space s → ⊥
      go [] k h = omega (arith, ap length k)
      go (b ∷ s) k h = omega (arith, ap length (sym k ∙ words_of_whole is_space (b ∷ s) (omega arith) h))

  number_from_of_raw : (least : ℤ) → number_from least s ≡ Err Form
  unfolding number_from
  number_from_of_raw least = go (fit_signed (2 ^ 63) (signed_of s)) refl
    where
      go : (x : Option ℤ) → fit_signed (2 ^ 63) (signed_of s) ≡ x → numbered least x ≡ Err Form
      go (Some z) e = absurd (not-number z (fit_signed-value (2 ^ 63) (signed_of s) z e))
      go None e = refl

-- ---- the raw reader's answer to an ASCII text is a time, if it is neither 2 nor 11
raw_of-settled : (l : Limits) (s : List ℕ) → ascii s ≡ true → is_settled (raw_of l s) ≡ true → (t : Time) × (raw_of l s ≡ Ok t)
raw_of-settled l s a h = raw_cases l s a (λ t e. (t, e)) (λ e. absurd (false≢true (rw e at h))) (λ e. absurd (false≢true (rw e at h)))

-- ---- two answers: the second keeps the first, unless that is 2
abbrev Keeps : Result Time Refusal → Result Time Refusal → Type 0
Keeps a b = (a ≡ Err Form → ⊥) → b ≡ a

or_else-keeps : (x a b : Result Time Refusal) → Keeps a b → Keeps (or_else x a) (or_else x b)
or_else-keeps x a b k h = by_test (is_settled x) (λ e. rw e) (λ e. rw e (k (rw e at h)))

settled-not-form : (a : Result Time Refusal) → is_settled a ≡ true → a ≡ Err Form → ⊥
settled-not-form a h e = false≢true (rw e at h)

-- ---- two limits
module _ (l m : Limits) (within : Within l m) where
  -- 1 and 11 are given within any limits
  raw_keeps : (s : List ℕ) → Keeps (raw_of l s) (raw_of m s)
  raw_keeps s h =
      by_test (ascii s)
      (λ a. raw_cases l s a (λ t e. raw_within l m within s t e ∙ sym e) (λ e. absurd (h e)) (λ e. (raw_too_large m s).1 ((raw_too_large l s).0 e) ∙ sym e))
      (λ a. raw-not-ascii m s a ∙ sym (raw-not-ascii l s a))

  -- after `@` the answers are the same; or there is a raw date by m, and the answer by l is 2
  marked_same-or : {A : Type 0} (s : List ℕ) → ascii s ≡ true
      → (marked_of m s ≡ marked_of l s → A) → ((t : Time) → RawDate m s t → marked_of l s ≡ Err Form → A) → A
  unfolding marked_of
  marked_same-or s a same other =
      by_test (is_settled (raw_of l s)) (λ e. same (rw (raw_keeps s (settled-not-form (raw_of l s) e))))
      (λ e.
      by_test (is_settled (raw_of m s))
      (λ f.
      let (t, k) = raw_of-settled m s a f in
      let d = raw_accepts_only m s t k in
      other t d (rw e (number_from_of_raw d least64)))
      (λ f. same (rw (e, f))))

  module _ (bound : ℕ) (s : List ℕ) (now : Option Time) where
    -- where the forms that need no calendar answer the same
    any_of_plain : ascii s ≡ true → plain_of m s ≡ plain_of l s → Keeps (any_of bound l s now) (any_of bound m s now)
    unfolding any_of
    any_of_plain a same h =
        rw (a, same)
        (or_else-keeps (plain_of l s) _ _ (or_else-keeps (iso_of s) _ _ (or_else-keeps (relative_of bound s now) _ _ (raw_keeps s))) (rw a at h))

    -- where there is a raw date after `@` by m alone: all further steps answer 2
    any_refused : (t : Time) → RawDate m s t → marked_of l s ≡ Err Form → any_of bound l (code "@" ∷ s) now ≡ Err Form
    unfolding any_of ascii
    any_refused t d e =
        let a = d.ascii_is in
        rw (a, plain_of_of_at l (code "@") s refl, e, iso_of_of_at s a, relative_of_of_at bound s now a (low_of_raw d), raw_of_of_at l s a)

  any_of_at : (bound : ℕ) (s : List ℕ) (now : Option Time) → ascii s ≡ true → Keeps (any_of bound l (code "@" ∷ s) now) (any_of bound m (code "@" ∷ s) now)
  unfolding ascii
  any_of_at bound s now a h =
      marked_same-or s a
      (λ same. any_of_plain bound (code "@" ∷ s) now a (plain_of_of_at m (code "@") s refl ∙ same ∙ sym (plain_of_of_at l (code "@") s refl)) h)
      (λ t d e. absurd (h (any_refused bound s now t d e)))

  any_of_ascii : (bound : ℕ) (s : List ℕ) (now : Option Time) → ascii s ≡ true → Keeps (any_of bound l s now) (any_of bound m s now)
  unfolding ascii
  any_of_ascii bound [] now a = any_of_plain bound [] now a (plain_of-nil m ∙ sym (plain_of-nil l))
  any_of_ascii bound (b ∷ s) now a =
      by_test (eqb b (code "@"))
      (λ e. let k = eqb-true b (code "@") e in rw k (any_of_at bound s now (rw k at a)))
      (λ e. let n = eqb-false b (code "@") e in any_of_plain bound (b ∷ s) now a (plain_of_of_other m b s n ∙ sym (plain_of_of_other l b s n)))

-- ---- the theorem
pub any_within : (bound : ℕ) (l m : Limits) → Within l m → (s : List ℕ) (now : Option Time) → (any_of bound l s now ≡ Err Form → ⊥) → any_of bound m s now ≡ any_of bound l s now
unfolding any_of
any_within bound l m within s now h = by_test (ascii s) (λ a. any_of_ascii l m within bound s now a h) (λ a. rw a)

-- whatever "any" answers by rule 1, other than 2, it answers alike by rule 2
pub any_by_rule_2_answers_alike : (bound : ℕ) (s : List ℕ) (now : Option Time) → (any_of bound rule1 s now ≡ Err Form → ⊥) → any_of bound rule2 s now ≡ any_of bound rule1 s now
any_by_rule_2_answers_alike bound = any_within bound rule1 rule2 rule_1_within_rule_2
