-- Rule 1 and rule 2. Rule 2 allows all that rule 1 allows, so whatever rule 1 accepts, rule 2 answers alike
-- (`rule_2_answers_alike`). By rule 2 an offset has whole minutes and lies under 24 hours (`rule_2_offset`).
-- Assumes nothing.
use Rattle.std.specs.Prelude.{Ok}
use mathlib.Core.Path.{◌≡◌, refl, ap, subst}
use mathlib.Core.Bool.{Bool, true, false, cond, ◌&&◌, false≢true}
use mathlib.Core.List.{List}
use Prim.Native.Nat.{ℕ, zero, suc, ◌+◌, ◌*◌, ◌/◌, ◌<◌}
use native.Mathlib.Omega.{arith}
use borrow.Author.Tests.{leb-true, ltb-true, eqb-true, lt-ltb}
use lib.Dec.{eqb}
use lib.IntN.{ℤ, pos, negsuc, neg_ℤ, nat_abs}
use Rattle.ints.specs.Equal.{eq_z}
use Rattle.text.proofs.Lists.{by_test, both}
use Rattle.time.specs.Header.{cut_to_minutes}
use Rattle.time.specs.declared.Time.{Time}
use Rattle.header.specs.Offset.{offset_of}
use Rattle.header.specs.Raw.{Limits, rule1, rule2, allows, raw_of}
use Rattle.header.specs.Theorems.{Within}
use Rattle.header.specs.declared.offset.Fields.{Fields}
use Rattle.header.proofs.Unsigned.{NotNegative, fields_of-not-negative}
use Rattle.header.proofs.ReadBack.{offset_of-fields_are}
use Rattle.header.proofs.RawDates.{raw_accepts_only, raw_within}

-- ---- rule 1 within rule 2
hours_within : (h : ℤ) → rule1.hours h ≡ true → rule2.hours h ≡ true
hours_within (pos h) e = lt-ltb h 24 (omega (arith, leb-true h 14 e))
hours_within (negsuc h) e = refl

minutes_within : (m : ℤ) → rule1.minutes m ≡ true → rule2.minutes m ≡ true
minutes_within (pos m) e = lt-ltb m 60 below
  where
    below : m < 60
    below =
        by_test (eqb m 0) (λ a. omega (arith, eqb-true m 0 a))
        (λ a.
        by_test (eqb m 15) (λ b. omega (arith, eqb-true m 15 b))
        (λ b.
        by_test (eqb m 30) (λ c. omega (arith, eqb-true m 30 c))
        (λ c. omega (arith, eqb-true m 45 (rw (a, b, c) at e)))))
minutes_within (negsuc m) e = refl

-- the three tests of limits
allowed_tests : (l : Limits) (f : Fields) → allows l f ≡ true → (l.hours f.hours ≡ true) × ((l.minutes f.minutes ≡ true) × (eq_z f.seconds (pos 0) ≡ true))
unfolding allows
allowed_tests l f e =
    let all = both (l.hours f.hours && l.minutes f.minutes) (eq_z f.seconds (pos 0)) e in
    let two = both (l.hours f.hours) (l.minutes f.minutes) all.0 in
    (two.0, (two.1, all.1))

pub rule_1_within_rule_2 : Within rule1 rule2
unfolding allows
rule_1_within_rule_2 f e =
    let tests = allowed_tests rule1 f e in
    rw (hours_within f.hours tests.0, minutes_within f.minutes tests.1.0, tests.1.1)

-- whatever rule 1 accepts, rule 2 answers alike
pub rule_2_answers_alike : (s : List ℕ) (t : Time) → raw_of rule1 s ≡ Ok t → raw_of rule2 s ≡ Ok t
rule_2_answers_alike = raw_within rule1 rule2 rule_1_within_rule_2

-- ---- the offsets of rule 2: whole minutes, under 24 hours
abbrev InADay : ℤ → Type 0
InADay o = (nat_abs o < 86400) × (cut_to_minutes o ≡ o)

in_a_day : (minus : Bool) (n : ℕ) → n / 60 * 60 ≡ n → n < 86400 → InADay (cond minus (neg_ℤ (pos n)) (pos n))
unfolding cut_to_minutes
in_a_day false n e h = (h, ap pos e)
in_a_day true zero e h = (h, refl)
in_a_day true (suc n) e h = (h, ap (λ (k : ℕ). neg_ℤ (pos k)) e)

fields_in_a_day : (minus : Bool) (h m x : ℤ) → NotNegative h → NotNegative m → rule2.hours h ≡ true → rule2.minutes m ≡ true → eq_z x (pos 0) ≡ true
    → InADay (offset_of (record { minus = minus; hours = h; minutes = m; seconds = x }))
fields_in_a_day minus (pos h) (pos m) (pos x) p q hours minutes seconds =
    let few-hours = ltb-true h 24 hours in
    let few-minutes = ltb-true m 60 minutes in
    let none = eqb-true x 0 seconds in
    rw (offset_of-fields_are minus h m x ((h * 60 + m) * 60) (omega (arith, none))) (in_a_day minus ((h * 60 + m) * 60) (omega arith) (omega (arith, few-hours, few-minutes)))
fields_in_a_day minus (pos h) (pos m) (negsuc x) p q hours minutes seconds = absurd (false≢true seconds)
fields_in_a_day minus (pos h) (negsuc m) x p q hours minutes seconds = absurd q
fields_in_a_day minus (negsuc h) m x p q hours minutes seconds = absurd p

pub rule_2_offset : (s : List ℕ) (t : Time) → raw_of rule2 s ≡ Ok t → (nat_abs t.offset < 86400) × (cut_to_minutes t.offset ≡ t.offset)
rule_2_offset s t e =
    let d = raw_accepts_only rule2 s t e in
    let f = d.fields in
    let tests = allowed_tests rule2 f d.allowed in
    let counts = fields_of-not-negative d.second f d.fields_are in
    subst InADay d.offset_is (fields_in_a_day f.minus f.hours f.minutes f.seconds counts.0 counts.1 tests.0 tests.1.0 tests.1.1)
