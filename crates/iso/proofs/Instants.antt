-- The instant. In order: the day of a date, by its year, month and day; a moment, by whether it is in range; fields by both; the
-- answer by its fields.
-- Assumes nothing.
use Rattle.std.specs.Prelude.{Err, None, Ok, OkIff, Option, Result, Some}
use mathlib.Core.Path.{◌≡◌, refl, sym, ap, ◌∙◌, subst}
use mathlib.Core.Bool.{true, false}
use mathlib.Core.List.{List}
use Prim.Native.Nat.{ℕ, ◌+◌, ◌*◌, ◌^◌, ◌<◌}
use native.Mathlib.Omega.{arith}
use lib.IntN.{ℤ, pos, negsuc, nat_abs, ◌-ℤ◌}
use lib.Signed.{◌<ℤ◌}
use Rattle.ints.specs.Range.{In, is_in}
use Rattle.ints.proofs.Parts.{lt-parts}
use Rattle.ints.proofs.Machine.{is_in_of_In, nat_abs-le_of_SFits}
use Rattle.std.specs.Result.{result_ok}
use Rattle.std.specs.Int.{FitsUnsignedBits}
use mir.Syntax.{w64}
use mir.Val.{SFits}
use Rattle.text.specs.Bytes.{ascii}
use Rattle.text.specs.Trim.{trim}
use Rattle.calendar.specs.Civil.{year_count}
use Rattle.calendar.specs.Dates.{day_number}
use Rattle.time.specs.Answers.{time_at}
use Rattle.time.specs.Range.{seconds_in_range, since1970}
use Rattle.time.specs.declared.Refusal.TheVariants.{NotAscii, Form}
use Rattle.iso.specs.Forms.{form_of}
use Rattle.iso.specs.Iso.{day_of, moment_of, zoned, iso_of}
use Rattle.iso.specs.declared.forms.Local.{Local}

-- ---- a number that is tried as one without a sign, where m is the machine's number for z
tried-some : {E : Type 0} (m : ℤ) (r : Result ℕ E) (n : ℕ) → OkIff r (FitsUnsignedBits 64 m) (nat_abs m) → result_ok r ≡ Some n → m ≡ pos n
tried-some (pos k) (Ok x) n w e = ap pos (cc (w.1, e))
tried-some (pos k) (Err x) n w e = absurd (cc e)
tried-some (negsuc k) (Ok x) n w e = absurd w.0
tried-some (negsuc k) (Err x) n w e = absurd (cc e)

tried-not : {E : Type 0} (m : ℤ) (r : Result ℕ E) → nat_abs m < 2 ^ 64 → OkIff r (FitsUnsignedBits 64 m) (nat_abs m) → result_ok r ≡ None → m <ℤ pos 0
tried-not (pos k) (Ok x) h w e = absurd (cc e)
tried-not (pos k) (Err x) h w e = absurd (w h)
tried-not (negsuc k) r h w e = record { lt = tt }

pub tried_value : {E : Type 0} {z m : ℤ} (r : Result ℕ E) {n : ℕ} → m ≡ z → OkIff r (FitsUnsignedBits 64 m) (nat_abs m) → result_ok r ≡ Some n → z ≡ pos n
tried_value {z} {m} r {n} q w e = sym q ∙ tried-some m r n w e

pub tried_none : {E : Type 0} {z m : ℤ} (r : Result ℕ E) → m ≡ z → SFits w64 z → OkIff r (FitsUnsignedBits 64 m) (nat_abs m) → result_ok r ≡ None → z <ℤ pos 0
tried_none {z} {m} r q s w e =
    let h : nat_abs m < 2 ^ 64 = omega (arith, ap nat_abs q, nat_abs-le_of_SFits z s) in
    subst (λ (x : ℤ). x <ℤ pos 0) q (tried-not m r h w e)

-- ---- the day
pub day_of-month : (y m d : ℤ) → m <ℤ pos 0 → None ≡ day_of y m d
unfolding day_of
day_of-month y (pos m) d h = absurd (omega (arith, lt-parts h))
day_of-month y (negsuc m) d h = refl

pub day_of-day : (y m d : ℤ) → d <ℤ pos 0 → None ≡ day_of y m d
unfolding day_of
day_of-day y (pos m) (pos d) h = absurd (omega (arith, lt-parts h))
day_of-day y (pos m) (negsuc d) h = refl
day_of-day y (negsuc m) d h = refl

pub day_of-year : (y m d : ℤ) → is_in (negsuc 9998) (pos 9999) y ≡ false → None ≡ day_of y m d
unfolding day_of
day_of-year y (pos m) (pos d) e = rw e
day_of-year y (pos m) (negsuc d) e = refl
day_of-year y (negsuc m) d e = refl

pub day_of-value : (y : ℤ) (m d : ℕ) → In (negsuc 9998) (pos 9999) y → day_number (year_count y) m d ≡ day_of y (pos m) (pos d)
unfolding day_of
day_of-value y m d h = rw (is_in_of_In h)

-- ---- the moment
pub moment_of_no_day : {f : Option ℕ} (c : ℕ) (o : ℤ) → f ≡ None → Err Form ≡ moment_of f c o
unfolding moment_of
moment_of_no_day c o e = rw e

module _ {f : Option ℕ} {d : ℕ} (c : ℕ) (o : ℤ) (e : f ≡ Some d) where
  pub moment_of-out : seconds_in_range (since1970 (d * 86400 + c) -ℤ o) ≡ false → Err Form ≡ moment_of f c o
  unfolding moment_of
  moment_of-out h = rw (e, h)

  pub moment_of_in : seconds_in_range (since1970 (d * 86400 + c) -ℤ o) ≡ true → Ok (time_at (since1970 (d * 86400 + c) -ℤ o) o) ≡ moment_of f c o
  unfolding moment_of
  moment_of_in h = rw (e, h)

-- ---- fields
pub zoned_parts : (f : Local) {y m d o : ℤ} {r : Option ℕ} → y ≡ f.year → m ≡ f.month → d ≡ f.day → o ≡ f.offset → r ≡ day_of y m d → moment_of r f.second o ≡ zoned (Some f)
unfolding zoned
zoned_parts f a b c e g = rw (g, a, b, c, e)

-- ---- the answer
pub iso_of-not-ascii : (s : List ℕ) → ascii s ≡ false → Err NotAscii ≡ iso_of s
unfolding iso_of
iso_of-not-ascii s e = rw e

module _ (s t : List ℕ) (a : ascii s ≡ true) (q : t ≡ trim s) where
  pub iso_of-missing : form_of t ≡ None → Err Form ≡ iso_of s
  unfolding iso_of zoned
  iso_of-missing e = rw (a, ← q, e)

  pub iso_of_are : {f : Local} → form_of t ≡ Some f → zoned (Some f) ≡ iso_of s
  unfolding iso_of
  iso_of_are e = rw (a, ← q, e)
