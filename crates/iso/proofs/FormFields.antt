-- The fields and the three forms. In order: all five fields or none; the fields of a text by its parts; each form by its bytes.
-- Assumes nothing.
use Rattle.std.specs.Prelude.{None, Option, Some}
use Rattle.std.specs.Prelude.{MatchOption}
use mathlib.Core.Path.{◌≡◌, refl, sym, ap, ◌∙◌, subst}
use mathlib.Core.Bool.{true, false, ◌&&◌}
use mathlib.Core.List.{List, [], ◌∷◌, ◌++◌}
use Prim.Native.Nat.{ℕ, ◌-◌, ◌≤◌, ◌<◌}
use native.Mathlib.Omega.{arith}
use borrow.Author.Tests.{eqb-true, eq-eqb, ne_eqb, le-ltb, lt-ltb}
use lib.Dec.{eqb, ltb}
use lib.IntN.{ℤ}
use lib.ListN.{length, get_or, take, drop}
use Rattle.text.specs.Places.{first_place, before}
use Rattle.text.specs.Trim.{trim}
use Rattle.text.proofs.Lists.{by_test, both, take-length-sub-drop, get_or_of_length-le}
use Rattle.iso.specs.Parts.{two}
use Rattle.iso.specs.Cut.{cut, time_text, offset_text}
use Rattle.iso.specs.Clock.{iso_time}
use Rattle.iso.specs.Offset.{iso_offset}
use Rattle.iso.specs.Forms.{all_fields, read_fields, is_separator, flexible, first_at, compact, dash_of, dashes, is_dotted, dotted, first_of}
use Rattle.iso.specs.Held.{FieldsIn}
use Rattle.iso.specs.declared.forms.Local.{Local}
use Rattle.text.proofs.FirstPlaces.{get_or-first_place, first_place_is, first_place_is_not}

-- ---- all five, or none
module _ (y m d : Option ℤ) (t : Option ℕ) (o : Option ℤ) where
  pub all_fields-not-year : y ≡ None → None ≡ all_fields y m d t o
  unfolding all_fields
  all_fields-not-year a = rw a

  module _ {y' : ℤ} (a : y ≡ Some y') where
    pub all_fields-not-month : m ≡ None → None ≡ all_fields y m d t o
    unfolding all_fields
    all_fields-not-month b = rw (a, b)

    module _ {m' : ℤ} (b : m ≡ Some m') where
      pub all_fields-not-day : d ≡ None → None ≡ all_fields y m d t o
      unfolding all_fields
      all_fields-not-day e = rw (a, b, e)

      module _ {d' : ℤ} (e : d ≡ Some d') where
        pub all_fields-not-time : t ≡ None → None ≡ all_fields y m d t o
        unfolding all_fields
        all_fields-not-time f = rw (a, b, e, f)

        module _ {t' : ℕ} (f : t ≡ Some t') where
          pub all_fields-not-offset : o ≡ None → None ≡ all_fields y m d t o
          unfolding all_fields
          all_fields-not-offset g = rw (a, b, e, f, g)

          pub all_fields-value : {o' : ℤ} → o ≡ Some o' → Some (record { year = y'; month = m'; day = d'; second = t'; offset = o' }) ≡ all_fields y m d t o
          unfolding all_fields
          all_fields-value g = rw (a, b, e, f, g)

-- a field that is no number leaves none
pub all_fields_of_month : (y d : Option ℤ) (t : Option ℕ) (o : Option ℤ) → all_fields y None d t o ≡ None
unfolding all_fields
all_fields_of_month (Some y) d t o = refl
all_fields_of_month None d t o = refl

pub all_fields_of_day : (y m : Option ℤ) (t : Option ℕ) (o : Option ℤ) → all_fields y m None t o ≡ None
unfolding all_fields
all_fields_of_day (Some y) (Some m) t o = refl
all_fields_of_day (Some y) None t o = refl
all_fields_of_day None m t o = refl

-- ---- the fields of a text: r is what follows the date, trimmed, i its cut, b what is before the dot
pub iso_time_parts : (s r : List ℕ) (i : ℕ) (b t : List ℕ) (x : Option ℕ) → r ≡ trim s → i ≡ cut r → b ≡ before 46 (take i r) → t ≡ trim b → x ≡ iso_time t → iso_time (time_text (trim s)) ≡ x
unfolding time_text
iso_time_parts s r i b t x er ei eb et ex = rw (ex, et, eb, ei, er)

pub iso_offset_parts : (s r : List ℕ) (i : ℕ) (o : List ℕ) (z : Option ℤ) → r ≡ trim s → i ≡ cut r → o ≡ trim (take (length r - i) (drop i r)) → z ≡ iso_offset o → iso_offset (offset_text (trim s)) ≡ z
unfolding offset_text
iso_offset_parts s r i o z er ei eo ez = rw (ez, eo, take-length-sub-drop r i, ei, er)

-- ---- compact
pub compact_short : (s : List ℕ) → length s < 9 → None ≡ compact s
unfolding compact first_at
compact_short s h =
    let k : length s ≤ 8 = omega arith in
    by_test (eqb (first_place 84 s) 8) (λ e. rw (e, le-ltb 8 (length s) k)) (λ e. rw e)

pub compact_no : (s : List ℕ) (r : ℕ) → r ≡ first_place 84 (take 9 s) → (r ≡ 8 → ⊥) → None ≡ compact s
unfolding compact first_at
compact_no s r q h = rw (ne_eqb (first_place 84 s) 8 (first_place_is_not 84 9 8 s r q (omega arith) h))

pub compact_yes : (s : List ℕ) (r : ℕ) (a b : List ℕ) → r ≡ first_place 84 (take 9 s) → r ≡ 8 → 9 ≤ length s → a ≡ two 4 s → b ≡ two 6 s
    → read_fields (take 4 s) a b (take (length s - 9) (drop 9 s)) ≡ compact s
unfolding compact first_at
compact_yes s r a b q e h p w = rw (p, w, take-length-sub-drop s 9, eq-eqb (first_place 84 s) 8 (first_place_is 84 9 8 s r q (omega arith) h e), lt-ltb 8 (length s) h)

-- ---- flexible
pub flexible_short : (s : List ℕ) → length s < 11 → None ≡ flexible s
unfolding flexible is_separator
flexible_short s h =
    let k : length s ≤ 10 = omega arith in
    by_test (eqb (get_or s 4 0) 45)
    (λ e. by_test (eqb (get_or s 7 0) 45) (λ f. rw (e, f, get_or_of_length-le s 10 k)) (λ f. rw (e, f)))
    (λ e. rw e)

pub flexible_four : (s : List ℕ) → (get_or s 4 0 ≡ 45 → ⊥) → None ≡ flexible s
unfolding flexible
flexible_four s h = rw (ne_eqb (get_or s 4 0) 45 h)

module _ (s : List ℕ) (p : get_or s 4 0 ≡ 45) where
  pub flexible_seven : (get_or s 7 0 ≡ 45 → ⊥) → None ≡ flexible s
  unfolding flexible
  flexible_seven h = rw (eq-eqb (get_or s 4 0) 45 p, ne_eqb (get_or s 7 0) 45 h)

  module _ (q : get_or s 7 0 ≡ 45) where
    pub flexible_ten : is_separator (get_or s 10 0) ≡ false → None ≡ flexible s
    unfolding flexible
    flexible_ten e = rw (eq-eqb (get_or s 4 0) 45 p, eq-eqb (get_or s 7 0) 45 q, e)

    pub flexible_yes : (a b : List ℕ) → is_separator (get_or s 10 0) ≡ true → a ≡ two 5 s → b ≡ two 8 s
        → read_fields (take 4 s) a b (take (length s - 11) (drop 11 s)) ≡ flexible s
    unfolding flexible
    flexible_yes a b e u v = rw (u, v, take-length-sub-drop s 11, eq-eqb (get_or s 4 0) 45 p, eq-eqb (get_or s 7 0) 45 q, e)

-- ---- dotted
pub dotted_short : (s : List ℕ) → length s < 11 → None ≡ dotted s
unfolding dotted is_dotted first_at
dotted_short s h =
    let k : length s ≤ 10 = omega arith in
    by_test (eqb (first_place 32 s) 10) (λ e. rw (e, le-ltb 10 (length s) k)) (λ e. rw e)

pub dotted_no : (s : List ℕ) (r : ℕ) → r ≡ first_place 32 (take 11 s) → (r ≡ 10 → ⊥) → None ≡ dotted s
unfolding dotted is_dotted first_at
dotted_no s r q h = rw (ne_eqb (first_place 32 s) 10 (first_place_is_not 32 11 10 s r q (omega arith) h))

pub dotted_four : (s : List ℕ) → (get_or s 4 0 ≡ 46 → ⊥) → None ≡ dotted s
unfolding dotted is_dotted
dotted_four s h = by_test (first_at 32 10 s) (λ e. rw (e, ne_eqb (get_or s 4 0) 46 h)) (λ e. rw e)

pub dotted_seven : (s : List ℕ) → get_or s 4 0 ≡ 46 → (get_or s 7 0 ≡ 46 → ⊥) → None ≡ dotted s
unfolding dotted is_dotted
dotted_seven s f h = by_test (first_at 32 10 s) (λ e. rw (e, eq-eqb (get_or s 4 0) 46 f, ne_eqb (get_or s 7 0) 46 h)) (λ e. rw e)

-- the fields of ten bytes, each dot of them a dash, and of what follows the space
abbrev dashed_fields : List ℕ → Option Local
dashed_fields s =
    read_fields (dash_of (get_or s 0 0) ∷ dash_of (get_or s 1 0) ∷ dash_of (get_or s 2 0) ∷ dash_of (get_or s 3 0) ∷ [])
    (dash_of (get_or s 5 0) ∷ dash_of (get_or s 6 0) ∷ []) (dash_of (get_or s 8 0) ∷ dash_of (get_or s 9 0) ∷ []) (drop 11 s)

pub is_dotted-yes : (s : List ℕ) (r : ℕ) → 11 ≤ length s → r ≡ first_place 32 (take 11 s) → r ≡ 10 → get_or s 4 0 ≡ 46 → get_or s 7 0 ≡ 46 → is_dotted s ≡ true
unfolding is_dotted first_at
is_dotted-yes s r h q e p w =
    let l : 10 < length s = h in
    rw (eq-eqb (first_place 32 s) 10 (first_place_is 32 11 10 s r q (omega arith) h e), lt-ltb 10 (length s) l, eq-eqb (get_or s 4 0) 46 p, eq-eqb (get_or s 7 0) 46 w)

dotted_bytes : (s : List ℕ) → 11 ≤ length s → first_place 32 s ≡ 10 → get_or s 4 0 ≡ 46 → get_or s 7 0 ≡ 46 → dashed_fields s ≡ flexible (dashes (take 10 s) ++ drop 10 s)
unfolding dashes dash_of flexible is_separator
dotted_bytes (a0 ∷ a1 ∷ a2 ∷ a3 ∷ a4 ∷ a5 ∷ a6 ∷ a7 ∷ a8 ∷ a9 ∷ a10 ∷ r) h q p w =
    let s : List ℕ = a0 ∷ a1 ∷ a2 ∷ a3 ∷ a4 ∷ a5 ∷ a6 ∷ a7 ∷ a8 ∷ a9 ∷ a10 ∷ r in
    let k : first_place 32 s < length s = omega arith in
    let e : a10 ≡ 32 = sym (ap (λ (i : ℕ). get_or s i 0) q) ∙ get_or-first_place 32 s k in
    rw (p, w, e)
dotted_bytes [] h q p w = absurd (omega arith)
dotted_bytes (a0 ∷ []) h q p w = absurd (omega arith)
dotted_bytes (a0 ∷ a1 ∷ []) h q p w = absurd (omega arith)
dotted_bytes (a0 ∷ a1 ∷ a2 ∷ []) h q p w = absurd (omega arith)
dotted_bytes (a0 ∷ a1 ∷ a2 ∷ a3 ∷ []) h q p w = absurd (omega arith)
dotted_bytes (a0 ∷ a1 ∷ a2 ∷ a3 ∷ a4 ∷ []) h q p w = absurd (omega arith)
dotted_bytes (a0 ∷ a1 ∷ a2 ∷ a3 ∷ a4 ∷ a5 ∷ []) h q p w = absurd (omega arith)
dotted_bytes (a0 ∷ a1 ∷ a2 ∷ a3 ∷ a4 ∷ a5 ∷ a6 ∷ []) h q p w = absurd (omega arith)
dotted_bytes (a0 ∷ a1 ∷ a2 ∷ a3 ∷ a4 ∷ a5 ∷ a6 ∷ a7 ∷ []) h q p w = absurd (omega arith)
dotted_bytes (a0 ∷ a1 ∷ a2 ∷ a3 ∷ a4 ∷ a5 ∷ a6 ∷ a7 ∷ a8 ∷ []) h q p w = absurd (omega arith)
dotted_bytes (a0 ∷ a1 ∷ a2 ∷ a3 ∷ a4 ∷ a5 ∷ a6 ∷ a7 ∷ a8 ∷ a9 ∷ []) h q p w = absurd (omega arith)

pub dotted_yes : (s : List ℕ) → 11 ≤ length s → is_dotted s ≡ true → dashed_fields s ≡ dotted s
unfolding dotted is_dotted first_at
dotted_yes s h e =
    let p = both (first_at 32 10 s) (eqb (get_or s 4 0) 46 && eqb (get_or s 7 0) 46) e in
    let q = both (eqb (first_place 32 s) 10) (ltb 10 (length s)) p.0 in
    let w = both (eqb (get_or s 4 0) 46) (eqb (get_or s 7 0) 46) p.1 in
    dotted_bytes s h (eqb-true _ _ q.0) (eqb-true _ _ w.0) (eqb-true _ _ w.1) ∙ rw e

-- ---- the first form that is there
-- a form, or else another
pub first_of_or_else : (x g : Option Local) {r : Option Local} {P : Type 0} → MatchOption x P (λ f. r ≡ Some f) → (P → r ≡ g) → r ≡ first_of x g
unfolding first_of
first_of_or_else (Some f) g m k = m
first_of_or_else None g m k = k m

pub first_of_first_of : (x y z : Option Local) → first_of (first_of x y) z ≡ first_of x (first_of y z)
unfolding first_of
first_of_first_of (Some f) y z = refl
first_of_first_of None y z = refl

pub FieldsIn_of_Some : {x : Option Local} {f : Local} → x ≡ Some f → FieldsIn x → FieldsIn (Some f)
FieldsIn_of_Some e h = subst FieldsIn e h
