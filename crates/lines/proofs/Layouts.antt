-- The layout of a line. In order: numbers that 32 bits hold; a line that is too long, with no tab, one or two, whose form or current
-- time is none, and that asks; the text of a line that asks.
-- Assumes nothing.
use Rattle.std.specs.Prelude.{None, Option, Some}
use mathlib.Core.Path.{◌≡◌, sym, ap, ◌∙◌}
use mathlib.Core.Bool.{Bool, true, false, ◌&&◌, and-false}
use mathlib.Core.List.{List}
use Prim.Native.Nat.{ℕ, ◌+◌, ◌-◌, ◌^◌, ◌≤◌, ◌<◌}
use native.Mathlib.Omega.{arith}
use borrow.Author.Tests.{lt-leb, le-leb, ltb-true}
use lib.Dec.{leb}
use lib.IntN.{ℤ, pos, negsuc, neg_ℤ}
use lib.ListN.{length, drop, length-drop}
use lib.Seq.{drop-drop}
use lib.Signed.{le_z, lt_z}
use Rattle.ints.specs.Range.{In}
use Rattle.ints.proofs.Machine.{lit, le_yes, lt_yes, lt-pred}
use Rattle.text.specs.Number.{fit_signed}
use Rattle.text.specs.Places.{first_place, has}
use Rattle.text.specs.Lines.{tab, field, rest}
use Rattle.text.proofs.Lists.{by_test, both}
use Rattle.lines.specs.Layout.{max_line, text_of, text_place, asks, line_of, form_named, current_of}
use Rattle.lines.specs.declared.layout.Form.{Form}
use Rattle.lines.specs.declared.layout.Request.{Request}
use Rattle.time.specs.declared.Time.{Time}

-- 32 signed bits hold it, if it is a number
abbrev Fits32 : Option ℤ → Type 0
Fits32 (Some z) = In (negsuc (2 ^ 31 - 1)) (pos (2 ^ 31 - 1)) z
Fits32 None = Unit {0}

Fits32_of_fit_signed : (x r : Option ℤ) → r ≡ fit_signed (2 ^ 31) x → Fits32 r
unfolding fit_signed
Fits32_of_fit_signed (Some z) r e =
    let lo : ℤ = neg_ℤ (pos (2 ^ 31)) in
    let hi : ℤ = pos (2 ^ 31) in
    rw e
    (by_test (le_z lo z && lt_z z hi)
    (λ y. let p = both (le_z lo z) (lt_z z hi) y in rw y (record { low = le_yes (lit lo) (lit z) p.0; high = lt-pred (lt_yes (lit z) (lit hi) p.1) }))
    (λ y. rw y tt))
Fits32_of_fit_signed None r e = rw e tt

-- what was fitted to 32 bits
pub In32_of_fit_signed : (x : Option ℤ) {z : ℤ} → fit_signed (2 ^ 31) x ≡ Some z → In (negsuc (2 ^ 31 - 1)) (pos (2 ^ 31 - 1)) z
In32_of_fit_signed x {z} e = Fits32_of_fit_signed x (Some z) (sym e)

-- ---- a line by its length, its tabs and its fields
module _ (s : List ℕ) where
  pub line_of_of_length : max_line < length s → None ≡ line_of s
  unfolding line_of
  line_of_of_length h = rw (lt-leb (length s) max_line h)

  pub line_of_no_tab : has tab s ≡ false → None ≡ line_of s
  unfolding line_of
  line_of_no_tab e = rw (e, and-false)

  pub line_of-one-tab : has tab (rest s) ≡ false → None ≡ line_of s
  unfolding line_of
  line_of-one-tab e = rw (e, and-false, and-false)

  pub line_of-two-tabs : has tab (rest (rest s)) ≡ false → None ≡ line_of s
  unfolding line_of
  line_of-two-tabs e = rw (e, and-false, and-false, and-false)

  has_layout : Bool
  has_layout = leb (length s) max_line && (has tab s && (has tab (rest s) && has tab (rest (rest s))))

  pub line_of_no_form : form_named (field s) ≡ None → None ≡ line_of s
  unfolding line_of has_layout
  line_of_no_form e = by_test has_layout (λ y. rw (y, e)) (λ y. rw y)

  pub line_of_no_current : (f : Form) → form_named (field s) ≡ Some f → current_of (field (rest s)) (field (rest (rest s))) ≡ None → None ≡ line_of s
  unfolding line_of has_layout
  line_of_no_current f e k = by_test has_layout (λ y. rw (y, e, k)) (λ y. rw y)

  module _ (l : length s ≤ max_line) (a : has tab s ≡ true) (b : has tab (rest s) ≡ true) (c : has tab (rest (rest s)) ≡ true) where
    pub line_of_value : {f : Form} {n : Option Time} {at : ℕ} → form_named (field s) ≡ Some f → current_of (field (rest s)) (field (rest (rest s))) ≡ Some n → at ≡ text_place s
        → Some (record { form = f; current = n; at = at }) ≡ line_of s
    unfolding line_of
    line_of_value e k p = rw (le-leb (length s) max_line l, a, b, c, e, k, p)

    pub text_place_is : length s - length (text_of s) ≡ text_place s
    unfolding has
    text_place_is =
        omega (
          arith,
          ltb-true (first_place tab s) (length s) a,
          ltb-true (first_place tab (rest s)) (length (rest s)) b,
          ltb-true (first_place tab (rest (rest s))) (length (rest (rest s))) c,
          length-drop (first_place tab s + 1) s,
          length-drop (first_place tab (rest s) + 1) (rest s),
          length-drop (first_place tab (rest (rest s)) + 1) (rest (rest s)),
        )

-- ---- the text of a line that asks
asks_place : (n : Option Form) (k : Option (Option Time)) (at : ℕ) (q : Request) → asks n k at ≡ Some q → at ≡ q.at
asks_place (Some g) (Some x) at q e = cc
asks_place (Some g) None at q e = absurd (cc)
asks_place None k at q e = absurd (cc)

drop-text_place : (s : List ℕ) → drop (text_place s) s ≡ text_of s
drop-text_place s =
    let a = first_place tab s in
    let b = first_place tab (rest s) in
    let c = first_place tab (rest (rest s)) in
    let e : a + 1 + (b + 1) + (c + 1) ≡ a + 1 + (b + 1 + (c + 1)) = omega arith in
    ap (λ (v : ℕ). drop v s) e ∙ sym (drop-drop (b + 1 + (c + 1)) (a + 1) s) ∙ sym (drop-drop (c + 1) (b + 1) (rest s))

pub line_of-asks : (s : List ℕ) (q : Request) → line_of s ≡ Some q → drop q.at s ≡ text_of s
unfolding line_of
line_of-asks s q e =
    by_test (leb (length s) max_line && (has tab s && (has tab (rest s) && has tab (rest (rest s)))))
    (λ y. ap (λ (v : ℕ). drop v s) (sym (asks_place (form_named (field s)) (current_of (field (rest s)) (field (rest (rest s)))) (text_place s) q (rw y at e))) ∙ drop-text_place s)
    (λ y. let w : None ≡ Some q = rw y at e in absurd (cc))
