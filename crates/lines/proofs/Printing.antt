-- The line of a row. In order: its bytes in front of others; how many they are; its six pieces, put one in front of the other.
-- Assumes nothing.
use mathlib.Core.Path.{◌≡◌, refl, sym, ap, ◌∙◌}
use mathlib.Core.List.{List, [], ◌∷◌, ◌++◌, append_assoc}
use Prim.Native.Nat.{ℕ, ◌+◌, ◌-◌, ◌≤◌}
use native.Mathlib.Omega.{arith}
use lib.IntN.{ℤ}
use lib.ListN.{length, take, drop, length-append}
use Rattle.text.specs.Decimal.{decimal, decimal_before, signed, signed_before}
use Rattle.text.specs.Lines.{tab, newline}
use Rattle.text.proofs.Putting.{put_put}
use Rattle.lines.specs.Rows.{row_bytes}
use Rattle.lines.specs.declared.print.Row.{Row}

row_bytes-append : (x : Row) (t : List ℕ) → row_bytes x ++ t ≡ decimal_before x.number (tab ∷ signed_before x.seconds (tab ∷ signed_before x.offset (newline ∷ t)))
unfolding row_bytes decimal_before signed_before
row_bytes-append x t =
    let n = decimal x.number in
    let s = signed x.seconds in
    let o = signed x.offset in
    append_assoc (n ++ tab ∷ s ++ tab ∷ o) (newline ∷ []) t ∙ append_assoc (n ++ tab ∷ s) (tab ∷ o) (newline ∷ t) ∙ append_assoc n (tab ∷ s) (tab ∷ (o ++ newline ∷ t))

pub length-row_bytes : (x : Row) → length (row_bytes x) ≡ length (decimal x.number) + length (signed x.seconds) + length (signed x.offset) + 3
unfolding row_bytes
length-row_bytes x =
    let n = decimal x.number in
    let s = signed x.seconds in
    let o = signed x.offset in
    omega (arith, length-append (n ++ tab ∷ s ++ tab ∷ o) (newline ∷ []), length-append (n ++ tab ∷ s) (tab ∷ o), length-append n (tab ∷ s))

-- from its end to its front; s and o are the machine's seconds and offset
pub row_put : (x : Row) (l r₁ r₂ r₃ r₄ r₅ r₆ : List ℕ) (s o : ℤ) (end a b : ℕ) → s ≡ x.seconds → o ≡ x.offset → end ≡ length (row_bytes x) → end ≤ length l
    → r₁ ≡ take (end - 1) l ++ newline ∷ drop end l
    → a ≡ end - 1 - length (signed o) → r₂ ≡ take (end - 1 - length (signed o)) r₁ ++ signed_before o (drop (end - 1) r₁)
    → r₃ ≡ take (a - 1) r₂ ++ tab ∷ drop a r₂
    → b ≡ a - 1 - length (signed s) → r₄ ≡ take (a - 1 - length (signed s)) r₃ ++ signed_before s (drop (a - 1) r₃)
    → r₅ ≡ take (b - 1) r₄ ++ tab ∷ drop b r₄
    → r₆ ≡ take (b - 1 - length (decimal x.number)) r₅ ++ decimal_before x.number (drop (b - 1) r₅)
    → r₆ ≡ row_bytes x ++ drop end l
row_put x l r₁ r₂ r₃ r₄ r₅ r₆ s o end a b es eo en k e₁ pa e₂ e₃ pb e₄ e₅ e₆ =
    let n = length-row_bytes x in
    let ls : length (signed s) ≡ length (signed x.seconds) = ap (λ (z : ℤ). length (signed z)) es in
    let lo : length (signed o) ≡ length (signed x.offset) = ap (λ (z : ℤ). length (signed z)) eo in
    let t₁ : List ℕ = newline ∷ drop end l in
    let t₂ : List ℕ = signed_before o t₁ in
    let t₃ : List ℕ = signed_before s (tab ∷ t₂) in
    let s₂ = put_put (signed_before o) l t₁ r₁ r₂ (end - 1 - length (signed o)) a (end - 1) e₁ e₂ (sym pa) (omega arith) (omega arith) in
    let s₃ = put_put (λ (t : List ℕ). tab ∷ t) l t₂ r₂ r₃ (a - 1) (a - 1) a s₂ e₃ refl (omega arith) (omega arith) in
    let s₄ = put_put (signed_before s) l (tab ∷ t₂) r₃ r₄ (a - 1 - length (signed s)) b (a - 1) s₃ e₄ (sym pb) (omega arith) (omega arith) in
    let s₅ = put_put (λ (t : List ℕ). tab ∷ t) l t₃ r₄ r₅ (b - 1) (b - 1) b s₄ e₅ refl (omega arith) (omega arith) in
    put_put (decimal_before x.number) l (tab ∷ t₃) r₅ r₆ (b - 1 - length (decimal x.number)) 0 (b - 1) s₅ e₆ (omega arith) (omega arith) (omega arith)
    ∙ (λ i. decimal_before x.number (tab ∷ signed_before (es i) (tab ∷ signed_before (eo i) t₁))) ∙ sym (row_bytes-append x (drop end l))
