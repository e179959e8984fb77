-- Bytes put into a room if they fit, and the rows of the report. In order: bytes that do not fit, and bytes that do; parts put one behind the other, if
-- they fit (`Fitting`); the length of a row; a row in front of a text, and put in front of its end by four writes.
-- Assumes nothing.
use mathlib.Core.Path.{◌≡◌, refl, sym, ap, ◌∙◌}
use mathlib.Core.List.{List, [], ◌∷◌, ◌++◌, append_assoc}
use Prim.Native.Nat.{ℕ, ◌+◌, ◌-◌, ◌≤◌, ◌<◌}
use native.Mathlib.Omega.{arith}
use borrow.Author.Tests.{leb-true, leb-false, le-leb, lt-leb}
use lib.Dec.{leb}
use lib.ListN.{length, take, drop, length-append}
use Rattle.text.specs.Decimal.{decimal, decimal_before}
use Rattle.text.specs.Lines.{tab, newline}
use Rattle.text.specs.Room.{put_at}
use Rattle.text.proofs.Behind.{front-append, front_whole, length-put_at}
use Rattle.text.proofs.Lists.{by_test}
use Rattle.text.proofs.Putting.{put_put}
use Rattle.salvage.specs.Held.{ended_row, row_before, put_if_room}

-- ---- bytes that do not fit, and bytes that do
pub put_none : (x l : List ℕ) (at : ℕ) → length l < at + length x → l ≡ put_if_room x at l
put_none x l at h = rw (lt-leb (at + length x) (length l) h)

pub put_all : (x l r : List ℕ) (at : ℕ) → at + length x ≤ length l → r ≡ put_at x at l → r ≡ put_if_room x at l
put_all x l r at h e = rw (le-leb (at + length x) (length l) h) e

-- ---- parts put one behind the other from the front of the room l on, if they fit: p is put, if all of it fits, and the next part begins at `at`
pub record Fitting (p l r : List ℕ) (at : ℕ) : Type 0 where
  pub place : at ≡ length p
  pub same : length r ≡ length l
  pub is : length p ≤ length l → r ≡ put_at p 0 l

pub fitting_start : (l : List ℕ) → Fitting [] l l 0
fitting_start l = record { place = refl; same = refl; is = λ h. refl }

pub fitting-append : (x : List ℕ) {p l r r' : List ℕ} {at next : ℕ} → Fitting p l r at → r' ≡ put_if_room x at r → next ≡ at + length x → Fitting (p ++ x) l r' next
fitting-append x {p} {l} {r} {r'} {at} {next} f e n =
    let k : next ≡ length (p ++ x) = omega (arith, f.place, length-append p x) in
    by_test (leb (at + length x) (length r))
    (λ y.
    let room = leb-true (at + length x) (length r) y in
    let put : r' ≡ put_at x at r = rw y at e in
    record {
      place = k;
      same = ap length put ∙ length-put_at x r at room ∙ f.same;
      is = λ h. (front-append x {p = p} {l = l} {r = r} {r' = r'} {at = at} {next = next} (record { is = f.is (omega (arith, length-append p x)); place = f.place }) put n).is;
    })
    (λ y.
    let short = leb-false (at + length x) (length r) y in
    let left_alone : r' ≡ r = rw y at e in
    record { place = k; same = ap length left_alone ∙ f.same; is = λ h. absurd (omega (arith, short, f.same, length-append p x, f.place, h)) })

pub fitting_whole : (p l r : List ℕ) (at : ℕ) → Fitting p l r at → length p ≤ length l → r ≡ p ++ drop (length p) l
fitting_whole p l r at f h = front_whole {p = p} {l = l} {r = r} {at = at} (record { is = f.is h; place = f.place })

-- ---- the rows of the report
pub length-ended_row : (n size : ℕ) → length (ended_row n size) ≡ length (decimal n) + length (decimal size) + 2
length-ended_row n size = omega (arith, length-append (decimal n ++ tab ∷ decimal size) (newline ∷ []), length-append (decimal n) (tab ∷ decimal size))

row_before-append : (n size : ℕ) (t : List ℕ) → row_before n size t ≡ ended_row n size ++ t
unfolding row_before decimal_before
row_before-append n size t =
    sym (append_assoc (decimal n) (tab ∷ decimal size) (newline ∷ t)) ∙ sym (append_assoc (decimal n ++ tab ∷ decimal size) (newline ∷ []) t)

-- a row in front of its end is a row from its place on
pub put_at-row : (n size : ℕ) (l r : List ℕ) (at end : ℕ) → end ≡ at + length (ended_row n size) → r ≡ take (end - length (ended_row n size)) l ++ row_before n size (drop end l)
    → r ≡ put_at (ended_row n size) at l
put_at-row n size l r at end p e =
    let q : end - length (ended_row n size) ≡ at = omega arith in
    e ∙ (λ i. take (q i) l ++ row_before n size (drop (p i) l)) ∙ ap (λ (v : List ℕ). take at l ++ v) (row_before-append n size (drop (at + length (ended_row n size)) l))
    ∙ sym (append_assoc (take at l) (ended_row n size) (drop (at + length (ended_row n size)) l))

-- a row put in front of its end e, from its newline to its number: each write is in front of the one before
pub row_put : (n k e a : ℕ) (l r₁ r₂ r₃ r₄ : List ℕ) → length (ended_row n k) ≤ e → e ≤ length l → r₁ ≡ take (e - 1) l ++ newline ∷ drop e l
    → a ≡ e - 1 - length (decimal k) → r₂ ≡ take (e - 1 - length (decimal k)) r₁ ++ decimal_before k (drop (e - 1) r₁) → r₃ ≡ take (a - 1) r₂ ++ tab ∷ drop a r₂
    → r₄ ≡ take (a - 1 - length (decimal n)) r₃ ++ decimal_before n (drop (a - 1) r₃) → r₄ ≡ take (e - length (ended_row n k)) l ++ row_before n k (drop e l)
unfolding row_before
row_put n k e a l r₁ r₂ r₃ r₄ h i p q s u v =
    let w = length-ended_row n k in
    let t = newline ∷ drop e l in
    let sized = put_put (decimal_before k) l t r₁ r₂ (e - 1 - length (decimal k)) a (e - 1) p s (sym q) (omega (arith, q)) (omega arith) in
    let tabbed = put_put (λ (x : List ℕ). tab ∷ x) l (decimal_before k t) r₂ r₃ (a - 1) (a - 1) a sized u refl (omega arith) (omega (arith, q)) in
    put_put (decimal_before n) l (tab ∷ decimal_before k t) r₃ r₄ (a - 1 - length (decimal n)) (e - length (ended_row n k)) (a - 1) tabbed v (omega (arith, q, w)) (omega (arith, q, w)) (omega (arith, q))
