-- Bytes put into a room, one part behind the other. In order: one put and the length that it leaves; a second put right behind the first;
-- parts put one behind the other from the front on (`Front`); the room from a place on.
-- Assumes nothing.
use mathlib.Core.Path.{◌≡◌, sym, ap, ◌∙◌}
use mathlib.Core.List.{List, ◌++◌, append_assoc}
use Prim.Native.Nat.{ℕ, ◌+◌, ◌-◌, ◌≤◌}
use native.Mathlib.Omega.{arith}
use lib.ListN.{length, take, drop, length-append, length-drop}
use lib.Seq.{length-take-le, take_at, drop_at, drop-append-add, drop-drop}
use Rattle.text.specs.Room.{put_at}

-- the room up to the end of what is put
length-take-append : (x l : List ℕ) (at : ℕ) → at ≤ length l → length (take at l ++ x) ≡ at + length x
length-take-append x l at h = length-append (take at l) x ∙ ap (λ (n : ℕ). n + length x) (length-take-le at l h)

pub length-put_at : (x l : List ℕ) (at : ℕ) → at + length x ≤ length l → length (put_at x at l) ≡ length l
length-put_at x l at h =
    omega (arith, length-append (take at l ++ x) (drop (at + length x) l), length-take-append x l at (omega arith), length-drop (at + length x) l)

-- two puts, the second right behind the first, are one
put_at-append : (x y l : List ℕ) (at : ℕ) → at ≤ length l → put_at y (at + length x) (put_at x at l) ≡ put_at (x ++ y) at l
put_at-append x y l at h =
    let front = take at l ++ x in
    let behind = drop (at + length x) l in
    let n = length-take-append x l at h in
    let e : at + length x + length y ≡ at + length (x ++ y) = omega (arith, length-append x y) in
    let t : take (at + length x) (front ++ behind) ≡ front = take_at front behind (at + length x) n in
    let d : drop (at + length x + length y) (front ++ behind) ≡ drop (at + length (x ++ y)) l =
    ap (λ (k : ℕ). drop (k + length y) (front ++ behind)) (sym n) ∙ drop-append-add front behind (length y) ∙ drop-drop (length y) (at + length x) l ∙ ap (λ (k : ℕ). drop k l) e in
    (λ i. t i ++ y ++ d i) ∙ ap (λ (v : List ℕ). v ++ drop (at + length (x ++ y)) l) (append_assoc (take at l) x y)

-- the same of two calls, the second at the place that the first returned
pub put_at-behind : (x y l r₁ r₂ : List ℕ) (at next : ℕ) → at ≤ length l → next ≡ at + length x → r₁ ≡ put_at x at l → r₂ ≡ put_at y next r₁ → r₂ ≡ put_at (x ++ y) at l
put_at-behind x y l r₁ r₂ at next h n p q = q ∙ (λ i. put_at y (n i) (p i)) ∙ put_at-append x y l at h

-- parts put one behind the other from the front of the room l on: p is put, and the next part begins at `at`
pub record Front (p l r : List ℕ) (at : ℕ) : Type 0 where
  pub is : r ≡ put_at p 0 l
  pub place : at ≡ length p

pub front-append : (x : List ℕ) {p l r r' : List ℕ} {at next : ℕ} → Front p l r at → r' ≡ put_at x at r → next ≡ at + length x → Front (p ++ x) l r' next
front-append x {p} {l} {r} {r'} {at} {next} f e n =
    let z : at ≡ 0 + length p = omega (arith, f.place) in
    record { is = put_at-behind p x l r r' 0 at (omega arith) z f.is e; place = omega (arith, length-append p x, f.place) }

pub front_room : (x : List ℕ) {p l r : List ℕ} {at : ℕ} → Front p l r at → length (p ++ x) ≤ length l → at + length x ≤ length r
front_room x {p} {l} f h = omega (arith, f.place, ap length f.is, length-put_at p l 0 (omega (arith, length-append p x)), length-append p x)

pub front_whole : {p l r : List ℕ} {at : ℕ} → Front p l r at → r ≡ p ++ drop (length p) l
front_whole {p} {l} f = let z : 0 + length p ≡ length p = omega arith in f.is ∙ ap (λ (n : ℕ). p ++ drop n l) z

-- ---- the room from a place on
-- bytes that are put at place i
pub drop-put : (l t r : List ℕ) (i : ℕ) → r ≡ take i l ++ t → i ≤ length l → drop i r ≡ t
drop-put l t r i e h = ap (drop i) e ∙ drop_at (take i l) t i (length-take-le i l h)

-- a text in front of place e
pub drop-put_at : (t l r : List ℕ) (e : ℕ) → r ≡ put_at t (e - length t) l → length t ≤ e → e ≤ length l → drop (e - length t) r ≡ t ++ drop e l
drop-put_at t l r e p h k =
    let n : e - length t + length t ≡ e = omega arith in
    drop-put l (t ++ drop (e - length t + length t) l) r (e - length t) (p ∙ append_assoc (take (e - length t) l) t (drop (e - length t + length t) l)) (omega arith) ∙ ap (λ (j : ℕ). t ++ drop j l) n
