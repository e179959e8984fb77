-- Bytes written in front of a place e of a buffer. In order: one byte; the buffer before that place and from it on; digits written
-- one by one from the last; two bytes; digits written two by two; a second write in front of the first; a call that writes to a
-- part of a buffer.
-- Assumes nothing.
use mathlib.Core.Path.{◌≡◌, sym, ap, ◌∙◌}
use mathlib.Core.List.{List, ◌∷◌, ◌++◌, append-nil}
use Prim.Native.Nat.{ℕ, suc, ◌+◌, ◌-◌, ◌/◌, ◌%◌, ◌≤◌, ◌<◌}
use native.Mathlib.Omega.{arith}
use lib.ListN.{length, take, drop, set, length-set, length-append, length-drop}
use lib.Seq.{set_split, take-append-le, take-take, drop_at, drop-length, length-take-le}
use borrow.Rule.Slice.PartMut.{put_mid, Post-is}
use Rattle.text.specs.Decimal.{decimal, decimal_before, two_before}
use Rattle.text.proofs.Lists.{take-length-sub-drop}
use Rattle.text.proofs.Decimals.{decimal_before_of_le, decimal_before_of_lt, length-decimal_of_le, length-decimal_of_lt, length-decimal-pos}

pub set-put : (l : List ℕ) (e b : ℕ) → 0 < e → e ≤ length l → set l (e - 1) b ≡ take (e - 1) l ++ b ∷ drop e l
set-put l e b p h =
    let k : suc (e - 1) ≡ e = omega arith in
    let i : e - 1 < length l = omega arith in
    set_split l (e - 1) b i ∙ ap (λ (n : ℕ). take (e - 1) l ++ b ∷ drop n l) k

take_put : (j e : ℕ) (l t : List ℕ) → j ≤ e → e ≤ length l → take j (take e l ++ t) ≡ take j l
take_put j e l t h k = let n : j ≤ length (take e l) = omega (arith, length-take-le e l k) in take-append-le j (take e l) t n ∙ take-take j e l h

drop-put : (e : ℕ) (l t : List ℕ) → e ≤ length l → drop e (take e l ++ t) ≡ t
drop-put e l t k = drop_at (take e l) t e (length-take-le e l k)

-- the digits of n in front of e
abbrev pub put : ℕ → ℕ → List ℕ → List ℕ
put n e l = take (e - length (decimal n)) l ++ decimal_before n (drop e l)

-- the last digit first, then the others in front of it
put_of_le : (n e : ℕ) (l : List ℕ) → 10 ≤ n → length (decimal n) ≤ e → e ≤ length l
    → put n e l ≡ put (n / 10) (e - 1) (take (e - 1) l ++ (48 + n % 10) ∷ drop e l)
put_of_le n e l h k i =
    let d : length (decimal n) ≡ length (decimal (n / 10)) + 1 = length-decimal_of_le n h in
    let j : e - 1 - length (decimal (n / 10)) ≡ e - length (decimal n) = omega arith in
    let m : e - 1 ≤ length l = omega arith in
    let o : e - length (decimal n) ≤ e - 1 = omega (arith, length-decimal-pos n) in
    rw (j, take_put (e - length (decimal n)) (e - 1) l ((48 + n % 10) ∷ drop e l) o m, drop-put (e - 1) l ((48 + n % 10) ∷ drop e l) m, decimal_before_of_le n (drop e l) h)

pub put_of_lt : (n e : ℕ) (l : List ℕ) → n < 10 → put n e l ≡ take (e - 1) l ++ (48 + n) ∷ drop e l
put_of_lt n e l h = rw (length-decimal_of_lt n h, decimal_before_of_lt n (drop e l) h)

length-put : (l : List ℕ) (e b : ℕ) → 0 < e → e ≤ length l → length (take (e - 1) l ++ b ∷ drop e l) ≡ length l
length-put l e b p h = ap length (sym (set-put l e b p h)) ∙ length-set l (e - 1) b

-- two bytes, one after the other
pub two-put : (l : List ℕ) (e a b : ℕ) → 1 < e → e ≤ length l
    → take (e - 1 - 1) (take (e - 1) l ++ b ∷ drop e l) ++ a ∷ drop (e - 1) (take (e - 1) l ++ b ∷ drop e l) ≡ take (e - 2) l ++ a ∷ b ∷ drop e l
two-put l e a b p h =
    let k : e - 1 - 1 ≡ e - 2 = omega arith in
    let i : e - 2 ≤ e - 1 = omega arith in
    let j : e - 1 ≤ length l = omega arith in
    rw (k, take_put (e - 2) (e - 1) l (b ∷ drop e l) i j, drop-put (e - 1) l (b ∷ drop e l) j)

pub length-two-put : (l : List ℕ) (e a b : ℕ) → 1 < e → e ≤ length l → length (take (e - 2) l ++ a ∷ b ∷ drop e l) ≡ length l
length-two-put l e a b p h =
    let t : length (take (e - 2) l) ≡ e - 2 = length-take-le (e - 2) l (omega arith) in
    length-append (take (e - 2) l) (a ∷ b ∷ drop e l) ∙ omega (arith, t, length-drop e l)

-- the last two digits first, and two digits alone
pub put-two_of_le : (n e : ℕ) (l : List ℕ) → 100 ≤ n → length (decimal n) ≤ e → e ≤ length l
    → put n e l ≡ put (n / 100) (e - 2) (take (e - 2) l ++ two_before (n % 100) (drop e l))
put-two_of_le n e l h k i =
    let d : length (decimal n) ≡ length (decimal (n / 10)) + 1 = length-decimal_of_le n (omega arith) in
    let s : 0 < length (decimal (n / 10)) = length-decimal-pos (n / 10) in
    let m : length (take (e - 1) l ++ (48 + n % 10) ∷ drop e l) ≡ length l = length-put l e (48 + n % 10) (omega arith) i in
    let q : n / 10 / 10 ≡ n / 100 = omega arith in
    let o : e - 1 - 1 ≡ e - 2 = omega arith in
    let t : n / 10 % 10 ≡ n % 100 / 10 = omega arith in
    let u : n % 10 ≡ n % 100 % 10 = omega arith in
    put_of_le n e l (omega arith) k i
    ∙ put_of_le (n / 10) (e - 1) _ (omega arith) (omega arith) (omega arith)
    ∙ ap (put (n / 10 / 10) (e - 1 - 1)) (two-put l e (48 + n / 10 % 10) (48 + n % 10) (omega arith) i)
    ∙ (λ j. put (q j) (o j) (take (e - 2) l ++ (48 + t j) ∷ (48 + u j) ∷ drop e l))

pub put-two_of_lt : (n e : ℕ) (l : List ℕ) → 10 ≤ n → n < 100 → length (decimal n) ≤ e → e ≤ length l → put n e l ≡ take (e - 2) l ++ two_before n (drop e l)
put-two_of_lt n e l h g k i =
    let d : length (decimal n) ≡ length (decimal (n / 10)) + 1 = length-decimal_of_le n h in
    let s : 0 < length (decimal (n / 10)) = length-decimal-pos (n / 10) in
    put_of_le n e l h k i ∙ put_of_lt (n / 10) (e - 1) _ (omega arith) ∙ two-put l e (48 + n / 10) (48 + n % 10) (omega arith) i

-- a second write, in front of the first
pub put_put : (f : List ℕ → List ℕ) (l t r r' : List ℕ) (i j e : ℕ) → r ≡ take e l ++ t → r' ≡ take i r ++ f (drop e r) → i ≡ j → j ≤ e → e ≤ length l → r' ≡ take j l ++ f t
put_put f l t r r' i j e p q s h k = q ∙ (λ x. take (s x) (p x) ++ f (drop e (p x))) ∙ (λ x. take_put j e l t h k x ++ f (drop-put e l t k x))

-- the part of a buffer from a place on, changed by f
pub put_behind : (l ys : List ℕ) (at : ℕ) (f : List ℕ → List ℕ) → at ≤ length l → ys ≡ f (take (length l - at) (drop at l))
    → put_mid at (length l - at) l ys ≡ take at l ++ f (drop at l)
put_behind l ys at f h e =
    ap (λ (v : List ℕ). take at l ++ (ys ++ v)) (Post-is at (length l) l h ∙ drop-length l)
    ∙ ap (λ (v : List ℕ). take at l ++ v) (append-nil ys ∙ e ∙ ap f (take-length-sub-drop l at))
