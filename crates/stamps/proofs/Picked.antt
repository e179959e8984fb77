-- Lines that are picked by marks, whatever the marks are: none of them holds a newline if no line does, they are good if all lines are, and
-- together they are no longer.
-- Assumes nothing.
use mathlib.Core.Path.{◌≡◌, refl}
use mathlib.Core.Bool.{true}
use mathlib.Core.List.{List, [], ◌∷◌, ◌++◌}
use Prim.Native.Nat.{ℕ, suc, ◌+◌, ◌≤◌}
use native.Mathlib.Omega.{arith}
use lib.Dec.{eqb}
use lib.ListN.{length, length-append}
use Rattle.text.specs.Lines.{newline}
use Rattle.text.proofs.Lists.{by_test, both}
use Rattle.text.proofs.Texts.{Lacking}
use Rattle.stamps.specs.Lines.{line_of, is_good}
use Rattle.stamps.specs.Book.{judged}
use Rattle.stamps.specs.Copies.{joined}
use Rattle.stamps.specs.Theorems.{are_good}
use Rattle.stamps.specs.Held.{picked}

pub lacking_picked : (ms : List ℕ) (ls : List (List ℕ)) → Lacking newline ls → Lacking newline (picked ms ls)
unfolding picked
lacking_picked [] ls h = tt
lacking_picked (m ∷ ms) [] h = tt
lacking_picked (m ∷ ms) (l ∷ ls) h =
    by_test (eqb m 1) (λ y. rw y (h.0, lacking_picked ms ls h.1)) (λ n. rw n (lacking_picked ms ls h.1))

pub are_good-picked : (bound : ℕ) (ms : List ℕ) (ls : List (List ℕ)) → are_good (judged bound ls) ≡ true → are_good (judged bound (picked ms ls)) ≡ true
unfolding picked judged are_good
are_good-picked bound [] ls g = refl
are_good-picked bound (m ∷ ms) [] g = refl
are_good-picked bound (m ∷ ms) (l ∷ ls) g =
    let p = both (is_good (line_of bound l)) (are_good (judged bound ls)) g in
    by_test (eqb m 1) (λ y. rw (y, p.0) (are_good-picked bound ms ls p.1)) (λ n. rw n (are_good-picked bound ms ls p.1))

pub length-picked-le : (ms : List ℕ) (ls : List (List ℕ)) → length (joined (picked ms ls)) ≤ length (joined ls)
unfolding picked joined
length-picked-le [] ls = omega arith
length-picked-le (m ∷ ms) [] = omega arith
length-picked-le (m ∷ ms) (l ∷ ls) =
    let below = joined (picked ms ls) in
    let h : length below ≤ length (joined ls) = length-picked-le ms ls in
    let e : length (l ++ newline ∷ joined ls) ≡ length l + suc (length (joined ls)) = length-append l (newline ∷ joined ls) in
    by_test (eqb m 1) (λ y. rw y (omega (arith, length-append l (newline ∷ below)))) (λ n. rw n (omega arith))
