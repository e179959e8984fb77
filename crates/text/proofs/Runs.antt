-- Runs of bytes, and places. In order: a run is within its text; the place past a run, one byte at a time; the bytes of a run;
-- runs of two classes, one of which includes the other; a function that no byte of a run changes; a byte that a text does not
-- hold; the last place at which a test holds, found from the end.
-- Assumes nothing.
use mathlib.Core.Path.{◌≡◌, refl, ap, ◌∙◌, sym}
use mathlib.Core.Bool.{Bool, true, false, not, ◌||◌, false≢true}
use mathlib.Core.List.{List, [], ◌∷◌, ◌++◌}
use Prim.Native.Nat.{ℕ, zero, suc, ◌+◌, ◌-◌, ◌≤◌, ◌<◌, max}
use native.Mathlib.Nat.{le_refl, zero-add, not-suc-le-zero}
use native.Mathlib.Omega.{arith}
use borrow.Author.Tests.{ltb-true, ltb-false, lt-ltb, le-ltb, leb-true, leb-false}
use lib.Dec.{ltb, leb, eqb}
use lib.ListN.{length, get_or, take, drop, length-drop, drop_of_length-le, take-append-drop}
use lib.Seq.{drop-drop, length-take-le}
use Rattle.text.specs.Places.{run, leading, no, past, first_place, has, last_where, last_place, opens_with}
use Rattle.text.proofs.Lists.{by_test, drop-cons-add-one, drop-sub-one}

not-not : (t : Bool) → t ≡ not (not t)
not-not true = refl
not-not false = refl

pub run-le-length : (p : ℕ → Bool) (s : List ℕ) → run p s ≤ length s
unfolding run
run-le-length p [] = le_refl 0
run-le-length p (b ∷ s) = by_test (p b) (λ e. rw e (omega (arith, run-le-length p s))) (λ e. rw e (omega arith))

pub past-le-length : (p : ℕ → Bool) (s : List ℕ) (at : ℕ) → at ≤ length s → past p s at ≤ length s
unfolding past
past-le-length p s at h = omega (arith, run-le-length p (drop at s), length-drop at s)

-- ---- the place past a run
module _ (p : ℕ → Bool) (s : List ℕ) (i : ℕ) where
  pub le-past : i ≤ past p s i
  unfolding past
  le-past = omega arith

  pub past_of-true : i < length s → p (get_or s i 0) ≡ true → past p s i ≡ past p s (i + 1)
  unfolding past run
  past_of-true h e = rw (drop-cons-add-one s i h, e) (omega arith)

  pub past_of-false : i < length s → p (get_or s i 0) ≡ false → past p s i ≡ i
  unfolding past run
  past_of-false h e = rw (drop-cons-add-one s i h, e) (omega arith)

  pub past_of-length-le : length s ≤ i → past p s i ≡ i
  unfolding past run
  past_of-length-le h = rw (drop_of_length-le s h) (omega arith)

  -- a byte that does not fail p satisfies p
  pub past_no_no : past p s i ≡ past (no (no p)) s i
  past_no_no = λ j. past (λ b. not-not (p b) j) s i

  pub drop_past : drop (run p (drop i s)) (drop i s) ≡ drop (past p s i) s
  unfolding past
  drop_past = drop-drop _ i s

  -- ---- the bytes of a run
  pub length-leading : i + length (leading p (drop i s)) ≡ past p s i
  unfolding past
  length-leading = rw (length-take-le (run p (drop i s)) (drop i s) (run-le-length p (drop i s)))

  pub leading_of_past : past p s i ≡ i → leading p (drop i s) ≡ []
  unfolding past
  leading_of_past e = let z : run p (drop i s) ≡ 0 = omega arith in rw z

  pub leading_of_true : i < length s → p (get_or s i 0) ≡ true → leading p (drop i s) ≡ get_or s i 0 ∷ leading p (drop (i + 1) s)
  unfolding run
  leading_of_true h e = rw (drop-cons-add-one s i h, e)

-- a scan from `at` has come to the end at i, or `at` lay past it
pub past_of-max : (p : ℕ → Bool) (s : List ℕ) (at i : ℕ) → past p s at ≡ past p s i → length s ≤ i → (at ≤ length s → i ≤ length s) → max at (length s) ≡ past p s at
past_of-max p s at i e k b =
    by_test (leb at (length s)) (λ t. let h : at ≤ length s = leb-true at (length s) t in omega (arith, b h, past_of-length-le p s i k))
    (λ t. let h = leb-false at (length s) t in omega (arith, past_of-length-le p s at (omega arith)))

-- ---- runs of two classes
-- a run is as long as n of its bytes and the run after them
pub run_drop : (q : ℕ → Bool) (n : ℕ) (s : List ℕ) → n ≤ run q s → n + run q (drop n s) ≡ run q s
unfolding run
run_drop q zero s h = zero-add (run q s)
run_drop q (suc n) [] h = absurd (not-suc-le-zero h)
run_drop q (suc n) (b ∷ s) h =
    by_test (q b) (λ e. let k : suc n ≤ suc (run q s) = rw e at h in rw e (omega (arith, run_drop q n s (omega arith)))) (λ e. absurd (not-suc-le-zero (rw e at h)))

pub past-add : (q : ℕ → Bool) (s : List ℕ) (i n : ℕ) → n ≤ run q (drop i s) → past q s (i + n) ≡ past q s i
unfolding past
past-add q s i n h = rw (← drop-drop n i s) (omega (arith, run_drop q n (drop i s) h))

module _ (p q : ℕ → Bool) (inside : (b : ℕ) → p b ≡ true → q b ≡ true) where
  pub run-le-run : (s : List ℕ) → run p s ≤ run q s
  unfolding run
  run-le-run [] = le_refl 0
  run-le-run (b ∷ s) = by_test (p b) (λ e. rw (e, inside b e) (omega (arith, run-le-run s))) (λ e. rw e (omega arith))

  -- a run of p in the leading bytes of q is the run of p in the whole
  pub run_leading : (s : List ℕ) → run p (leading q s) ≡ run p s
  unfolding run
  run_leading [] = refl
  run_leading (b ∷ s) =
      by_test (q b) (λ e. rw e (by_test (p b) (λ d. rw d (ap suc (run_leading s))) (λ d. rw d)))
      (λ e. by_test (p b) (λ d. absurd (false≢true (sym e ∙ inside b d))) (λ d. rw (e, d)))

-- ---- a function that no byte of a run changes
module _ {A : Type 0} (f : List ℕ → A) (p : ℕ → Bool) (same : (b : ℕ) (s : List ℕ) → p b ≡ true → f (b ∷ s) ≡ f s) where
  drop-run : (s : List ℕ) → f s ≡ f (drop (run p s) s)
  unfolding run
  drop-run [] = refl
  drop-run (b ∷ s) = by_test (p b) (λ e. rw e (same b s e ∙ drop-run s)) (λ e. rw e)

  pub same-drop-past : (s : List ℕ) (i : ℕ) → f (drop i s) ≡ f (drop (past p s i) s)
  same-drop-past s i = drop-run (drop i s) ∙ ap f (drop_past p s i)

-- ---- a byte that a text does not hold
pub has_cons : (c b : ℕ) (s : List ℕ) → has c (b ∷ s) ≡ (eqb b c || has c s)
unfolding has first_place run
has_cons c b s = by_test (eqb b c) (λ e. rw e (lt-ltb 0 (suc (length s)) (omega arith))) (λ e. rw e (ltb-suc (run (λ x. not (eqb x c)) s) (length s)))
  where
    ltb-suc : (m n : ℕ) → ltb (suc m) (suc n) ≡ ltb m n
    ltb-suc m n = by_test (ltb m n) (λ e. rw e (lt-ltb (suc m) (suc n) (omega (arith, ltb-true m n e)))) (λ e. rw e (le-ltb (suc m) (suc n) (omega (arith, ltb-false m n e))))

pub has_nil : (c : ℕ) → has c [] ≡ false
unfolding has first_place run
has_nil c = refl

pub has_drop-cons : (c : ℕ) (s : List ℕ) (i : ℕ) → i < length s → has c (drop i s) ≡ (eqb (get_or s i 0) c || has c (drop (i + 1) s))
has_drop-cons c s i h = rw (drop-cons-add-one s i h) (has_cons c _ _)

pub has_drop-nil : (c : ℕ) (s : List ℕ) (i : ℕ) → length s ≤ i → has c (drop i s) ≡ false
has_drop-nil c s i h = rw (drop_of_length-le s h) (has_nil c)

-- ---- the last place
module _ (p : List ℕ → Bool) where
  pub last_where-le-length : (s : List ℕ) → last_where p s ≤ length s
  unfolding last_where
  last_where-le-length [] = le_refl 0
  last_where-le-length (b ∷ s) =
      by_test (ltb (last_where p s) (length s) || not (p (b ∷ s))) (λ e. rw e (omega (arith, last_where-le-length s))) (λ e. rw e (omega arith))

  -- not at b and at no place after it
  pub last_where-none : (b : ℕ) (s : List ℕ) → last_where p s ≡ length s → p (b ∷ s) ≡ false → last_where p (b ∷ s) ≡ length (b ∷ s)
  unfolding last_where
  last_where-none b s h e = let l : ltb (last_where p s) (length s) ≡ false = le-ltb (last_where p s) (length s) (omega arith) in rw (l, e) (ap suc h)

  -- at b and at no place after it
  pub last_where-here : (b : ℕ) (s : List ℕ) → last_where p s ≡ length s → p (b ∷ s) ≡ true → last_where p (b ∷ s) ≡ 0
  unfolding last_where
  last_where-here b s h e = let l : ltb (last_where p s) (length s) ≡ false = le-ltb (last_where p s) (length s) (omega arith) in rw (l, e)

  -- if the test holds somewhere from place i on, the bytes before i do not matter
  pub last_where-drop : (s : List ℕ) (i : ℕ) → last_where p (drop i s) < length (drop i s) → last_where p s ≡ i + last_where p (drop i s)
  unfolding last_where
  last_where-drop s zero h = sym (zero-add (last_where p s))
  last_where-drop [] (suc i) h = omega arith
  last_where-drop (b ∷ s) (suc i) h =
      let e : last_where p s ≡ i + last_where p (drop i s) = last_where-drop s i h in
      let l : ltb (last_where p s) (length s) ≡ true = lt-ltb (last_where p s) (length s) (omega (arith, length-drop i s)) in
      rw l (omega arith)

  -- at no place from e on: a scan from the end has come to e without finding one
  abbrev pub None : List ℕ → ℕ → Type 0
  None s e = (e ≤ length s) × (last_where p (drop e s) ≡ length (drop e s))

  pub none_at_end : (s : List ℕ) → None s (length s)
  unfolding last_where
  none_at_end s = (le_refl (length s), rw (drop_of_length-le s (le_refl (length s))))

  -- the scan goes on by one byte: the last place is there, or not there either
  module _ (s : List ℕ) (e : ℕ) (h : 0 < e) (n : None s e) where
    pub last-here : p (get_or s (e - 1) 0 ∷ drop e s) ≡ true → e - 1 ≡ last_where p s
    last-here k =
        let w : last_where p (drop (e - 1) s) ≡ 0 = rw (drop-sub-one s e h n.0) (last_where-here _ _ n.1 k) in
        let l : last_where p (drop (e - 1) s) < length (drop (e - 1) s) = omega (arith, length-drop (e - 1) s, n.0) in
        omega (arith, last_where-drop s (e - 1) l)

    pub none_before : p (get_or s (e - 1) 0 ∷ drop e s) ≡ false → None s (e - 1)
    none_before k = (omega (arith, n.0), rw (drop-sub-one s e h n.0) (last_where-none _ _ n.1 k))

-- for one byte, it goes on by any number of bytes that are not that byte
last_place-append : (b : ℕ) (u t : List ℕ) → has b u ≡ false → last_place b t ≡ length t → last_place b (u ++ t) ≡ length (u ++ t)
unfolding last_place
last_place-append b [] t h n = n
last_place-append b (x ∷ u) t h n =
    let k = rw (has_cons b x u) at h in
    by_test (eqb x b) (λ e. absurd (false≢true (sym (rw e at k)))) (λ e. last_where-none (opens_with b) x (u ++ t) (last_place-append b u t (rw e at k) n) e)

pub none_before_block : (b : ℕ) (s : List ℕ) (e n : ℕ) → n ≤ e → None (opens_with b) s e → has b (take (e - (e - n)) (drop (e - n) s)) ≡ false → None (opens_with b) s (e - n)
unfolding last_place
none_before_block b s e n h m k =
    let w : e - n + (e - (e - n)) ≡ e = omega arith in
    let d : drop (e - (e - n)) (drop (e - n) s) ≡ drop e s = drop-drop (e - (e - n)) (e - n) s ∙ ap (λ (i : ℕ). drop i s) w in
    let l = last_place-append b (take (e - (e - n)) (drop (e - n) s)) (drop (e - (e - n)) (drop (e - n) s)) k (rw d m.1) in
    (omega (arith, m.0), rw (take-append-drop (e - (e - n)) (drop (e - n) s)) at l)
