-- RULES 12.3: two relative texts joined by a space answer as the second one does, read from the first one's answer, and they are
-- refused as out of range exactly if either step is. The contracts of `parse` and `parse_with` carry this to the code.
-- Assumes nothing.
use Rattle.std.specs.Prelude.{Err, None, Ok, Option, Result, Some}
use mathlib.Core.Path.{◌≡◌, refl, sym, ap, ◌∙◌}
use mathlib.Core.Logic.{◌↔◌, ◌⊎◌, inl, inr, ⊎_elim}
use mathlib.Core.Bool.{Bool, true, ◌||◌}
use mathlib.Core.List.{List, ◌++◌}
use Prim.Native.Nat.{ℕ, ◌+◌, ◌≤◌}
use Prim.Native.Char.{code}
use native.Mathlib.Omega.{arith}
use lib.ListN.{length, length-append}
use Rattle.text.specs.Bytes.{is_alphanumeric, ascii}
use Rattle.text.specs.Places.{no}
use Rattle.text.proofs.Plain.{ascii_append}
use Rattle.text.proofs.Taking.{words_append}
use Rattle.time.specs.Answers.{time_marked, unmarked}
use Rattle.time.specs.Range.{time_in_range}
use Rattle.time.specs.declared.Time.{Time}
use Rattle.time.specs.declared.Refusal.TheVariants.{Range}
use Rattle.relative.specs.Words.{words_of}
use Rattle.relative.specs.Pairs.{pairs_of, ago_in, known}
use Rattle.relative.specs.Steps.{steps}
use Rattle.relative.specs.Relative.{from, relative_of}
use Rattle.relative.specs.Joined.{Joinable, joined_by_space, after}
use Rattle.relative.specs.declared.pair.Pair.{Pair}
use Rattle.relative.proofs.Texts.{pairs_from-append, waits_from-append, known-append, steps-append, steps_refused, Good, steps_good, Clear, steps_clear}
use Rattle.relative.proofs.Named.{relative_of_of_pairs}
use Rattle.time.specs.declared.Refusal.{Refusal}

-- a whole text answers its pairs, applied from the current time
pub known-or : (k a : Bool) → k ≡ true → (k || a) ≡ true
known-or k a e = rw e

pub answer_of_whole : (bound : ℕ) (s : List ℕ) (current : Option Time) → Joinable s → length (pairs_of s) ≤ bound → relative_of bound s current ≡ from current (pairs_of s)
answer_of_whole bound s current w h = relative_of_of_pairs bound s current w.plain w.some (known-or (known (pairs_of s)) (ago_in s) w.units_known) h

-- the joined text is whole, and has the pairs of both
pub joined_pairs : (a b : List ℕ) → Joinable a → pairs_of (joined_by_space a b) ≡ pairs_of a ++ pairs_of b
unfolding words_of is_alphanumeric
joined_pairs a b w = rw (words_append (no is_alphanumeric) a b (code " ") refl, pairs_from-append None (words_of a) (words_of b), w.ended)

pub joined_whole : (a b : List ℕ) → Joinable a → Joinable b → Joinable (joined_by_space a b)
unfolding ascii words_of is_alphanumeric
joined_whole a b v w =
    record {
      plain = rw (ascii_append, v.plain) w.plain;
      some = rw (joined_pairs a b v) (omega (arith, length-append (pairs_of a) (pairs_of b), v.some));
      units_known = rw (joined_pairs a b v, known-append, v.units_known) w.units_known;
      ended = rw (words_append (no is_alphanumeric) a b (code " ") refl, waits_from-append None (words_of a) (words_of b), v.ended) w.ended;
    }

-- pairs in a row: the later ones start where the earlier ones landed, which is a current time in range
abbrev onward : Result Time Refusal → List Pair → Result Time Refusal
onward (Ok x) ps = from (Some x) ps
onward (Err r) ps = Err r

steps_onward : (ps : List Pair) (x : Result Time Refusal) → Good x → Clear x → steps ps x ≡ onward x ps
unfolding from
steps_onward ps (Ok x) g c = rw g (λ i. steps ps (Ok (time_marked x.seconds x.offset (c i))))
steps_onward ps (Err r) g c = steps_refused ps r

from_append : (x : Time) (ps qs : List Pair) → time_in_range x ≡ true → from (Some x) (ps ++ qs) ≡ onward (from (Some x) ps) qs
unfolding from time_in_range
from_append x ps qs c =
    let start = Ok (unmarked x) in
    rw (c, steps-append ps qs start) (steps_onward qs (steps ps start) (steps_good ps start c) (steps_clear ps start refl))

module _ (bound : ℕ) (b : List ℕ) (w : Joinable b) (h : length (pairs_of b) ≤ bound) where
  onward_after : (r : Result Time Refusal) → onward r (pairs_of b) ≡ after bound b r
  onward_after (Ok x) = sym (answer_of_whole bound b (Some x) w h)
  onward_after (Err r) = refl

-- refused as out of range exactly if either step is
after_refused : (bound : ℕ) (b : List ℕ) (r : Result Time Refusal)
    → (after bound b r ≡ Err Range) ↔ ((r ≡ Err Range) ⊎ ((y : Time) × (r ≡ Ok y) × (relative_of bound b (Some y) ≡ Err Range)))
after_refused bound b (Ok y) = (
  (λ e. inr (y, refl, e)),
  ⊎_elim (λ e. ap (after bound b) e) (λ p. ap (after bound b) p.1 ∙ p.2),
)
after_refused bound b (Err r) = ((λ e. inl e), ⊎_elim (λ e. e) (λ p. ap (after bound b) p.1 ∙ p.2))

module _ (bound : ℕ) (a b : List ℕ) (x : Time) (v : Joinable a) (w : Joinable b) (h : length (pairs_of a) + length (pairs_of b) ≤ bound) (c : time_in_range x ≡ true) where
  -- joined by a space, two texts answer as the second read from the first's answer
  pub relative_join : relative_of bound (joined_by_space a b) (Some x) ≡ after bound b (relative_of bound a (Some x))
  relative_join =
      let k : length (pairs_of (joined_by_space a b)) ≤ bound = rw (joined_pairs a b v) (omega (arith, length-append (pairs_of a) (pairs_of b))) in
      answer_of_whole bound (joined_by_space a b) (Some x) (joined_whole a b v w) k ∙ ap (from (Some x)) (joined_pairs a b v) ∙ from_append x (pairs_of a) (pairs_of b) c ∙ ap (λ (r : Result Time Refusal). onward r (pairs_of b)) (sym (answer_of_whole bound a (Some x) v (omega arith))) ∙ onward_after bound b w (omega arith) (relative_of bound a (Some x))

  -- and are refused as out of range exactly if either step is
  pub relative_join_refused : (relative_of bound (joined_by_space a b) (Some x) ≡ Err Range)
      ↔ ((relative_of bound a (Some x) ≡ Err Range) ⊎ ((y : Time) × (relative_of bound a (Some x) ≡ Ok y) × (relative_of bound b (Some y) ≡ Err Range)))
  relative_join_refused = rw relative_join (after_refused bound b (relative_of bound a (Some x)))
