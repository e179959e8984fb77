-- A scan of the words that has come part of the way: what was counted, marked and subtracted so far, together with the words that
-- are left, makes up the whole text. There is one law for each way in which the scan goes on, and one for each word that the
-- reader takes.
-- Assumes nothing.
use Rattle.std.specs.Prelude.{None, Result, Some}
use mathlib.Core.Path.{◌≡◌, refl, sym, ◌∙◌}
use mathlib.Core.Bool.{Bool, true, false, ◌&&◌, ◌||◌, and_assoc, and-true, or-false, or-true}
use mathlib.Core.List.{List, [], ◌∷◌}
use Prim.Native.Nat.{ℕ, ◌+◌, ◌≤◌, ◌<◌}
use native.Mathlib.Omega.{arith}
use lib.ListN.{length, drop}
use Rattle.text.specs.Bytes.{is_alphanumeric}
use Rattle.text.specs.Words.{words, take_word}
use Rattle.text.specs.Places.{part, no}
use Rattle.text.specs.declared.words.Span.{Span}
use Rattle.text.specs.declared.words.Words.{Words}
use Rattle.text.proofs.Taking.{words-take_word, take_word-moves}
use Rattle.relative.specs.Words.{words_of, is, count_of, unit_of}
use Rattle.relative.specs.Pairs.{pairs_from, ago_from, known, is_known, pairs_of, ago_in}
use Rattle.relative.specs.Steps.{step, steps}
use Rattle.relative.specs.declared.pair.Unit.{Unit}
use Rattle.time.specs.declared.Refusal.{Refusal}
use Rattle.time.specs.declared.Time.{Time}

-- the words that are left at a place
abbrev pub left : List ℕ → ℕ → List (List ℕ)
left s at = words (no is_alphanumeric) (drop at s)

-- n pairs have been read, which lead from the answer x to the answer y if they are within the bound; k says whether all their units
-- are known, a whether the mark was set; the words `rest` are left
pub record Scanned (bound : ℕ) (s : List ℕ) (x : Result Time Refusal) (n : ℕ) (k a : Bool) (y : Result Time Refusal) (rest : List (List ℕ)) : Type 0 where
  pub number : length (pairs_of s) ≡ n + length (pairs_from None rest)
  pub units : known (pairs_of s) ≡ (k && known (pairs_from None rest))
  pub mark : ago_in s ≡ (a || ago_from None rest)
  pub goes : n ≤ bound → steps (pairs_of s) x ≡ steps (pairs_from None rest) y

pub scanned_start : (bound : ℕ) (s : List ℕ) (x : Result Time Refusal) → Scanned bound s x 0 true false x (left s 0)
unfolding words_of
scanned_start bound s x = record { number = omega arith; units = refl; mark = refl; goes = λ l. refl }

module _ {bound : ℕ} {s : List ℕ} {x : Result Time Refusal} {n : ℕ} {k a : Bool} {y : Result Time Refusal} where
  -- at the end
  pub all_number : Scanned bound s x n k a y [] → n ≡ length (pairs_of s)
  unfolding pairs_from
  all_number h = omega (arith, h.number)

  pub all_known : Scanned bound s x n k a y [] → k ≡ known (pairs_of s)
  unfolding pairs_from known
  all_known h = sym (h.units ∙ and-true k)

  pub all_mark : Scanned bound s x n k a y [] → a ≡ ago_in s
  unfolding ago_from
  all_mark h = sym (h.mark ∙ or-false a)

  pub all_gone : Scanned bound s x n k a y [] → n ≤ bound → y ≡ steps (pairs_of s) x
  unfolding pairs_from steps
  all_gone h l = sym (h.goes l)

  module _ {w : List ℕ} {ws : List (List ℕ)} where
    -- `ago`
    pub marked : Scanned bound s x n k a y (w ∷ ws) → is w "ago" ≡ true → Scanned bound s x n k true y ws
    unfolding pairs_from ago_from
    marked h e =
        record {
          number = rw e at h.number;
          units = rw e at h.units;
          mark = rw (e, or-true) at h.mark;
          goes = λ l. rw e at (h.goes l);
        }

    -- a word that is no count
    pub passed : Scanned bound s x n k a y (w ∷ ws) → is w "ago" ≡ false → count_of w ≡ None → Scanned bound s x n k a y ws
    unfolding pairs_from ago_from
    passed h e f =
        record {
          number = rw (e, f) at h.number;
          units = rw (e, f) at h.units;
          mark = rw (e, f) at h.mark;
          goes = λ l. rw (e, f) at (h.goes l);
        }

  -- a count at the end
  pub dropped : {w : List ℕ} → Scanned bound s x n k a y (w ∷ []) → is w "ago" ≡ false → Scanned bound s x n k a y []
  unfolding pairs_from ago_from
  dropped h e = record { number = h.number; units = h.units; mark = rw e at h.mark; goes = h.goes }

  -- a pair, with its unit, and whether it is known
  module _ {w u : List ℕ} {ws : List (List ℕ)} {v : ℕ} {p : Unit} {b : Bool} (h : Scanned bound s x n k a y (w ∷ u ∷ ws)) (e : is w "ago" ≡ false) (f : count_of w ≡ Some v) (g : p ≡ unit_of u) (i : b ≡ is_known p) where
    -- it is subtracted, and leads on
    pub subtracted : {z : Result Time Refusal} → z ≡ step (record { count = v; unit = p }) y → Scanned bound s x (n + 1) (k && b) a z ws
    unfolding pairs_from ago_from known steps
    subtracted j =
        record {
          number = omega (arith, rw (e, f) at h.number);
          units = rw (i, g) (rw (e, f, ← and_assoc) at h.units);
          mark = rw (e, f) at h.mark;
          goes = λ l. rw (j, g) (rw (e, f) at (h.goes (omega arith)));
        }

    -- or it is beyond the bound
    pub beyond : bound ≤ n → Scanned bound s x (n + 1) (k && b) a y ws
    unfolding pairs_from ago_from known
    beyond j =
        record {
          number = omega (arith, rw (e, f) at h.number);
          units = rw (i, g) (rw (e, f, ← and_assoc) at h.units);
          mark = rw (e, f) at h.mark;
          goes = λ l. absurd (omega arith);
        }

-- ---- the next word, as the reader takes it
module _ (s : List ℕ) (at : ℕ) {x : Span} {w : Words} (e : Some (x, w) ≡ take_word (no is_alphanumeric) s at) where
  pub left_some : left s at ≡ part s x ∷ left s w.at
  left_some = words-take_word (no is_alphanumeric) s at _ e

  pub further : (at < w.at) × (w.at ≤ length s)
  further = rw (← e) at (take_word-moves (no is_alphanumeric) s at)

pub left_none : (s : List ℕ) (at : ℕ) → None ≡ take_word (no is_alphanumeric) s at → left s at ≡ []
left_none s at e = words-take_word (no is_alphanumeric) s at _ e
