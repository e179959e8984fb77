-- Low texts: no byte is above `9`, so there is no letter and no `@`. A raw date is low, since it has only white space, signs and
-- digits (`low_of_raw`); the words of a low text are low (`low_words`). In order: raw dates; words.
-- Assumes nothing.
use mathlib.Core.Path.{◌≡◌, refl, sym, ◌∙◌}
use mathlib.Core.Bool.{Bool, false, false≢true}
use mathlib.Core.List.{List, [], ◌∷◌}
use Prim.Native.Nat.{ℕ, zero, suc, ◌^◌, ◌≤◌, ◌<◌}
use native.Mathlib.Omega.{arith}
use borrow.Author.Tests.{eq-eqb, ne_eqb, leb-true, leb-false, lt-leb, le-leb}
use lib.Dec.{leb}
use lib.ListN.{take}
use Rattle.text.specs.Bytes.{is_space}
use Rattle.text.specs.Places.{has}
use Rattle.text.specs.Words.{onto, pieces, full, words}
use Rattle.text.specs.Number.{signed_of}
use Rattle.text.proofs.Lists.{by_test}
use Rattle.text.proofs.Runs.{has_nil}
use Rattle.text.proofs.Numbers.{fitted_signed-value}
use Rattle.text.proofs.Decimals.{Between}
use Rattle.text.proofs.Texts.{not_has_cons, not_has_of_cons, not_has_of_words, between_of_signed_of}
use Rattle.time.specs.declared.Time.{Time}
use Rattle.header.specs.Raw.{Limits}
use Rattle.header.specs.Theorems.{RawDate}
use Rattle.header.proofs.Unsigned.{between_of_fields_of}

-- ---- a raw date: c, a byte above `9`, is in neither of its words, and is no white space
module _ (c : ℕ) (above : 57 < c) where
  not_has_of_between : (w : List ℕ) → Between 43 57 w → has c w ≡ false
  not_has_of_between [] b = has_nil c
  not_has_of_between (x ∷ w) b = let k : x ≤ 57 = b.1 in not_has_cons c x w (ne_eqb x c (λ e. omega arith)) (not_has_of_between w b.2)

  not-space : is_space c ≡ false
  unfolding is_space
  not-space = rw (le-leb 9 c (omega arith), lt-leb c 13 (omega arith), ne_eqb c 32 (λ e. omega arith))

  not_has_of_raw : {l : Limits} {s : List ℕ} {t : Time} → RawDate l s t → has c s ≡ false
  not_has_of_raw {l} {s} {t} d =
      let number = between_of_signed_of d.first t.seconds (fitted_signed-value (2 ^ 63) (signed_of d.first) t.seconds d.number_is) in
      let offset = between_of_fields_of d.second d.fields d.fields_are in
      not_has_of_words c is_space not-space s (rw d.words_are (not_has_of_between d.first number, (not_has_of_between d.second offset, tt)))

-- no byte is above `9`
abbrev pub Low : List ℕ → Type 0
Low s = Between 0 57 s

low_of_not_has : (s : List ℕ) → ((c : ℕ) → 57 < c → has c s ≡ false) → Low s
low_of_not_has [] h = tt
low_of_not_has (b ∷ s) h = (omega arith, at_most, low_of_not_has s (λ c k. (not_has_of_cons c b s (h c k)).1))
  where
    at_most : b ≤ 57
    at_most =
        by_test (leb b 57) (leb-true b 57)
        (λ e. absurd (false≢true (sym (not_has_of_cons b b s (h b (leb-false b 57 e))).0 ∙ eq-eqb b b refl)))

pub low_of_raw : {l : Limits} {s : List ℕ} {t : Time} → RawDate l s t → Low s
low_of_raw {l} {s} d = low_of_not_has s (λ c h. not_has_of_raw c h d)

-- ---- the words of a low text, and the front of one
abbrev pub AllLow : List (List ℕ) → Type 0
AllLow [] = Unit {0}
AllLow (w ∷ ws) = Low w × AllLow ws

low_onto : (b : ℕ) (ws : List (List ℕ)) → b ≤ 57 → AllLow ws → AllLow (onto b ws)
low_onto b [] h k = ((omega arith, h, tt), tt)
low_onto b (w ∷ ws) h k = ((omega arith, h, k.0), k.1)

low_full : (ws : List (List ℕ)) → AllLow ws → AllLow (full ws)
unfolding full
low_full [] h = tt
low_full ([] ∷ ws) h = low_full ws h.1
low_full ((b ∷ w) ∷ ws) h = (h.0, low_full ws h.1)

low_pieces : (p : ℕ → Bool) (s : List ℕ) → Low s → AllLow (pieces p s)
unfolding pieces
low_pieces p [] h = (tt, tt)
low_pieces p (b ∷ s) h =
    by_test (p b) (λ e. rw e (tt, low_pieces p s h.2)) (λ e. rw e (low_onto b (pieces p s) h.1 (low_pieces p s h.2)))

pub low_words : (p : ℕ → Bool) (s : List ℕ) → Low s → AllLow (words p s)
unfolding words
low_words p s h = low_full (pieces p s) (low_pieces p s h)

pub low-take : (n : ℕ) (w : List ℕ) → Low w → Low (take n w)
low-take zero w h = tt
low-take (suc n) [] h = tt
low-take (suc n) (b ∷ w) h = (h.0, h.1, low-take n w h.2)
