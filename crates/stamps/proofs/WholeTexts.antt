-- A text without a last piece, and what follows it. In order: no line holds a newline; such a text is its lines, joined; the lines of such a text and of what
-- follows it, and the last piece of both; lines of both, as bytes.
-- Assumes nothing.
use mathlib.Core.Path.{◌≡◌, refl, sym, ap, ◌∙◌}
use mathlib.Core.Bool.{false}
use mathlib.Core.List.{List, [], ◌∷◌, ◌++◌, append_assoc, append-nil}
use Prim.Native.Nat.{ℕ, ◌+◌}
use native.Mathlib.Omega.{arith}
use lib.Dec.{eqb}
use lib.ListN.{length, drop}
use lib.Seq.{drop-append-add}
use Rattle.text.specs.Lines.{newline, onto_first, ended_lines, taken_by, left}
use Rattle.text.proofs.Lists.{by_test}
use Rattle.text.proofs.Runs.{has_nil}
use Rattle.text.proofs.Texts.{Lacking, not_has_cons}
use Rattle.stamps.specs.Copies.{joined}
use Rattle.stamps.proofs.Books.{length-joined, joined-ended_lines}
use Rattle.stamps.proofs.Listings.{ended_lines-line}

lacking-onto_first : (b : ℕ) (ls : List (List ℕ)) → eqb b newline ≡ false → Lacking newline ls → Lacking newline (onto_first b ls)
lacking-onto_first b [] e h = tt
lacking-onto_first b (l ∷ ls) e h = (not_has_cons newline b l e h.0, h.1)

-- no line holds a newline
pub lacking-ended_lines : (s : List ℕ) → Lacking newline (ended_lines s)
unfolding ended_lines
lacking-ended_lines [] = tt
lacking-ended_lines (b ∷ s) =
    by_test (eqb b newline) (λ y. rw y (has_nil newline, lacking-ended_lines s)) (λ y. rw y (lacking-onto_first b (ended_lines s) y (lacking-ended_lines s)))

-- a text without a last piece is its lines, joined
pub joined_of_whole : (s : List ℕ) → left s ≡ [] → joined (ended_lines s) ≡ s
joined_of_whole s e = sym (append-nil (joined (ended_lines s))) ∙ ap (λ (v : List ℕ). joined (ended_lines s) ++ v) (sym e) ∙ joined-ended_lines s

lines-append : (ls : List (List ℕ)) (t : List ℕ) → Lacking newline ls → ended_lines (joined ls ++ t) ≡ ls ++ ended_lines t
unfolding joined
lines-append [] t h = refl
lines-append (l ∷ ls) t h =
    ap ended_lines (append_assoc l (newline ∷ joined ls) t) ∙ ended_lines-line l (joined ls ++ t) h.0 ∙ ap (λ (v : List (List ℕ)). l ∷ v) (lines-append ls t h.1)

-- the lines of such a text and of what follows it
pub ended_lines-append : (s t : List ℕ) → left s ≡ [] → ended_lines (s ++ t) ≡ ended_lines s ++ ended_lines t
ended_lines-append s t e = ap (λ (v : List ℕ). ended_lines (v ++ t)) (sym (joined_of_whole s e)) ∙ lines-append (ended_lines s) t (lacking-ended_lines s)

taken_by-append : (a b : List (List ℕ)) → taken_by (a ++ b) ≡ taken_by a + taken_by b
unfolding taken_by
taken_by-append [] b = omega arith
taken_by-append (l ∷ a) b = omega (arith, taken_by-append a b)

-- the last piece of what follows it is the last piece of both
pub left-append : (s t : List ℕ) → left s ≡ [] → left (s ++ t) ≡ left t
unfolding left
left-append s t e =
    let n = taken_by (ended_lines t) in
    let k : taken_by (ended_lines (s ++ t)) ≡ length s + n =
    omega (
      arith,
      ap taken_by (ended_lines-append s t e),
      taken_by-append (ended_lines s) (ended_lines t),
      length-joined (ended_lines s),
      ap length (joined_of_whole s e),
    ) in
    ap (λ (m : ℕ). drop m (s ++ t)) k ∙ drop-append-add s t n

-- lines of both, as bytes
pub joined-append : (a b : List (List ℕ)) → joined (a ++ b) ≡ joined a ++ joined b
unfolding joined
joined-append [] b = refl
joined-append (l ∷ a) b = ap (λ (t : List ℕ). l ++ newline ∷ t) (joined-append a b) ∙ sym (append_assoc l (newline ∷ joined a) (joined b))
