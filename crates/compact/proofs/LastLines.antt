-- A text and its last line. In order: a text with one byte more; the last piece holds no newline; one line back from the place behind a newline.
-- Assumes nothing.
use mathlib.Core.Path.{◌≡◌, refl, sym, ap, ◌∙◌}
use mathlib.Core.Bool.{false}
use mathlib.Core.List.{List, [], ◌∷◌, ◌++◌, append_assoc}
use Prim.Native.Nat.{ℕ, suc, ◌+◌, ◌-◌, ◌≤◌, ◌<◌}
use native.Mathlib.Omega.{arith}
use borrow.Author.Tests.{eqb-true}
use lib.Dec.{eqb}
use lib.ListN.{length, take, drop, get_or, length-take, length-drop, length-append, take-append-drop}
use lib.Seq.{take_at, drop_at}
use Rattle.text.specs.Lines.{newline, onto_first, ended_lines, taken_by, left}
use Rattle.text.specs.Places.{before, has}
use Rattle.text.proofs.Lists.{by_test, take_snoc}
use Rattle.text.proofs.Lines.{ended_lines-left}
use Rattle.stamps.specs.Copies.{joined}
use Rattle.stamps.proofs.Books.{behind, ended_lines-first, ended_lines-open, length-joined, joined-ended_lines, taken_by-le}
use Rattle.stamps.proofs.Listings.{ended_lines-line, left_joined}
use Rattle.stamps.proofs.WholeTexts.{lacking-ended_lines}
use Rattle.compact.specs.Held.{line_at}

-- ---- one byte more
pub ended_lines-snoc : (s : List ℕ) (b : ℕ) → eqb b newline ≡ false → ended_lines (s ++ (b ∷ [])) ≡ ended_lines s
unfolding ended_lines
ended_lines-snoc [] b e = rw e
ended_lines-snoc (x ∷ s) b e = by_test (eqb x newline) (λ y. rw (y, ended_lines-snoc s b e)) (λ y. rw (y, ended_lines-snoc s b e))

taken_by-onto_first : (b : ℕ) (ls : List (List ℕ)) → 0 < taken_by ls → taken_by (onto_first b ls) ≡ suc (taken_by ls)
unfolding taken_by
taken_by-onto_first b [] h = absurd (omega arith)
taken_by-onto_first b (l ∷ ls) h = omega arith

pub taken_by-newline : (s : List ℕ) → taken_by (ended_lines (s ++ (newline ∷ []))) ≡ suc (length s)
unfolding ended_lines taken_by
taken_by-newline [] = refl
taken_by-newline (x ∷ s) =
    by_test (eqb x newline) (λ y. rw y (omega (arith, taken_by-newline s)))
    (λ y. rw y (taken_by-onto_first x (ended_lines (s ++ (newline ∷ []))) (omega (arith, taken_by-newline s)) ∙ ap suc (taken_by-newline s)))

-- ---- the last piece holds no newline
not_has_left : (s : List ℕ) → has newline (left s) ≡ false
not_has_left s =
    by_test (has newline (left s)) (λ y. absurd (omega (arith, ap length (sym (ended_lines-left s) ∙ ended_lines-first (left s) y)))) (λ n. n)

-- ---- one line back
pub before_line : (l t : List ℕ) → has newline l ≡ false → before newline (l ++ newline ∷ t) ≡ l
before_line l t h =
    let s = l ++ newline ∷ t in
    let e : ended_lines s ≡ l ∷ ended_lines t = ended_lines-line l t h in
    by_test (has newline s)
    (λ y. let q : before newline s ∷ ended_lines (behind s) ≡ l ∷ ended_lines t = sym (ended_lines-first s y) ∙ e in cc)
    (λ n. absurd (omega (arith, ap length (sym e ∙ ended_lines-open s n))))

-- the last byte of a text without a last piece is a newline
newline_of_left : (s : List ℕ) (b : ℕ) → left (s ++ (b ∷ [])) ≡ [] → b ≡ newline
unfolding left
newline_of_left s b e =
    by_test (eqb b newline) (λ y. eqb-true b newline y)
    (λ n.
    let t = s ++ (b ∷ []) in
    let k : taken_by (ended_lines t) ≡ taken_by (ended_lines s) = ap taken_by (ended_lines-snoc s b n) in
    absurd (omega (arith, taken_by-le s, ap length e, length-drop (taken_by (ended_lines t)) t, length-append s (b ∷ []))))

-- the line that ends in front of the place `at` begins at `start`
pub record LineBack (book : List ℕ) (at start : ℕ) : Type 0 where
  pub whole : left (take start book) ≡ []
  pub text_is : drop start book ≡ line_at book start ++ newline ∷ drop at book
  pub lines_are : ended_lines (drop start book) ≡ line_at book start ∷ ended_lines (drop at book)
  pub size_is : start + (length (line_at book start) + 1) ≡ at

pub line_back : (book : List ℕ) (at start : ℕ) → 0 < at → at ≤ length book → left (take at book) ≡ [] → start ≡ taken_by (ended_lines (take (at - 1) book)) → LineBack book at start
line_back book at start some within e is =
    let t = take (at - 1) book in
    let l = left t in
    let snoc : take at book ≡ t ++ (get_or book (at - 1) 0 ∷ []) = take_snoc book at some within in
    let b : get_or book (at - 1) 0 ≡ newline = newline_of_left t (get_or book (at - 1) 0) (ap left (sym snoc) ∙ e) in
    let js = joined (ended_lines t) in
    let size : length js ≡ start = length-joined (ended_lines t) ∙ sym is in
    let parts : js ++ (l ++ newline ∷ drop at book) ≡ book =
    sym (append_assoc js l (newline ∷ drop at book)) ∙ ap (λ (v : List ℕ). v ++ newline ∷ drop at book) (joined-ended_lines t)
    ∙ sym (append_assoc t (newline ∷ []) (drop at book)) ∙ ap (λ (v : ℕ). (t ++ (v ∷ [])) ++ drop at book) (sym b)
    ∙ ap (λ (v : List ℕ). v ++ drop at book) (sym snoc) ∙ take-append-drop at book in
    let front : take start book ≡ js = ap (take start) (sym parts) ∙ take_at js (l ++ newline ∷ drop at book) start size in
    let text : drop start book ≡ l ++ newline ∷ drop at book = ap (drop start) (sym parts) ∙ drop_at js (l ++ newline ∷ drop at book) start size in
    let line : line_at book start ≡ l = ap (before newline) text ∙ before_line l (drop at book) (not_has_left t) in
    record {
      whole = ap left front ∙ left_joined (ended_lines t) (lacking-ended_lines t);
      text_is = text ∙ ap (λ (v : List ℕ). v ++ newline ∷ drop at book) (sym line);
      lines_are = ap ended_lines text ∙ ended_lines-line l (drop at book) (not_has_left t) ∙ ap (λ (v : List ℕ). v ∷ ended_lines (drop at book)) (sym line);
      size_is = omega (arith, ap length line, size, ap length (joined-ended_lines t), length-append js l, length-take (at - 1) book);
    }
