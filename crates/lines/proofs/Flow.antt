-- An input that comes piece by piece through a buffer has the output of the whole, wherever it is cut. In order the three promises:
-- `output-step`, of answering the lines that have their end; `output_kept`, of keeping what is left; `output-last`, of a last line that
-- lacks its end.
-- Assumes nothing.
use Rattle.std.specs.Prelude.{Option}
use mathlib.Core.Path.{◌≡◌, refl, sym, ap, ◌∙◌}
use mathlib.Core.List.{List, [], ◌∷◌, ◌++◌, append_assoc, append-nil}
use Prim.Native.Nat.{ℕ, zero, suc, ◌+◌, ◌-◌, ◌≤◌, ◌<◌}
use native.Mathlib.Nat.{le_refl}
use native.Mathlib.Omega.{arith}
use borrow.Author.Tests.{ltb-true, ltb-false}
use lib.Dec.{ltb}
use lib.ListN.{length, take, drop, length-drop, length-append}
use lib.Seq.{drop-drop, length-take-le, take_all}
use Rattle.text.specs.Lines.{newline, lines_of, ended_lines, taken_by}
use Rattle.text.specs.Places.{first_place}
use Rattle.text.proofs.Lines.{ended_lines-none, ended_lines-cut, ended_lines-take, lines_of-cut, lines_of-open, head_of, tail_of}
use Rattle.text.proofs.Lists.{by_test}
use Rattle.lines.specs.Layout.{max_line, text_of}
use Rattle.lines.specs.Rows.{row_bytes}
use Rattle.lines.specs.Answers.{row_by, row_of, answer_line}
use Rattle.lines.specs.Lines.{answers_of, output_of, fitting, answered, max_kept, kept}
use Rattle.lines.specs.declared.layout.Request.{Request}
use Rattle.lines.proofs.Layouts.{line_of_of_length}
use Rattle.lines.proofs.Buffers.{fitting_fits, fitting_full}

-- ---- answering the lines that have their end
-- no line is taken: nothing changes
step-none : (s z : List ℕ) (ls : List (List ℕ)) → ls ≡ [] → output_of (s ++ z) ≡ answers_of ls ++ output_of (drop (taken_by ls) s ++ z)
unfolding answers_of taken_by
step-none s z ls e = sym (ap (λ (l : List (List ℕ)). answers_of l ++ output_of (drop (taken_by l) s ++ z)) e)

-- what holds of shorter texts holds of one with a line that has its end
step_line : (n : ℕ) (s z : List ℕ) (k : ℕ)
    → ((t : List ℕ) (j : ℕ) → length t ≤ n → output_of (t ++ z) ≡ answers_of (answered t j) ++ output_of (drop (taken_by (answered t j)) t ++ z))
    → length s ≤ suc n → (e : ℕ) → e ≡ first_place newline s → e < length s
    → output_of (s ++ z) ≡ answers_of (answered s k) ++ output_of (drop (taken_by (answered s k)) s ++ z)
unfolding answers_of taken_by output_of
step_line n s z k shorter h e p l =
    let line = take e s in
    let t = drop (suc e) s in
    let a = answer_line line in
    let lt : length t ≤ n = omega (arith, length-drop (suc e) s) in
    let le : length line ≡ e = length-take-le e s (omega arith) in
    by_test (ltb k (length a))
    (λ y. step-none s z (answered s k) (ap (fitting k) (ended_lines-cut s e p l) ∙ fitting_full k line (ended_lines t) (ltb-true k (length a) y)))
    (λ y.
    let j = k - length a in
    let f : answered s k ≡ line ∷ answered t j = ap (fitting k) (ended_lines-cut s e p l) ∙ fitting_fits k line (ended_lines t) (ltb-false k (length a) y) in
    let d : suc e + taken_by (answered t j) ≡ length line + 1 + taken_by (answered t j) = omega arith in
    ap answers_of (lines_of-cut s z e p l)
    ∙ ap (λ (v : List ℕ). a ++ v) (shorter t j lt)
    ∙ sym (append_assoc a (answers_of (answered t j)) (output_of (drop (taken_by (answered t j)) t ++ z)))
    ∙ ap (λ (v : List ℕ). (a ++ answers_of (answered t j)) ++ output_of (v ++ z)) (drop-drop (taken_by (answered t j)) (suc e) s ∙ ap (λ (v : ℕ). drop v s) d)
    ∙ sym (ap (λ (ls : List (List ℕ)). answers_of ls ++ output_of (drop (taken_by ls) s ++ z)) f))

step-within : (n : ℕ) (s z : List ℕ) (k : ℕ) → length s ≤ n → output_of (s ++ z) ≡ answers_of (answered s k) ++ output_of (drop (taken_by (answered s k)) s ++ z)
unfolding fitting
step-within zero s z k h = step-none s z (answered s k) (ap (fitting k) (ended_lines-none s (omega arith)))
step-within (suc n) s z k h =
    by_test (ltb (first_place newline s) (length s)) (λ y. step_line n s z k (λ t j. step-within n t z j) h (first_place newline s) refl (ltb-true _ _ y))
    (λ y. step-none s z (answered s k) (ap (fitting k) (ended_lines-none s (ltb-false _ _ y))))

-- what a step answers, and then the output of what it left and of all that follows, is the output of the whole
pub output-step : (s z : List ℕ) (k : ℕ) → output_of (s ++ z) ≡ answers_of (answered s k) ++ output_of (drop (taken_by (answered s k)) s ++ z)
output-step s z k = step-within (length s) s z k (le_refl (length s))

-- ---- a text in which no line has its end
-- its output begins with the answer of the line that it opens
output_open : (s : List ℕ) (b : ℕ) (z : List ℕ) → ended_lines (b ∷ s) ≡ [] → output_of (b ∷ s ++ z) ≡ answer_line (b ∷ s ++ head_of (lines_of z)) ++ answers_of (tail_of (lines_of z))
unfolding output_of answers_of
output_open s b z h = ap answers_of (lines_of-open s b z h)

-- all lines that are too long have one answer
answer_line-long : (s t : List ℕ) → max_line < length s → max_line < length t → answer_line s ≡ answer_line t
unfolding answer_line row_of
answer_line-long s t h k =
    sym (ap (λ (l : Option Request). row_bytes (row_by l (text_of s))) (line_of_of_length s h)) ∙ ap (λ (l : Option Request). row_bytes (row_by l (text_of t))) (line_of_of_length t k)

-- of a line that has no end yet only what is kept matters, whatever follows
pub output_kept : (s z : List ℕ) → ended_lines s ≡ [] → output_of (kept s ++ z) ≡ output_of (s ++ z)
output_kept [] z h = refl
output_kept (b ∷ s) z h =
    let rest = head_of (lines_of z) in
    by_test (ltb max_line (length s))
    (λ y.
    let l : max_line < length s = ltb-true max_line (length s) y in
    output_open (take max_line s) b z (ended_lines-take max_kept (b ∷ s) h)
    ∙ ap (λ (v : List ℕ). v ++ answers_of (tail_of (lines_of z)))
    (answer_line-long (b ∷ take max_line s ++ rest) (b ∷ s ++ rest) (omega (arith, length-append (take max_line s) rest, length-take-le max_line s (omega arith))) (omega (arith, length-append s rest)))
    ∙ sym (output_open s b z h))
    (λ y. let l : length s ≤ max_line = ltb-false max_line (length s) y in ap (λ (v : List ℕ). output_of (b ∷ v ++ z)) (take_all max_line s l))

-- and at the end of the input it is the last line
pub output-last : (s : List ℕ) → ended_lines s ≡ [] → 0 < length s → output_of s ≡ answer_line s
unfolding lines_of head_of tail_of answers_of
output-last [] h l = absurd (omega arith)
output-last (b ∷ s) h l =
    ap output_of (sym (append-nil (b ∷ s))) ∙ output_open s b [] h ∙ append-nil (answer_line (b ∷ s ++ [])) ∙ ap answer_line (append-nil (b ∷ s))

-- an empty input has no line
pub output_nothing : output_of [] ≡ []
unfolding output_of lines_of answers_of
output_nothing = refl
