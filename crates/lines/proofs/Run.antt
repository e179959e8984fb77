-- A whole run: reads one after the other, through a buffer that keeps the start of a line, give the output of the whole input, however
-- it is cut into reads (`output_of_reads`). In order: all lines that have their end; what is left behind them; the run.
-- Assumes nothing.
use mathlib.Core.Path.{◌≡◌, refl, sym, ap, ◌∙◌}
use mathlib.Core.List.{List, [], ◌∷◌, ◌++◌, append_assoc, append-nil}
use Prim.Native.Nat.{ℕ, ◌+◌, ◌-◌, ◌≤◌}
use native.Mathlib.Nat.{le_refl}
use native.Mathlib.Omega.{arith}
use lib.ListN.{length, drop, length-append}
use Rattle.text.specs.Lines.{ended_lines, taken_by, left}
use Rattle.text.proofs.Lines.{ended_lines-left, ended_lines-take}
use Rattle.lines.specs.Answers.{answer_line}
use Rattle.lines.specs.Lines.{answers_of, output_of, fitting, max_kept, kept}
use Rattle.lines.specs.Run.{last_of, run_of, joined}
use Rattle.lines.proofs.Buffers.{fitting_fits}
use Rattle.lines.proofs.Flow.{output-step, output_kept, output-last, output_nothing}

-- ---- in a room that is large enough every line that has its end is answered
fitting_all : (ls : List (List ℕ)) (k : ℕ) → length (answers_of ls) ≤ k → fitting k ls ≡ ls
unfolding fitting answers_of
fitting_all [] k h = refl
fitting_all (l ∷ ls) k h =
    let e : length (answer_line l ++ answers_of ls) ≡ length (answer_line l) + length (answers_of ls) = length-append (answer_line l) (answers_of ls) in
    fitting_fits k l ls (omega arith) ∙ ap (λ (v : List (List ℕ)). l ∷ v) (fitting_all ls (k - length (answer_line l)) (omega arith))

output_all : (s z : List ℕ) → output_of (s ++ z) ≡ answers_of (ended_lines s) ++ output_of (left s ++ z)
unfolding left
output_all s z =
    let k = length (answers_of (ended_lines s)) in
    output-step s z k ∙ ap (λ (ls : List (List ℕ)). answers_of ls ++ output_of (drop (taken_by ls) s ++ z)) (fitting_all (ended_lines s) k (le_refl k))

-- ---- the run
output_held : (held : List ℕ) → ended_lines held ≡ [] → output_of held ≡ last_of held
unfolding last_of
output_held [] e = output_nothing
output_held (b ∷ s) e = output-last (b ∷ s) e (omega arith)

run_held : (held : List ℕ) (reads : List (List ℕ)) → ended_lines held ≡ [] → output_of (held ++ joined reads) ≡ run_of held reads
unfolding run_of joined
run_held held [] e = ap output_of (append-nil held) ∙ output_held held e
run_held held (r ∷ reads) e =
    let s = held ++ r in
    ap output_of (sym (append_assoc held r (joined reads))) ∙ output_all s (joined reads)
    ∙ ap (λ (v : List ℕ). answers_of (ended_lines s) ++ v)
    (sym (output_kept (left s) (joined reads) (ended_lines-left s)) ∙ run_held (kept (left s)) reads (ended_lines-take max_kept (left s) (ended_lines-left s)))

-- however an input is cut into reads, the answers are those of its lines
pub output_of_reads : (reads : List (List ℕ)) → output_of (joined reads) ≡ run_of [] reads
unfolding ended_lines
output_of_reads reads = run_held [] reads refl
