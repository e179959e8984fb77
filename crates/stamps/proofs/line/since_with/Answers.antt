-- `stamps::line::since_with` meets its contract: an offset that 32 bits hold stays what it is.
use Rattle.std.specs.Prelude.{Option, Some, None, Result, Ok, Err}
use Rattle.std.specs.Result.{result_ok}
use mathlib.Core.Path.{◌≡◌, refl, sym, ap, ◌∙◌}
use mathlib.Core.List.{List}
use mir.Syntax.{w32, w64}
use mir.Val.{SFits}
use mir.ValLaws.{to_z-of_z}
use Prim.Native.Nat.{ℕ, ◌+◌, ◌-◌, ◌^◌}
use native.Mathlib.Omega.{arith}
use lib.IntN.{ℤ, pos, negsuc}
use lib.ListN.{length, drop, length-drop}
use lib.Seq.{length-take-le}
use Rattle.ints.specs.Range.{In}
use Rattle.ints.proofs.Machine.{known, read, fits}
use Rattle.text.specs.Number.{fit_signed}
use Rattle.time.specs.Answers.{time_at}
use Rattle.time.specs.declared.Refusal.{Refusal}
use Rattle.time.specs.declared.Time.{Time}
use Rattle.relative.specs.Relative.{max_pairs}
use Rattle.stamps.specs.Lines.{since_at}
use Rattle.stamps.specs.Held.{part_from}
use Rattle.stamps.specs.declared.line.Line.{Line}
use Rattle.stamps.specs.declared.line.Line.TheVariants.{Since}
use Rattle.stamps.proofs.Stamps.{In_of_fit_signed}
use Rattle.stamps.proofs.SinceLines.{since_at_is}
use borrow.Author.Rules.{rules}
use Rattle.stamps.proofs.line.since_with.Goals as goal

offset_in : (x : Option ℤ) (o : ℤ) → fit_signed (2 ^ 31) x ≡ x → x ≡ Some o → In (negsuc (2 ^ 31 - 1)) (pos (2 ^ 31 - 1)) o
offset_in x o f e = In_of_fit_signed (2 ^ 31) x o (f ∙ e)

-- the line, by the time that was read
abbrev since_line_at : List ℕ → Time → Option Time → Option Line
since_line_at text current (Some t) = Some (Since (record { text = record { start = 6; end = 6 + length text }; current = current; cut_off = t }))
since_line_at text current None = None

since_at-ok : (text : List ℕ) (current : Time) (r : Result Time Refusal) → since_line_at text current (result_ok r) ≡ since_at text current r
since_at-ok text current (Ok t) = refl
since_at-ok text current (Err e) = refl

pub overflow_cast-o : goal.overflow_cast-o
overflow_cast-o c = fits w32 tt (known w64 tt (offset_in _ _ c.requires.le_text_end.2 c.in_ok-o.was))

-- the text is not read
pub returns-in_err-cut_off : goal.returns-in_err-cut_off
returns-in_err-cut_off c =
    let z : SFits w64 c.in_ok-z.z = search rules in
    let o = read w32 tt (known w64 tt (offset_in _ _ c.requires.le_text_end.2 c.in_ok-o.was)) in
    let new : c.new-current.result ≡ time_at c.in_ok-z.z c.in_ok-o.o = c.new-current.ensures ∙ λ j. time_at (to_z-of_z w64 c.in_ok-z.z z j) (o.is j) in
    let r = since_at-ok (part_from c.args.s.now 6 c.args.text_end) c.new-current.result c.parse_with.result ∙ since_at_is max_pairs _ _ _ _ _ _ _ c.in_ok-z.was c.in_ok-o.was new c.parse_with.ensures in
    rw c.from_residual-in_err-cut_off.ensures (sym (ap (since_line_at (part_from c.args.s.now 6 c.args.text_end) c.new-current.result) (sym c.ok.ensures.value ∙ c.in_err-cut_off.was)) ∙ r)

-- the text is read: the cut-off is its time
pub returns : goal.returns
returns c =
    let s = c.args.s.now in
    let e = c.args.text_end in
    let z : SFits w64 c.in_ok-z.z = search rules in
    let o = read w32 tt (known w64 tt (offset_in _ _ c.requires.le_text_end.2 c.in_ok-o.was)) in
    let new : c.new-current.result ≡ time_at c.in_ok-z.z c.in_ok-o.o = c.new-current.ensures ∙ λ j. time_at (to_z-of_z w64 c.in_ok-z.z z j) (o.is j) in
    let r = since_at-ok (part_from s 6 e) c.new-current.result c.parse_with.result ∙ since_at_is max_pairs _ _ _ _ _ _ _ c.in_ok-z.was c.in_ok-o.was new c.parse_with.ensures in
    let l : e ≡ 6 + length (part_from s 6 e) = omega (arith, length-take-le (e - 6) (drop 6 s) (omega (arith, length-drop 6 s, c.requires.le_text_end.1)), c.requires.le_text_end.0) in
    (λ i. Some (Since (record { text = record { start = 6; end = l i }; current = c.new-current.result; cut_off = c.in_ok-cut_off.cut_off })))
    ∙ sym (ap (since_line_at (part_from s 6 e) c.new-current.result) (sym c.ok.ensures.value ∙ c.in_ok-cut_off.was)) ∙ r
