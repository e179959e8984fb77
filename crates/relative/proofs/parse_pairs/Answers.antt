-- `relative::parse_pairs` meets its contract. The verdict is on the text's pairs, so the cases of `by_pairs` are those of the code.
use Rattle.std.specs.Prelude.{Err, Option}
use Rattle.std.specs.Result.{result_ok}
use Rattle.std.proofs.lemmas.Result.{err_from_is_err_and}
use mathlib.Core.Path.{◌≡◌, sym, ap, ◌∙◌}
use Prim.Native.Nat.{◌≤◌}
use native.Mathlib.Omega.{arith}
use Rattle.time.specs.declared.range.Instant.{Instant}
use Rattle.time.specs.declared.Refusal.TheVariants.{Form}
use Rattle.relative.specs.Steps.{steps}
use Rattle.relative.specs.Relative.{max_pairs, from, by_pairs}
use Rattle.relative.specs.Pairs.{pairs_of}
use Rattle.relative.specs.Held.{answer_of}
use Rattle.relative.proofs.Cases.{pairs_of_counted, counted_of_scanned, by_pairs_of_nothing, by_pairs_of_lt, by_pairs_of_le, from_of_start}
use Rattle.relative.proofs.parse_pairs.Goals as goal

-- 2
pub returns-in_err-number : goal.returns-in_err-number
returns-in_err-number c =
    let scanned = c.scan-scanned.ensures in
    let how_many = counted_of_scanned c.args.s.now scanned.number scanned.known scanned.mark c.verdict.ensures in
    let found = c.in_err-number.ensures in
    let p = err_from_is_err_and c.from_residual.result c.from_residual.ensures.1 in
    let refused = rw found.ok_part at found.value in
    let form : c.in_err-number.field-0.0 ≡ Form = cc in
    p.1 ∙ ap Err (p.2 ∙ form) ∙ sym (by_pairs_of_nothing _ _ _ _ how_many found.ok_part)

-- 5
pub returns-then-number-gt-MAX_PAIRS : goal.returns-then-number-gt-MAX_PAIRS
returns-then-number-gt-MAX_PAIRS c =
    let scanned = c.scan-scanned.ensures in
    let how_many = counted_of_scanned c.args.s.now scanned.number scanned.known scanned.mark c.verdict.ensures in
    sym (by_pairs_of_lt max_pairs _ _ _ how_many c.in_ok-number.ensures.ok_part (omega (arith, c.if-number-gt-MAX_PAIRS.true)))

-- 3 or 4
pub returns-in_err-start : goal.returns-in_err-start
returns-in_err-start c =
    let scanned = c.scan-scanned.ensures in
    let how_many = counted_of_scanned c.args.s.now scanned.number scanned.known scanned.mark c.verdict.ensures in
    let few : by_pairs max_pairs c.args.s.now c.args.current ≡ from c.args.current (pairs_of c.args.s.now) = by_pairs_of_le max_pairs _ _ _ how_many c.in_ok-number.ensures.ok_part (omega (arith, c.if-number-gt-MAX_PAIRS.false)) in
    let p = err_from_is_err_and c.from_residual-in_err-start.result c.from_residual-in_err-start.ensures.1 in
    p.1 ∙ ap Err p.2 ∙ sym (few ∙ from_of_start _ _ _ c.in_err-start.ensures.is)

-- the pairs, from where they start
pub returns : goal.returns
returns c =
    let s = c.args.s.now in
    let scanned = c.scan-scanned.ensures in
    let how_many = counted_of_scanned s scanned.number scanned.known scanned.mark c.verdict.ensures in
    let few : by_pairs max_pairs s c.args.current ≡ from c.args.current (pairs_of s) = by_pairs_of_le max_pairs _ _ _ how_many c.in_ok-number.ensures.ok_part (omega (arith, c.if-number-gt-MAX_PAIRS.false)) in
    let counted = (pairs_of_counted _ _ _ (sym c.verdict.ensures ∙ c.in_ok-number.ensures.ok_part)).1 in
    let within_bound : c.scan-scanned.result.number ≤ max_pairs = omega (arith, c.if-number-gt-MAX_PAIRS.false, counted) in
    let start = c.ok.ensures.value ∙ ap result_ok c.in_ok-start.was in
    c.answer.ensures ∙ scanned.landing within_bound ∙ ap (λ (m : Option Instant). steps (pairs_of s) (answer_of m)) start ∙ sym (few ∙ from_of_start _ _ _ c.in_ok-start.ensures.is)
