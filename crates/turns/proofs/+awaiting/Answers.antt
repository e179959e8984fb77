-- `turns::await_count` and `turns::await_unit`, which call each other, meet their contracts: each goes on as a reading does past its
-- first word (`Rests`), and the rest of the text is shorter.
use Rattle.std.specs.Prelude.{None, Some}
use mathlib.Core.Path.{◌≡◌, ap, ◌∙◌}
use Rattle.text.specs.Places.{part}
use Rattle.relative.specs.Words.{count_of, unit_of}
use Rattle.relative.specs.Pairs.{pairs_from, ago_from}
use Rattle.turns.proofs.Rests.{no_word, first_word, rest_shorter, not-ago, still_awaited}
use Rattle.turns.proofs.+awaiting.Goals as goal

-- ---- `await_count`
-- no word is left
pub await_count-returns-in_default : goal.await_count-returns-in_default
unfolding pairs_from ago_from
await_count-returns-in_default t c = rw (no_word _ c.new.ensures c.in_default.ensures) c.verdict.ensures

-- a count
pub await_count-await_unit-requires : goal.await_count-await_unit-requires
await_count-await_unit-requires t c = (rw (← c.decreases) (rest_shorter _ c.new.ensures c.in-Some.ensures c.from-rest.ensures), tt)

pub await_count-returns-in-Some-count : goal.await_count-returns-in-Some-count
unfolding pairs_from ago_from
await_count-returns-in-Some-count t c =
    let w = part c.args.s.now c.in-Some.span in
    let counts : count_of w ≡ Some c.in-Some-count.count = rw (← c.within-word.ensures, ← c.count.ensures) c.in-Some-count.is in
    rw (first_word _ c.new.ensures c.in-Some.ensures c.from-rest.ensures, not-ago w counts, counts) c.await_unit.ensures

-- another word
pub await_count-await_count-requires : goal.await_count-await_count-requires
await_count-await_count-requires t c = (rw (← c.decreases) (rest_shorter _ c.new.ensures c.in-Some.ensures c.from-rest.ensures), tt)

pub await_count-returns-in-None : goal.await_count-returns-in-None
unfolding pairs_from ago_from
await_count-returns-in-None t c =
    let w = part c.args.s.now c.in-Some.span in
    let no_count : count_of w ≡ None = rw (← c.within-word.ensures, ← c.count.ensures) c.in-None.is in
    rw (first_word _ c.new.ensures c.in-Some.ensures c.from-rest.ensures, still_awaited w no_count, ← c.within-word.ensures) (c.await_count.ensures ∙ c.pass_over.ensures _ _)

-- ---- `await_unit`
-- no word is left
pub await_unit-returns-in_default : goal.await_unit-returns-in_default
unfolding pairs_from ago_from
await_unit-returns-in_default t c = rw (no_word _ c.new.ensures c.in_default.ensures) c.verdict.ensures

-- the unit
pub await_unit-await_count-requires : goal.await_unit-await_count-requires
await_unit-await_count-requires t c = (rw (← c.decreases) (rest_shorter _ c.new.ensures c.in-Some.ensures c.from-rest.ensures), tt)

pub await_unit-returns : goal.await_unit-returns
unfolding pairs_from ago_from
await_unit-returns t c =
    let is_unit : c.unit-unit.result ≡ unit_of (part c.args.s.now c.in-Some.span) = c.unit-unit.ensures ∙ ap unit_of c.within.ensures in
    rw (first_word _ c.new.ensures c.in-Some.ensures c.from-rest.ensures, ← is_unit) (c.await_count.ensures ∙ c.with_pair.ensures _ _)
