-- `stamps::book::copy_marked` meets its contract. The invariant: the marked lines from `at` on, put behind the bytes that are
-- written, give the answer. The measure is what is left.
use Rattle.stamps.proofs.Marks.{copying_fits, copying_again, copying_end}
use Rattle.stamps.proofs.book.copy_marked.Goals as goal

-- the line fits
pub put_part-written-requires : goal.put_part-written-requires
put_part-written-requires c = copying_fits c.loop-at.invariant _ _ _ _ _ c.from-rest.ensures c.loop-at-test.true c.first_place-size.ensures.0
    c.is_marked.ensures c.size_if.ensures c.up_to-line.ensures

pub loop-at-preserved : goal.loop-at-preserved
loop-at-preserved c = copying_again c.loop-at.invariant _ _ _ _ _ c.from-rest.ensures c.loop-at-test.true c.first_place-size.ensures.0
    c.is_marked.ensures c.size_if.ensures c.up_to-line.ensures _ _ c.put_part-written.ensures.value c.put_part-written.ensures.room_after

pub returns : goal.returns
returns c = copying_end c.loop-at.invariant c.loop-at-test.false c.requires.book_in_bounds
