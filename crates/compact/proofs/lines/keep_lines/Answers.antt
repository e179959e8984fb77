-- `compact::lines::keep_lines` meets its contract. The invariant: the lines from `at` on are done, those of them that are kept are stored, and
-- every path of a `hull` line among them is found from its bucket. The measure is `at`.
use mathlib.Core.Path.{◌≡◌, sym, ap, ◌∙◌}
use Rattle.std.proofs.Common.{rules}
use mathlib.Core.Bool.{Bool}
use mathlib.Core.List.{List}
use Prim.Native.Nat.{ℕ, ◌-◌, ◌<◌}
use native.Mathlib.Omega.{arith}
use lib.ListN.{take, drop, get_or}
use Rattle.text.specs.Lines.{ended_lines, taken_by}
use Rattle.relative.specs.Relative.{max_pairs}
use Rattle.stamps.proofs.Listings.{good_book_iff}
use Rattle.compact.specs.Held.{path_at, bucket_of, is_overtaken}
use Rattle.compact.proofs.LastLines.{LineBack, line_back}
use Rattle.compact.proofs.Buckets.{bucket_of-lt}
use Rattle.compact.proofs.Keeping.{Keeping, keeping_start, count-le, count-lt, keeping_dropped, keeping_taken, keeping_end}
use Rattle.compact.proofs.lines.keep_lines.Goals as goal

-- the line in front of `at`
line : {book heads links places : List ℕ} {at count size start : ℕ} {s : List ℕ} → Keeping max_pairs book heads links places at count size → 0 < at
    → s ≡ take (at - 1) book → start ≡ taken_by (ended_lines s) → LineBack book at start
line {book} {heads} {links} {places} {at} {count} {size} {start} j some is e =
    line_back book at start some j.within j.whole (e ∙ ap (λ (t : List ℕ). taken_by (ended_lines t)) is)

line_shorter : {book heads links places : List ℕ} {at count size start : ℕ} {s : List ℕ} → Keeping max_pairs book heads links places at count size → 0 < at
    → s ≡ take (at - 1) book → start ≡ taken_by (ended_lines s) → start < at
line_shorter j some is e = omega (arith, (line j some is e).size_is)

-- the line that begins at `start`: the bucket of its path, and whether it is overtaken
module _ (book : List ℕ) (start : ℕ) {text path : List ℕ} {found : ℕ} (text_is : text ≡ drop start book) (path_is : path ≡ path_at text) (found_is : found ≡ bucket_of path) where
  bucket : found ≡ bucket_of (path_at (drop start book))
  bucket = found_is ∙ ap bucket_of (path_is ∙ ap path_at text_is)

  overtaken : (heads links places : List ℕ) {r : Bool} → r ≡ is_overtaken book links places path (get_or heads found 0)
      → is_overtaken book links places (path_at (drop start book)) (get_or heads (bucket_of (path_at (drop start book))) 0) ≡ r
  overtaken heads links places e = sym (e ∙ (λ i. is_overtaken book links places ((path_is ∙ ap path_at text_is) i) (get_or heads (bucket i) 0)))

pub loop-at-init : goal.loop-at-init
loop-at-init c =
    let table = c.args.table.now in
    keeping_start max_pairs c.args.book.now table.heads table.links table.places c.requires.book_value c.requires.empty (omega arith) (search rules) (search rules)

-- a line that is overtaken
pub loop-at-preserved : goal.loop-at-preserved
loop-at-preserved c =
    keeping_dropped c.loop-at.invariant c.requires.book_value c.last_start-start.result (line c.loop-at.invariant c.loop-at-test.true c.up_to.ensures c.last_start-start.ensures)
    (overtaken c.args.book.now c.last_start-start.result c.from.ensures c.path_at-path.ensures c.bucket_of-bucket.ensures.0 c.loop-at.table.heads c.loop-at.table.links c.loop-at.table.places c.is_overtaken.ensures ∙ c.if-not-is_overtaken.false)

-- a line that is kept
pub loop-at-preserved-then-not-is_overtaken : goal.loop-at-preserved-then-not-is_overtaken
loop-at-preserved-then-not-is_overtaken c =
    keeping_taken c.loop-at.invariant c.requires.book_value c.last_start-start.result (line c.loop-at.invariant c.loop-at-test.true c.up_to.ensures c.last_start-start.ensures)
    (overtaken c.args.book.now c.last_start-start.result c.from.ensures c.path_at-path.ensures c.bucket_of-bucket.ensures.0 c.loop-at.table.heads c.loop-at.table.links c.loop-at.table.places c.is_overtaken.ensures ∙ c.if-not-is_overtaken.true)
    c.bucket_of-bucket.result (bucket c.args.book.now c.last_start-start.result c.from.ensures c.path_at-path.ensures c.bucket_of-bucket.ensures.0) bucket_of-lt _ _ _ c.enter.ensures.heads_after c.enter.ensures.links_after
    c.enter.ensures.places_after

pub is_overtaken-requires : goal.is_overtaken-requires
is_overtaken-requires c =
    let j = c.loop-at.invariant in
    let least = j.heads_le c.bucket_of-bucket.result in
    (omega (arith, least, count-le j c.requires.book_value, j.link_places), j.link_places ∙ sym j.place_places, λ k lt. j.down k (omega (arith, least)))

pub enter-requires : goal.enter-requires
enter-requires c =
    let j = c.loop-at.invariant in
    let back = line j c.loop-at-test.true c.up_to.ensures c.last_start-start.ensures in
    let few = count-lt j c.requires.book_value c.last_start-start.result back in (
      omega (arith, back.size_is, j.within, ((good_book_iff max_pairs c.args.book.now).0 c.requires.book_value).0),
      omega (arith, c.bucket_of-bucket.ensures.1, j.head_places),
      omega (arith, few),
      omega (arith, few, j.link_places),
      omega (arith, few, j.place_places),
    )

pub returns : goal.returns
returns c =
    let all = keeping_end c.loop-at.invariant c.requires.book_value (omega (arith, c.loop-at-test.false)) in record { table = all.0; length_value = all.1 }

pub loop-at-smaller : goal.loop-at-smaller
loop-at-smaller c = line_shorter c.loop-at.invariant c.loop-at-test.true c.up_to.ensures c.last_start-start.ensures

pub overflow_sub-length : goal.overflow_sub-length
overflow_sub-length c = omega (arith, line_shorter c.loop-at.invariant c.loop-at-test.true c.up_to.ensures c.last_start-start.ensures)

pub overflow_add-length : goal.overflow_add-length
overflow_add-length c =
    let j = c.loop-at.invariant in record { fits = omega (arith, j.shorter, (line j c.loop-at-test.true c.up_to.ensures c.last_start-start.ensures).size_is) }

pub overflow_add-count : goal.overflow_add-count
overflow_add-count c =
    let j = c.loop-at.invariant in
    record { fits = omega (arith, count-lt j c.requires.book_value c.last_start-start.result (line j c.loop-at-test.true c.up_to.ensures c.last_start-start.ensures)) }

pub loop-at-smaller-then-not-is_overtaken : goal.loop-at-smaller-then-not-is_overtaken
loop-at-smaller-then-not-is_overtaken c = line_shorter c.loop-at.invariant c.loop-at-test.true c.up_to.ensures c.last_start-start.ensures
