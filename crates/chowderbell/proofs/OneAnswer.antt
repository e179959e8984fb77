-- RULES 12.5: two answers that meet the contract of a public call are equal. Each statement is about the contract itself: `Post` is what
-- the `ensures` lines of a call say, in the form that the proofs of its callers use. At exit `e.0` is the first parameter, `e.1.0` the
-- second, `e.1.1.0` the third. In order: times; writers; readers; books of stamps; a month's strip; the entries for C; lists of two machines; the calendar; the number at the
-- start of a text. Not here: the other calls of `text`, each of which has an equation for its result, and `lines`.
-- Assumes nothing.
use Rattle.std.specs.Prelude.{Result}
use mathlib.Core.Path.{◌≡◌}
use mathlib.Core.List.{List}
use Prim.Native.Nat.{ℕ}
use lib.IntN.{ℤ}
use Rattle.calendar.proofs.Walk.{IsMonths-unique}
pub use Rattle.calendar.proofs.WholeTable.{month_table_whole_unique}
use Rattle.dates.specs.OneAnswer.{OneAnswer, OneAnswerAnd}
use Rattle.dates.proofs.Contracts.{one_answer}
use Rattle.chowderbell.specs.Entries.{HandedOut, HandedMarked, HandedLength, HandedCheck, HandedCopy}
use Rattle.time.specs.declared.Refusal.{Refusal}
use Rattle.time.specs.declared.Time.{Time}
use Rattle.time.specs.declared.buf.TimeBuf.{TimeBuf}
use Rattle.stamps.specs.declared.book.BookError.{BookError}
use Rattle.time.proofs.Time.new.Reads as time-new
use Rattle.time.proofs.Time.with_mark.Reads as time-with-mark
use Rattle.time.proofs.Time.smallest.Reads as smallest
use Rattle.time.proofs.Time.largest.Reads as largest
use Rattle.time.proofs.Time.size.Reads as time-size
use Rattle.time.proofs.Time.count_positive_digits.Reads as count-positive-digits
use Rattle.time.proofs.U8FromRefusal.from.Reads as number-of
use Rattle.time.proofs.buf.widest.Reads as widest
use Rattle.time.proofs.buf.to_str.Reads as to-str
use Rattle.time.proofs.range.instant_of.Reads as instant-of
use Rattle.time.proofs.range.time_of.Reads as time-of
use Rattle.time.proofs.range.in_range.Reads as in-range
use Rattle.time.proofs.range.seconds_in_range.Reads as seconds-in-range
use Rattle.time.proofs.Time.write_to.Reads as write-to
use Rattle.time.proofs.Time.write_iso.Reads as write-iso
use Rattle.time.proofs.Time.write_iso_with.Reads as write-iso-with
use Rattle.header.proofs.parse_header.Reads as parse-header
use Rattle.header.proofs.parse_header_marked.Reads as parse-header-marked
use Rattle.header.proofs.raw.parse_raw.Reads as parse-raw
use Rattle.header.proofs.raw.parse_raw_marked.Reads as parse-raw-marked
use Rattle.header.proofs.raw.parse_raw_by.Reads as parse-raw-by
use Rattle.iso.proofs.parse_git_date_format.Reads as parse-git-date-format
use Rattle.iso.proofs.parse_git_date_format_with.Reads as parse-git-date-format-with
use Rattle.relative.proofs.parse.Reads as relative-parse
use Rattle.relative.proofs.parse_with.Reads as relative-parse-with
use Rattle.relative.proofs.parse_named.Reads as relative-parse-named
use Rattle.relative.proofs.pair_before.Reads as relative-pair-before
use Rattle.relative.proofs.is_known.Reads as relative-is-known
use Rattle.relative.proofs.words.count.Reads as relative-count
use Rattle.relative.proofs.words.unit.Reads as relative-unit
use Rattle.turns.proofs.parse.Reads as turns-parse
use Rattle.dates.proofs.parse.Reads as dates-parse
use Rattle.dates.proofs.parse_with.Reads as dates-parse-with
use Rattle.dates.proofs.parse_by.Reads as dates-parse-by
use Rattle.dates.proofs.parse_by_with.Reads as dates-parse-by-with
use Rattle.stamps.proofs.line.read.Reads as line-read
use Rattle.stamps.proofs.line.read_with.Reads as line-read-with
use Rattle.stamps.proofs.write.write_hull.Reads as write-hull
use Rattle.stamps.proofs.write.write_since.Reads as write-since
use Rattle.stamps.proofs.write.write_since_with.Reads as write-since-with
use Rattle.stamps.proofs.book.check.Reads as book-check
use Rattle.stamps.proofs.book.check_with.Reads as book-check-with
use Rattle.stamps.proofs.book.list.Reads as book-list
use Rattle.stamps.proofs.book.list_with.Reads as book-list-with
use Rattle.compact.proofs.compact.Reads as book-compact
use Rattle.compact.proofs.compact_with.Reads as book-compact-with
use Rattle.stamps.proofs.book.good_run_with.Reads as good-run-with
use Rattle.salvage.proofs.salvage.Reads as salvage
use Rattle.salvage.proofs.salvage_with.Reads as salvage-with
use Rattle.merge.proofs.fronts.earlier.Reads as fronts-earlier
use Rattle.merge.proofs.fronts.check.Reads as fronts-check
use Rattle.merge.proofs.lists.check.Reads as lists-check
use Rattle.merge.proofs.merge.Reads as lists-merge
use Rattle.strip.proofs.of_month.Reads as of-month
use Rattle.strip.proofs.of_month_with.Reads as of-month-with
use Rattle.strip.proofs.write.write_month.Reads as write-month
use Rattle.strip.proofs.write.write_month_with.Reads as write-month-with
use Rattle.chowderbell.proofs.times.chowderbell_header.Reads as chowderbell-header
use Rattle.chowderbell.proofs.times.chowderbell_header_marked.Reads as chowderbell-header-marked
use Rattle.chowderbell.proofs.times.chowderbell_raw.Reads as chowderbell-raw
use Rattle.chowderbell.proofs.times.chowderbell_raw_by.Reads as chowderbell-raw-by
use Rattle.chowderbell.proofs.times.chowderbell_raw_marked.Reads as chowderbell-raw-marked
use Rattle.chowderbell.proofs.times.chowderbell_iso.Reads as chowderbell-iso
use Rattle.chowderbell.proofs.times.chowderbell_relative.Reads as chowderbell-relative
use Rattle.chowderbell.proofs.times.chowderbell_relative_turns.Reads as chowderbell-relative-turns
use Rattle.chowderbell.proofs.times.chowderbell_any.Reads as chowderbell-any
use Rattle.chowderbell.proofs.times.chowderbell_any_by.Reads as chowderbell-any-by
use Rattle.chowderbell.proofs.times.chowderbell_any_marked.Reads as chowderbell-any-marked
use Rattle.chowderbell.proofs.times.chowderbell_size.Reads as chowderbell-size
use Rattle.chowderbell.proofs.times.chowderbell_write_header.Reads as chowderbell-write-header
use Rattle.chowderbell.proofs.times.chowderbell_write_header_marked.Reads as chowderbell-write-header-marked
use Rattle.chowderbell.proofs.times.chowderbell_write_iso.Reads as chowderbell-write-iso
use Rattle.chowderbell.proofs.book.chowderbell_book_check.Reads as chowderbell-book-check
use Rattle.chowderbell.proofs.book.chowderbell_book_list.Reads as chowderbell-book-list
use Rattle.chowderbell.proofs.book.chowderbell_book_compact.Reads as chowderbell-book-compact
use Rattle.chowderbell.proofs.lists.chowderbell_fronts_check.Reads as chowderbell-fronts-check
use Rattle.chowderbell.proofs.lists.chowderbell_fronts_earlier.Reads as chowderbell-fronts-earlier
use Rattle.chowderbell.proofs.book.chowderbell_book_salvage.Reads as chowderbell-book-salvage
use Rattle.chowderbell.proofs.lists.chowderbell_lists_merge.Reads as chowderbell-lists-merge
use Rattle.chowderbell.proofs.month.chowderbell_strip.Reads as chowderbell-strip
use Rattle.calendar.proofs.months.Reads as months
use Rattle.calendar.proofs.MonthTable.none.Reads as month-table-none
use Rattle.calendar.proofs.MonthTable.of.Reads as month-table-of
use Rattle.calendar.proofs.MonthTable.first_day.Reads as first-day
use Rattle.calendar.proofs.MonthTable.month_length.Reads as month-length
use Rattle.calendar.proofs.MonthTable.date_of.Reads as date-of
use Rattle.calendar.proofs.MonthTable.day_of.Reads as day-of
use Rattle.calendar.proofs.MonthTable.day_number.Reads as day-number
use Rattle.calendar.proofs.MonthTable.months_back.Reads as months-back
use Rattle.text.proofs.number.leading_integer.Reads as leading-integer

-- ---- a time, its size, the number of a refusal, a buffer by value, the range
pub time_new_unique : OneAnswer time-new.Post
time_new_unique κ a r s e f = one_answer

pub time_with_mark_unique : OneAnswer time-with-mark.Post
time_with_mark_unique κ a r s e f = one_answer

pub smallest_unique : OneAnswer smallest.Post
smallest_unique κ a r s e f = one_answer

pub largest_unique : OneAnswer largest.Post
largest_unique κ a r s e f = one_answer

pub time_size_unique : OneAnswer time-size.Post
time_size_unique κ a r s e f p q = one_answer p.0 q.0

pub count_positive_digits_unique : OneAnswer count-positive-digits.Post
count_positive_digits_unique κ a r s e f p q = one_answer p.0 q.0

pub number_of_unique : OneAnswer number-of.Post
number_of_unique κ a r s e f = one_answer

pub widest_unique : OneAnswer widest.Post
widest_unique κ a r s e f = one_answer

pub to_str_unique : OneAnswerAnd to-str.Post TimeBuf (λ κ e. e.1.0.now)
to_str_unique κ a r s e f p q = (one_answer p.0 q.0, one_answer p.1 q.1)

pub instant_of_unique : OneAnswer instant-of.Post
instant_of_unique κ a r s e f p q = one_answer p.0 q.0

pub time_of_unique : OneAnswer time-of.Post
time_of_unique κ a r s e f = one_answer

pub in_range_unique : OneAnswer in-range.Post
in_range_unique κ a r s e f = one_answer

pub seconds_in_range_unique : OneAnswer seconds-in-range.Post
seconds_in_range_unique κ a r s e f = one_answer

-- ---- the writers: what they return, and every byte of the room
pub write_to_unique : OneAnswerAnd write-to.Post (List ℕ) (λ κ e. e.1.0.now)
write_to_unique κ a r s e f p q = (one_answer p.0 q.0, one_answer p.1 q.1)

pub write_iso_unique : OneAnswerAnd write-iso.Post (List ℕ) (λ κ e. e.1.0.now)
write_iso_unique κ a r s e f p q = (one_answer p.0 q.0, one_answer p.1 q.1)

pub write_iso_with_unique : OneAnswerAnd write-iso-with.Post (List ℕ) (λ κ e. e.1.1.0.now)
write_iso_with_unique κ a r s e f p q = (one_answer p.0 q.0, one_answer p.1 q.1)

-- ---- the readers
pub parse_header_unique : OneAnswer parse-header.Post
parse_header_unique κ a r s e f = one_answer

pub parse_header_marked_unique : OneAnswer parse-header-marked.Post
parse_header_marked_unique κ a r s e f = one_answer

pub parse_raw_unique : OneAnswer parse-raw.Post
parse_raw_unique κ a r s e f = one_answer

pub parse_raw_marked_unique : OneAnswer parse-raw-marked.Post
parse_raw_marked_unique κ a r s e f = one_answer

pub parse_raw_by_unique : OneAnswer parse-raw-by.Post
parse_raw_by_unique κ a r s e f = one_answer

pub parse_git_date_format_unique : OneAnswer parse-git-date-format.Post
parse_git_date_format_unique κ a r s e f = one_answer

pub parse_git_date_format_with_unique : OneAnswer parse-git-date-format-with.Post
parse_git_date_format_with_unique κ a r s e f = one_answer

pub relative_parse_unique : OneAnswer relative-parse.Post
relative_parse_unique κ a r s e f = one_answer

pub relative_parse_with_unique : OneAnswer relative-parse-with.Post
relative_parse_with_unique κ a r s e f = one_answer

pub relative_parse_named_unique : OneAnswer relative-parse-named.Post
relative_parse_named_unique κ a r s e f = one_answer

pub relative_pair_before_unique : OneAnswer relative-pair-before.Post
relative_pair_before_unique κ a r s e f = one_answer

pub relative_is_known_unique : OneAnswer relative-is-known.Post
relative_is_known_unique κ a r s e f = one_answer

pub relative_count_unique : OneAnswer relative-count.Post
relative_count_unique κ a r s e f = one_answer

pub relative_unit_unique : OneAnswer relative-unit.Post
relative_unit_unique κ a r s e f = one_answer

pub turns_parse_unique : OneAnswer turns-parse.Post
turns_parse_unique κ a r s e f = one_answer

pub dates_parse_unique : OneAnswer dates-parse.Post
dates_parse_unique κ a r s e f = one_answer

pub dates_parse_with_unique : OneAnswer dates-parse-with.Post
dates_parse_with_unique κ a r s e f = one_answer

pub dates_parse_by_unique : OneAnswer dates-parse-by.Post
dates_parse_by_unique κ a r s e f = one_answer

pub dates_parse_by_with_unique : OneAnswer dates-parse-by-with.Post
dates_parse_by_with_unique κ a r s e f = one_answer

-- ---- books of stamps: a line read, a line written with every byte of the room, a book checked, a book listed with every byte of the room
pub line_read_unique : OneAnswer line-read.Post
line_read_unique κ a r s e f = one_answer

pub line_read_with_unique : OneAnswer line-read-with.Post
line_read_with_unique κ a r s e f = one_answer

pub write_hull_unique : OneAnswerAnd write-hull.Post (List ℕ) (λ κ e. e.1.1.1.0.now)
write_hull_unique κ a r s e f p q = (one_answer p.0 q.0, one_answer p.1 q.1)

pub write_since_unique : OneAnswerAnd write-since.Post (List ℕ) (λ κ e. e.1.1.0.now)
write_since_unique κ a r s e f p q = (one_answer p.0 q.0, one_answer p.1 q.1)

pub write_since_with_unique : OneAnswerAnd write-since-with.Post (List ℕ) (λ κ e. e.1.1.1.0.now)
write_since_with_unique κ a r s e f p q = (one_answer p.0 q.0, one_answer p.1 q.1)

pub book_check_unique : OneAnswer book-check.Post
book_check_unique κ a r s e f = one_answer

pub book_check_with_unique : OneAnswer book-check-with.Post
book_check_with_unique κ a r s e f = one_answer

pub book_list_unique : OneAnswerAnd book-list.Post (List ℕ) (λ κ e. e.1.0.now)
book_list_unique κ a r s e f p q = (one_answer p.0 q.0, one_answer p.1 q.1)

pub book_list_with_unique : OneAnswerAnd book-list-with.Post (List ℕ) (λ κ e. e.1.1.0.now)
book_list_with_unique κ a r s e f p q = (one_answer p.0 q.0, one_answer p.1 q.1)

pub book_compact_unique : OneAnswerAnd book-compact.Post (List ℕ) (λ κ e. e.1.0.now)
book_compact_unique κ a r s e f p q = (one_answer p.0 q.0, one_answer p.1 q.1)

pub book_compact_with_unique : OneAnswerAnd book-compact-with.Post (List ℕ) (λ κ e. e.1.1.0.now)
book_compact_with_unique κ a r s e f p q = (one_answer p.0 q.0, one_answer p.1 q.1)

-- ---- a month's strip: by value, and written with every byte of the room
pub of_month_unique : OneAnswer of-month.Post
of_month_unique κ a r s e f = one_answer

pub of_month_with_unique : OneAnswer of-month-with.Post
of_month_with_unique κ a r s e f = one_answer

pub write_month_unique : OneAnswerAnd write-month.Post (List ℕ) (λ κ e. e.1.1.0.now)
write_month_unique κ a r s e f p q = (one_answer p.0 q.0, one_answer p.1 q.1)

pub write_month_with_unique : OneAnswerAnd write-month-with.Post (List ℕ) (λ κ e. e.1.1.1.0.now)
write_month_with_unique κ a r s e f p q = (one_answer p.0 q.0, one_answer p.1 q.1)

-- ---- the readers for C: the number returned, and the seconds and the offset stored
HandedOut-unique : {a : Result Time Refusal} {n m : ℕ} {s t o u : ℤ} → HandedOut a n s o → HandedOut a m t u → (n ≡ m) × ◌≡◌ {A = ℤ × ℤ} (s, o) (t, u)
HandedOut-unique p q =
    (one_answer p.number_is q.number_is, λ i. (one_answer p.seconds_is q.seconds_is i, one_answer p.offset_is q.offset_is i))

pub chowderbell_header_unique : OneAnswerAnd chowderbell-header.Post (ℤ × ℤ) (λ κ e. (e.1.0.now, e.1.1.0.now))
chowderbell_header_unique κ a r s e f = HandedOut-unique

pub chowderbell_raw_unique : OneAnswerAnd chowderbell-raw.Post (ℤ × ℤ) (λ κ e. (e.1.0.now, e.1.1.0.now))
chowderbell_raw_unique κ a r s e f = HandedOut-unique

pub chowderbell_raw_by_unique : OneAnswerAnd chowderbell-raw-by.Post (ℤ × ℤ) (λ κ e. (e.1.1.0.now, e.1.1.1.0.now))
chowderbell_raw_by_unique κ a r s e f = HandedOut-unique

pub chowderbell_iso_unique : OneAnswerAnd chowderbell-iso.Post (ℤ × ℤ) (λ κ e. (e.1.0.now, e.1.1.0.now))
chowderbell_iso_unique κ a r s e f = HandedOut-unique

pub chowderbell_relative_unique : OneAnswerAnd chowderbell-relative.Post (ℤ × ℤ) (λ κ e. (e.1.1.1.1.0.now, e.1.1.1.1.1.0.now))
chowderbell_relative_unique κ a r s e f = HandedOut-unique

pub chowderbell_relative_turns_unique : OneAnswerAnd chowderbell-relative-turns.Post (ℤ × ℤ) (λ κ e. (e.1.1.1.1.0.now, e.1.1.1.1.1.0.now))
chowderbell_relative_turns_unique κ a r s e f = HandedOut-unique

pub chowderbell_any_unique : OneAnswerAnd chowderbell-any.Post (ℤ × ℤ) (λ κ e. (e.1.1.1.1.0.now, e.1.1.1.1.1.0.now))
chowderbell_any_unique κ a r s e f = HandedOut-unique

pub chowderbell_any_by_unique : OneAnswerAnd chowderbell-any-by.Post (ℤ × ℤ) (λ κ e. (e.1.1.1.1.1.0.now, e.1.1.1.1.1.1.0.now))
chowderbell_any_by_unique κ a r s e f = HandedOut-unique

-- with the mark stored too
HandedMarked-unique : {a : Result Time Refusal} {n m k l : ℕ} {s t o u : ℤ} → HandedMarked a n s o k → HandedMarked a m t u l → (n ≡ m) × ◌≡◌ {A = (ℤ × ℤ) × ℕ} ((s, o), k) ((t, u), l)
HandedMarked-unique p q =
    let h = HandedOut-unique p.handed_out q.handed_out in
    (h.0, λ i. (h.1 i, one_answer p.mark_is q.mark_is i))

pub chowderbell_header_marked_unique : OneAnswerAnd chowderbell-header-marked.Post ((ℤ × ℤ) × ℕ) (λ κ e. ((e.1.0.now, e.1.1.0.now), e.1.1.1.0.now))
chowderbell_header_marked_unique κ a r s e f = HandedMarked-unique

pub chowderbell_raw_marked_unique : OneAnswerAnd chowderbell-raw-marked.Post ((ℤ × ℤ) × ℕ) (λ κ e. ((e.1.1.0.now, e.1.1.1.0.now), e.1.1.1.1.0.now))
chowderbell_raw_marked_unique κ a r s e f = HandedMarked-unique

pub chowderbell_any_marked_unique : OneAnswerAnd chowderbell-any-marked.Post ((ℤ × ℤ) × ℕ) (λ κ e. ((e.1.1.1.1.1.0.now, e.1.1.1.1.1.1.0.now), e.1.1.1.1.1.1.1.0.now))
chowderbell_any_marked_unique κ a r s e f = HandedMarked-unique

-- ---- the size and the writers for C: the number returned, the length stored, and every byte of the room
written_unique : {w : Result ℕ Refusal} {n m k l : ℕ} {t u b : List ℕ} → HandedLength w n k × (t ≡ b) → HandedLength w m l × (u ≡ b) → (n ≡ m) × ◌≡◌ {A = ℕ × List ℕ} (k, t) (l, u)
written_unique p q =
    (one_answer p.0.number_is q.0.number_is, λ i. (one_answer p.0.length_is q.0.length_is i, one_answer p.1 q.1 i))

pub chowderbell_size_unique : OneAnswer chowderbell-size.Post
chowderbell_size_unique κ a r s e f = one_answer

pub chowderbell_write_header_unique : OneAnswerAnd chowderbell-write-header.Post (ℕ × List ℕ) (λ κ e. (e.1.1.1.0.now, e.1.1.0.now))
chowderbell_write_header_unique κ a r s e f = written_unique

pub chowderbell_write_header_marked_unique : OneAnswerAnd chowderbell-write-header-marked.Post (ℕ × List ℕ) (λ κ e. (e.1.1.1.1.0.now, e.1.1.1.0.now))
chowderbell_write_header_marked_unique κ a r s e f = written_unique

pub chowderbell_write_iso_unique : OneAnswerAnd chowderbell-write-iso.Post (ℕ × List ℕ) (λ κ e. (e.1.1.1.0.now, e.1.1.0.now))
chowderbell_write_iso_unique κ a r s e f = written_unique

pub chowderbell_strip_unique : OneAnswerAnd chowderbell-strip.Post (ℕ × List ℕ) (λ κ e. (e.1.1.1.0.now, e.1.1.0.now))
chowderbell_strip_unique κ a r s e f = written_unique

-- ---- a book for C: the number returned, the length and the line stored, and every byte of the room
HandedCheck-unique : {c : Result (Unit {0}) BookError} {n m k l : ℕ} → HandedCheck c n k → HandedCheck c m l → (n ≡ m) × (k ≡ l)
HandedCheck-unique p q = (one_answer p.number_is q.number_is, one_answer p.line_is q.line_is)

HandedCopy-unique : {w : Result ℕ BookError} {n m k l i j : ℕ} {t u b : List ℕ} → HandedCopy w n k i × (t ≡ b) → HandedCopy w m l j × (u ≡ b) → (n ≡ m) × ◌≡◌ {A = (ℕ × ℕ) × List ℕ} ((k, i), t) ((l, j), u)
HandedCopy-unique p q =
    (one_answer p.0.number_is q.0.number_is, λ i. ((one_answer p.0.length_is q.0.length_is i, one_answer p.0.line_is q.0.line_is i), one_answer p.1 q.1 i))

pub chowderbell_book_check_unique : OneAnswerAnd chowderbell-book-check.Post ℕ (λ κ e. e.1.0.now)
chowderbell_book_check_unique κ a r s e f = HandedCheck-unique

pub chowderbell_book_list_unique : OneAnswerAnd chowderbell-book-list.Post ((ℕ × ℕ) × List ℕ) (λ κ e. ((e.1.1.0.now, e.1.1.1.0.now), e.1.0.now))
chowderbell_book_list_unique κ a r s e f = HandedCopy-unique

pub salvage_unique : OneAnswerAnd salvage.Post (List ℕ × List ℕ) (λ κ e. (e.1.0.now, e.1.1.0.now))
salvage_unique κ a r s e f p q = (one_answer p.0 q.0, λ i. (one_answer p.1.0 q.1.0 i, one_answer p.1.1 q.1.1 i))

pub salvage_with_unique : OneAnswerAnd salvage-with.Post (List ℕ × List ℕ) (λ κ e. (e.1.1.0.now, e.1.1.1.0.now))
salvage_with_unique κ a r s e f p q = (one_answer p.0 q.0, λ i. (one_answer p.1.0 q.1.0 i, one_answer p.1.1 q.1.1 i))

pub chowderbell_book_salvage_unique : OneAnswerAnd chowderbell-book-salvage.Post ((ℕ × ℕ) × ℕ × (List ℕ × List ℕ))
    (λ κ e. ((e.1.1.1.0.now, e.1.1.1.1.0.now), e.1.1.1.1.1.0.now, (e.1.0.now, e.1.1.0.now)))
chowderbell_book_salvage_unique κ a r s e f p q = (
  one_answer p.0.number_is q.0.number_is,
  λ i. (
    (one_answer p.0.book_is q.0.book_is i, one_answer p.0.report_is q.0.report_is i),
    one_answer p.0.last_is q.0.last_is i,
    (one_answer p.1.0 q.1.0 i, one_answer p.1.1 q.1.1 i),
  ),
)

pub good_run_with_unique : OneAnswer good-run-with.Post
good_run_with_unique κ a r s e f p q = λ i. record { bad = one_answer p.0 q.0 i; end = one_answer p.1 q.1 i }

pub chowderbell_book_compact_unique : OneAnswerAnd chowderbell-book-compact.Post ((ℕ × ℕ) × List ℕ) (λ κ e. ((e.1.1.0.now, e.1.1.1.0.now), e.1.0.now))
chowderbell_book_compact_unique κ a r s e f = HandedCopy-unique

-- ---- the lists of two machines, in Rattle and for C: what is returned and stored, and every byte of both rooms
-- a part of a caller's slice is fixed by its bytes
pub fronts_earlier_unique : (κ : _) (a : _) (r s : _) (e f : _) → fronts-earlier.Post κ a r e → fronts-earlier.Post κ a s f → r.now ≡ s.now
fronts_earlier_unique κ a r s e f = one_answer

pub fronts_check_unique : OneAnswer fronts-check.Post
fronts_check_unique κ a r s e f = one_answer

pub lists_check_unique : OneAnswer lists-check.Post
lists_check_unique κ a r s e f = one_answer

pub lists_merge_unique : OneAnswerAnd lists-merge.Post (List ℕ × List ℕ) (λ κ e. (e.1.1.0.now, e.1.1.1.0.now))
lists_merge_unique κ a r s e f p q = (one_answer p.0 q.0, λ i. (one_answer p.1.0 q.1.0 i, one_answer p.1.1 q.1.1 i))

pub chowderbell_fronts_check_unique : OneAnswerAnd chowderbell-fronts-check.Post (ℕ × ℕ) (λ κ e. (e.1.1.0.now, e.1.1.1.0.now))
chowderbell_fronts_check_unique κ a r s e f p q =
    (one_answer p.number_is q.number_is, λ i. (one_answer p.machine_is q.machine_is i, one_answer p.line_is q.line_is i))

pub chowderbell_fronts_earlier_unique : OneAnswerAnd chowderbell-fronts-earlier.Post ℕ (λ κ e. e.1.1.0.now)
chowderbell_fronts_earlier_unique κ a r s e f p q = (one_answer p.0 q.0, one_answer p.1 q.1)

pub chowderbell_lists_merge_unique : OneAnswerAnd chowderbell-lists-merge.Post ((ℕ × ℕ) × (ℕ × ℕ) × (List ℕ × List ℕ))
    (λ κ e. ((e.1.1.1.1.0.now, e.1.1.1.1.1.0.now), (e.1.1.1.1.1.1.0.now, e.1.1.1.1.1.1.1.0.now), (e.1.1.0.now, e.1.1.1.0.now)))
chowderbell_lists_merge_unique κ a r s e f p q = (
  one_answer p.0.number_is q.0.number_is,
  λ i. (
    (one_answer p.0.book_is q.0.book_is i, one_answer p.0.report_is q.0.report_is i),
    (one_answer p.0.machine_is q.0.machine_is i, one_answer p.0.line_is q.0.line_is i),
    (one_answer p.1.0 q.1.0 i, one_answer p.1.1 q.1.1 i),
  ),
)

-- ---- the calendar
pub months_unique : OneAnswer months.Post
months_unique κ a r s e f p q = IsMonths-unique (one_answer p.1 q.1) p.0 q.0

-- a table of months is fixed by its entries; *month_table_whole_unique* is the calendar's own
pub month_table_none_unique : (κ : _) (a : _) (r s : _) (e f : _) → month-table-none.Post κ a r e → month-table-none.Post κ a s f → r.table.now ≡ s.table.now
month_table_none_unique κ a r s e f = one_answer

pub month_table_of_unique : (κ : _) (a : _) (r s : _) (e f : _) → month-table-of.Post κ a r e → month-table-of.Post κ a s f → r.table.now ≡ s.table.now
month_table_of_unique κ a r s e f = one_answer

pub first_day_unique : OneAnswer first-day.Post
first_day_unique κ a r s e f p q = one_answer p.0 q.0

pub month_length_unique : OneAnswer month-length.Post
month_length_unique κ a r s e f p q = one_answer p.0 q.0

pub date_of_unique : OneAnswer date-of.Post
date_of_unique κ a r s e f p q = one_answer p.0 q.0

pub day_of_unique : OneAnswer day-of.Post
day_of_unique κ a r s e f p q = one_answer p.0 q.0

pub day_number_unique : OneAnswer day-number.Post
day_number_unique κ a r s e f p q = one_answer p.0 q.0

pub months_back_unique : OneAnswer months-back.Post
months_back_unique κ a r s e f p q = one_answer p.0 q.0

-- ---- the number at the start of a text
pub leading_integer_unique : OneAnswer leading-integer.Post
leading_integer_unique κ a r s e f p q =
    λ i. record { number = one_answer p.number_is q.number_is i; end = one_answer p.end_is q.end_is i; signed = one_answer p.signed_is q.signed_is i }
