-- The laws of merging two lists (RULES 15). In order: the merged lines, and their order; front lines, and the first line of a text; the lines of a
-- list, checked one by one; two good lists; the merged book; the paths that are reported, and how many bytes the report has; the last keys of the
-- paths; the rows that wait to be put into the report; a line taken from two lists; the pass that merges them; what a merge returns; how long
-- rooms must be; examples.
pub mod MergedLines
pub mod Orders
pub mod FrontLines
pub mod ListLines
pub mod Checked
pub mod MergedBook
pub mod Reported
pub mod Totals
pub mod LastKeys
pub mod WaitingRows
pub mod TakenLines
pub mod MergePass
pub mod MergedAnswers
pub mod Rooms
pub mod Examples
