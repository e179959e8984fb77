-- `lines::parse_as` meets its contract: each form has its reader.
use Rattle.lines.proofs.parse_as.Goals as goal

pub returns-in-Header : goal.returns-in-Header
returns-in-Header c = rw c.in-Header.is c.parse_header.ensures

pub returns-in-Raw : goal.returns-in-Raw
returns-in-Raw c = rw c.in-Raw.is c.parse_raw.ensures

pub returns-in-Iso : goal.returns-in-Iso
returns-in-Iso c = rw c.in-Iso.is c.parse_git_date_format_with.ensures

pub returns-in-Relative : goal.returns-in-Relative
returns-in-Relative c = rw c.in-Relative.is c.parse_with.ensures

pub returns-in-Any : goal.returns-in-Any
returns-in-Any c = rw c.in-Any.is c.parse_with-in-Any.ensures
