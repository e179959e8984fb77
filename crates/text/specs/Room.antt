-- A caller's buffer after a call (RULES 9.3 and 12.1). The buffer is called a room here.
-- Assumes nothing.
use Rattle.std.specs.Prelude.{ℕ, ◌+◌, Bool, cond, ◌&&◌, List, ◌++◌, leb, length, take, drop}

-- whether the bytes fit into the room
abbrev pub fits : List ℕ → List ℕ → Bool
fits bytes room = leb (length bytes) (length room)

-- for a call with two rooms: either both are written or neither changes
abbrev pub fit_both : List ℕ → List ℕ → List ℕ → List ℕ → Bool
fit_both bytes room more other = fits bytes room && fits more other

-- the room after a call that was to write these bytes: they are at its front, and the bytes beyond them stay as they were. A call
-- that refuses leaves the room as it was
abbrev pub room_after : Bool → List ℕ → List ℕ → List ℕ
room_after wrote bytes room = cond wrote (bytes ++ drop (length bytes) room) room

-- the room with these bytes from place `at` on, and all others as they were
abbrev pub put_at : List ℕ → ℕ → List ℕ → List ℕ
put_at bytes at room = take at room ++ bytes ++ drop (at + length bytes) room
