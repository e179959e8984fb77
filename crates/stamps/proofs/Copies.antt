-- What a call returns that copies bytes of a checked book to a room, and the room afterwards: refused as the check is; a room that is
-- too short; the bytes written.
-- Assumes nothing.
use Rattle.std.specs.Prelude.{Ok, Result}
use mathlib.Core.Path.{◌≡◌, refl, ap}
use mathlib.Core.List.{List, ◌++◌}
use Prim.Native.Nat.{ℕ, ◌≤◌, ◌<◌}
use native.Mathlib.Omega.{arith}
use borrow.Author.Tests.{le-leb, lt-leb}
use lib.ListN.{length, drop}
use Rattle.text.specs.Room.{room_after}
use Rattle.time.specs.declared.Refusal.{Refusal}
use Rattle.time.specs.declared.Refusal.TheVariants.{Room}
use Rattle.stamps.specs.Copies.{copied_at, is_written}
use Rattle.stamps.specs.declared.book.BookError.{BookError}
use Rattle.stamps.specs.Book.{refused_at}

-- r is what is returned, and room' the room afterwards
abbrev pub Copies : Result (Unit {0}) BookError → List ℕ → List ℕ → Result ℕ BookError → List ℕ → Type 0
Copies c bytes room r room' = (r ≡ copied_at c bytes room) × (room' ≡ room_after (is_written (copied_at c bytes room)) bytes room)

module _ {c : Result (Unit {0}) BookError} (bytes room : List ℕ) where
  pub copies_refused : (why : Refusal) (n : ℕ) → refused_at why n ≡ c → Copies c bytes room (refused_at why n) room
  copies_refused why n e = rw (← e) (refl, refl)

  module _ (e : (Ok tt) ≡ c) (n : ℕ) (size : n ≡ length bytes) where
    pub copies_too_short : length room < n → Copies c bytes room (refused_at Room 0) room
    copies_too_short h = rw (← e, lt-leb (length bytes) (length room) (omega arith)) (refl, refl)

    pub copies_written : (room' : List ℕ) → n ≤ length room → room' ≡ bytes ++ drop (length bytes) room → Copies c bytes room (Ok n) room'
    copies_written room' h put = rw (← e, le-leb (length bytes) (length room) (omega arith)) (ap Ok size, put)
