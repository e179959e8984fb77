-- What a salvage returns, and both rooms afterwards. In order: rooms that are long enough for any book of this length; a book that is too long; a room that
-- is too short; both written.
-- Assumes nothing.
use Rattle.std.specs.Prelude.{Result, Ok, Err}
use mathlib.Core.Path.{◌≡◌, refl}
use mathlib.Core.Bool.{true, false, ◌&&◌}
use mathlib.Core.List.{List, ◌++◌}
use Prim.Native.Nat.{ℕ, ◌*◌, ◌≤◌, ◌<◌}
use native.Mathlib.Omega.{arith}
use borrow.Author.Tests.{leb-true, le-leb, lt-leb}
use lib.Dec.{leb}
use lib.ListN.{length, drop}
use Rattle.text.specs.Room.{fit_both, room_after}
use Rattle.text.proofs.Lists.{both}
use Rattle.time.specs.declared.Refusal.{Refusal}
use Rattle.time.specs.declared.Refusal.TheVariants.{Room, Book}
use Rattle.stamps.specs.Book.{max_book}
use Rattle.salvage.specs.Salvage.{salvaged, dropped, last_number, report, salvage_of, is_written}
use Rattle.salvage.specs.declared.Salvaged.{Salvaged}
use Rattle.salvage.proofs.Rooms.{length-salvaged-le, length-report-le}

module _ (bound : ℕ) (book : List ℕ) where
  -- rooms as long as the book and eight times as long are always long enough
  pub always_fit : (room other : ℕ) → length book ≤ max_book → (leb (length book) room && leb (8 * length book) other) ≡ true
      → true ≡ (leb (length (salvaged bound book)) room && leb (length (report bound book)) other)
  always_fit room other h e =
      let p = both (leb (length book) room) (leb (8 * length book) other) e in
      let a = le-leb (length (salvaged bound book)) room (omega (arith, leb-true (length book) room p.0, length-salvaged-le bound book)) in
      let b = le-leb (length (report bound book)) other (omega (arith, leb-true (8 * length book) other p.1, length-report-le bound book h)) in
      rw (a, b)

  -- r is what is returned; room' and other' are the rooms afterwards
  abbrev Salvages : List ℕ → List ℕ → Result Salvaged Refusal → List ℕ → List ℕ → Type 0
  Salvages room other r room' other' =
      (r ≡ salvage_of bound book room other)
      × ((room' ≡ room_after (is_written (salvage_of bound book room other)) (salvaged bound book) room) × (other' ≡ room_after (is_written (salvage_of bound book room other)) (report bound book) other))

  module _ (room other : List ℕ) where
    pub salvages_too_long : max_book < length book → Salvages room other (Err Book) room other
    unfolding salvage_of
    salvages_too_long h = rw (lt-leb (length book) max_book h) (refl, (refl, refl))

    module _ (h : length book ≤ max_book) where
      pub salvages_too_short : fit_both (salvaged bound book) room (report bound book) other ≡ false → Salvages room other (Err Room) room other
      unfolding salvage_of
      salvages_too_short e = rw (le-leb (length book) max_book h, e) (refl, (refl, refl))

      pub salvages_written : (n k last : ℕ) (room' other' : List ℕ) → fit_both (salvaged bound book) room (report bound book) other ≡ true
          → (n ≡ length (salvaged bound book)) × (k ≡ length (report bound book)) × (last ≡ last_number 0 (dropped bound book))
          → (length (salvaged bound book) ≤ length room → room' ≡ salvaged bound book ++ drop (length (salvaged bound book)) room)
          → (length (report bound book) ≤ length other → other' ≡ report bound book ++ drop (length (report bound book)) other)
          → Salvages room other (Ok (record { length = n; report_length = k; last_bad = last })) room' other'
      unfolding salvage_of
      salvages_written n k last room' other' e found put also =
          let p = both (leb (length (salvaged bound book)) (length room)) (leb (length (report bound book)) (length other)) e in
          rw (le-leb (length book) max_book h, e)
          ((λ i. Ok (record { length = found.0 i; report_length = found.1 i; last_bad = found.2 i })), (put (leb-true (length (salvaged bound book)) (length room) p.0), also (leb-true (length (report bound book)) (length other) p.1)))
