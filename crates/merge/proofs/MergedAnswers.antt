-- What a merge returns, and both rooms afterwards: refused as the check of the lists is; a room that is too short; both written.
-- Assumes nothing.
use Rattle.std.specs.Prelude.{Ok, Err, Result}
use mathlib.Core.Path.{◌≡◌, refl, sym}
use mathlib.Core.Bool.{Bool, true, false, ◌&&◌, ◌||◌, false≢true}
use mathlib.Core.List.{List, ◌++◌}
use Prim.Native.Nat.{ℕ, ◌≤◌}
use native.Mathlib.Omega.{arith}
use borrow.Author.Tests.{ltb-true, ltb-false, le-leb, lt-leb}
use lib.Dec.{leb, ltb}
use lib.ListN.{length, drop}
use Rattle.text.specs.Room.{fit_both, room_after}
use Rattle.text.proofs.Lists.{by_test}
use Rattle.stamps.specs.Book.{check_of}
use Rattle.stamps.proofs.Listings.{good_book_iff}
use Rattle.merge.specs.Merge.{merged_at, is_written}
use Rattle.merge.specs.declared.lists.ListError.{ListError}
use Rattle.merge.specs.declared.Lengths.{Lengths}
use Rattle.merge.specs.declared.MergeError.{MergeError}
use Rattle.merge.specs.declared.MergeError.TheVariants.{Lists, NoRoom}
use Rattle.merge.specs.Theorems.{IsList}
use Rattle.merge.proofs.MergedBook.{good_of_hulls}

-- a good list is a good book
pub book_of_list : (bound : ℕ) (list : List ℕ) → IsList bound list → check_of bound list ≡ Ok tt
book_of_list bound list l = (good_book_iff bound list).1 (omega (arith, l.short), l.whole, good_of_hulls bound _ l.hulls)

-- r is what is returned; room' and other' are the rooms afterwards
abbrev pub Merges : Result (Unit {0}) ListError → List ℕ → List ℕ → List ℕ → List ℕ → Result Lengths MergeError → List ℕ → List ℕ → Type 0
Merges v bytes room more other r room' other' =
    (r ≡ merged_at v bytes room more other)
    × ((room' ≡ room_after (is_written (merged_at v bytes room more other)) bytes room) × (other' ≡ room_after (is_written (merged_at v bytes room more other)) more other))

module _ (bytes room more other : List ℕ) where
  pub merges_refused : (v : Result (Unit {0}) ListError) (x : ListError) → Err x ≡ v → Merges v bytes room more other (Err (Lists x)) room other
  merges_refused v x e = rw (← e) (refl, (refl, refl))

  module _ (n k : ℕ) (n-is : n ≡ length bytes) (k-is : k ≡ length more) where
    pub merges_too_short : (ltb (length room) n || ltb (length other) k) ≡ true → Merges (Ok tt) bytes room more other (Err NoRoom) room other
    merges_too_short e = rw short (refl, (refl, refl))
      where
        and_false : (a : Bool) → (a && false) ≡ false
        and_false true = refl
        and_false false = refl

        short : fit_both bytes room more other ≡ false
        short =
            by_test (ltb (length room) n) (λ y. rw (lt-leb (length bytes) (length room) (omega (arith, ltb-true (length room) n y))))
            (λ f. let g : ltb (length other) k ≡ true = rw f at e in rw (lt-leb (length more) (length other) (omega (arith, ltb-true (length other) k g))) (and_false (leb (length bytes) (length room))))

    pub both_fit : (ltb (length room) n || ltb (length other) k) ≡ false → (length bytes ≤ length room) × (length more ≤ length other)
    both_fit e =
        by_test (ltb (length room) n) (λ y. absurd (false≢true (sym (rw y at e))))
        (λ f. let g : ltb (length other) k ≡ false = rw f at e in (omega (arith, ltb-false (length room) n f), omega (arith, ltb-false (length other) k g)))

    pub merges_written : (room' other' : List ℕ) → (length bytes ≤ length room) × (length more ≤ length other) → room' ≡ bytes ++ drop (length bytes) room → other' ≡ more ++ drop (length more) other
        → Merges (Ok tt) bytes room more other (Ok (record { book = n; report = k })) room' other'
    merges_written room' other' h put also = rw (le-leb (length bytes) (length room) h.0, le-leb (length more) (length other) h.1) ((λ i. Ok (record { book = n-is i; report = k-is i })), (put, also))
