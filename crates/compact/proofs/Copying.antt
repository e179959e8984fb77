-- Kept lines that are copied one after the other, from the first to the last. In order: the lines of the first places; a line and its newline; the state of the copy from
-- the start, by one line more, and at its end.
-- Assumes nothing.
use mathlib.Core.Path.{◌≡◌, refl, sym, ap, ◌∙◌}
use mathlib.Core.List.{List, [], ◌∷◌, ◌++◌}
use Prim.Native.Nat.{ℕ, zero, suc, ◌+◌, ◌-◌, ◌≤◌, ◌<◌}
use native.Mathlib.Nat.{le_refl, zero-add}
use native.Mathlib.Omega.{arith}
use Rattle.std.proofs.lemmas.List.{get_or-take}
use lib.ListN.{length, take, drop, get_or, length-append, length-take}
use lib.Seq.{sets, sets-eq, length-sets}
use Rattle.text.specs.Lines.{newline}
use Rattle.text.specs.Room.{put_at}
use Rattle.stamps.specs.Copies.{joined}
use Rattle.stamps.proofs.Marks.{sets-append}
use Rattle.compact.specs.Held.{line_at, lines_down}

-- the bytes of the lines from number k down to number 1
abbrev pub bytes_down : List ℕ → List ℕ → ℕ → List ℕ
bytes_down book places k = joined (lines_down book places k)

bytes_down-step : (book places : List ℕ) (k : ℕ) → 0 < k → bytes_down book places k ≡ line_at book (get_or places (k - 1) 0) ++ newline ∷ bytes_down book places (k - 1)
unfolding joined lines_down
bytes_down-step book places k some = let e : k ≡ suc (k - 1) = omega arith in ap (bytes_down book places) e

-- of a longer list of places, the first n give the same lines
lines_down-front : (book places : List ℕ) (n k : ℕ) → k ≤ n → lines_down book (take n places) k ≡ lines_down book places k
unfolding lines_down
lines_down-front book places n zero h = refl
lines_down-front book places n (suc k) h = λ i. line_at book (get_or-take n places k 0 h i) ∷ lines_down-front book places n k (omega arith) i

pub lines_down-take : (book places : List ℕ) (n : ℕ) → n ≤ length places → lines_down book (take n places) (length (take n places)) ≡ lines_down book places n
lines_down-take book places n h = ap (lines_down book (take n places)) (omega (arith, length-take n places)) ∙ lines_down-front book places n n (le_refl n)

-- the lines from number k + 1 on are written: the first w bytes of the room
pub record Copying (book places was room : List ℕ) (count k w : ℕ) : Type 0 where
  pub few : k ≤ count
  pub fits : w + length (bytes_down book places k) ≤ length room
  pub result : sets was 0 (bytes_down book places count) ≡ sets room w (bytes_down book places k)
  pub size : length room ≡ length was

pub copying_start : (book places room : List ℕ) (count : ℕ) → length (bytes_down book places count) ≤ length room → Copying book places room room count count 0
copying_start book places room count h = record { few = le_refl count; fits = omega arith; result = refl; size = refl }

module _ {book places was room : List ℕ} {count k w : ℕ} (j : Copying book places was room count k w) where
  -- the next line, which is number k
  module _ (line : List ℕ) (some : 0 < k) (is : line ≡ line_at book (get_or places (k - 1) 0)) where
    abbrev below : List ℕ
    below = bytes_down book places (k - 1)

    bytes_are : bytes_down book places k ≡ line ++ newline ∷ below
    bytes_are = bytes_down-step book places k some ∙ ap (λ (l : List ℕ). l ++ newline ∷ below) (sym is)

    pub copying_fits : w + length line + suc (length below) ≤ length room
    copying_fits = omega (arith, j.fits, ap length bytes_are, length-append line (newline ∷ below))

    module _ (room' room'' : List ℕ) (v : ℕ) (v-is : v ≡ w + length line) (put : room' ≡ put_at line w room) (put-newline : room'' ≡ put_at (newline ∷ []) v room') where
      line_set : room' ≡ sets room w line
      line_set = put ∙ sym (sets-eq line room w (omega (arith, copying_fits)))

      pub length-same : length room' ≡ length room
      length-same = ap length line_set ∙ length-sets room w line

      newline-set : room'' ≡ sets room' v (newline ∷ [])
      newline-set = put-newline ∙ sym (sets-eq (newline ∷ []) room' v (omega (arith, copying_fits, length-same)))

      pub copying_again : (u : ℕ) → u ≡ v + 1 → Copying book places was room'' count (k - 1) u
      copying_again u u-is =
          let same_size : length room'' ≡ length room = ap length newline-set ∙ length-sets room' v (newline ∷ []) ∙ length-same in
          record {
            few = omega (arith, j.few);
            fits = omega (arith, copying_fits, same_size);
            result = j.result ∙ ap (sets room w) bytes_are ∙ sets-append room w line (newline ∷ below)
                ∙ (λ i. sets (sym line_set i) (sym v-is i) (newline ∷ below)) ∙ sets-append room' v (newline ∷ []) below ∙ (λ i. sets (sym newline-set i) (sym u-is i) below);
            size = same_size ∙ j.size;
          }

  pub copying_end : k ≤ 0 → length (bytes_down book places count) ≤ length was → room ≡ bytes_down book places count ++ drop (length (bytes_down book places count)) was
  unfolding joined lines_down
  copying_end h f =
      let all = bytes_down book places count in
      let z : k ≡ 0 = omega arith in
      sym (j.result ∙ ap (λ (m : ℕ). sets room w (bytes_down book places m)) z) ∙ sets-eq all was 0 (omega arith) ∙ ap (λ (m : ℕ). all ++ drop m was) (zero-add (length all))
