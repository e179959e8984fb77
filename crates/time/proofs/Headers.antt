-- The header as it is written, from its end to its front. In order: what the sign decides; the offset put in front of a
-- place; `size_of` is the bytes written; the writer's three answers, each with the room that it leaves.
-- Assumes nothing.
use Rattle.std.specs.Prelude.{Err, Ok, Result}
use mathlib.Core.Path.{◌≡◌, refl, sym, ap, ◌∙◌}
use mathlib.Core.List.{List, ◌∷◌, ◌++◌}
use Prim.Native.Nat.{ℕ, ◌-◌, ◌/◌, ◌≤◌, ◌<◌}
use native.Mathlib.Omega.{arith}
use borrow.Author.Tests.{le-leb, lt-leb, lt-ltb, le-ltb}
use lib.ListN.{length, take, drop}
use lib.IntN.{ℤ, pos, negsuc, nat_abs}
use lib.Signed.{◌≤ℤ◌, ◌<ℤ◌}
use Rattle.ints.proofs.Parts.{le_parts, lt-parts}
use Rattle.text.specs.Decimal.{signed_before, two_before}
use Rattle.text.specs.Room.{room_after}
use Rattle.text.proofs.Signed.{signed_before-app, length-signed_before}
use Rattle.text.proofs.Putting.{put_put}
use Rattle.time.specs.Answers.{is_written}
use Rattle.time.specs.Header.{sign_byte, header_sign, whole_minutes, offset_bytes, space, header_bytes, size_of, header_written}
use Rattle.time.specs.declared.Time.{Time}
use Rattle.time.specs.declared.Refusal.TheVariants.{Offset, Room}
use Rattle.time.specs.declared.Refusal.{Refusal}

-- ---- what the sign decides
pub sign_byte_of_lt : (z : ℤ) → z <ℤ pos 0 → 45 ≡ sign_byte z
unfolding sign_byte
sign_byte_of_lt (pos n) h = absurd (omega (arith, lt-parts h))
sign_byte_of_lt (negsuc n) h = refl

pub sign_byte_of_le : (z : ℤ) → pos 0 ≤ℤ z → 43 ≡ sign_byte z
unfolding sign_byte
sign_byte_of_le (pos n) h = refl
sign_byte_of_le (negsuc n) h = absurd (omega (arith, le_parts h))

-- ---- the offset, in front of the place e
pub offset_put : (l r₁ r₂ r₃ r₄ : List ℕ) (e s h m : ℕ) → 5 < e → e ≤ length l
    → r₁ ≡ take (e - 2) l ++ two_before m (drop e l)
    → r₂ ≡ take (e - 2 - 2) r₁ ++ two_before h (drop (e - 2) r₁)
    → r₃ ≡ take (e - 4 - 1) r₂ ++ s ∷ drop (e - 4) r₂
    → r₄ ≡ take (e - 5 - 1) r₃ ++ space ∷ drop (e - 5) r₃
    → r₄ ≡ take (e - 6) l ++ space ∷ s ∷ two_before h (two_before m (drop e l))
offset_put l r₁ r₂ r₃ r₄ e s h m p k e₁ e₂ e₃ e₄ =
    let s₂ = put_put (two_before h) l (two_before m (drop e l)) r₁ r₂ (e - 2 - 2) (e - 4) (e - 2) e₁ e₂ (omega arith) (omega arith) (omega arith) in
    let s₃ = put_put (λ (t : List ℕ). s ∷ t) l (two_before h (two_before m (drop e l))) r₂ r₃ (e - 4 - 1) (e - 5) (e - 4) s₂ e₃ (omega arith) (omega arith) (omega arith) in
    put_put (λ (t : List ℕ). space ∷ t) l (s ∷ two_before h (two_before m (drop e l))) r₃ r₄ (e - 5 - 1) (e - 6) (e - 5) s₃ e₄ (omega arith) (omega arith) (omega arith)

-- ---- `size_of` is the bytes written
pub length-header_bytes : (x : Time) → length (header_bytes x) ≡ size_of x.seconds
unfolding header_bytes size_of
length-header_bytes x = length-signed_before x.seconds (space ∷ offset_bytes (header_sign x) (whole_minutes x.offset))

-- ---- the three answers: r, with the room that it leaves
abbrev pub Wrote : Result ℕ Refusal → List ℕ → Time → List ℕ → Type 0
Wrote r after x room = (r ≡ header_written x room) × (after ≡ room_after (is_written (header_written x room)) (header_bytes x) room)

module _ (x : Time) (room : List ℕ) where
  pub wrote_too_wide : 360000 ≤ nat_abs x.offset → Wrote (Err Offset) room x room
  unfolding header_written
  wrote_too_wide h = let e = le-leb 360000 (nat_abs x.offset) h in (rw e, rw e)

  module _ (h : nat_abs x.offset < 360000) where
    pub wrote_too_short : length room < size_of x.seconds → Wrote (Err Room) room x room
    unfolding header_written
    wrote_too_short k =
        let e = lt-leb 360000 (nat_abs x.offset) h in
        let d = lt-ltb (length room) (size_of x.seconds) k in
        (rw (e, d), rw (e, d))

    pub wrote_whole : (r : List ℕ) (n b m : ℕ) → n ≡ size_of x.seconds → n ≤ length room → b ≡ header_sign x → m ≡ nat_abs x.offset
        → r ≡ signed_before x.seconds (space ∷ offset_bytes b (m / 60) ++ drop n room) → Wrote (Ok n) r x room
    unfolding header_written header_bytes whole_minutes
    wrote_whole r n b m i k p q e =
        let l : size_of x.seconds ≤ length room = omega arith in
        let w = lt-leb 360000 (nat_abs x.offset) h in
        let d = le-ltb (length room) (size_of x.seconds) l in
        let y : n ≡ length (header_bytes x) = i ∙ sym (length-header_bytes x) in (
          rw (w, d) (ap Ok i),
          rw (w, d)
              (e ∙ (λ j. signed_before x.seconds (space ∷ offset_bytes (p j) (q j / 60) ++ drop (y j) room))
              ∙ signed_before-app x.seconds (space ∷ offset_bytes (header_sign x) (nat_abs x.offset / 60)) (drop (length (header_bytes x)) room)),
        )
