-- `hull` lines as they are read, field by field, from a place of the text on. In order: what a path and a key are; a line by its
-- fields; a line from its path on, from its key on, from its time on.
-- Assumes nothing.
use Rattle.std.specs.Prelude.{None, Option, Some}
use mathlib.Core.Path.{◌≡◌, refl, sym, ap, ◌∙◌}
use mathlib.Core.Bool.{true, false, ◌&&◌, ◌||◌, false≢true, and-false}
use mathlib.Core.List.{List, []}
use Prim.Native.Nat.{ℕ, ◌+◌, ◌-◌, ◌≤◌, ◌<◌}
use native.Mathlib.Omega.{arith}
use borrow.Author.Tests.{eqb-true, ltb-true, ltb-false, lt-ltb, le-ltb, leb-true, le-leb, eqb-false, ne_eqb, eq-eqb}
use lib.Dec.{leb, ltb, eqb}
use lib.IntN.{ℤ}
use lib.ListN.{length, drop, length-drop}
use lib.Seq.{length-take-le}
use Rattle.text.specs.Places.{first_place, past, opens_with}
use Rattle.text.specs.Lines.{tab, newline, field, rest}
use Rattle.text.proofs.Lists.{by_test, both}
use Rattle.time.specs.Header.{size_of}
use Rattle.time.specs.declared.Time.{Time}
use Rattle.time.proofs.Headers.{length-header_bytes}
use Rattle.stamps.specs.Stamps.{stamp_of}
use Rattle.stamps.specs.Lines.{every, is_path_byte, is_path, is_hex_digit, is_key, hull_at, hull_of}
use Rattle.stamps.specs.Held.{part_from, left_at, hull_left, key_left, first_from}
use Rattle.stamps.specs.declared.line.Line.TheVariants.{Hull}
use Rattle.stamps.proofs.Stamps.{stamp_of-bytes}
use Rattle.stamps.proofs.Fields.{length_before, field-nil, is_text_byte_of_is_path_byte, is_text_byte_of_is_hex_digit, FieldEnds, field_ends_past, every-part_from, length-part_from, past_of_every, rest-nil_of_every}

-- ---- a path and a key
is_path_of_parts : (s : List ℕ) → 0 < length s → length s ≤ 255 → every is_path_byte s ≡ true → is_path s ≡ true
unfolding is_path
is_path_of_parts s l m e = rw (lt-ltb 0 (length s) l, le-leb (length s) 255 m, e)

pub parts_of_is_path : (s : List ℕ) → is_path s ≡ true → (0 < length s) × (length s ≤ 255) × (every is_path_byte s ≡ true)
unfolding is_path
parts_of_is_path s h =
    let p = both (ltb 0 (length s) && leb (length s) 255) (every is_path_byte s) h in
    let q = both (ltb 0 (length s)) (leb (length s) 255) p.0 in
    (ltb-true 0 (length s) q.0, leb-true (length s) 255 q.1, p.1)

is_key_of_parts : (s : List ℕ) → length s ≡ 16 → every is_hex_digit s ≡ true → is_key s ≡ true
unfolding is_key
is_key_of_parts s l e = rw (eq-eqb (length s) 16 l, e)

pub parts_of_is_key : (s : List ℕ) → is_key s ≡ true → (length s ≡ 16) × (every is_hex_digit s ≡ true)
unfolding is_key
parts_of_is_key s h = let p = both (eqb (length s) 16) (every is_hex_digit s) h in (eqb-true (length s) 16 p.0, p.1)

module _ (path key time : List ℕ) where
  pub hull_of_no_path : is_path path ≡ false → hull_of path key time ≡ None
  unfolding hull_of
  hull_of_no_path e = rw e

  hull_of_no_key : is_key key ≡ false → hull_of path key time ≡ None
  unfolding hull_of
  hull_of_no_key e = rw (e, and-false)

  pub hull_of-stamp : is_path path ≡ true → is_key key ≡ true → hull_of path key time ≡ hull_at path key (stamp_of time)
  unfolding hull_of
  hull_of-stamp e d = rw (e, d)

pub size_of-pos : (z : ℤ) → 0 < size_of z
unfolding size_of
size_of-pos z = omega arith

is_key-nil : is_key [] ≡ false
unfolding is_key
is_key-nil = refl

stamp_of-nil : stamp_of [] ≡ None
stamp_of-nil = told (stamp_of []) refl
  where
    told : (x : Option Time) → stamp_of [] ≡ x → x ≡ None
    told (Some t) e = absurd (omega (arith, ap length (stamp_of-bytes [] t e), length-header_bytes t, size_of-pos t.seconds))
    told None e = refl

hull_of_no_stamp : (path key time : List ℕ) → stamp_of time ≡ None → hull_of path key time ≡ None
unfolding hull_of
hull_of_no_stamp path key time e = by_test (is_path path && is_key key) (λ p. rw (p, e)) (λ p. rw p)

-- from its path on, which ends at e
module _ (s : List ℕ) (e : ℕ) (ee : e ≡ past is_path_byte s 5) where
  path_size : is_path (field (left_at s 5)) ≡ true → (0 < e - 5) × (e - 5 ≤ 255)
  path_size h =
      let m = field (left_at s 5) in
      let p = parts_of_is_path m h in
      let k : 5 + length m ≡ e = past_of_every s 5 is_path_byte is_text_byte_of_is_path_byte p.2 ∙ sym ee in
      (omega (arith, p.0), omega (arith, p.1))

  pub hull_no_path : (eqb (e - 5) 0 || ltb 255 (e - 5)) ≡ true → hull_left (left_at s 5) ≡ None
  hull_no_path h =
      by_test (is_path (field (left_at s 5)))
      (λ p. let k = path_size p in absurd (false≢true (rw (ne_eqb (e - 5) 0 (λ z. omega (arith, k.0)), le-ltb 255 (e - 5) k.1) at h)))
      (λ p. hull_of_no_path _ _ _ p)

  pub hull_no_tab : opens_with tab (drop e s) ≡ false → hull_left (left_at s 5) ≡ None
  hull_no_tab o =
      by_test (is_path (field (left_at s 5)))
      (λ p.
      let n : rest (left_at s 5) ≡ [] = rest-nil_of_every s 5 is_path_byte is_text_byte_of_is_path_byte (parts_of_is_path _ p).2 (rw ee at o) in
      hull_of_no_key _ _ _ (ap (λ (v : List ℕ). is_key (field v)) n ∙ ap is_key field-nil ∙ is_key-nil))
      (λ p. hull_of_no_path _ _ _ p)

  module _ (o : opens_with tab (drop e s) ≡ true) where
    pub path_ends : FieldEnds s 5 e
    path_ends = rw ee (field_ends_past s 5 is_path_byte is_text_byte_of_is_path_byte (rw ee at o))

    pub hull_keyed : hull_left (left_at s 5) ≡ key_left (part_from s 5 e) (left_at s (e + 1))
    hull_keyed = λ i. key_left (path_ends.field_is i) (path_ends.rest_is i)

    pub is_path-part_from : (eqb (e - 5) 0 || ltb 255 (e - 5)) ≡ false → is_path (part_from s 5 e) ≡ true
    is_path-part_from h =
        let l : 5 + length (part_from s 5 e) ≡ e = rw ee (length-part_from s 5 is_path_byte is_text_byte_of_is_path_byte) in
        let q : every is_path_byte (part_from s 5 e) ≡ true = rw ee (every-part_from s 5 is_path_byte is_text_byte_of_is_path_byte) in
        by_test (eqb (e - 5) 0) (λ y. absurd (false≢true (sym (rw y at h))))
        (λ n. is_path_of_parts (part_from s 5 e) (omega (arith, eqb-false (e - 5) 0 n)) (omega (arith, ltb-false 255 (e - 5) (rw n at h))) q)

-- from its key on, which begins at k and ends at e
module _ (s : List ℕ) (k e : ℕ) (ee : e ≡ past is_hex_digit s k) where
  key_size : is_key (field (left_at s k)) ≡ true → e - k ≡ 16
  key_size h =
      let m = field (left_at s k) in
      let p = parts_of_is_key m h in
      let n : k + length m ≡ e = past_of_every s k is_hex_digit is_text_byte_of_is_hex_digit p.1 ∙ sym ee in
      omega (arith, p.0)

  pub key-not : (path : List ℕ) → (e - k ≡ 16 → ⊥) → key_left path (left_at s k) ≡ None
  key-not path h = by_test (is_key (field (left_at s k))) (λ p. absurd (h (key_size p))) (λ p. hull_of_no_key _ _ _ p)

  pub key_no_tab : (path : List ℕ) → opens_with tab (drop e s) ≡ false → key_left path (left_at s k) ≡ None
  key_no_tab path o =
      by_test (is_key (field (left_at s k)))
      (λ p.
      let n : rest (left_at s k) ≡ [] = rest-nil_of_every s k is_hex_digit is_text_byte_of_is_hex_digit (parts_of_is_key _ p).1 (rw ee at o) in
      hull_of_no_stamp _ _ _ (ap stamp_of n ∙ stamp_of-nil))
      (λ p. hull_of_no_key _ _ _ p)

  module _ (o : opens_with tab (drop e s) ≡ true) where
    pub key_ends : FieldEnds s k e
    key_ends = rw ee (field_ends_past s k is_hex_digit is_text_byte_of_is_hex_digit (rw ee at o))

    pub key_stamped : (path : List ℕ) → is_path path ≡ true → e - k ≡ 16 → key_left path (left_at s k) ≡ hull_at path (part_from s k e) (stamp_of (left_at s (e + 1)))
    key_stamped path p h =
        let l : k + length (part_from s k e) ≡ e = rw ee (length-part_from s k is_hex_digit is_text_byte_of_is_hex_digit) in
        let q : every is_hex_digit (part_from s k e) ≡ true = rw ee (every-part_from s k is_hex_digit is_text_byte_of_is_hex_digit) in
        (λ i. hull_of path (key_ends.field_is i) (key_ends.rest_is i)) ∙ hull_of-stamp _ _ _ p (is_key_of_parts (part_from s k e) (omega arith) q)

-- from its time on, which begins behind place k: its path ends at p, its key at k
module _ (s : List ℕ) (p k : ℕ) (hp : 5 ≤ p) (hk : p < k) (hs : k < length s) where
  pub hull_stamped : (t : Time) (x : Option Time) (n : ℕ) → x ≡ stamp_of (left_at s (k + 1)) → x ≡ Some t → n ≡ size_of t.seconds
      → Some (record { line = Hull (record { path = record { start = 5; end = p }; key = record { start = p + 1; end = k }; time = t }); length = k + 1 + n })
      ≡ first_from s (k + 1) (hull_at (part_from s 5 p) (part_from s (p + 1) k) (stamp_of (left_at s (k + 1))))
  hull_stamped t x n ex et en =
      let e : stamp_of (left_at s (k + 1)) ≡ Some t = sym ex ∙ et in
      let lp : p ≡ 5 + length (part_from s 5 p) = omega (arith, length-take-le (p - 5) (drop 5 s) (omega (arith, length-drop 5 s))) in
      let lk : k ≡ p + 1 + length (part_from s (p + 1) k) = omega (arith, length-take-le (k - (p + 1)) (drop (p + 1) s) (omega (arith, length-drop (p + 1) s))) in
      let ends : k + 1 + n ≡ k + 1 + first_place newline (drop (k + 1) s) = omega (arith, ap length (stamp_of-bytes (left_at s (k + 1)) t e), length-header_bytes t, length_before newline (drop (k + 1) s)) in
      (λ i. Some (record { line = Hull (record { path = record { start = 5; end = lp i }; key = record { start = lp i + 1; end = lk' lp lk i }; time = t }); length = ends i }))
      ∙ ap (λ (x : Option Time). first_from s (k + 1) (hull_at (part_from s 5 p) (part_from s (p + 1) k) x)) (sym e)
    where
      lk' : p ≡ 5 + length (part_from s 5 p) → k ≡ p + 1 + length (part_from s (p + 1) k) → k ≡ 5 + length (part_from s 5 p) + 1 + length (part_from s (p + 1) k)
      lk' a b = omega arith
