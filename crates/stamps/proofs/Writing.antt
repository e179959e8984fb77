-- Values that make a good line, and the line that they make. In order: bytes that are all of one class; a path, a key, and the
-- text of a `since` line, tested by a scan; what the tests say of a hull; how many bytes a line has with its newline; the three
-- answers of a call that writes it.
-- Assumes nothing.
use Rattle.std.specs.Prelude.{Err, Ok, Result, Some}
use mathlib.Core.Path.{◌≡◌, sym, ap, ◌∙◌}
use mathlib.Core.Bool.{Bool, true, false, not, ◌&&◌, false≢true, and-false}
use mathlib.Core.List.{List, [], ◌∷◌, ◌++◌}
use Prim.Native.Nat.{ℕ, ◌+◌, ◌≤◌, ◌<◌}
use native.Mathlib.Omega.{arith}
use borrow.Author.Tests.{eq-eqb, ne_eqb, le-leb, lt-leb, ltb-true}
use lib.Dec.{ltb, leb, eqb}
use lib.IntN.{nat_abs}
use lib.ListN.{length, take, drop, length-append}
use lib.Seq.{take-length}
use Rattle.text.specs.Decimal.{signed}
use Rattle.text.specs.Lines.{tab, newline}
use Rattle.text.specs.Places.{run, past, has}
use Rattle.text.specs.Quote.{bytes}
use Rattle.text.specs.Room.{room_after}
use Rattle.text.proofs.Lists.{by_test, both}
use Rattle.text.proofs.Runs.{past-le-length, has_cons, has_nil}
use Rattle.time.specs.Answers.{is_written}
use Rattle.time.specs.Header.{header_bytes}
use Rattle.time.specs.declared.Time.{Time}
use Rattle.time.specs.declared.Refusal.TheVariants.{Room, Book}
use Rattle.relative.specs.Relative.{relative_of}
use Rattle.stamps.specs.Stamps.{is_whole_minutes}
use Rattle.stamps.specs.Lines.{every, is_path_byte, is_path, is_hex_digit, is_key}
use Rattle.stamps.specs.Writing.{hull_line, since_line, ended, is_hull, is_read, is_since, line_written}
use Rattle.stamps.specs.Held.{is_text_byte}
use Rattle.stamps.proofs.Fields.{every_leading, run_of_every}
use Rattle.time.specs.declared.Refusal.{Refusal}

-- ---- bytes that are all of one class
every_of_run : (p : ℕ → Bool) (s : List ℕ) → run p s ≡ length s → every p s ≡ true
every_of_run p s e = sym (ap (every p) (ap (λ (n : ℕ). take n s) e ∙ take-length s)) ∙ every_leading p s

every_past : (p : ℕ → Bool) (s : List ℕ) → every p s ≡ eqb (past p s 0) (length s)
unfolding past
every_past p s =
    by_test (every p s) (λ e. e ∙ sym (eq-eqb (0 + run p s) (length s) (omega (arith, run_of_every p s e))))
    (λ e. e ∙ sym (ne_eqb (0 + run p s) (length s) (λ r. false≢true (sym e ∙ every_of_run p s (omega arith)))))

pub every-is_text_byte : (s : List ℕ) → every is_text_byte s ≡ (not (has tab s) && not (has newline s))
unfolding every is_text_byte
every-is_text_byte [] = rw (has_nil tab, has_nil newline)
every-is_text_byte (b ∷ s) =
    by_test (eqb b tab) (λ e. rw (has_cons tab b s, e))
    (λ e. by_test (eqb b newline) (λ d. rw (has_cons tab b s, has_cons newline b s, e, d, and-false (not (has tab s))))
    (λ d. rw (has_cons tab b s, has_cons newline b s, e, d) (every-is_text_byte s)))

-- ---- a path
pub is_path_of_size : (s : List ℕ) → (ltb 0 (length s) && leb (length s) 255) ≡ true → is_path s ≡ eqb (past is_path_byte s 0) (length s)
unfolding is_path
is_path_of_size s e = rw e (every_past is_path_byte s)

pub is_path_of_no_size : (s : List ℕ) → (ltb 0 (length s) && leb (length s) 255) ≡ false → is_path s ≡ false
unfolding is_path
is_path_of_no_size s e = rw e

-- ---- a key
pub is_key_of_ne : (s : List ℕ) → (length s ≡ 16 → ⊥) → is_key s ≡ false
unfolding is_key
is_key_of_ne s h = rw (ne_eqb (length s) 16 h)

pub is_key_of_eq : (s : List ℕ) → length s ≡ 16 → is_key s ≡ eqb (past is_hex_digit s 0) 16
unfolding is_key
is_key_of_eq s h = rw (eq-eqb (length s) 16 h) (every_past is_hex_digit s ∙ ap (eqb (past is_hex_digit s 0)) h)

-- ---- the text of a `since` line
module _ (bound : ℕ) (text : List ℕ) (current : Time) where
  pub is_since_of_lt : past is_text_byte text 0 < length text → is_since bound text current ≡ false
  unfolding is_since
  is_since_of_lt h =
      let e : every is_text_byte text ≡ false = every_past is_text_byte text ∙ ne_eqb (past is_text_byte text 0) (length text) (λ r. omega arith) in
      rw (sym (every-is_text_byte text) ∙ e)

  pub is_since_of_le : length text ≤ past is_text_byte text 0 → is_since bound text current ≡ is_read (relative_of bound text (Some current))
  unfolding is_since
  is_since_of_le h =
      let r : past is_text_byte text 0 ≡ length text = omega (arith, past-le-length is_text_byte text 0 (omega arith)) in
      rw (sym (every-is_text_byte text) ∙ every_past is_text_byte text ∙ eq-eqb (past is_text_byte text 0) (length text) r)

-- ---- what the test of a hull says
pub record GoodHull (path key : List ℕ) (t : Time) : Type 0 where
  pub path_is : is_path path ≡ true
  pub key_is : is_key key ≡ true
  pub whole : is_whole_minutes t.offset ≡ true
  pub narrow : nat_abs t.offset < 360000

pub good_hull : (path key : List ℕ) (t : Time) → is_hull path key t ≡ true → GoodHull path key t
unfolding is_hull
good_hull path key t e =
    let o = is_whole_minutes t.offset && ltb (nat_abs t.offset) 360000 in
    let a = both (is_path path && is_key key) o e in
    let b = both (is_path path) (is_key key) a.0 in
    let c = both (is_whole_minutes t.offset) (ltb (nat_abs t.offset) 360000) a.1 in
    record { path_is = b.0; key_is = b.1; whole = c.0; narrow = ltb-true (nat_abs t.offset) 360000 c.1 }

-- ---- how many bytes a line has
pub length-ended-hull_line : (path key : List ℕ) (t : Time) → length (ended (hull_line path key t)) ≡ length path + (length key + (length (header_bytes t) + 8))
unfolding hull_line
length-ended-hull_line path key t =
    let h = bytes "hull" ++ tab ∷ path in
    omega (arith, length-append (h ++ tab ∷ key ++ tab ∷ header_bytes t) (newline ∷ []), length-append (h ++ tab ∷ key) (tab ∷ header_bytes t), length-append h (tab ∷ key), length-append (bytes "hull") (tab ∷ path))

pub length-ended-since_line : (text : List ℕ) (t : Time) → length (ended (since_line text t)) ≡ length text + (length (signed t.seconds) + length (signed t.offset) + 9)
unfolding since_line
length-ended-since_line text t =
    let h = bytes "since" ++ tab ∷ text in
    let s = signed t.seconds in
    let o = signed t.offset in
    omega (arith, length-append (h ++ tab ∷ s ++ tab ∷ o) (newline ∷ []), length-append (h ++ tab ∷ s) (tab ∷ o), length-append h (tab ∷ s), length-append (bytes "since") (tab ∷ text))

-- ---- the three answers: r, with the room that it leaves
abbrev pub Wrote : Bool → List ℕ → List ℕ → Result ℕ Refusal → List ℕ → Type 0
Wrote good l room r after = (r ≡ line_written good l room) × (after ≡ room_after (is_written (line_written good l room)) (ended l) room)

module _ {good : Bool} (l room : List ℕ) where
  pub wrote_nothing : good ≡ false → Wrote good l room (Err Book) room
  wrote_nothing e = (rw e, rw e)

  pub wrote_too_short : good ≡ true → length room < length (ended l) → Wrote good l room (Err Room) room
  wrote_too_short e h = let k = lt-leb (length (ended l)) (length room) h in (rw (e, k), rw (e, k))

  pub wrote_line : good ≡ true → (after : List ℕ) (n : ℕ) → n ≡ length (ended l) → n ≤ length room → after ≡ ended l ++ drop (length (ended l)) room
      → Wrote good l room (Ok n) after
  wrote_line e after n m h a =
      let k = le-leb (length (ended l)) (length room) (omega arith) in (rw (e, k) (ap Ok m), rw (e, k) a)
