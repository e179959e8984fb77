-- What the writer of a line writes, the reader of lines reads back (RULES 13.12): from the bytes of a line (`hull_read_back`,
-- `since_read_back`) and from the room that a call has written to (`hull_read_back_in_room`, `since_read_back_in_room`), which
-- then holds one good line. The time comes back, without a mark that means nothing (`settled`, `unmarked`), and within the bounds that are read are the path and the key, or the text. In
-- order: texts without tab and newline; four such texts with tabs between; a line with its newline; the room; the text between
-- two places of a line; a line of a hull; a line of a cut-off.
-- Assumes nothing.
use Rattle.std.specs.Prelude.{Err, Ok, Option, Result, Some}
use mathlib.Core.Path.{◌≡◌, refl, sym, ap, ◌∙◌}
use mathlib.Core.Bool.{Bool, true, false, not, ◌&&◌, false≢true}
use mathlib.Core.List.{List, [], ◌∷◌, ◌++◌, append_assoc}
use Prim.Native.Nat.{ℕ, ◌+◌, ◌-◌, ◌≤◌, ◌<◌}
use native.Mathlib.Omega.{arith}
use borrow.Author.Tests.{ne_eqb, le-ltb}
use lib.IntN.{ℤ}
use lib.ListN.{length, take, drop, length-append, length-drop}
use lib.Seq.{take-append_seam, drop-append_seam, take-append-le, drop-append-le}
use Rattle.ints.proofs.Machine.{In_of_is_in}
use Rattle.ints.proofs.Parts.{ints}
use Rattle.text.specs.Decimal.{signed}
use Rattle.text.specs.Lines.{tab, newline, field, rest}
use Rattle.text.specs.Places.{has, part}
use Rattle.text.specs.Quote.{bytes}
use Rattle.text.specs.Room.{fits, room_after}
use Rattle.text.proofs.Decimals.{Between}
use Rattle.text.proofs.FirstPlaces.{Free, first_place_of_Free}
use Rattle.text.proofs.Lists.{by_test, both}
use Rattle.text.proofs.Signed.{signed_between}
use Rattle.time.specs.Answers.{unmarked, is_written}
use Rattle.time.specs.Header.{header_bytes}
use Rattle.time.specs.Range.{time_in_range, seconds_in_range, offset_in_range, least_seconds, most_seconds, least_offset, most_offset}
use Rattle.time.specs.declared.Time.{Time}
use Rattle.header.specs.Theorems.{Seconds64}
use Rattle.relative.specs.Relative.{relative_of}
use Rattle.relative.proofs.Unmarked.{current_mark_ignored}
use Rattle.stamps.specs.Lines.{every, is_path_byte, is_hex_digit, span_at, hull_at, hull_of, since_at, since_with, since_of, line_of, is_good}
use Rattle.stamps.specs.Writing.{hull_line, since_line, ended, is_hull, is_read, is_since, line_written, hull_written, since_written}
use Rattle.stamps.specs.Book.{judged, lines_in, last_piece}
use Rattle.stamps.specs.Copies.{joined}
use Rattle.stamps.specs.Theorems.{settled, are_good}
use Rattle.stamps.specs.Held.{is_text_byte}
use Rattle.stamps.specs.declared.line.Line.{Line}
use Rattle.stamps.proofs.Printed.{printed_signed}
use Rattle.stamps.proofs.Stamps.{stamp_of-header_bytes}
use Rattle.stamps.proofs.Fronts.{header_bytes-between}
use Rattle.stamps.proofs.Fields.{field-append, rest-append, is_text_byte_of_is_path_byte, is_text_byte_of_is_hex_digit}
use Rattle.stamps.proofs.HullLines.{parts_of_is_path, parts_of_is_key, hull_of-stamp}
use Rattle.stamps.proofs.SinceLines.{not-read_of_not-time_in_range}
use Rattle.stamps.proofs.Reading.{line_of-hull, line_of-since}
use Rattle.stamps.proofs.Listings.{ended_lines-joined, left_joined}
use Rattle.stamps.proofs.Writing.{every-is_text_byte, good_hull, length-ended-hull_line, length-ended-since_line}
use Rattle.time.specs.declared.Refusal.{Refusal}

-- ---- texts without tab and newline
abbrev Text : List ℕ → Type 0
Text s = every is_text_byte s ≡ true

pub Text_of_every : (p : ℕ → Bool) → ((b : ℕ) → p b ≡ true → is_text_byte b ≡ true) → (s : List ℕ) → every p s ≡ true → Text s
unfolding every
Text_of_every p h [] e = refl
Text_of_every p h (b ∷ s) e = let k = both (p b) (every p s) e in rw (h b k.0) (Text_of_every p h s k.1)

Text_of_between : (lo hi : ℕ) → newline < lo → (s : List ℕ) → Between lo hi s → Text s
unfolding every is_text_byte
Text_of_between lo hi h [] k = refl
Text_of_between lo hi h (b ∷ s) k =
    rw (ne_eqb b tab (λ e. omega (arith, k.0)), ne_eqb b newline (λ e. omega (arith, k.0))) (Text_of_between lo hi h s k.2)

Free_of_Text : (c : ℕ) → is_text_byte c ≡ false → (s : List ℕ) → Text s → Free c s
unfolding every
Free_of_Text c out [] e = tt
Free_of_Text c out (b ∷ s) e =
    let k = both (is_text_byte b) (every is_text_byte s) e in
    (ne_eqb b c (λ q. false≢true (sym out ∙ ap is_text_byte (sym q) ∙ k.0)), Free_of_Text c out s k.1)

pub no_tab : (s : List ℕ) → Text s → Free tab s
unfolding is_text_byte
no_tab s e = Free_of_Text tab refl s e

no_newline_of_Text : (s : List ℕ) → Text s → Free newline s
unfolding is_text_byte
no_newline_of_Text s e = Free_of_Text newline refl s e

pub Free-append : (c : ℕ) (s t : List ℕ) → Free c s → Free c t → Free c (s ++ t)
Free-append c [] t f g = g
Free-append c (b ∷ s) t f g = (f.0, Free-append c s t f.1 g)

pub has_of_Free : (c : ℕ) (s : List ℕ) → Free c s → has c s ≡ false
unfolding has
has_of_Free c s f = rw (first_place_of_Free c s f) (le-ltb (length s) (length s) (omega arith))

-- ---- four such texts with tabs between
record FourFields (l first second third fourth : List ℕ) : Type 0 where
  one_line : has newline l ≡ false
  first_is : field l ≡ first
  second_is : field (rest l) ≡ second
  third_is : field (rest (rest l)) ≡ third
  fourth_is : rest (rest (rest l)) ≡ fourth

four_fields : (w a b c : List ℕ) → Text w → Text a → Text b → Text c → FourFields (w ++ tab ∷ a ++ tab ∷ b ++ tab ∷ c) w a b c
four_fields w a b c tw ta tb tc =
    let from-third = b ++ tab ∷ c in
    let from_Second = a ++ tab ∷ from-third in
    let l = w ++ tab ∷ a ++ tab ∷ b ++ tab ∷ c in
    let l-is : l ≡ w ++ tab ∷ from_Second = append_assoc (w ++ tab ∷ a) (tab ∷ b) (tab ∷ c) ∙ append_assoc w (tab ∷ a) (tab ∷ from-third) in
    let r₁ : rest l ≡ from_Second = ap rest l-is ∙ rest-append w from_Second (no_tab w tw) in
    let r₂ : rest (rest l) ≡ from-third = ap rest r₁ ∙ rest-append a from-third (no_tab a ta) in
    let g : (s t : List ℕ) → Text s → Free newline t → Free newline (s ++ tab ∷ t) = λ s t ts ft. Free-append newline s (tab ∷ t) (no_newline_of_Text s ts) (refl, ft) in
    record {
      one_line = ap (has newline) l-is ∙ has_of_Free newline (w ++ tab ∷ from_Second) (g w from_Second tw (g a from-third ta (g b c tb (no_newline_of_Text c tc))));
      first_is = ap field l-is ∙ field-append w from_Second (no_tab w tw);
      second_is = ap field r₁ ∙ field-append a from-third (no_tab a ta);
      third_is = ap field r₂ ∙ field-append b c (no_tab b tb);
      fourth_is = ap rest r₂ ∙ rest-append b c (no_tab b tb);
    }

-- ---- a line with its newline
-- it is the only line of its text, and nothing is left behind it
lines_in-ended : (bound : ℕ) (l : List ℕ) → has newline l ≡ false → lines_in bound (ended l) ≡ line_of bound l ∷ []
unfolding lines_in judged joined
lines_in-ended bound l h = λ i. judged bound (ended_lines-joined (l ∷ []) (h, tt) i) ++ last_piece (left_joined (l ∷ []) (h, tt) i)

-- ---- the room
-- a line is written only if its values are good, and then it is at the front of the room
record InRoom (good : Bool) (l room : List ℕ) (n : ℕ) : Type 0 where
  values_good : good ≡ true
  bytes_are : take n (room_after (is_written (line_written good l room)) (ended l) room) ≡ ended l

in_room_of_fits : (l room : List ℕ) (n : ℕ) → fits (ended l) room ≡ true → ◌≡◌ {A = Result ℕ Refusal} (Ok (length (ended l))) (Ok n) → InRoom true l room n
in_room_of_fits l room n y p =
    let m : n ≡ length (ended l) = cc in
    record { values_good = refl; bytes_are = rw (y, m) (take-append_seam (ended l) (drop (length (ended l)) room)) }

in_room : (good : Bool) (l room : List ℕ) (n : ℕ) → line_written good l room ≡ Ok n → InRoom good l room n
in_room false l room n e = let z : ◌≡◌ {A = ℕ} 0 1 = cc in absurd (omega arith)
in_room true l room n e = by_test (fits (ended l) room) (λ y. in_room_of_fits l room n y (rw y at e)) (λ y. let k = rw y at e in let z : ◌≡◌ {A = ℕ} 0 1 = cc in absurd (omega arith))

-- ---- the text between two places of a line
-- what stands behind its first n bytes
part_middle : (l a m z : List ℕ) (n : ℕ) → l ≡ a ++ (m ++ z) → n ≡ length a → part l (span_at n m) ≡ m
part_middle l a m z n e k =
    let d : drop n l ≡ m ++ z = (λ i. drop (k i) (e i)) ∙ drop-append_seam a (m ++ z) in
    let w : n + length m - n ≡ length m = omega arith in
    (λ i. take (w i) (d i)) ∙ take-append_seam m z

-- more bytes behind the line do not change it
part-append : (l r m : List ℕ) (n : ℕ) → n + length m ≤ length l → part (l ++ r) (span_at n m) ≡ part l (span_at n m)
part-append l r m n h =
    let k : n + length m - n ≤ length (drop n l) = omega (arith, length-drop n l) in
    ap (take (n + length m - n)) (drop-append-le n l r (omega arith)) ∙ take-append-le (n + length m - n) (drop n l) r k

-- ---- a line of a hull
hull_fields : (path key : List ℕ) (t : Time) → is_hull path key t ≡ true → FourFields (hull_line path key t) (bytes "hull") path key (header_bytes t)
unfolding hull_line every is_text_byte
hull_fields path key t e =
    let good = good_hull path key t e in
    four_fields (bytes "hull") path key (header_bytes t) refl
    (Text_of_every is_path_byte is_text_byte_of_is_path_byte path (parts_of_is_path path good.path_is).2)
    (Text_of_every is_hex_digit is_text_byte_of_is_hex_digit key (parts_of_is_key key good.key_is).1)
    (Text_of_between 32 57 (omega arith) (header_bytes t) (header_bytes-between t good.narrow))

-- within these bounds are the path and the key, whatever they are
pub part-hull_line-path : (path key : List ℕ) (t : Time) → part (hull_line path key t) (span_at 5 path) ≡ path
unfolding hull_line
part-hull_line-path path key t =
    part_middle (hull_line path key t) (bytes "hull" ++ tab ∷ []) path (tab ∷ key ++ tab ∷ header_bytes t) 5
    (append_assoc (bytes "hull" ++ tab ∷ path) (tab ∷ key) (tab ∷ header_bytes t) ∙ append_assoc (bytes "hull" ++ tab ∷ []) path (tab ∷ key ++ tab ∷ header_bytes t))
    refl

pub part-hull_line-key : (path key : List ℕ) (t : Time) → part (hull_line path key t) (span_at (5 + length path + 1) key) ≡ key
unfolding hull_line
part-hull_line-key path key t =
    let h = bytes "hull" ++ tab ∷ path in
    let e : hull_line path key t ≡ (h ++ tab ∷ []) ++ (key ++ tab ∷ header_bytes t) = append_assoc h (tab ∷ key) (tab ∷ header_bytes t) ∙ sym (append_assoc h (tab ∷ []) (key ++ tab ∷ header_bytes t)) in
    part_middle (hull_line path key t) (h ++ tab ∷ []) key (tab ∷ header_bytes t) (5 + length path + 1) e (omega (arith, length-append h (tab ∷ [])))

-- the line of good values is read as a line of that time, without a mark that means nothing, and within its bounds are the path and the key
pub hull_read_back : (bound : ℕ) (path key : List ℕ) (t : Time) → is_hull path key t ≡ true → Seconds64 t.seconds
    → (line_of bound (hull_line path key t) ≡ hull_at path key (Some (settled t)))
    × (part (hull_line path key t) (span_at 5 path) ≡ path)
    × (part (hull_line path key t) (span_at (5 + length path + 1) key) ≡ key)
hull_read_back bound path key t e r =
    let good = good_hull path key t e in
    let f = hull_fields path key t e in (
      line_of-hull bound (hull_line path key t) f.one_line f.first_is ∙ (λ i. hull_of (f.second_is i) (f.third_is i) (f.fourth_is i))
          ∙ hull_of-stamp path key (header_bytes t) good.path_is good.key_is
          ∙ ap (hull_at path key) (stamp_of-header_bytes t r good.narrow good.whole),
      part-hull_line-path path key t,
      part-hull_line-key path key t,
    )

module _ (path key : List ℕ) (t : Time) (room : List ℕ) (n : ℕ) (e : hull_written path key t room ≡ Ok n) where
  -- a call that wrote n bytes has left the line and its newline in the first n bytes of the room
  pub hull_in_room : take n (room_after (is_written (hull_written path key t room)) (ended (hull_line path key t)) room) ≡ ended (hull_line path key t)
  unfolding hull_written
  hull_in_room = (in_room (is_hull path key t) (hull_line path key t) room n e).bytes_are

  -- and so a book of one good line
  pub hull_read_back_in_room : (bound : ℕ) → Seconds64 t.seconds
      → let written = take n (room_after (is_written (hull_written path key t room)) (ended (hull_line path key t)) room) in
      (lines_in bound written ≡ hull_at path key (Some (settled t)) ∷ []) × (part written (span_at 5 path) ≡ path) × (part written (span_at (5 + length path + 1) key) ≡ key)
  unfolding hull_written
  hull_read_back_in_room bound r =
      let l = hull_line path key t in
      let good = (in_room (is_hull path key t) l room n e).values_good in
      let back = hull_read_back bound path key t good r in
      let k : length (ended l) ≡ length l + 1 = length-append l (newline ∷ []) in
      let m = length-ended-hull_line path key t in (
        ap (lines_in bound) hull_in_room ∙ lines_in-ended bound l (hull_fields path key t good).one_line ∙ ap (λ (x : Option Line). x ∷ []) back.0,
        ap (λ (s : List ℕ). part s (span_at 5 path)) hull_in_room ∙ part-append l (newline ∷ []) path 5 (omega (arith, k, m)) ∙ back.1,
        ap (λ (s : List ℕ). part s (span_at (5 + length path + 1) key)) hull_in_room ∙ part-append l (newline ∷ []) key (5 + length path + 1) (omega (arith, k, m)) ∙ back.2,
      )

-- ---- a line of a cut-off
-- a relative date is read only at a current time in range
time_in_range_of_read : (bound : ℕ) (s : List ℕ) (x : Time) → is_read (relative_of bound s (Some x)) ≡ true → time_in_range x ≡ true
time_in_range_of_read bound s x e = by_test (time_in_range x) (λ y. y) (λ y. absurd (false≢true (sym (not-read_of_not-time_in_range bound s x y) ∙ e)))

-- so its seconds and its offset have 64 bits
record GoodSince (bound : ℕ) (text : List ℕ) (current : Time) : Type 0 where
  read : is_read (relative_of bound text (Some current)) ≡ true
  text_is : Text text
  seconds_fit : Seconds64 current.seconds
  offset_fits : Seconds64 current.offset

good_since : (bound : ℕ) (text : List ℕ) (current : Time) → is_since bound text current ≡ true → GoodSince bound text current
unfolding is_since time_in_range seconds_in_range offset_in_range
good_since bound text current e =
    let p = both (not (has tab text) && not (has newline text)) (is_read (relative_of bound text (Some current))) e in
    let q = both (seconds_in_range current.seconds) (offset_in_range current.offset) (time_in_range_of_read bound text current p.1) in
    let s = In_of_is_in least_seconds most_seconds current.seconds q.0 in
    let o = In_of_is_in least_offset most_offset current.offset q.1 in
    record {
      read = p.1;
      text_is = every-is_text_byte text ∙ p.0;
      seconds_fit = record { low = omega (ints, s.low); high = omega (ints, s.high) };
      offset_fits = record { low = omega (ints, o.low); high = omega (ints, o.high) };
    }

since_at-good : (text : List ℕ) (current : Time) (a : Result Time Refusal) → is_read a ≡ true → is_good (since_at text current a) ≡ true
since_at-good text current (Ok t) e = refl
since_at-good text current (Err r) e = e

since_fields : (bound : ℕ) (text : List ℕ) (current : Time) → is_since bound text current ≡ true
    → FourFields (since_line text current) (bytes "since") text (signed current.seconds) (signed current.offset)
unfolding since_line every is_text_byte
since_fields bound text current e =
    let number : (z : ℤ) → Text (signed z) = λ z. Text_of_between 32 57 (omega arith) (signed z) (signed_between 32 57 (omega arith) (omega arith) z) in
    four_fields (bytes "since") text (signed current.seconds) (signed current.offset) refl (good_since bound text current e).text_is (number current.seconds) (number current.offset)

-- within these bounds is the text, whatever it is
pub part-since_line-text : (text : List ℕ) (current : Time) → part (since_line text current) (span_at 6 text) ≡ text
unfolding since_line
part-since_line-text text current =
    let seconds = tab ∷ signed current.seconds in
    let offset = tab ∷ signed current.offset in
    part_middle (since_line text current) (bytes "since" ++ tab ∷ []) text (seconds ++ offset) 6
    (append_assoc (bytes "since" ++ tab ∷ text) seconds offset ∙ append_assoc (bytes "since" ++ tab ∷ []) text (seconds ++ offset))
    refl

-- the line of good values is read as a good line of that current time, without its mark, whose cut-off is the time that the text means at it; and
-- within its bounds is the text
pub since_read_back : (bound : ℕ) (text : List ℕ) (current : Time) → is_since bound text current ≡ true
    → (line_of bound (since_line text current) ≡ since_at text (unmarked current) (relative_of bound text (Some current)))
    × (is_good (line_of bound (since_line text current)) ≡ true)
    × (part (since_line text current) (span_at 6 text) ≡ text)
unfolding since_of
since_read_back bound text current e =
    let good = good_since bound text current e in
    let f = since_fields bound text current e in
    let line_is : line_of bound (since_line text current) ≡ since_at text (unmarked current) (relative_of bound text (Some current)) =
    line_of-since bound (since_line text current) f.one_line f.first_is ∙ (λ i. since_of bound (f.second_is i) (f.third_is i) (f.fourth_is i))
    ∙ (λ i. since_with bound text (printed_signed current.seconds good.seconds_fit i) (printed_signed current.offset good.offset_fits i))
    ∙ ap (since_at text (unmarked current)) (sym (current_mark_ignored bound text current)) in
    (line_is, ap is_good line_is ∙ since_at-good text (unmarked current) (relative_of bound text (Some current)) good.read, part-since_line-text text current)

module _ (bound : ℕ) (text : List ℕ) (current : Time) (room : List ℕ) (n : ℕ) (e : since_written bound text current room ≡ Ok n) where
  pub since_in_room : take n (room_after (is_written (since_written bound text current room)) (ended (since_line text current)) room) ≡ ended (since_line text current)
  unfolding since_written
  since_in_room = (in_room (is_since bound text current) (since_line text current) room n e).bytes_are

  pub since_read_back_in_room : let written = take n (room_after (is_written (since_written bound text current room)) (ended (since_line text current)) room) in
      (lines_in bound written ≡ since_at text (unmarked current) (relative_of bound text (Some current)) ∷ []) × (are_good (lines_in bound written) ≡ true) × (part written (span_at 6 text) ≡ text)
  unfolding since_written are_good
  since_read_back_in_room =
      let l = since_line text current in
      let good = (in_room (is_since bound text current) l room n e).values_good in
      let back = since_read_back bound text current good in
      let one = ap (lines_in bound) since_in_room ∙ lines_in-ended bound l (since_fields bound text current good).one_line in
      let k : length (ended l) ≡ length l + 1 = length-append l (newline ∷ []) in (
        one ∙ ap (λ (x : Option Line). x ∷ []) back.0,
        ap are_good one ∙ ap (λ (b : Bool). b && true) back.1,
        ap (λ (s : List ℕ). part s (span_at 6 text)) since_in_room ∙ part-append l (newline ∷ []) text 6 (omega (arith, k, length-ended-since_line text current)) ∙ back.2,
      )
