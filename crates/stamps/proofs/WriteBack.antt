-- Writing what was read gives the same bytes. In order: the parts of a line from its fields; a `hull` line is the line that its
-- values make, and they are values that the writer takes (`hull_written_back`); the same of a `since` line
-- (`since_written_back`); so the writer takes exactly the values that read back (`hull_written_iff`, `since_written_iff`); a good
-- book is made of its lines, each read and written again (`book_written_back`).
-- Assumes nothing.
use Rattle.std.specs.Prelude.{Err, None, Ok, Option, Result, Some, ℤ}
use mathlib.Core.Path.{◌≡◌, refl, sym, ap, ◌∙◌}
use mathlib.Core.Bool.{true, false, not, ◌&&◌, false≢true}
use mathlib.Core.Logic.{◌↔◌}
use mathlib.Core.List.{List, [], ◌∷◌, ◌++◌, append_assoc, append-nil}
use Prim.Native.Nat.{ℕ, zero, suc, ◌+◌, ◌-◌, ◌<◌}
use native.Mathlib.Omega.{arith}
use borrow.Author.Tests.{lt-ltb}
use lib.IntN.{nat_abs}
use lib.ListN.{length, take, drop, length-drop}
use lib.Seq.{drop-drop}
use Rattle.text.specs.Bytes.{same}
use Rattle.text.specs.Decimal.{signed}
use Rattle.text.specs.Quote.{bytes}
use Rattle.text.specs.Places.{first_place, has, part}
use Rattle.text.specs.Lines.{tab, newline, field, rest, ended_lines}
use Rattle.text.proofs.Lists.{by_test, both}
use Rattle.text.proofs.Plain.{has_drop}
use Rattle.text.proofs.Runs.{has_nil}
use Rattle.text.proofs.Signed.{length-signed-pos}
use Rattle.text.proofs.Texts.{not_has_cons, not_has_of_cons}
use Rattle.time.specs.Answers.{time_at, unmarked}
use Rattle.time.specs.Header.{header_bytes}
use Rattle.time.specs.declared.Time.{Time}
use Rattle.header.specs.Theorems.{Seconds64}
use Rattle.relative.specs.Relative.{relative_of}
use Rattle.relative.proofs.Unmarked.{current_mark_ignored}
use Rattle.time.proofs.Headers.{length-header_bytes}
use Rattle.stamps.specs.Stamps.{printed, is_whole_minutes, stamp_of}
use Rattle.stamps.specs.Lines.{is_path, is_key, span_at, hull_at, hull_of, since_at, since_with, since_of, line_of, is_good}
use Rattle.stamps.specs.Writing.{hull_line, since_line, is_hull, is_read, is_since}
use Rattle.stamps.specs.Book.{judged, check_of}
use Rattle.stamps.specs.Copies.{joined}
use Rattle.stamps.specs.Theorems.{settled, are_good, is_hull_line, is_since_line, rewritten, rewritten_lines}
use Rattle.stamps.specs.Held.{hull_left, since_left}
use Rattle.stamps.specs.declared.line.Hull.{Hull as HullValue}
use Rattle.stamps.specs.declared.line.Since.{Since as SinceValue}
use Rattle.stamps.specs.declared.line.Line.{Line}
use Rattle.stamps.specs.declared.line.Line.TheVariants.{Hull, Since}
use Rattle.stamps.proofs.Printed.{eq_of_same, printed_bytes}
use Rattle.stamps.proofs.Stamps.{stamp_of-bytes, stamp_of-good}
use Rattle.stamps.proofs.Fields.{first_place-le-length, length_before, has_before, field_rest, has_of_rest}
use Rattle.stamps.proofs.HullLines.{size_of-pos, parts_of_is_key}
use Rattle.stamps.proofs.Books.{joined-ended_lines}
use Rattle.stamps.proofs.Listings.{good_book_iff}
use Rattle.stamps.proofs.ReadBack.{part-hull_line-path, part-hull_line-key, hull_read_back, part-since_line-text, since_read_back}
use Rattle.time.specs.declared.Refusal.{Refusal}

-- ---- the fields of a line as parts of it
-- the field that begins at n, and what follows it
module _ (l m : List ℕ) (n : ℕ) (e : drop n l ≡ m) where
  part_field : part l (span_at n (field m)) ≡ field m
  part_field =
      let k : n + length (field m) - n ≡ first_place tab m = omega (arith, length_before tab m) in
      λ i. take (k i) (e i)

  drop-rest : drop (n + length (field m) + 1) l ≡ rest m
  drop-rest =
      let k : n + length (field m) + 1 ≡ n + (first_place tab m + 1) = omega (arith, length_before tab m) in
      ap (λ (i : ℕ). drop i l) k ∙ sym (drop-drop (first_place tab m + 1) n l) ∙ ap (drop (first_place tab m + 1)) e

-- if the next field is not empty, a tab is in front of it
split_field : (s : List ℕ) → 0 < length (rest s) → s ≡ field s ++ tab ∷ rest s
split_field s h = field_rest s (has_of_rest s h)

not_has_take : (c n : ℕ) (s : List ℕ) → has c s ≡ false → has c (take n s) ≡ false
not_has_take c zero s h = has_nil c
not_has_take c (suc n) [] h = h
not_has_take c (suc n) (b ∷ s) h = let p = not_has_of_cons c b s h in not_has_cons c b (take n s) p.0 (not_has_take c n s p.1)

-- ---- what a line that was read says of its fields
not_good : {A : Type 0} (l : Option Line) → is_good l ≡ true → l ≡ None → A
not_good l g e = absurd (false≢true (sym (ap is_good e) ∙ g))

-- by its first field
module _ {A : Type 0} (bound : ℕ) (l : List ℕ) (x : Option Line) (g : is_good x ≡ true) where
  line_of-good : line_of bound l ≡ x
      → (has newline l ≡ false → field l ≡ bytes "hull" → hull_left (rest l) ≡ x → A)
      → (has newline l ≡ false → field l ≡ bytes "since" → since_left bound (rest l) ≡ x → A)
      → A
  unfolding line_of
  line_of-good e f h =
      by_test (has newline l) (λ n. not_good x g (sym (rw n at e)))
      (λ n.
      by_test (same (field l) (bytes "hull")) (λ m. f n (eq_of_same _ _ m) (rw (n, m) at e))
      (λ m. by_test (same (field l) (bytes "since")) (λ k. h n (eq_of_same _ _ k) (rw (n, m, k) at e)) (λ k. not_good x g (sym (rw (n, m, k) at e)))))

-- `hull` gives no `since` line, and `since` no `hull` line
hull_is_not-since : (path key time : List ℕ) → is_since_line (hull_of path key time) ≡ false
unfolding hull_of
hull_is_not-since path key time = by_test (is_path path && is_key key) (λ e. rw e (hull_at_is_not-since (stamp_of time))) (λ e. rw e)
  where
    hull_at_is_not-since : (x : Option Time) → is_since_line (hull_at path key x) ≡ false
    hull_at_is_not-since (Some t) = refl
    hull_at_is_not-since None = refl

pub since_is_not-hull : (bound : ℕ) (text seconds offset : List ℕ) → is_hull_line (since_of bound text seconds offset) ≡ false
unfolding since_of
since_is_not-hull bound text seconds offset = since_with_is_not-hull (printed seconds) (printed offset)
  where
    since_at_is_not-hull : (c : Time) (a : Result Time Refusal) → is_hull_line (since_at text c a) ≡ false
    since_at_is_not-hull c (Ok t) = refl
    since_at_is_not-hull c (Err r) = refl

    since_with_is_not-hull : (z o : Option ℤ) → is_hull_line (since_with bound text z o) ≡ false
    since_with_is_not-hull (Some z) (Some o) = since_at_is_not-hull (time_at z o) (relative_of bound text (Some (time_at z o)))
    since_with_is_not-hull (Some z) None = refl
    since_with_is_not-hull None o = refl

-- a `hull` line
record HullFields (path key time : List ℕ) (h : HullValue) : Type 0 where
  path_is : is_path path ≡ true
  key_is : is_key key ≡ true
  time_is : stamp_of time ≡ Some h.time
  path_is_at : h.path ≡ span_at 5 path
  key_is_at : h.key ≡ span_at (5 + length path + 1) key

HullFields_of_hull_of : (path key time : List ℕ) (h : HullValue) → hull_of path key time ≡ Some (Hull h) → HullFields path key time h
unfolding hull_of
HullFields_of_hull_of path key time h e =
    by_test (is_path path && is_key key)
    (λ y. let p = both (is_path path) (is_key key) y in HullFields_of_hull_at p.0 p.1 (stamp_of time) refl (rw y at e))
    (λ y. let n : None ≡ Some (Hull h) = rw y at e in let z : ◌≡◌ {A = ℕ} 0 1 = cc in absurd (omega arith))
  where
    HullFields_of_hull_at : is_path path ≡ true → is_key key ≡ true → (x : Option Time) → stamp_of time ≡ x → hull_at path key x ≡ Some (Hull h) → HullFields path key time h
    HullFields_of_hull_at p k (Some t) ex eh =
        let w : record { path = span_at 5 path; key = span_at (5 + length path + 1) key; time = t } ≡ h = cc in
        record { path_is = p; key_is = k; time_is = ex ∙ ap (λ (v : HullValue). Some v.time) w; path_is_at = sym (ap (λ (v : HullValue). v.path) w); key_is_at = sym (ap (λ (v : HullValue). v.key) w) }
    HullFields_of_hull_at p k None ex eh = let z : ◌≡◌ {A = ℕ} 0 1 = cc in absurd (omega arith)

-- a `since` line
record SinceFields (bound : ℕ) (text seconds offset : List ℕ) (x : SinceValue) : Type 0 where
  seconds_are : printed seconds ≡ Some x.current.seconds
  offset_is : printed offset ≡ Some x.current.offset
  text_is : relative_of bound text (Some x.current) ≡ Ok x.cut_off
  text_at : x.text ≡ span_at 6 text

SinceFields_of_since_of : (bound : ℕ) (text seconds offset : List ℕ) (x : SinceValue) → since_of bound text seconds offset ≡ Some (Since x) → SinceFields bound text seconds offset x
unfolding since_of
SinceFields_of_since_of bound text seconds offset x e = SinceFields_of_since_with (printed seconds) (printed offset) refl refl e
  where
    SinceFields_of_since_at : (c : Time) → printed seconds ≡ Some c.seconds → printed offset ≡ Some c.offset
        → (a : Result Time Refusal) → relative_of bound text (Some c) ≡ a → since_at text c a ≡ Some (Since x) → SinceFields bound text seconds offset x
    SinceFields_of_since_at c es eo (Ok t) ea ex =
        let w : record { text = span_at 6 text; current = c; cut_off = t } ≡ x = cc in
        record {
          seconds_are = es ∙ ap (λ (v : SinceValue). Some v.current.seconds) w;
          offset_is = eo ∙ ap (λ (v : SinceValue). Some v.current.offset) w;
          text_is = ap (λ (v : SinceValue). relative_of bound text (Some v.current)) (sym w) ∙ ea ∙ ap (λ (v : SinceValue). Ok v.cut_off) w;
          text_at = sym (ap (λ (v : SinceValue). v.text) w);
        }
    SinceFields_of_since_at c es eo (Err r) ea ex = let z : ◌≡◌ {A = ℕ} 0 1 = cc in absurd (omega arith)

    SinceFields_of_since_with : (z o : Option ℤ) → printed seconds ≡ z → printed offset ≡ o → since_with bound text z o ≡ Some (Since x) → SinceFields bound text seconds offset x
    SinceFields_of_since_with (Some z) (Some o) ez eo ex = SinceFields_of_since_at (time_at z o) ez eo (relative_of bound text (Some (time_at z o))) refl ex
    SinceFields_of_since_with (Some z) None ez eo ex = let n : ◌≡◌ {A = ℕ} 0 1 = cc in absurd (omega arith)
    SinceFields_of_since_with None o ez eo ex = let n : ◌≡◌ {A = ℕ} 0 1 = cc in absurd (omega arith)

-- ---- a line is what is written for its values
three_tabs : (a b c d : List ℕ) → a ++ tab ∷ b ++ tab ∷ c ++ tab ∷ d ≡ a ++ tab ∷ (b ++ tab ∷ (c ++ tab ∷ d))
three_tabs a b c d = simp append_assoc

-- a line has four fields if neither its third field nor what follows it is empty
split_line : (l : List ℕ) → 0 < length (field (rest (rest l))) → 0 < length (rest (rest (rest l)))
    → l ≡ field l ++ tab ∷ field (rest l) ++ tab ∷ field (rest (rest l)) ++ tab ∷ rest (rest (rest l))
split_line l h k =
    let m : 0 < length (rest (rest l)) = omega (arith, length_before tab (rest (rest l)), first_place-le-length tab (rest (rest l))) in
    let n : 0 < length (rest l) = omega (arith, length-drop (first_place tab (rest l) + 1) (rest l)) in
    split_field l n ∙ ap (λ (t : List ℕ). field l ++ tab ∷ t) (split_field (rest l) m)
    ∙ ap (λ (t : List ℕ). field l ++ tab ∷ (field (rest l) ++ tab ∷ t)) (split_field (rest (rest l)) k)
    ∙ sym (three_tabs (field l) (field (rest l)) (field (rest (rest l))) (rest (rest (rest l))))

is_hull_of : (path key : List ℕ) (t : Time) → is_path path ≡ true → is_key key ≡ true → is_whole_minutes t.offset ≡ true → nat_abs t.offset < 360000 → is_hull path key t ≡ true
unfolding is_hull
is_hull_of path key t p k w h = rw (p, k, w, lt-ltb (nat_abs t.offset) 360000 h)

is_since_of : (bound : ℕ) (text : List ℕ) (c t : Time) → has tab text ≡ false → has newline text ≡ false → relative_of bound text (Some c) ≡ Ok t → is_since bound text c ≡ true
unfolding is_since
is_since_of bound text c t a b e = rw (a, b, e)

abbrev HullBack : List ℕ → HullValue → Type 0
HullBack l h = (l ≡ hull_line (part l h.path) (part l h.key) h.time) × (is_hull (part l h.path) (part l h.key) h.time ≡ true)

hull_back : (l : List ℕ) (h : HullValue) → field l ≡ bytes "hull" → hull_left (rest l) ≡ Some (Hull h) → HullBack l h
unfolding hull_line
hull_back l h n e =
    let path = field (rest l) in
    let key = field (rest (rest l)) in
    let time = rest (rest (rest l)) in
    let f = HullFields_of_hull_of path key time h e in
    let b : time ≡ header_bytes h.time = stamp_of-bytes time h.time f.time_is in
    let g = stamp_of-good time h.time f.time_is in
    let d : drop 5 l ≡ rest l = ap (λ (t : List ℕ). drop (0 + length t + 1) l) (sym n) ∙ drop-rest l l 0 refl in
    let p : path ≡ part l h.path = sym (ap (part l) f.path_is_at ∙ part_field l (rest l) 5 d) in
    let k : key ≡ part l h.key = sym (ap (part l) f.key_is_at ∙ part_field l (rest (rest l)) (5 + length path + 1) (drop-rest l (rest l) 5 d)) in
    let third : 0 < length key = omega (arith, (parts_of_is_key key f.key_is).0) in
    let fourth : 0 < length time = omega (arith, ap length b, length-header_bytes h.time, size_of-pos h.time.seconds) in (
      split_line l third fourth ∙ (λ i. n i ++ tab ∷ p i ++ tab ∷ k i ++ tab ∷ b i),
      sym (λ i. is_hull (p i) (k i) h.time) ∙ is_hull_of path key h.time f.path_is f.key_is g.0 g.1,
    )

abbrev SinceBack : ℕ → List ℕ → SinceValue → Type 0
SinceBack bound l x = (l ≡ since_line (part l x.text) x.current) × (is_since bound (part l x.text) x.current ≡ true)

since_back : (bound : ℕ) (l : List ℕ) (x : SinceValue) → has newline l ≡ false → field l ≡ bytes "since" → since_left bound (rest l) ≡ Some (Since x) → SinceBack bound l x
unfolding since_line
since_back bound l x free n e =
    let text = field (rest l) in
    let seconds = field (rest (rest l)) in
    let offset = rest (rest (rest l)) in
    let f = SinceFields_of_since_of bound text seconds offset x e in
    let s : seconds ≡ signed x.current.seconds = printed_bytes seconds x.current.seconds f.seconds_are in
    let o : offset ≡ signed x.current.offset = printed_bytes offset x.current.offset f.offset_is in
    let d : drop 6 l ≡ rest l = ap (λ (t : List ℕ). drop (0 + length t + 1) l) (sym n) ∙ drop-rest l l 0 refl in
    let p : text ≡ part l x.text = sym (ap (part l) f.text_at ∙ part_field l (rest l) 6 d) in
    let third : 0 < length seconds = omega (arith, ap length s, length-signed-pos x.current.seconds) in
    let fourth : 0 < length offset = omega (arith, ap length o, length-signed-pos x.current.offset) in (
      split_line l third fourth ∙ (λ i. n i ++ tab ∷ p i ++ tab ∷ s i ++ tab ∷ o i),
      sym (ap (λ (t : List ℕ). is_since bound t x.current) p)
          ∙ is_since_of bound text x.current x.cut_off (has_before tab (rest l)) (not_has_take newline (first_place tab (rest l)) (rest l) (has_drop newline l (first_place tab l + 1) free)) f.text_is,
    )

-- ---- the theorems
pub hull_written_back : (bound : ℕ) (l : List ℕ) (h : HullValue) → line_of bound l ≡ Some (Hull h)
    → (l ≡ hull_line (part l h.path) (part l h.key) h.time) × (is_hull (part l h.path) (part l h.key) h.time ≡ true)
hull_written_back bound l h e =
    line_of-good bound l (Some (Hull h)) refl e (λ n m k. hull_back l h m k) (λ n m k. absurd (false≢true (sym (since_is_not-hull bound _ _ _) ∙ ap is_hull_line k)))

pub since_written_back : (bound : ℕ) (l : List ℕ) (x : SinceValue) → line_of bound l ≡ Some (Since x)
    → (l ≡ since_line (part l x.text) x.current) × (is_since bound (part l x.text) x.current ≡ true)
since_written_back bound l x e =
    line_of-good bound l (Some (Since x)) refl e (λ n m k. absurd (false≢true (sym (hull_is_not-since _ _ _) ∙ ap is_since_line k))) (λ n m k. since_back bound l x n m k)

-- so the writer takes exactly the values that read back
pub hull_written_iff : (bound : ℕ) (path key : List ℕ) (t : Time) → Seconds64 t.seconds
    → (is_hull path key t ≡ true) ↔ (line_of bound (hull_line path key t) ≡ hull_at path key (Some (settled t)))
unfolding is_hull
hull_written_iff bound path key t r = (
  λ e. (hull_read_back bound path key t e r).0,
  λ e. sym (λ i. is_hull (part-hull_line-path path key t i) (part-hull_line-key path key t i) t) ∙ (hull_written_back bound (hull_line path key t) _ e).1,
)

is_since-unmarked : (bound : ℕ) (text : List ℕ) (current : Time) → is_since bound text current ≡ is_since bound text (unmarked current)
unfolding is_since
is_since-unmarked bound text current = ap (λ (a : Result Time Refusal). not (has tab text) && not (has newline text) && is_read a) (current_mark_ignored bound text current)

pub since_written_iff : (bound : ℕ) (text : List ℕ) (current : Time)
    → (is_since bound text current ≡ true)
    ↔ ((line_of bound (since_line text current) ≡ since_at text (unmarked current) (relative_of bound text (Some current))) × (is_good (line_of bound (since_line text current)) ≡ true))
since_written_iff bound text current = (
  λ e. let back = since_read_back bound text current e in (back.0, back.1),
  λ e. is_since_of_answer (relative_of bound text (Some current)) e.0 e.1,
)
  where
    is_since_of_answer : (a : Result Time Refusal) → line_of bound (since_line text current) ≡ since_at text (unmarked current) a → is_good (line_of bound (since_line text current)) ≡ true → is_since bound text current ≡ true
    is_since_of_answer (Ok t) e g =
        is_since-unmarked bound text current ∙ sym (ap (λ (s : List ℕ). is_since bound s (unmarked current)) (part-since_line-text text current))
        ∙ (since_written_back bound (since_line text current) _ e).1
    is_since_of_answer (Err r) e g = not_good (line_of bound (since_line text current)) g e

pub line_written_back : (bound : ℕ) (l : List ℕ) → is_good (line_of bound l) ≡ true → rewritten bound l (line_of bound l) ≡ l
line_written_back bound l g = rewritten_of_good (line_of bound l) refl g
  where
    rewritten_of_good : (x : Option Line) → line_of bound l ≡ x → is_good x ≡ true → rewritten bound l x ≡ l
    rewritten_of_good (Some (Hull h)) e y = let k = hull_written_back bound l h e in rw k.1 (sym k.0)
    rewritten_of_good (Some (Since x)) e y = let k = since_written_back bound l x e in rw k.1 (sym k.0)
    rewritten_of_good None e y = absurd (false≢true y)

lines_written_back : (bound : ℕ) (ls : List (List ℕ)) → are_good (judged bound ls) ≡ true → rewritten_lines bound ls ≡ ls
unfolding are_good judged rewritten_lines
lines_written_back bound [] g = refl
lines_written_back bound (l ∷ ls) g =
    let p = both (is_good (line_of bound l)) (are_good (judged bound ls)) g in
    λ i. line_written_back bound l p.0 i ∷ lines_written_back bound ls p.1 i

pub book_written_back : (bound : ℕ) (book : List ℕ) → check_of bound book ≡ Ok tt → joined (rewritten_lines bound (ended_lines book)) ≡ book
book_written_back bound book e =
    let g = (good_book_iff bound book).0 e in
    ap joined (lines_written_back bound (ended_lines book) g.2) ∙ sym (append-nil (joined (ended_lines book))) ∙ ap (λ (t : List ℕ). joined (ended_lines book) ++ t) (sym g.1)
    ∙ joined-ended_lines book
