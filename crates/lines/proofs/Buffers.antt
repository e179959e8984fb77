-- Lines in a buffer, whose answers are put one after the other into a room: from the start, by one line more, and to the end.
-- Assumes nothing.
use mathlib.Core.Path.{◌≡◌, refl, sym, ap, ◌∙◌}
use mathlib.Core.List.{List, [], ◌∷◌, ◌++◌, append_assoc, append-nil}
use Prim.Native.Nat.{ℕ, ◌+◌, ◌-◌, ◌≤◌, ◌<◌}
use native.Mathlib.Omega.{arith}
use borrow.Author.Tests.{leb-true, leb-false, lt-ltb, le-ltb}
use lib.ListN.{length, take, drop, length-drop, length-append, take-append-drop}
use lib.Seq.{drop-drop, length-take-le, take_at, drop_at}
use Rattle.text.specs.Lines.{newline, ended_lines, taken_by}
use Rattle.text.specs.Places.{first_place}
use Rattle.text.specs.Room.{fits, room_after}
use Rattle.text.proofs.Lists.{by_test}
use Rattle.text.proofs.Lines.{ended_lines-none, ended_lines_at}
use Rattle.lines.specs.Rows.{written_in, answer_room}
use Rattle.lines.specs.Answers.{row_of, answer_line}
use Rattle.lines.specs.Lines.{fitting, answers_of, answered, step_of, room_after_step}
use Rattle.lines.proofs.Printing.{length-row_bytes}

-- ---- answers put one after the other: t bytes of s are answered, by w bytes of the room
pub record Going (s room now : List ℕ) (t w : ℕ) : Type 0 where
  pub answers : answers_of (answered s (length room)) ≡ take w now ++ answers_of (fitting (length room - w) (ended_lines (drop t s)))
  pub passed : taken_by (answered s (length room)) ≡ t + taken_by (fitting (length room - w) (ended_lines (drop t s)))
  pub beyond : drop w now ≡ drop w room
  pub within : w ≤ length room
  pub size : length now ≡ length room
  pub inside : t ≤ length s
  pub none : t ≡ 0 → w ≡ 0

pub going_start : (s room : List ℕ) → Going s room room 0 0
going_start s room =
    let e : length room ≡ length room - 0 = omega arith in
    record { answers = ap (λ (k : ℕ). answers_of (answered s k)) e; passed = omega (arith, ap (λ (k : ℕ). taken_by (answered s k)) e); beyond = refl; within = omega arith; size = refl; inside = omega arith; none = λ e. refl }

-- no further line fits
going_stop : {s room now : List ℕ} {t w : ℕ} → Going s room now t w → fitting (length room - w) (ended_lines (drop t s)) ≡ []
    → (record { taken = t; written = w } ≡ step_of s (length room)) × (now ≡ room_after_step s room)
unfolding answers_of taken_by
going_stop {s} {room} {now} {t} {w} g e =
    let a : answers_of (answered s (length room)) ≡ take w now = g.answers ∙ ap (λ (ls : List (List ℕ)). take w now ++ answers_of ls) e ∙ append-nil (take w now) in
    let p : t ≡ taken_by (answered s (length room)) = omega (arith, g.passed, ap taken_by e) in
    let l : w ≤ length now = omega (arith, g.within, g.size) in
    let q : w ≡ length (answers_of (answered s (length room))) = omega (arith, ap length a, length-take-le w now l) in (
      (λ i. record { taken = p i; written = q i }),
      sym (take-append-drop w now) ∙ (λ i. sym a i ++ g.beyond i) ∙ ap (λ (v : ℕ). answers_of (answered s (length room)) ++ drop v room) q,
    )

pub fitting_fits : (k : ℕ) (l : List ℕ) (ls : List (List ℕ)) → length (answer_line l) ≤ k → fitting k (l ∷ ls) ≡ l ∷ fitting (k - length (answer_line l)) ls
unfolding fitting
fitting_fits k l ls h = rw (le-ltb k (length (answer_line l)) h)

pub fitting_full : (k : ℕ) (l : List ℕ) (ls : List (List ℕ)) → k < length (answer_line l) → fitting k (l ∷ ls) ≡ []
unfolding fitting
fitting_full k l ls h = rw (lt-ltb k (length (answer_line l)) h)

-- one line more, whose answer fits
pub going_again : {s room now : List ℕ} {t w : ℕ} → Going s room now t w → (rest line now' : List ℕ) (e n : ℕ)
    → rest ≡ drop t s → e ≡ first_place newline rest → e < length rest → line ≡ take e rest
    → n ≡ written_in (answer_line line) (drop w now) → 0 < n → now' ≡ take w now ++ room_after (fits (answer_line line) (drop w now)) (answer_line line) (drop w now)
    → Going s room now' (t + (e + 1)) (w + n)
unfolding answers_of taken_by
going_again {s} {room} {now} {t} {w} g rest line now' e n pr pe h pl pn some pm =
    let a = answer_line line in
    let d = drop w now in
    let k : w ≤ length now = omega (arith, g.within, g.size) in
    by_test (fits a d)
    (λ y.
    let m : n ≡ length a = rw y at pn in
    let r : now' ≡ take w now ++ (a ++ drop (length a) d) = rw y at pm in
    let u : length a ≤ length d = leb-true (length a) (length d) y in
    let ld : length d ≡ length now - w = length-drop w now in
    let f : length a ≤ length room - w = omega (arith, g.size) in
    let v : length room - w - length a ≡ length room - (w + n) = omega arith in
    let behind = fitting (length room - (w + n)) (ended_lines (drop (t + (e + 1)) s)) in
    let fit : fitting (length room - w) (ended_lines (drop t s)) ≡ line ∷ behind =
    ap (fitting (length room - w)) (ended_lines_at s rest line t e pr pe h pl) ∙ fitting_fits (length room - w) line (ended_lines (drop (t + (e + 1)) s)) f
    ∙ ap (λ (j : ℕ). line ∷ fitting j (ended_lines (drop (t + (e + 1)) s))) v in
    let whole : now' ≡ (take w now ++ a) ++ drop (length a) d = r ∙ sym (append_assoc (take w now) a (drop (length a) d)) in
    let front : length (take w now ++ a) ≡ w + n = omega (arith, length-append (take w now) a, length-take-le w now k) in
    let le : length line ≡ e = ap length pl ∙ length-take-le e rest (omega arith) in
    record {
      answers = g.answers ∙ ap (λ (ls : List (List ℕ)). take w now ++ answers_of ls) fit ∙ sym (append_assoc (take w now) a (answers_of behind))
          ∙ ap (λ (b : List ℕ). b ++ answers_of behind) (sym (ap (take (w + n)) whole ∙ take_at (take w now ++ a) (drop (length a) d) (w + n) front));
      passed = omega (arith, g.passed, ap taken_by fit, le);
      beyond = ap (drop (w + n)) whole ∙ drop_at (take w now ++ a) (drop (length a) d) (w + n) front ∙ (λ i. drop (sym m i) (g.beyond i)) ∙ drop-drop n w room;
      within = omega (arith, g.size, g.within);
      size = omega (arith, ap length whole, length-append (take w now ++ a) (drop (length a) d), length-drop (length a) d, front, g.size, g.within);
      inside = omega (arith, ap length pr, length-drop t s, g.inside);
      none = λ z. absurd (omega (arith, z));
    })
    (λ y. let z : n ≡ 0 = rw y at pn in absurd (omega arith))

-- ---- where it stops
abbrev Stopped : List ℕ → List ℕ → List ℕ → ℕ → ℕ → Type 0
Stopped s room now t w =
    (record { taken = t; written = w } ≡ step_of s (length room))
    × ((now ≡ room_after_step s room) × ((t ≤ length s) × (w ≤ length room) × (answer_room ≤ length room → t ≡ 0 → ended_lines s ≡ [])))

-- no line has its end any more
pub stop_no_line : {s room now : List ℕ} {t w : ℕ} → Going s room now t w → (rest : List ℕ) (e : ℕ) → rest ≡ drop t s → e ≡ first_place newline rest → length rest ≤ e
    → Stopped s room now t w
unfolding fitting
stop_no_line {s} {room} {now} {t} {w} g rest e pr pe h =
    let n : ended_lines (drop t s) ≡ [] = ap ended_lines (sym pr) ∙ ended_lines-none rest (omega arith) in
    let p = going_stop g (ap (fitting (length room - w)) n) in
    (p.0, (p.1, (g.inside, g.within, λ l z. ap (λ (v : ℕ). ended_lines (drop v s)) (sym z) ∙ n)))

answer_line-some : (s : List ℕ) → 0 < length (answer_line s)
unfolding answer_line
answer_line-some s = omega (arith, length-row_bytes (row_of s))

-- the next answer does not fit
pub stop_full : {s room now : List ℕ} {t w : ℕ} → Going s room now t w → (rest line now' : List ℕ) (e n : ℕ)
    → rest ≡ drop t s → e ≡ first_place newline rest → e < length rest → line ≡ take e rest
    → n ≡ written_in (answer_line line) (drop w now) → n ≡ 0 → (answer_room ≤ length (drop w now) → 0 < n) → now' ≡ take w now ++ room_after (fits (answer_line line) (drop w now)) (answer_line line) (drop w now)
    → Stopped s room now' t w
stop_full {s} {room} {now} {t} {w} g rest line now' e n pr pe h pl pn z some pm =
    let a = answer_line line in
    let d = drop w now in
    let ld : length d ≡ length now - w = length-drop w now in
    by_test (fits a d) (λ y. let m : n ≡ length a = rw y at pn in absurd (omega (arith, answer_line-some line)))
    (λ y.
    let r : now' ≡ now = rw y at pm ∙ take-append-drop w now in
    let u : length room - w < length a = omega (arith, leb-false (length a) (length d) y, g.size) in
    let p = going_stop g (ap (fitting (length room - w)) (ended_lines_at s rest line t e pr pe h pl) ∙ fitting_full (length room - w) line (ended_lines (drop (t + (e + 1)) s)) u) in
    (p.0, (r ∙ p.1, (g.inside, g.within, λ l x. let o = g.none x in let q = some (omega (arith, g.size)) in absurd (omega arith)))))
