-- The last keys of the paths in a list. In order: the path and the key of a `hull` line, found from its bytes; a line that is kept has the last
-- key of its path (`last_key-kept`); the same of the lines of a table, and of the line that is found for a path; a path that is not found.
-- Assumes nothing.
use Rattle.std.specs.Prelude.{None, Option, Some}
use mathlib.Core.Path.{◌≡◌, refl, sym, ap, ◌∙◌}
use mathlib.Core.Bool.{Bool, true, false, not, ◌||◌, false≢true}
use mathlib.Core.List.{List, [], ◌∷◌, ◌++◌, append_assoc}
use Prim.Native.Nat.{ℕ, zero, suc, ◌+◌, ◌≤◌, ◌<◌}
use native.Mathlib.Omega.{arith}
use borrow.Author.Tests.{ltb-true, ltb-false, eqb-true, eqb-false}
use lib.Dec.{ltb, eqb}
use lib.ListN.{length, take, drop, get_or, length-append, take-append-drop}
use lib.Seq.{take_at, drop_at}
use Rattle.text.specs.Bytes.{same}
use Rattle.text.specs.Quote.{bytes}
use Rattle.text.specs.Places.{before, first_place, part}
use Rattle.text.specs.Lines.{tab, newline, ended_lines}
use Rattle.text.proofs.Lists.{by_test, both}
use Rattle.time.specs.Header.{header_bytes}
use Rattle.time.specs.declared.Time.{Time}
use Rattle.stamps.specs.Lines.{line_of}
use Rattle.stamps.specs.Writing.{hull_line}
use Rattle.stamps.specs.Theorems.{is_hull_line}
use Rattle.stamps.specs.declared.line.Line.{Line}
use Rattle.stamps.specs.declared.line.Line.TheVariants.{Hull, Since}
use Rattle.stamps.specs.declared.line.Hull.{Hull as HullValue}
use Rattle.stamps.proofs.Printed.{same_self, eq_of_same}
use Rattle.stamps.proofs.HullLines.{parts_of_is_key}
use Rattle.stamps.proofs.Writing.{good_hull}
use Rattle.stamps.proofs.WriteBack.{hull_written_back}
use Rattle.compact.specs.Compact.{has_path, holds_path, is_kept, kept}
use Rattle.compact.specs.Held.{path_at, bucket_of, line_at, lines_down, found_number, IsTable}
use Rattle.compact.proofs.Paths.{path_of_hull}
use Rattle.compact.proofs.Kept.{kept_taken, kept_dropped, holds_path-append, same_paths}
use Rattle.compact.proofs.Chains.{number_in-le, number_in-path}
use Rattle.merge.specs.Merge.{key_in, last_key}
use Rattle.merge.specs.Theorems.{are_hulls}
use Rattle.merge.specs.Held.{key_at}

-- ---- a `hull` line at the front of a text
-- the bytes of a line: `hull`, the path and two tabs, the key, and what follows
hull_line-cut : (path key : List ℕ) (t : Time) (r : List ℕ)
    → hull_line path key t ++ r ≡ (bytes "hull" ++ tab ∷ path ++ tab ∷ []) ++ (key ++ (tab ∷ header_bytes t ++ r))
unfolding hull_line
hull_line-cut path key t r =
    append_assoc ((bytes "hull" ++ tab ∷ path) ++ tab ∷ key) (tab ∷ header_bytes t) r
    ∙ append_assoc (bytes "hull" ++ tab ∷ path) (tab ∷ key) (tab ∷ header_bytes t ++ r)
    ∙ sym (append_assoc (bytes "hull" ++ tab ∷ path) (tab ∷ []) (key ++ (tab ∷ header_bytes t ++ r)))

module _ (bound : ℕ) (l : List ℕ) (h : HullValue) (r : List ℕ) (e : line_of bound l ≡ Some (Hull h)) where
  pub key_at-hull : key_at (l ++ r) ≡ part l h.key
  unfolding key_at
  key_at-hull =
      let path = part l h.path in
      let key = part l h.key in
      let back = hull_written_back bound l h e in
      let sixteen : length key ≡ 16 = (parts_of_is_key key (good_hull path key h.time back.1).key_is).0 in
      let front = bytes "hull" ++ tab ∷ path ++ tab ∷ [] in
      let cut : l ++ r ≡ front ++ (key ++ (tab ∷ header_bytes h.time ++ r)) = ap (λ (s : List ℕ). s ++ r) back.0 ∙ hull_line-cut path key h.time r in
      let size : length front ≡ 5 + (length (path_at (l ++ r)) + 1) = omega (arith, length-append (bytes "hull" ++ tab ∷ path) (tab ∷ []), ap length (path_of_hull bound l h r e).0) in
      ap (λ (s : List ℕ). take 16 (drop (5 + (length (path_at (l ++ r)) + 1)) s)) cut
      ∙ ap (take 16) (drop_at front (key ++ (tab ∷ header_bytes h.time ++ r)) (5 + (length (path_at (l ++ r)) + 1)) size)
      ∙ take_at key (tab ∷ header_bytes h.time ++ r) 16 sixteen

-- ---- a line that is kept has the last key of its path
module _ (bound : ℕ) (p : List ℕ) where
  -- a line among others that has the path
  holds_of_member : (above : List (List ℕ)) (l : List ℕ) (below : List (List ℕ)) → has_path p l (line_of bound l) ≡ true → holds_path bound p (above ++ l ∷ below) ≡ true
  unfolding holds_path
  holds_of_member above l below h = holds_path-append bound p above (l ∷ below) ∙ rw h (or-true (holds_path bound p above))
    where
      or-true : (b : Bool) → (b || true) ≡ true
      or-true true = refl
      or-true false = refl

  last_key-below : (x : List ℕ) (xs : List (List ℕ)) → holds_path bound p xs ≡ true → last_key bound p (x ∷ xs) ≡ last_key bound p xs
  unfolding last_key
  last_key-below x xs h = rw h

  -- a line that is kept in front of these, and has the path
  gone_of_kept : (x : List ℕ) (xs : List (List ℕ)) (y : Option Line) → is_kept bound x y xs ≡ true → has_path p x y ≡ true → holds_path bound p xs ≡ false
  gone_of_kept x xs (Some (Hull h)) k has =
      by_test (holds_path bound p xs)
      (λ t. absurd (false≢true (sym (ap not (ap (λ (q : List ℕ). holds_path bound q xs) (eq_of_same (part x h.path) p has) ∙ t)) ∙ k)))
      (λ f. f)
  gone_of_kept x xs (Some (Since z)) k has = absurd (false≢true has)
  gone_of_kept x xs None k has = absurd (false≢true has)

  pub last_key-kept : (ls above : List (List ℕ)) (l : List ℕ) (below : List (List ℕ)) → kept bound ls ≡ above ++ l ∷ below → has_path p l (line_of bound l) ≡ true
      → last_key bound p ls ≡ key_in l (line_of bound l)
  unfolding kept last_key
  last_key-kept [] [] l below e has = absurd (omega (arith, ap length e))
  last_key-kept [] (a ∷ above) l below e has = absurd (omega (arith, ap length e))
  last_key-kept (x ∷ xs) above l below e has =
      by_test (is_kept bound x (line_of bound x) xs) (λ y. first above y (sym (kept_taken bound x xs y) ∙ e) (λ a f. last_key-kept xs a l below f has))
      (λ n. let f = sym (kept_dropped bound x xs n) ∙ e in later above f (last_key-kept xs above l below f has))
    where
      later : (above : List (List ℕ)) → kept bound xs ≡ above ++ l ∷ below → last_key bound p xs ≡ key_in l (line_of bound l) → last_key bound p (x ∷ xs) ≡ key_in l (line_of bound l)
      later above f rest =
          let held : holds_path bound p xs ≡ true = sym (same_paths bound p xs) ∙ ap (holds_path bound p) f ∙ holds_of_member above l below has in
          last_key-below x xs held ∙ rest

      first : (above : List (List ℕ)) → is_kept bound x (line_of bound x) xs ≡ true → x ∷ kept bound xs ≡ above ++ l ∷ below
          → ((a : List (List ℕ)) → kept bound xs ≡ a ++ l ∷ below → last_key bound p xs ≡ key_in l (line_of bound l)) → last_key bound p (x ∷ xs) ≡ key_in l (line_of bound l)
      first [] y f rest =
          let q : x ≡ l = cc in
          let own : has_path p x (line_of bound x) ≡ true = ap (λ (m : List ℕ). has_path p m (line_of bound m)) q ∙ has in
          rw (gone_of_kept x xs (line_of bound x) y own, own) (ap (λ (m : List ℕ). key_in m (line_of bound m)) q)
      first (a ∷ above) y f rest = let g : kept bound xs ≡ above ++ l ∷ below = cc in later above g (rest above g)

-- ---- `hull` lines among others
module _ (bound : ℕ) where
  are_hulls-kept : (ls : List (List ℕ)) → are_hulls bound ls ≡ true → are_hulls bound (kept bound ls) ≡ true
  unfolding are_hulls kept
  are_hulls-kept [] e = refl
  are_hulls-kept (l ∷ ls) e =
      let q = both (is_hull_line (line_of bound l)) (are_hulls bound ls) e in
      by_test (is_kept bound l (line_of bound l) ls) (λ y. rw (y, q.0) (are_hulls-kept ls q.1)) (λ n. rw n (are_hulls-kept ls q.1))

  hull_of_member : (above : List (List ℕ)) (l : List ℕ) (below : List (List ℕ)) → are_hulls bound (above ++ l ∷ below) ≡ true → is_hull_line (line_of bound l) ≡ true
  unfolding are_hulls
  hull_of_member [] l below e = (both (is_hull_line (line_of bound l)) (are_hulls bound below) e).0
  hull_of_member (a ∷ above) l below e = hull_of_member above l below (both (is_hull_line (line_of bound a)) (are_hulls bound (above ++ l ∷ below)) e).1

-- the values of a `hull` line
pub hull_of_line : (x : Option Line) → is_hull_line x ≡ true → (h : HullValue) × (x ≡ Some (Hull h))
hull_of_line (Some (Hull h)) e = (h, refl)
hull_of_line (Some (Since x)) e = absurd (false≢true e)
hull_of_line None e = absurd (false≢true e)

-- ---- the lines of a table
lines_down-split : (book places : List ℕ) (count k : ℕ) → k < count
    → (above : List (List ℕ)) × (below : List (List ℕ)) × (lines_down book places count ≡ above ++ line_at book (get_or places k 0) ∷ below)
unfolding lines_down
lines_down-split book places zero k h = absurd (omega arith)
lines_down-split book places (suc n) k h =
    by_test (eqb k n) (λ y. ([], lines_down book places n, ap (λ (j : ℕ). line_at book (get_or places j 0) ∷ lines_down book places n) (sym (eqb-true k n y))))
    (λ f.
    let less : k < n = lt_of_ne k n f h in
    let split = lines_down-split book places n k less in
    (line_at book (get_or places n 0) ∷ split.0, split.1, ap (λ (ls : List (List ℕ)). line_at book (get_or places n 0) ∷ ls) split.2))
  where
    lt_of_ne : (k n : ℕ) → eqb k n ≡ false → k < suc n → k < n
    lt_of_ne k n f h = by_test (ltb k n) (λ y. ltb-true k n y) (λ g. absurd (eqb-false k n f (omega (arith, ltb-false k n g))))

-- a line that is kept of a list of `hull` lines, by the text s from its place on: its path and its key are found there, and its key is the last one
-- of its path
pub record KeptLine (bound : ℕ) (ls : List (List ℕ)) (l s : List ℕ) : Type 0 where
  pub hull : HullValue
  pub line_is : line_of bound l ≡ Some (Hull hull)
  pub path_is : path_at s ≡ part l hull.path
  pub some : 0 < length (path_at s)
  pub held : holds_path bound (path_at s) ls ≡ true
  pub last : last_key bound (path_at s) ls ≡ key_at s

module _ (bound : ℕ) (list places : List ℕ) (count : ℕ) (hulls : are_hulls bound (ended_lines list) ≡ true) (lines : lines_down list places count ≡ kept bound (ended_lines list)) where
  pub kept_line : (k : ℕ) → k < count → KeptLine bound (ended_lines list) (line_at list (get_or places k 0)) (drop (get_or places k 0) list)
  kept_line k lt =
      let ls = ended_lines list in
      let s = drop (get_or places k 0) list in
      let l = before newline s in
      let r = drop (first_place newline s) s in
      let split = lines_down-split list places count k lt in
      let members : kept bound ls ≡ split.0 ++ l ∷ split.1 = sym lines ∙ split.2 in
      let value = hull_of_line (line_of bound l) (hull_of_member bound split.0 l split.1 (sym (ap (are_hulls bound) members) ∙ are_hulls-kept bound ls hulls)) in
      let h = value.0 in
      let whole : l ++ r ≡ s = take-append-drop (first_place newline s) s in
      let path = path_of_hull bound l h r value.1 in
      let path_is : path_at s ≡ part l h.path = ap path_at (sym whole) ∙ path.0 in
      let key_is : key_at s ≡ part l h.key = ap key_at (sym whole) ∙ key_at-hull bound l h r value.1 in
      let has : has_path (path_at s) l (line_of bound l) ≡ true = ap (has_path (path_at s) l) value.1 ∙ ap (λ (q : List ℕ). same q (path_at s)) (sym path_is) ∙ same_self (path_at s) in
      record {
        hull = h;
        line_is = value.1;
        path_is = path_is;
        some = omega (arith, ap length path_is, path.1);
        held = sym (same_paths bound (path_at s) ls) ∙ ap (holds_path bound (path_at s)) members ∙ holds_of_member bound (path_at s) split.0 l split.1 has;
        last = last_key-kept bound (path_at s) ls split.0 l split.1 members has ∙ ap (key_in l) value.1 ∙ sym key_is;
      }

-- ---- the line that is found for a path
pub number-le : (bound : ℕ) (list heads links places : List ℕ) (count : ℕ) → IsTable bound list heads links places count → (p : List ℕ) → found_number list heads links places p ≤ count
number-le bound list heads links places count table p =
    let b = bucket_of p in
    let head = get_or heads b 0 in
    omega (arith, table.heads_le b, number_in-le list links places p head head (λ k lt. table.down k (omega (arith, table.heads_le b))))

module _ (bound : ℕ) (list heads links places : List ℕ) (count : ℕ) (hulls : are_hulls bound (ended_lines list) ≡ true) (table : IsTable bound list heads links places count)
    (p : List ℕ) (some : 0 < length p) where
  abbrev number : ℕ
  number = found_number list heads links places p

  pub not-held : number ≡ 0 → holds_path bound p (ended_lines list) ≡ false
  not-held z = sym (table.known p some) ∙ ap (ltb 0) z

  module _ (n : ℕ) (e : number ≡ suc n) where
    pub found_path : path_at (drop (get_or places n 0) list) ≡ p
    found_path = number_in-path list links places p (get_or heads (bucket_of p) 0) (get_or heads (bucket_of p) 0) n e

    found_line : KeptLine bound (ended_lines list) (line_at list (get_or places n 0)) (drop (get_or places n 0) list)
    found_line = kept_line bound list places count hulls table.lines_are n (omega (arith, number-le bound list heads links places count table p))

    pub found_held : holds_path bound p (ended_lines list) ≡ true
    found_held = ap (λ (q : List ℕ). holds_path bound q (ended_lines list)) (sym found_path) ∙ found_line.held

    pub found_key : last_key bound p (ended_lines list) ≡ key_at (drop (get_or places n 0) list)
    found_key = ap (λ (q : List ℕ). last_key bound q (ended_lines list)) (sym found_path) ∙ found_line.last
