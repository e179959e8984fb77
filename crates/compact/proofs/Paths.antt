-- The path of a good line, found from its bytes. In order: the path of a `hull` line, which is not empty; that of a `since` line, which is;
-- a line is kept exactly if its path is empty or no line below has it.
-- Assumes nothing.
use Rattle.std.specs.Prelude.{None, Option, Some}
use mathlib.Core.Path.{◌≡◌, refl, sym, ap, ◌∙◌}
use mathlib.Core.Bool.{Bool, true, false, not, ◌||◌, false≢true}
use mathlib.Core.List.{List, [], ◌∷◌, ◌++◌, append_assoc}
use Prim.Native.Nat.{ℕ, ◌<◌}
use native.Mathlib.Omega.{arith}
use lib.ListN.{length}
use Rattle.text.specs.Bytes.{same}
use Rattle.text.specs.Places.{before, part}
use Rattle.text.specs.Lines.{tab}
use Rattle.text.specs.Quote.{bytes}
use Rattle.time.specs.Header.{header_bytes}
use Rattle.time.specs.declared.Time.{Time}
use Rattle.text.proofs.Lists.{same_of_length}
use Rattle.stamps.specs.Lines.{is_path_byte, line_of, is_good}
use Rattle.stamps.specs.Writing.{hull_line, since_line}
use Rattle.stamps.specs.declared.line.Line.{Line}
use Rattle.stamps.specs.declared.line.Line.TheVariants.{Hull, Since}
use Rattle.stamps.specs.declared.line.Hull.{Hull as HullValue}
use Rattle.stamps.specs.declared.line.Since.{Since as SinceValue}
use Rattle.stamps.proofs.Fields.{is_text_byte_of_is_path_byte, field-append}
use Rattle.stamps.proofs.HullLines.{parts_of_is_path}
use Rattle.stamps.proofs.Writing.{good_hull}
use Rattle.stamps.proofs.ReadBack.{Text_of_every, no_tab}
use Rattle.stamps.proofs.WriteBack.{hull_written_back, since_written_back}
use Rattle.compact.specs.Compact.{has_path, holds_path, is_kept}
use Rattle.compact.specs.Held.{opens_hull, path_at}

-- ---- a line of `hull`
path_at-hull_line : (path key : List ℕ) (t : Time) (r : List ℕ) → before tab (path ++ tab ∷ ((key ++ tab ∷ header_bytes t) ++ r)) ≡ path → path_at (hull_line path key t ++ r) ≡ path
unfolding hull_line path_at opens_hull
path_at-hull_line path key t r e =
    let a : (bytes "hull" ++ tab ∷ path) ++ tab ∷ key ++ tab ∷ header_bytes t ≡ (bytes "hull" ++ tab ∷ []) ++ (path ++ (tab ∷ key ++ tab ∷ header_bytes t)) =
    append_assoc (bytes "hull" ++ tab ∷ path) (tab ∷ key) (tab ∷ header_bytes t) ∙ append_assoc (bytes "hull" ++ tab ∷ []) path (tab ∷ key ++ tab ∷ header_bytes t) in
    ap (λ (l : List ℕ). path_at (l ++ r)) a ∙ ap (before tab) (append_assoc path (tab ∷ key ++ tab ∷ header_bytes t) r) ∙ e

pub path_of_hull : (bound : ℕ) (l : List ℕ) (h : HullValue) (r : List ℕ) → line_of bound l ≡ Some (Hull h) → (path_at (l ++ r) ≡ part l h.path) × (0 < length (part l h.path))
path_of_hull bound l h r e =
    let path = part l h.path in
    let key = part l h.key in
    let back = hull_written_back bound l h e in
    let is = parts_of_is_path path (good_hull path key h.time back.1).path_is in
    let free = no_tab path (Text_of_every is_path_byte is_text_byte_of_is_path_byte path is.2) in
    (ap (λ (s : List ℕ). path_at (s ++ r)) back.0 ∙ path_at-hull_line path key h.time r (field-append path ((key ++ tab ∷ header_bytes h.time) ++ r) free), is.0)

-- ---- a line of `since`
path_at-since_line : (text : List ℕ) (t : Time) (r : List ℕ) → path_at (since_line text t ++ r) ≡ []
unfolding since_line path_at opens_hull
path_at-since_line text t r = refl

pub path_of_since : (bound : ℕ) (l : List ℕ) (x : SinceValue) (r : List ℕ) → line_of bound l ≡ Some (Since x) → path_at (l ++ r) ≡ []
path_of_since bound l x r e = ap (λ (s : List ℕ). path_at (s ++ r)) (since_written_back bound l x e).0 ∙ path_at-since_line (part l x.text) x.current r

-- ---- a good line l, and the path that is found at its front
module _ (bound : ℕ) (l r : List ℕ) (below : List (List ℕ)) where
  -- a line below has the path p, or this one has
  pub holds_path-cons : is_good (line_of bound l) ≡ true → (p : List ℕ) → 0 < length p → holds_path bound p (l ∷ below) ≡ (same (path_at (l ++ r)) p || holds_path bound p below)
  unfolding holds_path
  holds_path-cons good p some = ap (λ (t : Bool). t || holds_path bound p below) (has_path_is (line_of bound l) refl good)
    where
      same-nil : (q : List ℕ) → 0 < length q → false ≡ same [] q
      same-nil q h = sym (same_of_length [] q (λ e. omega arith))

      has_path_is : (x : Option Line) → line_of bound l ≡ x → is_good x ≡ true → has_path p l x ≡ same (path_at (l ++ r)) p
      has_path_is (Some (Hull h)) e g = ap (λ (q : List ℕ). same q p) (sym (path_of_hull bound l h r e).0)
      has_path_is (Some (Since x)) e g = same-nil p some ∙ ap (λ (q : List ℕ). same q p) (sym (path_of_since bound l x r e))
      has_path_is None e g = absurd (false≢true g)

  -- it is kept if it has no path, and else exactly if no line below has its path
  pub is_kept_no_path : is_good (line_of bound l) ≡ true → length (path_at (l ++ r)) ≡ 0 → is_kept bound l (line_of bound l) below ≡ true
  is_kept_no_path good none = is_kept_is (line_of bound l) refl good
    where
      is_kept_is : (x : Option Line) → line_of bound l ≡ x → is_good x ≡ true → is_kept bound l x below ≡ true
      is_kept_is (Some (Hull h)) e g = let p = path_of_hull bound l h r e in absurd (omega (arith, p.1, ap length p.0))
      is_kept_is (Some (Since x)) e g = refl
      is_kept_is None e g = absurd (false≢true g)

  pub is_kept-path : is_good (line_of bound l) ≡ true → 0 < length (path_at (l ++ r)) → is_kept bound l (line_of bound l) below ≡ not (holds_path bound (path_at (l ++ r)) below)
  is_kept-path good some = is_kept_is (line_of bound l) refl good
    where
      is_kept_is : (x : Option Line) → line_of bound l ≡ x → is_good x ≡ true → is_kept bound l x below ≡ not (holds_path bound (path_at (l ++ r)) below)
      is_kept_is (Some (Hull h)) e g = ap (λ (q : List ℕ). not (holds_path bound q below)) (sym (path_of_hull bound l h r e).0)
      is_kept_is (Some (Since x)) e g = absurd (omega (arith, ap length (path_of_since bound l x r e)))
      is_kept_is None e g = absurd (false≢true g)
