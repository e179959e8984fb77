-- Fields, with tabs between them. In order: a text cut at its first tab, and two texts with a tab between; texts whose bytes are
-- of one class; the first field of a line in front of a newline; the field that begins at a place of a text, and the line that
-- goes on behind it; a field that is a number, and such a field at the end of a line.
-- Assumes nothing.
use Rattle.std.specs.Prelude.{None, Option}
use mathlib.Core.Path.{◌≡◌, refl, sym, ap, ◌∙◌}
use mathlib.Core.Bool.{Bool, true, false, not, ◌&&◌, false≢true}
use mathlib.Core.List.{List, [], ◌∷◌, ◌++◌}
use Prim.Native.Char.{code}
use Prim.Native.Nat.{ℕ, suc, ◌+◌, ◌-◌, ◌≤◌, ◌<◌}
use native.Mathlib.Omega.{arith}
use native.Mathlib.Numerals.{add-one}
use borrow.Author.Tests.{eqb-true, ltb-true, ltb-false, lt-ltb, leb-true, ne_eqb}
use lib.Dec.{leb, ltb, eqb}
use lib.ListN.{length, get_or, take, drop, length-drop, drop_of_length-le}
use lib.Seq.{take-nil, drop-nil, drop-cons, drop-drop, length-take-le}
use Rattle.text.specs.Bytes.{is_digit, is_sign}
use Rattle.text.specs.Places.{run, leading, past, first_place, before, has, opens_with}
use Rattle.text.specs.Lines.{tab, newline, field, rest}
use Rattle.text.specs.Number.{numeral}
use Rattle.text.proofs.Lists.{by_test, both}
use Rattle.text.proofs.Runs.{has_nil, run-le-length, run_drop, run-le-run, run_leading, length-leading}
use Rattle.text.proofs.FirstPlaces.{Free}
use Rattle.text.proofs.Texts.{not_has_cons}
use Rattle.text.proofs.Numbers.{digit_range, numeral-le-run, numeral_leading}
use Rattle.stamps.specs.Lines.{every, is_path_byte, is_hex_digit}
use Rattle.stamps.specs.Held.{is_text_byte, ends_here, part_from, left_at, first_at, first_from}
use Rattle.stamps.specs.declared.line.Line.{Line}
use Rattle.stamps.specs.declared.line.First.{First}

-- ---- a text cut at its first b, and at its first tab
pub first_place-le-length : (b : ℕ) (s : List ℕ) → first_place b s ≤ length s
unfolding first_place
first_place-le-length b s = run-le-length (λ x. not (eqb x b)) s

pub length_before : (b : ℕ) (s : List ℕ) → length (before b s) ≡ first_place b s
length_before b s = length-take-le (first_place b s) s (first_place-le-length b s)

pub has_before : (b : ℕ) (s : List ℕ) → has b (before b s) ≡ false
unfolding first_place run
has_before b [] = has_nil b
has_before b (x ∷ s) = by_test (eqb x b) (λ e. rw e (has_nil b)) (λ e. rw e (not_has_cons b x _ e (has_before b s)))

pub field-nil : field [] ≡ []
field-nil = take-nil (first_place tab [])

pub rest-nil : rest [] ≡ []
rest-nil = drop-nil (first_place tab [] + 1)

pub field-append : (p r : List ℕ) → Free tab p → field (p ++ tab ∷ r) ≡ p
unfolding first_place run
field-append [] r f = refl
field-append (b ∷ p) r f = rw f.0 (ap (λ (t : List ℕ). b ∷ t) (field-append p r f.1))

pub rest-append : (p r : List ℕ) → Free tab p → rest (p ++ tab ∷ r) ≡ r
unfolding first_place run
rest-append [] r f = refl
rest-append (b ∷ p) r f = rw (f.0, add-one) (rw add-one at (rest-append p r f.1))

pub field_rest : (s : List ℕ) → has tab s ≡ true → s ≡ field s ++ tab ∷ rest s
unfolding has first_place run
field_rest s h = go s (ltb-true _ _ h)
  where
    go : (s : List ℕ) → first_place tab s < length s → s ≡ field s ++ tab ∷ rest s
    go [] h = absurd (omega arith)
    go (b ∷ s) h =
        by_test (eqb b tab) (λ e. rw e (ap (λ (x : ℕ). x ∷ s) (eqb-true b tab e)))
        (λ e. rw (e, add-one) (ap (λ (t : List ℕ). b ∷ t) (rw add-one at (go s (omega (arith, rw e at h))))))

-- what follows the tab is empty if there is none
pub has_of_rest : (s : List ℕ) → 0 < length (rest s) → has tab s ≡ true
unfolding has
has_of_rest s h = lt-ltb (first_place tab s) (length s) (omega (arith, length-drop (first_place tab s + 1) s))

-- ---- texts whose bytes are of one class
pub every_leading : (p : ℕ → Bool) (s : List ℕ) → every p (leading p s) ≡ true
unfolding every run
every_leading p [] = refl
every_leading p (b ∷ s) = by_test (p b) (λ e. rw (e, e) (every_leading p s)) (λ e. rw e)

pub run_of_every : (p : ℕ → Bool) (s : List ℕ) → every p s ≡ true → run p s ≡ length s
unfolding every run
run_of_every p [] e = refl
run_of_every p (b ∷ s) e = let k = both (p b) (every p s) e in rw k.0 (ap suc (run_of_every p s k.1))

-- the bytes of a path, of a key and of a number are bytes of a text
is_text_byte_of_lt : (b : ℕ) → newline < b → is_text_byte b ≡ true
unfolding is_text_byte
is_text_byte_of_lt b h = rw (ne_eqb b tab (λ e. omega arith), ne_eqb b newline (λ e. omega arith))

pub is_text_byte_of_is_path_byte : (b : ℕ) → is_path_byte b ≡ true → is_text_byte b ≡ true
unfolding is_path_byte
is_text_byte_of_is_path_byte b e = is_text_byte_of_lt b (omega (arith, leb-true 32 b (both (leb 32 b) (leb b 126) e).0))

is_text_byte_of_is_digit : (b : ℕ) → is_digit b ≡ true → is_text_byte b ≡ true
is_text_byte_of_is_digit b e = is_text_byte_of_lt b (omega (arith, (digit_range b e).0))

pub is_text_byte_of_is_hex_digit : (b : ℕ) → is_hex_digit b ≡ true → is_text_byte b ≡ true
unfolding is_hex_digit
is_text_byte_of_is_hex_digit b =
    by_test (is_digit b) (λ d e. is_text_byte_of_is_digit b d)
    (λ d e. is_text_byte_of_lt b (omega (arith, leb-true (code "a") b (both (leb (code "a") b) (leb b (code "f")) (rw d at e)).0)))

is_text_byte_of_is_sign : (b : ℕ) → is_sign b ≡ true → is_text_byte b ≡ true
unfolding is_sign
is_text_byte_of_is_sign b =
    by_test (eqb b (code "+")) (λ d e. is_text_byte_of_lt b (omega (arith, eqb-true b (code "+") d)))
    (λ d e. is_text_byte_of_lt b (omega (arith, eqb-true b (code "-") (rw d at e))))

-- ---- the first field of the first line of a text
-- it ends at the first tab or newline
pub field_before-leading : (s : List ℕ) → field (before newline s) ≡ leading is_text_byte s
unfolding first_place run is_text_byte
field_before-leading [] = refl
field_before-leading (b ∷ s) =
    by_test (eqb b newline) (λ e. by_test (eqb b tab) (λ d. rw (e, d)) (λ d. rw (e, d)))
    (λ e. by_test (eqb b tab) (λ d. rw (e, d)) (λ d. rw (e, d) (ap (λ (t : List ℕ). b ∷ t) (field_before-leading s))))

-- if a tab is there, the line goes on behind it
rest_before : (s : List ℕ) → opens_with tab (drop (run is_text_byte s) s) ≡ true → rest (before newline s) ≡ before newline (drop (suc (run is_text_byte s)) s)
unfolding first_place run is_text_byte
rest_before [] h = refl
rest_before (b ∷ s) h =
    by_test (eqb b tab) (λ d. rw (add-one, eqb-true b tab d))
    (λ d. by_test (eqb b newline) (λ e. absurd (false≢true (rw (d, e, d) at h))) (λ e. rw (e, d, add-one) (rw add-one at (rest_before s (rw (d, e) at h)))))

first_place-before : (s : List ℕ) → opens_with tab (drop (run is_text_byte s) s) ≡ true → first_place newline s ≡ suc (run is_text_byte s) + first_place newline (drop (suc (run is_text_byte s)) s)
unfolding first_place run is_text_byte
first_place-before [] h = absurd (false≢true h)
first_place-before (b ∷ s) h =
    by_test (eqb b tab) (λ d. rw (eqb-true b tab d) (omega arith))
    (λ d. by_test (eqb b newline) (λ e. absurd (false≢true (rw (d, e, d) at h))) (λ e. rw (e, d) (omega (arith, first_place-before s (rw (d, e) at h)))))

-- if none is there, nothing follows
pub rest_before-nil : (s : List ℕ) → opens_with tab (drop (run is_text_byte s) s) ≡ false → rest (before newline s) ≡ []
unfolding first_place run is_text_byte
rest_before-nil [] h = refl
rest_before-nil (b ∷ s) h =
    by_test (eqb b tab) (λ d. absurd (false≢true (sym (rw (d, d) at h))))
    (λ d. by_test (eqb b newline) (λ e. rw e) (λ e. rw (e, d, add-one) (rw add-one at (rest_before-nil s (rw (d, e) at h)))))

-- ---- the bytes before a newline
abbrev no_newline : ℕ → Bool
no_newline b = not (eqb b newline)

no_newline_of_is_text_byte : (b : ℕ) → is_text_byte b ≡ true → no_newline b ≡ true
unfolding is_text_byte
no_newline_of_is_text_byte b e = (both (not (eqb b tab)) (not (eqb b newline)) e).1

no_newline_of_is_sign : (b : ℕ) → is_sign b ≡ true → no_newline b ≡ true
no_newline_of_is_sign b e = no_newline_of_is_text_byte b (is_text_byte_of_is_sign b e)

no_newline_of_is_digit : (b : ℕ) → is_digit b ≡ true → no_newline b ≡ true
no_newline_of_is_digit b e = no_newline_of_is_text_byte b (is_text_byte_of_is_digit b e)

run_of_ends_here : (s : List ℕ) → ends_here s ≡ true → run no_newline s ≡ 0
unfolding run ends_here
run_of_ends_here [] e = refl
run_of_ends_here (b ∷ s) e = rw e

run_of_not-ends_here : (s : List ℕ) → ends_here s ≡ false → 0 < run no_newline s
unfolding run ends_here
run_of_not-ends_here [] e = absurd (false≢true (sym e))
run_of_not-ends_here (b ∷ s) e = rw e (omega arith)

-- ---- a field that begins at a place
pub opens_with-drop : (b : ℕ) (s : List ℕ) (i : ℕ) → opens_with b (drop i s) ≡ (ltb i (length s) && eqb (get_or s i 0) b)
opens_with-drop b s i =
    by_test (ltb i (length s)) (λ e. rw (e, drop-cons s i 0 (ltb-true i (length s) e)))
    (λ e. rw (e, drop_of_length-le s (ltb-false i (length s) e)))

pub lt-length_of_opens_with : (b : ℕ) (s : List ℕ) (i : ℕ) → opens_with b (drop i s) ≡ true → i < length s
lt-length_of_opens_with b s i h = ltb-true i (length s) (both (ltb i (length s)) (eqb (get_or s i 0) b) (sym (opens_with-drop b s i) ∙ h)).0

-- bytes of a class, and then a tab, which is not of the class: these bytes are the run
run_of_tab : (q : ℕ → Bool) → q tab ≡ false → (n : ℕ) (s : List ℕ) → n ≤ run q s → opens_with tab (drop n s) ≡ true → run q s ≡ n
unfolding run
run_of_tab q out n s h o = omega (arith, run_drop q n s h, none (drop n s) o)
  where
    none : (t : List ℕ) → opens_with tab t ≡ true → run q t ≡ 0
    none [] e = refl
    none (b ∷ t) e = rw (eqb-true b tab e, out)

-- the field from `at` on ends with the tab at e
pub record FieldEnds (s : List ℕ) (at e : ℕ) : Type 0 where
  pub field_is : field (left_at s at) ≡ part_from s at e
  pub rest_is : rest (left_at s at) ≡ left_at s (e + 1)
  pub line_is : at + first_place newline (drop at s) ≡ e + 1 + first_place newline (drop (e + 1) s)

-- a line that goes on behind that tab, and a bad line
pub ends_behind : {s : List ℕ} {at e : ℕ} {line behind : Option Line} {r : Option First} → FieldEnds s at e → line ≡ behind → r ≡ first_from s (e + 1) behind → r ≡ first_from s at line
ends_behind f e h = h ∙ λ i. first_at (sym f.line_is i) (sym e i)

pub ends_bad : (s : List ℕ) (at : ℕ) {line : Option Line} → line ≡ None → None ≡ first_from s at line
ends_bad s at e = sym (ap (first_from s at) e)

module _ (s : List ℕ) (at : ℕ) where
  pub field_ends : (n : ℕ) → n ≤ run is_text_byte (drop at s) → opens_with tab (drop (at + n) s) ≡ true → FieldEnds s at (at + n)
  unfolding is_text_byte
  field_ends n h t =
      let d = drop at s in
      let r : run is_text_byte d ≡ n = run_of_tab is_text_byte refl n d h (ap (opens_with tab) (drop-drop n at s) ∙ t) in
      let o : opens_with tab (drop (run is_text_byte d) d) ≡ true = ap (λ (v : ℕ). opens_with tab (drop v d)) r ∙ ap (opens_with tab) (drop-drop n at s) ∙ t in
      let k : at + suc (run is_text_byte d) ≡ at + n + 1 = omega arith in
      let w : drop (suc (run is_text_byte d)) d ≡ drop (at + n + 1) s = drop-drop (suc (run is_text_byte d)) at s ∙ ap (λ (v : ℕ). drop v s) k in
      let c : run is_text_byte d ≡ at + n - at = omega arith in
      record {
        field_is = field_before-leading d ∙ ap (λ (v : ℕ). take v d) c;
        rest_is = rest_before d o ∙ ap (λ (v : List ℕ). before newline v) w;
        line_is = omega (arith, first_place-before d o, ap (first_place newline) w);
      }

  -- of bytes of a class, which has only bytes of a text
  module _ (p : ℕ → Bool) (inside : (b : ℕ) → p b ≡ true → is_text_byte b ≡ true) where
    pub field_ends_past : opens_with tab (drop (past p s at) s) ≡ true → FieldEnds s at (past p s at)
    unfolding past
    field_ends_past t = field_ends (run p (drop at s)) (run-le-run p is_text_byte inside (drop at s)) t

    part_from-past : part_from s at (past p s at) ≡ leading p (drop at s)
    unfolding past
    part_from-past = let k : at + run p (drop at s) - at ≡ run p (drop at s) = omega arith in rw k

    pub every-part_from : every p (part_from s at (past p s at)) ≡ true
    every-part_from = ap (every p) part_from-past ∙ every_leading p (drop at s)

    pub length-part_from : at + length (part_from s at (past p s at)) ≡ past p s at
    length-part_from = ap (λ (v : List ℕ). at + length v) part_from-past ∙ length-leading p s at

    -- if the field is of such bytes alone, the bytes of the class are the field
    run_of_every_field : every p (field (left_at s at)) ≡ true → run p (drop at s) ≡ run is_text_byte (drop at s)
    run_of_every_field e =
        let d = drop at s in
        let f : every p (leading is_text_byte d) ≡ true = ap (every p) (sym (field_before-leading d)) ∙ e in
        sym (run_leading p is_text_byte inside d) ∙ run_of_every p (leading is_text_byte d) f ∙ length-take-le (run is_text_byte d) d (run-le-length is_text_byte d)

    pub past_of_every : every p (field (left_at s at)) ≡ true → at + length (field (left_at s at)) ≡ past p s at
    unfolding past
    past_of_every e =
        let d = drop at s in
        omega (arith, run_of_every_field e, ap length (field_before-leading d), length-take-le (run is_text_byte d) d (run-le-length is_text_byte d))

    pub rest-nil_of_every : every p (field (left_at s at)) ≡ true → opens_with tab (drop (past p s at) s) ≡ false → rest (left_at s at) ≡ []
    unfolding past
    rest-nil_of_every e o =
        let d = drop at s in
        rest_before-nil d (ap (λ (v : ℕ). opens_with tab (drop v d)) (sym (run_of_every_field e)) ∙ ap (opens_with tab) (drop-drop (run p d) at s) ∙ o)

  pub every_field : every is_text_byte (field (left_at s at)) ≡ true
  every_field = ap (every is_text_byte) (field_before-leading (drop at s)) ∙ every_leading is_text_byte (drop at s)

  -- of a number: if no tab follows its sign and digits, the field holds another byte, or it is the last
  pub field_ends_numeral : opens_with tab (drop (at + numeral (drop at s)) s) ≡ true → FieldEnds s at (at + numeral (drop at s))
  field_ends_numeral t = field_ends (numeral (drop at s)) (numeral-le-run is_text_byte is_text_byte_of_is_sign is_text_byte_of_is_digit (drop at s)) t

  pub rest-nil_of_numeral : opens_with tab (drop (at + numeral (drop at s)) s) ≡ false → length (field (left_at s at)) ≤ numeral (field (left_at s at)) → rest (left_at s at) ≡ []
  rest-nil_of_numeral o h =
      let d = drop at s in
      let n : run is_text_byte d ≡ numeral d =
      omega (
        arith,
        h,
        ap length (field_before-leading d),
        length-take-le (run is_text_byte d) d (run-le-length is_text_byte d),
        ap numeral (field_before-leading d),
        numeral_leading is_text_byte is_text_byte_of_is_sign is_text_byte_of_is_digit d,
        numeral-le-run is_text_byte is_text_byte_of_is_sign is_text_byte_of_is_digit d,
      )
      in
      rest_before-nil d (ap (λ (v : ℕ). opens_with tab (drop v d)) n ∙ ap (opens_with tab) (drop-drop (numeral d) at s) ∙ o)

  -- ---- the last field
  -- a number: the line ends behind its sign and digits, or the field holds another byte
  pub first_place_of_numeral : ends_here (drop (at + numeral (drop at s)) s) ≡ true → first_place newline (drop at s) ≡ numeral (drop at s)
  unfolding first_place
  first_place_of_numeral e =
      let d = drop at s in
      let n = numeral d in
      omega (arith, run_drop no_newline n d (numeral-le-run no_newline no_newline_of_is_sign no_newline_of_is_digit d), run_of_ends_here (drop n d) (ap ends_here (drop-drop n at s) ∙ e))

  pub numeral-last : ends_here (drop (at + numeral (drop at s)) s) ≡ false → numeral (left_at s at) < length (left_at s at)
  unfolding first_place
  numeral-last e =
      let d = drop at s in
      let n = numeral d in
      omega (
        arith,
        run_drop no_newline n d (numeral-le-run no_newline no_newline_of_is_sign no_newline_of_is_digit d),
        run_of_not-ends_here (drop n d) (ap ends_here (drop-drop n at s) ∙ e),
        numeral_leading no_newline no_newline_of_is_sign no_newline_of_is_digit d,
        length-take-le (run no_newline d) d (run-le-length no_newline d),
      )
