-- `header::walk::read_words` meets its contract: its places are those of the law. The bytes before the last of them are ASCII and
-- hold no `:`, so the bytes from there on decide for the whole text.
use mathlib.Core.Path.{◌≡◌, sym, ◌∙◌}
use mathlib.Core.Bool.{Bool}
use mathlib.Core.List.{List}
use Prim.Native.Nat.{ℕ}
use lib.ListN.{drop}
use Rattle.text.specs.Bytes.{ascii}
use Rattle.text.specs.Places.{has}
use Rattle.text.specs.declared.number.LeadingInteger.{LeadingInteger}
use Rattle.header.specs.Held.{LeadsWithNumber}
use Rattle.header.proofs.Pass.{third, ascii_kept, has_kept, FirstWords_of_pass}
use Rattle.std.proofs.lemmas.Bool.{not-true, not-false}
use Rattle.header.proofs.walk.read_words.Goals as goal

-- what is found from the last place on decides for the whole text
module _ (s : List ℕ) (r : LeadingInteger) (l : LeadsWithNumber s r) {at : ℕ} (at-is : at ≡ third s r.end) {found : Bool} where
  ascii_is : found ≡ ascii (drop at s) → ascii s ≡ found
  ascii_is e = ascii_kept s r l ∙ rw (← at-is) (sym e)

  colon_is : found ≡ has 58 (drop at s) → found ≡ has 58 s
  colon_is e = e ∙ rw at-is (sym (has_kept s r l))

pub returns : goal.returns
returns c =
    let at-is : c.past-third.result ≡ third c.args.s.now c.args.opening.end = rw (c.past-third.ensures, c.past-second_end.ensures, c.past-second.ensures, c.past-first_end.ensures) in
    let a = ascii_is c.args.s.now c.args.opening c.requires at-is c.look_through-rest.ensures.ascii_value ∙ not-false _ c.if-not-rest.false in (
      a,
      rw (
        c.only_bounds-offset_word.ensures,
        c.number_in-number.ensures,
        c.ends_at-whole.ensures,
        colon_is c.args.s.now c.args.opening c.requires at-is c.look_through-rest.ensures.colon_value,
        at-is,
        c.past-second_end.ensures,
        c.past-second.ensures,
        c.past-first_end.ensures,
      ) (FirstWords_of_pass _ _ c.requires a),
    )

-- a byte of 128 or more
pub returns-then-not-rest : goal.returns-then-not-rest
returns-then-not-rest c =
    let at-is : c.past-third.result ≡ third c.args.s.now c.args.opening.end = rw (c.past-third.ensures, c.past-second_end.ensures, c.past-second.ensures, c.past-first_end.ensures) in
    ascii_is c.args.s.now c.args.opening c.requires at-is c.look_through-rest.ensures.ascii_value ∙ not-true _ c.if-not-rest.true
