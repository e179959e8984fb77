-- `text::places::first_place` meets its contract: `position` finds the first place, and the length stands for none.
use Rattle.std.proofs.Common.{◌≡◌, ◌≤◌, ℕ, length, rules, tests, ap, ◌∙◌, cond, arith}
use Rattle.std.specs.Prelude.{Some, None, nat_eq}
use Rattle.std.specs.Option.{unwrap_or}
use Rattle.std.specs.List.{position_or_len}
use Rattle.std.proofs.lemmas.Iterator.{YieldsList-from_slice}
use Rattle.std.proofs.lemmas.Iterator.Search.{position_from_yields_List}
use borrow.Author.Tests.{ltb-false}
use lib.Dec.{ltb}
use Rattle.text.specs.Places.{first_place}
use Rattle.text.proofs.Lists.{by_test}
use Rattle.text.proofs.Library.{first_place_is, first_place_le}
use Rattle.text.proofs.places.first_place.Goals as goal

or_length : (m n : ℕ) → m ≤ n → unwrap_or (cond (ltb m n) (Some m) None) n ≡ m
or_length m n h = by_test (ltb m n) (λ e. rw e) (λ e. rw e (omega (arith, ltb-false m n e)))

pub returns : goal.returns
returns c =
    let b = c.args.b in
    let s = c.args.s.now in
    let found : c.position.result ≡ cond (ltb (position_or_len (λ x. nat_eq x b) s) (length s)) (Some (position_or_len (λ x. nat_eq x b) s)) None =
    position_from_yields_List (λ x. nat_eq x b) _ _ c.position.result c.position.ensures.ran (YieldsList-from_slice s c.iter.ensures.rest) (λ x b q k. search (rules, tests)) in
    let e : c.unwrap_or.result ≡ first_place b s =
    c.unwrap_or.ensures ∙ ap (λ r. unwrap_or r (length s)) found ∙ or_length _ _ (rw (first_place_is b s) (first_place_le b s)) ∙ first_place_is b s in
    (e, rw e (first_place_le b s))
