-- `header::walk::look_through` meets its contract. The invariant: what was found so far and what is left give the
-- answer for the whole.
use mathlib.Core.Path.{refl, sym, ap, ◌∙◌}
use mathlib.Core.Bool.{Bool, ◌&&◌, ◌||◌, and-true, or-false, and_assoc, or_assoc}
use Rattle.text.proofs.Plain.{ascii-drop-cons, ascii-drop-nil}
use Rattle.text.proofs.Runs.{has_drop-cons, has_drop-nil}
use Rattle.header.proofs.walk.look_through.Goals as goal

pub loop-i-preserved : goal.loop-i-preserved
loop-i-preserved c =
    let l = c.loop-i in (
      rw c.is_ascii-ascii.ensures (l.invariant.0 ∙ ap (λ (x : Bool). l.ascii && x) (ascii-drop-cons _ _ c.loop-i-test.true)) ∙ sym (and_assoc l.ascii _ _),
      l.invariant.1 ∙ ap (λ (x : Bool). l.colon || x) (has_drop-cons 58 _ _ c.loop-i-test.true) ∙ sym (or_assoc l.colon _ _),
    )

pub returns : goal.returns
returns c =
    let l = c.loop-i in record {
      ascii_value = sym (l.invariant.0 ∙ ap (λ (x : Bool). l.ascii && x) (ascii-drop-nil _ _ c.loop-i-test.false) ∙ and-true l.ascii);
      colon_value = sym (l.invariant.1 ∙ ap (λ (x : Bool). l.colon || x) (has_drop-nil 58 _ _ c.loop-i-test.false) ∙ or-false l.colon);
    }

pub loop-i-init : goal.loop-i-init
loop-i-init c = (refl, refl)
