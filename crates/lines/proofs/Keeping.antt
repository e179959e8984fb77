-- The start of a line, moved to the front of its buffer: how many bytes are kept, and what the buffer is then.
-- Assumes nothing.
use mathlib.Core.Path.{◌≡◌, ap, ◌∙◌}
use mathlib.Core.List.{List, ◌++◌}
use Prim.Native.Nat.{ℕ, ◌-◌, min}
use lib.ListN.{length, take, drop, length-take, length-drop}
use Rattle.text.proofs.Lists.{take-length-take-take}
use Rattle.lines.specs.Lines.{held_part, max_kept, kept}

module _ (from end : ℕ) (was : List ℕ) where
  pub length-kept : length (kept (held_part was from end)) ≡ min max_kept (min (end - from) (length was - from))
  length-kept =
      length-take max_kept (held_part was from end) ∙ ap (min max_kept) (length-take (end - from) (drop from was) ∙ ap (min (end - from)) (length-drop from was))

  -- n bytes are moved, as many as are kept
  pub kept_is : {n : ℕ} → n ≡ length (kept (held_part was from end)) → take n (drop from was) ++ drop n was ≡ kept (held_part was from end) ++ drop n was
  kept_is {n} e =
      ap (λ (t : List ℕ). t ++ drop n was) (ap (λ (v : ℕ). take v (drop from was)) e ∙ take-length-take-take max_kept (end - from) (drop from was))
