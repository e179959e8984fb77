-- `time::Time::size` meets its contract.
use mathlib.Core.Path.{ap, ◌∙◌}
use Prim.Native.Nat.{ℕ, ◌+◌}
use native.Mathlib.Omega.{arith}
use mir.Syntax.{w64}
use mir.ValLaws.{to_z-of_z}
use Rattle.time.specs.Header.{size_of}
use Rattle.time.proofs.Time.size.Goals as goal

pub returns : goal.returns
unfolding size_of
returns c =
    let w = c.signed_width.ensures in
    let z = to_z-of_z w64 c.args.self.seconds (record { sfits = omega arith }) in
    (ap (λ (n : ℕ). n + 6) w.0 ∙ ap size_of z, omega (arith, w.2), omega (arith, w.1))
