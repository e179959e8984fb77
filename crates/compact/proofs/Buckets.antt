-- Buckets of paths: a number of 32 bits stays one, and a bucket is one of 2,049.
-- Assumes nothing.
use mathlib.Core.List.{List, [], ◌∷◌}
use Prim.Native.Nat.{ℕ, ◌+◌, ◌*◌, ◌%◌, ◌<◌}
use native.Mathlib.Omega.{arith}
use Rattle.compact.specs.Held.{mixed, bucket_of}

pub mixed-lt : (h : ℕ) (s : List ℕ) → h < 4294967296 → mixed h s < 4294967296
unfolding mixed
mixed-lt h [] lt = lt
mixed-lt h (b ∷ s) lt = mixed-lt ((h + b) * 2654435761 % 4294967296) s (omega arith)

pub bucket_of-lt : (p : List ℕ) → bucket_of p < 2049
unfolding bucket_of
bucket_of-lt [] = omega arith
bucket_of-lt (b ∷ p) = omega (arith, mixed-lt 0 (b ∷ p) (omega arith))
