-- `compact::table::find_in_chain` meets its contract. The invariant: the chain from k on answers as the whole chain does. The measure is k, since a chain goes
-- down.
use mathlib.Core.Path.{◌≡◌, sym, ap, ◌∙◌}
use mathlib.Core.Bool.{true, false, cond}
use mathlib.Core.List.{List}
use Prim.Native.Nat.{ℕ, suc, ◌-◌, ◌≤◌, ◌<◌}
use native.Mathlib.Nat.{le_refl}
use native.Mathlib.Omega.{arith}
use lib.ListN.{drop, get_or}
use Rattle.text.specs.Bytes.{same}
use Rattle.compact.specs.Held.{path_at, number_in}
use Rattle.compact.proofs.Chains.{Down, number_in-most}
use Rattle.compact.proofs.table.find_in_chain.Goals as goal

-- the line of number k, and the chain below it
number_in-step : (book links places path : List ℕ) (k : ℕ) → 0 < k → Down links k
    → number_in book links places path k k
    ≡ cond (same (path_at (drop (get_or places (k - 1) 0) book)) path) k (number_in book links places path (get_or links (k - 1) 0) (get_or links (k - 1) 0))
unfolding number_in
number_in-step book links places path k some down =
    let n = k - 1 in
    let e : k ≡ suc n = omega arith in
    let d : get_or links n 0 ≤ n = down n (omega arith) in
    ap (λ (m : ℕ). number_in book links places path m m) e
    ∙ (λ i. cond (same (path_at (drop (get_or places n 0) book)) path) (sym e i) ((number_in-most book links places path n (get_or links n 0) (get_or links n 0) d (le_refl (get_or links n 0)) (λ j lt. down j (omega arith))) i))

-- the path is that of line k
pub returns-then-same : goal.returns-then-same
returns-then-same c =
    let same-is : true ≡ same (path_at (drop (get_or c.args.places.now (c.loop-k.k - 1) 0) c.args.book.now)) c.args.path.now =
    sym c.if-same.true ∙ c.same.ensures
    ∙ ap (λ (q : List ℕ). same q c.args.path.now) (c.path_at-other.ensures ∙ ap path_at (c.from-in-loop-k.ensures ∙ ap (λ (n : ℕ). drop n c.args.book.now) c.from.ensures)) in
    sym (c.loop-k.invariant.1 ∙ number_in-step _ _ _ _ c.loop-k.k c.loop-k-test.true (λ j lt. c.requires.2 j (omega (arith, c.loop-k.invariant.0))) ∙ rw (← same-is))

pub loop-k-preserved : goal.loop-k-preserved
loop-k-preserved c =
    let k = c.loop-k.k in
    let some : 0 < k = c.loop-k-test.true in
    let same-is : same (path_at (drop (get_or c.args.places.now (k - 1) 0) c.args.book.now)) c.args.path.now ≡ false =
    sym (c.same.ensures ∙ ap (λ (q : List ℕ). same q c.args.path.now) (c.path_at-other.ensures ∙ ap path_at (c.from-in-loop-k.ensures ∙ ap (λ (n : ℕ). drop n c.args.book.now) c.from.ensures))) ∙ c.if-same.false in (
      omega (arith, c.requires.2 (k - 1) (omega (arith, c.loop-k.invariant.0)), c.loop-k.invariant.0, c.from-k-in-loop-k.ensures),
      c.loop-k.invariant.1 ∙ number_in-step _ _ _ _ k some (λ j lt. c.requires.2 j (omega (arith, c.loop-k.invariant.0))) ∙ rw same-is
          (ap (λ (m : ℕ). number_in c.args.book.now c.args.links.now c.args.places.now c.args.path.now m m) (sym c.from-k-in-loop-k.ensures)),
    )

pub returns : goal.returns
unfolding number_in
returns c =
    let z : c.loop-k.k ≡ 0 = omega (arith, c.loop-k-test.false) in
    sym (c.loop-k.invariant.1 ∙ ap (λ (m : ℕ). number_in c.args.book.now c.args.links.now c.args.places.now c.args.path.now m m) z)
