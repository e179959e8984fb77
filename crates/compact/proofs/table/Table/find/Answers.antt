-- `compact::table::Table::find` meets its contract.
use mathlib.Core.Path.{sym, ap, ◌∙◌}
use Prim.Native.Nat.{ℕ}
use native.Mathlib.Omega.{arith}
use lib.ListN.{get_or}
use Rattle.compact.specs.Held.{number_in}
use Rattle.compact.proofs.table.Table.find.Goals as goal

-- the chain begins with a line that is kept
pub find_in_chain-requires : goal.find_in_chain-requires
find_in_chain-requires c =
    let bucket = c.bucket_of.result in
    let table = c.requires.1 in
    (omega (arith, table.heads_le bucket, table.few, table.link_places, table.place_places), table.link_places ∙ sym table.place_places, λ k lt. table.down k (omega (arith, table.heads_le bucket)))

pub returns : goal.returns
returns c =
    let chain : ℕ → ℕ = λ b. let first = get_or c.args.self.now.heads b 0 in
    number_in c.args.book.now c.args.self.now.links c.args.self.now.places c.args.path.now first first in
    c.find_in_chain.ensures ∙ ap chain c.bucket_of.ensures.0
