-- `stampmerge::messages::put_message` meets its contract: a name has at most 4,096 bytes, and what is wrong at most 51.
use mathlib.Core.Path.{◌≡◌, ap, ◌∙◌}
use mathlib.Core.List.{List}
use Prim.Native.Nat.{ℕ, ◌≤◌}
use native.Mathlib.Nat.{min-le_left}
use native.Mathlib.Omega.{arith}
use lib.ListN.{length, length-take, take}
use lib.Seq.{drop-length}
use Rattle.text.specs.Quote.{bytes}
use Rattle.streams.specs.Names.{name_of}
use Rattle.stampmerge.proofs.Putting.{message_put}
use borrow.Author.Rules.{rules}
use Rattle.stampmerge.proofs.messages.put_message.Goals as goal

length-take-le-4096 : (s : List ℕ) → length (take 4096 s) ≤ 4096
length-take-le-4096 s = omega (arith, length-take 4096 s, min-le_left 4096 (length s))

-- a name that was cut
pub put_text-requires : goal.put_text-requires
put_text-requires c =
    let name : length c.up_to.result.now ≤ 4096 = omega (arith, ap length c.up_to.ensures, length-take-le-4096 c.name_of-name.result.now) in
    let e = c.put_fault-at.ensures.upper_bound in
    (omega (arith, name, e, c.requires), search rules)

pub returns : goal.returns
returns c =
    let name : c.up_to.result.now ≡ take 4096 (name_of (bytes "standard input") c.path_of.result.now) = c.up_to.ensures ∙ ap (take 4096) c.name_of-name.ensures in
    message_put c.args.error.machine c.args.error.fault c.args.first.now c.args.second.now _ _ _ _
    (name ∙ ap (λ (p : List ℕ). take 4096 (name_of (bytes "standard input") p)) c.path_of.ensures) (drop-length c.args.room.now)
    c.put_fault-at.ensures.room_after c.put_text.ensures.room_after
