-- `streams::Tool::put_parts` meets its contract: a turn puts one more part.
use Rattle.std.proofs.Common.{sym, subst, take_all}
use Rattle.std.specs.Io.KnownBytes.{Appends}
use Rattle.streams.proofs.Messages.{Appends-trans, message_of-none, message_of-more}
use Rattle.streams.proofs.Tool.put_parts.Goals as goal

pub loop-part-init : goal.loop-part-init
loop-part-init g c =
    subst (Appends (g.O.Write.contents c.args.out.now) (g.O.Write.contents c.write_all-2.new.self)) (sym (message_of-none c.args.self.now.name.now c.args.parts.now))
    (Appends-trans _ _ _ _ _ c.in_ok-write_all.ensures.bytes c.in_ok-write_all-2.ensures.bytes)

pub loop-part-preserved : goal.loop-part-preserved
loop-part-preserved g c =
    subst (Appends _ _) (sym (message_of-more c.args.self.now.name.now c.args.parts.now _ _ c.loop-part-test.true))
    (Appends-trans _ _ _ _ _ c.loop-part.invariant c.in_ok-write_all-3.ensures.bytes)

pub returns : goal.returns
returns g c =
    let e = take_all _ c.args.parts.now c.loop-part-test.false in
    rw e at c.loop-part.invariant
