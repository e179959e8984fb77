-- What `streams::Tool::put_parts` keeps: the start of the message and the parts before the next one were put behind what the writer held.
use Rattle.std.proofs.Common.{take}
use Rattle.std.specs.Io.KnownBytes.{Appends}
use Rattle.streams.specs.Names.{message_of}
use Rattle.streams.proofs.Tool.put_parts.Given as goal

abbrev pub invariant-loop-part : goal.invariant-loop-part
invariant-loop-part g l = Appends (g.O.Write.contents l.fn.out) (g.O.Write.contents l.out) (message_of l.self.name.now (take l.part-index l.parts))
