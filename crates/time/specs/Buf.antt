-- `TimeBuf`: 26 bytes, and how many of them the last time written took.
-- Assumes nothing.
use Rattle.std.specs.Prelude.{ℕ, Err, Ok, Result}
use Rattle.text.specs.Room.{room_after}
use Rattle.time.specs.Answers.{is_written}
use Rattle.time.specs.Header.{header_bytes, header_written}
use Rattle.time.specs.declared.Time.{Time}
use Rattle.time.specs.declared.buf.TimeBuf.{TimeBuf}
use Rattle.time.specs.declared.Refusal.{Refusal}

-- a time's header from the front on, the bytes beyond it as they were; on refusal the buffer is as it was
abbrev pub end_after : Result ℕ Refusal → ℕ → ℕ
end_after (Ok n) end = n
end_after (Err r) end = end

abbrev pub buf_after : Time → TimeBuf → TimeBuf
buf_after t b =
    let w = header_written t b.bytes in
    record { bytes = room_after (is_written w) (header_bytes t) b.bytes; end = end_after w b.end }
