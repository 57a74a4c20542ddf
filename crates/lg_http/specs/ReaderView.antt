-- What a reader of messages holds. This project's own.
use Rattle.std.specs.Prelude.{ℕ, List, Option}
use Rattle.lg_http.specs.declared.reader_end.ReaderEnd.{ReaderEnd}

-- the bytes that it received and didn't give out in a message, how often the source was quiet since the last byte, and
-- why it gives no more, once it doesn't
pub record ReaderView : Type 0 where
  pub left : List ℕ
  pub quiets : ℕ
  pub over : Option ReaderEnd
