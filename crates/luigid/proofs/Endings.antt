-- What a response that isn't the connection's last leaves, and how long a link was quiet.
use Rattle.std.proofs.Common.{◌≡◌, ℕ, Bool, true, false, ◌||◌, refl, ◌∙◌, ap, cond, Option, Some, None}
use Rattle.lg_http.specs.declared.reader_end.ReaderEnd.{ReaderEnd}
use Rattle.lg_io.specs.Link.{LinkTold, fresh_link}
use Rattle.lg_io.specs.Source.{Received}
use Rattle.luigid.specs.Hearing.{IsQuietFor}

-- the message doesn't close the connection, and so its reader goes on
pub still_open : (closes marked : Bool) (over : Option ReaderEnd) (end : ReaderEnd) → closes || marked ≡ false → over ≡ cond closes (Some end) None → over ≡ None
still_open true marked over end stays is = absurd (cc)
still_open false marked over end stays is = is

-- and the life wasn't over behind it
pub unmarked : (closes marked : Bool) → closes || marked ≡ false → marked ≡ false
unmarked true marked stays = absurd (cc)
unmarked false marked stays = stays

-- a link that tells was quiet so often
pub quiet_told : (told : Option Received) (r : Received) (quiets : ℕ) → told ≡ Some r → IsQuietFor told quiets → r.quiets ≡ quiets
quiet_told None r quiets is quiet = absurd (cc)
quiet_told (Some x) r quiets is quiet = (let same : r ≡ x = cc in ap (λ (y : Received). y.quiets) same ∙ quiet)

-- a fresh link wasn't quiet yet
pub fresh_quiet : (link : LinkTold) → link ≡ fresh_link → IsQuietFor link.received 0
fresh_quiet link fresh = rw fresh refl
