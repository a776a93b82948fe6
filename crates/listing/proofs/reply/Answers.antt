-- `listing::reply` meets its contract: what was read settles the text. Assumes nothing.
use Rattle.std.proofs.Common.{sym, arith}
use Rattle.reader.proofs.ReadModels.{read_model-accepted}
use Rattle.listing.proofs.Replies.{reply-told}
use Rattle.listing.proofs.reply.Goals as goal

pub put_listing-requires : goal.put_listing-requires
put_listing-requires c = (read_model-accepted _ (sym c.in-Ok.ensures.answer), c.if-out-lt-ROOM.false)

pub returns-in-Ok : goal.returns-in-Ok
returns-in-Ok c = reply-told _ _ c.if-out-lt-ROOM.false _ c.in-Ok.ensures.answer _ _ _ c.put_listing.ensures

pub returns-in-Err : goal.returns-in-Err
returns-in-Err c =
    reply-told _ _ c.if-out-lt-ROOM.false _ c.in-Err.ensures.answer _ _ _
    (rw (c.from.ensures, c.number.ensures) at (c.put_line.ensures.fits (omega (arith, c.if-out-lt-ROOM.false))))
